-- Choices and loops over whole statements. That these pass over braces is a law of `loop_tree`; it is used here, and no
-- proof above names `exits`.
use Rattle.std.proofs.Common.{◌≡◌, true, List, [], ◌∷◌, ◌++◌, refl, ap, ◌∙◌, append_assoc, ℤ, pos, if◌then◌else◌}
use Rattle.std.specs.Prelude.{int_lt, ◌+ℤ◌, ◌-ℤ◌, int_le}
use Rattle.std.specs.Int.{w64, int_wrap}
use Rattle.loop_tree.specs.declared.tree.CodeLine.{CodeLine}
use Rattle.loop_tree.specs.declared.tree.CodeLine.TheVariants as code
use Rattle.loop_tree.specs.declared.tree.Stmt.{Stmt}
use Rattle.loop_tree.specs.Lines.{flats}
use Rattle.loop_tree.specs.State.{Brace, Choice, Upward, Downward, Forever}
use Rattle.loop_tree.specs.Values.{number_at, holds}
use Rattle.a95_base.specs.Lists.{rest_of}
use Rattle.loop_tree.proofs.Bodies.{flats-append}
use Rattle.loop_tree.specs.Machine.{step, step_at, do_line, row_line, control_line, break_line, continue_line, if_line, else_line}
use Rattle.loop_tree.specs.Machine.{for_up_line, for_down_line, forever_line, close_line, exits, loop_end, Place, first_exit}
use Rattle.loop_tree.specs.Machine.{skip_choice, quiet, turn}
use Rattle.loop_tree.proofs.Balanced.{exits-flats, exits-body, exits-branch, behind-body}
use Rattle.loop_tree.proofs.Trees.{flat-Row, flat-If, flat-IfElse, flat-ForUp, flat-ForDown, flat-Forever}
use Rattle.loop_laws.specs.At.{at, value_of, with_index}
use Rattle.loop_laws.specs.Braces.{Split, FirstRow, FirstIf, FirstIfElse, FirstUp, FirstDown, FirstForever, IfStep, IfElseStep}
use Rattle.loop_laws.specs.Braces.{ElseStep, ChoiceEndStep, UpStep, UpEndStep, DownStep, DownEndStep, ForeverStep, ForeverEndStep}
use Rattle.loop_laws.specs.Braces.{ClosesAt, BreakStep, ContinueStep, is_loop, ClosingLaws}
use Rattle.loop_laws.proofs.Numbered.{with_at_same}

-- ---- the lines of statements

pub split : Split
split a b lines = ap (λ (x : List CodeLine). x ++ lines) (flats-append a b) ∙ append_assoc (flats a) (flats b) lines

pub first_row : FirstRow
first_row r more lines = ap (λ (x : List CodeLine). (x ++ flats more) ++ lines) (flat-Row r)

-- what stands behind a statement that closes a brace
closed : (body : List CodeLine) (more : List Stmt) (lines : List CodeLine) →
    ((body ++ code.Close ∷ []) ++ flats more) ++ lines ≡ body ++ code.Close ∷ (flats more ++ lines)
closed body more lines = append_assoc (body ++ code.Close ∷ []) (flats more) lines
    ∙ append_assoc body (code.Close ∷ []) (flats more ++ lines)

pub first_if : FirstIf
first_if test body more lines =
    ap (λ (x : List CodeLine). (x ++ flats more) ++ lines) (flat-If test body)
    ∙ ap (λ (x : List CodeLine). code.If test ∷ x) (closed (flats body) more lines)

pub first_if_else : FirstIfElse
first_if_else test body other more lines =
    let last = flats other ++ code.Close ∷ [] in
    ap (λ (x : List CodeLine). (x ++ flats more) ++ lines) (flat-IfElse test body other)
    ∙ ap (λ (x : List CodeLine). code.If test ∷ x)
    (append_assoc (flats body ++ code.Else ∷ last) (flats more) lines
    ∙ append_assoc (flats body) (code.Else ∷ last) (flats more ++ lines)
    ∙ ap (λ (x : List CodeLine). flats body ++ code.Else ∷ x) (append_assoc (flats other) (code.Close ∷ []) (flats more ++ lines)))

pub first_up : FirstUp
first_up k bound body more lines =
    ap (λ (x : List CodeLine). (x ++ flats more) ++ lines) (flat-ForUp k bound body)
    ∙ ap (λ (x : List CodeLine). code.ForUp k bound ∷ x) (closed (flats body) more lines)

pub first_down : FirstDown
first_down k bound body more lines =
    ap (λ (x : List CodeLine). (x ++ flats more) ++ lines) (flat-ForDown k bound body)
    ∙ ap (λ (x : List CodeLine). code.ForDown k bound ∷ x) (closed (flats body) more lines)

pub first_forever : FirstForever
first_forever body more lines =
    ap (λ (x : List CodeLine). (x ++ flats more) ++ lines) (flat-Forever body)
    ∙ ap (λ (x : List CodeLine). code.Forever ∷ x) (closed (flats body) more lines)

-- ---- choice

pub step_if : IfStep
unfolding step step_at do_line if_line
step_if test body lines braces functions v =
    ap (λ (es : List (List CodeLine)). if holds (value_of v test)
    then quiet (at v (flats body ++ code.Close ∷ lines) (Choice ∷ braces))
    else quiet (skip_choice (at v (flats body ++ code.Close ∷ lines) braces) (first_exit es))) (exits-body body lines)

pub step_if_else : IfElseStep
unfolding step step_at do_line if_line
step_if_else test body lines braces functions v =
    ap (λ (es : List (List CodeLine)). if holds (value_of v test)
    then quiet (at v (flats body ++ code.Else ∷ lines) (Choice ∷ braces))
    else quiet (skip_choice (at v (flats body ++ code.Else ∷ lines) braces) (first_exit es))) (exits-branch body lines)

pub step_else : ElseStep
unfolding step step_at do_line else_line
step_else other lines braces functions v = ap (λ (ls : List CodeLine). quiet (at v ls braces)) (behind-body other lines)

pub step_choice_end : ChoiceEndStep
unfolding step step_at do_line close_line
step_choice_end lines braces functions v = refl

-- ---- loops

pub step_up : UpStep
unfolding step step_at do_line for_up_line
step_up k bound body lines braces functions v =
    let w = with_index v k (pos 0) in
    let inside = flats body ++ code.Close ∷ lines in
    ap (λ (ls : List CodeLine). if int_lt (number_at w.indices k) (value_of w bound)
    then turn (at w inside (Upward k bound inside ∷ braces)) else quiet (at w ls braces)) (behind-body body lines)
    ∙ ap (λ (z : ℤ). if int_lt z (value_of w bound) then turn (at w inside (Upward k bound inside ∷ braces))
    else quiet (at w lines braces)) (with_at_same (pos 0) v.indices k (pos 0))

pub step_up_end : UpEndStep
unfolding step step_at do_line close_line
step_up_end k bound body lines braces functions v =
    let z = int_wrap w64 (number_at v.indices k +ℤ pos 1) in
    let w = with_index v k z in
    ap (λ (i : ℤ). if int_lt i (value_of w bound) then turn (at w body (Upward k bound body ∷ braces))
    else quiet (at w lines braces)) (with_at_same (pos 0) v.indices k z)

pub step_down : DownStep
unfolding step step_at do_line for_down_line
step_down k bound body lines braces functions v =
    let z = int_wrap w64 (value_of v bound -ℤ pos 1) in
    let w = with_index v k z in
    let inside = flats body ++ code.Close ∷ lines in
    ap (λ (ls : List CodeLine). if int_le (pos 0) (number_at w.indices k) then turn (at w inside (Downward k inside ∷ braces))
    else quiet (at w ls braces)) (behind-body body lines)
    ∙ ap (λ (i : ℤ). if int_le (pos 0) i then turn (at w inside (Downward k inside ∷ braces)) else quiet (at w lines braces))
    (with_at_same (pos 0) v.indices k z)

pub step_down_end : DownEndStep
unfolding step step_at do_line close_line
step_down_end k body lines braces functions v =
    let z = int_wrap w64 (number_at v.indices k -ℤ pos 1) in
    let w = with_index v k z in
    ap (λ (i : ℤ). if int_le (pos 0) i then turn (at w body (Downward k body ∷ braces)) else quiet (at w lines braces))
    (with_at_same (pos 0) v.indices k z)

pub step_forever : ForeverStep
unfolding step step_at do_line forever_line
step_forever lines braces functions v = refl

pub step_forever_end : ForeverEndStep
unfolding step step_at do_line close_line
step_forever_end body lines braces functions v = refl

-- ---- break and continue

pub step_break : BreakStep
unfolding step step_at do_line row_line control_line break_line
step_break lines braces place closes functions v = ap (λ (p : Place). quiet (at v (rest_of p.lines) (rest_of p.braces))) closes.by

pub step_continue : ContinueStep
unfolding step step_at do_line row_line control_line continue_line
step_continue lines braces place closes functions v = ap (λ (p : Place). quiet (at v p.lines p.braces)) closes.by

pub end_somewhere : (lines : List CodeLine) (braces : List Brace) → (place : Place) × ClosesAt lines braces place
end_somewhere lines braces = (loop_end braces (exits lines), record { by = refl })

pub end_behind : (body : List Stmt) {lines : List CodeLine} {braces : List Brace} {place : Place} → ClosesAt lines braces place →
    ClosesAt (flats body ++ lines) braces place
end_behind body {lines} {braces} closes = record { by = ap (loop_end braces) (exits-flats body lines) ∙ closes.by }

pub end_in_branch : (other : List Stmt) {lines : List CodeLine} {braces : List Brace} {place : Place} →
    ClosesAt lines braces place →
    ClosesAt (code.Else ∷ (flats other ++ code.Close ∷ lines)) (Choice ∷ braces) place
unfolding loop_end exits
end_in_branch other {lines} {braces} closes = record {
  by =
      ap (λ (es : List (List CodeLine)). loop_end braces (rest_of es)) (exits-body other lines) ∙ closes.by;
}

pub end_in_choice : {lines : List CodeLine} {braces : List Brace} {place : Place} → ClosesAt lines braces place →
    ClosesAt (code.Close ∷ lines) (Choice ∷ braces) place
unfolding loop_end exits
end_in_choice closes = record { by = closes.by }

pub end_in_loop : (lines : List CodeLine) (brace : Brace) (braces : List Brace) → is_loop brace ≡ true →
    ClosesAt (code.Close ∷ lines) (brace ∷ braces) (record { lines = code.Close ∷ lines; braces = brace ∷ braces })
unfolding loop_end exits
end_in_loop lines Choice braces e = cc
end_in_loop lines (Upward k bound body) braces e = record { by = refl }
end_in_loop lines (Downward k body) braces e = record { by = refl }
end_in_loop lines (Forever body) braces e = record { by = refl }

pub closing_laws : ClosingLaws
closing_laws = record {
  somewhere = end_somewhere;
  behind = end_behind;
  in_branch = end_in_branch;
  in_choice =
      end_in_choice;
  in_loop = end_in_loop;
}
