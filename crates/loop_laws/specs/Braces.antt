-- Choices and loops over whole statements, and what leaves them. The lines of whole statements pass over braces, so
-- nothing here asks what stands in a body.
use Rattle.std.specs.Prelude.{◌≡◌, ℕ, pos, ◌+ℤ◌, ◌-ℤ◌, Bool, true, false, int_lt, int_le, if◌then◌else◌, List, ◌∷◌, ◌++◌}
use Rattle.std.specs.Int.{w64, int_wrap}
use Rattle.loop_tree.specs.declared.atom.Atom.{Atom}
use Rattle.loop_tree.specs.declared.row.ControlRow.TheVariants as control
use Rattle.loop_tree.specs.declared.row.Row.{Row}
use Rattle.loop_tree.specs.declared.row.Row.TheVariants as row
use Rattle.loop_tree.specs.declared.tree.CodeLine.{CodeLine}
use Rattle.loop_tree.specs.declared.tree.CodeLine.TheVariants as code
use Rattle.loop_tree.specs.declared.tree.Stmt.{Stmt}
use Rattle.loop_tree.specs.declared.tree.Stmt.TheVariants as stmt
use Rattle.loop_tree.specs.declared.tree.Function.{Function}
use Rattle.loop_tree.specs.Lines.{flats}
use Rattle.loop_tree.specs.State.{Brace, Choice, Upward, Downward, Forever, Next}
use Rattle.loop_tree.specs.Values.{number_at, holds}
use Rattle.a95_base.specs.Lists.{rest_of}
use Rattle.loop_tree.specs.Machine.{step, exits, loop_end, Place, quiet, turn}
use Rattle.loop_laws.specs.At.{Variables, at, value_of, with_index}

-- ---- the lines of statements

abbrev pub Split : Type 0
Split = (first second : List Stmt) (lines : List CodeLine) →
    flats (first ++ second) ++ lines ≡ flats first ++ (flats second ++ lines)

abbrev pub FirstRow : Type 0
FirstRow = (r : Row) (more : List Stmt) (lines : List CodeLine) →
    flats (stmt.Row r ∷ more) ++ lines ≡ code.Row r ∷ (flats more ++ lines)

abbrev pub FirstIf : Type 0
FirstIf = (test : Atom) (body more : List Stmt) (lines : List CodeLine) →
    flats (stmt.If test body ∷ more) ++ lines ≡ code.If test ∷ (flats body ++ code.Close ∷ (flats more ++ lines))

abbrev pub FirstIfElse : Type 0
FirstIfElse = (test : Atom) (body other more : List Stmt) (lines : List CodeLine) →
    flats (stmt.IfElse test body other ∷ more) ++ lines ≡ code.If test ∷
    (flats body ++ code.Else ∷ (flats other ++ code.Close ∷ (flats more ++ lines)))

abbrev pub FirstUp : Type 0
FirstUp = (k : ℕ) (bound : Atom) (body more : List Stmt) (lines : List CodeLine) →
    flats (stmt.ForUp k bound body ∷ more) ++ lines ≡ code.ForUp k bound ∷ (flats body ++ code.Close ∷ (flats more ++ lines))

abbrev pub FirstDown : Type 0
FirstDown = (k : ℕ) (bound : Atom) (body more : List Stmt) (lines : List CodeLine) →
    flats (stmt.ForDown k bound body ∷ more) ++ lines ≡ code.ForDown k bound ∷ (flats body ++ code.Close ∷ (flats more ++ lines))

abbrev pub FirstForever : Type 0
FirstForever = (body more : List Stmt) (lines : List CodeLine) →
    flats (stmt.Forever body ∷ more) ++ lines ≡ code.Forever ∷ (flats body ++ code.Close ∷ (flats more ++ lines))

-- ---- choice

-- a step at these lines leads so
abbrev pub LinesStep : List CodeLine → List Brace → (Variables → Next) → Type 0
LinesStep lines braces next = (functions : List Function) (v : Variables) → step functions (at v lines braces) ≡ next v

abbrev pub IfStep : Type 0
IfStep = (test : Atom) (body : List Stmt) (lines : List CodeLine) (braces : List Brace) →
    LinesStep (code.If test ∷ (flats body ++ code.Close ∷ lines)) braces (λ v.
    if holds (value_of v test) then quiet (at v (flats body ++ code.Close ∷ lines) (Choice ∷ braces))
    else quiet (at v lines braces))

abbrev pub IfElseStep : Type 0
IfElseStep = (test : Atom) (body : List Stmt) (lines : List CodeLine) (braces : List Brace) →
    LinesStep (code.If test ∷ (flats body ++ code.Else ∷ lines)) braces (λ v.
    if holds (value_of v test) then quiet (at v (flats body ++ code.Else ∷ lines) (Choice ∷ braces))
    else quiet (at v lines (Choice ∷ braces)))

-- behind the first branch the other one is passed over, and behind the last one nothing is left to do
abbrev pub ElseStep : Type 0
ElseStep = (other : List Stmt) (lines : List CodeLine) (braces : List Brace) →
    LinesStep (code.Else ∷ (flats other ++ code.Close ∷ lines)) (Choice ∷ braces) (λ v. quiet (at v lines braces))

abbrev pub ChoiceEndStep : Type 0
ChoiceEndStep = (lines : List CodeLine) (braces : List Brace) →
    LinesStep (code.Close ∷ lines) (Choice ∷ braces) (λ v. quiet (at v lines braces))

-- ---- loops. A head begins the first round or passes the loop, a closing brace begins the next round or leaves it

abbrev pub UpStep : Type 0
UpStep = (k : ℕ) (bound : Atom) (body : List Stmt) (lines : List CodeLine) (braces : List Brace) →
    LinesStep (code.ForUp k bound ∷ (flats body ++ code.Close ∷ lines)) braces (λ v.
    let w = with_index v k (pos 0) in
    if int_lt (pos 0) (value_of w bound)
    then turn (at w (flats body ++ code.Close ∷ lines) (Upward k bound (flats body ++ code.Close ∷ lines) ∷ braces))
    else quiet (at w lines braces))

abbrev pub UpEndStep : Type 0
UpEndStep = (k : ℕ) (bound : Atom) (body lines : List CodeLine) (braces : List Brace) →
    LinesStep (code.Close ∷ lines) (Upward k bound body ∷ braces) (λ v.
    let z = int_wrap w64 (number_at v.indices k +ℤ pos 1) in
    let w = with_index v k z in
    if int_lt z (value_of w bound) then turn (at w body (Upward k bound body ∷ braces)) else quiet (at w lines braces))

abbrev pub DownStep : Type 0
DownStep = (k : ℕ) (bound : Atom) (body : List Stmt) (lines : List CodeLine) (braces : List Brace) →
    LinesStep (code.ForDown k bound ∷ (flats body ++ code.Close ∷ lines)) braces (λ v.
    let z = int_wrap w64 (value_of v bound -ℤ pos 1) in
    let w = with_index v k z in
    if int_le (pos 0) z
    then turn (at w (flats body ++ code.Close ∷ lines) (Downward k (flats body ++ code.Close ∷ lines) ∷ braces))
    else quiet (at w lines braces))

abbrev pub DownEndStep : Type 0
DownEndStep = (k : ℕ) (body lines : List CodeLine) (braces : List Brace) →
    LinesStep (code.Close ∷ lines) (Downward k body ∷ braces) (λ v.
    let z = int_wrap w64 (number_at v.indices k -ℤ pos 1) in
    let w = with_index v k z in
    if int_le (pos 0) z then turn (at w body (Downward k body ∷ braces)) else quiet (at w lines braces))

abbrev pub ForeverStep : Type 0
ForeverStep = (lines : List CodeLine) (braces : List Brace) →
    LinesStep (code.Forever ∷ lines) braces (λ v. turn (at v lines (Forever lines ∷ braces)))

abbrev pub ForeverEndStep : Type 0
ForeverEndStep = (body lines : List CodeLine) (braces : List Brace) →
    LinesStep (code.Close ∷ lines) (Forever body ∷ braces) (λ v. turn (at v body (Forever body ∷ braces)))

-- ---- break and continue

-- the innermost loop around these lines is closed at this place, where `continue` leads; `break` leads behind it
pub record ClosesAt (lines : List CodeLine) (braces : List Brace) (place : Place) : Type 0 where
  pub by : loop_end braces (exits lines) ≡ place

abbrev pub BreakStep : Type 0
BreakStep = (lines : List CodeLine) (braces : List Brace) (place : Place) → ClosesAt lines braces place →
    LinesStep (code.Row (row.Control control.Break) ∷ lines) braces
    (λ v. quiet (at v (rest_of place.lines) (rest_of place.braces)))

abbrev pub ContinueStep : Type 0
ContinueStep = (lines : List CodeLine) (braces : List Brace) (place : Place) → ClosesAt lines braces place →
    LinesStep (code.Row (row.Control control.Continue) ∷ lines) braces (λ v. quiet (at v place.lines place.braces))

abbrev pub is_loop : Brace → Bool
is_loop Choice = false
is_loop (Upward k bound body) = true
is_loop (Downward k body) = true
is_loop (Forever body) = true

-- somewhere, where it makes no difference; in front of whole statements, in the branches of a choice, and in a loop
pub record ClosingLaws : Type 0 where
  pub somewhere : (lines : List CodeLine) (braces : List Brace) → (place : Place) × ClosesAt lines braces place
  pub behind : (body : List Stmt) {lines : List CodeLine} {braces : List Brace} {place : Place} → ClosesAt lines braces place →
      ClosesAt (flats body ++ lines) braces place
  pub in_branch : (other : List Stmt) {lines : List CodeLine} {braces : List Brace} {place : Place} → ClosesAt lines braces place →
      ClosesAt (code.Else ∷ (flats other ++ code.Close ∷ lines)) (Choice ∷ braces) place
  pub in_choice : {lines : List CodeLine} {braces : List Brace} {place : Place} → ClosesAt lines braces place →
      ClosesAt (code.Close ∷ lines) (Choice ∷ braces) place
  pub in_loop : (lines : List CodeLine) (brace : Brace) (braces : List Brace) → is_loop brace ≡ true →
      ClosesAt (code.Close ∷ lines) (brace ∷ braces) (record { lines = code.Close ∷ lines; braces = brace ∷ braces })
