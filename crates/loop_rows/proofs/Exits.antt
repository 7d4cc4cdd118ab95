-- The table of exits says where braces close.
use Rattle.std.proofs.Common.{◌≡◌, ℕ, zero, suc, ◌+◌, List, [], ◌∷◌, length, drop, Option, Some, None, true, false, if◌then◌else◌}
use Rattle.std.proofs.Common.{refl, ap, ◌∙◌, sym, subst, arith, add-one}
use Rattle.std.specs.Prelude.{map, slice_get}
use Rattle.std.proofs.Math.Seq.{drop-length, drop-nil}
use Rattle.loop_tree.specs.declared.tree.CodeLine.{CodeLine}
use Rattle.loop_tree.specs.declared.tree.CodeLine.TheVariants as code
use Rattle.loop_tree.specs.declared.tree.Function.{Function}
use Rattle.loop_rows.specs.Shown.{lines_or_none, lines_in, is_else, brace, begins_choice}
use Rattle.loop_rows.specs.declared.state.OpenBrace.{OpenBrace}
use Rattle.loop_rows.specs.declared.state.OpenBrace.TheVariants as open_brace
use Rattle.loop_tree.specs.State.{State, Choice, with_rest, with_place}
use Rattle.a95_base.specs.Lists.{rest_of}
use Rattle.loop_tree.specs.Machine.{loop_end, skip_choice, first_exit, exit_of, exits}
use Rattle.loop_rows.specs.declared.routine.Exit.{Exit}
use Rattle.loop_rows.specs.Exits.{own_or, passed, open_before, first_exit_of, table_from, table_of}

-- ---- places in a list

next_suc : {A : Type 0} (xs : List A) (i : ℕ) (x : A) (rest : List A) → drop i xs ≡ x ∷ rest → drop (suc i) xs ≡ rest
next_suc [] zero x rest e = absurd cc
next_suc [] (suc i) x rest e = absurd cc
next_suc (y ∷ ys) zero x rest e = cc
next_suc (y ∷ ys) (suc i) x rest e = next_suc ys i x rest e

pub drop_next : {A : Type 0} (xs : List A) (i : ℕ) (x : A) (rest : List A) → drop i xs ≡ x ∷ rest → drop (i + 1) xs ≡ rest
drop_next xs i x rest e = rw add-one (next_suc xs i x rest e)

rest_suc : {A : Type 0} (xs : List A) (i : ℕ) → drop (suc i) xs ≡ rest_of (drop i xs)
rest_suc [] zero = refl
rest_suc [] (suc i) = refl
rest_suc (y ∷ ys) zero = refl
rest_suc (y ∷ ys) (suc i) = rest_suc ys i

pub drop_rest : {A : Type 0} (xs : List A) (i : ℕ) → drop (i + 1) xs ≡ rest_of (drop i xs)
drop_rest xs i = rw add-one (rest_suc xs i)

some_suc : {A : Type 0} (xs : List A) (i : ℕ) (x : A) → slice_get xs i ≡ Some x → drop i xs ≡ x ∷ drop (suc i) xs
some_suc [] i x e = absurd cc
some_suc (y ∷ ys) zero x e = cc
some_suc (y ∷ ys) (suc i) x e = some_suc ys i x e

pub drop_some : {A : Type 0} (xs : List A) (i : ℕ) (x : A) → slice_get xs i ≡ Some x → drop i xs ≡ x ∷ drop (i + 1) xs
drop_some xs i x e = rw add-one (some_suc xs i x e)

pub drop_none : {A : Type 0} (xs : List A) (i : ℕ) → slice_get xs i ≡ None → drop i xs ≡ []
drop_none [] i e = drop-nil i
drop_none (y ∷ ys) zero e = absurd cc
drop_none (y ∷ ys) (suc i) e = drop_none ys i e

-- ---- the exits, as places

map_rest : {A B : Type 0} (f : A → B) (xs : List A) → map f (rest_of xs) ≡ rest_of (map f xs)
map_rest f [] = refl
map_rest f (x ∷ xs) = refl

module _ (whole : List CodeLine) where
  abbrev from_exit : Exit → List CodeLine
  from_exit e = drop e.own whole

  abbrev open_from : ℕ → List CodeLine → List Exit
  open_from at rest = open_before (length whole) at rest

  exits_are : (rest : List CodeLine) (at : ℕ) → drop at whole ≡ rest → map from_exit (open_from at rest) ≡ exits rest
  unfolding exits
  exits_are [] at e = refl
  exits_are (code.Row r ∷ lines) at e = exits_are lines (at + 1) (drop_next whole at (code.Row r) lines e)
  exits_are (code.If test ∷ lines) at e = map_rest from_exit (open_from (at + 1) lines) ∙
      ap rest_of (exits_are lines (at + 1) (drop_next whole at (code.If test) lines e))
  exits_are (code.Else ∷ lines) at e =
      let more : map from_exit (rest_of (open_from (at + 1) lines)) ≡ rest_of (exits lines) =
      map_rest from_exit (open_from (at + 1) lines) ∙
      ap rest_of (exits_are lines (at + 1) (drop_next whole at code.Else lines e)) in
      cc
  exits_are (code.ForUp k bound ∷ lines) at e = map_rest from_exit (open_from (at + 1) lines) ∙
      ap rest_of (exits_are lines (at + 1) (drop_next whole at (code.ForUp k bound) lines e))
  exits_are (code.ForDown k bound ∷ lines) at e = map_rest from_exit (open_from (at + 1) lines) ∙
      ap rest_of (exits_are lines (at + 1) (drop_next whole at (code.ForDown k bound) lines e))
  exits_are (code.Forever ∷ lines) at e = map_rest from_exit (open_from (at + 1) lines) ∙
      ap rest_of (exits_are lines (at + 1) (drop_next whole at code.Forever lines e))
  exits_are (code.Close ∷ lines) at e = let more = exits_are lines (at + 1) (drop_next whole at code.Close lines e) in cc

  own_or_is : (es : List Exit) → drop (own_or (length whole) es) whole ≡ first_exit (map from_exit es)
  own_or_is [] = drop-length whole
  own_or_is (e ∷ es) = refl

  first_own_is : (es : List Exit) → (first_exit_of (length whole) es).own ≡ own_or (length whole) es
  first_own_is [] = refl
  first_own_is (e ∷ es) = refl

  -- the outer place of each is that of the next
  abbrev Linked : List Exit → Type 0
  Linked [] = Unit {0}
  Linked (e ∷ es) = (e.outer ≡ own_or (length whole) es) × Linked es

  linked_rest : (es : List Exit) → Linked es → Linked (rest_of es)
  linked_rest [] h = tt
  linked_rest (e ∷ es) h = h.1

  linked : (at : ℕ) (rest : List CodeLine) → Linked (open_from at rest)
  linked at [] = tt
  linked at (code.Row r ∷ lines) = linked (at + 1) lines
  linked at (code.If test ∷ lines) = linked_rest (open_from (at + 1) lines) (linked (at + 1) lines)
  linked at (code.Else ∷ lines) = (refl, linked_rest (open_from (at + 1) lines) (linked (at + 1) lines))
  linked at (code.ForUp k bound ∷ lines) = linked_rest (open_from (at + 1) lines) (linked (at + 1) lines)
  linked at (code.ForDown k bound ∷ lines) = linked_rest (open_from (at + 1) lines) (linked (at + 1) lines)
  linked at (code.Forever ∷ lines) = linked_rest (open_from (at + 1) lines) (linked (at + 1) lines)
  linked at (code.Close ∷ lines) = (refl, linked (at + 1) lines)

  first_outer_is : (es : List Exit) → Linked es → (first_exit_of (length whole) es).outer ≡ own_or (length whole) (rest_of es)
  first_outer_is [] h = refl
  first_outer_is (e ∷ es) h = h.0

  own_is : (at : ℕ) → drop ((first_exit_of (length whole) (open_from at (drop at whole))).own) whole ≡ exit_of (drop at whole)
  own_is at =
      let es = open_from at (drop at whole) in
      ap (λ n. drop n whole) (first_own_is es) ∙ own_or_is es ∙ ap first_exit (exits_are (drop at whole) at refl)

  outer_is : (at : ℕ) → drop ((first_exit_of (length whole) (open_from at (drop at whole))).outer) whole
      ≡ first_exit (rest_of (exits (drop at whole)))
  outer_is at =
      let es = open_from at (drop at whole) in
      ap (λ n. drop n whole) (first_outer_is es (linked at (drop at whole))) ∙ own_or_is (rest_of es) ∙
      ap first_exit (map_rest from_exit es ∙ ap rest_of (exits_are (drop at whole) at refl))

-- ---- the table

-- the entry of a place
entry : (end at : ℕ) (lines : List CodeLine) (i : ℕ) (e : Exit) → slice_get (table_from end at lines) i ≡ Some e →
    e ≡ first_exit_of end (open_before end (at + i) (drop i lines))
entry end at [] zero e h = cc
entry end at [] (suc i) e h = absurd cc
entry end at (line ∷ lines) zero e h =
    let same : at ≡ at + zero = omega arith in
    let was : e ≡ first_exit_of end (passed end at line (open_before end (at + 1) lines)) = cc in
    subst (λ n. e ≡ first_exit_of end (open_before end n (line ∷ lines))) same was
entry end at (line ∷ lines) (suc i) e h =
    let same : at + 1 + i ≡ at + suc i = omega arith in
    subst (λ n. e ≡ first_exit_of end (open_before end n (drop i lines))) same (entry end (at + 1) lines i e h)

entry_is : (lines : List CodeLine) (i : ℕ) (e : Exit) → slice_get (table_of lines) i ≡ Some e →
    e ≡ first_exit_of (length lines) (open_before (length lines) i (drop i lines))
entry_is lines i e h =
    let same : 0 + i ≡ i = omega arith in
    entry (length lines) 0 lines i e h ∙ ap (λ n. first_exit_of (length lines) (open_before (length lines) n (drop i lines))) same

-- no entry stands behind that of the last line
no_entry : (end at : ℕ) (lines : List CodeLine) (i : ℕ) → slice_get (table_from end at lines) i ≡ None → drop i lines ≡ []
no_entry end at [] i h = drop-nil i
no_entry end at (line ∷ lines) zero h = absurd cc
no_entry end at (line ∷ lines) (suc i) h = no_entry end (at + 1) lines i h

pub own_found : (lines : List CodeLine) (i : ℕ) (e : Exit) → slice_get (table_of lines) i ≡ Some e →
    drop e.own lines ≡ exit_of (drop i lines)
own_found lines i e h = ap (λ (x : Exit). drop x.own lines) (entry_is lines i e h) ∙ own_is lines i

pub outer_found : (lines : List CodeLine) (i : ℕ) (e : Exit) → slice_get (table_of lines) i ≡ Some e →
    drop e.outer lines ≡ first_exit (rest_of (exits (drop i lines)))
outer_found lines i e h = ap (λ (x : Exit). drop x.outer lines) (entry_is lines i e h) ∙ outer_is lines i

pub own_missing : (lines : List CodeLine) (i : ℕ) → slice_get (table_of lines) i ≡ None →
    drop (length lines) lines ≡ exit_of (drop i lines)
unfolding exits
own_missing lines i h = drop-length lines ∙ sym (ap exit_of (no_entry (length lines) 0 lines i h))

pub outer_missing : (lines : List CodeLine) (i : ℕ) → slice_get (table_of lines) i ≡ None →
    drop (length lines) lines ≡ first_exit (rest_of (exits (drop i lines)))
unfolding exits
outer_missing lines i h = drop-length lines ∙ sym (ap (λ x. first_exit (rest_of (exits x))) (no_entry (length lines) 0 lines i h))

-- ---- each exit has the exits that are left as its own

abbrev Own : List (List CodeLine) → Type 0
Own [] = Unit {0}
Own (lines ∷ more) = (exits lines ≡ lines ∷ more) × Own more

own_rest : (lists : List (List CodeLine)) → Own lists → Own (rest_of lists)
own_rest [] h = tt
own_rest (lines ∷ more) h = h.1

exits_own : (lines : List CodeLine) → Own (exits lines)
unfolding exits
exits_own [] = tt
exits_own (code.Row r ∷ lines) = exits_own lines
exits_own (code.If test ∷ lines) = own_rest (exits lines) (exits_own lines)
exits_own (code.Else ∷ lines) = (refl, own_rest (exits lines) (exits_own lines))
exits_own (code.ForUp k bound ∷ lines) = own_rest (exits lines) (exits_own lines)
exits_own (code.ForDown k bound ∷ lines) = own_rest (exits lines) (exits_own lines)
exits_own (code.Forever ∷ lines) = own_rest (exits lines) (exits_own lines)
exits_own (code.Close ∷ lines) = (refl, exits_own lines)

first_own : (lists : List (List CodeLine)) → Own lists → exits (first_exit lists) ≡ lists
unfolding exits
first_own [] h = refl
first_own (lines ∷ more) h = h.0

pub exits_at_own : (lines : List CodeLine) → exits (exit_of lines) ≡ exits lines
exits_at_own lines = first_own (exits lines) (exits_own lines)

pub exits_at_outer : (lines : List CodeLine) → exits (first_exit (rest_of (exits lines))) ≡ rest_of (exits lines)
exits_at_outer lines = first_own (rest_of (exits lines)) (own_rest (exits lines) (exits_own lines))

-- ---- the lines of a function of a list

module _ (functions : List Function) (routine : ℕ) (missing : slice_get functions routine ≡ None) where
  pub no_lines : (place : ℕ) → drop place (lines_in functions routine) ≡ []
  no_lines place = ap (λ (o : Option Function). drop place (lines_or_none o)) missing ∙ drop-nil place

  pub no_exit : (place : ℕ) → drop place (lines_in functions routine) ≡ exit_of (drop place (lines_in functions routine))
  unfolding exits
  no_exit place = no_lines place ∙ sym (ap exit_of (no_lines place))

  pub no_outer : (place : ℕ) →
      drop place (lines_in functions routine) ≡ first_exit (rest_of (exits (drop place (lines_in functions routine))))
  unfolding exits
  no_outer place = no_lines place ∙ sym (ap (λ lines. first_exit (rest_of (exits lines))) (no_lines place))

  pub no_next : (place : ℕ) → drop place (lines_in functions routine) ≡ rest_of (drop place (lines_in functions routine))
  no_next place = no_lines place ∙ sym (ap rest_of (no_lines place))

-- ---- the other branch

pub skip_is : (s : State) (exit : List CodeLine) →
    skip_choice s exit ≡
    (if is_else exit then with_place s (rest_of exit) (Choice ∷ s.now.braces) else with_rest s (rest_of exit))
skip_is s [] = refl
skip_is s (code.Row r ∷ lines) = refl
skip_is s (code.If test ∷ lines) = refl
skip_is s (code.Else ∷ lines) = refl
skip_is s (code.ForUp k bound ∷ lines) = refl
skip_is s (code.ForDown k bound ∷ lines) = refl
skip_is s (code.Forever ∷ lines) = refl
skip_is s (code.Close ∷ lines) = refl

-- ---- the end of the innermost loop

-- from the braces of a choice to those around it
pub choice_passed : (lines : List CodeLine) (old new : List OpenBrace) (at outer : List CodeLine) → begins_choice old ≡ true →
    new ≡ rest_of old → outer ≡ first_exit (rest_of (exits at)) →
    loop_end (map (brace lines) new) (exits outer) ≡ loop_end (map (brace lines) old) (exits at)
unfolding loop_end
choice_passed lines [] new at outer e n o = absurd cc
choice_passed lines (open_brace.Choice ∷ more) new at outer e n o =
    ap (λ (h : List OpenBrace). loop_end (map (brace lines) h) (exits outer)) n ∙
    ap (loop_end (map (brace lines) more)) (ap exits o ∙ exits_at_outer at)
choice_passed lines (open_brace.Upward k bound body ∷ more) new at outer e n o = absurd cc
choice_passed lines (open_brace.Downward k body ∷ more) new at outer e n o = absurd cc
choice_passed lines (open_brace.Forever body ∷ more) new at outer e n o = absurd cc

pub closes_own : (at own : List CodeLine) → own ≡ exit_of at → first_exit (exits own) ≡ own
closes_own at own e = ap first_exit (ap exits e ∙ exits_at_own at) ∙ sym e

pub closes_outer : (at outer : List CodeLine) → outer ≡ first_exit (rest_of (exits at)) → first_exit (exits outer) ≡ outer
closes_outer at outer e = ap first_exit (ap exits e ∙ exits_at_outer at) ∙ sym e

pub at_loop : (lines : List CodeLine) (braces : List OpenBrace) (exits : List (List CodeLine)) → begins_choice braces ≡ false →
    loop_end (map (brace lines) braces) exits ≡ record { lines = first_exit exits; braces = map (brace lines) braces }
unfolding loop_end
at_loop lines [] exits e = refl
at_loop lines (open_brace.Choice ∷ more) exits e = absurd cc
at_loop lines (open_brace.Upward k bound body ∷ more) exits e = refl
at_loop lines (open_brace.Downward k body ∷ more) exits e = refl
at_loop lines (open_brace.Forever body ∷ more) exits e = refl
