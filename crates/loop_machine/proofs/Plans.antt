-- The rows of a plan stand for the lines of a body.
use Rattle.std.proofs.Common.{◌≡◌, ℕ, zero, suc, ◌+◌, List, [], ◌∷◌, ◌++◌, drop, length, Option, Some, subst}
use Rattle.std.specs.Prelude.{slice_get}
use Rattle.loop_tree.specs.declared.tree.CodeLine.{CodeLine}
use Rattle.loop_tree.specs.declared.tree.CodeLine.TheVariants as code
use Rattle.loop_machine.specs.declared.sweep.Planned.{Planned}
use Rattle.loop_machine.specs.Plans.{row_of, IsSettled, Plans}

-- an element of a list with one more behind
behind : {A : Type 0} (P : ℕ → A → Type 0) (xs : List A) (x : A) → ((i : ℕ) (y : A) → slice_get xs i ≡ Some y → P i y) →
    P (length xs) x →
    (i : ℕ) (y : A) → slice_get (xs ++ x ∷ []) i ≡ Some y → P i y
behind P [] x all last zero y e = subst (λ z. P 0 z) (cc e) last
behind P [] x all last (suc i) y e = absurd cc
behind P (z ∷ xs) x all last zero y e = all zero y e
behind P (z ∷ xs) x all last (suc i) y e = behind (λ j. P (suc j)) xs x (λ j w h. all (suc j) w h) last i y e

pub no_rows : (references : List (Option ℕ)) (line k : ℕ) (lines : List CodeLine) (from : ℕ) →
    Plans references line k lines from []
no_rows references line k lines from zero p e = absurd cc
no_rows references line k lines from (suc i) p e = absurd cc

pub one_more : (references : List (Option ℕ)) (line k : ℕ) (lines : List CodeLine) (from : ℕ) (plan : List Planned)
    (p : Planned) → Plans references line k lines from plan →
    slice_get lines (from + length plan) ≡ Some (code.Row (row_of k p)) → IsSettled references line p →
    Plans references line k lines from (plan ++ p ∷ [])
one_more references line k lines from plan p all e linked =
    behind (λ (i : ℕ) (q : Planned). (slice_get lines (from + i) ≡ Some (code.Row (row_of k q))) × IsSettled references line q)
    plan p all (e, linked)

get_first : {A : Type 0} (xs : List A) (i : ℕ) (x : A) (ys : List A) → drop i xs ≡ x ∷ ys → slice_get xs i ≡ Some x
get_first [] zero x ys e = absurd cc
get_first [] (suc i) x ys e = absurd cc
get_first (z ∷ xs) zero x ys e = cc
get_first (z ∷ xs) (suc i) x ys e = get_first xs i x ys e

-- the first row of the part of the plan from a place on
pub first_at : (references : List (Option ℕ)) (line k : ℕ) (lines : List CodeLine) (from : ℕ) (plan : List Planned) (i : ℕ)
    (p : Planned) (more : List Planned) → Plans references line k lines from plan →
    drop i plan ≡ p ∷ more → (slice_get lines (from + i) ≡ Some (code.Row (row_of k p))) × IsSettled references line p
first_at references line k lines from plan i p more all e = all i p (get_first plan i p more e)
