-- What loops add to the count of entries.
use Rattle.std.proofs.Common.{◌≡◌, subst, ℕ, suc, ◌+◌, ◌*◌, ◌-◌, ◌≤◌, arith, List, [], ◌∷◌, length}
use Rattle.std.specs.Prelude.{Result, Ok, Err, slice_index, slice_set}
use Rattle.a95_base.specs.Steps.{pure, behind, ◌>>=◌, ◌>>◌}
use Rattle.rank_shape.proofs.Walks.{length-turns_of}
use Rattle.rank_shape.specs.Walk.{turns_of}
use Rattle.nest_tree.specs.State.{NestState, Halt, Step, enter}
use Rattle.nest_tree.specs.Statements.{each_turn, loops}
use Rattle.nest_tree.specs.Counts.{entries_of, AddsAtMost, LoopsAreBounded}

le_more : (a b c d : ℕ) → a ≤ b + c → a ≤ b + (c + d)
le_more a b c d h = omega arith

le_chain : (a b c d e : ℕ) → b ≤ a + c → e ≤ b + d → e ≤ a + (c + d)
le_chain a b c d e h k = omega arith

adds_behind : {A B : Type 0} (a b : ℕ) (k : Step B) (n : NestState) (came : Result A Halt) (n' : NestState)
    → n'.entries ≤ n.entries + a
    → (k n').after.entries ≤ n'.entries + b → (behind (λ x. k) came n').after.entries ≤ n.entries + (a + b)
unfolding behind
adds_behind a b k n (Ok x) n' h g = le_chain n.entries n'.entries a b (k n').after.entries h g
adds_behind a b k n (Err halt) n' h g = le_more n'.entries n.entries a b h

adds_next : {A B : Type 0} (a b : ℕ) {m : Step A} {k : Step B} → AddsAtMost a m → AddsAtMost b k → AddsAtMost (a + b) (m >> k)
unfolding ◌>>◌
adds_next a b {m = m} {k = k} h g = record {
  adds =
      λ n. adds_behind a b k n (m n).came (m n).after (h.adds n) (g.adds (m n).after);
}

one_more : (e : ℕ) → suc e ≤ e + 1
one_more e = omega arith

adds_enter : AddsAtMost 1 enter
unfolding enter
adds_enter = record { adds = λ n. one_more n.entries }

none_more : (e : ℕ) → e ≤ e + 0
none_more e = omega arith

adds_pure : {A : Type 0} (a : A) → AddsAtMost 0 (pure a)
unfolding pure
adds_pure a = record { adds = λ n. none_more n.entries }

none_of_them : (each : ℕ) → 0 ≡ 0 * suc each
none_of_them each = omega arith

all_of_them : (k each : ℕ) → 1 + (each + k * suc each) ≡ suc k * suc each
all_of_them k each = omega arith

adds_each : (body : ℕ → Step (Unit {0})) (each : ℕ) → ((i : ℕ) → AddsAtMost each (body i)) → (turns : List ℕ)
    → AddsAtMost (length turns * suc each) (each_turn body turns)
unfolding each_turn
adds_each body each h [] = subst (λ k. AddsAtMost k (pure tt)) (none_of_them each) (adds_pure tt)
adds_each body each h (i ∷ turns) =
    subst (λ k. AddsAtMost k (enter >> (body i >> each_turn body turns))) (all_of_them (length turns) each)
    (adds_next 1 (each + length turns * suc each) adds_enter (adds_next each (length turns * suc each) (h i)
    (adds_each body each h turns)))

pub loops_are_bounded : LoopsAreBounded
unfolding loops
loops_are_bounded body each h [] extents turn = h turn
loops_are_bounded body each h (level ∷ inner) extents turn =
    subst (λ k. AddsAtMost (k * suc (entries_of inner extents each)) (loops body (level ∷ inner) extents turn))
    (length-turns_of level.down (slice_index extents (level.number - 1)))
    (adds_each (λ i. loops body inner extents (slice_set turn (level.number - 1) i)) (entries_of inner extents each)
    (λ i. loops_are_bounded body each h inner extents (slice_set turn (level.number - 1) i))
    (turns_of level.down (slice_index extents (level.number - 1))))
