-- `forall (i = 1:3) a(p(i)) = a(i) + 10` by a temporary, which has the places 4 to 6. The first loop marks the elements that
-- the second stores into.
use Rattle.std.specs.Prelude.{ℕ, ◌+◌, ◌==◌, ◌||◌, nat_lt, Bool, false, IsTrue, List, [], ◌∷◌, length, Ok, slice_index, slice_set}
use Rattle.a95_base.specs.Lists.{Every, Pairwise}
use Rattle.rank_shape.specs.Walk.{tour}
use Rattle.store_laws.specs.Store.{Statement, Keeps, Ignores, Temporary, filling, IsKeptApart, KeepsOther}
use Rattle.store_laws.specs.ManyOne.{TellsTwice}
use Rattle.store_rows.specs.Pieces.{turn_of, extents, forwards}
use Rattle.store_rows.specs.Scatter.{Memory, element_of}

abbrev pub stored_later : (ℕ → ℕ) → Statement (List ℕ) Memory ℕ ℕ
stored_later p = record {
  evaluate = λ turn s. Ok (record { value = slice_index s.cells (turn_of turn) + 10; after = s });
  store = λ turn v s. record { cells = slice_set s.cells (p (turn_of turn)) v; marked = s.marked; again = s.again };
}

abbrev pub kept_aside : (ℕ → ℕ) → Temporary (List ℕ) Memory ℕ
kept_aside p = record {
  keep = λ turn v s. record {
    cells = slice_set s.cells (turn_of turn + 4) v;
    marked = λ element. (element == p (turn_of turn)) || s.marked element;
    again = s.marked (p (turn_of turn)) || s.again;
  };
  fetch = λ turn s. slice_index s.cells (turn_of turn + 4);
}

abbrev pub wide : Memory
wide = record { cells = 1 ∷ 2 ∷ 3 ∷ 4 ∷ 0 ∷ 0 ∷ 0 ∷ []; marked = λ element. false; again = false }

-- the memory has all places, and the turn is one of the three
abbrev pub is_wide : Memory → Bool
is_wide s = length s.cells == 7

abbrev pub is_turn : List ℕ → Bool
is_turn turn = nat_lt (turn_of turn) 3

-- what the laws of a temporary ask for
pub record Premises (p : ℕ → ℕ) : Type 0 where
  pub apart : IsKeptApart (stored_later p) (kept_aside p) (λ s. IsTrue (is_wide s)) (λ turn v. IsTrue (is_turn turn))
  pub keeps : Every (Keeps (stored_later p) (λ s. IsTrue (is_wide s)) (λ turn v. IsTrue (is_turn turn))) (tour forwards extents)
  pub fills : Every (Keeps (filling (stored_later p) (kept_aside p)) (λ s. IsTrue (is_wide s))
      (λ turn v. IsTrue (is_turn turn))) (tour forwards extents)
  pub ignores : Pairwise (Ignores (filling (stored_later p) (kept_aside p)) (λ s. IsTrue (is_wide s))
      (λ turn v. IsTrue (is_turn turn))) (tour forwards extents)
  pub others : Pairwise (KeepsOther (kept_aside p) (λ s. IsTrue (is_wide s)) (λ turn v. IsTrue (is_turn turn)))
      (tour forwards extents)
  pub tells : TellsTwice (filling (stored_later p) (kept_aside p)) (element_of p) (λ s. s.again) (tour forwards extents) wide
