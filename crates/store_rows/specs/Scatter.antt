-- `forall (i = 1:3) a(p(i)) = a(i) + 10`, whose nest marks each element that it stores into. Places are counted from 0.
use Rattle.std.specs.Prelude.{ℕ, ◌+◌, ◌==◌, ◌||◌, Bool, true, false, IsTrue, List, [], ◌∷◌, Result, Ok, Err, min, slice_index}
use Rattle.std.specs.Prelude.{slice_set}
use Rattle.rank_shape.specs.Walk.{tour}
use Rattle.store_laws.specs.Store.{Statement}
use Rattle.store_laws.specs.Legal.{IsTold, KeepsPlaces}
use Rattle.store_laws.specs.ManyOne.{Marks, TellsTwice, IsFreeOnce}
use Rattle.store_rows.specs.Pieces.{turn_of, extents, backwards, distances}

pub record Memory : Type 0 where
  pub cells : List ℕ
  pub marked : ℕ → Bool
  pub again : Bool

abbrev pub scattered : (ℕ → ℕ) → Statement (List ℕ) Memory ℕ ℕ
scattered p = record {
  evaluate = λ turn s. Ok (record { value = slice_index s.cells (turn_of turn) + 10; after = s });
  store = λ turn v s. record {
    cells = slice_set s.cells (p (turn_of turn)) v;
    marked = λ element. (element == p (turn_of turn)) || s.marked element;
    again = s.marked (p (turn_of turn)) || s.again;
  };
}

abbrev pub element_of : (ℕ → ℕ) → List ℕ → ℕ → List ℕ
element_of p turn v = p (turn_of turn) ∷ []

abbrev pub marks : Marks Memory
marks = record { marked = λ s. s.marked; twice = λ s. s.again }

abbrev pub start : Memory
start = record { cells = 1 ∷ 2 ∷ 3 ∷ 4 ∷ []; marked = λ element. false; again = false }

-- the places 1, 2 and 3, and the places 1, 2 and 2
abbrev pub once : ℕ → ℕ
once i = i + 1

abbrev pub twice : ℕ → ℕ
twice i = min (i + 1) 2

-- what is seen of an outcome
abbrev pub seen : Result Memory ℕ → Result (List ℕ) ℕ
seen (Ok s) = Ok s.cells
seen (Err fault) = Err fault

-- what the law of the test behind the stores asks for, in a loop that runs backwards
pub record Premises (p : ℕ → ℕ) : Type 0 where
  pub told : IsTold (scattered p) (λ s. IsTrue true) (λ turn v. IsTrue true) extents distances
  pub keeps : KeepsPlaces (scattered p) (λ s. IsTrue true) (λ turn v. IsTrue true) extents
  pub free : IsFreeOnce (scattered p) (element_of p) (λ s. IsTrue true) (λ turn v. IsTrue true) extents start
  pub tells : TellsTwice (scattered p) (element_of p) (λ s. s.again) (tour backwards extents) start
