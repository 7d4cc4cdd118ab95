-- `where (10 / m > 0) a = 100 / d` over three elements. The memory is a list of cells, in which `a` has the places 0 to 2,
-- `m` those from 3 to 5 and `d` those from 6 to 8; in place 9 calls are counted.
use Rattle.std.specs.Prelude.{ℕ, ◌+◌, ◌/◌, ◌==◌, true, not, IsTrue, if◌then◌else◌, List, [], ◌∷◌, Result, Ok, Err, slice_index}
use Rattle.std.specs.Prelude.{slice_set}
use Rattle.a95_base.specs.Lists.{Every, Pairwise}
use Rattle.store_laws.specs.Store.{and_then, Evaluated, Statement, Keeps, IsStill}
use Rattle.store_laws.specs.Masked.{Mask, IsStillMask, StopsLikeMask, IsQuietMask, LeavesMask}
use Rattle.store_rows.specs.Pieces.{turn_of}

-- a division, which stops the run where its divisor is 0
abbrev pub divided : ℕ → ℕ → ℕ → List ℕ → Result (Evaluated ℕ (List ℕ)) ℕ
divided fault x y s = if y == 0 then Err fault else Ok (record { value = x / y; after = s })

-- 10 / m > 0
abbrev pub positive : ℕ → Mask (List ℕ) (List ℕ) ℕ
positive fault turn s = and_then (divided fault 10 (slice_index s (turn_of turn + 3)) s)
    (λ e. Ok (record { value = not (e.value == 0); after = e.after }))

-- a = 100 / d
abbrev pub shared_out : ℕ → Statement (List ℕ) (List ℕ) ℕ ℕ
shared_out fault = record {
  evaluate = λ turn s. divided fault 100 (slice_index s (turn_of turn + 6)) s;
  store = λ turn v s. slice_set s (turn_of turn) v;
}

abbrev pub turns : List (List ℕ)
turns = (0 ∷ []) ∷ (1 ∷ []) ∷ (2 ∷ []) ∷ []

-- m = 2, 20, 5 and d = 4, 0, 5: the 0 stands where the mask is false
abbrev pub passing : List ℕ
passing = 0 ∷ 0 ∷ 0 ∷ 2 ∷ 20 ∷ 5 ∷ 4 ∷ 0 ∷ 5 ∷ 0 ∷ []

-- m = 2, 20, 0 and d = 0, 1, 1: the first value would stop the run, and so would the last mask
abbrev pub stopping : List ℕ
stopping = 0 ∷ 0 ∷ 0 ∷ 2 ∷ 20 ∷ 0 ∷ 0 ∷ 1 ∷ 1 ∷ 0 ∷ []

pub record Premises (fault : ℕ) (s : List ℕ) : Type 0 where
  pub mask_still : Every (IsStillMask (positive fault) (λ s. IsTrue true)) turns
  pub still : Every (IsStill (shared_out fault) (λ s. IsTrue true)) turns
  pub alike : Pairwise (StopsLikeMask (positive fault) (shared_out fault) s) turns

-- ---- a mask that never stops, and values that call a function

-- m > 0
abbrev pub nonzero : Mask (List ℕ) (List ℕ) ℕ
nonzero turn s = Ok (record { value = not (slice_index s (turn_of turn + 3) == 0); after = s })

-- a = d + f(), where f says how often it was called before
abbrev pub called : Statement (List ℕ) (List ℕ) ℕ ℕ
called = record {
  evaluate =
      λ turn s. Ok
      (record { value = slice_index s (turn_of turn + 6) + slice_index s 9; after = slice_set s 9 (slice_index s 9 + 1) });
  store = λ turn v s. slice_set s (turn_of turn) v;
}

abbrev pub counting : List ℕ
counting = 0 ∷ 0 ∷ 0 ∷ 1 ∷ 0 ∷ 1 ∷ 40 ∷ 50 ∷ 60 ∷ 0 ∷ []

pub record QuietPremises : Type 0 where
  pub keeps : Every (Keeps called (λ s. IsTrue true) (λ turn v. IsTrue true)) turns
  pub quiet : Every (IsQuietMask nonzero (λ s. IsTrue true)) turns
  pub leaves : Pairwise (LeavesMask nonzero called (λ s. IsTrue true)) turns
