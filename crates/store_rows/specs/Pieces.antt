-- Small nests with numbers: `a(2:4) = b(1:3) + 10`, `b(1:3) = a(1:3)` and `c(1:3) = b(1:3) + a(2:4)`. The memory is a list
-- of cells, in which `a` has the places 0 to 3, `b` those from 4 to 6 and `c` those from 7 to 9.
use Rattle.std.specs.Prelude.{ℕ, ◌+◌, pos, Bool, true, false, IsTrue, List, [], ◌∷◌, Result, Ok, map, sum, slice_index}
use Rattle.std.specs.Prelude.{slice_index_or, slice_set}
use Rattle.rank_shape.specs.Order.{Level}
use Rattle.rank_shape.specs.declared.distance.Entry.{Entry}
use Rattle.rank_shape.specs.declared.distance.Entry.TheVariants as entry
use Rattle.store_laws.specs.Store.{Statement, Temporary}
use Rattle.store_laws.specs.Bodies.{at_once, AreApart}
use Rattle.store_laws.specs.Fusion.{Access, IsFusable}

-- a turn adds up a number and some cells, and stores the sum into a cell
pub record Piece : Type 0 where
  pub into : ℕ → ℕ
  pub from : List (ℕ → ℕ)
  pub plus : ℕ

-- which turn of the one loop a place is
abbrev pub turn_of : List ℕ → ℕ
turn_of place = slice_index_or place 0 0

abbrev pub value_of : Piece → ℕ → List ℕ → ℕ
value_of piece i cells = piece.plus + sum (map (λ cell. slice_index_or cells (cell i) 0) piece.from)

abbrev pub statement_of : Piece → Statement (List ℕ) (List ℕ) ℕ ℕ
statement_of piece = record {
  evaluate = λ turn s. Ok (record { value = value_of piece (turn_of turn) s; after = s });
  store = λ turn v s. slice_set s (piece.into (turn_of turn)) v;
}

abbrev pub body_of : Piece → List ℕ → List ℕ → Result (List ℕ) ℕ
body_of piece = at_once (statement_of piece)

abbrev pub access_of : Bool → (ℕ → ℕ) → Access
access_of stores cell = record { stores = stores; variable = 0; element = λ turn. cell (turn_of turn) }

abbrev pub accesses_of : Piece → List Access
accesses_of piece = access_of true piece.into ∷ map (access_of false) piece.from

-- a(2:4) = b(1:3) + 10
abbrev pub shifted : Piece
shifted = record { into = λ i. i + 1; from = (λ i. i + 4) ∷ []; plus = 10 }

-- b(1:3) = a(1:3)
abbrev pub copied : Piece
copied = record { into = λ i. i + 4; from = (λ i. i) ∷ []; plus = 0 }

-- c(1:3) = b(1:3) + a(2:4)
abbrev pub added : Piece
added = record { into = λ i. i + 7; from = (λ i. i + 4) ∷ (λ i. i + 1) ∷ []; plus = 0 }

abbrev pub extents : List ℕ
extents = 3 ∷ []

abbrev pub forwards : List Level
forwards = record { number = 1; down = false } ∷ []

abbrev pub backwards : List Level
backwards = record { number = 1; down = true } ∷ []

-- one turn later, or the same turn
abbrev pub distances : List (List Entry)
distances = (entry.Known (pos 1) ∷ []) ∷ (entry.Known (pos 0) ∷ []) ∷ []

abbrev pub cells : List ℕ
cells = 1 ∷ 2 ∷ 3 ∷ 4 ∷ 5 ∷ 6 ∷ 7 ∷ 0 ∷ 0 ∷ 0 ∷ []

-- nothing is asked of a memory
abbrev pub always : List ℕ → Bool
always s = true

abbrev pub Fusable : Piece → Piece → Type 0
Fusable first second = IsFusable (body_of first) (body_of second) (λ s. IsTrue (always s)) extents distances

-- turns of the two, the second's and then the first's, neither of which looks at what the other stores
abbrev pub TurnsApart : Piece → Piece → List ℕ → List ℕ → Type 0
TurnsApart first second = AreApart (statement_of second) (statement_of first) (λ s. IsTrue (always s)) (λ turn v. IsTrue true)
    (λ turn v. IsTrue true)

-- ---- forms of one statement

-- a(2:4) = a(1:3) + 10
abbrev pub moved : Statement (List ℕ) (List ℕ) ℕ ℕ
moved = record {
  evaluate = λ turn s. Ok (record { value = slice_index s (turn_of turn) + 10; after = s });
  store = λ turn v s. slice_set s (turn_of turn + 1) v;
}

-- the temporary has the places from 4 to 6
abbrev pub kept : Temporary (List ℕ) (List ℕ) ℕ
kept = record { keep = λ turn v s. slice_set s (turn_of turn + 4) v; fetch = λ turn s. slice_index s (turn_of turn + 4) }
