-- What the objects in memory are, as contracts see them.
use Rattle.std.specs.Prelude.{ℕ, min, Bool, not, ◌&&◌, ◌==◌, List, [], ◌∷◌, length, if◌then◌else◌, Option, Some, None, is_some}
use Rattle.std.specs.Prelude.{bytes_eq}
use Rattle.std.specs.List.{list_any}
use Rattle.io_edge.specs.Causes.{one_more}

-- the bytes of the first file of a name
abbrev pub file_named : List (List ℕ × List ℕ) → List ℕ → Option (List ℕ)
file_named [] name = None
file_named (file ∷ files) name = if bytes_eq file.0 name then Some file.1 else file_named files name

-- a shelf: its files, the numbers of the calls that fail, the calls so far, those that failed, and the name of the last one
pub record Files : Type 0 where
  pub files : List (List ℕ × List ℕ)
  pub failing : List ℕ
  pub calls : ℕ
  pub faults : ℕ
  pub failed : List ℕ

-- a source: the bytes that are left, the most that one call gives, the numbers of the calls that fail, the calls so far, and those
-- that failed
pub record Input : Type 0 where
  pub left : List ℕ
  pub piece : ℕ
  pub failing : List ℕ
  pub calls : ℕ
  pub faults : ℕ

-- a sink: the bytes that it holds, the most that a failing call passes, the numbers of the calls that fail, the calls so far, and
-- those that failed
pub record Output : Type 0 where
  pub written : List ℕ
  pub passed : ℕ
  pub failing : List ℕ
  pub calls : ℕ
  pub faults : ℕ

-- the number of the next call, counted from 1, is among those that fail
abbrev pub fails_next : List ℕ → ℕ → Bool
fails_next failing calls = list_any (λ number. number == one_more calls) failing

-- the next load of a name finds a file, and is none of those that fail
abbrev pub loads_next : Files → List ℕ → Bool
loads_next shelf name = not (fails_next shelf.failing shelf.calls) && is_some (file_named shelf.files name)

-- how many bytes the next call gives into this much room
abbrev pub given_next : Input → ℕ → ℕ
given_next source room = min source.piece (min room (length source.left))
