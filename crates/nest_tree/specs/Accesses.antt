-- What a nest reads and stores: the accesses of its pieces, from which its distances are told.
use Rattle.std.specs.Prelude.{ℕ, zero, suc, pos, Bool, true, false, ◌||◌, Option, Some, None, List, [], ◌∷◌, ◌++◌, map}
use Rattle.nest_tree.specs.declared.access.Access.{Access}
use Rattle.nest_tree.specs.declared.access.Along.TheVariants as along
use Rattle.nest_tree.specs.declared.access.Amount.TheVariants as amounts
use Rattle.nest_tree.specs.declared.access.Name.TheVariants as name
use Rattle.nest_tree.specs.declared.access.Dimension.{Dimension}
use Rattle.nest_tree.specs.Plain.{Tree, Read, Cell, Entry, Unary, Binary, Exactly, Wrapped, Each, Trim, Len, Applied, Trees}
use Rattle.nest_tree.specs.Plain.{no_tree, tree, Guard, Piece, Store, Statements, no_statement, statement}

-- ---- element trees

-- the accesses at which a tree reads elements, from left to right
abbrev mutual
  pub reads_in : Tree → List Access
  reads_in (Read a) = a ∷ []
  reads_in (Cell n t) = reads_in t
  reads_in (Entry l t) = reads_in t
  reads_in (Unary op t) = reads_in t
  reads_in (Binary op t u) = reads_in t ++ reads_in u
  reads_in (Exactly op t u) = reads_in t ++ reads_in u
  reads_in (Wrapped t) = reads_in t
  reads_in (Each which ts) = all_reads_in ts
  reads_in (Trim t) = reads_in t
  reads_in (Len t) = reads_in t
  reads_in (Applied r blank p ts) = all_reads_in ts
  reads_in other = []

  pub all_reads_in : Trees → List Access
  all_reads_in no_tree = []
  all_reads_in (tree place t ts) = reads_in t ++ all_reads_in ts

-- whether a tree refers to a user function
abbrev mutual
  pub calls_in : Tree → Bool
  calls_in (Cell n t) = calls_in t
  calls_in (Entry l t) = calls_in t
  calls_in (Unary op t) = calls_in t
  calls_in (Binary op t u) = calls_in t || calls_in u
  calls_in (Exactly op t u) = calls_in t || calls_in u
  calls_in (Wrapped t) = calls_in t
  calls_in (Each which ts) = some_calls_in ts
  calls_in (Trim t) = calls_in t
  calls_in (Len t) = calls_in t
  calls_in (Applied r blank p ts) = true
  calls_in other = false

  pub some_calls_in : Trees → Bool
  some_calls_in no_tree = false
  some_calls_in (tree place t ts) = calls_in t || some_calls_in ts

-- whether a tree reads an element by its number, so that no access tells which
abbrev mutual
  pub cells_in : Tree → Bool
  cells_in (Cell n t) = true
  cells_in (Entry l t) = cells_in t
  cells_in (Unary op t) = cells_in t
  cells_in (Binary op t u) = cells_in t || cells_in u
  cells_in (Exactly op t u) = cells_in t || cells_in u
  cells_in (Wrapped t) = cells_in t
  cells_in (Each which ts) = some_cells_in ts
  cells_in (Trim t) = cells_in t
  cells_in (Len t) = cells_in t
  cells_in (Applied r blank p ts) = some_cells_in ts
  cells_in other = false

  pub some_cells_in : Trees → Bool
  some_cells_in no_tree = false
  some_cells_in (tree place t ts) = cells_in t || some_cells_in ts

-- ---- pieces and nests

abbrev pub guard_reads : Option Guard → List Access
guard_reads None = []
guard_reads (Some guard) = reads_in guard.test

-- those of a piece: the mask that stands in the nest counts
abbrev pub piece_reads : Piece → List Access
piece_reads p = guard_reads p.guard ++ reads_in p.value

-- the pieces of a body, in order; None where it has other statements
abbrev pub with_piece : Piece → Option (List Piece) → Option (List Piece)
with_piece p None = None
with_piece p (Some ps) = Some (p ∷ ps)

abbrev pub pieces_of : Statements → Option (List Piece)
pieces_of no_statement = Some []
pieces_of (statement (Store p) more) = with_piece p (pieces_of more)
pieces_of (statement s more) = None

-- the lines of a nest that has pieces alone
abbrev pub lines_of : List Piece → List ℕ
lines_of ps = map (λ p. p.line) ps

-- ---- the accesses of blocks

-- a block that has as many dimensions as the nest has loops, at the place of the turn
abbrev pub along_loops : ℕ → ℕ → List Dimension
along_loops loop zero = []
along_loops loop (suc rank) =
    record { along = along.Steps loop (amounts.Number (pos 1)) (amounts.Number (pos 1)); stride = Some (pos 1); start = None }
    ∷ along_loops (suc loop) rank

abbrev pub block_access : ℕ → ℕ → Access
block_access t rank = record { name = name.Temp t; dimensions = along_loops 1 rank; portion = None }
