-- Which units lines are defined for so far. A later form only drops a condition here.
use Rattle.std.specs.Prelude.{◌≡◌, ℕ, nat_le, Bool, true, false, not, ◌&&◌, Option, Some, None, ◌||◌, pos, int_le, slice_get}
use Rattle.std.specs.List.{list_all}
use Rattle.nest_tree.specs.declared.access.Access.{Access}
use Rattle.nest_tree.specs.declared.access.Along.{Along}
use Rattle.nest_tree.specs.declared.access.Along.TheVariants as along
use Rattle.nest_tree.specs.declared.unit.Sort.TheVariants as sort
use Rattle.nest_tree.specs.declared.access.Amount.{Amount}
use Rattle.nest_tree.specs.declared.access.Amount.TheVariants as amounts
use Rattle.nest_tree.specs.declared.statement.Span.{Span}
use Rattle.nest_tree.specs.declared.tree.Question.{Question}
use Rattle.nest_tree.specs.declared.tree.Question.TheVariants as question
use Rattle.f95_unit.specs.declared.operation.Elemental.{Elemental}
use Rattle.f95_unit.specs.declared.operation.Elemental.TheVariants as elemental
use Rattle.nest_tree.specs.Plain.{Tree, Literal, Number, Constant, Fixed, Read, Turn, Unary, Binary, Exactly, Wrapped, Trim, Guard, Piece, Statement, Set, Test, Store, StoreCell, Make, Grow, Rebound, Free, Nest, If, While, Put, Write, Take, Skip, Exit, Cycle, Return, Stop, Statements, no_statement, statement, Procedure, NestUnit, Asked, Cell, Place, Len, Each, Trees, no_tree, tree}
use Rattle.nest_tree.specs.Sound.{fits_32_bits, is_sort, is_own_text}

-- subscripts that no list gives
abbrev pub is_computed : Along → Bool
is_computed (along.Listed loop list) = false
is_computed other = true

abbrev pub emits_access : Access → Bool
emits_access a = list_all (λ d. is_computed d.along) a.dimensions

-- of what counts the bytes of a text no limit is known
abbrev pub emits_elemental : Elemental → Bool
emits_elemental elemental.Ichar = false
emits_elemental elemental.LenTrim = false
emits_elemental elemental.Index = false
emits_elemental which = true

abbrev pub emits_question : Question → Bool
emits_question (question.Upper dim) = false
emits_question question.Length = false
emits_question q = true

-- no limit is known of the length of a text, as exact integers have one: it is wrapped
abbrev mutual
  pub emits_tree : Tree → Bool
  emits_tree (Literal x) = true
  emits_tree (Number z) = true
  emits_tree (Constant n) = true
  emits_tree (Fixed k) = true
  emits_tree (Read a) = emits_access a
  emits_tree (Turn loop) = true
  emits_tree (Cell n t) = emits_tree t
  emits_tree (Place a) = emits_access a
  emits_tree (Asked q n) = emits_question q
  emits_tree (Each which ts) = emits_elemental which && emits_trees ts
  emits_tree (Unary op t) = emits_tree t
  emits_tree (Binary op t u) = emits_tree t && emits_tree u
  emits_tree (Exactly op t u) = emits_tree t && emits_tree u
  emits_tree (Wrapped (Len t)) = emits_tree t
  emits_tree (Wrapped t) = emits_tree t
  emits_tree (Trim t) = emits_tree t
  emits_tree other = false

  pub emits_trees : Trees → Bool
  emits_trees no_tree = true
  emits_trees (tree place t ts) = emits_tree t && emits_trees ts

abbrev pub emits_guard : Option Guard → Bool
emits_guard None = true
emits_guard (Some guard) = emits_tree guard.test

abbrev pub emits_piece : Piece → Bool
emits_piece p = emits_access p.target && emits_guard p.guard && emits_tree p.value

-- bounds whose extent has 64 bits: from 1 or more, or between two INTEGERs
abbrev pub is_integer : Procedure → Amount → Bool
is_integer q (amounts.Number z) = fits_32_bits z
is_integer q (amounts.Kept k) = is_sort (slice_get q.scalars k) sort.Int

abbrev pub is_positive : Amount → Bool
is_positive (amounts.Number z) = int_le (pos 1) z
is_positive (amounts.Kept k) = false

abbrev pub emits_span : Procedure → Span → Bool
emits_span q s = is_positive s.lower || (is_integer q s.lower && is_integer q s.upper)

-- no more loops are around a statement than braces may be open
abbrev pub most_loops : ℕ
most_loops = 990

abbrev mutual
  pub emits_statement : Procedure → Statement → Bool
  emits_statement q (Set line k t) = emits_tree t
  emits_statement q (Test line kind t) = emits_tree t
  emits_statement q (Store p) = emits_piece p
  emits_statement q (StoreCell line n t u) = emits_tree t && emits_tree u
  emits_statement q (Make line b) = list_all (emits_span q) b.bounds
  emits_statement q (Grow line n a) = not (is_own_text q n)
  emits_statement q (Rebound line n spans) = list_all (emits_span q) spans
  emits_statement q (Free line n) = true
  emits_statement q (Nest own frame headers checks body) = emits_all q checks && emits_all q body
  emits_statement q (If line test yes_part no_part) = emits_tree test && emits_all q yes_part && emits_all q no_part
  emits_statement q (While line head test body) = emits_all q head && emits_tree test && emits_all q body
  emits_statement q (Put line t) = emits_tree t
  emits_statement q Write = true
  emits_statement q (Take line k read) = true
  emits_statement q (Skip line read) = true
  emits_statement q (Exit out) = nat_le out most_loops
  emits_statement q (Cycle out) = nat_le out most_loops
  emits_statement q Return = true
  emits_statement q Stop = true
  emits_statement q other = false

  pub emits_all : Procedure → Statements → Bool
  emits_all q no_statement = true
  emits_all q (statement s more) = emits_statement q s && emits_all q more

-- what the main program calls stays out for now
pub record Emits (unit : NestUnit) : Type 0 where
  pub main : emits_all unit.main unit.main.body ≡ true
