-- Nest units that can be written down as a text: lines have numbers of 32 bits, and texts are bytes.
use Rattle.std.specs.Prelude.{◌≡◌, ℕ, ◌^◌, Bool, true, ◌&&◌, nat_lt, Option, Some, None}
use Rattle.std.specs.List.{list_all}
use Rattle.a95_base.specs.declared.scalar.Scalar.{Scalar}
use Rattle.a95_base.specs.declared.scalar.Scalar.TheVariants as scalar
use Rattle.nest_tree.specs.Plain.{Tree, Literal, Cell, Entry, Unary, Binary, Exactly, Wrapped, Each, Trim, Len, Applied, Trees, no_tree, tree, Guard, Statement, Set, Test, Store, StoreCell, Make, Grow, Rebound, Free, Nest, If, While, Put, Take, Skip, Statements, no_statement, statement, NestUnit}

-- the bytes of a text
abbrev pub is_bytes : Scalar → Bool
is_bytes (scalar.Text bytes) = list_all (λ c. nat_lt c 256) bytes
is_bytes other = true

abbrev mutual
  pub written_tree : Tree → Bool
  written_tree (Literal x) = is_bytes x
  written_tree (Cell n t) = written_tree t
  written_tree (Entry l t) = written_tree t
  written_tree (Unary op t) = written_tree t
  written_tree (Binary op t u) = written_tree t && written_tree u
  written_tree (Exactly op t u) = written_tree t && written_tree u
  written_tree (Wrapped t) = written_tree t
  written_tree (Each which ts) = written_trees ts
  written_tree (Trim t) = written_tree t
  written_tree (Len t) = written_tree t
  written_tree (Applied r blank p ts) = written_trees ts
  written_tree other = true

  pub written_trees : Trees → Bool
  written_trees no_tree = true
  written_trees (tree place t ts) = written_tree t && written_trees ts

-- ---- statements

abbrev pub is_line : ℕ → Bool
is_line n = nat_lt n (2 ^ 32)

abbrev pub written_guard : Option Guard → Bool
written_guard None = true
written_guard (Some guard) = is_line guard.line && written_tree guard.test

abbrev mutual
  pub written_statement : Statement → Bool
  written_statement (Set line k t) = is_line line && written_tree t
  written_statement (Test line kind t) = is_line line && written_tree t
  written_statement (Store p) = is_line p.line && written_guard p.guard && written_tree p.value
  written_statement (StoreCell line n t u) = is_line line && written_tree t && written_tree u
  written_statement (Make line b) = is_line line
  written_statement (Grow line n a) = is_line line
  written_statement (Rebound line n spans) = is_line line
  written_statement (Free line n) = is_line line
  written_statement (Nest own frame headers checks body) = written_all checks && written_all body
  written_statement (If line test yes_part no_part) =
      is_line line && written_tree test && written_all yes_part && written_all no_part
  written_statement (While line head test body) = is_line line && written_all head && written_tree test && written_all body
  written_statement (Put line t) = is_line line && written_tree t
  written_statement (Take line k read) = is_line line
  written_statement (Skip line read) = is_line line
  written_statement other = true

  pub written_all : Statements → Bool
  written_all no_statement = true
  written_all (statement s more) = written_statement s && written_all more

-- ---- the whole

pub record Written (unit : NestUnit) : Type 0 where
  pub constants : list_all is_bytes unit.constants ≡ true
  pub main : written_all unit.main.body ≡ true
  pub procedures : list_all (λ q. written_all q.body) unit.procedures ≡ true
