-- The statements of a body, and the place in a program that they are made for.
use Rattle.std.specs.Prelude.{◌≡◌, ℕ, ◌≤◌, Bool, true, List, [], ◌∷◌, ◌++◌, refl}
use Rattle.std.specs.List.{AllByRecursion}
use Rattle.std.specs.Coded.{Coded, code_by, coded×, coded_ℕ, coded_bool, coded_list}
use Rattle.loop_tree.specs.declared.tree.Stmt.{Stmt}
use Rattle.loop_tree.specs.contracts.tree.Stmt as stmt
use Rattle.loop_tree.specs.Lines.{flat, flats}
use Rattle.loop_tree.specs.Program.{FitsLine, leaves, some_leaves, depth, depths}

pub record Body : Type 0 where
  pub statements : List Stmt
  -- so many braces may be open in them at once
  pub room : ℕ
  -- they stand in a loop of their function, so break and continue may stand in them
  pub in_loop : Bool

-- what the grammar demands of the statements there
pub record IsBody (body : Body) : Type 0 where
  pub numbers : AllByRecursion FitsLine (flats body.statements)
  pub loops : some_leaves body.statements ≡ true → body.in_loop ≡ true
  pub braces : depths body.statements ≤ body.room
  pub room : body.room ≤ 999

-- with one more statement
abbrev pub with_statement : Body → Stmt → Body
with_statement body s = record body { statements = body.statements ++ s ∷ [] }

-- one more statement may stand there
pub record Stands (body : Body) (s : Stmt) : Type 0 where
  pub numbers : AllByRecursion FitsLine (flat s)
  pub loops : leaves s ≡ true → body.in_loop ≡ true
  pub braces : depth s ≤ body.room

-- a body is stored as its three fields
abbrev pub body_code : Coded Body
body_code = code_by (List Stmt × (ℕ × Bool)) (coded× (coded_list stmt.the_row.coded) (coded× coded_ℕ coded_bool))
    (λ b. (b.statements, (b.room, b.in_loop))) (λ p. record { statements = p.0; room = p.1.0; in_loop = p.1.1 }) (λ _. refl)
