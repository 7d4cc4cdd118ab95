-- How many terminals spell what a source of the first form has.
use Rattle.std.specs.Prelude.{ℕ, ◌+◌, length}
use Rattle.std.specs.List.{sum_by}
use Rattle.f95_tree.specs.Forms.{declaration_text, action_text}
use Rattle.a95_base.specs.declared.source.Line.{Line}
use Rattle.f95_tree.specs.declared.declaration.Declaration.{Declaration}
use Rattle.f95_tree.specs.declared.source.Source.{Source}
use Rattle.f95_tree.specs.declared.source.Statement.{Statement}
use Rattle.f95_tree.specs.declared.source.Statement.TheOpen.{Statement-F}
use Rattle.f95_tree.specs.declared.source.Statement.TheOpen as statement
use Rattle.f95_tree.specs.declared.source.Statement.TheFolds.{fold-Statement}

-- those of a statement that stands in no block
abbrev pub terminals_at : Statement-F ℕ (Unit {0}) (Unit {0}) (Unit {0}) → ℕ
terminals_at (statement.Action l a) = length (action_text a)
terminals_at _ = 0

abbrev pub statement_terminals : Statement → ℕ
statement_terminals = fold-Statement ℕ (Unit {0}) (Unit {0}) (Unit {0}) terminals_at (λ _. tt) (λ _. tt) (λ _. tt)

-- those of the declarations and statements of a main program
abbrev pub terminals_in : Source → ℕ
terminals_in s = sum_by (λ (d : Line × Declaration). length (declaration_text d.1)) s.main.section.declarations
    + sum_by statement_terminals s.main.body
