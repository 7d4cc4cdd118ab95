-- Statements judged one after another: their forms so far, and the rules that they broke so far.
use Rattle.std.specs.Prelude.{◌≡◌, ℕ, List, [], ◌∷◌, ◌++◌}
use Rattle.a95_base.specs.Lists.{Member}
use Rattle.a95_base.specs.declared.breaks.Break.{Break}
use Rattle.a95_base.specs.Breaks.{IsLeast, AreBroken, broken_at}
use Rattle.a95_base.specs.declared.source.PhaseError.{PhaseError}
use Rattle.a95_base.specs.declared.source.PhaseError.TheVariants as error
use Rattle.f95_lexer.specs.declared.token.Statement.{Statement}
use Rattle.f95_parser.specs.Rules.{Broken}
use Rattle.f95_nesting.specs.Nesting.{Lined}
use Rattle.f95_reader.specs.Reading.{IsFormOf, AreForms}

-- one of the statements breaks the rule on the line
pub record OneBreaks (statements : List Statement) (line rule : ℕ) : Type 0 where
  pub statement : Statement
  pub among : Member statements statement
  pub broken : Broken statement.line.0 statement.tokens line rule

-- the breaks are what the statements break; where there is none, these are their forms
pub record Judged (statements : List Statement) (forms : List Lined) (breaks : List Break) : Type 0 where
  pub broken : AreBroken (OneBreaks statements) breaks
  pub formed : breaks ≡ [] → AreForms statements forms

-- what one statement more adds: its form, or the rule that it breaks
pub data Adds (s : Statement) (forms : List Lined) (breaks : List Break) : List Lined → List Break → Type 0 where
  form : (f : Lined) → IsFormOf s f → Adds s forms breaks (forms ++ f ∷ []) breaks
  broken : (line rule : ℕ) → Broken s.line.0 s.tokens line rule → Adds s forms breaks forms (breaks ++ broken_at line rule ∷ [])

-- whatever the rest is judged to be, the whole is, with what stands before
pub record GoesOn (whole rest : List Statement) (forms : List Lined) (breaks : List Break) : Type 0 where
  pub on : (more : List Lined) (others : List Break) → Judged rest more others → Judged whole (forms ++ more) (breaks ++ others)

-- what a refusal of the statements says
abbrev pub RefusesForms : List Statement → PhaseError → Type 0
RefusesForms statements (error.Broken line rule) = IsLeast (OneBreaks statements) line.0 rule.0
RefusesForms statements error.Memory = Unit {0}
