-- What is known of questions, and of well typed expressions.
use Rattle.std.specs.Prelude.{◌≡◌, ℕ, ◌≤◌, List, length}
use Rattle.std.specs.Option.{is_none}
use Rattle.a95_base.specs.Limits.{greatest_rank as most_dimensions}
use Rattle.a95_base.specs.declared.scalar.Scalar.{Scalar}
use Rattle.a95_base.specs.Lists.{Every}
use Rattle.f95_unit.specs.declared.facts.Facts.{Facts}
use Rattle.f95_unit.specs.Plain.{Expr}
use Rattle.well_typed.specs.Shapes.{rank}
use Rattle.well_typed.specs.Known.{facts_of}
use Rattle.well_typed.specs.WellTyped.{TypedExpr}
use Rattle.well_typed.specs.WellTypedStatements.{Maybe}
use Rattle.well_typed.specs.declared.known.Callee.{Callee}
use Rattle.well_typed.specs.declared.known.Variable.{Variable}
use Rattle.well_typed.specs.Questions.{Question}
use Rattle.well_typed.specs.Rules.{is_settled, rule_of}

-- a question is settled exactly where it breaks no rule
abbrev pub SettledBreaksNone : Type 0
SettledBreaksNone = (q : Question) → is_settled q ≡ is_none (rule_of q)

abbrev pub HasSmallRank : Facts → Type 0
HasSmallRank f = rank f ≤ most_dimensions

abbrev pub VariablesAreSmall : List Variable → Type 0
VariablesAreSmall variables = Every (λ (v : Variable). length v.dims ≤ most_dimensions) variables

abbrev pub ResultsAreSmall : List Callee → Type 0
ResultsAreSmall callees = Every (λ (p : Callee). Maybe HasSmallRank p.result) callees

-- where variables and results of functions have at most seven dimensions, so has each expression
abbrev pub RanksAreSmall : Type 0
RanksAreSmall = (constants : List Scalar) (variables : List Variable) (callees : List Callee) → VariablesAreSmall variables
    → ResultsAreSmall callees → (ix : ℕ) (e : Expr) → TypedExpr constants variables callees ix e → HasSmallRank (facts_of e)
