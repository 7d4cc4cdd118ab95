-- What is known of the rules.
use Rattle.std.specs.Prelude.{◌≡◌, ℕ, List, length, Option, Some, None}
use Rattle.a95_base.specs.declared.breaks.Break.{Break}
use Rattle.a95_base.specs.Breaks.{AreBroken, IsLeast, first_of}
use Rattle.f95_tree.specs.Forms.{Word}
use Rattle.shape_check.specs.Statements.{Stmts, Source}
use Rattle.shape_check.specs.Broken.{Breaks, IsUnbroken, HasUnit}
use Rattle.shape_check.specs.Listed.{breaks_of}
use Rattle.shape_check.specs.Asked.{asked_rule, breaks_told}
use Rattle.names_types.specs.Plain as source
use Rattle.f95_unit.specs.Plain.{Expr, Program}
use Rattle.shape_check.specs.Names.{Names}
use Rattle.shape_check.specs.Expressions.{expr_of}
use Rattle.shape_check.specs.Blocks.{stmts_of}
use Rattle.well_typed.specs.WellTyped.{TypedExpr}
use Rattle.well_typed.specs.WellTypedStatements.{TypedStmts}
use Rattle.shape_check.specs.Units.{posed, unit_of}
use Rattle.well_typed.specs.WellTypedUnits.{WellTyped}

-- the list has all that a source breaks, and nothing else
abbrev pub ListedAreBroken : Type 0
ListedAreBroken = (s : Source) → AreBroken (Breaks s) (breaks_of s)

-- the first of them is what a refusal says, and where there is none nothing is broken
abbrev pub FirstIsLeast : Type 0
FirstIsLeast = (s : Source) (b : Break) → first_of (breaks_of s) ≡ Some b → IsLeast (Breaks s) b.line b.rule

abbrev pub NoneIsUnbroken : Type 0
NoneIsUnbroken = (s : Source) → first_of (breaks_of s) ≡ None → (line rule : ℕ) → Breaks s line rule → ⊥

-- the least rule of each question is enough to tell the first break
abbrev pub ToldIsFirst : Type 0
ToldIsFirst = (s : Source) → first_of (breaks_of s) ≡ first_of (breaks_told (posed s))

-- an expression that is made breaks no rule
abbrev pub MadeBreaksNone : Type 0
MadeBreaksNone = (c : Names) (e : source.Expr) (t : Expr) → (expr_of c e).made ≡ Some t → asked_rule (expr_of c e).asked ≡ None

-- what is made of an expression is well typed
abbrev pub ExpressionsAreTyped : Type 0
ExpressionsAreTyped = (c : Names) (e : source.Expr) (t : Expr) → (expr_of c e).made ≡ Some t
    → TypedExpr c.constants c.variables c.callees (length c.indices) t

-- what is made of statements is well typed
abbrev pub StatementsAreTyped : Type 0
StatementsAreTyped = (c : Names) (loops : List (Option Word)) (next : ℕ) (ss : Stmts)
    → TypedStmts c.constants c.variables c.callees (length c.indices) c.dos (stmts_of c loops next ss).is

-- the typed unit of a source is well typed
abbrev pub UnitsAreTyped : Type 0
UnitsAreTyped = (s : Source) → WellTyped (unit_of s)

-- a source has one typed unit at most, and one where it breaks no rule on names and none of this phase
abbrev pub OneUnit : Type 0
OneUnit = (s : Source) (u v : Program) → HasUnit s u → HasUnit s v → u ≡ v

abbrev pub SomeUnit : Type 0
SomeUnit = (s : Source) → IsUnbroken s → HasUnit s (unit_of s)
