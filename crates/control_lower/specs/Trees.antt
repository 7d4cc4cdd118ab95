-- An expression over scalars, as the scalar statements that evaluate its parts and the element tree that is left. A part is held
-- by a scalar of the lowering, so that it is evaluated once, in its turn.
use Rattle.std.specs.Prelude.{ℕ, pos, Option, Some, None, List, [], ◌∷◌, ◌++◌, length, slice_get}
use Rattle.a95_base.specs.declared.scalar.Kind.{Kind}
use Rattle.a95_base.specs.declared.scalar.Kind.TheVariants as kind
use Rattle.f95_unit.specs.declared.facts.Facts.{Facts}
use Rattle.f95_unit.specs.declared.unit.DeclaredType.{DeclaredType}
use Rattle.f95_unit.specs.declared.unit.DeclaredType.TheVariants as declared
use Rattle.f95_unit.specs.declared.unit.Length.TheVariants as long
use Rattle.f95_unit.specs.declared.unit.Role.{Role}
use Rattle.f95_unit.specs.declared.unit.Role.TheVariants as role
use Rattle.f95_unit.specs.Plain.{Expr, typed, Literal, Constant, Named, Brackets, Unary, Binary, Elementwise, Trim, Asked}
use Rattle.f95_unit.specs.Plain.{Designator, at, Arguments, no_argument, argument, Name, Bounds, Scalars, Entity}
use Rattle.array_meaning.specs.Expressions.{facts_of}
use Rattle.nest_tree.specs.declared.access.Access.{Access}
use Rattle.nest_tree.specs.declared.access.Name.TheVariants as name
use Rattle.nest_tree.specs.declared.tree.Question.TheVariants as question
use Rattle.nest_tree.specs.declared.unit.Sort.{Sort}
use Rattle.nest_tree.specs.declared.unit.Sort.TheVariants as sort
use Rattle.nest_tree.specs.Plain as nest
use Rattle.nest_tree.specs.Plain.{Tree, Trees, no_tree, tree, Statements, Set, no_statement, statement, joined}
use Rattle.nest_tree.specs.Sound.{sort_of_type}

-- ---- sorts

abbrev pub sort_of_kind : Kind → Sort
sort_of_kind kind.Int = sort.Int
sort_of_kind kind.Log = sort.Log
sort_of_kind kind.Text = sort.Text

abbrev pub sort_of : Facts → Sort
sort_of f = sort_of_kind f.kind

abbrev pub sort_of_expr : Expr → Sort
sort_of_expr e = sort_of (facts_of e)

abbrev pub sorts_of : Arguments → List (ℕ × Option Sort)
sorts_of no_argument = []
sorts_of (argument place e es) = (place, Some (sort_of_expr e)) ∷ sorts_of es

-- what a scalar variable of the procedure's own holds
abbrev pub sort_of_own : DeclaredType → Bounds → Role → Option Sort
sort_of_own (declared.Character long.Assumed) bounds r = None
sort_of_own of Scalars role.Own = Some (sort_of_type of)
sort_of_own of bounds r = None

abbrev pub sort_of_entity : Option Entity → Option Sort
sort_of_entity None = None
sort_of_entity (Some e) = sort_of_own e.of e.bounds e.role

abbrev pub sort_at : List Entity → ℕ → Option Sort
sort_at entities n = sort_of_entity (slice_get entities n)

-- ---- what is left of an expression

-- the statements before, the tree, and the sorts of all scalars of the lowering that are taken behind
pub record Lowered : Type 0 where
  pub parts : Statements
  pub tree : Tree
  pub scalars : List Sort

pub record LoweredAll : Type 0 where
  pub parts : Statements
  pub trees : Trees
  pub scalars : List Sort

abbrev pub one : Statements → Tree → List Sort → Lowered
one parts t scalars = record { parts = parts; tree = t; scalars = scalars }

abbrev pub changed : (Tree → Tree) → Lowered → Lowered
changed f l = one l.parts (f l.tree) l.scalars

abbrev pub both : (Tree → Tree → Tree) → Lowered → Lowered → Lowered
both f first second = one (joined first.parts second.parts) (f first.tree second.tree) second.scalars

abbrev pub and_then : (Tree → Tree → Tree) → Lowered → (List Sort → Lowered) → Lowered
and_then f first next = both f first (next first.scalars)

-- the value held by one more scalar
abbrev pub held : ℕ → Sort → Lowered → Lowered
held line s l = one
    (joined l.parts (statement (Set line (length l.scalars) l.tree) no_statement))
    (nest.Fixed (length l.scalars))
    (l.scalars ++ s ∷ [])

-- a tree over held arguments, held as well
abbrev pub of_all : ℕ → Sort → (Trees → Tree) → LoweredAll → Lowered
of_all line s f l = held line s (one l.parts (f l.trees) l.scalars)

abbrev pub with_argument : ℕ → Lowered → LoweredAll → LoweredAll
with_argument place first rest =
    record { parts = joined first.parts rest.parts; trees = tree place first.tree rest.trees; scalars = rest.scalars }

abbrev pub argument_then : ℕ → Lowered → (List Sort → LoweredAll) → LoweredAll
argument_then place first next = with_argument place first (next first.scalars)

-- a scalar variable as an access
abbrev pub whole : ℕ → Access
whole n = record { name = name.Own n; dimensions = []; portion = None }

abbrev pub variable_of : Designator → ℕ
variable_of (at n access part) = n

module _ (line : ℕ) where
  abbrev mutual
    pub lowered : List Sort → Expr → Lowered
    lowered taken (typed f (Literal x)) = one no_statement (nest.Literal x) taken
    lowered taken (typed f (Constant n)) = one no_statement (nest.Constant n) taken
    lowered taken (typed f (Named d)) = one no_statement (nest.Read (whole (variable_of d))) taken
    lowered taken (typed f (Brackets e)) = lowered taken e
    lowered taken (typed f (Unary op e)) = changed (nest.Unary op) (lowered taken e)
    lowered taken (typed f (Binary op e g)) = and_then (nest.Binary op) (lowered taken e) (λ more. lowered more g)
    lowered taken (typed f (Elementwise which es)) = of_all line (sort_of f) (nest.Each which) (arguments taken es)
    lowered taken (typed f (Trim e)) = held line sort.Text (changed nest.Trim (lowered taken e))
    lowered taken (typed f (Asked which dim (Name n))) = one no_statement (nest.Wrapped (nest.Asked question.Length (name.Own n)))
        taken
    lowered taken other = one no_statement (nest.Number (pos 0)) taken

    -- each argument is evaluated wholly before the next one
    pub arguments : List Sort → Arguments → LoweredAll
    arguments taken no_argument = record { parts = no_statement; trees = no_tree; scalars = taken }
    arguments taken (argument place e es) =
        argument_then place (held line (sort_of_expr e) (lowered taken e)) (λ more. arguments more es)
