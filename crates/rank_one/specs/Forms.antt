-- Which trees of the reader are of the first form, and what they are: sums of terms of whole names and numbers, assignments and
-- prints of whole names, INTEGER arrays with one upper bound. The laws of src/laws.rt join this to how a statement is printed.
use Rattle.std.specs.Prelude.{◌≡◌, ℕ, ℤ, pos, negsuc, nat_le, Bool, true, false, ◌&&◌, List, [], ◌∷◌, ◌++◌, if◌then◌else◌, Option}
use Rattle.std.specs.Prelude.{Some, None, Result, Ok, Err}
use Rattle.f95_tree.specs.Forms.{Word}
use Rattle.f95_tree.specs.declared.expression.Expression.{Expression}
use Rattle.f95_tree.specs.declared.expression.Expression.TheOpen.{Expression-F, Reference-F}
use Rattle.f95_tree.specs.declared.expression.Expression.TheOpen as layer
use Rattle.f95_tree.specs.declared.expression.Expression.TheFolds.{fold-Expression, fold-Reference}
use Rattle.f95_tree.specs.declared.expression.Reference.{Reference}
use Rattle.f95_tree.specs.declared.expression.Literal.{Literal}
use Rattle.f95_tree.specs.declared.expression.Literal.TheVariants as literal
use Rattle.f95_tree.specs.declared.terminal.Operator.{Operator}
use Rattle.f95_tree.specs.declared.terminal.Operator.TheVariants as operator
use Rattle.f95_tree.specs.declared.action.Action.{Action}
use Rattle.f95_tree.specs.declared.action.Action.TheVariants as act
use Rattle.f95_tree.specs.declared.declaration.Declaration.{Declaration}
use Rattle.f95_tree.specs.declared.declaration.Entity.{Entity}
use Rattle.f95_tree.specs.declared.declaration.TypeSpec.{TypeSpec}
use Rattle.f95_tree.specs.declared.declaration.TypeSpec.TheVariants as type_spec
use Rattle.f95_tree.specs.declared.declaration.Dim.{Dim}
use Rattle.f95_tree.specs.declared.declaration.Dim.TheVariants as dim
use Rattle.f95_tree.specs.declared.source.Statement.{Statement}
use Rattle.f95_tree.specs.declared.source.Statement.TheOpen.{Statement-F}
use Rattle.f95_tree.specs.declared.source.Statement.TheOpen as statement
use Rattle.f95_tree.specs.declared.source.Statement.TheFolds.{fold-Statement}
use Rattle.f95_tree.specs.declared.source.WhereBlock.{WhereBlock}
use Rattle.f95_tree.specs.declared.source.WhereStatement.TheFolds.{fold-WhereBlock}
use Rattle.rank_one.specs.declared.failure.Failure.{Failure}
use Rattle.rank_one.specs.declared.failure.Failure.TheVariants as failure
use Rattle.rank_one.specs.declared.form.NamedAction.{NamedAction}
use Rattle.rank_one.specs.declared.form.NamedAction.TheVariants as action
use Rattle.rank_one.specs.declared.form.NamedArray.{NamedArray}
use Rattle.rank_one.specs.declared.form.NamedSum.{NamedSum}
use Rattle.rank_one.specs.declared.form.NamedTerm.{NamedTerm}
use Rattle.rank_one.specs.declared.form.NamedFactor.{NamedFactor}
use Rattle.rank_one.specs.declared.form.NamedFactor.TheVariants as factor

infixl 10 ◌>>=◌
abbrev pub ◌>>=◌ : {A B : Type 0} → Option A → (A → Option B) → Option B
None >>= f = None
(Some x) >>= f = f x

-- a tree is of another form, unless memory runs out
abbrev pub Fails : {A : Type 0} → Failure → Option A → Type 0
Fails failure.OtherForm is = is ≡ None
Fails failure.Memory is = Unit {0}

-- the result is what a tree is
abbrev pub Gives : {A B : Type 0} → (A → B) → Result A Failure → Option B → Type 0
Gives view (Ok x) is = is ≡ Some (view x)
Gives view (Err e) is = Fails e is

-- this, where the list is empty
abbrev pub alone : {A B : Type 0} → List A → B → Option B
alone [] x = Some x
alone (_ ∷ _) x = None

-- Expressions.

abbrev pub natural_in : ℤ → Option ℕ
natural_in (pos n) = if nat_le n 2147483647 then Some n else None
natural_in (negsuc n) = None

abbrev pub number_in : Literal → Option ℕ
number_in (literal.Number n) = natural_in n
number_in _ = None

abbrev pub one_factor : NamedFactor → NamedSum
one_factor f = record { first = record { first = f; rest = [] }; rest = [] }

-- the one term of a sum, and the one factor of a term
abbrev pub term_in : NamedSum → Option NamedTerm
term_in s = alone s.rest s.first

abbrev pub factor_in : NamedTerm → Option NamedFactor
factor_in t = alone t.rest t.first

-- a term times a factor
abbrev pub multiplied : NamedSum → NamedSum → Option NamedSum
multiplied a b = do
  left ← term_in a
  right ← term_in b
  f ← factor_in right
  Some (record { first = record { first = left.first; rest = left.rest ++ f ∷ [] }; rest = [] })

-- a sum, and a term that is added or subtracted
abbrev pub added : Bool → NamedSum → NamedSum → Option NamedSum
added minus a b = do
  right ← term_in b
  Some (record { first = a.first; rest = a.rest ++ record { minus = minus; term = right } ∷ [] })

abbrev pub joined : Operator → NamedSum → NamedSum → Option NamedSum
joined operator.Multiply a b = multiplied a b
joined operator.Add a b = added false a b
joined operator.Subtract a b = added true a b
joined _ a b = None

abbrev pub name_at : Reference-F (Option NamedSum) (Unit {0}) (Option Word) (Unit {0}) → Option Word
name_at (layer.Whole n) = Some n
name_at _ = None

abbrev pub sum_at : Expression-F (Option NamedSum) (Unit {0}) (Option Word) (Unit {0}) → Option NamedSum
sum_at (layer.Literal l) = do
  n ← number_in l
  Some (one_factor (factor.Number n))
sum_at (layer.Reference r) = do
  n ← r
  Some (one_factor (factor.Name n))
sum_at (layer.Binary op a b) = do
  left ← a
  right ← b
  joined op left right
sum_at _ = None

-- a whole name
abbrev pub whole : Reference → Option Word
whole = fold-Reference (Option NamedSum) (Unit {0}) (Option Word) (Unit {0}) sum_at (λ _. tt) name_at (λ _. tt)

-- a sum of terms of factors, bound from left to right, without brackets and signs
abbrev pub sum_in : Expression → Option NamedSum
sum_in = fold-Expression (Option NamedSum) (Unit {0}) (Option Word) (Unit {0}) sum_at (λ _. tt) name_at (λ _. tt)

-- Statements.

abbrev pub sole_factor : Expression → Option NamedFactor
sole_factor e = do
  s ← sum_in e
  t ← term_in s
  factor_in t

abbrev pub name_of_factor : NamedFactor → Option Word
name_of_factor (factor.Name n) = Some n
name_of_factor (factor.Number n) = None

abbrev pub number_of_factor : NamedFactor → Option ℕ
number_of_factor (factor.Name n) = None
number_of_factor (factor.Number n) = Some n

abbrev pub name_in : Expression → Option Word
name_in e = sole_factor e >>= name_of_factor

abbrev pub names_from : List Word → List Expression → Option (List Word)
names_from names [] = Some names
names_from names (e ∷ es) = do
  n ← name_in e
  names_from (names ++ n ∷ []) es

-- at least one name
abbrev pub print_in : List Expression → Option NamedAction
print_in [] = None
print_in (e ∷ es) = do
  first ← name_in e
  rest ← names_from [] es
  Some (action.Print first rest)

abbrev pub assignment_in : Reference → Expression → Option NamedAction
assignment_in to value = do
  target ← whole to
  sum ← sum_in value
  Some (action.Assign target sum)

abbrev pub action_in : Action → Option NamedAction
action_in (act.Assignment a) = assignment_in a.to a.value
action_in (act.Print es) = print_in es
action_in _ = None

abbrev pub named_at : Statement-F (Option NamedAction) (Unit {0}) (Unit {0}) (Unit {0}) → Option NamedAction
named_at (statement.Action l a) = action_in a
named_at _ = None

abbrev pub named_in : Statement → Option NamedAction
named_in = fold-Statement (Option NamedAction) (Unit {0}) (Unit {0}) (Unit {0}) named_at (λ _. tt) (λ _. tt) (λ _. tt)

-- the line of a statement, or of the first statement of a block
abbrev pub where_line : WhereBlock → ℕ
where_line = fold-WhereBlock (Unit {0}) (Unit {0}) ℕ (λ _. tt) (λ _. tt) (λ b. b.line.0)

abbrev pub line_at : Statement-F ℕ (Unit {0}) (Unit {0}) (Unit {0}) → ℕ
line_at (statement.Action l _) = l.0
line_at (statement.If l _ _) = l.0
line_at (statement.IfBlock l _ _ _ _ _ _) = l.0
line_at (statement.Select l _ _ _ _) = l.0
line_at (statement.Do l _ _ _ _) = l.0
line_at (statement.Where b) = where_line b
line_at (statement.Forall l _ _ _) = l.0

abbrev pub statement_line : Statement → ℕ
statement_line = fold-Statement ℕ (Unit {0}) (Unit {0}) (Unit {0}) line_at (λ _. tt) (λ _. tt) (λ _. tt)

-- Declarations.

abbrev pub constant_in : Expression → Option ℕ
constant_in e = sole_factor e >>= number_of_factor

-- one upper bound, which is a number
abbrev pub bound_in : Dim → Option ℕ
bound_in (dim.Upper e) = constant_in e
bound_in _ = None

abbrev pub extent_in : List Dim → Option ℕ
extent_in [] = None
extent_in (d ∷ ds) = alone ds d >>= bound_in

-- bounds, and no initial value
abbrev pub array_with : Word → Option (List Dim) → Option Expression → Option NamedArray
array_with n (Some dims) None = do
  extent ← extent_in dims
  Some (record { name = n; extent = extent })
array_with n _ _ = None

abbrev pub array_in : Entity → Option NamedArray
array_in e = array_with e.name e.dims e.initial

abbrev pub arrays_from : List NamedArray → List Entity → Option (List NamedArray)
arrays_from arrays [] = Some arrays
arrays_from arrays (e ∷ es) = do
  a ← array_in e
  arrays_from (arrays ++ a ∷ []) es

abbrev pub is_integer : TypeSpec → Bool
is_integer type_spec.Integer = true
is_integer _ = false

-- INTEGER without attributes
abbrev pub arrays_in : Declaration → Option (List NamedArray)
arrays_in d = if is_integer d.of then (alone d.attributes d.entities >>= arrays_from []) else None
