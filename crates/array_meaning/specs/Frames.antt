-- What a step leaves alone, and what it doesn't look at.
use Rattle.std.specs.Prelude.{◌≡◌, ◌≢◌, ℕ, ℤ, List, slice_index_or, slice_set}
use Rattle.a95_base.specs.declared.scalar.Scalar.{Scalar}
use Rattle.f95_unit.specs.Plain.{Expr, typed, Literal, Constant, Index, Named, Brackets, Unary, Binary, Constructor, Elementwise}
use Rattle.f95_unit.specs.Plain.{Trim, Asked, Reduced, Rearranged, Called, Designator, at, Access, Whole, Subscripted, Subscripts}
use Rattle.f95_unit.specs.Plain.{no_subscript, subscript, Subscript, One, Vector, SubscriptTriplet, Bound, Absent, Given, Part}
use Rattle.f95_unit.specs.Plain.{AllOf, BytesOf, Items, no_item, value, loop, Arguments, no_argument, argument, Subject, Name, Of}
use Rattle.f95_unit.specs.Plain.{call, Program}
use Rattle.array_meaning.specs.State.{Variable, State, Step, Substring, store_all}
use Rattle.array_meaning.specs.Trees.{Passed, Caller}
use Rattle.array_meaning.specs.Expressions.{procedure_at, evaluate}
use Rattle.array_meaning.specs.Calls.{called}
use Rattle.array_meaning.specs.Purity.{Refers, HasNoOut}

-- ---- a variable that an expression doesn't name

abbrev mutual
  pub Avoids : ℕ → Expr → Type 0
  Avoids k (typed f (Literal x)) = Unit {0}
  Avoids k (typed f (Constant n)) = Unit {0}
  Avoids k (typed f (Index i)) = Unit {0}
  Avoids k (typed f (Named d)) = AvoidsDesignator k d
  Avoids k (typed f (Brackets e)) = Avoids k e
  Avoids k (typed f (Unary op e)) = Avoids k e
  Avoids k (typed f (Binary op e g)) = Avoids k e × Avoids k g
  Avoids k (typed f (Constructor items)) = AvoidsItems k items
  Avoids k (typed f (Elementwise which es)) = AvoidsArguments k es
  Avoids k (typed f (Trim e)) = Avoids k e
  Avoids k (typed f (Asked which dim subject)) = AvoidsSubject k subject
  Avoids k (typed f (Reduced which dim es)) = AvoidsArguments k es
  Avoids k (typed f (Rearranged which dim es)) = AvoidsArguments k es
  Avoids k (typed f (Called (call p es))) = AvoidsArguments k es

  pub AvoidsArguments : ℕ → Arguments → Type 0
  AvoidsArguments k no_argument = Unit {0}
  AvoidsArguments k (argument place e es) = Avoids k e × AvoidsArguments k es

  pub AvoidsSubject : ℕ → Subject → Type 0
  AvoidsSubject k (Name n) = n ≢ k
  AvoidsSubject k (Of e) = Avoids k e

  pub AvoidsDesignator : ℕ → Designator → Type 0
  AvoidsDesignator k (at n access part) = (n ≢ k) × AvoidsAccess k access × AvoidsPart k part

  pub AvoidsAccess : ℕ → Access → Type 0
  AvoidsAccess k Whole = Unit {0}
  AvoidsAccess k (Subscripted ss) = AvoidsSubscripts k ss

  pub AvoidsSubscripts : ℕ → Subscripts → Type 0
  AvoidsSubscripts k no_subscript = Unit {0}
  AvoidsSubscripts k (subscript s ss) = AvoidsSubscript k s × AvoidsSubscripts k ss

  pub AvoidsSubscript : ℕ → Subscript → Type 0
  AvoidsSubscript k (One e) = Avoids k e
  AvoidsSubscript k (Vector e) = Avoids k e
  AvoidsSubscript k (SubscriptTriplet first last stride) = AvoidsBound k first × AvoidsBound k last × AvoidsBound k stride

  pub AvoidsBound : ℕ → Bound → Type 0
  AvoidsBound k Absent = Unit {0}
  AvoidsBound k (Given e) = Avoids k e

  pub AvoidsPart : ℕ → Part → Type 0
  AvoidsPart k AllOf = Unit {0}
  AvoidsPart k (BytesOf first last) = AvoidsBound k first × AvoidsBound k last

  pub AvoidsItems : ℕ → Items → Type 0
  AvoidsItems k no_item = Unit {0}
  AvoidsItems k (value e more) = Avoids k e × AvoidsItems k more
  AvoidsItems k (loop body first last step more) = AvoidsItems k body × Avoids k first × Avoids k last × AvoidsBound k step ×
      AvoidsItems k more

-- another value in a variable
abbrev pub with_variable : ℕ → Variable → State → State
with_variable k v s = record s { variables = slice_set s.variables k v }

-- a step that comes to the same whatever the variable holds, and leaves it as it is
pub record Ignores {A : Type 0} (k : ℕ) (v : Variable) (m : Step A) : Type 0 where
  pub ignores : (s : State) → m (with_variable k v s) ≡ record { came = (m s).came; after = with_variable k v (m s).after }

-- a call of a procedure comes to the same whatever the variable holds
abbrev pub CallIgnores : ℕ → Variable → Caller → ℕ → Type 0
CallIgnores k v calls p = (line : ℕ) (actuals : List (ℕ × Passed)) → Ignores k v (calls p line actuals)

-- the value of an expression doesn't depend on a variable that it doesn't name, if its calls don't
abbrev pub ValuesIgnoreOthers : Type 0
ValuesIgnoreOthers = (unit : Program) (calls : Caller) (line k : ℕ) (v : Variable) (ix : List ℤ) (e : Expr)
    → Refers (CallIgnores k v calls) e → Avoids k e → Ignores k v (evaluate unit calls line ix e)

-- a procedure that modifies no dummy sees the values of its actuals, and nothing else of its caller
abbrev pub FunctionCallsIgnore : Type 0
FunctionCallsIgnore = (unit : Program) (depth p k : ℕ) (v : Variable) → HasNoOut (procedure_at unit p)
    → CallIgnores k v (called unit depth) p

-- ---- stores

-- a store changes its variable alone
pub record LeavesAlone (n : ℕ) (before after : State) : Type 0 where
  pub variables : (k : ℕ) (d : Variable) → k ≢ n → slice_index_or after.variables k d ≡ slice_index_or before.variables k d
  pub input : after.input ≡ before.input
  pub written : after.written ≡ before.written
  pub left : after.left ≡ before.left

abbrev pub StoresLeaveOthers : Type 0
StoresLeaveOthers = (n : ℕ) (bytes : Substring) (stores : List (ℕ × Scalar)) (s : State) → LeavesAlone n s
    (store_all n bytes stores s).after
