-- How many elements an array value has: at most 2^24. Designators, constructors, reductions and what puts elements into other
-- places test it, and what acts element by element has as many as its operands. What an inquiry lists, and the places of MAXLOC
-- and MINLOC, are as many as an array has dimensions, and the result of a call is tested where it is declared.
use Rattle.std.specs.Prelude.{◌≡◌, ◌⊎◌, ℕ, ℤ, ◌≤◌, Bool, true, false, Option, List, length, Ok}
use Rattle.a95_base.specs.declared.scalar.Scalar.{Scalar}
use Rattle.a95_base.specs.Limits.{most_elements}
use Rattle.f95_unit.specs.declared.operation.Inquiry.{Inquiry}
use Rattle.f95_unit.specs.declared.operation.Reduction.{Reduction}
use Rattle.f95_unit.specs.declared.operation.Reduction.TheVariants as reduction
use Rattle.f95_unit.specs.Plain.{Expr, typed, Literal, Constant, Index, Named, Brackets, Unary, Binary, Constructor, Elementwise}
use Rattle.f95_unit.specs.Plain.{Trim, Asked, Reduced, Rearranged, Called, Arguments, no_argument, argument, call, Program}
use Rattle.array_meaning.specs.Values.{Value, size_of}
use Rattle.array_meaning.specs.State.{Dimension, State}
use Rattle.array_meaning.specs.Reductions.{inquired, reduction_of}
use Rattle.array_meaning.specs.Trees.{Passed, Caller}
use Rattle.array_meaning.specs.Expressions.{reduction_values, answer, evaluate}
use Rattle.array_meaning.specs.Purity.{Refers}
use Rattle.array_meaning.specs.Reads.{Either, Whenever, SeesActualsAlone}

abbrev pub IsLimited : Value → Type 0
IsLimited v = size_of v.extents ≤ most_elements

abbrev pub ResultsAreLimited : Caller → ℕ → Type 0
ResultsAreLimited calls p = (line : ℕ) (actuals : List (ℕ × Passed)) (s : State) (v : Value) → (calls p line actuals s).came ≡ Ok v
    → IsLimited v

-- MAXLOC and MINLOC have an element for each dimension
abbrev pub is_of_places : Reduction → Bool
is_of_places reduction.Maxloc = true
is_of_places reduction.Minloc = true
is_of_places which = false

-- ---- what an expression takes as it is: inquiries, reductions of places, and results of calls

module _ (unit : Program) (calls : Caller) (line : ℕ) (s : State) where
  abbrev mutual
    pub TakesLimited : List ℤ → Expr → Type 0
    TakesLimited ix (typed f (Literal x)) = Unit {0}
    TakesLimited ix (typed f (Constant n)) = Unit {0}
    TakesLimited ix (typed f (Index i)) = Unit {0}
    TakesLimited ix (typed f (Named d)) = Unit {0}
    TakesLimited ix (typed f (Brackets e)) = TakesLimited ix e
    TakesLimited ix (typed f (Unary op e)) = TakesLimited ix e
    TakesLimited ix (typed f (Binary op e g)) = TakesLimited ix e × TakesLimited ix g
    TakesLimited ix (typed f (Constructor items)) = Unit {0}
    TakesLimited ix (typed f (Elementwise which es)) = AllTakeLimited ix es
    TakesLimited ix (typed f (Trim e)) = Unit {0}
    TakesLimited ix (typed f (Asked which dim subject)) = Whenever s
        (answer unit calls line ix which dim subject) IsLimited
    TakesLimited ix (typed f (Reduced which dim es)) = Either (is_of_places which)
        (Whenever s (reduction_values unit calls line ix which es) (λ vs. (v : Value) → reduction_of which dim vs ≡ Ok v →
        IsLimited v))
        (Unit {0})
    TakesLimited ix (typed f (Rearranged which dim es)) = AllTakeLimited ix es
    TakesLimited ix (typed f (Called (call p es))) = ResultsAreLimited calls p × AllTakeLimited ix es

    pub AllTakeLimited : List ℤ → Arguments → Type 0
    AllTakeLimited ix no_argument = Unit {0}
    AllTakeLimited ix (argument place e es) = TakesLimited ix e × AllTakeLimited ix es

-- ---- the laws

-- the value of an expression is limited, if what it takes as it is is so
abbrev pub ValuesAreLimited : Type 0
ValuesAreLimited = (unit : Program) (calls : Caller) (line : ℕ) (s : State) (ix : List ℤ) (e : Expr)
    → Refers (SeesActualsAlone calls) e → TakesLimited unit calls line s ix e → (v : Value)
    → (evaluate unit calls line ix e s).came ≡ Ok v → IsLimited v

-- an inquiry gives one element, or one for each dimension of what it asks about
abbrev pub InquiriesAreLimited : Type 0
InquiriesAreLimited = (which : Inquiry) (dim : Option ℕ) (bounds : List Dimension) (x : Scalar)
    → (size_of (inquired which dim bounds x).extents ≡ 1) ⊎ (size_of (inquired which dim bounds x).extents ≡ length bounds)

-- a reduction gives a limited value, if it isn't one of places
abbrev pub ReductionsAreLimited : Type 0
ReductionsAreLimited = (which : Reduction) (dim : Option ℕ) (xs : List (ℕ × Value)) (v : Value) → is_of_places which ≡ false
    → reduction_of which dim xs ≡ Ok v → IsLimited v
