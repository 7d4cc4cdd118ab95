-- Well typed statements of a unit. `ix` is the number of indices around, `dos` the variables of the DOs around.
use Rattle.std.specs.Prelude.{ℕ, ◌==◌, false, List, ◌∷◌, ◌++◌, length, Option, Some, None, slice_get}
use Rattle.std.specs.List.{list_any}
use Rattle.a95_base.specs.declared.scalar.Scalar.{Scalar}
use Rattle.a95_base.specs.Lists.{Every}
use Rattle.f95_unit.specs.declared.facts.Facts.{Facts}
use Rattle.f95_unit.specs.Plain.{Expr, Designator, at, Target, Assign, Where, masked, MaskedBody, no_masked, assigning, narrowed}
use Rattle.f95_unit.specs.Plain.{Others, no_other, elsewhere, Triplet, Forall, Span, Allocation, Call, call, Stmt, Assigns, Masks}
use Rattle.f95_unit.specs.Plain.{ForAll, Calls, Allocate, Deallocate, Print, Read, If, Select, Do, While, Forever, Exit, Cycle}
use Rattle.f95_unit.specs.Plain.{Return, Stop, Stmts, no_stmt, stmt, Branches, no_branch, branch, Cases, no_case, case}
use Rattle.well_typed.specs.Shapes.{Extents}
use Rattle.well_typed.specs.Known.{facts_of}
use Rattle.well_typed.specs.Questions.{Bounds, Counts, Stores, Assigns as AssignsTo, Decides, Selects, Allocates, Frees}
use Rattle.well_typed.specs.Questions.{Masks as MasksOf, Fills, Ranges, Takes}
use Rattle.well_typed.specs.Levels.{levels_in, designator_levels}
use Rattle.well_typed.specs.Masks.{joint_around, triplet_levels, fits_indices}
use Rattle.well_typed.specs.WellTyped.{Settled, TypedExpr, TypedDesignator, TypedBound, TypedArguments}
use Rattle.well_typed.specs.declared.known.Callee.{Callee}
use Rattle.well_typed.specs.declared.known.Variable.{Variable}

abbrev pub number_of : Designator → ℕ
number_of (at n access part) = n

abbrev pub Maybe : {A : Type 0} → (A → Type 0) → Option A → Type 0
Maybe P None = Unit {0}
Maybe P (Some a) = P a

module _ (constants : List Scalar) (variables : List Variable) (callees : List Callee) where
  -- an INTEGER scalar
  abbrev pub TypedLimit : ℕ → Expr → Type 0
  TypedLimit ix e = TypedExpr constants variables callees ix e × Settled (Bounds (facts_of e))

  -- ---- assignments

  abbrev pub CanStore : List ℕ → ℕ → Type 0
  CanStore dos n = Settled (Stores (slice_get variables n) (list_any (λ k. k == n) dos))

  abbrev pub TypedPlace : ℕ → List ℕ → Facts → Designator → Type 0
  TypedPlace ix dos f d = TypedDesignator constants variables callees ix f d × CanStore dos (number_of d)

  abbrev pub TypedTarget : ℕ → List ℕ → Target → Type 0
  TypedTarget ix dos t = TypedPlace ix dos t.facts t.designator

  abbrev pub TypedAssign : ℕ → List ℕ → Assign → Type 0
  TypedAssign ix dos a = TypedTarget ix dos a.target
      × (TypedExpr constants variables callees ix a.value × Settled (AssignsTo a.target.facts (facts_of a.value)))

  -- ---- WHERE: `around` is what is known of the shape of the masks around

  abbrev pub TypedMask : ℕ → Option Extents → Expr → Type 0
  TypedMask ix around e = TypedExpr constants variables callees ix e × Settled (MasksOf around (facts_of e))

  abbrev pub within : Option Extents → Expr → Option Extents
  within around mask = Some (joint_around around (facts_of mask).extents)

  abbrev mutual
    pub TypedWhere : ℕ → List ℕ → Option Extents → Where → Type 0
    TypedWhere ix dos around (masked line mask body others) = TypedMask ix around mask
        × (TypedMasked ix dos (within around mask) body × TypedOthers ix dos (within around mask) others)

    pub TypedMasked : ℕ → List ℕ → Option Extents → MaskedBody → Type 0
    TypedMasked ix dos around no_masked = Unit {0}
    TypedMasked ix dos around (assigning a more) =
        (TypedAssign ix dos a × Settled (Fills around a.target.facts)) × TypedMasked ix dos around more
    TypedMasked ix dos around (narrowed w more) = TypedWhere ix dos around w × TypedMasked ix dos around more

    pub TypedOthers : ℕ → List ℕ → Option Extents → Others → Type 0
    TypedOthers ix dos around no_other = Unit {0}
    TypedOthers ix dos around (elsewhere line None body more) = TypedMasked ix dos around body × TypedOthers ix dos around more
    TypedOthers ix dos around (elsewhere line (Some mask) body more) =
        TypedMask ix around mask × (TypedMasked ix dos (within around mask) body × TypedOthers ix dos around more)

  -- ---- FORALL: as many indices as triplets

  abbrev pub TypedTriplet : ℕ → Triplet → Type 0
  TypedTriplet n t = TypedLimit n t.first × (TypedLimit n t.last
      × (TypedBound constants variables callees n t.stride × Settled (Ranges (triplet_levels t) n)))

  abbrev pub TypedForallMask : ℕ → Expr → Type 0
  TypedForallMask n e = TypedExpr constants variables callees n e
      × (Settled (Ranges (levels_in false e) n) × Settled (Decides (facts_of e)))

  abbrev pub TypedForallAssign : ℕ → List ℕ → Assign → Type 0
  TypedForallAssign n dos a = TypedAssign n dos a × (Settled (fits_indices n a.target.facts a.target.designator)
      × Settled (Ranges (designator_levels false a.target.designator ++ levels_in false a.value) n))

  abbrev pub TypedForallBy : ℕ → List ℕ → Forall → Type 0
  TypedForallBy n dos f = Every (TypedTriplet n) f.triplets
      × (Maybe (TypedForallMask n) f.mask × Every (TypedForallAssign n dos) f.body)

  abbrev pub TypedForall : List ℕ → Forall → Type 0
  TypedForall dos f = TypedForallBy (length f.triplets) dos f

  -- ---- statements

  abbrev pub TypedSpan : ℕ → Span → Type 0
  TypedSpan ix s = TypedBound constants variables callees ix s.lower × TypedLimit ix s.upper

  abbrev pub TypedAllocation : ℕ → Allocation → Type 0
  TypedAllocation ix a = Every (TypedSpan ix) a.spans × Settled (Allocates (slice_get variables a.variable) (length a.spans))

  abbrev pub CanFree : ℕ → Type 0
  CanFree n = Settled (Frees (slice_get variables n))

  abbrev pub TypedItem : ℕ → List ℕ → Target → Type 0
  TypedItem ix dos t = TypedTarget ix dos t × Settled (Takes t.facts)

  abbrev pub TypedCall : ℕ → Call → Type 0
  TypedCall ix (call p es) = TypedArguments constants variables callees ix es

  abbrev pub TypedCondition : ℕ → Expr → Type 0
  TypedCondition ix e = TypedExpr constants variables callees ix e × Settled (Decides (facts_of e))

  abbrev pub CanCount : List ℕ → ℕ → Type 0
  CanCount dos n = Settled (Counts (slice_get variables n)) × CanStore dos n

  abbrev mutual
    pub TypedStmt : ℕ → List ℕ → Stmt → Type 0
    TypedStmt ix dos (Assigns a) = TypedAssign ix dos a
    TypedStmt ix dos (Masks w) = TypedWhere ix dos None w
    TypedStmt ix dos (ForAll f) = TypedForall dos f
    TypedStmt ix dos (Calls line c) = TypedCall ix c
    TypedStmt ix dos (Allocate line objects) = Every (TypedAllocation ix) objects
    TypedStmt ix dos (Deallocate line names) = Every CanFree names
    TypedStmt ix dos (Print line es) = Every (TypedExpr constants variables callees ix) es
    TypedStmt ix dos (Read line targets) = Every (TypedItem ix dos) targets
    TypedStmt ix dos (If branches otherwise) = TypedBranches ix dos branches × TypedStmts ix dos otherwise
    TypedStmt ix dos (Select line e cases otherwise) =
        (TypedExpr constants variables callees ix e × Settled (Selects (facts_of e)))
        × (TypedCases ix dos cases × TypedStmts ix dos otherwise)
    TypedStmt ix dos (Do line n first last step body) = CanCount dos n × (TypedLimit ix first × (TypedLimit ix last
        × (TypedBound constants variables callees ix step × TypedStmts ix (n ∷ dos) body)))
    TypedStmt ix dos (While line e body) = TypedCondition ix e × TypedStmts ix dos body
    TypedStmt ix dos (Forever line body) = TypedStmts ix dos body
    TypedStmt ix dos (Exit line out) = Unit {0}
    TypedStmt ix dos (Cycle line out) = Unit {0}
    TypedStmt ix dos (Return line) = Unit {0}
    TypedStmt ix dos (Stop line) = Unit {0}

    pub TypedStmts : ℕ → List ℕ → Stmts → Type 0
    TypedStmts ix dos no_stmt = Unit {0}
    TypedStmts ix dos (stmt s more) = TypedStmt ix dos s × TypedStmts ix dos more

    pub TypedBranches : ℕ → List ℕ → Branches → Type 0
    TypedBranches ix dos no_branch = Unit {0}
    TypedBranches ix dos (branch line e body more) = TypedCondition ix e × (TypedStmts ix dos body × TypedBranches ix dos more)

    pub TypedCases : ℕ → List ℕ → Cases → Type 0
    TypedCases ix dos no_case = Unit {0}
    TypedCases ix dos (case ranges body more) = TypedStmts ix dos body × TypedCases ix dos more
