-- What is asked of a unit, part by part: the tests that it is settled and that it is lowered, taken apart.
use Rattle.std.proofs.Common.{◌≡◌, refl, ap, ℕ, suc, ◌≤◌, arith, Bool, true, false, List, [], ◌∷◌}
use Rattle.std.specs.Prelude.{Option, Some, None, not, ◌&&◌, nat_le, nat_lt, is_some, slice_get}
use Rattle.std.specs.List.{list_all}
use Rattle.std.proofs.lemmas.Bool.{both_ways, not-true, and_parts}
use Rattle.std.proofs.lemmas.Bool.Decides.{nat_tests}
use Rattle.a95_base.specs.declared.scalar.Scalar.{Scalar}
use Rattle.a95_base.specs.Limits.{longest_text}
use Rattle.a95_base.specs.Lists.{Every}
use Rattle.f95_unit.specs.declared.facts.Facts.{Facts}
use Rattle.f95_unit.specs.declared.operation.Inquiry.TheVariants as inquiry
use Rattle.f95_unit.specs.declared.stmt.Range.{Range}
use Rattle.f95_unit.specs.declared.stmt.Range.TheVariants as range
use Rattle.f95_unit.specs.declared.unit.DeclaredType.{DeclaredType}
use Rattle.f95_unit.specs.declared.unit.DeclaredType.TheVariants as declared
use Rattle.f95_unit.specs.declared.unit.Length.TheVariants as long
use Rattle.f95_unit.specs.declared.unit.Role.{Role}
use Rattle.f95_unit.specs.declared.unit.Role.TheVariants as source_role
use Rattle.f95_unit.specs.Plain.{Expr, typed, Literal, Constant, Index, Named, Brackets, Unary, Binary, Constructor, Elementwise}
use Rattle.f95_unit.specs.Plain.{Trim}
use Rattle.f95_unit.specs.Plain.{Asked, Reduced, Rearranged, Called, Designator, at, Whole, Subscripted, AllOf, BytesOf, Bound}
use Rattle.f95_unit.specs.Plain.{Absent}
use Rattle.f95_unit.specs.Plain.{Given, Arguments, no_argument, argument, Name, Of, Stmt, Assigns, Masks, ForAll, Calls}
use Rattle.f95_unit.specs.Plain.{Allocate, Deallocate, Print, Read, If, Select, Do, While, Forever, Exit, Cycle, Return, Stop}
use Rattle.f95_unit.specs.Plain.{Stmts}
use Rattle.f95_unit.specs.Plain.{no_stmt, stmt, Branches, no_branch, branch, Cases, no_case, case, Bounds, Scalars, Explicit}
use Rattle.f95_unit.specs.Plain.{Assumed}
use Rattle.f95_unit.specs.Plain.{Deferred, Entity, Procedure, Program}
use Rattle.array_meaning.specs.Expressions.{has_no_extents}
use Rattle.nest_tree.specs.declared.unit.Sort.{Sort}
use Rattle.nest_tree.specs.declared.unit.Sort.TheVariants as sort
use Rattle.nest_tree.specs.Sound.{same_sort, is_sort, sort_of_scalar, sort_of_some, unary_sort, binary_sort, elemental_sort}
use Rattle.control_lower.specs.Trees.{sort_of, sort_of_expr, sorts_of, sort_of_own, sort_at, variable_of}
use Rattle.control_lower.specs.Lowers.{counts_bytes, lowers_designator, lowers, lowers_all, lowers_bound, lowers_stmt, lowers_stmts}
use Rattle.control_lower.specs.Lowers.{lowers_branches, lowers_cases, lowers_initial, lowers_entity, lowers_main, is_alone}
use Rattle.control_lower.specs.Lowers.{lowers_unit}
use Rattle.control_lower.specs.Settled as asked
use Rattle.control_lower.specs.Settled.{has_order, is_constant, settled_range, settled, all_settled, settled_as, settled_bound}
use Rattle.control_lower.specs.Settled.{settled_store, settled_stmt, settled_stmts, settled_branches, settled_cases}
use Rattle.control_lower.specs.Settled.{settled_initial}
use Rattle.control_lower.specs.Settled.{settled_initials, settled_main, is_settled}
use Rattle.control_lower.proofs.Sorts.{same_is}

-- ---- what is known of each part

module _ (constants : List Scalar) where
  abbrev pub IsConstant : Sort → ℕ → Type 0
  IsConstant s n = sort_of_some (slice_get constants n) ≡ Some s

  abbrev pub IsRange : Sort → Range → Type 0
  IsRange s (range.One n) = IsConstant s n
  IsRange s (range.From n) = (has_order s ≡ true) × IsConstant s n
  IsRange s (range.UpTo n) = (has_order s ≡ true) × IsConstant s n
  IsRange s (range.Between n m) = (has_order s ≡ true) × IsConstant s n × IsConstant s m

module _ (constants : List Scalar) (entities : List Entity) where
  abbrev pub IsDesignator : Facts → Designator → Type 0
  IsDesignator f (at n Whole AllOf) = sort_at entities n ≡ Some (sort_of f)
  IsDesignator f other = ⊥

  abbrev mutual
    pub IsScalar : Expr → Type 0
    IsScalar (typed f (Literal x)) = sort_of_scalar x ≡ Some (sort_of f)
    IsScalar (typed f (Constant n)) = IsConstant constants (sort_of f) n
    IsScalar (typed f (Named d)) = IsDesignator f d
    IsScalar (typed f (Brackets e)) = IsScalar e × (sort_of_expr e ≡ sort_of f)
    IsScalar (typed f (Unary op e)) = IsScalar e × (unary_sort op (Some (sort_of_expr e)) ≡ Some (sort_of f))
    IsScalar (typed f (Binary op e g)) =
        IsScalar e × IsScalar g × (binary_sort op (Some (sort_of_expr e)) (Some (sort_of_expr g)) ≡ Some (sort_of f))
    IsScalar (typed f (Elementwise which es)) =
        AreScalars es × (has_no_extents f.extents ≡ true) × (counts_bytes which ≡ false)
        × (elemental_sort which (sorts_of es) ≡ Some (sort_of f))
    IsScalar (typed f (Trim e)) = IsScalar e × (sort_of_expr e ≡ sort.Text) × (sort.Text ≡ sort_of f)
    IsScalar (typed f (Asked inquiry.Len dim (Name n))) = (sort_at entities n ≡ Some sort.Text) × (sort.Int ≡ sort_of f)
    IsScalar other = ⊥

    pub AreScalars : Arguments → Type 0
    AreScalars no_argument = Unit {0}
    AreScalars (argument place e es) = IsScalar e × AreScalars es

  -- a scalar variable, and a value of its sort
  abbrev pub IsStore : Designator → Expr → Type 0
  IsStore (at n Whole AllOf) e = (sort_at entities n ≡ Some (sort_of_expr e)) × IsScalar e
  IsStore other e = ⊥

  abbrev pub IsOf : Sort → Expr → Type 0
  IsOf s e = (sort_of_expr e ≡ s) × IsScalar e

  abbrev pub IsBound : Bound → Type 0
  IsBound Absent = Unit {0}
  IsBound (Given e) = IsOf sort.Int e

  abbrev mutual
    pub IsStmt : ℕ → Stmt → Type 0
    IsStmt depth (Assigns a) = IsStore a.target.designator a.value
    IsStmt depth (Print line es) = Every (λ e. IsScalar e) es
    IsStmt depth (If branches otherwise) = AreBranches depth branches × AreStmts depth otherwise
    IsStmt depth (Select line e choices otherwise) =
        IsScalar e × AreCases depth (sort_of_expr e) choices × AreStmts depth otherwise
    IsStmt depth (Do line n first last step body) =
        (sort_at entities n ≡ Some sort.Int) × IsOf sort.Int first × IsOf sort.Int last × IsBound step × AreStmts (suc depth) body
    IsStmt depth (While line e body) = IsOf sort.Log e × AreStmts (suc depth) body
    IsStmt depth (Forever line body) = AreStmts (suc depth) body
    IsStmt depth (Exit line out) = nat_lt out depth ≡ true
    IsStmt depth (Cycle line out) = nat_lt out depth ≡ true
    IsStmt depth (Return line) = Unit {0}
    IsStmt depth (Stop line) = Unit {0}
    IsStmt depth other = ⊥

    pub AreStmts : ℕ → Stmts → Type 0
    AreStmts depth no_stmt = Unit {0}
    AreStmts depth (stmt s more) = IsStmt depth s × AreStmts depth more

    pub AreBranches : ℕ → Branches → Type 0
    AreBranches depth no_branch = Unit {0}
    AreBranches depth (branch line e body more) = IsOf sort.Log e × AreStmts depth body × AreBranches depth more

    pub AreCases : ℕ → Sort → Cases → Type 0
    AreCases depth s no_case = Unit {0}
    AreCases depth s (case ranges body more) = Every (IsRange constants s) ranges × AreStmts depth body × AreCases depth s more

  abbrev pub IsInitial : ℕ → Option Expr → Type 0
  IsInitial n None = Unit {0}
  IsInitial n (Some e) = IsStore (at n Whole AllOf) e

  abbrev pub AreInitials : ℕ → List Entity → Type 0
  AreInitials n [] = Unit {0}
  AreInitials n (e ∷ more) = IsInitial n e.initial × AreInitials (suc n) more

abbrev pub HasLength : DeclaredType → Type 0
HasLength (declared.Character (long.Fixed n)) = n ≤ longest_text
HasLength (declared.Character long.Assumed) = ⊥
HasLength of = Unit {0}

-- a scalar variable of the program's own
pub record IsOwnScalar (e : Entity) : Type 0 where
  pub long_enough : HasLength e.of
  pub scalar_bounds : e.bounds ≡ Scalars
  pub own : e.role ≡ source_role.Own

pub record IsLowered (unit : Program) : Type 0 where
  pub scalars : Every IsOwnScalar unit.main.entities
  pub initials : AreInitials unit.constants unit.main.entities 0 unit.main.entities
  pub body : AreStmts unit.constants unit.main.entities 0 unit.main.body
  pub alone : unit.procedures ≡ []

-- ---- the tests taken apart

sort_is : (o : Option Sort) (s : Sort) → is_sort o s ≡ true → o ≡ Some s
sort_is None s h = absurd (both_ways false refl h)
sort_is (Some t) s h = ap Some (same_is t s h)

three : (a b c : Bool) → (a && (b && c)) ≡ true → (a ≡ true) × (b ≡ true) × (c ≡ true)
three a b c h =
    let all = and_parts a (b && c) h in
    let rest = and_parts b c all.1 in
    (all.0, rest.0, rest.1)

false_true : {A : Type 0} → false ≡ true → A
false_true h = absurd (both_ways false refl h)

module _ (constants : List Scalar) (entities : List Entity) where
  abbrev scalar_test : Expr → Bool
  scalar_test e = settled constants entities e

  designator_of : (f : Facts) (d : Designator) → is_sort (sort_at entities (variable_of d)) (sort_of f) ≡ true
      → lowers_designator d ≡ true
      → IsDesignator constants entities f d
  designator_of f (at n Whole AllOf) h g = sort_is (sort_at entities n) (sort_of f) h
  designator_of f (at n Whole (BytesOf first last)) h g = false_true g
  designator_of f (at n (Subscripted ss) part) h g = false_true g

  mutual
    pub scalar_of : (e : Expr) → settled constants entities e ≡ true → lowers e ≡ true → IsScalar constants entities e
    scalar_of (typed f (Literal x)) h g = sort_is (sort_of_scalar x) (sort_of f) h
    scalar_of (typed f (Constant n)) h g = sort_is (sort_of_some (slice_get constants n)) (sort_of f) h
    scalar_of (typed f (Index level)) h g = false_true g
    scalar_of (typed f (Named d)) h g = designator_of f d h g
    scalar_of (typed f (Brackets e)) h g =
        let s = and_parts (settled constants entities e) (same_sort (sort_of_expr e) (sort_of f)) h in
        (scalar_of e s.0 g, same_is (sort_of_expr e) (sort_of f) s.1)
    scalar_of (typed f (Unary op e)) h g =
        let s = and_parts (settled constants entities e) (is_sort (unary_sort op (Some (sort_of_expr e))) (sort_of f)) h in
        (scalar_of e s.0 g, sort_is (unary_sort op (Some (sort_of_expr e))) (sort_of f) s.1)
    scalar_of (typed f (Binary op e k)) h g =
        let s = three (settled constants entities e) (settled constants entities k)
        (is_sort (binary_sort op (Some (sort_of_expr e)) (Some (sort_of_expr k))) (sort_of f)) h in
        let l = and_parts (lowers e) (lowers k) g in (
          scalar_of e s.0 l.0,
          scalar_of k s.1 l.1,
          sort_is (binary_sort op (Some (sort_of_expr e)) (Some (sort_of_expr k)))
              (sort_of f) s.2,
        )
    scalar_of (typed f (Constructor items)) h g = false_true g
    scalar_of (typed f (Elementwise which es)) h g =
        let s = three (all_settled constants entities es) (has_no_extents f.extents)
        (is_sort (elemental_sort which (sorts_of es)) (sort_of f)) h in
        let l = and_parts (not (counts_bytes which)) (lowers_all es) g in (
          scalars_of es s.0 l.1,
          s.1,
          not-true (counts_bytes which) l.0,
          sort_is (elemental_sort which (sorts_of es)) (sort_of f)
              s.2,
        )
    scalar_of (typed f (Trim e)) h g =
        let s = three (settled constants entities e) (same_sort (sort_of_expr e) sort.Text) (same_sort sort.Text (sort_of f)) h in
        (scalar_of e s.0 g, same_is (sort_of_expr e) sort.Text s.1, same_is sort.Text (sort_of f) s.2)
    scalar_of (typed f (Asked inquiry.Len dim (Name n))) h g =
        let s = and_parts (is_sort (sort_at entities n) sort.Text) (same_sort sort.Int (sort_of f)) h in
        (sort_is (sort_at entities n) sort.Text s.0, same_is sort.Int (sort_of f) s.1)
    scalar_of (typed f (Asked inquiry.Size dim (Name n))) h g = false_true g
    scalar_of (typed f (Asked inquiry.Shape dim (Name n))) h g = false_true g
    scalar_of (typed f (Asked inquiry.Lbound dim (Name n))) h g = false_true g
    scalar_of (typed f (Asked inquiry.Ubound dim (Name n))) h g = false_true g
    scalar_of (typed f (Asked inquiry.Allocated dim (Name n))) h g = false_true g
    scalar_of (typed f (Asked inquiry.Len dim (Of e))) h g = false_true g
    scalar_of (typed f (Asked inquiry.Size dim (Of e))) h g = false_true g
    scalar_of (typed f (Asked inquiry.Shape dim (Of e))) h g = false_true g
    scalar_of (typed f (Asked inquiry.Lbound dim (Of e))) h g = false_true g
    scalar_of (typed f (Asked inquiry.Ubound dim (Of e))) h g = false_true g
    scalar_of (typed f (Asked inquiry.Allocated dim (Of e))) h g = false_true g
    scalar_of (typed f (Reduced which dim es)) h g = false_true g
    scalar_of (typed f (Rearranged which dim es)) h g = false_true g
    scalar_of (typed f (Called c)) h g = false_true g

    scalars_of : (es : Arguments) → all_settled constants entities es ≡ true → lowers_all es ≡ true
        → AreScalars constants entities es
    scalars_of no_argument h g = tt
    scalars_of (argument place e es) h g =
        let s = and_parts (settled constants entities e) (all_settled constants entities es) h in
        let l = and_parts (lowers e) (lowers_all es) g in
        (scalar_of e s.0 l.0, scalars_of es s.1 l.1)

  of_sort : (s : Sort) (e : Expr) → settled_as constants entities s e ≡ true → lowers e ≡ true → IsOf constants entities s e
  of_sort s e h g =
      let t = and_parts (same_sort (sort_of_expr e) s) (settled constants entities e) h in
      (same_is (sort_of_expr e) s t.0, scalar_of e t.1 g)

  bound_of : (b : Bound) → settled_bound constants entities b ≡ true → lowers_bound b ≡ true → IsBound constants entities b
  bound_of Absent h g = tt
  bound_of (Given e) h g = of_sort sort.Int e h g

  store_of : (d : Designator) (e : Expr) → settled_store constants entities (variable_of d) e ≡ true → lowers_designator d ≡ true
      → lowers e ≡ true
      → IsStore constants entities d e
  store_of (at n Whole AllOf) e h g l =
      let s = and_parts (is_sort (sort_at entities n) (sort_of_expr e)) (settled constants entities e) h in
      (sort_is (sort_at entities n) (sort_of_expr e) s.0, scalar_of e s.1 l)
  store_of (at n Whole (BytesOf first last)) e h g l = false_true g
  store_of (at n (Subscripted ss) part) e h g l = false_true g

  items_of : (es : List Expr) → list_all (settled constants entities) es ≡ true → list_all lowers es ≡ true
      → Every (λ e. IsScalar constants entities e) es
  items_of [] h g = tt
  items_of (e ∷ es) h g =
      let s = and_parts (settled constants entities e) (list_all (settled constants entities) es) h in
      let l = and_parts (lowers e) (list_all lowers es) g in
      (scalar_of e s.0 l.0, items_of es s.1 l.1)

  constant_of : (s : Sort) (n : ℕ) → is_constant constants s n ≡ true → IsConstant constants s n
  constant_of s n h = sort_is (sort_of_some (slice_get constants n)) s h

  range_of : (s : Sort) (r : Range) → settled_range constants s r ≡ true → IsRange constants s r
  range_of s (range.One n) h = constant_of s n h
  range_of s (range.From n) h =
      let t = and_parts (has_order s) (is_constant constants s n) h in
      (t.0, constant_of s n t.1)
  range_of s (range.UpTo n) h =
      let t = and_parts (has_order s) (is_constant constants s n) h in
      (t.0, constant_of s n t.1)
  range_of s (range.Between n m) h =
      let t = three (has_order s) (is_constant constants s n) (is_constant constants s m) h in
      (t.0, constant_of s n t.1, constant_of s m t.2)

  ranges_of : (s : Sort) (rs : List Range) → list_all (settled_range constants s) rs ≡ true → Every (IsRange constants s) rs
  ranges_of s [] h = tt
  ranges_of s (r ∷ rs) h =
      let t = and_parts (settled_range constants s r) (list_all (settled_range constants s) rs) h in
      (range_of s r t.0, ranges_of s rs t.1)

  mutual
    stmt_of : (depth : ℕ) (s : Stmt) → settled_stmt constants entities depth s ≡ true → lowers_stmt s ≡ true
        → IsStmt constants entities depth s
    stmt_of depth (Assigns a) h g =
        let l = and_parts (lowers_designator a.target.designator) (lowers a.value) g in
        store_of a.target.designator a.value h l.0 l.1
    stmt_of depth (Masks w) h g = false_true g
    stmt_of depth (ForAll f) h g = false_true g
    stmt_of depth (Calls line c) h g = false_true g
    stmt_of depth (Allocate line objects) h g = false_true g
    stmt_of depth (Deallocate line names) h g = false_true g
    stmt_of depth (Print line es) h g = items_of es h g
    stmt_of depth (Read line targets) h g = false_true g
    stmt_of depth (If bs otherwise) h g =
        let s = and_parts (settled_branches constants entities depth bs) (settled_stmts constants entities depth otherwise) h in
        let l = and_parts (lowers_branches bs) (lowers_stmts otherwise) g in
        (branches_of depth bs s.0 l.0, stmts_of depth otherwise s.1 l.1)
    stmt_of depth (Select line e cs otherwise) h g =
        let s = three (settled constants entities e) (settled_cases constants entities depth (sort_of_expr e) cs)
        (settled_stmts constants entities depth otherwise) h in
        let l = three (lowers e) (lowers_cases cs) (lowers_stmts otherwise) g in
        (scalar_of e s.0 l.0, cases_of depth (sort_of_expr e) cs s.1 l.1, stmts_of depth otherwise s.2 l.2)
    stmt_of depth (Do line n first last step body) h g =
        let s = three (is_sort (sort_at entities n) sort.Int) (settled_as constants entities sort.Int first)
        (settled_as constants entities sort.Int last
        && (settled_bound constants entities step && settled_stmts constants entities (suc depth) body)) h in
        let t = three (settled_as constants entities sort.Int last) (settled_bound constants entities step)
        (settled_stmts constants entities (suc depth) body) s.2 in
        let l = three (lowers first) (lowers last) (lowers_bound step && lowers_stmts body) g in
        let k = and_parts (lowers_bound step) (lowers_stmts body) l.2 in (
          sort_is (sort_at entities n) sort.Int s.0,
          of_sort sort.Int first s.1 l.0,
          of_sort sort.Int last t.0 l.1,
          bound_of step
              t.1 k.0,
          stmts_of (suc depth) body t.2 k.1,
        )
    stmt_of depth (While line e body) h g =
        let s = and_parts (settled_as constants entities sort.Log e) (settled_stmts constants entities (suc depth) body) h in
        let l = and_parts (lowers e) (lowers_stmts body) g in
        (of_sort sort.Log e s.0 l.0, stmts_of (suc depth) body s.1 l.1)
    stmt_of depth (Forever line body) h g = stmts_of (suc depth) body h g
    stmt_of depth (Exit line out) h g = h
    stmt_of depth (Cycle line out) h g = h
    stmt_of depth (Return line) h g = tt
    stmt_of depth (Stop line) h g = tt

    stmts_of : (depth : ℕ) (ss : Stmts) → settled_stmts constants entities depth ss ≡ true → lowers_stmts ss ≡ true
        → AreStmts constants entities depth ss
    stmts_of depth no_stmt h g = tt
    stmts_of depth (stmt s more) h g =
        let t = and_parts (settled_stmt constants entities depth s) (settled_stmts constants entities depth more) h in
        let l = and_parts (lowers_stmt s) (lowers_stmts more) g in
        (stmt_of depth s t.0 l.0, stmts_of depth more t.1 l.1)

    branches_of : (depth : ℕ) (bs : Branches) → settled_branches constants entities depth bs ≡ true → lowers_branches bs ≡ true
        → AreBranches constants entities depth bs
    branches_of depth no_branch h g = tt
    branches_of depth (branch line e body more) h g =
        let t = three (settled_as constants entities sort.Log e) (settled_stmts constants entities depth body)
        (settled_branches constants entities depth more) h in
        let l = three (lowers e) (lowers_stmts body) (lowers_branches more) g in
        (of_sort sort.Log e t.0 l.0, stmts_of depth body t.1 l.1, branches_of depth more t.2 l.2)

    cases_of : (depth : ℕ) (s : Sort) (cs : Cases) → settled_cases constants entities depth s cs ≡ true → lowers_cases cs ≡ true
        → AreCases constants entities depth s cs
    cases_of depth s no_case h g = tt
    cases_of depth s (case ranges body more) h g =
        let t = three (list_all (settled_range constants s) ranges) (settled_stmts constants entities depth body)
        (settled_cases constants entities depth s more) h in
        let l = and_parts (lowers_stmts body) (lowers_cases more) g in
        (ranges_of s ranges t.0, stmts_of depth body t.1 l.0, cases_of depth s more t.2 l.1)

  initial_of : (n : ℕ) (e : Option Expr) → settled_initial constants entities n e ≡ true → lowers_initial e ≡ true
      → IsInitial constants entities n e
  initial_of n None h g = tt
  initial_of n (Some e) h g = store_of (at n Whole AllOf) e h refl g

  initials_of : (n : ℕ) (es : List Entity) → settled_initials constants entities n es ≡ true → list_all lowers_entity es ≡ true
      → AreInitials constants entities n es
  unfolding settled_initials
  initials_of n [] h g = tt
  initials_of n (e ∷ es) h g =
      let s = and_parts (settled_initial constants entities n e.initial) (settled_initials constants entities (suc n) es) h in
      let l = and_parts (lowers_entity e) (list_all lowers_entity es) g in
      let k = and_parts (is_some (sort_of_own e.of e.bounds e.role)) (lowers_initial e.initial) l.0 in
      (initial_of n e.initial s.0 k.1, initials_of (suc n) es s.1 l.1)

-- ---- declarations

long_of : (n : ℕ) → nat_le n longest_text ≡ true → n ≤ longest_text
long_of n h = grind (arith, nat_tests)

record IsOwn (of : DeclaredType) (bounds : Bounds) (r : Role) : Type 0 where
  long_enough : HasLength of
  scalar_bounds : bounds ≡ Scalars
  own : r ≡ source_role.Own

own_by : (of : DeclaredType) (bounds : Bounds) (r : Role) → is_some (sort_of_own of bounds r) ≡ true → asked.has_length of ≡ true
    → IsOwn of bounds r
own_by declared.Integer Scalars source_role.Own h l = record { long_enough = tt; scalar_bounds = refl; own = refl }
own_by declared.Integer Scalars (source_role.Dummy place intent) h l = false_true h
own_by declared.Integer (Explicit spans) r h l = false_true h
own_by declared.Integer (Assumed lowers) r h l = false_true h
own_by declared.Integer (Deferred rank) r h l = false_true h
own_by declared.Logical Scalars source_role.Own h l = record { long_enough = tt; scalar_bounds = refl; own = refl }
own_by declared.Logical Scalars (source_role.Dummy place intent) h l = false_true h
own_by declared.Logical (Explicit spans) r h l = false_true h
own_by declared.Logical (Assumed lowers) r h l = false_true h
own_by declared.Logical (Deferred rank) r h l = false_true h
own_by (declared.Character (long.Fixed n)) Scalars source_role.Own h l = record
    { long_enough = long_of n l; scalar_bounds = refl; own = refl }
own_by (declared.Character (long.Fixed n)) Scalars (source_role.Dummy place intent) h l = false_true h
own_by (declared.Character (long.Fixed n)) (Explicit spans) r h l = false_true h
own_by (declared.Character (long.Fixed n)) (Assumed lowers) r h l = false_true h
own_by (declared.Character (long.Fixed n)) (Deferred rank) r h l = false_true h
own_by (declared.Character long.Assumed) bounds r h l = false_true h

own_scalar : (e : Entity) → lowers_entity e ≡ true → asked.has_length e.of ≡ true → IsOwnScalar e
own_scalar e h l =
    let k = and_parts (is_some (sort_of_own e.of e.bounds e.role)) (lowers_initial e.initial) h in
    let own : IsOwn e.of e.bounds e.role = own_by e.of e.bounds e.role k.0 l in
    record { long_enough = own.long_enough; scalar_bounds = own.scalar_bounds; own = own.own }

own_scalars : (es : List Entity) → list_all lowers_entity es ≡ true → list_all (λ e. asked.has_length e.of) es ≡ true
    → Every IsOwnScalar es
own_scalars [] h l = tt
own_scalars (e ∷ es) h l =
    let t = and_parts (lowers_entity e) (list_all lowers_entity es) h in
    let k = and_parts (asked.has_length e.of) (list_all (λ d. asked.has_length d.of) es) l in
    (own_scalar e t.0 k.0, own_scalars es t.1 k.1)

none_of : (ps : List Procedure) → is_alone ps ≡ true → ps ≡ []
none_of [] h = refl
none_of (p ∷ ps) h = false_true h

-- ---- units

pub constants_of : (unit : Program) → is_settled unit ≡ true → list_all (λ x. is_some (sort_of_scalar x)) unit.constants ≡ true
constants_of unit h = (and_parts (list_all (λ x. is_some (sort_of_scalar x)) unit.constants)
    (settled_main unit.constants unit.main) h).0

pub lowered_of : (unit : Program) → is_settled unit ≡ true → lowers_unit unit ≡ true → IsLowered unit
lowered_of unit h g =
    let s = and_parts (list_all (λ x. is_some (sort_of_scalar x)) unit.constants) (settled_main unit.constants unit.main) h in
    let t = three (list_all (λ e. asked.has_length e.of) unit.main.entities)
    (settled_initials unit.constants unit.main.entities 0 unit.main.entities)
    (settled_stmts unit.constants unit.main.entities 0 unit.main.body) s.1 in
    let l = and_parts (is_alone unit.procedures) (lowers_main unit.main) g in
    let k = and_parts (list_all lowers_entity unit.main.entities) (lowers_stmts unit.main.body) l.1 in
    record {
      scalars = own_scalars unit.main.entities k.0 t.0;
      initials = initials_of unit.constants unit.main.entities 0 unit.main.entities t.1 k.0;
      body = stmts_of unit.constants unit.main.entities 0 unit.main.body t.2 k.1;
      alone = none_of unit.procedures l.0;
    }
