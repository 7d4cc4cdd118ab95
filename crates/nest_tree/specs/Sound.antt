-- The units that LoopC can be emitted from. What the text alone tells is asked of it: the sort of each value, that numbers are
-- those of something, what may be stored into, what a call passes, that no loop is left which isn't there. All else is that no run
-- of the unit strays: that no place is outside its array, that nothing is read which isn't held, that sizes are within their
-- limits.
use Rattle.std.specs.Prelude.{◌≡◌, ℕ, suc, ℤ, pos, neg_ℤ, ◌+◌, ◌*◌, ◌^◌, ◌≤◌, max, int_le, int_lt, nat_eq, nat_le, nat_lt, Bool}
use Rattle.std.specs.Prelude.{true, false, not, ◌&&◌, ◌||◌, if◌then◌else◌, Option, Some, None, is_some, List, [], ◌∷◌, length}
use Rattle.std.specs.Prelude.{slice_get}
use Rattle.std.specs.List.{list_all}
use Rattle.a95_base.specs.declared.scalar.Scalar.{Scalar}
use Rattle.a95_base.specs.declared.scalar.Scalar.TheVariants as scalar
use Rattle.a95_base.specs.Lists.{Every, count_to}
use Rattle.a95_base.specs.Outcome.{Finished}
use Rattle.f95_unit.specs.declared.operation.UnaryOp.{UnaryOp}
use Rattle.f95_unit.specs.declared.operation.UnaryOp.TheVariants as unary
use Rattle.f95_unit.specs.declared.operation.BinaryOp.{BinaryOp}
use Rattle.f95_unit.specs.declared.operation.BinaryOp.TheVariants as binary
use Rattle.f95_unit.specs.declared.operation.Elemental.{Elemental}
use Rattle.f95_unit.specs.declared.operation.Elemental.TheVariants as elemental
use Rattle.f95_unit.specs.declared.unit.DeclaredType.{DeclaredType}
use Rattle.f95_unit.specs.declared.unit.DeclaredType.TheVariants as declared
use Rattle.f95_unit.specs.declared.unit.Length.TheVariants as long
use Rattle.rank_shape.specs.Order.{IsOrder}
use Rattle.nest_tree.specs.declared.access.Access.{Access}
use Rattle.nest_tree.specs.declared.access.Along.{Along}
use Rattle.nest_tree.specs.declared.access.Along.TheVariants as along
use Rattle.nest_tree.specs.declared.access.Amount.{Amount}
use Rattle.nest_tree.specs.declared.access.Amount.TheVariants as amounts
use Rattle.nest_tree.specs.declared.access.Name.{Name}
use Rattle.nest_tree.specs.declared.access.Name.TheVariants as name
use Rattle.nest_tree.specs.declared.access.Portion.{Portion}
use Rattle.nest_tree.specs.declared.statement.Block.{Block}
use Rattle.nest_tree.specs.declared.statement.Made.{Made}
use Rattle.nest_tree.specs.declared.statement.Made.TheVariants as made
use Rattle.nest_tree.specs.declared.statement.Span.{Span}
use Rattle.nest_tree.specs.declared.tree.Blank.{Blank}
use Rattle.nest_tree.specs.declared.tree.Blank.TheVariants as blank
use Rattle.nest_tree.specs.declared.tree.Exact.{Exact}
use Rattle.nest_tree.specs.declared.tree.Exact.TheVariants as exact
use Rattle.nest_tree.specs.declared.tree.Question.{Question}
use Rattle.nest_tree.specs.declared.tree.Question.TheVariants as question
use Rattle.nest_tree.specs.declared.unit.Declared.{Declared}
use Rattle.nest_tree.specs.declared.unit.Role.{Role}
use Rattle.nest_tree.specs.declared.unit.Role.TheVariants as role
use Rattle.nest_tree.specs.declared.unit.Sort.{Sort}
use Rattle.nest_tree.specs.declared.unit.Sort.TheVariants as sort
use Rattle.nest_tree.specs.Plain.{Tree, Literal, Number, Constant, Fixed, Read, Cell, Entry, Turn, Place, Asked, Unary, Binary}
use Rattle.nest_tree.specs.Plain.{Exactly, Wrapped, Each, Trim, Len, Applied, Trees, no_tree, tree, Guard, Frame, Passed, Value}
use Rattle.nest_tree.specs.Plain.{Whole, ResultIn, Statement, Set, Test, Store, StoreCell, Make, Grow, Rebound, Free, MakeList}
use Rattle.nest_tree.specs.Plain.{StoreEntry, FreeList, Nest, If, While, Call, Put, Write, Take, Skip, Exit, Cycle, Return, Stop}
use Rattle.nest_tree.specs.Plain.{Statements, no_statement, statement, Procedure, NestUnit}
use Rattle.nest_tree.specs.Elements.{least_exact}
use Rattle.nest_tree.specs.Run.{Strayed, nest_run}

-- ---- sorts

abbrev pub same_sort : Sort → Sort → Bool
same_sort sort.Exact sort.Exact = true
same_sort sort.Int sort.Int = true
same_sort sort.Log sort.Log = true
same_sort sort.Text sort.Text = true
same_sort s t = false

-- a value of the first sort may stand where one of the second is asked for
abbrev pub serves : Sort → Sort → Bool
serves sort.Int sort.Exact = true
serves s t = same_sort s t

abbrev pub some_serves : Option Sort → Sort → Bool
some_serves None t = false
some_serves (Some s) t = serves s t

-- the sort is there, and is this one; it is there, and a value of the other sort serves
abbrev pub is_sort : Option Sort → Sort → Bool
is_sort None t = false
is_sort (Some s) t = same_sort s t

abbrev pub served_by : Option Sort → Option Sort → Bool
served_by None s = false
served_by (Some asked) s = some_serves s asked

-- a sort where the test holds
abbrev pub sort_if : Bool → Sort → Option Sort
sort_if true s = Some s
sort_if false s = None

abbrev pub fits_32_bits : ℤ → Bool
fits_32_bits z = int_le (neg_ℤ (pos (2 ^ 31))) z && int_lt z (pos (2 ^ 31))

abbrev pub sort_of_scalar : Scalar → Option Sort
sort_of_scalar (scalar.Int z) = sort_if (fits_32_bits z) sort.Int
sort_of_scalar (scalar.Log b) = Some sort.Log
sort_of_scalar (scalar.Text bytes) = Some sort.Text

abbrev pub sort_of_some : Option Scalar → Option Sort
sort_of_some None = None
sort_of_some (Some x) = sort_of_scalar x

abbrev pub sort_of_type : DeclaredType → Sort
sort_of_type declared.Integer = sort.Int
sort_of_type declared.Logical = sort.Log
sort_of_type (declared.Character len) = sort.Text

abbrev pub unary_sort : UnaryOp → Option Sort → Option Sort
unary_sort unary.Not s = sort_if (some_serves s sort.Log) sort.Log
unary_sort op s = sort_if (some_serves s sort.Int) sort.Int

abbrev pub both_serve : Option Sort → Option Sort → Sort → Bool
both_serve s t asked = some_serves s asked && some_serves t asked

-- two integers or two texts
abbrev pub are_compared : Option Sort → Option Sort → Bool
are_compared s t = both_serve s t sort.Int || both_serve s t sort.Text

abbrev pub binary_sort : BinaryOp → Option Sort → Option Sort → Option Sort
binary_sort binary.Concat s t = sort_if (both_serve s t sort.Text) sort.Text
binary_sort binary.Equal s t = sort_if (are_compared s t) sort.Log
binary_sort binary.NotEqual s t = sort_if (are_compared s t) sort.Log
binary_sort binary.Less s t = sort_if (are_compared s t) sort.Log
binary_sort binary.LessEqual s t = sort_if (are_compared s t) sort.Log
binary_sort binary.Greater s t = sort_if (are_compared s t) sort.Log
binary_sort binary.GreaterEqual s t = sort_if (are_compared s t) sort.Log
binary_sort binary.And s t = sort_if (both_serve s t sort.Log) sort.Log
binary_sort binary.Or s t = sort_if (both_serve s t sort.Log) sort.Log
binary_sort binary.Equivalent s t = sort_if (both_serve s t sort.Log) sort.Log
binary_sort binary.NotEquivalent s t = sort_if (both_serve s t sort.Log) sort.Log
binary_sort op s t = sort_if (both_serve s t sort.Int) sort.Int

abbrev pub exact_sort : Exact → Sort
exact_sort exact.Below = sort.Log
exact_sort exact.AtMost = sort.Log
exact_sort exact.Same = sort.Log
exact_sort op = sort.Exact

-- arguments with their places: of one sort, at the places from 0 on in any order
abbrev pub sort_at : ℕ → List (ℕ × Option Sort) → Option Sort
sort_at place [] = None
sort_at place (s ∷ more) = if nat_eq s.0 place then s.1 else sort_at place more

abbrev pub one_of : List (ℕ × Option Sort) → Sort → Bool
one_of ss asked = nat_eq (length ss) 1 && some_serves (sort_at 0 ss) asked

abbrev pub two_of : List (ℕ × Option Sort) → Sort → Bool
two_of ss asked = nat_eq (length ss) 2 && both_serve (sort_at 0 ss) (sort_at 1 ss) asked

abbrev pub is_merge : List (ℕ × Option Sort) → Sort → Bool
is_merge ss asked = nat_eq (length ss) 3 && both_serve (sort_at 0 ss) (sort_at 1 ss) asked && some_serves (sort_at 2 ss) sort.Log

abbrev pub either_sort : Option Sort → Option Sort → Option Sort
either_sort None t = t
either_sort (Some s) t = Some s

abbrev pub elemental_sort : Elemental → List (ℕ × Option Sort) → Option Sort
elemental_sort elemental.Abs ss = sort_if (one_of ss sort.Int) sort.Int
elemental_sort elemental.Max ss = sort_if (list_all (λ s. some_serves s.1 sort.Int) ss && nat_le 1 (length ss)) sort.Int
elemental_sort elemental.Min ss = sort_if (list_all (λ s. some_serves s.1 sort.Int) ss && nat_le 1 (length ss)) sort.Int
elemental_sort elemental.Merge ss = either_sort (sort_if (is_merge ss sort.Int) sort.Int)
    (either_sort (sort_if (is_merge ss sort.Log) sort.Log) (sort_if (is_merge ss sort.Text) sort.Text))
elemental_sort elemental.Ichar ss = sort_if (one_of ss sort.Text) sort.Int
elemental_sort elemental.Char ss = sort_if (one_of ss sort.Int) sort.Text
elemental_sort elemental.LenTrim ss = sort_if (one_of ss sort.Text) sort.Int
elemental_sort elemental.Index ss = sort_if (two_of ss sort.Text) sort.Int
elemental_sort elemental.Adjustl ss = sort_if (one_of ss sort.Text) sort.Text
elemental_sort elemental.Adjustr ss = sort_if (one_of ss sort.Text) sort.Text
elemental_sort which ss = sort_if (two_of ss sort.Int) sort.Int

-- ---- where a statement stands: the unit, the procedure, and how many loops its nest has

pub record Scope : Type 0 where
  pub unit : NestUnit
  pub own : Procedure
  pub loops : ℕ

abbrev pub in_nest : Scope → ℕ → Scope
in_nest c loops = record c { loops = loops }

-- ---- names

abbrev pub declared_at : Procedure → ℕ → Option Declared
declared_at q n = slice_get q.variables n

abbrev pub of_declared : {A : Type 0} → A → (Declared → A) → Option Declared → A
of_declared other f None = other
of_declared other f (Some d) = f d

abbrev pub sort_of_name : Procedure → Name → Option Sort
sort_of_name q (name.Own n) = of_declared None (λ d. Some (sort_of_type d.of)) (declared_at q n)
sort_of_name q (name.Temp t) = slice_get q.blocks t

-- so many dimensions as were declared; a block may have any
abbrev pub has_rank : Procedure → Name → ℕ → Bool
has_rank q (name.Own n) rank = of_declared false (λ d. nat_eq d.rank rank) (declared_at q n)
has_rank q (name.Temp t) rank = nat_le rank 7

abbrev pub role_of : Procedure → ℕ → Role
role_of q n = of_declared (role.Value 0) (λ d. d.role) (declared_at q n)

-- what is no value that was passed stands in a block
abbrev pub is_block_role : Role → Bool
is_block_role (role.Value place) = false
is_block_role other = true

abbrev pub may_store_role : Role → Bool
may_store_role role.Own = true
may_store_role (role.Value place) = false
may_store_role (role.Whole place modified) = modified
may_store_role (role.Result place) = true

abbrev pub is_own_role : Role → Bool
is_own_role role.Own = true
is_own_role other = false

abbrev pub is_result_role : Role → Bool
is_result_role (role.Result place) = true
is_result_role other = false

abbrev pub of_name : Bool → (Role → Bool) → Procedure → Name → Bool
of_name temp f q (name.Own n) = is_some (declared_at q n) && f (role_of q n)
of_name temp f q (name.Temp t) = is_some (slice_get q.blocks t) && temp

abbrev pub is_block : Procedure → Name → Bool
is_block = of_name true is_block_role

abbrev pub may_store : Procedure → Name → Bool
may_store = of_name true may_store_role

abbrev pub may_make : Made → Procedure → Name → Bool
may_make made.New = of_name true is_own_role
may_make other = of_name true (λ r. false)

abbrev pub may_free : Procedure → Name → Bool
may_free = of_name true is_own_role

abbrev pub may_grow : Procedure → Name → Bool
may_grow = of_name true is_result_role

-- ---- amounts and accesses

abbrev pub fits_64_bits : ℤ → Bool
fits_64_bits z = int_le least_exact z && int_lt z (pos (2 ^ 63))

abbrev pub fits_amount : Procedure → Amount → Bool
fits_amount q (amounts.Number z) = fits_64_bits z
fits_amount q (amounts.Kept k) = some_serves (slice_get q.scalars k) sort.Exact

abbrev pub is_loop : Scope → ℕ → Bool
is_loop c loop = nat_le 1 loop && nat_le loop c.loops

abbrev pub fits_along : Scope → Along → Bool
fits_along c (along.Alone a) = fits_amount c.own a
fits_along c (along.Steps loop start stride) = is_loop c loop && fits_amount c.own start && fits_amount c.own stride
fits_along c (along.Listed loop list) = is_loop c loop && nat_lt list c.own.lists

-- bytes are named of the texts of a declared variable alone
abbrev pub is_own_text : Procedure → Name → Bool
is_own_text q (name.Own n) = some_serves (sort_of_name q (name.Own n)) sort.Text
is_own_text q (name.Temp t) = false

abbrev pub fits_portion : Procedure → Name → Option Portion → Bool
fits_portion q n None = true
fits_portion q n (Some p) = is_own_text q n && fits_amount q p.first && fits_amount q p.last

abbrev pub fits_access : Scope → Access → Bool
fits_access c a = has_rank c.own a.name (length a.dimensions) && list_all (λ d. fits_along c d.along) a.dimensions
    && fits_portion c.own a.name a.portion

abbrev pub fits_spans : Procedure → Name → List Span → Bool
fits_spans q n spans = has_rank q n (length spans) && list_all (λ s. fits_amount q s.lower && fits_amount q s.upper) spans

abbrev pub sort_of_blank : Blank → Sort
sort_of_blank blank.Int = sort.Int
sort_of_blank blank.Log = sort.Log
sort_of_blank (blank.Text a) = sort.Text

abbrev pub fits_blank : Procedure → Blank → Bool
fits_blank q blank.Int = true
fits_blank q blank.Log = true
fits_blank q (blank.Text a) = fits_amount q a

abbrev pub has_dimension : Procedure → Name → ℕ → Bool
has_dimension q (name.Own n) dim = of_declared false (λ d. nat_le 1 dim && nat_le dim d.rank) (declared_at q n)
has_dimension q (name.Temp t) dim = nat_le 1 dim && nat_le dim 7 && is_some (slice_get q.blocks t)

abbrev pub question_sort : Procedure → Question → Name → Option Sort
question_sort q (question.Lower dim) n = sort_if (has_dimension q n dim) sort.Exact
question_sort q (question.Upper dim) n = sort_if (has_dimension q n dim) sort.Exact
question_sort q (question.Extent dim) n = sort_if (has_dimension q n dim) sort.Exact
question_sort q question.Size n = sort_if (is_some (sort_of_name q n)) sort.Exact
question_sort q question.Length n = sort_if (some_serves (sort_of_name q n) sort.Text) sort.Exact
question_sort q question.Allocated n = sort_if (is_some (sort_of_name q n)) sort.Log

-- ---- dummies

abbrev pub is_at : ℕ → Role → Bool
is_at place role.Own = false
is_at place (role.Value k) = nat_eq k place
is_at place (role.Whole k modified) = nat_eq k place
is_at place (role.Result k) = nat_eq k place

abbrev pub dummy_at : ℕ → List Declared → Option Declared
dummy_at place [] = None
dummy_at place (d ∷ more) = if is_at place d.role then Some d else dummy_at place more

abbrev pub count_dummies : List Declared → ℕ
count_dummies [] = 0
count_dummies (d ∷ more) = if is_own_role d.role then count_dummies more else suc (count_dummies more)

abbrev pub takes_value : Option Sort → Declared → Bool
takes_value s d = not (is_block_role d.role) && some_serves s (sort_of_type d.of)

abbrev pub takes_result : Option Sort → Declared → Bool
takes_result s d = is_result_role d.role && is_sort s (sort_of_type d.of)

-- the arguments of an elemental function: a value for each dummy, and the result behind
abbrev pub values_fit : List (ℕ × Option Sort) → List Declared → Bool
values_fit ss ds = list_all (λ s. of_declared false (takes_value s.1) (dummy_at s.0 ds)) ss
    && nat_eq (count_dummies ds) (suc (length ss))

abbrev pub applied_sort : Option Procedure → Option Sort → List (ℕ × Option Sort) → Option Sort
applied_sort None r ss = None
applied_sort (Some q) r ss = sort_if (values_fit ss q.variables
    && of_declared false (takes_result r) (dummy_at (length ss) q.variables))
    (of_declared sort.Exact (λ d. sort_of_type d.of) (dummy_at (length ss) q.variables))

-- ---- element trees: the sort of what they give, where all in them fits

abbrev mutual
  pub sort_of : Scope → Tree → Option Sort
  sort_of c (Literal x) = sort_of_scalar x
  sort_of c (Number z) = sort_if (fits_64_bits z) sort.Exact
  sort_of c (Constant n) = sort_of_some (slice_get c.unit.constants n)
  sort_of c (Fixed k) = slice_get c.own.scalars k
  sort_of c (Read a) = if fits_access c a then sort_of_name c.own a.name else None
  sort_of c (Cell n t) = if is_block c.own n && some_serves (sort_of c t) sort.Exact then sort_of_name c.own n else None
  sort_of c (Entry l t) = sort_if (nat_lt l c.own.lists && some_serves (sort_of c t) sort.Exact) sort.Int
  sort_of c (Turn loop) = sort_if (is_loop c loop) sort.Exact
  sort_of c (Place a) = sort_if (fits_access c a && is_some (sort_of_name c.own a.name)) sort.Exact
  sort_of c (Asked q n) = question_sort c.own q n
  sort_of c (Unary op t) = unary_sort op (sort_of c t)
  sort_of c (Binary op t u) = binary_sort op (sort_of c t) (sort_of c u)
  sort_of c (Exactly op t u) = sort_if (both_serve (sort_of c t) (sort_of c u) sort.Exact) (exact_sort op)
  sort_of c (Wrapped t) = sort_if (some_serves (sort_of c t) sort.Exact) sort.Int
  sort_of c (Each which ts) = elemental_sort which (sorts_of c ts)
  sort_of c (Trim t) = sort_if (some_serves (sort_of c t) sort.Text) sort.Text
  sort_of c (Len t) = sort_if (some_serves (sort_of c t) sort.Text) sort.Exact
  sort_of c (Applied r blank p ts) = applied_sort (slice_get c.unit.procedures p) (slice_get c.own.blocks r) (sorts_of c ts)

  pub sorts_of : Scope → Trees → List (ℕ × Option Sort)
  sorts_of c no_tree = []
  sorts_of c (tree place t ts) = (place, sort_of c t) ∷ sorts_of c ts

abbrev pub gives : Scope → Tree → Sort → Bool
gives c t asked = some_serves (sort_of c t) asked

abbrev pub fits_guard : Scope → Option Guard → Bool
fits_guard c None = true
fits_guard c (Some guard) = gives c guard.test sort.Log

-- a value that may be stored into the array
abbrev pub stores_in : Scope → Name → Tree → Bool
stores_in c n t = may_store c.own n && served_by (sort_of_name c.own n) (sort_of c t)

-- ---- calls

abbrev pub same_name : Name → Name → Bool
same_name (name.Own n) (name.Own m) = nat_eq n m
same_name (name.Temp n) (name.Temp m) = nat_eq n m
same_name n m = false

abbrev pub is_passed_in : Name → Passed → Bool
is_passed_in n (Value t) = false
is_passed_in n (Whole m) = same_name n m
is_passed_in n (ResultIn t) = same_name n (name.Temp t)

abbrev pub times_passed : Name → List Passed → ℕ
times_passed n [] = 0
times_passed n (p ∷ more) = if is_passed_in n p then suc (times_passed n more) else times_passed n more

-- an array into which the callee may store is one that may be stored into, and stands once
abbrev pub passed_whole : Procedure → Name → List Passed → Role → Bool
passed_whole q n all (role.Whole place true) = may_store q n && nat_eq (times_passed n all) 1
passed_whole q n all (role.Whole place false) = true
passed_whole q n all other = false

abbrev pub takes_whole : Procedure → Name → List Passed → Declared → Bool
takes_whole q n all d = passed_whole q n all d.role && is_sort (sort_of_name q n) (sort_of_type d.of) && is_block q n

abbrev pub fits_passed : Scope → List Passed → Passed → Declared → Bool
fits_passed c all (Value t) d = takes_value (sort_of c t) d
fits_passed c all (Whole n) d = takes_whole c.own n all d
fits_passed c all (ResultIn t) d = takes_result (slice_get c.own.blocks t) d && nat_eq (times_passed (name.Temp t) all) 1

abbrev pub all_fit : Scope → List Passed → List Declared → ℕ → List Passed → Bool
all_fit c all ds place [] = nat_eq (count_dummies ds) place
all_fit c all ds place (p ∷ more) = of_declared false (fits_passed c all p) (dummy_at place ds) && all_fit c all ds (suc place) more

abbrev pub fits_call : Scope → Option Procedure → List Passed → Bool
fits_call c None passed = false
fits_call c (Some q) passed = all_fit c passed q.variables 0 passed

-- ---- statements. `depth` loops may be left from here

abbrev pub sets : Scope → ℕ → Tree → Bool
sets c k t = served_by (slice_get c.own.scalars k) (sort_of c t)

-- a block of integers may hold exact ones
abbrev pub fits_block : Procedure → Block → Bool
fits_block q b = may_make b.made q b.name && served_by (sort_of_name q b.name) (Some (sort_of_blank b.blank))
    && fits_blank q b.blank
    && fits_spans q b.name b.bounds

pub record FitsFrame (q : Procedure) (frame : Frame) : Type 0 where
  pub amounts : list_all (fits_amount q) frame.extents ≡ true
  pub ordered : IsOrder (length frame.extents) frame.order
  pub ranked : (nat_le 1 (length frame.extents) && nat_le (length frame.extents) 7) ≡ true

abbrev pub Is : Bool → Type 0
Is b = b ≡ true

-- None where no loop and not the procedure may be left: in a nest, in its checks, before a condition. In a loop there the loops
-- from it on may be left
abbrev pub one_deeper : Option ℕ → Option ℕ
one_deeper None = None
one_deeper (Some depth) = Some (suc depth)

abbrev pub is_left : Option ℕ → ℕ → Bool
is_left None out = false
is_left (Some depth) out = nat_lt out depth

abbrev mutual
  pub FitsStatement : Scope → (depth : Option ℕ) → Statement → Type 0
  FitsStatement c depth (Set line k t) = Is (sets c k t)
  FitsStatement c depth (Test line kind t) = Is (gives c t sort.Log)
  FitsStatement c depth (Store p) = Is (fits_access c p.target && fits_guard c p.guard && stores_in c p.target.name p.value)
  FitsStatement c depth (StoreCell line n t u) = Is (gives c t sort.Exact && stores_in c n u)
  FitsStatement c depth (Make line b) = Is (fits_block c.own b)
  FitsStatement c depth (Grow line n a) = Is (may_grow c.own n && fits_amount c.own a)
  FitsStatement c depth (Rebound line n spans) = Is (is_block c.own n && fits_spans c.own n spans)
  FitsStatement c depth (Free line n) = Is (may_free c.own n)
  FitsStatement c depth (MakeList line l a) = Is (nat_lt l c.own.lists && fits_amount c.own a)
  FitsStatement c depth (StoreEntry line l t u) = Is (nat_lt l c.own.lists && gives c t sort.Exact && gives c u sort.Int)
  FitsStatement c depth (FreeList line l) = Is (nat_lt l c.own.lists)
  FitsStatement c depth (Nest own frame headers checks body) =
      FitsFrame c.own frame × FitsAll c None checks × FitsAll (in_nest c (length frame.extents)) None body
  FitsStatement c depth (If line test yes_part no_part) =
      Is (gives c test sort.Log) × FitsAll c depth yes_part × FitsAll c depth no_part
  FitsStatement c depth (While line head test body) =
      FitsAll c None head × Is (gives c test sort.Log) × FitsAll c (one_deeper depth) body
  FitsStatement c depth (Call line p passed) = Is (fits_call c (slice_get c.unit.procedures p) passed)
  FitsStatement c depth (Put line t) = Is (gives c t sort.Int || gives c t sort.Log || gives c t sort.Text)
  FitsStatement c depth Write = Unit {0}
  FitsStatement c depth (Take line k read) = Is (served_by (slice_get c.own.scalars k) (Some sort.Int)
      && is_sort (slice_get c.own.scalars read) sort.Log)
  FitsStatement c depth (Skip line read) = Is (is_sort (slice_get c.own.scalars read) sort.Log)
  FitsStatement c depth (Exit out) = Is (is_left depth out)
  FitsStatement c depth (Cycle out) = Is (is_left depth out)
  FitsStatement c depth Return = Is (is_some depth)
  FitsStatement c depth Stop = Unit {0}

  pub FitsAll : Scope → (depth : Option ℕ) → Statements → Type 0
  FitsAll c depth no_statement = Unit {0}
  FitsAll c depth (statement s more) = FitsStatement c depth s × FitsAll c depth more

-- ---- limits of the text

-- how many braces are open at once in the text of statements, at most
abbrev mutual
  pub braces_of : Statement → ℕ
  braces_of (Nest own frame headers checks body) = max (all_braces checks) (2 * length frame.extents + all_braces body)
  braces_of (If line test yes_part no_part) = suc (max (all_braces yes_part) (all_braces no_part))
  braces_of (While line head test body) = 3 + max (all_braces head) (all_braces body)
  braces_of other = 3

  pub all_braces : Statements → ℕ
  all_braces no_statement = 0
  all_braces (statement s more) = max (braces_of s) (all_braces more)

-- how many nodes trees and statements have
abbrev mutual
  pub tree_nodes : Tree → ℕ
  tree_nodes (Cell n t) = suc (tree_nodes t)
  tree_nodes (Entry l t) = suc (tree_nodes t)
  tree_nodes (Unary op t) = suc (tree_nodes t)
  tree_nodes (Binary op t u) = suc (tree_nodes t + tree_nodes u)
  tree_nodes (Exactly op t u) = suc (tree_nodes t + tree_nodes u)
  tree_nodes (Wrapped t) = suc (tree_nodes t)
  tree_nodes (Each which ts) = suc (trees_nodes ts)
  tree_nodes (Trim t) = suc (tree_nodes t)
  tree_nodes (Len t) = suc (tree_nodes t)
  tree_nodes (Applied r blank p ts) = suc (trees_nodes ts)
  tree_nodes other = 1

  pub trees_nodes : Trees → ℕ
  trees_nodes no_tree = 0
  trees_nodes (tree place t ts) = tree_nodes t + trees_nodes ts

abbrev pub guard_nodes : Option Guard → ℕ
guard_nodes None = 0
guard_nodes (Some guard) = tree_nodes guard.test

abbrev pub passed_nodes : List Passed → ℕ
passed_nodes [] = 0
passed_nodes (Value t ∷ more) = tree_nodes t + passed_nodes more
passed_nodes (Whole n ∷ more) = suc (passed_nodes more)
passed_nodes (ResultIn t ∷ more) = suc (passed_nodes more)

abbrev mutual
  pub nodes_of : Statement → ℕ
  nodes_of (Set line k t) = suc (tree_nodes t)
  nodes_of (Test line kind t) = suc (tree_nodes t)
  nodes_of (Store p) = suc (guard_nodes p.guard + tree_nodes p.value)
  nodes_of (StoreCell line n t u) = suc (tree_nodes t + tree_nodes u)
  nodes_of (StoreEntry line l t u) = suc (tree_nodes t + tree_nodes u)
  nodes_of (Nest own frame headers checks body) = suc (all_nodes checks + all_nodes body)
  nodes_of (If line test yes_part no_part) = suc (tree_nodes test + (all_nodes yes_part + all_nodes no_part))
  nodes_of (While line head test body) = suc (all_nodes head + (tree_nodes test + all_nodes body))
  nodes_of (Call line p passed) = suc (passed_nodes passed)
  nodes_of (Put line t) = suc (tree_nodes t)
  nodes_of other = 1

  pub all_nodes : Statements → ℕ
  all_nodes no_statement = 0
  all_nodes (statement s more) = nodes_of s + all_nodes more

-- a variable or a block may need a number for itself, for its length, and two for each of seven dimensions
abbrev pub numbers_of : Procedure → ℕ
numbers_of q = 16 * (length q.variables + length q.blocks + q.lists) + length q.scalars + all_nodes q.body

-- ---- declarations

abbrev pub has_own_length : DeclaredType → Role → Bool
has_own_length (declared.Character long.Assumed) role.Own = false
has_own_length (declared.Character long.Assumed) (role.Result place) = false
has_own_length of role = true

abbrev pub has_own_rank : ℕ → Role → Bool
has_own_rank rank (role.Value place) = nat_eq rank 0
has_own_rank rank other = nat_le rank 7

-- there is one dummy for each place from 0 on, and a result stands behind all others
abbrev pub result_is_last : ℕ → Role → Bool
result_is_last count (role.Result place) = nat_eq (suc place) count
result_is_last count other = true

abbrev pub are_declared : List Declared → Bool
are_declared ds = list_all (λ d. has_own_length d.of d.role && has_own_rank d.rank d.role
    && result_is_last (count_dummies ds) d.role) ds
    && list_all (λ place. is_some (dummy_at place ds)) (count_to (count_dummies ds))

-- ---- the whole

pub record FitsProcedure (unit : NestUnit) (q : Procedure) : Type 0 where
  pub body : FitsAll (record { unit = unit; own = q; loops = 0 }) (Some 0) q.body
  pub declared : are_declared q.variables ≡ true
  pub few_braces : all_braces q.body ≤ 990
  pub small_numbers : numbers_of q ≤ 2 ^ 31

pub record FitsUnit (unit : NestUnit) : Type 0 where
  pub main : FitsProcedure unit unit.main
  pub no_dummies : count_dummies unit.main.variables ≡ 0
  pub procedures : Every (FitsProcedure unit) unit.procedures
  pub constants : list_all (λ x. is_some (sort_of_scalar x)) unit.constants ≡ true
  pub few : length unit.procedures ≤ 2 ^ 31

pub record Sound (unit : NestUnit) : Type 0 where
  pub fits : FitsUnit unit
  pub never_strays : (input : List ℕ) (turns : ℕ) → (nest_run unit input turns).outcome ≡ Finished Strayed → ⊥
