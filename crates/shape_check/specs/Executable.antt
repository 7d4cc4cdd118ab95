-- The statements of the typed unit that those of a source are.
use Rattle.std.specs.Prelude.{ℕ, pos, suc, ◌+◌, Bool, true, false, ◌&&◌, if◌then◌else◌, List, [], ◌∷◌, ◌++◌, length, Option, Some}
use Rattle.std.specs.Prelude.{None, option_map}
use Rattle.std.specs.List.{list_all, position_from}
use Rattle.a95_base.specs.declared.scalar.Scalar.{Scalar}
use Rattle.a95_base.specs.declared.scalar.Scalar.TheVariants as scalar
use Rattle.a95_base.specs.declared.scalar.Kind.{Kind}
use Rattle.constant_operators.specs.declared.value.Worth.{Worth}
use Rattle.constant_operators.specs.declared.value.Worth.TheVariants.{Is, Spoilt, Unknown}
use Rattle.f95_tree.specs.Forms.{Word}
use Rattle.intrinsic_table.specs.Finding.{is_word}
use Rattle.names_types.specs.Plain as source
use Rattle.f95_unit.specs.declared.stmt.Range.{Range as CaseRange}
use Rattle.f95_unit.specs.declared.stmt.Range.TheVariants as range
use Rattle.f95_unit.specs.Plain.{Expr, Bound, call, Target, Where, Forall, Span, Allocation, Stmt, Assigns, Masks, ForAll, Calls}
use Rattle.f95_unit.specs.Plain.{Allocate, Deallocate, Print, Read, Exit, Cycle, Return, Stop, Stmts, no_stmt, stmt}
use Rattle.shape_check.specs.Statements as statement
use Rattle.well_typed.specs.Known.{facts_of, worth_of}
use Rattle.well_typed.specs.Questions.{Question, Selects, Allocates, Frees, Matches, Shares, Takes}
use Rattle.well_typed.specs.Rules.{is_settled}
use Rattle.shape_check.specs.Found.{Found, found, asking, then_found, mapped, both, each_found, and_asking}
use Rattle.shape_check.specs.Names.{Sense, IsProcedure, Names, sense_of, number_in, variable_of}
use Rattle.shape_check.specs.Nodes.{Item, Single, actuals_of}
use Rattle.shape_check.specs.Expressions.{expr_of, bound_of, bounded_by}
use Rattle.shape_check.specs.Told.{Told, told, mapped_told, posed_at, told_at, maybe_stmt, stmt_told}
use Rattle.shape_check.specs.Assignments.{target_of, target, assignment_of, deciding, where_of, forall_of}
use Rattle.well_typed.specs.declared.asked.Range.{Range}

abbrev pub one : Stmt → Stmts
one s = stmt s no_stmt

abbrev pub append : Stmts → Stmts → Stmts
append no_stmt ss = ss
append (stmt s more) ss = stmt s (append more ss)

-- ---- calls

abbrev pub actual_of : Names → statement.Actual → Found Item
actual_of c a = mapped (Single a.keyword) (expr_of c a.value)

-- what is no procedure has a number past the last one
abbrev pub nowhere : Names → ℕ
nowhere c = length c.callees

abbrev pub call_to : Names → Sense → ℕ → List Item → Stmt
call_to c (IsProcedure n dummies) line items = Calls line (call n (actuals_of dummies items))
call_to c other line items = Calls line (call (nowhere c) (actuals_of [] items))

abbrev pub call_of : Names → ℕ → Word → List statement.Actual → Found Stmt
call_of c line name actuals = mapped (call_to c (sense_of c name) line) (each_found (actual_of c) actuals)

-- ---- ALLOCATE, DEALLOCATE, READ

abbrev pub number_or_first : Option ℕ → ℕ
number_or_first None = 0
number_or_first (Some n) = n

abbrev pub variable_number : Names → Word → ℕ
variable_number c name = number_or_first (number_in (sense_of c name))

abbrev pub span : Bound × Expr → Span
span p = record { lower = p.0; upper = p.1 }

abbrev pub span_of : Names → source.Bound → source.Expr → Found Span
span_of c lower upper = mapped span (both (bound_of c lower) (bounded_by (expr_of c upper)))

abbrev pub allocation : ℕ → List Span → Allocation
allocation n spans = record { variable = n; spans = spans }

abbrev pub allocation_of : Names → statement.Allocation → Found Allocation
allocation_of c a = and_asking (Allocates (variable_of c (sense_of c a.name)) (length a.spans))
    (mapped (allocation (variable_number c a.name)) (each_found (λ (s : statement.Span). span_of c s.lower s.upper) a.spans))

abbrev pub deallocation_of : Names → Word → Found ℕ
deallocation_of c name = asking (Frees (variable_of c (sense_of c name))) (variable_number c name)

abbrev pub item_of : Names → source.Reference → Found Target
item_of c r = then_found (target_of c r) (λ p. asking (Takes p.0) (target p))

-- ---- actions

-- the DOs around that lie inside the one of that name
abbrev pub is_named : Word → Option Word → Bool
is_named name None = false
is_named name (Some other) = is_word name other

abbrev pub do_level : List (Option Word) → Option Word → ℕ
do_level loops None = 0
do_level loops (Some name) = number_or_first (position_from (is_named name) 0 loops)

abbrev pub where_stmt : Option Where → Stmts
where_stmt w = maybe_stmt (option_map Masks w)

abbrev pub forall_stmt : Option Forall → Stmts
forall_stmt f = maybe_stmt (option_map ForAll f)

-- `loops` has the names of the DOs around, the inner ones first
abbrev pub action_of : Names → List (Option Word) → ℕ → statement.Action → Told Stmts
action_of c loops line (statement.Assign a) = stmt_told line (mapped Assigns (assignment_of c line a))
action_of c loops line (statement.CallOf name actuals) = stmt_told line (call_of c line name actuals)
action_of c loops line (statement.Allocate objects) = stmt_told line (mapped (Allocate line) (each_found (allocation_of c) objects))
action_of c loops line (statement.Deallocate names) =
    stmt_told line (mapped (Deallocate line) (each_found (deallocation_of c) names))
action_of c loops line (statement.Print es) = stmt_told line (mapped (Print line) (each_found (expr_of c) es))
action_of c loops line (statement.Read rs) = stmt_told line (mapped (Read line) (each_found (item_of c) rs))
action_of c loops line statement.Stop = told (one (Stop line))
action_of c loops line statement.Return = told (one (Return line))
action_of c loops line statement.Continue = told no_stmt
action_of c loops line (statement.Exit name) = told (one (Exit line (do_level loops name)))
action_of c loops line (statement.Cycle name) = told (one (Cycle line (do_level loops name)))
action_of c loops line (statement.WhereOne mask a) = mapped_told where_stmt (where_of c None
    (statement.where_block line mask (statement.assigning (record { line = line; of = a }) statement.no_masked) statement.no_other))
action_of c loops line (statement.ForallOne h a) =
    mapped_told forall_stmt (forall_of c line h (record { line = line; of = a } ∷ []))

-- ---- conditions and selectors

abbrev pub condition_of : Names → ℕ → source.Expr → Told (Option Expr)
condition_of c line e = told_at line (then_found (expr_of c e) deciding)

abbrev pub selecting : Expr → Found Expr
selecting e = asking (Selects (facts_of e)) e

abbrev pub selector_of : Names → source.Expr → Found Expr
selector_of c e = then_found (expr_of c e) selecting

-- ---- CASE: its values are constants of the unit, the first of which has the number `next`

-- a value, where the selector has a kind and it fits
abbrev pub CaseValue : Type 0
CaseValue = Option Scalar

abbrev pub scalar_in : Worth → Option Scalar
scalar_in (Is x) = Some x
scalar_in Spoilt = None
scalar_in Unknown = None

abbrev pub matching : Names → Option Kind → Bool → Expr → Found CaseValue
matching c None colon e = found None
matching c (Some k) colon e =
    asking (Matches k colon (facts_of e).kind (worth_of c.constants e)) (scalar_in (worth_of c.constants e))

-- where no rule says why a value has no type, it is no constant expression
abbrev pub as_constant : Option Kind → Bool → Found Expr → Found CaseValue → Found CaseValue
as_constant None colon e v = v
as_constant (Some k) colon e v =
    if list_all is_settled e.asked && is_untyped e.made then and_asking (Matches k colon k Unknown) v else v
  where
    is_untyped : Option Expr → Bool
    is_untyped None = true
    is_untyped (Some x) = false

abbrev pub case_value : Names → Option Kind → Bool → source.Expr → Found CaseValue
case_value c k colon e = as_constant k colon (expr_of c e) (then_found (expr_of c e) (matching c k colon))

abbrev pub value_or_zero : Option CaseValue → Scalar
value_or_zero (Some (Some x)) = x
value_or_zero other = scalar.Int (pos 0)

-- what a CASE says: its ranges with their numbers, those that are known, and the values
pub record Ranged : Type 0 where
  pub ranges : List CaseRange
  pub known : List Range
  pub asked : List Question
  pub values : List Scalar

abbrev pub known_between : Option CaseValue → Option CaseValue → List Range
known_between (Some (Some x)) (Some (Some y)) = record { lower = Some x; upper = Some y } ∷ []
known_between v w = []

abbrev pub known_from : Option CaseValue → List Range
known_from (Some (Some x)) = record { lower = Some x; upper = None } ∷ []
known_from v = []

abbrev pub known_up_to : Option CaseValue → List Range
known_up_to (Some (Some x)) = record { lower = None; upper = Some x } ∷ []
known_up_to v = []

abbrev pub ranged : CaseRange → List Range → List Question → List Scalar → Ranged
ranged r known asked values = record { ranges = r ∷ []; known = known; asked = asked; values = values }

abbrev pub one_ranged : ℕ → Found CaseValue → Ranged
one_ranged next v = ranged (range.One next) (known_between v.made v.made) v.asked (value_or_zero v.made ∷ [])

abbrev pub from_ranged : ℕ → Found CaseValue → Ranged
from_ranged next v = ranged (range.From next) (known_from v.made) v.asked (value_or_zero v.made ∷ [])

abbrev pub up_to_ranged : ℕ → Found CaseValue → Ranged
up_to_ranged next v = ranged (range.UpTo next) (known_up_to v.made) v.asked (value_or_zero v.made ∷ [])

abbrev pub between_ranged : ℕ → Found CaseValue → Found CaseValue → Ranged
between_ranged next v w = ranged (range.Between next (suc next)) (known_between v.made w.made) (v.asked ++ w.asked)
    (value_or_zero v.made ∷ value_or_zero w.made ∷ [])

abbrev pub range_of : Names → Option Kind → ℕ → statement.CaseRange → Ranged
range_of c k next (statement.One e) = one_ranged next (case_value c k false e)
range_of c k next (statement.From e) = from_ranged next (case_value c k true e)
range_of c k next (statement.UpTo e) = up_to_ranged next (case_value c k true e)
range_of c k next (statement.Between e f) = between_ranged next (case_value c k true e) (case_value c k true f)

abbrev pub range_count : statement.CaseRange → ℕ
range_count (statement.One e) = 1
range_count (statement.From e) = 1
range_count (statement.UpTo e) = 1
range_count (statement.Between e f) = 2

abbrev pub range_counts : List statement.CaseRange → ℕ
range_counts [] = 0
range_counts (r ∷ more) = range_count r + range_counts more

abbrev pub with_range : Ranged → Ranged → Ranged
with_range r s = record {
  ranges = r.ranges ++ s.ranges;
  known = r.known ++ s.known;
  asked = r.asked ++ s.asked;
  values = r.values ++ s.values;
}

abbrev pub ranges_of : Names → Option Kind → ℕ → List statement.CaseRange → Ranged
ranges_of c k next [] = record { ranges = []; known = []; asked = []; values = [] }
ranges_of c k next (r ∷ more) = with_range (range_of c k next r) (ranges_of c k (next + range_count r) more)

-- the ranges of a CASE behind those of the earlier ones
abbrev pub ranges_told : ℕ → List Range → Ranged → Told (List CaseRange)
ranges_told line earlier r =
    record { is = r.ranges; posed = posed_at line (r.asked ++ Shares earlier r.known ∷ []); values = r.values; missing = [] }
