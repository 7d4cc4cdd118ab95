-- What the reader has settled of a unit, as far as it is lowered: each value has the kind that its facts tell, and that its place
-- asks for; the constants are integers of 32 bits, truths and texts; what EXIT and CYCLE leave is there. Of what is not lowered
-- nothing is asked.
use Rattle.std.specs.Prelude.{ℕ, suc, Bool, true, false, ◌&&◌, nat_le, nat_lt, Option, Some, None, is_some, List, [], ◌∷◌}
use Rattle.std.specs.Prelude.{slice_get}
use Rattle.std.specs.List.{list_all}
use Rattle.a95_base.specs.declared.scalar.Scalar.{Scalar}
use Rattle.a95_base.specs.Limits.{longest_text}
use Rattle.f95_unit.specs.declared.stmt.Range.{Range}
use Rattle.f95_unit.specs.declared.stmt.Range.TheVariants as range
use Rattle.f95_unit.specs.declared.unit.DeclaredType.{DeclaredType}
use Rattle.f95_unit.specs.declared.unit.DeclaredType.TheVariants as declared
use Rattle.f95_unit.specs.declared.unit.Length.TheVariants as long
use Rattle.f95_unit.specs.Plain.{Expr, typed, Literal, Constant, Named, Brackets, Unary, Binary, Elementwise, Trim, Asked, Bound}
use Rattle.f95_unit.specs.Plain.{Absent}
use Rattle.f95_unit.specs.Plain.{Given, Arguments, no_argument, argument, Name, Stmt, Assigns, Print, If, Select, Do, While}
use Rattle.f95_unit.specs.Plain.{Forever, Exit, Cycle, Stmts, no_stmt, stmt, Branches, no_branch, branch, Cases, no_case, case}
use Rattle.f95_unit.specs.Plain.{Entity}
use Rattle.f95_unit.specs.Plain.{Procedure, Program}
use Rattle.array_meaning.specs.Expressions.{has_no_extents}
use Rattle.nest_tree.specs.declared.unit.Sort.{Sort}
use Rattle.nest_tree.specs.declared.unit.Sort.TheVariants as sort
use Rattle.nest_tree.specs.Sound.{same_sort, is_sort, sort_of_scalar, sort_of_some, unary_sort, binary_sort, elemental_sort}
use Rattle.control_lower.specs.Trees.{sort_of, sort_of_expr, sorts_of, sort_at, variable_of}

-- values of which one comes before another
abbrev pub has_order : Sort → Bool
has_order sort.Int = true
has_order sort.Text = true
has_order s = false

module _ (constants : List Scalar) where
  abbrev pub is_constant : Sort → ℕ → Bool
  is_constant s n = is_sort (sort_of_some (slice_get constants n)) s

  -- a range of a CASE whose selector has this sort
  abbrev pub settled_range : Sort → Range → Bool
  settled_range s (range.One n) = is_constant s n
  settled_range s (range.From n) = has_order s && is_constant s n
  settled_range s (range.UpTo n) = has_order s && is_constant s n
  settled_range s (range.Between n m) = has_order s && (is_constant s n && is_constant s m)

module _ (constants : List Scalar) (entities : List Entity) where
  -- ---- expressions

  abbrev mutual
    pub settled : Expr → Bool
    settled (typed f (Literal x)) = is_sort (sort_of_scalar x) (sort_of f)
    settled (typed f (Constant n)) = is_constant constants (sort_of f) n
    settled (typed f (Named d)) = is_sort (sort_at entities (variable_of d)) (sort_of f)
    settled (typed f (Brackets e)) = settled e && same_sort (sort_of_expr e) (sort_of f)
    settled (typed f (Unary op e)) = settled e && is_sort (unary_sort op (Some (sort_of_expr e))) (sort_of f)
    settled (typed f (Binary op e g)) =
        settled e && (settled g && is_sort (binary_sort op (Some (sort_of_expr e)) (Some (sort_of_expr g))) (sort_of f))
    settled (typed f (Elementwise which es)) =
        all_settled es && (has_no_extents f.extents && is_sort (elemental_sort which (sorts_of es)) (sort_of f))
    settled (typed f (Trim e)) = settled e && (same_sort (sort_of_expr e) sort.Text && same_sort sort.Text (sort_of f))
    settled (typed f (Asked which dim (Name n))) = is_sort (sort_at entities n) sort.Text && same_sort sort.Int (sort_of f)
    settled other = true

    pub all_settled : Arguments → Bool
    all_settled no_argument = true
    all_settled (argument place e es) = settled e && all_settled es

  -- an expression of a sort
  abbrev pub settled_as : Sort → Expr → Bool
  settled_as s e = same_sort (sort_of_expr e) s && settled e

  abbrev pub settled_bound : Bound → Bool
  settled_bound Absent = true
  settled_bound (Given e) = settled_as sort.Int e

  -- a variable, and a value of its sort
  abbrev pub settled_store : ℕ → Expr → Bool
  settled_store n e = is_sort (sort_at entities n) (sort_of_expr e) && settled e

  -- ---- statements, with so many DOs around

  abbrev mutual
    pub settled_stmt : ℕ → Stmt → Bool
    settled_stmt depth (Assigns a) = settled_store (variable_of a.target.designator) a.value
    settled_stmt depth (Print line es) = list_all settled es
    settled_stmt depth (If branches otherwise) = settled_branches depth branches && settled_stmts depth otherwise
    settled_stmt depth (Select line e choices otherwise) =
        settled e && (settled_cases depth (sort_of_expr e) choices && settled_stmts depth otherwise)
    settled_stmt depth (Do line n first last step body) =
        is_sort (sort_at entities n) sort.Int && (settled_as sort.Int first && (settled_as sort.Int last
        && (settled_bound step && settled_stmts (suc depth) body)))
    settled_stmt depth (While line e body) = settled_as sort.Log e && settled_stmts (suc depth) body
    settled_stmt depth (Forever line body) = settled_stmts (suc depth) body
    settled_stmt depth (Exit line out) = nat_lt out depth
    settled_stmt depth (Cycle line out) = nat_lt out depth
    settled_stmt depth other = true

    pub settled_stmts : ℕ → Stmts → Bool
    settled_stmts depth no_stmt = true
    settled_stmts depth (stmt s more) = settled_stmt depth s && settled_stmts depth more

    pub settled_branches : ℕ → Branches → Bool
    settled_branches depth no_branch = true
    settled_branches depth (branch line e body more) =
        settled_as sort.Log e && (settled_stmts depth body && settled_branches depth more)

    pub settled_cases : ℕ → Sort → Cases → Bool
    settled_cases depth s no_case = true
    settled_cases depth s (case ranges body more) =
        list_all (settled_range constants s) ranges && (settled_stmts depth body && settled_cases depth s more)

  -- ---- declarations, by their numbers

  abbrev pub settled_initial : ℕ → Option Expr → Bool
  settled_initial n None = true
  settled_initial n (Some e) = settled_store n e

  unfoldable pub settled_initials : ℕ → List Entity → Bool
  settled_initials n [] = true
  settled_initials n (e ∷ more) = settled_initial n e.initial && settled_initials (suc n) more

-- ---- units

abbrev pub has_length : DeclaredType → Bool
has_length (declared.Character (long.Fixed n)) = nat_le n longest_text
has_length of = true

abbrev pub settled_main : List Scalar → Procedure → Bool
settled_main constants q = list_all (λ e. has_length e.of) q.entities && (settled_initials constants q.entities 0 q.entities
    && settled_stmts constants q.entities 0 q.body)

abbrev pub is_settled : Program → Bool
is_settled unit = list_all (λ x. is_some (sort_of_scalar x)) unit.constants && settled_main unit.constants unit.main
