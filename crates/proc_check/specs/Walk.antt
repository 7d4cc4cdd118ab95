-- One walk through a unit that keeps the first break: the way that the code goes. Each word here is one on the list of what is
-- broken, taken part by part.
use Rattle.std.specs.Prelude.{ℕ, Bool, true, false, ◌&&◌, Option, Some, None, List, [], ◌∷◌, ◌++◌}
use Rattle.std.specs.List.{fold}
use Rattle.a95_base.specs.Rules.{not_pure, not_elemental}
use Rattle.f95_unit.specs.Plain.{Expr, typed, Node, Literal, Constant, Index, Named, Brackets, Unary, Binary, Constructor}
use Rattle.f95_unit.specs.Plain.{Elementwise, Trim, Asked, Reduced, Rearranged, Called, Designator, at, Access, Whole, Subscripted}
use Rattle.f95_unit.specs.Plain.{Subscripts, no_subscript, subscript, Subscript, One, Vector, SubscriptTriplet, Bound, Absent}
use Rattle.f95_unit.specs.Plain.{Given, Part, AllOf, BytesOf, Items, no_item, value, loop, Arguments, no_argument, argument}
use Rattle.f95_unit.specs.Plain.{Subject, Name, Of, Call, call, Target, Assign, Where, masked, MaskedBody, no_masked, assigning}
use Rattle.f95_unit.specs.Plain.{narrowed, Others, no_other, elsewhere, Triplet, Forall, Span, Allocation, Stmt, Assigns, Masks}
use Rattle.f95_unit.specs.Plain.{ForAll, Calls, Allocate, Deallocate, Print, Read, If, Select, Do, While, Forever, Exit, Cycle}
use Rattle.f95_unit.specs.Plain.{Return, Stop, Stmts, no_stmt, stmt, Branches, no_branch, branch, Cases, no_case, case, Entity}
use Rattle.f95_unit.specs.Plain.{Procedure, Program}
use Rattle.proc_calls.specs.declared.interface.Interface.{Interface}
use Rattle.proc_calls.specs.declared.caller.Caller.{Caller}
use Rattle.proc_calls.specs.Interfaces.{interfaces_of}
use Rattle.proc_calls.specs.Acts.{Transfers, reference}
use Rattle.proc_calls.specs.Rules.{Home, caller_of}
use Rattle.proc_calls.specs.Found.{Found, noted, told}
use Rattle.proc_check.specs.Rules.{is_impure_function, changes_dummy, is_recursive_elemental, is_array, has_array_dummy, result_of}
use Rattle.proc_check.specs.Rules.{homes}

-- ---- expressions

abbrev pub Telling : Type 0
Telling = Found → Call → Found

-- of the references on a line
abbrev pub telling : Caller → ℕ → List ℕ → Telling
telling c line dos found which = told c found (reference line dos true which)

module _ (tell : Telling) where
  abbrev mutual
    pub through_expr : Found → Expr → Found
    through_expr found (typed facts node) = through_node found node

    pub through_node : Found → Node → Found
    through_node found (Literal x) = found
    through_node found (Constant n) = found
    through_node found (Index k) = found
    through_node found (Named d) = through_designator found d
    through_node found (Brackets e) = through_expr found e
    through_node found (Unary op e) = through_expr found e
    through_node found (Binary op e f) = through_expr (through_expr found e) f
    through_node found (Constructor items) = through_items found items
    through_node found (Elementwise which es) = through_arguments found es
    through_node found (Trim e) = through_expr found e
    through_node found (Asked which dim subject) = through_subject found subject
    through_node found (Reduced which dim es) = through_arguments found es
    through_node found (Rearranged which dim es) = through_arguments found es
    through_node found (Called c) = through_call found c

    pub through_designator : Found → Designator → Found
    through_designator found (at n access part) = through_part (through_access found access) part

    pub through_access : Found → Access → Found
    through_access found Whole = found
    through_access found (Subscripted ss) = through_subscripts found ss

    pub through_subscripts : Found → Subscripts → Found
    through_subscripts found no_subscript = found
    through_subscripts found (subscript s more) = through_subscripts (through_subscript found s) more

    pub through_subscript : Found → Subscript → Found
    through_subscript found (One e) = through_expr found e
    through_subscript found (Vector e) = through_expr found e
    through_subscript found (SubscriptTriplet first last stride) =
        through_bound (through_bound (through_bound found first) last) stride

    pub through_bound : Found → Bound → Found
    through_bound found Absent = found
    through_bound found (Given e) = through_expr found e

    pub through_part : Found → Part → Found
    through_part found AllOf = found
    through_part found (BytesOf first last) = through_bound (through_bound found first) last

    pub through_items : Found → Items → Found
    through_items found no_item = found
    through_items found (value e more) = through_items (through_expr found e) more
    through_items found (loop body first last step more) =
        through_items (through_bound (through_expr (through_expr (through_items found body) first) last) step) more

    pub through_arguments : Found → Arguments → Found
    through_arguments found no_argument = found
    through_arguments found (argument place e more) = through_arguments (through_expr found e) more

    pub through_subject : Found → Subject → Found
    through_subject found (Name n) = found
    through_subject found (Of e) = through_expr found e

    pub through_call : Found → Call → Found
    through_call found (call p es) = through_arguments (tell found (call p es)) es

  abbrev pub through_option : Found → Option Expr → Found
  through_option found None = found
  through_option found (Some e) = through_expr found e

  abbrev pub through_triplet : Found → Triplet → Found
  through_triplet found t = through_bound (through_expr (through_expr found t.first) t.last) t.stride

  abbrev pub through_span : Found → Span → Found
  through_span found s = through_expr (through_bound found s.lower) s.upper

  abbrev pub through_allocation : Found → Allocation → Found
  through_allocation found a = fold through_span found a.spans

  abbrev pub through_target : Found → Target → Found
  through_target found t = through_designator found t.designator

-- ---- statements

module _ (c : Caller) where
  abbrev pub through_assign : List ℕ → Found → Assign → Found
  through_assign dos found a =
      through_expr (telling c a.line dos) (through_designator (telling c a.line dos) found a.target.designator) a.value

  abbrev mutual
    pub through_where : List ℕ → Found → Where → Found
    through_where dos found (masked line mask body others) =
        through_others dos (through_masked dos (through_expr (telling c line dos) found mask) body) others

    pub through_masked : List ℕ → Found → MaskedBody → Found
    through_masked dos found no_masked = found
    through_masked dos found (assigning a more) = through_masked dos (through_assign dos found a) more
    through_masked dos found (narrowed w more) = through_masked dos (through_where dos found w) more

    pub through_others : List ℕ → Found → Others → Found
    through_others dos found no_other = found
    through_others dos found (elsewhere line mask body more) =
        through_others dos (through_masked dos (through_option (telling c line dos) found mask) body) more

  abbrev pub through_forall : List ℕ → Found → Forall → Found
  through_forall dos found f =
      fold (through_assign dos) (through_option (telling c f.line dos)
      (fold (through_triplet (telling c f.line dos)) found f.triplets) f.mask) f.body

  abbrev mutual
    pub through_stmt : List ℕ → Found → Stmt → Found
    through_stmt dos found (Assigns a) = through_assign dos found a
    through_stmt dos found (Masks w) = through_where dos found w
    through_stmt dos found (ForAll f) = through_forall dos found f
    through_stmt dos found (Calls line (call p es)) =
        through_arguments (telling c line dos) (told c found (reference line dos false (call p es))) es
    through_stmt dos found (Allocate line objects) = fold (through_allocation (telling c line dos)) found objects
    through_stmt dos found (Deallocate line names) = found
    through_stmt dos found (Print line es) = fold (through_expr (telling c line dos)) (told c found (Transfers line)) es
    through_stmt dos found (Read line targets) =
        fold (through_target (telling c line dos)) (told c found (Transfers line)) targets
    through_stmt dos found (If branches otherwise) = through_stmts dos (through_branches dos found branches) otherwise
    through_stmt dos found (Select line e cases otherwise) =
        through_stmts dos (through_cases dos (through_expr (telling c line dos) found e) cases) otherwise
    through_stmt dos found (Do line n first last step body) =
        through_stmts (dos ++ n ∷ []) (through_bound (telling c line dos) (through_expr (telling c line dos)
        (through_expr (telling c line dos) found first) last) step) body
    through_stmt dos found (While line e body) = through_stmts dos (through_expr (telling c line dos) found e) body
    through_stmt dos found (Forever line body) = through_stmts dos found body
    through_stmt dos found (Exit line out) = found
    through_stmt dos found (Cycle line out) = found
    through_stmt dos found (Return line) = found
    through_stmt dos found (Stop line) = told c found (Transfers line)

    pub through_stmts : List ℕ → Found → Stmts → Found
    through_stmts dos found no_stmt = found
    through_stmts dos found (stmt s more) = through_stmts dos (through_stmt dos found s) more

    pub through_branches : List ℕ → Found → Branches → Found
    through_branches dos found no_branch = found
    through_branches dos found (branch line e body more) =
        through_branches dos (through_stmts dos (through_expr (telling c line dos) found e) body) more

    pub through_cases : List ℕ → Found → Cases → Found
    through_cases dos found no_case = found
    through_cases dos found (case ranges body more) = through_cases dos (through_stmts dos found body) more

-- ---- procedures

abbrev pub through_heading : Procedure → Found → Found
through_heading p found =
    noted (noted found (is_impure_function p) p.line not_pure) (is_recursive_elemental p) p.line not_elemental

abbrev pub through_entity : Procedure → Found → Entity → Found
through_entity p found e = noted (noted found (changes_dummy p e) e.line not_pure) (has_array_dummy p e) e.line not_elemental

abbrev pub through_result : Bool → Found → Option Entity → Found
through_result elemental found None = found
through_result elemental found (Some e) = noted found (elemental && is_array e) e.line not_elemental

abbrev pub through_declarations : Procedure → Found → Found
through_declarations p found =
    through_result p.elemental (fold (through_entity p) (through_heading p found) p.entities) (result_of p)

abbrev pub through_home : List Interface → Found → Home → Found
through_home interfaces found h =
    through_stmts (caller_of interfaces h) [] (through_declarations h.of found) h.of.body

-- the first that the unit breaks
abbrev pub through_unit : Program → Found
through_unit u = fold (through_home (interfaces_of u)) None (homes u)
