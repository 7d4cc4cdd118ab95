-- The rules on calls, as they stand on one reference: what the procedure is that references, what it references, and when the one
-- reference breaks each of the rules.
use Rattle.std.specs.Prelude.{ℕ, ◌+◌, max, ◌==◌, nat_lt, Bool, true, false, not, ◌&&◌, ◌||◌, List, map, length, Option, Some, None}
use Rattle.std.specs.Prelude.{replicate, slice_get, slice_set, slice_index_or}
use Rattle.std.specs.List.{list_any}
use Rattle.a95_base.specs.declared.scalar.Kind.{Kind}
use Rattle.a95_base.specs.declared.scalar.Kind.TheVariants as kind
use Rattle.f95_unit.specs.declared.facts.Facts.{Facts}
use Rattle.f95_unit.specs.declared.unit.Role.{Role}
use Rattle.f95_unit.specs.declared.unit.Role.TheVariants as role
use Rattle.f95_unit.specs.declared.unit.Intent.{Intent}
use Rattle.f95_unit.specs.declared.unit.Intent.TheVariants as intent
use Rattle.f95_unit.specs.Plain.{Expr, typed, Named, Designator, at, Access, Whole, Subscripted, Subscripts, no_subscript}
use Rattle.f95_unit.specs.Plain.{subscript, One, Vector, SubscriptTriplet, Part, AllOf, BytesOf, Arguments, no_argument, argument}
use Rattle.f95_unit.specs.Plain.{Call, call, Entity, Procedure}
use Rattle.proc_calls.specs.declared.interface.Dummy.{Dummy}
use Rattle.proc_calls.specs.declared.interface.Interface.{Interface}
use Rattle.proc_calls.specs.declared.caller.Caller.{Caller}
use Rattle.proc_calls.specs.Interfaces.{is_pure}
use Rattle.proc_calls.specs.Acts.{Reference}

-- ---- the procedure that references, and what it references

-- a procedure with its number; the main program has none
pub record Home : Type 0 where
  pub number : Option ℕ
  pub of : Procedure

abbrev pub home : Option ℕ → Procedure → Home
home number p = record { number = number; of = p }

abbrev pub roles_of : List Entity → List Role
roles_of entities = map (λ (e : Entity). e.role) entities

abbrev pub caller_of : List Interface → Home → Caller
caller_of interfaces h = record {
  interfaces = interfaces;
  number = h.number;
  recursive = h.of.recursive;
  pure = is_pure h.of;
  roles = roles_of h.of.entities;
}

-- ---- actuals

abbrev pub facts_of : Expr → Facts
facts_of (typed facts node) = facts

abbrev pub value_rank : Expr → ℕ
value_rank e = length (facts_of e).extents

-- what an actual meets: the dummy at its place, and nothing past the last one
abbrev pub met_at : Option (Option Dummy) → Option Dummy
met_at None = None
met_at (Some d) = d

abbrev pub met : List (Option Dummy) → ℕ → Option Dummy
met dummies place = met_at (slice_get dummies place)

-- a test holds of an actual and what it meets
abbrev pub some_actual : (Option Dummy → Expr → Bool) → List (Option Dummy) → Arguments → Bool
some_actual test dummies no_argument = false
some_actual test dummies (argument place e more) = test (met dummies place) e || some_actual test dummies more

abbrev pub procedure_number : Call → ℕ
procedure_number (call p es) = p

abbrev pub actuals : Call → Arguments
actuals (call p es) = es

-- what a reference sees of the procedure that it names
abbrev pub callee : Caller → Reference → Option Interface
callee c r = slice_get c.interfaces (procedure_number r.of)

-- ---- rule 41: the arguments don't match in number, keyword, kind or rank, or the name isn't of that sort of procedure

abbrev pub argument_count : Arguments → ℕ
argument_count no_argument = 0
argument_count (argument place e more) = 1 + argument_count more

-- each argument takes the place of a dummy that none before it took, and in the end none is left
abbrev pub take_places : List Bool → Arguments → Bool
take_places free no_argument = not (list_any (λ b. b) free)
take_places free (argument place e more) = nat_lt place (length free)
    && (slice_index_or free place false && take_places (slice_set free place false) more)

-- as many arguments as dummies, and each dummy has one
abbrev pub is_each_once : ℕ → Arguments → Bool
is_each_once n es = argument_count es == n && take_places (replicate n true) es

abbrev pub is_kind : Kind → Kind → Bool
is_kind kind.Int kind.Int = true
is_kind kind.Log kind.Log = true
is_kind kind.Text kind.Text = true
is_kind k l = false

-- a dummy of an ELEMENTAL procedure takes an actual of any rank
abbrev pub is_misfit : Bool → Option Dummy → Expr → Bool
is_misfit elemental None e = false
is_misfit elemental (Some d) e = not (is_kind d.kind (facts_of e).kind) || (not elemental && not (d.rank == value_rank e))

-- the greatest rank of the actuals, which the reference has
abbrev pub joint_rank : Arguments → ℕ
joint_rank no_argument = 0
joint_rank (argument place e more) = max (value_rank e) (joint_rank more)

-- neither a scalar nor of the rank that the reference has
abbrev pub is_other_rank : ℕ → Option Dummy → Expr → Bool
is_other_rank n d e = nat_lt 0 (value_rank e) && not (value_rank e == n)

-- the actuals of an ELEMENTAL function are scalars or arrays of one rank
abbrev pub ranks_differ : Interface → Arguments → Bool
ranks_differ i es = i.function && (i.elemental && some_actual (is_other_rank (joint_rank es)) i.dummies es)

abbrev pub is_same : Bool → Bool → Bool
is_same true b = b
is_same false b = not b

abbrev pub mismatches : Interface → Bool → Arguments → Bool
mismatches i as_function es = not (is_same i.function as_function) || (not (is_each_once (length i.dummies) es)
    || (some_actual (is_misfit i.elemental) i.dummies es || ranks_differ i es))

abbrev pub is_mismatch : Option Interface → Reference → Bool
is_mismatch None r = true
is_mismatch (Some i) r = mismatches i r.as_function (actuals r.of)

-- ---- rule 42: the actual of an OUT or INOUT dummy isn't a designator that a store may name, or has a vector subscript or
-- substring

abbrev pub is_in : Intent → Bool
is_in intent.In = true
is_in intent.Out = false
is_in intent.InOut = false

-- a variable that isn't an IN dummy
abbrev pub is_variable : Option Role → Bool
is_variable None = false
is_variable (Some role.Own) = true
is_variable (Some (role.Dummy place intent)) = not (is_in intent)

abbrev pub has_vector : Subscripts → Bool
has_vector no_subscript = false
has_vector (subscript (One e) more) = has_vector more
has_vector (subscript (Vector e) more) = true
has_vector (subscript (SubscriptTriplet first last stride) more) = has_vector more

abbrev pub is_plain_access : Access → Bool
is_plain_access Whole = true
is_plain_access (Subscripted ss) = not (has_vector ss)

abbrev pub is_all : Part → Bool
is_all AllOf = true
is_all (BytesOf first last) = false

-- the roles of the caller's variables, and the variables of the DOs around
abbrev pub may_store : List Role → List ℕ → ℕ → Bool
may_store roles dos n = is_variable (slice_get roles n) && not (list_any (λ k. k == n) dos)

abbrev pub is_stored : List Role → List ℕ → Designator → Bool
is_stored roles dos (at n access part) = may_store roles dos n && (is_plain_access access && is_all part)

abbrev pub is_place : List Role → List ℕ → Expr → Bool
is_place roles dos (typed facts (Named d)) = is_stored roles dos d
is_place roles dos (typed facts other_node) = false

abbrev pub is_no_place : List Role → List ℕ → Option Dummy → Expr → Bool
is_no_place roles dos None e = false
is_no_place roles dos (Some d) e = not (is_in d.intent) && not (is_place roles dos e)

abbrev pub has_wrong_out : Caller → Option Interface → Reference → Bool
has_wrong_out c None r = false
has_wrong_out c (Some i) r = some_actual (is_no_place c.roles r.dos) i.dummies (actuals r.of)

-- ---- rule 43: a pure procedure references one that isn't pure

abbrev pub is_impure_call : Caller → Option Interface → Bool
is_impure_call c None = false
is_impure_call c (Some i) = c.pure && not i.pure

-- ---- rule 44: an ELEMENTAL subroutine has an array actual

abbrev pub is_array_actual : Option Dummy → Expr → Bool
is_array_actual d e = nat_lt 0 (value_rank e)

abbrev pub takes_array : Interface → Arguments → Bool
takes_array i es = i.elemental && (not i.function && some_actual is_array_actual i.dummies es)

abbrev pub has_array_actual : Option Interface → Reference → Bool
has_array_actual None r = false
has_array_actual (Some i) r = takes_array i (actuals r.of)

-- ---- rule 45: a procedure without RECURSIVE references itself

abbrev pub is_number : Option ℕ → ℕ → Bool
is_number None n = false
is_number (Some m) n = m == n

abbrev pub is_itself : Caller → ℕ → Bool
is_itself c n = not c.recursive && is_number c.number n

abbrev pub is_unmarked_recursion : Caller → Reference → Bool
is_unmarked_recursion c r = is_itself c (procedure_number r.of)

-- ---- rule 46: constant lengths of an actual and its dummy differ

abbrev pub are_other_lengths : Option ℕ → Option ℕ → Bool
are_other_lengths (Some m) (Some n) = not (m == n)
are_other_lengths m n = false

abbrev pub is_other_length : Option Dummy → Expr → Bool
is_other_length None e = false
is_other_length (Some d) e = are_other_lengths d.length (facts_of e).length

abbrev pub has_other_length : Option Interface → Reference → Bool
has_other_length None r = false
has_other_length (Some i) r = some_actual is_other_length i.dummies (actuals r.of)
