-- The rules on what procedures may be, and all rules on calls and procedures: when a reference, a statement, a declaration or a
-- prefix of a unit breaks each of them.
use Rattle.std.specs.Prelude.{ℕ, ◌+◌, nat_lt, Bool, true, false, not, ◌&&◌, is_some, List, [], ◌∷◌, Option, Some, None, slice_get}
use Rattle.std.specs.Prelude.{◌≡◌}
use Rattle.a95_base.specs.Lists.{Member}
use Rattle.a95_base.specs.Rules.{wrong_arguments, wrong_out_argument, not_pure, not_elemental, not_recursive, lengths_differ}
use Rattle.f95_unit.specs.declared.unit.Role.{Role}
use Rattle.f95_unit.specs.declared.unit.Role.TheVariants as role
use Rattle.f95_unit.specs.Plain.{Entity, Procedure, Program}
use Rattle.proc_calls.specs.declared.caller.Caller.{Caller}
use Rattle.proc_calls.specs.Interfaces.{rank_of, is_dummy, is_pure, interfaces_of}
use Rattle.proc_calls.specs.Acts.{Reference, References, Act, Transfers}
use Rattle.proc_calls.specs.Rules.{is_mismatch, has_wrong_out, is_in, is_impure_call, has_array_actual, is_unmarked_recursion}
use Rattle.proc_calls.specs.Rules.{has_other_length, Home, home, caller_of, callee}
use Rattle.proc_check.specs.References.{stmts_acts}

-- ---- rule 43: a function is neither PURE nor ELEMENTAL, or has a dummy other than IN

abbrev pub is_impure_function : Procedure → Bool
is_impure_function p = is_some p.result && not (is_pure p)

abbrev pub is_changed_dummy : Role → Bool
is_changed_dummy role.Own = false
is_changed_dummy (role.Dummy place intent) = not (is_in intent)

abbrev pub changes_dummy : Procedure → Entity → Bool
changes_dummy p e = is_some p.result && is_changed_dummy e.role

-- ---- rule 44: an ELEMENTAL procedure has RECURSIVE, or an array dummy or result

abbrev pub is_recursive_elemental : Procedure → Bool
is_recursive_elemental p = p.elemental && p.recursive

abbrev pub is_array : Entity → Bool
is_array e = nat_lt 0 (rank_of e.bounds)

abbrev pub has_array_dummy : Procedure → Entity → Bool
has_array_dummy p e = p.elemental && (is_dummy e.role && is_array e)

-- the result of a function
abbrev pub result_in : List Entity → Option ℕ → Option Entity
result_in entities None = None
result_in entities (Some n) = slice_get entities n

abbrev pub result_of : Procedure → Option Entity
result_of p = result_in p.entities p.result

-- ---- all rules

abbrev pub numbered : ℕ → List Procedure → List Home
numbered n [] = []
numbered n (p ∷ more) = home (Some n) p ∷ numbered (n + 1) more

abbrev pub homes : Program → List Home
homes u = home None u.main ∷ numbered 0 u.procedures

abbrev pub caller_in : Program → Home → Caller
caller_in u h = caller_of (interfaces_of u) h

-- what its statements do
abbrev pub acts : Home → List Act
acts h = stmts_acts [] h.of.body

-- a unit breaks the rule on the line
pub data Breaks (u : Program) : ℕ → ℕ → Type 0 where
  has_wrong_arguments : (h : Home) (r : Reference) → Member (homes u) h → Member (acts h) (References r)
      → is_mismatch (callee (caller_in u h) r) r ≡ true → Breaks u r.line wrong_arguments
  changes_no_variable : (h : Home) (r : Reference) → Member (homes u) h → Member (acts h) (References r)
      → has_wrong_out (caller_in u h) (callee (caller_in u h) r) r ≡ true → Breaks u r.line wrong_out_argument
  function_is_not_pure : (h : Home) → Member (homes u) h → is_impure_function h.of ≡ true → Breaks u h.of.line not_pure
  function_changes_dummy : (h : Home) (e : Entity) → Member (homes u) h → Member h.of.entities e
      → changes_dummy h.of e ≡ true → Breaks u e.line not_pure
  transfers_in_pure : (h : Home) (line : ℕ) → Member (homes u) h → Member (acts h) (Transfers line)
      → is_pure h.of ≡ true → Breaks u line not_pure
  references_impure : (h : Home) (r : Reference) → Member (homes u) h → Member (acts h) (References r)
      → is_impure_call (caller_in u h) (callee (caller_in u h) r) ≡ true → Breaks u r.line not_pure
  elemental_is_recursive : (h : Home) → Member (homes u) h → is_recursive_elemental h.of ≡ true → Breaks u h.of.line not_elemental
  elemental_has_array_dummy : (h : Home) (e : Entity) → Member (homes u) h → Member h.of.entities e
      → has_array_dummy h.of e ≡ true → Breaks u e.line not_elemental
  elemental_has_array_result : (h : Home) (e : Entity) → Member (homes u) h → result_of h.of ≡ Some e
      → h.of.elemental && is_array e ≡ true → Breaks u e.line not_elemental
  elemental_takes_array : (h : Home) (r : Reference) → Member (homes u) h → Member (acts h) (References r)
      → has_array_actual (callee (caller_in u h) r) r ≡ true → Breaks u r.line not_elemental
  references_itself : (h : Home) (r : Reference) → Member (homes u) h → Member (acts h) (References r)
      → is_unmarked_recursion (caller_in u h) r ≡ true → Breaks u r.line not_recursive
  has_other_lengths : (h : Home) (r : Reference) → Member (homes u) h → Member (acts h) (References r)
      → has_other_length (callee (caller_in u h) r) r ≡ true → Breaks u r.line lengths_differ
