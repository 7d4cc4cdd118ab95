-- The program of a unit follows it.
use Rattle.std.proofs.Common.{◌≡◌, ℕ, ◌+◌, ◌*◌, ◌≤◌, ◌^◌, true, List, [], ◌∷◌, arith, length, nat_le}
use Rattle.std.specs.List.{list_all, sum_by}
use Rattle.std.proofs.lemmas.List.Sums.{sum_by-cons}
use Rattle.std.proofs.Math.Nat.{mul-le-mul_left}
use Rattle.rank_one.specs.declared.unit.Unit.{Unit}
use Rattle.rank_one.specs.declared.unit.Array.{Array}
use Rattle.rank_one.specs.declared.unit.Statement.{Statement}
use Rattle.rank_one.specs.declared.unit.Action.{Action}
use Rattle.rank_one.specs.declared.unit.Action.TheVariants.{Assign, Print}
use Rattle.rank_one.specs.Meaning.{output}
use Rattle.rank_one.specs.Typed.{IsTyped, size_of, size_of_action}
use Rattle.loop_tree.specs.Run.{configuration, start}
use Rattle.loop_laws.specs.Follows.{Follows}
use Rattle.loop_laws.proofs.Follows.{follows_both_ways}
use Rattle.f95a_core.specs.Source.{source_run, turn_bound}
use Rattle.f95a_core.specs.Lowered.{program_of}
use Rattle.f95a_core.proofs.Reaching.{turns_are}
use Rattle.f95a_core.proofs.Actions.{shown_cost}
use Rattle.f95a_core.proofs.Statements.{small_extent, action_cost, statements_cost}
use Rattle.f95a_core.proofs.Whole.{unit_goes}

-- ---- turns

shown_bound : (decls : List Array) → list_all (λ (a : Array). nat_le a.extent (2 ^ 24)) decls ≡ true → (ps : List ℕ) →
    shown_cost decls ps ≤ 2 ^ 24 * length ps
shown_bound decls small [] = omega arith
shown_bound decls small (p ∷ ps) =
    let more = shown_bound decls small ps in
    let one = small_extent decls p small in
    omega arith

action_bound : (decls : List Array) → list_all (λ (a : Array). nat_le a.extent (2 ^ 24)) decls ≡ true → (a : Action) →
    action_cost decls a ≤ 2 ^ 25 * size_of_action a
action_bound decls small (Assign t sum) = let one = small_extent decls t small in omega arith
action_bound decls small (Print places) = let some = shown_bound decls small places in omega arith

statements_bound : (decls : List Array) → list_all (λ (a : Array). nat_le a.extent (2 ^ 24)) decls ≡ true → (ss : List Statement)
    → statements_cost decls ss ≤ 2 ^ 25 * sum_by (λ (s : Statement). size_of_action s.action) ss
statements_bound decls small [] = omega arith
statements_bound decls small (s ∷ ss) =
    let more = statements_bound decls small ss in
    let one = action_bound decls small s.action in
    let all : sum_by (λ (x : Statement). size_of_action x.action) (s ∷ ss) ≡ size_of_action s.action
    + sum_by (λ (x : Statement). size_of_action x.action) ss = sum_by-cons (λ (x : Statement). size_of_action x.action) s ss in
    omega arith

-- the turns of a program are within the bound, whatever the turns of its source
within_bound : (unit : Unit) → IsTyped unit → (bytes turns : ℕ) → size_of unit ≤ 2 * bytes →
    statements_cost unit.arrays unit.statements ≤ turn_bound bytes turns
within_bound unit typed bytes turns size =
    let cost = statements_bound unit.arrays typed.extents unit.statements in
    let square : (bytes + 1) * 1 ≤ (bytes + 1) * (bytes + 1) = mul-le-mul_left (bytes + 1) (omega arith) in
    let turn : 2 ^ 64 * ((bytes + 1) * (bytes + 1)) * 1 ≤ 2 ^ 64 * ((bytes + 1) * (bytes + 1)) * (turns + 1) =
    mul-le-mul_left (2 ^ 64 * ((bytes + 1) * (bytes + 1))) (omega arith) in
    omega arith

-- ---- both directions

pub follows_it : (unit : Unit) → IsTyped unit → (bytes : ℕ) → size_of unit ≤ 2 * bytes →
    Follows (source_run unit) (turn_bound bytes) (program_of unit)
follows_it unit typed bytes size =
    let cost = statements_cost unit.arrays unit.statements in
    follows_both_ways (source_run unit) (λ input turns. cost) (turn_bound bytes) (program_of unit)
    (record {
      meets = λ input turns. turns_are (program_of unit) (output unit) (configuration 0 [] (start (program_of unit) input)) turns
          (0 + cost) cost (omega arith)
          ((unit_goes unit typed input).go 0 turns);
    })
    (λ input turns. within_bound unit typed bytes turns size)
