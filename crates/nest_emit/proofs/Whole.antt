-- The program of a unit does what the unit does.
use Rattle.std.proofs.Common.{◌≡◌, ℕ, zero, suc, ◌<◌, ◌≤◌, Bool, true, false, ◌&&◌, nat_lt, List, [], ◌∷◌, Option, Some, None, refl, sym, ap, ◌∙◌, subst, arith, pos, length}
use Rattle.std.specs.Prelude.{Result, Ok, Err, slice_get, slice_index_or, map, nat_le, nat_eq, is_some}
use Rattle.std.specs.List.{list_all}
use Rattle.std.proofs.lemmas.Bool.Decides.{nat_tests}
use Rattle.a95_base.specs.Lists.{count_to}
use Rattle.std.proofs.lemmas.Option.{get_or_from_slice_get}
use Rattle.a95_base.specs.Outcome.{Outcome, Finished}
use Rattle.a95_base.specs.Steps.{Ran, pure}
use Rattle.a95_base.proofs.Steps.{value_unread}
use Rattle.array_meaning.specs.State as source
use Rattle.array_meaning.specs.State.{no_variable}
use Rattle.array_meaning.specs.Run.{most_calls}
use Rattle.array_meaning.specs.Control.{Flow, Next, Returns}
use Rattle.loop_tree.specs.declared.row.ControlRow.TheVariants as control
use Rattle.loop_tree.specs.declared.row.Row.TheVariants as row
use Rattle.loop_laws.proofs.Rows.{step_return}
use Rattle.nest_tree.specs.declared.access.Name.{Name}
use Rattle.nest_tree.specs.declared.access.Name.TheVariants as name
use Rattle.nest_tree.specs.declared.unit.Declared.{Declared}
use Rattle.nest_tree.specs.declared.unit.Role.{Role}
use Rattle.nest_tree.specs.declared.unit.Role.TheVariants as role
use Rattle.nest_tree.specs.declared.unit.Sort.{Sort}
use Rattle.nest_tree.specs.declared.unit.Sort.TheVariants as sort
use Rattle.f95_unit.specs.declared.unit.DeclaredType.{DeclaredType}
use Rattle.nest_tree.specs.Plain.{Statement, Set, Test, Store, StoreCell, Make, Grow, Rebound, Free, MakeList, StoreEntry, FreeList, Nest, If, While, Call, Put, Write, Take, Skip, Exit, Cycle, Return, Stop, Statements, no_statement, statement, Frame, Procedure, NestUnit}
use Rattle.nest_tree.specs.State.{NestState, block_in, Halt, By, Stray}
use Rattle.nest_tree.specs.Statements.{Caller, all_act}
use Rattle.nest_tree.specs.Run.{first_of, start_of, memory_at_start, called, Strayed, outcome_of, start, main_acts, entries, as_stop, nest_source}
use Rattle.nest_tree.specs.Sound.{Scope, in_nest, sort_of_type, of_declared, has_rank, fits_access, fits_guard, stores_in, FitsFrame, are_declared, count_dummies, dummy_at, has_own_length, has_own_rank, result_is_last, one_deeper, FitsStatement, FitsAll, sort_of_name, FitsUnit}
use Rattle.loop_tree.specs.declared.tree.Function.{Function}
use Rattle.loop_tree.specs.State as machine
use Rattle.loop_tree.specs.Run.{configuration}
use Rattle.loop_tree.specs.Run as run
use Rattle.loop_laws.specs.At.{at_start}
use Rattle.loop_laws.specs.Meets.{Meets}
use Rattle.loop_laws.specs.Follows.{as_program}
use Rattle.loop_laws.proofs.Meets.{told_as, leaves}
use Rattle.loop_laws.proofs.Follows.{follows_both_ways}
use Rattle.loop_laws.proofs.Statements.{first, ends_last}
use Rattle.nest_emit.specs.Numbers.{array_number, first_free}
use Rattle.nest_emit.specs.Statements.{leaves_more, all_leave_more, scope_of, program_of}
use Rattle.nest_emit.specs.Emits.{emits_tree, emits_statement, emits_all, Emits}
use Rattle.nest_emit.specs.EmitLaws.{ProgramSimulates, ProgramFollows}
use Rattle.nest_emit.specs.Meets.{outcome_for, run_with, ending}
use Rattle.nest_emit.specs.Kin.{is_text, is_text_scalar, FittedIf, GrowsIf, Shows, held, cells_held, block_of, StandsIf, Kin}
use Rattle.nest_emit.proofs.Runs.{told}
use Rattle.nest_emit.proofs.Values.{some_is}
use Rattle.nest_emit.proofs.Indices.{small_wrap}
use Rattle.a95_base.proofs.Wrapping.{wrapped_small}
use Rattle.std.proofs.lemmas.List.{length-map}
use Rattle.std.proofs.lemmas.Bool.{and_parts, or_parts}
use Rattle.array_meaning.specs.Expressions.{blank_of_type}
use Rattle.f95_unit.specs.declared.unit.DeclaredType.TheVariants as declared
use Rattle.nest_emit.proofs.Leaving.{reached}
use Rattle.nest_emit.proofs.Performs.{Performs, PerformsAll, Placed}
use Rattle.nest_emit.proofs.Pieces.{piece_law, free_law, store_cell_law}
use Rattle.nest_emit.proofs.Makes.{make_law}
use Rattle.nest_emit.proofs.Inputs.{take_law, skip_law}
use Rattle.nest_emit.proofs.Rebounds.{rebound_law}
use Rattle.nest_emit.proofs.Grows.{grow_law}
use Rattle.nest_emit.proofs.Nests.{nest_law}
use Rattle.nest_emit.proofs.Statements.{set_law, test_law, put_law, write_law, stop_law, none_law, first_law, if_law, return_law, exit_law, cycle_law, while_law}

-- ---- statements

placed_inside : (c : Scope) (nests : ℕ) → Placed c nests → (frame : Frame) → FitsFrame c.own frame →
    Placed (in_nest c (length frame.extents)) (suc nests)
placed_inside c nests placed frame fits =
    let two = and_parts (nat_le 1 (length frame.extents)) (nat_le (length frame.extents) 7) fits.ranked in
    let few : length frame.extents ≤ 7 = grind (arith, nat_tests, two.1) in
    record { few = few; nested = omega (arith, few); ranks = placed.ranks }

-- ---- loops that are left: what leaves no loop further out fits where there is none

nothing_below : (out : ℕ) → nat_lt out 0 ≡ true → ⊥
nothing_below out h = let less : out < 0 = grind (arith, nat_tests, h) in omega (arith, less)

nearer : (out k : ℕ) → nat_le k out ≡ false → nat_lt out k ≡ true
nearer out k h = grind (arith, nat_tests)

mutual
  statement_nearer : (s : Statement) (c : Scope) (k e : ℕ) → leaves_more k s ≡ false → FitsStatement c (Some e) s →
      FitsStatement c (Some k) s
  statement_nearer (Set line i x) c k e h f = f
  statement_nearer (Test line kind x) c k e h f = f
  statement_nearer (Store p) c k e h f = f
  statement_nearer (StoreCell line n x y) c k e h f = f
  statement_nearer (Make line b) c k e h f = f
  statement_nearer (Grow line n a) c k e h f = f
  statement_nearer (Rebound line n spans) c k e h f = f
  statement_nearer (Free line n) c k e h f = f
  statement_nearer (MakeList line l a) c k e h f = f
  statement_nearer (StoreEntry line l x y) c k e h f = f
  statement_nearer (FreeList line l) c k e h f = f
  statement_nearer (Nest own frame headers checks body) c k e h f = f
  statement_nearer (If line test yes_part no_part) c k e h f =
      let two = or_parts (all_leave_more k yes_part) (all_leave_more k no_part) h in
      (f.0, all_nearer yes_part c k e two.0 f.1, all_nearer no_part c k e two.1 f.2)
  statement_nearer (While line head test body) c k e h f = (f.0, f.1, all_nearer body c (suc k) (suc e) h f.2)
  statement_nearer (Call line p passed) c k e h f = f
  statement_nearer (Put line x) c k e h f = f
  statement_nearer Write c k e h f = f
  statement_nearer (Take line i b) c k e h f = f
  statement_nearer (Skip line b) c k e h f = f
  statement_nearer (Exit out) c k e h f = nearer out k h
  statement_nearer (Cycle out) c k e h f = nearer out k h
  statement_nearer Return c k e h f = refl
  statement_nearer Stop c k e h f = f

  all_nearer : (body : Statements) (c : Scope) (k e : ℕ) → all_leave_more k body ≡ false → FitsAll c (Some e) body →
      FitsAll c (Some k) body
  all_nearer no_statement c k e h f = f
  all_nearer (statement s more) c k e h f =
      let two = or_parts (leaves_more k s) (all_leave_more k more) h in
      (statement_nearer s c k e two.0 f.0, all_nearer more c k e two.1 f.1)

fits_reached : (c : Scope) (body : Statements) (further : Bool) → all_leave_more 1 body ≡ further → (depth : Option ℕ) →
    FitsAll c (one_deeper depth) body → FitsAll c (one_deeper (reached further depth)) body
fits_reached c body true same depth fit = fit
fits_reached c body false same None fit = fit
fits_reached c body false same (Some out) fit = all_nearer body c 1 (suc out) same fit

-- ---- each statement

mutual
  statement_does : (s : Statement) (functions : List Function) (limit : ℕ) (c : Scope) (nests : ℕ) (calls : Caller)
      (turn : List ℕ) →
      Placed c nests → (depth : Option ℕ) → emits_statement c.own s ≡ true → FitsStatement c depth s →
      Performs functions limit c nests calls turn depth s
  statement_does (Set line k x) functions limit c nests calls turn placed depth e f = set_law functions limit c nests calls turn
      depth line k x e f
  statement_does (Test line kind x) functions limit c nests calls turn placed depth e f = test_law functions limit c nests calls
      turn depth line kind x e f
  statement_does (Store p) functions limit c nests calls turn placed depth e f =
      let two = and_parts (fits_access c p.target && fits_guard c p.guard) (stores_in c p.target.name p.value) f in
      let one = and_parts (fits_access c p.target) (fits_guard c p.guard) two.0 in
      piece_law functions limit c nests calls turn depth p e one.0 one.1 two.1
  statement_does (StoreCell line n x y) functions limit c nests calls turn placed depth e f = store_cell_law functions limit c
      nests calls turn depth line n x y e f
  statement_does (Make line b) functions limit c nests calls turn placed depth e f = make_law functions limit c nests calls turn
      depth placed line b e f
  statement_does (Grow line n a) functions limit c nests calls turn placed depth e f = grow_law functions limit c nests calls turn
      depth line n a e f
  statement_does (Rebound line n spans) functions limit c nests calls turn placed depth e f = rebound_law functions limit c nests
      calls turn depth placed line n spans e f
  statement_does (Free line n) functions limit c nests calls turn placed depth e f = free_law functions limit c nests calls turn
      depth line n f
  statement_does (MakeList line l a) functions limit c nests calls turn placed depth e f = cc
  statement_does (StoreEntry line l x y) functions limit c nests calls turn placed depth e f = cc
  statement_does (FreeList line l) functions limit c nests calls turn placed depth e f = cc
  statement_does (Nest own frame headers checks body) functions limit c nests calls turn placed depth e f =
      let two = and_parts (emits_all c.own checks) (emits_all c.own body) e in
      nest_law functions limit c nests calls turn depth placed own frame headers checks body f.0
      (all_do checks functions limit c nests calls turn placed None two.0 f.1)
      (λ place. all_do body functions limit (in_nest c (length frame.extents)) (suc nests) calls place
      (placed_inside c nests placed frame f.0) None two.1 f.2)
  statement_does (If line test yes_part no_part) functions limit c nests calls turn placed depth e f =
      let two = and_parts (emits_tree test && emits_all c.own yes_part) (emits_all c.own no_part) e in
      let one = and_parts (emits_tree test) (emits_all c.own yes_part) two.0 in
      if_law functions limit c nests calls turn depth line test yes_part no_part one.0 f.0
      (all_do yes_part functions limit c nests calls turn placed depth one.1 f.1)
      (all_do no_part functions limit c nests calls turn placed depth two.1 f.2)
  statement_does (While line head test body) functions limit c nests calls turn placed depth e f =
      let two = and_parts (emits_all c.own head && emits_tree test) (emits_all c.own body) e in
      let one = and_parts (emits_all c.own head) (emits_tree test) two.0 in
      let further = all_leave_more 1 body in
      while_law functions limit c nests calls turn depth placed line head test body one.1 f.1
      (all_do head functions limit c nests calls turn placed None one.0 f.0) further refl
      (all_do body functions limit c nests calls turn placed (one_deeper (reached further depth)) two.1
      (fits_reached c body further refl depth f.2))
  statement_does (Call line p passed) functions limit c nests calls turn placed depth e f = cc
  statement_does (Put line x) functions limit c nests calls turn placed depth e f = put_law functions limit c nests calls turn
      depth line x e f
  statement_does Write functions limit c nests calls turn placed depth e f = write_law functions limit c nests calls turn depth
  statement_does (Take line k b) functions limit c nests calls turn placed depth e f = take_law functions limit c nests calls turn
      depth line k b f
  statement_does (Skip line b) functions limit c nests calls turn placed depth e f = skip_law functions limit c nests calls turn
      depth line b f
  statement_does (Exit out) functions limit c nests calls turn placed None e f = cc
  statement_does (Exit out) functions limit c nests calls turn placed (Some zero) e f = absurd (nothing_below out f)
  statement_does (Exit out) functions limit c nests calls turn placed (Some (suc depth)) e f = exit_law functions limit c nests
      calls turn None depth out (grind (arith, nat_tests, f)) (grind (arith, nat_tests, e))
  statement_does (Cycle out) functions limit c nests calls turn placed None e f = cc
  statement_does (Cycle out) functions limit c nests calls turn placed (Some zero) e f = absurd (nothing_below out f)
  statement_does (Cycle out) functions limit c nests calls turn placed (Some (suc depth)) e f = cycle_law functions limit c nests
      calls turn None depth out (grind (arith, nat_tests, f)) (grind (arith, nat_tests, e))
  statement_does Return functions limit c nests calls turn placed None e f = cc
  statement_does Return functions limit c nests calls turn placed (Some depth) e f = return_law functions limit c nests calls turn
      None depth
  statement_does Stop functions limit c nests calls turn placed depth e f = stop_law functions limit c nests calls turn depth

  all_do : (body : Statements) (functions : List Function) (limit : ℕ) (c : Scope) (nests : ℕ) (calls : Caller) (turn : List ℕ) →
      Placed c nests → (depth : Option ℕ) → emits_all c.own body ≡ true → FitsAll c depth body →
      PerformsAll functions limit c nests calls turn depth body
  all_do no_statement functions limit c nests calls turn placed depth e f = none_law functions limit c nests calls turn depth
  all_do (statement s more) functions limit c nests calls turn placed depth e f =
      let two = and_parts (emits_statement c.own s) (emits_all c.own more) e in
      first_law functions limit c nests calls turn depth placed s more
      (statement_does s functions limit c nests calls turn placed depth two.0 f.0)
      (all_do more functions limit c nests calls turn placed depth two.1 f.1)

-- ---- the start

rank_by : (rank : ℕ) (r : Role) → has_own_rank rank r ≡ true → rank ≤ 7
rank_by rank role.Own h = grind (arith, nat_tests, h)
rank_by rank (role.Value place) h = let none : rank ≡ 0 = grind (arith, nat_tests, h) in omega (arith, none)
rank_by rank (role.Whole place modified) h = grind (arith, nat_tests, h)
rank_by rank (role.Result place) h = grind (arith, nat_tests, h)

declared_rank : (test : Declared → Bool) → ((d : Declared) → test d ≡ true → d.rank ≤ 7) →
    (ds : List Declared) (i : ℕ) (rank : ℕ) → list_all test ds ≡ true →
    of_declared false (λ d. nat_eq d.rank rank) (slice_get ds i) ≡ true → rank ≤ 7
declared_rank test each [] i rank h g = cc
declared_rank test each (d ∷ ds) zero rank h g =
    let same : d.rank ≡ rank = grind (arith, nat_tests, g) in
    let few = each d (and_parts (test d) (list_all test ds) h).0 in omega (arith, same, few)
declared_rank test each (d ∷ ds) (suc i) rank h g = declared_rank test each ds i rank (and_parts (test d) (list_all test ds) h).1 g

pub ranks_known : (q : Procedure) → are_declared q.variables ≡ true → (n : Name) (rank : ℕ) → has_rank q n rank ≡ true → rank ≤ 7
ranks_known q h (name.Own i) rank g =
    let count = count_dummies q.variables in
    let test = λ (d : Declared). has_own_length d.of d.role && has_own_rank d.rank d.role && result_is_last count d.role in
    declared_rank test (λ d t. rank_by d.rank d.role (and_parts (has_own_length d.of d.role) (has_own_rank d.rank d.role)
    (and_parts (has_own_length d.of d.role && has_own_rank d.rank d.role) (result_is_last count d.role) t).0).1) q.variables i rank
    (and_parts (list_all test q.variables) (list_all (λ place. is_some (dummy_at place q.variables)) (count_to count)) h).0 g
ranks_known q h (name.Temp i) rank g = grind (arith, nat_tests, g)

first_shown : (s : Sort) → Shows s (pos 0) [] (first_of s)
first_shown sort.Exact = record { of = (refl, small_wrap 0 (omega arith)); value = refl }
first_shown sort.Int = record { of = (refl, wrapped_small 0 (omega arith)); value = refl }
first_shown sort.Log = record { of = refl; value = refl }
first_shown sort.Text = record { of = refl; value = refl }

nothing_at_start : (of : DeclaredType) (r : Role) → (start_of [] of r).held ≡ None
nothing_at_start of role.Own = refl
nothing_at_start of (role.Value place) = refl
nothing_at_start of (role.Whole place modified) = refl
nothing_at_start of (role.Result place) = refl

no_array : (ds : List Declared) (i : ℕ) → (slice_index_or (map (λ d. start_of [] d.of d.role) ds) i no_variable).held ≡ None
no_array [] i = refl
no_array (d ∷ ds) zero = nothing_at_start d.of d.role
no_array (d ∷ ds) (suc i) = no_array ds i

no_array_named : (q : Procedure) (n : Name) → (block_in (memory_at_start [] q) n).held ≡ None
no_array_named q (name.Own i) = no_array q.variables i
no_array_named q (name.Temp i) = refl

no_reference : (s : Sort) (array : ℕ) (input : List ℕ) → block_of s (at_start input) array ≡ None
no_reference sort.Exact array input = refl
no_reference sort.Int array input = refl
no_reference sort.Log array input = refl
no_reference sort.Text array input = refl

no_text : (of : DeclaredType) (r : Role) (s : Sort) → sort_of_type of ≡ s → is_text (Some s) ≡ false →
    is_text_scalar (start_of [] of r).blank ≡ false
no_text of r s e g = by of r (ap (λ t. is_text (Some t)) e ∙ g)
  where
    of_type : (of : DeclaredType) → is_text (Some (sort_of_type of)) ≡ false → is_text_scalar (blank_of_type of) ≡ false
    of_type declared.Integer h = refl
    of_type declared.Logical h = refl
    of_type (declared.Character len) h = cc

    by : (of : DeclaredType) (r : Role) → is_text (Some (sort_of_type of)) ≡ false →
        is_text_scalar (start_of [] of r).blank ≡ false
    by of role.Own h = of_type of h
    by of (role.Value place) h = of_type of h
    by of (role.Whole place modified) h = of_type of h
    by of (role.Result place) h = of_type of h

declared_plain : (ds : List Declared) (i : ℕ) (s : Sort) →
    of_declared None (λ d. Some (sort_of_type d.of)) (slice_get ds i) ≡ Some s →
    is_text (Some s) ≡ false → is_text_scalar (slice_index_or (map (λ d. start_of [] d.of d.role) ds) i no_variable).blank ≡ false
declared_plain [] i s h g = cc
declared_plain (d ∷ ds) zero s h g = no_text d.of d.role s (some_is h) g
declared_plain (d ∷ ds) (suc i) s h g = declared_plain ds i s h g

plain_start : (q : Procedure) (n : Name) (s : Sort) → sort_of_name q n ≡ Some s → is_text (Some s) ≡ false →
    is_text_scalar (block_in (memory_at_start [] q) n).blank ≡ false
plain_start q (name.Own i) s h g = declared_plain q.variables i s h g
plain_start q (name.Temp i) s h g = refl

kin_start : (unit : NestUnit) (input : List ℕ) (turns : ℕ) →
    Kin unit.main (record { limit = turns; most = turns }) (start unit input turns) (at_start input)
kin_start unit input turns = record {
  scalars = λ k s h. let is = get_or_from_slice_get unit.main.scalars k s sort.Exact h in
      subst (λ r. Shows s (pos 0) [] (first_of r)) (sym is) (first_shown s);
  arrays = record {
    seen = λ n s h. ap (held []) (no_reference s (array_number unit.main n) input)
        ∙ ap (cells_held s) (sym (no_array_named unit.main n));
    whole = λ n s h. subst (λ o. StandsIf s [] (array_number unit.main n) o) (sym (no_array_named unit.main n)) tt;
    many = length-map unit.main.variables (λ (d : Declared). start_of [] d.of d.role);
    plain = λ n s h g. plain_start unit.main n s h g;
    fitted = λ i h. subst (λ o. FittedIf [] i (block_in (memory_at_start [] unit.main) (name.Own i)).blank o)
        (sym (no_array_named unit.main (name.Own i))) tt;
    grows = λ n s h. subst (λ o. GrowsIf s (block_in (memory_at_start [] unit.main) n).blank o)
        (sym (no_array_named unit.main n)) tt;
    apart = λ n k s r number h g e f. none_some (sym (no_reference s (array_number unit.main n) input) ∙ e);
    below = λ n s number h e. none_some (sym (no_reference s (array_number unit.main n) input) ∙ e);
  };
  pending = refl;
  input = refl;
  callers = refl;
  few = omega arith;
  budget = omega arith;
}
  where
    none_some : {A : Type 0} {number : ℕ} → None ≡ Some number → A
    none_some h = cc

-- ---- the whole

abbrev ended : NestState → Ran Halt NestState (Unit {0})
ended m = record { came = Ok tt; after = m }

unfolded : (flow : Flow) (m : NestState) → pure {E = Halt} {A = Unit {0}} tt m ≡ ended m
unfolding pure
unfolded flow m = refl

outcomes : (came : Result (Unit {0}) Halt) → (outcome_of came ≡ Finished Strayed → ⊥) →
    outcome_for came ≡ Some (as_program (as_stop (outcome_of came)))
outcomes (Ok done) h = refl
outcomes (Err (By source.Stopped)) h = refl
outcomes (Err (By (source.Faults kind line))) h = refl
outcomes (Err (By source.OutOfTurns)) h = refl
outcomes (Err Stray) h = absurd (h refl)

main_does : (unit : NestUnit) → Emits unit → FitsUnit unit → (input : List ℕ) (turns : ℕ) →
    Meets (program_of unit) (configuration 0 [] (run.start (program_of unit) input))
    (ending turns (main_acts unit (start unit input turns)))
main_does unit emits fits input turns =
    let n = start unit input turns in
    let calls = called unit most_calls in
    let body = all_act unit.constants calls [] unit.main.body in
    let law = all_do unit.main.body (program_of unit) turns (scope_of unit unit.main) 0 calls []
    (record { few = omega arith; nested = omega arith; ranks = ranks_known unit.main fits.main.declared }) (Some 0)
    emits.main fits.main.body in
    subst (λ (r : Ran Halt NestState (Unit {0})). Meets (program_of unit) (configuration 0 [] (run.start (program_of unit) input))
    (ending turns r))
    (sym (value_unread body (pure tt) n))
    (law.does (first_free unit.main) (omega arith) {around = record { limit = turns; most = turns }} (omega arith)
    (kin_start unit input turns)
    (record {
      each = λ loop first last. absurd (omega (arith, first, last));
      small = λ loop first last. absurd
          (omega (arith, first, last));
    }) (λ flow. pure tt) (record {
      ways = record {
        returns = λ m u kin stay ls bs. told (unfolded Returns m) (record {
          by = first (row.Control control.Return) [] ls
              (leaves u (step_return (program_of unit) u ls bs) kin.callers refl (omega arith));
        });
        loop = tt;
      };
    }) (λ m u kin stay.
    told (unfolded Next m) (record { by = ends_last [] kin.callers refl (omega arith) }))).by

pub emit_simulates : ProgramSimulates
emit_simulates unit sound emits = record {
  meets = λ input turns.
      let r = main_acts unit (start unit input turns) in
      told_as (ap (λ (o : Option (Outcome machine.End)). record {
        limit = turns;
        turns = r.after.entries;
        run = run_with r.after.cells.plain.written o;
      }) (sym (outcomes r.came (sound.never_strays input turns)))) (main_does unit emits sound.fits input turns);
}

pub emit_follows : ProgramFollows
emit_follows unit bound sound emits few =
    follows_both_ways (nest_source unit) (entries unit) bound (program_of unit) (emit_simulates unit sound emits) few
