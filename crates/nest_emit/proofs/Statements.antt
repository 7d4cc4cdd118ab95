-- The lines of statements do what the statements do: choices, loops that ask a condition, lists.
use Rattle.std.proofs.Common.{◌≡◌, ℕ, zero, suc, ◌+◌, ◌≤◌, Bool, true, ◌||◌, List, [], ◌∷◌, ◌++◌, Option, Some, None, refl, sym, ap, ◌∙◌, subst, arith, pos}
use Rattle.std.specs.Prelude.{slice_get, negsuc}
use Rattle.loop_tree.specs.Values.{number_at}
use Rattle.a95_base.specs.declared.fault.FaultKind.{FaultKind}
use Rattle.a95_base.specs.declared.scalar.Scalar.{Scalar}
use Rattle.a95_base.specs.Steps.{Ran, pure, stop, ◌>>=◌, ◌>>◌}
use Rattle.array_meaning.specs.State as source
use Rattle.array_meaning.specs.InputOutput.{record_of}
use Rattle.array_meaning.specs.Values.{truth_of}
use Rattle.array_meaning.specs.Control.{Flow, Next, Exits, Cycles, Returns, behind, behind_turn}
use Rattle.nest_tree.specs.declared.unit.Sort.{Sort}
use Rattle.nest_tree.specs.declared.unit.Sort.TheVariants as sort
use Rattle.nest_tree.specs.Plain.{Tree, Statement, Set, Test, If, While, Put, Write, Exit, Cycle, Return, Stop, Statements, no_statement, statement}
use Rattle.nest_tree.specs.State.{NestState, Memory, memory_of, with_memory, with_written, Halt, By, Step, pick, changes, within, enter, joins, writes, with_kept}
use Rattle.nest_tree.specs.Statements.{Caller, test_acts, truth as truth_step, rounds, one_turn, only_next, calmly, acts, all_act}
use Rattle.nest_tree.specs.Sound.{one_deeper, Scope, some_serves, served_by, sets, gives, sort_of}
use Rattle.loop_tree.specs.declared.tree.CodeLine.{CodeLine}
use Rattle.loop_tree.specs.declared.tree.CodeLine.TheVariants as code
use Rattle.loop_tree.specs.declared.tree.Stmt.{Stmt}
use Rattle.loop_tree.specs.declared.tree.Stmt.TheVariants as stmt
use Rattle.loop_tree.specs.declared.tree.Function.{Function}
use Rattle.loop_tree.specs.Lines.{flats}
use Rattle.a95_base.specs.Record.{record_text}
use Rattle.nest_tree.proofs.Sorts.{serves_itself}
use Rattle.loop_tree.specs.State.{Brace, Forever, State}
use Rattle.loop_tree.specs.Machine.{step, turn as begins}
use Rattle.loop_tree.specs.Run.{configuration}
use Rattle.loop_laws.specs.Meets.{Meets}
use Rattle.loop_laws.proofs.Meets.{turned as turned_step}
use Rattle.loop_laws.proofs.Braces.{first_forever, step_forever, step_forever_end, end_behind, end_in_branch, end_in_choice, end_in_loop}
use Rattle.loop_laws.specs.At.{Variables, at}
use Rattle.loop_laws.proofs.Statements.{with_lines, writes_record, continues}
use Rattle.nest_emit.specs.Numbers.{leaving_number, first_free, scalar_number}
use Rattle.nest_emit.specs.Trees.{keep, unless_fault, atom_of, words_of, tree_lines}
use Rattle.nest_emit.specs.Statements.{at_line, put, leave_lines, behind_loop, all_leave_more, lines_of, all_lines}
use Rattle.nest_emit.specs.Emits.{most_loops, emits_tree}
use Rattle.nest_emit.specs.Meets.{ending, DoesAt}
use Rattle.nest_emit.specs.Kin.{Around, Kin, AtTurn, Stays}
use Rattle.nest_emit.proofs.Runs.{told, regroup, regroup_next, pured, changed, parts, guard_does, either_does, behind_else, behind_close}
use Rattle.nest_emit.proofs.Values.{some_is, is_true}
use Rattle.nest_emit.proofs.Acts.{unless_true, unless_false, pick_true, pick_false, joins_is, writes_is, stop_is, entry_first, with_entry, turns_left_is, with_left, turn_goes, turn_is, stop_does, out_of_turns, plus_one}
use Rattle.nest_emit.proofs.Kin.{stays_all, stays_then, kin_pending, kin_written, kin_counted, kin_around}
use Rattle.nest_emit.proofs.Leaving.{Loop, Out, no_way, out_moved, out_inside, out_reached, loops_of, reached, leave_does, Behind, behind_then, behind_does, behind_same, returns_same}
use Rattle.nest_emit.proofs.Performs.{Performs, PerformsAll, Placed, turn_stays, evaluated, value_does, keep_does, put_does}

-- ---- sorts

-- a sort that is asked for and served
record AskedFor (o p : Option Sort) : Type 0 where
  of : Sort
  is : o ≡ Some of
  fits : some_serves p of ≡ true

asked_for : (o p : Option Sort) → served_by o p ≡ true → AskedFor o p
asked_for None p h = cc
asked_for (Some s) p h = record { of = s; is = refl; fits = h }

-- a value that may be written has a sort
record Written (o : Option Sort) : Type 0 where
  of : Sort
  is : o ≡ Some of
  fits : ((some_serves (Some of) sort.Int || some_serves (Some of) sort.Log) || some_serves (Some of) sort.Text) ≡ true

written_sort : (o : Option Sort) → ((some_serves o sort.Int || some_serves o sort.Log) || some_serves o sort.Text) ≡ true →
    Written o
written_sort None h = cc
written_sort (Some s) h = record { of = s; is = refl; fits = h }

-- ---- statements that hold no others

module _ (functions : List Function) (limit : ℕ) (c : Scope) (nests : ℕ) (calls : Caller) (turn : List ℕ) (depth : Option ℕ) where
  pub set_law : (line k : ℕ) (x : Tree) → emits_tree x ≡ true → sets c k x ≡ true →
      Performs functions limit c nests calls turn depth (Set line k x)
  set_law line k x emits fits = record {
    does = λ t free {around} {n} {w} enough kin turned {lines} {braces} go out next.
        let s = asked_for (slice_get c.own.scalars k) (sort_of c x) fits in
        let a = atom_of c nests t x in
        let d = words_of c nests t x in
        let f = λ (z : Scalar) (m : Memory). Some (with_kept m k z) in
        regroup (evaluated functions limit c nests calls turn line x) (λ z. changes (f z) >> pure Next) go n
        (value_does functions limit c nests calls turn line x emits s.of s.fits t free kin turned
        (keep (slice_get c.own.scalars k) (scalar_number c.own k) a d ∷ []) lines (λ z. (changes (f z) >> pure Next) >>= go)
        (λ m u z k' stay at turn' sh.
        regroup_next (changes (f z)) (pure Next) go m
        (changed (f z) (λ done. pure Next >>= go) m (λ m' e.
        pured Next go (with_memory m m')
        (subst (λ (mm : Memory). DoesAt functions limit m u
        (flats (keep (slice_get c.own.scalars k) (scalar_number c.own k) a d ∷ []) ++ lines) braces
        (go Next (with_memory m mm))) (some_is e)
        (subst (λ o. DoesAt functions limit m u (flats (keep o (scalar_number c.own k) a d ∷ []) ++ lines) braces
        (go Next (with_memory m (with_kept (memory_of m.cells) k z)))) (sym s.is)
        (keep_does nests t lines k' k s.of s.is a d z sh (λ u' k'' stay'.
        next (with_memory m (with_kept (memory_of m.cells) k z)) u' k'' (stays_then stay stay')))))))));
  }

  pub test_law : (line : ℕ) (kind : FaultKind) (x : Tree) → emits_tree x ≡ true → gives c x sort.Log ≡ true →
      Performs functions limit c nests calls turn depth (Test line kind x)
  test_law line kind x emits fits = record {
    does = λ t free {around} {n} {w} enough kin turned {lines} {braces} go out next.
        let a = atom_of c nests t x in
        let rest = λ (done : Unit {0}). pure Next >>= go in
        regroup_next (test_acts c.unit.constants calls line turn kind x) (pure Next) go n
        (regroup (evaluated functions limit c nests calls turn line x) (λ z. within (source.unless (truth_of z) kind line)) rest n
        (value_does functions limit c nests calls turn line x emits sort.Log fits t free kin turned
        (unless_fault a kind ∷ []) lines
        (λ z. within (source.unless (truth_of z) kind line) >>= rest) (λ m u z k stay at turn' sh.
        guard_does line kind m ((within (source.unless (truth_of z) kind line) >>= rest) m) a [] lines at
        (λ h. told (unless_true (truth_of z) kind line rest m (is_true sh h)) (pured Next go m (next m u k stay)))
        (λ h. unless_false (truth_of z) kind line rest m (is_true sh h)))));
  }

  pub put_law : (line : ℕ) (x : Tree) → emits_tree x ≡ true →
      ((some_serves (sort_of c x) sort.Int || some_serves (sort_of c x) sort.Log) || some_serves (sort_of c x) sort.Text) ≡ true →
      Performs functions limit c nests calls turn depth (Put line x)
  put_law line x emits fits = record {
    does = λ t free {around} {n} {w} enough kin turned {lines} {braces} go out next.
        let s = written_sort (sort_of c x) fits in
        let itself : gives c x s.of ≡ true = ap (λ o. some_serves o s.of) s.is ∙ serves_itself s.of in
        let a = atom_of c nests t x in
        let d = words_of c nests t x in
        regroup (evaluated functions limit c nests calls turn line x) (λ z. joins z >> pure Next) go n
        (value_does functions limit c nests calls turn line x emits s.of itself t free kin turned
        (put (sort_of c x) a d ∷ []) lines
        (λ z. (joins z >> pure Next) >>= go) (λ m u z k stay at turn' sh.
        regroup_next (joins z) (pure Next) go m (told (joins_is z (λ done. pure Next >>= go) m)
        (pured Next go (record m { pending = m.pending ++ z ∷ [] })
        (subst (λ o. DoesAt functions limit m u (flats (put o a d ∷ []) ++ lines) braces
        (go Next (record m { pending = m.pending ++ z ∷ [] }))) (sym s.is)
        (put_does nests t lines k s.of a d z s.fits sh
        (λ u' k' stay'. next (record m { pending = m.pending ++ z ∷ [] }) u' k' (stays_then stay stay'))))))));
  }

  pub write_law : Performs functions limit c nests calls turn depth Write
  write_law = record {
    does = λ t free {around} {n} {w} enough kin turned {lines} {braces} go out next.
        let m = record n { cells = with_written n.cells (record_of n.pending); pending = [] } in
        let u = record w { pending = [] } in
        let goes = next m u (kin_pending [] (kin_written (record_of n.pending) kin))
        (record { ints = λ x h g. refl; indices = λ x h. refl }) in
        regroup_next writes (pure Next) go n (told (writes_is (λ done. pure Next >>= go) n) (pured Next go m
        (record {
          by = writes_record [] lines (subst (λ (p : List Scalar). Meets functions
              (configuration n.entries (n.cells.plain.written ++ (record_text p ++ 10 ∷ [])) (at u lines braces))
              (ending limit (go Next m)))
              (sym kin.pending) goes.by);
        })));
  }

  pub stop_law : Performs functions limit c nests calls turn depth Stop
  stop_law = record {
    does = λ t free {around} {n} {w} enough kin turned {lines} {braces} go out next. told (stop_is (By source.Stopped) go n)
        (stop_does n [] lines);
  }

  -- ---- lists

  pub none_law : PerformsAll functions limit c nests calls turn depth no_statement
  none_law = record {
    does = λ t free {around} {n} {w} enough kin turned {lines} {braces} go out next. pured Next go n
        (next n w kin (stays_all c.own nests t w));
  }

  pub first_law : Placed c nests → (s : Statement) (more : Statements) → Performs functions limit c nests calls turn depth s →
      PerformsAll functions limit c nests calls turn depth more →
      PerformsAll functions limit c nests calls turn depth (statement s more)
  first_law placed s more law laws = record {
    does = λ t free {around} {n} {w} enough kin turned {lines} {braces} go out next.
        let rest = all_act c.unit.constants calls turn more in
        regroup (acts c.unit.constants calls turn s) (λ flow. behind flow rest) go n
        (parts (lines_of c nests t s) (all_lines c nests t more) lines
        (law.does t free enough kin turned (λ flow. behind flow rest >>= go)
        (out_moved (λ place closes. end_behind (all_lines c nests t more) closes) (stays_all c.own nests t w)
        (behind_same rest go) (λ m u k. k) depth out) (λ m u k stay.
        laws.does t free enough k (turn_stays placed stay turned) go
        (out_moved (λ place closes. closes) stay (λ flow m h. refl) (λ m u k. k) depth out)
        (λ m' u' k' stay'. next m' u' k' (stays_then stay stay')))));
  }

  -- ---- choices

  pub if_law : (line : ℕ) (test : Tree) (yes_part no_part : Statements) → emits_tree test ≡ true → gives c test sort.Log ≡ true →
      PerformsAll functions limit c nests calls turn depth yes_part →
      PerformsAll functions limit c nests calls turn depth no_part →
      Performs functions limit c nests calls turn depth (If line test yes_part no_part)
  if_law line test yes_part no_part emits fits law other = record {
    does = λ t free {around} {n} {w} enough kin turned {lines} {braces} go out next.
        let a = atom_of c nests t test in
        let m1 = all_act c.unit.constants calls turn yes_part in
        let m2 = all_act c.unit.constants calls turn no_part in
        let l1 = all_lines c nests t yes_part in
        let l2 = all_lines c nests t no_part in
        regroup (truth_step c.unit.constants calls line turn test) (λ b. pick b m1 m2) go n
        (regroup (evaluated functions limit c nests calls turn line test) (λ x. pure (truth_of x)) (λ b. pick b m1 m2 >>= go) n
        (value_does functions limit c nests calls turn line test emits sort.Log fits t free kin turned
        (stmt.IfElse a l1 l2 ∷ []) lines
        (λ x. pure (truth_of x) >>= (λ b. pick b m1 m2 >>= go)) (λ m u z k stay at turn' sh.
        pured (truth_of z) (λ b. pick b m1 m2 >>= go) m
        (either_does a l1 l2 [] lines
        (λ h. told (pick_true (truth_of z) m1 m2 go m (is_true sh h))
        (law.does t free enough k turn' go
        (out_moved (λ place closes. end_in_branch l2 closes) stay (λ flow m h. refl) (λ m u k. k) depth out)
        (λ m' u' k' stay'. behind_else l2 lines (next m' u' k' (stays_then stay stay')))))
        (λ h. told (pick_false (truth_of z) m1 m2 go m (is_true sh h))
        (other.does t free enough k turn' go
        (out_moved (λ place closes. end_in_choice closes) stay (λ flow m h. refl) (λ m u k. k) depth out)
        (λ m' u' k' stay'. behind_close lines (next m' u' k' (stays_then stay stay')))))))));
  }

  -- ---- what leaves a loop, its round, or the procedure

  pub return_law : (depth : ℕ) → Performs functions limit c nests calls turn (Some depth) Return
  return_law depth = record {
    does = λ t free {around} {n} {w} enough kin turned {lines} {braces} go out next.
        pured Returns go n (out.ways.returns n w kin (stays_all c.own nests t w) lines braces);
  }

  pub exit_law : (depth out : ℕ) → out ≤ depth → out ≤ most_loops →
      Performs functions limit c nests calls turn (Some (suc depth)) (Exit out)
  exit_law depth o in_it few = record {
    does = λ t free {around} {n} {w} enough kin turned {lines} {braces} go out next.
        pured (Exits o) go n (leave_does nests t (pos o) lines out.ways.loop.place kin out.ways.loop.closes (λ u k stay at.
        out.ways.loop.exits o in_it few n u k stay at));
  }

  pub cycle_law : (depth out : ℕ) → out ≤ depth → out ≤ most_loops →
      Performs functions limit c nests calls turn (Some (suc depth)) (Cycle out)
  cycle_law depth zero in_it few = record {
    does = λ t free {around} {n} {w} enough kin turned {lines} {braces} go out next.
        pured (Cycles 0) go n
        (record { by = continues [] out.ways.loop.closes (out.ways.loop.cycles n w kin (stays_all c.own nests t w)).by });
  }
  cycle_law depth (suc o) in_it few = record {
    does = λ t free {around} {n} {w} enough kin turned {lines} {braces} go out next.
        pured (Cycles (suc o)) go n (leave_does nests t (negsuc o) lines out.ways.loop.place kin out.ways.loop.closes
        (λ u k stay at. out.ways.loop.cycles_further o in_it few n u k stay at));
  }

-- ---- loops that ask a condition

module _ (functions : List Function) (limit : ℕ) (c : Scope) (nests : ℕ) (calls : Caller) (turn : List ℕ) (depth : Option ℕ)
    (placed : Placed c nests)
    (line : ℕ) (head : Statements) (test : Tree) (body : Statements) (emits : emits_tree test ≡ true)
    (fits : gives c test sort.Log ≡ true)
    (head_law : PerformsAll functions limit c nests calls turn None head)
    (body_law : PerformsAll functions limit c nests calls turn (one_deeper depth) body)
    (t : ℕ) (free : first_free c.own ≤ t) (around : Around) (enough : limit ≤ around.limit) (lines : List CodeLine)
    (braces : List Brace)
    (go : Flow → Step (Unit {0})) where
  abbrev heads : Step (Unit {0})
  heads = calmly (all_act c.unit.constants calls turn head)

  abbrev condition : Step Bool
  condition = truth_step c.unit.constants calls line turn test

  abbrev bodies : Step Flow
  bodies = all_act c.unit.constants calls turn body

  abbrev round_lines : List Stmt
  round_lines = all_lines c nests t head ++
      (at_line line ∷ (tree_lines c nests t test ++ (stmt.IfElse (atom_of c nests t test) [] (leave_lines c.own (pos 0))
      ∷ all_lines c nests t body)))

  abbrev inside : List CodeLine
  inside = flats round_lines ++ code.Close ∷ lines

  abbrev most_left : ℕ → Around
  most_left k = record { limit = around.limit; most = k }

  -- before a condition, when the entry is counted
  abbrev asking : ℕ → Around
  asking k = record { limit = around.limit + 1; most = k }

  -- one round: its head, its condition, and what is done where that holds
  round_does : (x : Step Flow) (k : ℕ) → k ≤ around.most → (n : NestState) (w : Variables) → Kin c.own (asking k) n w →
      AtTurn nests c.loops turn w →
      ((m : NestState) (u : Variables) → Kin c.own (asking k) m u → Stays c.own nests t w u →
      DoesAt functions limit m u (flats (all_lines c nests t body) ++ code.Close ∷ lines) (Forever inside ∷ braces)
      ((x >>= go) m)) →
      Behind (loops_of depth) functions limit c around nests t w lines braces go →
      DoesAt functions limit n w inside (Forever inside ∷ braces)
      (((heads >> (condition >>= (λ b. pick b x (pure Next)))) >>= go) n)
  round_does x k few n w kin turned holds_then done =
      let a = atom_of c nests t test in
      let break_row = leave_lines c.own (pos 0) in
      let body_lines = all_lines c nests t body in
      let rest = stmt.IfElse a [] break_row ∷ body_lines in
      let asks = condition >>= (λ b. pick b x (pure Next)) in
      let more = limit_more in
      regroup_next heads asks go n
      (regroup (all_act c.unit.constants calls turn head) only_next (λ ok. asks >>= go) n
      (parts (all_lines c nests t head) (at_line line ∷ (tree_lines c nests t test ++ rest)) (code.Close ∷ lines)
      (head_law.does t free more kin turned (λ flow. only_next flow >>= (λ ok. asks >>= go)) no_way (λ m u k' stay.
      pured tt (λ ok. asks >>= go) m
      (regroup condition (λ b. pick b x (pure Next)) go m
      (regroup (evaluated functions limit c nests calls turn line test) (λ z. pure (truth_of z))
      (λ b. pick b x (pure Next) >>= go) m
      (value_does functions limit c nests calls turn line test emits sort.Log fits t free k' (turn_stays placed stay turned) rest
      (code.Close ∷ lines)
      (λ z. pure (truth_of z) >>= (λ b. pick b x (pure Next) >>= go)) (λ m' u' z k'' stay' at' turn' sh.
      pured (truth_of z) (λ b. pick b x (pure Next) >>= go) m'
      (either_does a [] break_row body_lines (code.Close ∷ lines)
      (λ h. behind_else break_row (flats body_lines ++ code.Close ∷ lines)
      (told (pick_true (truth_of z) x (pure Next) go m' (is_true sh h))
      (holds_then m' u' k'' (stays_then stay stay'))))
      (λ h. told (pick_false (truth_of z) x (pure Next) go m' (is_true sh h)) (pured Next go m'
      (leave_does nests t (pos 0) (code.Close ∷ (flats body_lines ++ code.Close ∷ lines))
      (record { lines = code.Close ∷ lines; braces = Forever inside ∷ braces })
      (kin_around (omega (arith, few, k''.few)) (omega (arith, k''.budget)) k'')
      (end_in_choice (end_behind body_lines (end_in_loop lines (Forever inside) braces refl)))
      (λ u2 k2 stay2 value. done.done m' u2 k2 (stays_then (stays_then stay stay') stay2) value)))))))))))))
    where
      limit_more : limit ≤ around.limit + 1
      limit_more = omega (arith, enough)

  -- the turn behind the condition, its body, and what begins the next round
  turn_does : (more : Step Flow) (k : ℕ) → suc k ≤ around.most →
      (m : NestState) (u : Variables) → Kin c.own (asking (suc k)) m u → AtTurn nests c.loops turn u →
      Out depth functions limit c around nests t u lines braces go →
      ((n : NestState) (w : Variables) → Kin c.own (most_left k) n w → Stays c.own nests t u w →
      DoesAt functions limit n w (code.Close ∷ lines) (Forever inside ∷ braces) ((more >>= go) n)) →
      Behind (loops_of depth) functions limit c around nests t u lines braces go →
      DoesAt functions limit m u (flats (all_lines c nests t body) ++ code.Close ∷ lines) (Forever inside ∷ braces)
      ((one_turn bodies more >>= go) m)
  turn_does more k few m u kin turned out again done =
      regroup_next (within source.turn) (bodies >>= (λ flow. behind_turn flow more)) go m
      (told (turn_is (λ ok. (bodies >>= (λ flow. behind_turn flow more)) >>= go) m) (by m.cells.plain.left refl))
    where
      wider : (n : NestState) (w : Variables) → Kin c.own (most_left k) n w → Kin c.own around n w
      wider n w kin' = kin_around (omega (arith, few, kin'.few)) kin'.budget kin'

      left_by : (out : ℕ) → out ≤ loops_of depth → out ≤ most_loops → (n : NestState) (w : Variables) →
          Kin c.own (most_left k) n w → Stays c.own nests t u w → number_at w.ints (leaving_number c.own) ≡ pos out →
          DoesAt functions limit n w lines braces ((behind_turn (Exits out) more >>= go) n)
      left_by zero in_it small n w kin' stay value = pured Next go n (done.done n w (wider n w kin') stay value)
      left_by (suc o) in_it small n w kin' stay value = pured (Exits o) go n
          (done.exits o in_it small n w (wider n w kin') stay value)

      loop : Loop (loops_of depth) functions limit c (most_left k) nests t u (code.Close ∷ lines) (Forever inside ∷ braces)
          (λ flow. behind_turn flow more >>= go)
      loop = record {
        place = record { lines = code.Close ∷ lines; braces = Forever inside ∷ braces };
        closes = end_in_loop lines (Forever inside) braces refl;
        exits = left_by;
        cycles = again;
        cycles_further = λ out in_it small n w kin' stay value. pured (Cycles out) go n
            (done.cycles out in_it small n w (wider n w kin') stay value);
      }

      by : (left : ℕ) → m.cells.plain.left ≡ left →
          DoesAt functions limit m u (flats (all_lines c nests t body) ++ code.Close ∷ lines) (Forever inside ∷ braces)
          (turn_goes left (λ ok. (bodies >>= (λ flow. behind_turn flow more)) >>= go) m)
      by zero e = out_of_turns m (flats (all_lines c nests t body) ++ code.Close ∷ lines) (omega (arith, enough, e, kin.budget))
      by (suc left) e =
          regroup bodies (λ flow. behind_turn flow more) go (with_left m left)
          (body_law.does t free enough (kin_counted left m.entries (omega (arith, e, kin.few)) (omega (arith, e, kin.budget)) kin)
          turned
          (λ flow. behind_turn flow more >>= go)
          (out_inside depth (stays_all c.own nests t u) (returns_same more go) wider loop out) again)

  begun : (x : Step Flow) (k : ℕ) → k ≤ around.most → (n : NestState) (w : Variables) → Kin c.own (most_left k) n w →
      AtTurn nests c.loops turn w →
      (s : State) → step functions s ≡ begins (at w inside (Forever inside ∷ braces)) →
      ((m : NestState) (u : Variables) → Kin c.own (asking k) m u → Stays c.own nests t w u →
      DoesAt functions limit m u (flats (all_lines c nests t body) ++ code.Close ∷ lines) (Forever inside ∷ braces)
      ((x >>= go) m)) →
      Behind (loops_of depth) functions limit c around nests t w lines braces go →
      Meets functions (configuration n.entries n.cells.plain.written s)
      (ending limit (((enter >> (heads >> (condition >>= (λ b. pick b x (pure Next))))) >>= go) n))
  begun x k few n w kin turned s next holds_then done =
      let whole = heads >> (condition >>= (λ b. pick b x (pure Next))) in
      let in_it = round_does x k few (with_entry n) w
      (kin_counted n.cells.plain.left (suc n.entries) kin.few (omega (arith, kin.budget)) kin) turned holds_then done in
      subst (λ (r : Ran Halt NestState (Unit {0})). Meets functions (configuration n.entries n.cells.plain.written s)
      (ending limit r))
      (sym (entry_first whole go n))
      (turned_step next (subst
      (λ e. Meets functions (configuration e n.cells.plain.written (at w inside (Forever inside ∷ braces)))
      (ending limit ((whole >>= go) (with_entry n)))) (sym (plus_one n.entries)) in_it.by))

  rounds_do : (k : ℕ) → k ≤ around.most → (n : NestState) (w : Variables) → Kin c.own (most_left k) n w →
      AtTurn nests c.loops turn w → (s : State) →
      step functions s ≡ begins (at w inside (Forever inside ∷ braces)) →
      Out depth functions limit c around nests t w lines braces go →
      Behind (loops_of depth) functions limit c around nests t w lines braces go →
      Meets functions (configuration n.entries n.cells.plain.written s) (ending limit ((rounds k heads condition bodies >>= go) n))
  unfolding rounds
  rounds_do zero few n w kin turned s next out done =
      begun (stop (By source.OutOfTurns)) zero few n w kin turned s next
      (λ m u k stay. told (stop_is (By source.OutOfTurns) go m)
      (out_of_turns m (flats (all_lines c nests t body) ++ code.Close ∷ lines) (omega (arith, enough, k.few, k.budget)))) done
  rounds_do (suc j) few n w kin turned s next out done =
      begun (one_turn bodies (rounds j heads condition bodies)) (suc j) few n w kin turned s next
      (λ m u k stay. turn_does (rounds j heads condition bodies) j few m u k (turn_stays placed stay turned)
      (out_moved (λ place closes. closes) stay (λ flow m' h. refl) (λ m' u' k'. k') depth out) (λ n' w' k' stay'. record {
        by = rounds_do j (omega (arith, few)) n' w' k' (turn_stays placed (stays_then stay stay') turned)
            (at w' (code.Close ∷ lines) (Forever inside ∷ braces)) (step_forever_end inside lines braces functions w')
            (out_moved (λ place closes. closes) (stays_then stay stay') (λ flow m' h. refl) (λ m' u' k''. k'') depth out)
            (behind_then (stays_then stay stay') done);
      }) (behind_then stay done)) done

module _ (functions : List Function) (limit : ℕ) (c : Scope) (nests : ℕ) (calls : Caller) (turn : List ℕ) (depth : Option ℕ)
    (placed : Placed c nests) where
  pub while_law : (line : ℕ) (head : Statements) (test : Tree) (body : Statements) → emits_tree test ≡ true →
      gives c test sort.Log ≡ true →
      PerformsAll functions limit c nests calls turn None head → (further : Bool) → all_leave_more 1 body ≡ further →
      PerformsAll functions limit c nests calls turn (one_deeper (reached further depth)) body →
      Performs functions limit c nests calls turn depth (While line head test body)
  while_law line head test body emits fits head_law further same body_law = record {
    does = λ t free {around} {n} {w} enough kin turned {lines} {braces} go out next.
        let heads = calmly (all_act c.unit.constants calls turn head) in
        let condition = truth_step c.unit.constants calls line turn test in
        let bodies = all_act c.unit.constants calls turn body in
        let rest = behind_loop c.own t further in
        let behind = flats rest ++ lines in
        let whole = round_lines functions limit c nests calls turn (reached further depth) placed line head test body emits fits
        head_law body_law t free around enough behind braces go in
        let inner = flats whole ++ code.Close ∷ behind in
        told (turns_left_is (λ k. rounds k heads condition bodies) go n)
        (subst (λ b. DoesAt functions limit n w (flats (stmt.Forever whole ∷ behind_loop c.own t b) ++ lines) braces
        ((rounds n.cells.plain.left heads condition bodies >>= go) n)) (sym same) (record {
          by = with_lines (first_forever whole rest lines)
              (rounds_do functions limit c nests calls turn (reached further depth) placed line head test body emits fits head_law
              body_law t free around enough behind braces go
              n.cells.plain.left kin.few n w (kin_around (omega arith) kin.budget kin) turned (at w (code.Forever ∷ inner) braces)
              (step_forever inner braces functions w)
              (out_reached further depth (λ place closes. end_behind rest closes) out)
              (behind_does functions limit c around nests t free w lines braces go further depth out next));
        }));
  }
