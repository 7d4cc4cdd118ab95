-- What leaves the statements around: where it leads, and what is known to go on there.
use Rattle.std.proofs.Common.{◌≡◌, ◌≢◌, ℕ, zero, suc, ◌<◌, ◌≤◌, Bool, true, false, List, [], ◌∷◌, ◌++◌, Option, Some, None, refl, ap, ◌∙◌, arith, ℤ, pos}
use Rattle.std.specs.Prelude.{negsuc, Ok, int_lt, ◌+ℤ◌, ◌-ℤ◌}
use Rattle.std.specs.Int.{w64, int_wrap}
use Rattle.std.proofs.lemmas.Int.{ints, int_wrap_fits}
use Rattle.std.proofs.lemmas.Bool.Decides.{nat_tests}
use Rattle.a95_base.specs.Lists.{rest_of}
use Rattle.a95_base.specs.Steps.{Ran, ◌>>=◌}
use Rattle.a95_base.proofs.Steps.{left_unit}
use Rattle.a95_base.proofs.Tests.{clash}
use Rattle.array_meaning.specs.Control.{Flow, Next, Exits, Cycles, Returns, behind, behind_turn}
use Rattle.nest_tree.specs.Plain.{Procedure}
use Rattle.nest_tree.specs.State.{NestState, Halt, Step}
use Rattle.nest_tree.specs.Sound.{Scope, one_deeper}
use Rattle.loop_tree.specs.declared.atom.Atom.TheVariants as atom
use Rattle.loop_tree.specs.declared.atom.Operator.{Operator}
use Rattle.loop_tree.specs.declared.atom.Operator.TheVariants as operator
use Rattle.loop_tree.specs.declared.row.IntValue.TheVariants as int_row
use Rattle.loop_tree.specs.declared.row.ControlRow.TheVariants as control
use Rattle.loop_tree.specs.declared.tree.CodeLine.{CodeLine}
use Rattle.loop_tree.specs.declared.tree.CodeLine.TheVariants as code
use Rattle.loop_tree.specs.declared.tree.Stmt.{Stmt}
use Rattle.loop_tree.specs.declared.tree.Stmt.TheVariants as stmt
use Rattle.loop_tree.specs.declared.tree.Function.{Function}
use Rattle.loop_tree.specs.Lines.{flats}
use Rattle.loop_tree.specs.State.{Brace, Choice}
use Rattle.loop_tree.specs.Machine.{Place}
use Rattle.loop_tree.specs.Values.{number_at, truth, holds, operation}
use Rattle.loop_laws.specs.At.{Variables, with_int}
use Rattle.loop_laws.specs.Braces.{ClosesAt}
use Rattle.loop_laws.proofs.Braces.{end_in_branch, end_in_choice}
use Rattle.loop_laws.proofs.Numbered.{with_at_same, with_at_other}
use Rattle.loop_laws.proofs.Rows.{step_int}
use Rattle.loop_laws.proofs.Statements.{breaks, continues}
use Rattle.loop_laws.proofs.Within.{positive_holds}
use Rattle.nest_emit.specs.Numbers.{leaving_number, first_free}
use Rattle.nest_emit.specs.Trees.{compute}
use Rattle.nest_emit.specs.Statements.{control_row, leave_lines, further_lines, behind_loop}
use Rattle.nest_emit.specs.Emits.{most_loops}
use Rattle.nest_emit.specs.Meets.{DoesAt}
use Rattle.nest_emit.specs.Kin.{Around, Kin, Stays}
use Rattle.nest_emit.proofs.Runs.{told, row_gives, if_does, either_does}
use Rattle.nest_emit.proofs.Indices.{small_wrap}
use Rattle.nest_emit.proofs.Rows.{read_atom, read_operation, adds, subtracts, is_less, compute_does}
use Rattle.nest_emit.proofs.Kin.{stays_all, stays_then, stays_kept, kin_int}

-- Within so many more loops, the loop around: where it is closed, and what is done behind it and where its next round begins. The
-- variable for it says what leaves it
pub record Loop (depth : ℕ) (functions : List Function) (limit : ℕ) (c : Scope) (around : Around) (nests t : ℕ) (v : Variables)
    (lines : List CodeLine)
    (braces : List Brace) (go : Flow → Step (Unit {0})) : Type 0 where
  pub place : Place
  pub closes : ClosesAt lines braces place
  pub exits : (out : ℕ) → out ≤ depth → out ≤ most_loops → (m : NestState) (u : Variables) → Kin c.own around m u →
      Stays c.own nests t v u → number_at u.ints (leaving_number c.own) ≡ pos out →
      DoesAt functions limit m u (rest_of place.lines) (rest_of place.braces) (go (Exits out) m)
  pub cycles : (m : NestState) (u : Variables) → Kin c.own around m u → Stays c.own nests t v u →
      DoesAt functions limit m u place.lines place.braces (go (Cycles 0) m)
  pub cycles_further : (out : ℕ) → suc out ≤ depth → suc out ≤ most_loops → (m : NestState) (u : Variables) →
      Kin c.own around m u → Stays c.own nests t v u → number_at u.ints (leaving_number c.own) ≡ negsuc out →
      DoesAt functions limit m u (rest_of place.lines) (rest_of place.braces) (go (Cycles (suc out)) m)

abbrev pub LoopIf : (depth : ℕ) (functions : List Function) (limit : ℕ) (c : Scope) (around : Around) (nests t : ℕ) (v : Variables)
    (lines : List CodeLine) (braces : List Brace) (go : Flow → Step (Unit {0})) → Type 0
LoopIf zero functions limit c around nests t v lines braces go = Unit {0}
LoopIf (suc depth) functions limit c around nests t v lines braces go = Loop depth functions limit c around nests t v lines braces
    go

-- where so many loops may be left, and the procedure
pub record Ways (depth : ℕ) (functions : List Function) (limit : ℕ) (c : Scope) (around : Around) (nests t : ℕ) (v : Variables)
    (lines : List CodeLine) (braces : List Brace) (go : Flow → Step (Unit {0})) : Type 0 where
  pub returns : (m : NestState) (u : Variables) → Kin c.own around m u → Stays c.own nests t v u →
      (ls : List CodeLine) (bs : List Brace) →
      DoesAt functions limit m u (flats (control_row control.Return ∷ []) ++ ls) bs (go Returns m)
  pub loop : LoopIf depth functions limit c around nests t v lines braces go

-- None where nothing may be left
abbrev pub WaysIf : (depth : Option ℕ) (functions : List Function) (limit : ℕ) (c : Scope) (around : Around) (nests t : ℕ)
    (v : Variables)
    (lines : List CodeLine) (braces : List Brace) (go : Flow → Step (Unit {0})) → Type 0
WaysIf None functions limit c around nests t v lines braces go = Unit {0}
WaysIf (Some depth) functions limit c around nests t v lines braces go = Ways depth functions limit c around nests t v lines
    braces go

pub record Out (depth : Option ℕ) (functions : List Function) (limit : ℕ) (c : Scope) (around : Around) (nests t : ℕ)
    (v : Variables)
    (lines : List CodeLine) (braces : List Brace) (go : Flow → Step (Unit {0})) : Type 0 where
  pub ways : WaysIf depth functions limit c around nests t v lines braces go

pub no_way : {functions : List Function} {limit : ℕ} {c : Scope} {around : Around} {nests t : ℕ} {v : Variables}
    {lines : List CodeLine} {braces : List Brace} {go : Flow → Step (Unit {0})} →
    Out None functions limit c around nests t v lines braces go
no_way = record { ways = tt }

abbrev pub leaves : Flow → Bool
leaves Next = false
leaves other = true

-- ---- the same from other lines, within other braces, with more to do behind

module _ (functions : List Function) (limit : ℕ) (c : Scope) (around other : Around) (nests t : ℕ) (v w : Variables)
    (lines new : List CodeLine) (braces inner : List Brace) (go further : Flow → Step (Unit {0}))
    (closing : (place : Place) → ClosesAt lines braces place → ClosesAt new inner place) (stay : Stays c.own nests t v w)
    (same : (flow : Flow) (m : NestState) → leaves flow ≡ true → further flow m ≡ go flow m)
    (back : (m : NestState) (u : Variables) → Kin c.own other m u → Kin c.own around m u) where
  loop_moved : (depth : ℕ) → LoopIf depth functions limit c around nests t v lines braces go →
      LoopIf depth functions limit c other nests t w new inner further
  loop_moved zero l = tt
  loop_moved (suc depth) l = record {
    place = l.place;
    closes = closing l.place l.closes;
    exits = λ out in_it few m u k s e. told (same (Exits out) m refl)
        (l.exits out in_it few m u (back m u k) (stays_then stay s) e);
    cycles = λ m u k s. told (same (Cycles 0) m refl) (l.cycles m u (back m u k) (stays_then stay s));
    cycles_further = λ out in_it few m u k s e. told (same (Cycles (suc out)) m refl)
        (l.cycles_further out in_it few m u (back m u k) (stays_then stay s) e);
  }

  ways_moved : (depth : Option ℕ) → WaysIf depth functions limit c around nests t v lines braces go →
      WaysIf depth functions limit c other nests t w new inner further
  ways_moved None out = tt
  ways_moved (Some depth) out = record {
    returns = λ m u k s ls bs. told (same Returns m refl) (out.returns m u (back m u k) (stays_then stay s) ls bs);
    loop = loop_moved depth out.loop;
  }

pub out_moved : {functions : List Function} {limit : ℕ} {c : Scope} {around other : Around} {nests t : ℕ} {v w : Variables}
    {lines new : List CodeLine} {braces inner : List Brace} {go further : Flow → Step (Unit {0})} →
    ((place : Place) → ClosesAt lines braces place → ClosesAt new inner place) → Stays c.own nests t v w →
    ((flow : Flow) (m : NestState) → leaves flow ≡ true → further flow m ≡ go flow m) →
    ((m : NestState) (u : Variables) → Kin c.own other m u → Kin c.own around m u) → (depth : Option ℕ) →
    Out depth functions limit c around nests t v lines braces go → Out depth functions limit c other nests t w new inner further
out_moved {functions} {limit} {c} {around} {other} {nests} {t} {v} {w} {lines} {new} {braces} {inner} {go} {further} closing stay
    same back depth out =
    record {
      ways = ways_moved functions limit c around other nests t v w lines new braces inner go further closing stay same back
          depth out.ways;
    }

-- how many loops may be left
abbrev pub loops_of : Option ℕ → ℕ
loops_of None = 0
loops_of (Some depth) = depth

-- in a loop, which may be left too
pub out_inside : {functions : List Function} {limit : ℕ} {c : Scope} {around other : Around} {nests t : ℕ} {v w : Variables}
    {lines new : List CodeLine} {braces inner : List Brace} {go further : Flow → Step (Unit {0})} → (depth : Option ℕ) →
    Stays c.own nests t v w → ((m : NestState) → further Returns m ≡ go Returns m) →
    ((m : NestState) (u : Variables) → Kin c.own other m u → Kin c.own around m u) →
    Loop (loops_of depth) functions limit c other nests t w new inner further →
    Out depth functions limit c around nests t v lines braces go →
    Out (one_deeper depth) functions limit c other nests t w new inner further
out_inside None stay same back loop out = no_way
out_inside (Some depth) stay same back loop out = record {
  ways = record {
    returns = λ m u k s ls bs. told (same m) (out.ways.returns m u (back m u k) (stays_then stay s) ls bs);
    loop = loop;
  };
}

-- what leaves a list of statements leaves the ones behind out
pub behind_same : (rest : Step Flow) (go : Flow → Step (Unit {0})) (flow : Flow) (m : NestState) → leaves flow ≡ true →
    (behind flow rest >>= go) m ≡ go flow m
behind_same rest go Next m h = cc
behind_same rest go (Exits out) m h = left_unit (Exits out) go m
behind_same rest go (Cycles out) m h = left_unit (Cycles out) go m
behind_same rest go Returns m h = left_unit Returns go m

pub returns_same : (rest : Step Flow) (go : Flow → Step (Unit {0})) (m : NestState) →
    (behind_turn Returns rest >>= go) m ≡ go Returns m
returns_same rest go m = left_unit Returns go m

-- ---- the rows

pub stays_leaving : (q : Procedure) (nests t : ℕ) (w : Variables) (z : ℤ) → Stays q nests t w (with_int w (leaving_number q) z)
stays_leaving q nests t w z = record {
  ints = λ x below free. let ne : leaving_number q ≢ x = omega (arith, free) in with_at_other (pos 0) w.ints (leaving_number q) x z ne;
  indices = λ x h. refl;
}

-- a loop is left, in this way
pub leave_does : {functions : List Function} {limit : ℕ} {q : Procedure} {around : Around} {m : NestState} {u : Variables}
    {braces : List Brace} {r : Ran Halt NestState (Unit {0})} (nests t : ℕ) (z : ℤ) (lines : List CodeLine) (place : Place) →
    Kin q around m u → ClosesAt lines braces place →
    ((v : Variables) → Kin q around m v → Stays q nests t u v → number_at v.ints (leaving_number q) ≡ z →
    DoesAt functions limit m v (rest_of place.lines) (rest_of place.braces) r) →
    DoesAt functions limit m u (flats (leave_lines q z) ++ lines) braces r
leave_does {q} {u} nests t z lines place kin closes next =
    let number = leaving_number q in
    row_gives (step_int number (int_row.Atom (atom.Number z))) (control_row control.Break ∷ []) lines (read_atom u (atom.Number z))
    (record {
      by = breaks [] closes (next (with_int u number z) (kin_int number z (omega arith) kin) (stays_leaving q nests t u z)
          (with_at_same (pos 0) u.ints number z)).by;
    })

-- ---- behind a loop

-- what is done behind a loop within so many others, by what left it
pub record Behind (depth : ℕ) (functions : List Function) (limit : ℕ) (c : Scope) (around : Around) (nests t : ℕ) (v : Variables)
    (lines : List CodeLine) (braces : List Brace) (go : Flow → Step (Unit {0})) : Type 0 where
  pub done : (m : NestState) (u : Variables) → Kin c.own around m u → Stays c.own nests t v u →
      number_at u.ints (leaving_number c.own) ≡ pos 0 → DoesAt functions limit m u lines braces (go Next m)
  pub exits : (out : ℕ) → out < depth → suc out ≤ most_loops → (m : NestState) (u : Variables) → Kin c.own around m u →
      Stays c.own nests t v u → number_at u.ints (leaving_number c.own) ≡ pos (suc out) →
      DoesAt functions limit m u lines braces (go (Exits out) m)
  pub cycles : (out : ℕ) → out < depth → suc out ≤ most_loops → (m : NestState) (u : Variables) → Kin c.own around m u →
      Stays c.own nests t v u → number_at u.ints (leaving_number c.own) ≡ negsuc out →
      DoesAt functions limit m u lines braces (go (Cycles out) m)

pub behind_then : {depth : ℕ} {functions : List Function} {limit : ℕ} {c : Scope} {around : Around} {nests t : ℕ} {v w : Variables}
    {lines : List CodeLine} {braces : List Brace} {go : Flow → Step (Unit {0})} → Stays c.own nests t v w →
    Behind depth functions limit c around nests t v lines braces go →
    Behind depth functions limit c around nests t w lines braces go
behind_then stay b = record {
  done = λ m u k s e. b.done m u k (stays_then stay s) e;
  exits = λ out in_it few m u k s e. b.exits out in_it few m u k (stays_then stay s) e;
  cycles = λ out in_it few m u k s e. b.cycles out in_it few m u k (stays_then stay s) e;
}

-- the loops that are left from inside: all where statements leave loops further out, else this one alone
abbrev pub reached : Bool → Option ℕ → Option ℕ
reached true depth = depth
reached false None = None
reached false (Some depth) = Some 0

pub out_reached : {functions : List Function} {limit : ℕ} {c : Scope} {around : Around} {nests t : ℕ} {v : Variables}
    {lines new : List CodeLine} {braces : List Brace} {go : Flow → Step (Unit {0})} (b : Bool) (depth : Option ℕ) →
    ((place : Place) → ClosesAt lines braces place → ClosesAt new braces place) →
    Out depth functions limit c around nests t v lines braces go →
    Out (reached b depth) functions limit c around nests t v new braces go
out_reached {c = c} {nests = nests} {t = t} {v = v} true depth closing out =
    out_moved closing (stays_all c.own nests t v) (λ flow m h. refl) (λ m u k. k) depth out
out_reached false None closing out = no_way
out_reached false (Some depth) closing out = record { ways = record { returns = out.ways.returns; loop = tt } }

one_less : (out : ℕ) → suc out ≤ most_loops → int_wrap w64 (pos (suc out) -ℤ pos 1) ≡ pos out
one_less out few = let less : pos (suc out) -ℤ pos 1 ≡ pos out = omega (arith, ints) in
    ap (int_wrap w64) less ∙ small_wrap out (omega (arith, few))

one_more : (out : ℕ) → suc (suc out) ≤ most_loops → int_wrap w64 (negsuc (suc out) +ℤ pos 1) ≡ negsuc out
one_more out few = let less : negsuc (suc out) +ℤ pos 1 ≡ negsuc out = omega (arith, ints) in
    ap (int_wrap w64) less ∙ int_wrap_fits w64 (negsuc out) (omega (arith, ints, few))

not_below : (n : ℕ) → int_lt (pos n) (pos 0) ≡ false
not_below n = grind (arith, nat_tests)

no_more : int_wrap w64 (negsuc 0 +ℤ pos 1) ≡ pos 0
no_more = small_wrap 0 (omega arith)

module _ (functions : List Function) (limit : ℕ) (c : Scope) (around : Around) (nests t : ℕ) (free : first_free c.own ≤ t)
    (v : Variables) (lines : List CodeLine) (braces : List Brace) (go : Flow → Step (Unit {0})) where
  abbrev number : ℕ
  number = leaving_number c.own

  abbrev to_round : List Stmt
  to_round = compute number (atom.Int number) operator.Add (atom.Number (pos 1))
      ∷ stmt.IfElse (atom.Int number) (control_row control.Break ∷ []) (control_row control.Continue ∷ []) ∷ []

  abbrev to_end : List Stmt
  to_end = compute number (atom.Int number) operator.Subtract (atom.Number (pos 1)) ∷ control_row control.Break ∷ []

  abbrev inner_lines : List Stmt
  inner_lines = compute t (atom.Int number) operator.Less (atom.Number (pos 0)) ∷ stmt.IfElse (atom.Int t) to_round to_end ∷ []

  -- the variable takes a value
  leaving_set : (m : NestState) (u : Variables) → Kin c.own around m u → (op : Operator) (z : ℤ) →
      operation op (number_at u.ints number) (pos 1) ≡ Ok z → (more : List Stmt) (ls : List CodeLine) (bs : List Brace)
      (r : Ran Halt NestState (Unit {0})) →
      ((w : Variables) → Kin c.own around m w → Stays c.own nests t u w → number_at w.ints number ≡ z →
      DoesAt functions limit m w (flats more ++ ls) bs r) →
      DoesAt functions limit m u (flats (compute number (atom.Int number) op (atom.Number (pos 1)) ∷ more) ++ ls) bs r
  leaving_set m u kin op z is more ls bs r next =
      row_gives (step_int number (int_row.Operation (atom.Int number) op (atom.Number (pos 1)))) more ls
      (read_operation u (atom.Int number) op (atom.Number (pos 1)) z is)
      (next (with_int u number z) (kin_int number z (omega arith) kin) (stays_leaving c.own nests t u z)
      (with_at_same (pos 0) u.ints number z))

  -- the loop around is left, or begins its next round, as the variable says
  further_exits : (depth : ℕ) → Loop depth functions limit c around nests t v lines braces go →
      (out : ℕ) → out ≤ depth → suc out ≤ most_loops → (m : NestState) (u : Variables) → Kin c.own around m u →
      Stays c.own nests t v u → number_at u.ints number ≡ pos (suc out) →
      DoesAt functions limit m u (flats (further_lines c.own t) ++ lines) braces (go (Exits out) m)
  further_exits depth l out in_it few m u kin stay e =
      let ls = code.Close ∷ lines in
      let bs = Choice ∷ braces in
      if_does (atom.Int number) inner_lines [] lines
      (λ h. compute_does t u (stmt.IfElse (atom.Int t) to_round to_end ∷ []) ls free kin (atom.Int number) operator.Less
      (atom.Number (pos 0)) _ (is_less (number_at u.ints number) (pos 0)) (λ w k keep is.
      let same : number_at w.ints number ≡ pos (suc out) = keep.ints number (omega (arith, free)) ∙ e in
      let no : holds (number_at w.ints t) ≡ false = ap holds (is ∙ ap (λ z. truth (int_lt z (pos 0))) e)
      ∙ ap (λ b. holds (truth b)) (not_below (suc out)) in
      either_does (atom.Int t) to_round to_end [] ls
      (λ h'. absurd (clash (holds (number_at w.ints t)) h' no))
      (λ h'. leaving_set m w k operator.Subtract (pos out)
      (subtracts (number_at w.ints number) (pos 1) ∙ ap (λ z. Ok (int_wrap w64 (z -ℤ pos 1))) same ∙ ap Ok (one_less out few))
      (control_row control.Break ∷ []) (code.Close ∷ ls) (Choice ∷ bs) (go (Exits out) m) (λ w' k' stay' value.
      record {
        by = breaks [] (end_in_choice (end_in_choice l.closes))
            (l.exits out in_it (omega (arith, few)) m w' k' (stays_then stay (stays_then (stays_kept keep) stay')) value).by;
      }))))
      (λ h. absurd (clash (holds (number_at u.ints number))
      (positive_holds (number_at u.ints number) (suc out) e (omega arith)) h))

  further_cycles : (depth : ℕ) → Loop depth functions limit c around nests t v lines braces go →
      (out : ℕ) → out ≤ depth → suc out ≤ most_loops → (m : NestState) (u : Variables) → Kin c.own around m u →
      Stays c.own nests t v u → number_at u.ints number ≡ negsuc out →
      DoesAt functions limit m u (flats (further_lines c.own t) ++ lines) braces (go (Cycles out) m)
  further_cycles depth l out in_it few m u kin stay e =
      let ls = code.Close ∷ lines in
      let bs = Choice ∷ braces in
      let rest = flats to_end ++ code.Close ∷ ls in
      if_does (atom.Int number) inner_lines [] lines
      (λ h. compute_does t u (stmt.IfElse (atom.Int t) to_round to_end ∷ []) ls free kin (atom.Int number) operator.Less
      (atom.Number (pos 0)) _ (is_less (number_at u.ints number) (pos 0)) (λ w k keep is.
      let same : number_at w.ints number ≡ negsuc out = keep.ints number (omega (arith, free)) ∙ e in
      let yes : holds (number_at w.ints t) ≡ true = ap holds (is ∙ ap (λ z. truth (int_lt z (pos 0))) e) in
      either_does (atom.Int t) to_round to_end [] ls
      (λ h'. by out in_it few m w same k (stays_then stay (stays_kept keep)))
      (λ h'. absurd (clash (holds (number_at w.ints t)) yes h'))))
      (λ h. absurd (clash (holds (number_at u.ints number)) (ap holds e) h))
    where
      choice : (m : NestState) (w : Variables) (r : Ran Halt NestState (Unit {0})) →
          (holds (number_at w.ints number) ≡ true →
          DoesAt functions limit m w (rest_of l.place.lines) (rest_of l.place.braces) r) →
          (holds (number_at w.ints number) ≡ false → DoesAt functions limit m w l.place.lines l.place.braces r) →
          DoesAt functions limit m w (flats (stmt.IfElse (atom.Int number) (control_row control.Break ∷ [])
          (control_row control.Continue ∷ []) ∷ []) ++ code.Else ∷ (flats to_end ++ code.Close ∷ (code.Close ∷ lines)))
          (Choice ∷ (Choice ∷ braces)) r
      choice m w r d e' =
          let lines_behind = code.Else ∷ (flats to_end ++ code.Close ∷ (code.Close ∷ lines)) in
          let closes : ClosesAt lines_behind (Choice ∷ (Choice ∷ braces)) l.place =
          end_in_branch to_end (end_in_choice l.closes) in
          either_does (atom.Int number) (control_row control.Break ∷ []) (control_row control.Continue ∷ []) [] lines_behind
          (λ h. record { by = breaks [] (end_in_branch (control_row control.Continue ∷ []) closes) (d h).by })
          (λ h. record { by = continues [] (end_in_choice closes) (e' h).by })

      by : (o : ℕ) → o ≤ depth → suc o ≤ most_loops → (m : NestState) (w : Variables) → number_at w.ints number ≡ negsuc o → Kin c.own around m w → Stays c.own nests t v w →
          DoesAt functions limit m w (flats to_round ++ code.Else ∷ (flats to_end ++ code.Close ∷ (code.Close ∷ lines)))
          (Choice ∷ (Choice ∷ braces)) (go (Cycles o) m)
      by zero in_it few m w same k stay = leaving_set m w k operator.Add (pos 0)
          (adds (number_at w.ints number) (pos 1) ∙ ap (λ z. Ok (int_wrap w64 (z +ℤ pos 1))) same ∙ ap Ok no_more)
          (stmt.IfElse (atom.Int number) (control_row control.Break ∷ []) (control_row control.Continue ∷ []) ∷ [])
          (code.Else ∷ (flats to_end ++ code.Close ∷ (code.Close ∷ lines))) (Choice ∷ (Choice ∷ braces)) (go (Cycles 0) m)
          (λ x k' stay' value. choice m x (go (Cycles 0) m)
          (λ h. absurd (clash (holds (number_at x.ints number)) h (ap holds value)))
          (λ h. l.cycles m x k' (stays_then stay stay')))
      by (suc o) in_it few m w same k stay = leaving_set m w k operator.Add (negsuc o)
          (adds (number_at w.ints number) (pos 1) ∙ ap (λ z. Ok (int_wrap w64 (z +ℤ pos 1))) same ∙ ap Ok (one_more o few))
          (stmt.IfElse (atom.Int number) (control_row control.Break ∷ []) (control_row control.Continue ∷ []) ∷ [])
          (code.Else ∷ (flats to_end ++ code.Close ∷ (code.Close ∷ lines))) (Choice ∷ (Choice ∷ braces)) (go (Cycles (suc o)) m)
          (λ x k' stay' value. choice m x (go (Cycles (suc o)) m)
          (λ h. l.cycles_further o in_it (omega (arith, few)) m x k' (stays_then stay stay') value)
          (λ h. absurd (clash (holds (number_at x.ints number)) (ap holds value) h)))

  -- nothing leaves more than the loop
  further_none : ((m : NestState) (u : Variables) → Kin c.own around m u → Stays c.own nests t v u →
      DoesAt functions limit m u lines braces (go Next m)) →
      (m : NestState) (u : Variables) → Kin c.own around m u → Stays c.own nests t v u → number_at u.ints number ≡ pos 0 →
      DoesAt functions limit m u (flats (further_lines c.own t) ++ lines) braces (go Next m)
  further_none next m u kin stay e =
      if_does (atom.Int number) inner_lines [] lines
      (λ h. absurd (clash (holds (number_at u.ints number)) h (ap holds e))) (λ h. next m u kin stay)

  pub behind_does : (b : Bool) (depth : Option ℕ) → Out depth functions limit c around nests t v lines braces go →
      ((m : NestState) (u : Variables) → Kin c.own around m u → Stays c.own nests t v u →
      DoesAt functions limit m u lines braces (go Next m)) →
      Behind (loops_of (reached b depth)) functions limit c around nests t v (flats (behind_loop c.own t b) ++ lines) braces go
  behind_does true None out next = record {
    done = further_none next;
    exits = λ out' in_it few m u k s e. absurd (omega (arith, in_it));
    cycles = λ out' in_it few m u k s e. absurd (omega (arith, in_it));
  }
  behind_does true (Some zero) out next = record {
    done = further_none next;
    exits = λ out' in_it few m u k s e. absurd (omega (arith, in_it));
    cycles = λ out' in_it few m u k s e. absurd (omega (arith, in_it));
  }
  behind_does true (Some (suc depth)) out next = record {
    done = further_none next;
    exits = λ out' in_it few m u k s e. further_exits depth out.ways.loop out' (omega (arith, in_it)) few m u k s e;
    cycles = λ out' in_it few m u k s e. further_cycles depth out.ways.loop out' (omega (arith, in_it)) few m u k s e;
  }
  behind_does false None out next = record {
    done = λ m u k s e. next m u k s;
    exits = λ out' in_it few m u k s e. absurd (omega (arith, in_it));
    cycles = λ out' in_it few m u k s e. absurd (omega (arith, in_it));
  }
  behind_does false (Some depth) out next = record {
    done = λ m u k s e. next m u k s;
    exits = λ out' in_it few m u k s e. absurd (omega (arith, in_it));
    cycles = λ out' in_it few m u k s e. absurd (omega (arith, in_it));
  }
