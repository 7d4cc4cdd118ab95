-- Loops over elements: the rounds of one loop, in both directions.
use Rattle.std.proofs.Common.{◌≡◌, ℕ, zero, suc, ◌+◌, ◌<◌, ◌^◌, Bool, true, false, List, [], ◌∷◌, ◌++◌, refl, sym, ap, ◌∙◌, subst, arith, ℤ, pos, reverse}
use Rattle.std.proofs.lemmas.List.{reverse-append}
use Rattle.a95_base.specs.Lists.{count_to}
use Rattle.a95_base.specs.Steps.{pure, ◌>>=◌, ◌>>◌}
use Rattle.rank_shape.specs.Walk.{turns_of}
use Rattle.nest_tree.specs.Plain.{Procedure}
use Rattle.nest_tree.specs.State.{NestState, Step}
use Rattle.nest_tree.specs.Statements.{each_turn}
use Rattle.loop_tree.specs.declared.atom.Atom.{Atom}
use Rattle.loop_tree.specs.declared.tree.CodeLine.{CodeLine}
use Rattle.loop_tree.specs.declared.tree.CodeLine.TheVariants as code
use Rattle.loop_tree.specs.declared.tree.Stmt.{Stmt}
use Rattle.loop_tree.specs.declared.tree.Function.{Function}
use Rattle.loop_tree.specs.Lines.{flats}
use Rattle.loop_tree.specs.State.{Brace, Upward, Downward}
use Rattle.loop_tree.specs.Values.{number_at}
use Rattle.loop_tree.specs.Run.{configuration}
use Rattle.loop_laws.specs.At.{Variables, at, value_of, with_index}
use Rattle.loop_laws.specs.Meets.{Meets}
use Rattle.loop_laws.specs.Statements.{Points, index_below, UpwardRounds, DownwardRounds, MeetsFrom, MeetsInRound, body_lines}
use Rattle.loop_laws.proofs.Statements.{upward_loop, downward_loop}
use Rattle.nest_emit.specs.Statements.{loop_line}
use Rattle.nest_emit.specs.Meets.{ending, DoesAt}
use Rattle.nest_emit.specs.Kin.{Around, Kin}
use Rattle.nest_emit.proofs.Runs.{told, regroup_next, pured}
use Rattle.nest_emit.proofs.Acts.{entry_first, with_entry, plus_one}
use Rattle.nest_emit.proofs.Kin.{kin_index, kin_counted}

-- ---- the numbers that a loop goes through

abbrev pub up_from : ℕ → ℕ → List ℕ
up_from i zero = []
up_from i (suc left) = i ∷ up_from (suc i) left

up_last : (i left : ℕ) → up_from i left ++ (i + left) ∷ [] ≡ up_from i (suc left)
up_last i zero = let same : i + 0 ≡ i = omega arith in ap (λ k. k ∷ []) same
up_last i (suc left) =
    let same : i + suc left ≡ suc i + left = omega arith in
    ap (λ k. i ∷ (up_from (suc i) left ++ k ∷ [])) same ∙ ap (λ ks. i ∷ ks) (up_last (suc i) left)

counted_up : (n : ℕ) → count_to n ≡ up_from 0 n
counted_up zero = refl
counted_up (suc n) =
    let same : n ≡ 0 + n = omega arith in
    ap (λ ks. ks ++ n ∷ []) (counted_up n) ∙ ap (λ k. up_from 0 n ++ k ∷ []) same ∙ up_last 0 n

abbrev pub down_from : ℕ → List ℕ
down_from zero = []
down_from (suc j) = j ∷ down_from j

counted_down : (n : ℕ) → reverse (count_to n) ≡ down_from n
counted_down zero = refl
counted_down (suc n) = reverse-append (count_to n) (n ∷ []) ∙ ap (λ ks. n ∷ ks) (counted_down n)

-- ---- the meaning of a loop

none_left : (f : ℕ → Step (Unit {0})) (go : Unit {0} → Step (Unit {0})) (n : NestState) →
    (each_turn f [] >>= go) n ≡ (pure tt >>= go) n
unfolding each_turn
none_left f go n = refl

one_more : (f : ℕ → Step (Unit {0})) (i : ℕ) (is : List ℕ) (go : Unit {0} → Step (Unit {0})) (n : NestState) →
    (each_turn f (i ∷ is) >>= go) n ≡ ((f i >> each_turn f is) >>= go) (with_entry n)
unfolding each_turn
one_more f i is go n = entry_first (f i >> each_turn f is) go n

-- ---- one loop

-- What is asked of one loop: S tells what has stayed since before it, the loop's own variable left out.
module _ (functions : List Function) (limit : ℕ) (q : Procedure) (around : Around) (k : ℕ) (bound : Atom) (inner : List Stmt)
    (count : ℕ) (few : count < 2 ^ 63)
    (f : ℕ → Step (Unit {0})) (S : Variables → Type 0) (lines : List CodeLine) (braces : List Brace)
    (go : Unit {0} → Step (Unit {0}))
    (moves : (w : Variables) (z : ℤ) → S w → S (with_index w k z))
    (bounded : (w : Variables) → S w → value_of w bound ≡ pos count)
    (round : (i : ℕ) → i < count → (n : NestState) (w : Variables) → Kin q around n w → S w → number_at w.indices k ≡ pos i →
    (ls : List CodeLine) (bs : List Brace) (g : Unit {0} → Step (Unit {0})) →
    ((m : NestState) (u : Variables) → Kin q around m u → S u → number_at u.indices k ≡ pos i →
    DoesAt functions limit m u ls bs (g tt m)) →
    DoesAt functions limit n w (flats inner ++ ls) bs ((f i >>= g) n))
    (next : (m : NestState) (u : Variables) → Kin q around m u → S u → DoesAt functions limit m u lines braces (go tt m)) where
  -- what is known at the test of a round, with so many rounds before it and so many left
  record Point : Type 0 where
    before : ℕ
    left : ℕ
    all : before + left ≡ count
    state : NestState
    variables : Variables
    kin : Kin q around state variables
    stays : S variables

  -- the entry of a round is counted
  kin_entered : (n : NestState) (w : Variables) → Kin q around n w → Kin q around (with_entry n) w
  kin_entered n w kin = kin_counted n.cells.plain.left (suc n.entries) kin.few (omega (arith, kin.budget)) kin

  abbrev upward : Points Point
  upward = record {
    number = λ p. p.before;
    variables = λ p. p.variables;
    turns = λ p. p.state.entries;
    written = λ p. p.state.cells.plain.written;
    expected = λ p. ending limit ((each_turn f (up_from p.before p.left) >>= go) p.state);
  }

  up_round : (p : Point) → p.before < count → number_at p.variables.indices k ≡ pos p.before → (left : ℕ) → p.left ≡ left →
      ((r : Point) (w : Variables) → r.before ≡ p.before + 1 → number_at w.indices k ≡ pos p.before →
      r.variables ≡ with_index w k (pos r.before) →
      MeetsFrom functions upward r w (code.Close ∷ lines) (Upward k bound (body_lines inner lines) ∷ braces)) →
      MeetsInRound functions upward p (body_lines inner lines) (Upward k bound (body_lines inner lines) ∷ braces)
  up_round p below index zero e go_on = absurd (omega (arith, below, e, p.all))
  up_round p below index (suc left) e go_on =
      let is = up_from (suc p.before) left in
      let n = with_entry p.state in
      let in_it = regroup_next (f p.before) (each_turn f is) go n
      (round p.before below n p.variables (kin_entered p.state p.variables p.kin) p.stays index (code.Close ∷ lines)
      (Upward k bound (body_lines inner lines) ∷ braces) (λ done. each_turn f is >>= go) (λ m u kin' stays' index'. record {
        by = go_on (record {
          before = suc p.before;
          left = left;
          all = omega (arith, e, p.all);
          state = m;
          variables = with_index u k (pos (suc p.before));
          kin = kin_index k (pos (suc p.before)) kin';
          stays = moves u (pos (suc p.before)) stays';
        }) u (omega arith) index' refl;
      })) in
      subst (λ r. Meets functions (configuration (p.state.entries + 1) p.state.cells.plain.written
      (at p.variables (body_lines inner lines) (Upward k bound (body_lines inner lines) ∷ braces))) (ending limit r))
      (sym (ap (λ l. (each_turn f (up_from p.before l) >>= go) p.state) e ∙ one_more f p.before is go p.state))
      (subst (λ e'. Meets functions (configuration e' p.state.cells.plain.written
      (at p.variables (body_lines inner lines) (Upward k bound (body_lines inner lines) ∷ braces)))
      (ending limit (((f p.before >> each_turn f is) >>= go) n)))
      (sym (plus_one p.state.entries)) in_it.by)

  upward_rounds : UpwardRounds Point upward functions k bound inner count lines braces
  upward_rounds = record {
    bounded = λ p index. bounded p.variables p.stays;
    round = λ p below index go_on. up_round p below index p.left refl go_on;
    left = λ p all.
        let none : p.left ≡ 0 = omega (arith, all, p.all) in
        subst (λ l. Meets functions (configuration p.state.entries p.state.cells.plain.written (at p.variables lines braces))
        (ending limit ((each_turn f (up_from p.before l) >>= go) p.state))) (sym none)
        (told (none_left f go p.state) (pured tt go p.state (next p.state p.variables p.kin p.stays))).by;
  }

  abbrev downward : Points Point
  downward = record {
    number = λ p. p.left;
    variables = λ p. p.variables;
    turns = λ p. p.state.entries;
    written = λ p. p.state.cells.plain.written;
    expected = λ p. ending limit ((each_turn f (down_from p.left) >>= go) p.state);
  }

  down_round : (p : Point) (j : ℕ) → j < count → p.left ≡ j + 1 → number_at p.variables.indices k ≡ pos j →
      ((r : Point) (w : Variables) → r.left ≡ j → number_at w.indices k ≡ pos j → r.variables ≡ with_index w k (index_below j) →
      MeetsFrom functions downward r w (code.Close ∷ lines) (Downward k (body_lines inner lines) ∷ braces)) →
      MeetsInRound functions downward p (body_lines inner lines) (Downward k (body_lines inner lines) ∷ braces)
  down_round p j below number index go_on =
      let is = down_from j in
      let n = with_entry p.state in
      let in_it = regroup_next (f j) (each_turn f is) go n
      (round j below n p.variables (kin_entered p.state p.variables p.kin) p.stays index (code.Close ∷ lines)
      (Downward k (body_lines inner lines) ∷ braces) (λ done. each_turn f is >>= go) (λ m u kin' stays' index'. record {
        by = go_on (record {
          before = suc p.before;
          left = j;
          all = omega (arith, number, p.all);
          state = m;
          variables = with_index u k (index_below j);
          kin = kin_index k (index_below j) kin';
          stays = moves u (index_below j) stays';
        }) u refl index' refl;
      })) in
      subst (λ r. Meets functions (configuration (p.state.entries + 1) p.state.cells.plain.written
      (at p.variables (body_lines inner lines) (Downward k (body_lines inner lines) ∷ braces))) (ending limit r))
      (sym (ap (λ l. (each_turn f (down_from l) >>= go) p.state) (number ∙ plus_one j) ∙ one_more f j is go p.state))
      (subst (λ e'. Meets functions (configuration e' p.state.cells.plain.written
      (at p.variables (body_lines inner lines) (Downward k (body_lines inner lines) ∷ braces)))
      (ending limit (((f j >> each_turn f is) >>= go) n)))
      (sym (plus_one p.state.entries)) in_it.by)

  downward_rounds : DownwardRounds Point downward functions k inner count lines braces
  downward_rounds = record {
    round = down_round;
    left = λ p none.
        subst (λ l. Meets functions (configuration p.state.entries p.state.cells.plain.written (at p.variables lines braces))
        (ending limit ((each_turn f (down_from l) >>= go) p.state))) (sym none)
        (told (none_left f go p.state) (pured tt go p.state (next p.state p.variables p.kin p.stays))).by;
  }

  -- the whole loop, in either direction
  pub loop_does : (down : Bool) (n : NestState) (w : Variables) → Kin q around n w → S w →
      DoesAt functions limit n w (flats (loop_line down k bound inner ∷ []) ++ lines) braces
      ((each_turn f (turns_of down count) >>= go) n)
  loop_does false n w kin stays = record {
    by = subst (λ is. Meets functions
        (configuration n.entries n.cells.plain.written (at w (flats (loop_line false k bound inner ∷ []) ++ lines) braces))
        (ending limit ((each_turn f is >>= go) n))) (sym (counted_up count))
        (upward_loop upward functions k bound inner [] count lines braces few upward_rounds (record {
          before = 0;
          left = count;
          all = omega arith;
          state = n;
          variables = with_index w k (pos 0);
          kin = kin_index k (pos 0) kin;
          stays = moves w (pos 0) stays;
        }) w refl refl);
  }
  loop_does true n w kin stays = record {
    by = subst (λ is. Meets functions
        (configuration n.entries n.cells.plain.written (at w (flats (loop_line true k bound inner ∷ []) ++ lines) braces))
        (ending limit ((each_turn f is >>= go) n))) (sym (counted_down count))
        (downward_loop downward functions k bound inner [] count lines braces few downward_rounds (record {
          before = 0;
          left = count;
          all = omega arith;
          state = n;
          variables = with_index w k (index_below count);
          kin = kin_index k (index_below count) kin;
          stays = moves w (index_below count) stays;
        }) w (bounded w stays) refl refl);
  }
