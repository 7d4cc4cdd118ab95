-- From steps in a row to the run of a program, and back.
use Rattle.std.proofs.Common.{◌≡◌, inl, inr, ℕ, ◌+◌, ◌≤◌, true, false, List, [], ◌∷◌, ◌++◌, drop, Option, Some, None, Result, Ok}
use Rattle.std.proofs.Common.{Err, refl, ap}
use Rattle.std.proofs.Common.{◌∙◌, sym, subst, arith, append-nil}
use Rattle.std.specs.Io.KnownBytes.{Appends, Keeps}
use Rattle.std.proofs.KnownBytes.{Appends-nil, Appends-trans}
use Rattle.io_edge.specs.Known.{AppendsPrefix}
use Rattle.io_edge.proofs.Known.{kept_front, front_behind, front_more}
use Rattle.a95_base.specs.Outcome.{Outcome, Finished, Going, Ended, Faulted, IsPrefix}
use Rattle.loop_tree.specs.declared.tree.Function.{Function}
use Rattle.loop_tree.specs.State as state
use Rattle.loop_tree.specs.State.{State, Comes, Next, Goes, Ends}
use Rattle.loop_tree.specs.Machine.{step}
use Rattle.loop_tree.specs.Run.{Configuration, configuration, Reaches, Runs, begins_turn, lines_at_start}
use Rattle.loop_tree.proofs.Runs.{stays, linear, grows, last, not_past}
use Rattle.loop_tree.proofs.Outcomes.{one_outcome}
use Rattle.loop_tree.proofs.Exists.{some_outcome}
use Rattle.loop_machine.specs.declared.end.End.{End}
use Rattle.loop_machine.specs.declared.end.End.TheVariants as end
use Rattle.loop_rows.specs.Shown.{lines_in}
use Rattle.loop_heap.specs.declared.halt.Halt.{Halt}
use Rattle.loop_heap.specs.declared.halt.Halt.TheVariants as halt
use Rattle.loop_rows.specs.Rows.{HaltsSo}
use Rattle.loop_machine.specs.Running.{outcome_of, halted, Writes, Waits, WritesPrefix, ComesTo, RunsTo, Answers}
use Rattle.loop_machine.specs.Steps.{Advances}
use Rattle.loop_machine.proofs.Steps.{reaches_by_step, reaches_then}

-- the first function's lines come first
pub started : (functions : List Function) → drop 0 (lines_in functions 0) ≡ lines_at_start functions
started [] = refl
started (main ∷ functions) = refl

-- an answer that is none is no fault of the sink
pub no_fault : {A : Type 0} (r : Result A End) (a : A) → r ≡ Ok a → r ≡ Err end.WriteFault → ⊥
no_fault r a ok err = absurd (cc (ok, err))

module _ (functions : List Function) where
  abbrev begin : State → Configuration
  begin from = configuration 0 [] from

  -- what was written up to a state within the turns is a prefix of what the run writes
  reached_prefix : (from : State) (turns used : ℕ) (written : List ℕ) (to : State) → used ≤ turns →
      Reaches functions (begin from) (configuration used written to) →
      (whole : List ℕ) (outcome : Outcome state.End) → Runs functions (begin from) turns whole outcome → IsPrefix written whole
  reached_prefix from turns used written to h way whole (Finished how) f =
      elim (linear functions (begin from) (configuration used written to) f.last way f.leads) [
        | inl on ↦ let more = grows functions (configuration used written to) f.last on in
            record { more = more.more; is = sym f.output ∙ more.written }
        | inr on ↦ record {
          more = [];
          is = sym f.output ∙
              ap (λ (t : Configuration). t.written) (sym (last functions f.last (configuration used written to) how f.ends on)) ∙
              sym (append-nil written);
        }
      ]
  reached_prefix from turns used written to h way whole Going f =
      elim (linear functions (begin from) (configuration used written to) f.last way f.leads) [
        | inl on ↦ let more = grows functions (configuration used written to) f.last on in
            record { more = more.more; is = sym f.output ∙ more.written }
        | inr on ↦ record {
          more = [];
          is = sym f.output ∙
              ap (λ (t : Configuration). t.written)
              (sym (not_past functions f.last (configuration used written to) f.waits (omega (arith, f.spent)) on)) ∙
              sym (append-nil written);
        }
      ]

  -- so where a prefix of it was appended, one of what the run writes was
  prefix_appended : (from : State) (turns used : ℕ) (written : List ℕ) (to : State) (old new : Option (List ℕ)) → used ≤ turns →
      Reaches functions (begin from) (configuration used written to) → AppendsPrefix old new written →
      WritesPrefix functions from turns old new
  prefix_appended from turns used written to old new h way a =
      let whole = some_outcome functions (begin from) turns (omega arith) in
      let prefix = reached_prefix from turns used written to h way whole.written whole.outcome whole.runs in
      record {
        written = whole.written;
        outcome = whole.outcome;
        runs = whole.runs;
        appended = subst (AppendsPrefix old new) (sym prefix.is) (front_more old new written prefix.more a);
      }

  -- ---- what one step comes to

  pub ends_here : (from : State) (turns : ℕ) (how : state.End) (bytes : Option (List ℕ)) → step functions from ≡ Ends how →
      Writes functions from turns (Finished how) bytes bytes
  ends_here from turns how bytes e =
      record {
        written = [];
        runs =
            record { last = begin from; leads = stays functions (begin from); within = omega arith; output = refl; ends = e };
        appended = Appends-nil bytes;
      }

  kept_same : (bytes : Option (List ℕ)) → Keeps bytes bytes
  kept_same None = tt
  kept_same (Some bytes) = refl

  -- where no memory is left, nothing is known of the step
  pub unwritten : (from : State) (turns : ℕ) (old new : Option (List ℕ)) → Keeps old new →
      WritesPrefix functions from turns old new
  unwritten from turns old new k = prefix_appended from turns 0 [] from old new (omega arith) (stays functions (begin from))
      (kept_front old new [] k)

  pub cut_short : (from to : State) (turns : ℕ) (written : List ℕ) (old new : Option (List ℕ)) →
      step functions from ≡ Goes false written to → AppendsPrefix old new written → WritesPrefix functions from turns old new
  cut_short from to turns written old new e a =
      prefix_appended from turns 0 written to old new (omega arith) (reaches_by_step functions from to false written e) a

  pub waits_here : (from to : State) (turns : ℕ) (bytes : Option (List ℕ)) → turns ≡ 0 → to ≡ from →
      begins_turn (step functions from) ≡ true → Waits functions from turns to bytes bytes
  waits_here from to turns bytes none same e =
      record {
        written = [];
        runs =
            record { last = begin from; leads = stays functions (begin from); spent = sym none; output = refl; waits = e };
        there =
            sym same;
        appended = Appends-nil bytes;
      }

  pub halts_here : (from to : State) (turns : ℕ) (why : Halt) (bytes : Option (List ℕ)) → HaltsSo (step functions from) why →
      RunsTo functions from turns (halted why) to bytes bytes
  halts_here from to turns (halt.Stuck why) bytes e = ends_here from turns (state.Stuck why) bytes e
  halts_here from to turns halt.Memory bytes e = unwritten from turns bytes bytes (kept_same bytes)

  -- ---- steps before a run

  runs_then : (from mid : State) (used left : ℕ) (first written : List ℕ) (outcome : Outcome state.End) →
      Reaches functions (begin from) (configuration used first mid) →
      Runs functions (begin mid) left written outcome → Runs functions (begin from) (used + left) (first ++ written) outcome
  runs_then from mid used left first written (Finished how) way f =
      let within = f.within in
      record {
        last = configuration (used + f.last.turns) (first ++ f.last.written) f.last.state;
        leads = reaches_then functions from mid f.last.state used f.last.turns first f.last.written way f.leads;
        within = omega arith;
        output = ap (λ (w : List ℕ). first ++ w) f.output;
        ends = f.ends;
      }
  runs_then from mid used left first written Going way f =
      record {
        last = configuration (used + f.last.turns) (first ++ f.last.written) f.last.state;
        leads = reaches_then functions from mid f.last.state used f.last.turns first f.last.written way f.leads;
        spent = ap (λ (n : ℕ). used + n) f.spent;
        output = ap (λ (w : List ℕ). first ++ w) f.output;
        waits = f.waits;
      }

  then_comes : (from mid to : State) (used left : ℕ) (outcome : Option (Outcome state.End)) (old between new : Option (List ℕ)) →
      Advances functions from used mid old between →
      ComesTo functions mid left outcome to between new → ComesTo functions from (used + left) outcome to old new
  then_comes from mid to used left (Some (Finished how)) old between new a f =
      record {
        written = a.written ++ f.written;
        runs = runs_then from mid used left a.written f.written (Finished how) a.reaches f.runs;
        appended = Appends-trans old between new a.written f.written a.appended f.appended;
      }
  then_comes from mid to used left (Some Going) old between new a f =
      record {
        written = a.written ++ f.written;
        runs = record {
          last = configuration (used + f.runs.last.turns) (a.written ++ f.runs.last.written) f.runs.last.state;
          leads = reaches_then functions from mid f.runs.last.state used f.runs.last.turns a.written f.runs.last.written
              a.reaches f.runs.leads;
          spent = ap (λ (n : ℕ). used + n) f.runs.spent;
          output = ap (λ (w : List ℕ). a.written ++ w) f.runs.output;
          waits = f.runs.waits;
        };
        there = f.there;
        appended = Appends-trans old between new a.written f.written a.appended f.appended;
      }
  then_comes from mid to used left None old between new a f =
      record {
        written = a.written ++ f.written;
        outcome = f.outcome;
        runs = runs_then from mid used left a.written f.written f.outcome a.reaches f.runs;
        appended = front_behind old between new a.written f.written a.appended f.appended;
      }

  pub then_runs : (from mid to : State) (used left turns : ℕ) (result : End) (old between new : Option (List ℕ)) →
      used + left ≡ turns → Advances functions from used mid old between →
      RunsTo functions mid left result to between new → RunsTo functions from turns result to old new
  then_runs from mid to used left turns result old between new e a f =
      subst (λ (n : ℕ). RunsTo functions from n result to old new) e
      (then_comes from mid to used left (outcome_of result) old between new a f)

  -- ---- what the run says of the answer

  only : (from : State) (turns : ℕ) (written other : List ℕ) (outcome second : Outcome state.End) (old new : Option (List ℕ)) →
      Runs functions (begin from) turns written outcome → Appends old new written →
      Runs functions (begin from) turns other second → (outcome ≡ second) × Appends old new other
  only from turns written other outcome second old new f a g =
      let one = one_outcome functions (begin from) turns written other outcome second f g in
      (one.1, subst (Appends old new) one.0 a)

  pub runs_decide : (from : State) (turns : ℕ) (to : State) (result : End) (old new : Option (List ℕ)) →
      RunsTo functions from turns result to old new →
      (written : List ℕ) (outcome : Outcome state.End) → Runs functions (begin from) turns written outcome →
      Answers outcome written result old new
  runs_decide from turns to end.Ended old new h written outcome g =
      only from turns h.written written (Finished (Comes Ended)) outcome old new h.runs h.appended g
  runs_decide from turns to (end.Fault kind line) old new h written outcome g =
      only from turns h.written written (Finished (Comes (Faulted kind line.0))) outcome old new h.runs h.appended g
  runs_decide from turns to (end.Stuck why) old new h written outcome g =
      only from turns h.written written (Finished (state.Stuck why)) outcome old new h.runs h.appended g
  runs_decide from turns to end.TurnLimit old new h written outcome g =
      only from turns h.written written Going outcome old new h.runs h.appended g
  runs_decide from turns to end.WriteFault old new h written outcome g = tt
  runs_decide from turns to end.Memory old new h written outcome g = tt
