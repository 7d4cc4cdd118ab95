-- Steps in front of what the rest of a run comes to, and its ends.
use Rattle.std.proofs.Common.{◌≡◌, ℕ, ◌+◌, ◌<◌, ◌≤◌, false, List, [], ◌∷◌, ◌++◌, Option, Some, None, Result, Ok, refl, ap, ◌∙◌, sym}
use Rattle.std.proofs.Common.{subst, add-zero, append-nil}
use Rattle.a95_base.specs.Outcome.{Outcome, Finished, Going, Run, Ended}
use Rattle.loop_tree.specs.declared.stuck.StuckState.{StuckState}
use Rattle.loop_tree.specs.declared.tree.CodeLine.{CodeLine}
use Rattle.loop_tree.specs.declared.tree.Function.{Function}
use Rattle.loop_tree.specs.State.{Brace, State, End, Comes, Goes, Ends}
use Rattle.loop_tree.specs.Machine.{step, quiet, turn, given}
use Rattle.loop_tree.specs.Run.{Configuration, configuration, after, Reaches}
use Rattle.loop_tree.proofs.Runs.{stays, steps_once, joins}
use Rattle.loop_laws.specs.At.{Variables, frame_of, at, returned}
use Rattle.loop_laws.specs.Rows.{leaving}
use Rattle.loop_laws.specs.Meets.{Expected, ComesTo, ComesToSome, Meets, StepLaws, EndLaws}
use Rattle.loop_laws.proofs.Rows.{leaves_to_caller, leaves_program}

comes_behind : (functions : List Function) (a b : Configuration) (limit turns : ℕ) (written : List ℕ) (outcome : Outcome End) →
    Reaches functions a b →
    ComesTo functions b limit turns written outcome → ComesTo functions a limit turns written outcome
comes_behind functions a b limit turns written (Finished how) way f =
    record { last = f.last; leads = joins functions a b f.last way f.leads; within = f.within; output = f.output; ends = f.ends }
comes_behind functions a b limit turns written Going way f =
    record { last = f.last; leads = joins functions a b f.last way f.leads; past = f.past; within = f.within; output = f.output }

comes_some : (functions : List Function) (a b : Configuration) (limit turns : ℕ) (run : Option (Run End)) → Reaches functions a b →
    ComesToSome functions b limit turns run → ComesToSome functions a limit turns run
comes_some functions a b limit turns None way f = tt
comes_some functions a b limit turns (Some run) way f = comes_behind functions a b limit turns run.written run.outcome way f

-- what is met at the end of a way is met at its beginning
pub meets_behind : {functions : List Function} {a b : Configuration} {e : Expected} → Reaches functions a b → Meets functions b e →
    Meets functions a e
meets_behind {functions} {a} {b} {e} way m = record { by = comes_some functions a b e.limit e.turns e.run way m.by }

-- ---- steps in front

pub silent : {functions : List Function} {turns : ℕ} {written : List ℕ} {s t : State} {e : Expected} → step functions s ≡ quiet t →
    Meets functions (configuration turns written t) e → Meets functions (configuration turns written s) e
silent {functions} {turns} {written} {s} {t} {e} is m =
    meets_behind (steps_once functions (configuration turns written s) (configuration turns written t)
    (ap (after (configuration turns written s)) is ∙ ap (λ (n : ℕ). Some (configuration n (written ++ []) t)) (add-zero turns)
    ∙ ap (λ (o : List ℕ). Some (configuration turns o t)) (append-nil written))) m

pub writes : {functions : List Function} {turns : ℕ} {written bytes : List ℕ} {s t : State} {e : Expected} →
    step functions s ≡ Goes false bytes t →
    Meets functions (configuration turns (written ++ bytes) t) e → Meets functions (configuration turns written s) e
writes {functions} {turns} {written} {bytes} {s} {t} {e} is m =
    meets_behind (steps_once functions (configuration turns written s) (configuration turns (written ++ bytes) t)
    (ap (after (configuration turns written s)) is ∙ ap (λ (n : ℕ). Some (configuration n (written ++ bytes) t))
    (add-zero turns))) m

pub turned : {functions : List Function} {turns : ℕ} {written : List ℕ} {s t : State} {e : Expected} → step functions s ≡ turn t →
    Meets functions (configuration (turns + 1) written t) e → Meets functions (configuration turns written s) e
turned {functions} {turns} {written} {s} {t} {e} is m =
    meets_behind (steps_once functions (configuration turns written s) (configuration (turns + 1) written t)
    (ap (after (configuration turns written s)) is ∙ ap (λ (o : List ℕ). Some (configuration (turns + 1) o t))
    (append-nil written))) m

pub gives : {A : Type 0} {functions : List Function} {turns : ℕ} {written : List ℕ} {s : State} {e : Expected}
    {result : Result A StuckState} {a : A}
    (next : A → State) →
    step functions s ≡ given result next → result ≡ Ok a → Meets functions (configuration turns written (next a)) e →
    Meets functions (configuration turns written s) e
gives {A} {functions} {turns} {written} {s} {e} {result} {a} next is value m =
    silent (is ∙ ap (λ (r : Result A StuckState). given r next) value) m

pub returns : {functions : List Function} {turns : ℕ} {written : List ℕ} {s : State} {e : Expected} (v w : Variables)
    (lines : List CodeLine) (braces : List Brace) →
    step functions s ≡ leaving w → w.callers ≡ frame_of v lines braces ∷ v.callers →
    Meets functions (configuration turns written (at (returned v w) lines braces)) e →
    Meets functions (configuration turns written s) e
returns v w lines braces is callers m = silent (is ∙ leaves_to_caller v w lines braces callers) m

pub step_laws : (A : Type 0) (functions : List Function) (turns : ℕ) (written : List ℕ) (s : State) (e : Expected) →
    StepLaws A functions turns written s e
step_laws A functions turns written s e = record {
  silent = λ t is m. silent is m;
  writes = λ t bytes is m. writes is m;
  turned = λ t is m. turned is m;
  gives = λ result a next is value m. gives next is value m;
  returns = λ v w lines braces is callers m. returns v w lines braces is callers m;
}

-- ---- ends

pub met : {functions : List Function} {start : Configuration} {e : Expected} {written : List ℕ} {outcome : Outcome End} →
    e.run ≡ Some (record { written = written; outcome = outcome }) → ComesTo functions start e.limit e.turns written outcome →
    Meets functions start e
met {functions} {start} {e} is f = record {
  by = subst (λ (r : Option (Run End)). ComesToSome functions start e.limit e.turns r)
      (sym is) f;
}

pub ends : {functions : List Function} {turns : ℕ} {written : List ℕ} {s : State} {e : Expected} {how : End} →
    step functions s ≡ Ends how →
    e.run ≡ Some (record { written = written; outcome = Finished how }) → turns ≤ e.turns →
    Meets functions (configuration turns written s) e
ends {functions} {turns} {written} {s} {e} {how} last is within =
    met {outcome = Finished how} is (record {
      last = configuration turns written s;
      leads =
          stays functions (configuration turns written s);
      within = within;
      output = refl;
      ends = last;
    })

pub leaves : {functions : List Function} {turns : ℕ} {written : List ℕ} {s : State} {e : Expected} (w : Variables) →
    step functions s ≡ leaving w → w.callers ≡ [] →
    e.run ≡ Some (record { written = written; outcome = Finished (Comes Ended) }) → turns ≤ e.turns →
    Meets functions (configuration turns written s) e
leaves w last callers is within = ends (last ∙ leaves_program w callers) is within

pub passes : {functions : List Function} {turns : ℕ} {written : List ℕ} {s : State} {e : Expected} →
    e.run ≡ Some (record { written = written; outcome = Going }) → e.limit < turns → turns ≤ e.turns →
    Meets functions (configuration turns written s) e
passes {functions} {turns} {written} {s} {e} is past within =
    met {outcome = Going} is (record {
      last = configuration turns written s;
      leads =
          stays functions (configuration turns written s);
      past = past;
      within = within;
      output = refl;
    })

pub anything : {functions : List Function} {start : Configuration} {e : Expected} → e.run ≡ None → Meets functions start e
anything {functions} {start} {e} is = record {
  by = subst (λ (r : Option (Run End)). ComesToSome functions start e.limit e.turns r)
      (sym is) tt;
}

pub told_as : {functions : List Function} {start : Configuration} {e f : Expected} → e ≡ f → Meets functions start f →
    Meets functions start e
told_as {functions} {start} is m = subst (Meets functions start) (sym is) m

pub end_laws : (functions : List Function) (turns : ℕ) (written : List ℕ) (s : State) (e : Expected) →
    EndLaws functions turns written s e
end_laws functions turns written s e = record {
  ends = λ how last is within. ends last is within;
  leaves = λ w last callers is within. leaves w last callers is within;
  passes = λ is past within. passes is past within;
  told_as = λ f is m. told_as is m;
  anything = λ is. anything is;
}
