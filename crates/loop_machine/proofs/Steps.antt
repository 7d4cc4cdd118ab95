-- Steps in a row, joined.
use Rattle.std.proofs.Common.{◌≡◌, ℕ, ◌+◌, ◌<◌, Bool, true, false, List, [], ◌++◌, Option, ap, subst, arith, append-nil}
use Rattle.std.proofs.KnownBytes.{Appends-nil, Appends-trans}
use Rattle.loop_tree.specs.declared.tree.Function.{Function}
use Rattle.loop_tree.specs.State.{State, Next, Goes}
use Rattle.loop_tree.specs.Machine.{step}
use Rattle.loop_tree.specs.Run.{configuration, count_turn, after, Reaches}
use Rattle.loop_tree.proofs.Runs.{stays, steps_once, joins}
use Rattle.loop_tree.proofs.Lessens.{left_over, Lessens, step_lessens}
use Rattle.loop_tree.proofs.Outcomes.{leads_moved}
use Rattle.loop_machine.specs.Steps.{ReachesSilently, Advances, Steps}

module _ (functions : List Function) where
  -- no step
  pub reaches_itself : (s : State) → ReachesSilently functions s 0 s
  reaches_itself s = stays functions (configuration 0 [] s)

  -- the way of a step
  pub reaches_by_step : (from to : State) (turn : Bool) (written : List ℕ) → step functions from ≡ Goes turn written to →
      Reaches functions (configuration 0 [] from) (configuration (count_turn turn) written to)
  reaches_by_step from to true written e =
      steps_once functions (configuration 0 [] from) (configuration 1 written to) (ap (after (configuration 0 [] from)) e)
  reaches_by_step from to false written e =
      steps_once functions (configuration 0 [] from) (configuration 0 written to) (ap (after (configuration 0 [] from)) e)

  -- ways in a row
  pub reaches_then : (from mid to : State) (m n : ℕ) (first more : List ℕ) →
      Reaches functions (configuration 0 [] from) (configuration m first mid) →
      Reaches functions (configuration 0 [] mid) (configuration n more to) →
      Reaches functions (configuration 0 [] from) (configuration (m + n) (first ++ more) to)
  reaches_then from mid to m n first more f g =
      let there = leads_moved functions m first (configuration 0 [] mid) (configuration n more to) g in
      let none : m + 0 ≡ m = omega arith in
      let counted : Reaches functions (configuration m (first ++ []) mid) (configuration (m + n) (first ++ more) to) =
      subst (λ (k : ℕ). Reaches functions (configuration k (first ++ []) mid) (configuration (m + n) (first ++ more) to)) none
      there in
      joins functions (configuration 0 [] from) (configuration m first mid) (configuration (m + n) (first ++ more) to) f
      (subst (λ (o : List ℕ). Reaches functions (configuration m o mid) (configuration (m + n) (first ++ more) to))
      (append-nil first) counted)

  -- one step more that writes nothing
  pub step_on : (from mid to : State) (turns : ℕ) (turn : Bool) → ReachesSilently functions from turns mid →
      step functions mid ≡ Goes turn [] to → ReachesSilently functions from (turns + count_turn turn) to
  step_on from mid to turns turn f e = reaches_then from mid to turns (count_turn turn) [] [] f (reaches_by_step mid to turn [] e)

  -- one that begins no turn
  pub quiet_on : (from mid to : State) (turns : ℕ) → ReachesSilently functions from turns mid →
      step functions mid ≡ Goes false [] to → ReachesSilently functions from turns to
  quiet_on from mid to turns f e =
      let same : turns + 0 ≡ turns = omega arith in
      subst (λ (k : ℕ). ReachesSilently functions from k to) same (step_on from mid to turns false f e)

  -- ---- what was written was appended

  pub advances_none : (s : State) (bytes : Option (List ℕ)) → Advances functions s 0 s bytes bytes
  advances_none s bytes = record { written = []; reaches = reaches_itself s; appended = Appends-nil bytes }

  pub advances_then : (from mid to : State) (m n : ℕ) (old between new : Option (List ℕ)) →
      Advances functions from m mid old between → Advances functions mid n to between new →
      Advances functions from (m + n) to old new
  advances_then from mid to m n old between new f g =
      record {
        written = f.written ++ g.written;
        reaches = reaches_then from mid to m n f.written g.written f.reaches g.reaches;
        appended = Appends-trans old between new f.written g.written f.appended g.appended;
      }

  pub advances_silently : (from mid to : State) (m n : ℕ) (old new : Option (List ℕ)) → Advances functions from m mid old new →
      ReachesSilently functions mid n to → Advances functions from (m + n) to old new
  advances_silently from mid to m n old new f g =
      advances_then from mid to m n old new new f (record { written = []; reaches = g; appended = Appends-nil new })

  -- a step that writes nothing
  pub silent_step : (from to : State) (turn : Bool) (bytes : Option (List ℕ)) → step functions from ≡ Goes turn [] to →
      Steps functions from turn to bytes bytes
  silent_step from to turn bytes e = record { written = []; stepped = e; appended = Appends-nil bytes }

  pub then_step : (from mid to : State) (turn : Bool) (old between new : Option (List ℕ)) →
      Advances functions from 0 mid old between → Steps functions mid turn to between new →
      Advances functions from (count_turn turn) to old new
  then_step from mid to turn old between new f s =
      let same : 0 + count_turn turn ≡ count_turn turn = omega arith in
      subst (λ (k : ℕ). Advances functions from k to old new) same
      (advances_then from mid to 0 (count_turn turn) old between new f
      (record { written = s.written; reaches = reaches_by_step mid to turn s.written s.stepped; appended = s.appended }))

  pub step_lessens_left : (from to : State) (old new : Option (List ℕ)) → Steps functions from false to old new →
      left_over to < left_over from
  step_lessens_left from to old new s =
      subst (λ (next : Next). Lessens (left_over from) next) s.stepped (step_lessens functions from)
