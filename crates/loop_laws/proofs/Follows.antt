-- From forward at every number of turns to both directions: the run of a program is one, so where it is known to come it
-- comes, and nothing else does.
use Rattle.std.proofs.Common.{◌≡◌, ℕ, ◌+◌, ◌≤◌, List, [], ◌++◌, sym, ◌∙◌, ap, inl, inr, arith, append-nil, append_assoc}
use Rattle.a95_base.specs.Outcome.{Stop, Outcome, Finished, Going, Run, IsPrefix}
use Rattle.loop_tree.specs.declared.stuck.StuckState.{StuckState}
use Rattle.loop_tree.specs.declared.tree.Function.{Function}
use Rattle.loop_tree.specs.State.{End, Comes, Stuck}
use Rattle.loop_tree.specs.Run.{Configuration, configuration, Reaches, FinishesAt, GoesOnAt, Runs, start}
use Rattle.loop_tree.proofs.Runs.{linear, last, not_past, grows}
use Rattle.loop_tree.proofs.Outcomes.{one_outcome, end_stays, output_grows}
use Rattle.loop_tree.proofs.Exists.{some_outcome}
use Rattle.loop_laws.specs.Meets.{GoesPast, ComesTo}
use Rattle.loop_laws.specs.Follows.{DoesForward, DoesBackward, as_program, FollowsBothWays, HasDone, WithMoreTurns}

-- ---- runs that begin more turns than the limit

-- what is written at a place begins what is written further on
prefix_along : (functions : List Function) (a b : Configuration) → Reaches functions a b → IsPrefix a.written b.written
prefix_along functions a b way = let g = grows functions a b way in record { more = g.more; is = g.written }

prefix_same : (a b : Configuration) → b ≡ a → IsPrefix a.written b.written
prefix_same a b same = record { more = []; is = ap (λ (c : Configuration). c.written) same ∙ sym (append-nil a.written) }

between : (a b : Configuration) (written other : List ℕ) → a.written ≡ written → b.written ≡ other → IsPrefix a.written b.written →
    IsPrefix written other
between a b written other e f p = record { more = p.more; is = sym f ∙ (p.is ∙ ap (λ t. t ++ p.more) e) }

-- no run with fewer turns has ended there
not_ended : (functions : List Function) (begin : Configuration) (limit turns fewer : ℕ) (written other : List ℕ) (how : End) →
    fewer ≤ limit → GoesPast functions begin limit turns written → FinishesAt functions begin fewer other how → ⊥
not_ended functions begin limit turns fewer written other how h g f =
    elim (linear functions begin g.last f.last g.leads f.leads) [
      | inl way ↦ let more = grows functions g.last f.last way in omega (arith, more.turns, g.past, f.within)
      | inr way ↦ let same = last functions f.last g.last how f.ends way in omega
          (arith, ap (λ (c : Configuration). c.turns) same, g.past, f.within)
    ]

-- one with more turns has written all that is written there, and more
past_begins : (functions : List Function) (begin : Configuration) (limit turns more : ℕ) (written other : List ℕ)
    (outcome : Outcome End) → turns ≤ more → GoesPast functions begin limit turns written →
    Runs functions begin more other outcome → IsPrefix written other
past_begins functions begin limit turns more written other (Finished how) h g f =
    between g.last f.last written other g.output f.output (elim (linear functions begin g.last f.last g.leads f.leads) [
      | inl way ↦ prefix_along functions g.last f.last way
      | inr way ↦ prefix_same g.last f.last (sym (last functions f.last g.last how f.ends way))
    ])
past_begins functions begin limit turns more written other Going h g f =
    between g.last f.last written other g.output f.output (elim (linear functions begin g.last f.last g.leads f.leads) [
      | inl way ↦ prefix_along functions g.last f.last way
      | inr way ↦ let few : g.last.turns ≤ f.last.turns =
          omega (arith, g.within, f.spent) in prefix_same g.last f.last (sym (not_past functions f.last g.last f.waits few way))
    ])

-- one that goes on with fewer turns has written what begins it
goes_before : (functions : List Function) (begin : Configuration) (limit turns : ℕ) (written other : List ℕ) →
    GoesPast functions begin limit turns written → GoesOnAt functions begin limit other → IsPrefix other written
goes_before functions begin limit turns written other g f =
    between f.last g.last other written f.output g.output (elim (linear functions begin f.last g.last f.leads g.leads) [
      | inl way ↦ prefix_along functions f.last g.last way
      | inr way ↦ let more = grows functions g.last f.last way in absurd (omega (arith, more.turns, g.past, f.spent))
    ])

-- ---- the two directions, for one run of the source

does_forward : (functions : List Function) (begin : Configuration) (limit turns bound : ℕ) (written : List ℕ)
    (source : Outcome Stop) → turns ≤ bound → ComesTo functions begin limit turns written (as_program source) →
    DoesForward written source (λ other outcome. Runs functions begin bound other outcome)
does_forward functions begin limit turns bound written (Finished stop) h m =
    end_stays functions begin turns bound written (Comes stop) h m
does_forward functions begin limit turns bound written Going h m =
    λ whole outcome runs. past_begins functions begin limit turns bound written whole outcome h m runs

-- of two ends one is the other, however many turns either had
one_end : (functions : List Function) (begin : Configuration) (m n : ℕ) (written other : List ℕ) (how second : End) →
    FinishesAt functions begin m written how → FinishesAt functions begin n other second →
    (written ≡ other) × (◌≡◌ {A = Outcome End} (Finished how) (Finished second))
one_end functions begin m n written other how second f g =
    one_outcome functions begin (m + n) written other (Finished how) (Finished second)
    (end_stays functions begin m (m + n) written how (omega arith) f)
    (end_stays functions begin n (m + n) other second (omega arith) g)

-- whatever the program comes to where its source ended
behind_end : (functions : List Function) (begin : Configuration) (turns limit : ℕ) (written other : List ℕ) (stop : Stop)
    (outcome : Outcome End) → FinishesAt functions begin turns written (Comes stop) →
    Runs functions begin limit other outcome → DoesBackward (record { written = written; outcome = Finished stop }) other outcome
behind_end functions begin turns limit written other stop (Finished (Comes second)) f g =
    let same = one_end functions begin turns limit written other (Comes stop) (Comes second) f g in
    same_run same.0 same.1
  where
    same_run : written ≡ other → ◌≡◌ {A = Outcome End} (Finished (Comes stop)) (Finished (Comes second)) →
        ◌≡◌ {A = Run Stop} (record { written = written; outcome = Finished stop })
        (record { written = other; outcome = Finished second })
    same_run e f = let stops : stop ≡ second = cc in cc
behind_end functions begin turns limit written other stop (Finished (Stuck why)) f g = tt
behind_end functions begin turns limit written other stop Going f g =
    output_grows functions begin limit (limit + turns) other written Going (Finished (Comes stop)) (omega arith) g
    (end_stays functions begin turns (limit + turns) written (Comes stop) (omega arith) f)

does_backward : (functions : List Function) (begin : Configuration) (turns limit : ℕ) (written other : List ℕ)
    (source : Outcome Stop) (outcome : Outcome End) → ComesTo functions begin limit turns written (as_program source) →
    Runs functions begin limit other outcome → DoesBackward (record { written = written; outcome = source }) other outcome
does_backward functions begin turns limit written other (Finished stop) outcome m runs =
    behind_end functions begin turns limit written other stop outcome m runs
does_backward functions begin turns limit written other Going (Finished (Comes stop)) m runs =
    absurd (not_ended functions begin limit turns limit written other (Comes stop) (omega arith) m runs)
does_backward functions begin turns limit written other Going (Finished (Stuck why)) m runs = tt
does_backward functions begin turns limit written other Going Going m runs =
    goes_before functions begin limit turns written other m runs

not_stuck : (functions : List Function) (begin : Configuration) (turns limit : ℕ) (written other : List ℕ) (source : Outcome Stop)
    (why : StuckState) → ComesTo functions begin limit turns written (as_program source) →
    FinishesAt functions begin limit other (Stuck why) → ⊥
not_stuck functions begin turns limit written other (Finished stop) why m runs =
    let same = one_end functions begin turns limit written other (Comes stop) (Stuck why) m runs in
    apart same.1
  where
    apart : ◌≡◌ {A = Outcome End} (Finished (Comes stop)) (Finished (Stuck why)) → ⊥
    apart e = absurd cc
not_stuck functions begin turns limit written other Going why m runs =
    not_ended functions begin limit turns limit written other (Stuck why) (omega arith) m runs

-- ---- for every input and number of turns

pub follows_both_ways : FollowsBothWays
follows_both_ways source needs bound program s within = record {
  forward = λ input turns. let run = source input turns in
      does_forward program (configuration 0 [] (start program input)) turns (needs input turns)
      (bound turns) run.written run.outcome (within input turns) (s.meets input turns).by;
  backward = λ input turns written outcome runs. let run = source input turns in
      does_backward program (configuration 0 [] (start program input))
      (needs input turns) turns run.written written run.outcome outcome (s.meets input turns).by runs;
  never_stuck = λ input turns written why runs. let run = source input turns in
      not_stuck program (configuration 0 [] (start program input)) (needs input turns) turns run.written written run.outcome why
      (s.meets input turns).by runs;
}

-- ---- more turns than the bound

prefix_joins : (a b c : List ℕ) → IsPrefix a b → IsPrefix b c → IsPrefix a c
prefix_joins a b c f g = record {
  more = f.more ++ g.more;
  is = g.is ∙ ap (λ (x : List ℕ). x ++ g.more) f.is
      ∙ append_assoc a f.more g.more;
}

has_done : (functions : List Function) (begin : Configuration) (few more : ℕ) (written whole : List ℕ) (source : Outcome Stop)
    (outcome : Outcome End) → begin.turns ≤ few → few ≤ more →
    DoesForward written source (λ other out. Runs functions begin few other out) → Runs functions begin more whole outcome →
    HasDone written source whole outcome
has_done functions begin few more written whole (Finished stop) outcome some h does runs =
    one_outcome functions begin more whole written outcome (Finished (Comes stop)) runs
    (end_stays functions begin few more written (Comes stop) h does)
has_done functions begin few more written whole Going outcome some h does runs =
    let before = some_outcome functions begin few some in
    prefix_joins written before.written whole (does before.written before.outcome before.runs)
    (output_grows functions begin few more before.written whole before.outcome outcome h before.runs runs)

pub with_more_turns : WithMoreTurns
with_more_turns source bound program follows input turns more h written outcome runs =
    has_done program (configuration 0 [] (start program input)) (bound turns) more (source input turns).written written
    (source input turns).outcome outcome (omega arith) h (follows.forward input turns) runs
