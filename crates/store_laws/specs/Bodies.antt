-- The nests of a statement as runs of bodies, and when such bodies are quiet and pass one another.
use Rattle.std.specs.Prelude.{◌≡◌, Bool, IsTrue, List, [], ◌∷◌, ◌++◌, Result, Ok}
use Rattle.store_laws.specs.Store.{and_then, Evaluated, Statement, direct, deferred, Keeps, Temporary, filling, through}
use Rattle.store_laws.specs.Loops.{run_each, IsQuiet, KeepsSound, Passes}

-- ---- bodies

-- a turn of a nest that stores at once
abbrev pub at_once : {T S V F : Type 0} → Statement T S V F → T → S → Result S F
at_once statement turn s = and_then (statement.evaluate turn s) (λ e. Ok (statement.store turn e.value e.after))

-- a turn of the nest that stores from a temporary
abbrev pub from_kept : {T S V F : Type 0} → Statement T S V F → Temporary T S V → T → S → Result S F
from_kept statement temporary turn s = Ok (statement.store turn (temporary.fetch turn s) s)

-- a turn that puts its value behind those that have been taken
abbrev pub gather : {T S V F : Type 0} → Statement T S V F → T → Evaluated (List V) S → Result (Evaluated (List V) S) F
gather statement turn es =
    and_then (statement.evaluate turn es.after)
    (λ e. Ok (record { value = es.value ++ e.value ∷ []; after = e.after }))

-- a turn that stores the first of the values
abbrev pub store_first : {T S V F : Type 0} → Statement T S V F → T → List V → S → Evaluated (List V) S
store_first statement turn [] s = record { value = []; after = s }
store_first statement turn (v ∷ vs) s = record { value = vs; after = statement.store turn v s }

-- ---- forms of a statement

abbrev pub DirectIsRun : (T S V F : Type 0) → Type 0
DirectIsRun T S V F =
    (statement : Statement T S V F) (turns : List T) (s : S) →
    direct statement turns s ≡ run_each (at_once statement) turns s

abbrev pub DeferredIsTwoRuns : (T S V F : Type 0) → Type 0
DeferredIsTwoRuns T S V F =
    (statement : Statement T S V F) (turns : List T) (s : S) →
    deferred statement turns s
    ≡ and_then
    (and_then (run_each (gather statement) turns (record { value = []; after = s }))
    (run_each (λ turn es. Ok (store_first statement turn es.value es.after)) turns))
    (λ es. Ok es.after)

abbrev pub ThroughIsTwoRuns : (T S V F : Type 0) → Type 0
ThroughIsTwoRuns T S V F =
    (statement : Statement T S V F) (temporary : Temporary T S V) (turns : List T) (s : S) →
    through statement temporary turns s
    ≡ and_then (run_each (at_once (filling statement temporary)) turns s) (run_each (from_kept statement temporary) turns)

-- ---- what bodies keep

-- the evaluation never stops the run
pub record NeverStops {T S V F : Type 0} (statement : Statement T S V F) (Sound : S → Type 0) (turn : T) : Type 0 where
  pub gives : (s : S) → Sound s → (e : Evaluated V S) × (statement.evaluate turn s ≡ Ok e)

abbrev pub BodyIsQuiet : (T S V F : Type 0) → Type 0
BodyIsQuiet T S V F =
    (statement : Statement T S V F) (sound : S → Bool) (may : T → V → Bool) (turn : T) →
    Keeps statement (λ s. IsTrue (sound s)) (λ t v. IsTrue (may t v)) turn →
    NeverStops statement (λ s. IsTrue (sound s)) turn →
    IsQuiet (at_once statement) (λ s. IsTrue (sound s)) turn

abbrev pub BodyKeepsSound : (T S V F : Type 0) → Type 0
BodyKeepsSound T S V F =
    (statement : Statement T S V F) (sound : S → Bool) (may : T → V → Bool) (turn : T) →
    Keeps statement (λ s. IsTrue (sound s)) (λ t v. IsTrue (may t v)) turn →
    KeepsSound (at_once statement turn) (λ s. IsTrue (sound s))

-- the values of two turns, each of its own statement: the one's first, or the other's
abbrev pub pair_of : {V W S F : Type 0} → V → W → S → Result (Evaluated (V × W) S) F
pair_of v w s = Ok (record { value = (v, w); after = s })

abbrev pub turn_first : {T S V W F : Type 0} → Statement T S V F → Statement T S W F → T → T → S → Result (Evaluated (V × W) S) F
turn_first statement other turn later s =
    and_then (statement.evaluate turn s)
    (λ e. and_then (other.evaluate later e.after) (λ d. pair_of e.value d.value d.after))

abbrev pub later_first : {T S V W F : Type 0} → Statement T S V F → Statement T S W F → T → T → S → Result (Evaluated (V × W) S) F
later_first statement other turn later s =
    and_then (other.evaluate later s)
    (λ d. and_then (statement.evaluate turn d.after) (λ e. pair_of e.value d.value e.after))

-- neither of the two turns looks at what the other stores, nor stores into the same
pub record AreApart {T S V W F : Type 0} (statement : Statement T S V F) (other : Statement T S W F) (Sound : S → Type 0)
    (May : T → V → Type 0) (Might : T → W → Type 0) (turn later : T) : Type 0 where
  pub evaluated : (s : S) → Sound s → turn_first statement other turn later s ≡ later_first statement other turn later s
  pub ignores : (w : W) (s : S) → Sound s → Might later w →
      statement.evaluate turn (other.store later w s)
      ≡ and_then (statement.evaluate turn s) (λ e. Ok (record { value = e.value; after = other.store later w e.after }))
  pub ignored : (v : V) (s : S) → Sound s → May turn v →
      other.evaluate later (statement.store turn v s)
      ≡ and_then (other.evaluate later s) (λ d. Ok (record { value = d.value; after = statement.store turn v d.after }))
  pub commutes : (v : V) (w : W) (s : S) → Sound s → May turn v → Might later w →
      statement.store turn v (other.store later w s) ≡ other.store later w (statement.store turn v s)

abbrev pub BodiesPass : (T S V W F : Type 0) → Type 0
BodiesPass T S V W F =
    (statement : Statement T S V F) (other : Statement T S W F) (sound : S → Bool) (may : T → V → Bool) (might : T → W → Bool)
    (turn later : T) →
    Keeps statement (λ s. IsTrue (sound s)) (λ t v. IsTrue (may t v)) turn →
    Keeps other (λ s. IsTrue (sound s)) (λ t w. IsTrue (might t w)) later →
    AreApart statement other (λ s. IsTrue (sound s)) (λ t v. IsTrue (may t v)) (λ t w. IsTrue (might t w)) turn later →
    Passes (at_once statement turn) (at_once other) (λ s. IsTrue (sound s)) later
