-- Nests over one walk, one after the other, that are one nest with all their bodies.
use Rattle.std.specs.Prelude.{◌≡◌, ◌≢◌, ◌⊎◌, ◌==◌, ◌&&◌, ◌||◌, ℕ, Bool, IsTrue, List, Result}
use Rattle.a95_base.specs.Lists.{Every, Pairwise, Member}
use Rattle.rank_shape.specs.Order.{Level}
use Rattle.rank_shape.specs.Shape.{IsPlace}
use Rattle.rank_shape.specs.declared.distance.Entry.{Entry}
use Rattle.loop_order.specs.Apart.{IsApart}
use Rattle.store_laws.specs.Store.{and_then}
use Rattle.store_laws.specs.Loops.{run_each, nested, both, start_of, IsQuiet, KeepsSound, Passes}

-- ---- two bodies

-- the two turns lie one of the distances apart
pub record IsMeasured (distances : List (List Entry)) (turn other : List ℕ) : Type 0 where
  pub distance : List Entry
  pub listed : Member distances distance
  pub apart : IsApart distance turn other

-- the first body never stops, and of any two places, either the second's turn may come before the first's, or they lie one
-- of the distances apart, which go from the first to the second
pub record IsFusable {S F : Type 0} (first second : List ℕ → S → Result S F) (Sound : S → Type 0) (extents : List ℕ)
    (distances : List (List Entry)) : Type 0 where
  pub quiet : (place : List ℕ) → IsPlace extents place → IsQuiet first Sound place
  pub keeps : (place : List ℕ) → IsPlace extents place → KeepsSound (second place) Sound
  pub told : (place other : List ℕ) → IsPlace extents place → IsPlace extents other → place ≢ other →
      Passes (second other) first Sound place ⊎ IsMeasured distances place other

-- two nests, one after the other, do what the one nest with both bodies does
abbrev pub AreOneNest : {S F : Type 0} → (List ℕ → S → Result S F) → (List ℕ → S → Result S F) → List Level → List ℕ → S → Type 0
AreOneNest first second order extents s =
    and_then (nested first order extents (start_of extents) s) (nested second order extents (start_of extents))
    ≡ nested (both first second) order extents (start_of extents) s

abbrev pub FusedByDistances : (S F : Type 0) → List Level → List ℕ → List (List Entry) → Type 0
FusedByDistances S F order extents distances =
    (first second : List ℕ → S → Result S F) (sound : S → Bool) (s : S) →
    IsFusable first second (λ s. IsTrue (sound s)) extents distances →
    IsTrue (sound s) →
    AreOneNest first second order extents s

-- ---- accesses

-- in each of its turns a body reads one element of a variable, or stores into it
pub record Access : Type 0 where
  pub stores : Bool
  pub variable : ℕ
  pub element : List ℕ → ℕ

-- the two are of one variable, and one of them stores
abbrev pub conflict : Access → Access → Bool
conflict access other = (access.variable == other.variable) && (access.stores || other.stores)

-- accesses of the two that conflict are at one element only in turns that lie one of the distances apart
pub record AreMeasured (firsts seconds : List Access) (extents : List ℕ) (distances : List (List Entry)) : Type 0 where
  pub each : (access other : Access) → Member firsts access → Member seconds other → IsTrue (conflict access other) →
      (place later : List ℕ) → IsPlace extents place → IsPlace extents later → access.element place ≡ other.element later →
      IsMeasured distances place later

-- in these turns no accesses of the two that conflict are at one element
pub record IsAside (firsts seconds : List Access) (place other : List ℕ) : Type 0 where
  pub apart : (access later : Access) → Member firsts access → Member seconds later → IsTrue (conflict access later) →
      access.element place ≢ later.element other

-- the two bodies touch each other by these accesses alone
pub record AreAllOf {S F : Type 0} (firsts seconds : List Access) (first second : List ℕ → S → Result S F)
    (Sound : S → Type 0) (extents : List ℕ) : Type 0 where
  pub passes : (place other : List ℕ) → IsPlace extents place → IsPlace extents other → IsAside firsts seconds place other →
      Passes (second other) first Sound place

abbrev pub FusableByAccesses : (S F : Type 0) → Type 0
FusableByAccesses S F =
    (first second : List ℕ → S → Result S F) (sound : S → Bool) (extents : List ℕ) (distances : List (List Entry))
    (firsts seconds : List Access) →
    ((place : List ℕ) → IsPlace extents place → IsQuiet first (λ s. IsTrue (sound s)) place) →
    ((place : List ℕ) → IsPlace extents place → KeepsSound (second place) (λ s. IsTrue (sound s))) →
    AreMeasured firsts seconds extents distances →
    AreAllOf firsts seconds first second (λ s. IsTrue (sound s)) extents →
    IsFusable first second (λ s. IsTrue (sound s)) extents distances

-- the same as one law: the distances are those of each pair of accesses that conflict
abbrev pub FusedByAccesses : (S F : Type 0) → List Level → List ℕ → List (List Entry) → Type 0
FusedByAccesses S F order extents distances =
    (first second : List ℕ → S → Result S F) (sound : S → Bool) (firsts seconds : List Access) (s : S) →
    ((place : List ℕ) → IsPlace extents place → IsQuiet first (λ s. IsTrue (sound s)) place) →
    ((place : List ℕ) → IsPlace extents place → KeepsSound (second place) (λ s. IsTrue (sound s))) →
    AreMeasured firsts seconds extents distances →
    AreAllOf firsts seconds first second (λ s. IsTrue (sound s)) extents →
    IsTrue (sound s) →
    AreOneNest first second order extents s

-- ---- groups of any number

-- all bodies of a group, one after the other in one turn
abbrev pub all_of : {T S F : Type 0} → List (T → S → Result S F) → T → S → Result S F
all_of bodies turn = run_each (λ body. body turn) bodies

-- the loop of each body, one loop after the other
abbrev pub loop_each : {T S F : Type 0} → List (T → S → Result S F) → List T → S → Result S F
loop_each bodies turns = run_each (λ body. run_each body turns) bodies

-- the nest of each body, one nest after the other
abbrev pub nest_each : {S F : Type 0} → List (List ℕ → S → Result S F) → List Level → List ℕ → S → Result S F
nest_each bodies order extents = run_each (λ body. nested body order extents (start_of extents)) bodies

-- the loop of the first never stops, and each turn of the second passes the later turns of the first
pub record Fuses {T S F : Type 0} (Sound : S → Type 0) (turns : List T) (first second : T → S → Result S F) : Type 0 where
  pub quiet : Every (IsQuiet first Sound) turns
  pub passes : Pairwise (λ turn later. Passes (second turn) first Sound later) turns

-- a body made of two is quiet where both are, and lets pass what both let pass, and so does a step made of two
abbrev pub GroupIsQuiet : (T S F : Type 0) → Type 0
GroupIsQuiet T S F =
    (first second : T → S → Result S F) (sound : S → Bool) (turn : T) →
    IsQuiet first (λ s. IsTrue (sound s)) turn →
    IsQuiet second (λ s. IsTrue (sound s)) turn →
    IsQuiet (both first second) (λ s. IsTrue (sound s)) turn

abbrev pub GroupKeepsSound : (T S F : Type 0) → Type 0
GroupKeepsSound T S F =
    (first second : T → S → Result S F) (sound : S → Bool) (turn : T) →
    KeepsSound (first turn) (λ s. IsTrue (sound s)) →
    KeepsSound (second turn) (λ s. IsTrue (sound s)) →
    KeepsSound (both first second turn) (λ s. IsTrue (sound s))

abbrev pub GroupLetsPass : (T S F : Type 0) → Type 0
GroupLetsPass T S F =
    (first second : T → S → Result S F) (step : S → Result S F) (sound : S → Bool) (turn : T) →
    KeepsSound (first turn) (λ s. IsTrue (sound s)) →
    Passes step first (λ s. IsTrue (sound s)) turn →
    Passes step second (λ s. IsTrue (sound s)) turn →
    Passes step (both first second) (λ s. IsTrue (sound s)) turn

abbrev pub GroupPasses : (T S F : Type 0) → Type 0
GroupPasses T S F =
    (first second body : T → S → Result S F) (sound : S → Bool) (turn later : T) →
    KeepsSound (first turn) (λ s. IsTrue (sound s)) →
    Passes (first turn) body (λ s. IsTrue (sound s)) later →
    Passes (second turn) body (λ s. IsTrue (sound s)) later →
    Passes (both first second turn) body (λ s. IsTrue (sound s)) later

-- any number of loops over one walk are one, where each two of them are
abbrev pub GroupIsOneLoop : (T S F : Type 0) → Type 0
GroupIsOneLoop T S F =
    (bodies : List (T → S → Result S F)) (sound : S → Bool) (turns : List T) (s : S) →
    Every (λ body. Every (λ turn. KeepsSound (body turn) (λ s. IsTrue (sound s))) turns) bodies →
    Pairwise (Fuses (λ s. IsTrue (sound s)) turns) bodies →
    IsTrue (sound s) →
    loop_each bodies turns s ≡ run_each (all_of bodies) turns s

abbrev pub GroupIsOneNest : (S F : Type 0) → List Level → List ℕ → List (List Entry) → Type 0
GroupIsOneNest S F order extents distances =
    (bodies : List (List ℕ → S → Result S F)) (sound : S → Bool) (s : S) →
    Every (λ body. (place : List ℕ) → IsPlace extents place → KeepsSound (body place) (λ s. IsTrue (sound s))) bodies →
    Pairwise (λ first second. IsFusable first second (λ s. IsTrue (sound s)) extents distances) bodies →
    IsTrue (sound s) →
    nest_each bodies order extents s ≡ nested (all_of bodies) order extents (start_of extents) s
