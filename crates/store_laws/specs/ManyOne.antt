-- The test whether a statement stores into one element twice: before all stores, or behind them.
use Rattle.std.specs.Prelude.{◌≡◌, ◌≢◌, ◌==◌, ◌||◌, ℕ, Bool, true, false, IsTrue, List, [], ◌∷◌, ◌++◌, Result, Ok, Err}
use Rattle.std.specs.List.{list_any}
use Rattle.a95_base.specs.Lists.{Every, Pairwise}
use Rattle.rank_shape.specs.Order.{Level, element_order_of}
use Rattle.rank_shape.specs.Shape.{IsPlace}
use Rattle.rank_shape.specs.Walk.{tour}
use Rattle.rank_shape.specs.declared.distance.Entry.{Entry}
use Rattle.store_laws.specs.Store.{and_then, Evaluated, Statement, direct, values, store_all, Keeps, Ignores, IsStill, StopsAlike}
use Rattle.store_laws.specs.Store.{Temporary, filling, store_kept, IsKeptApart, KeepsOther}
use Rattle.store_laws.specs.Legal.{IsTold, KeepsPlaces}

-- an element is among those
abbrev pub is_among : ℕ → List ℕ → Bool
is_among element = list_any (λ other. element == other)

abbrev pub stands_twice : List ℕ → Bool
stands_twice [] = false
stands_twice (element ∷ elements) = is_among element elements || stands_twice elements

-- the elements that turns store these values into; a turn may store into none, or into several
abbrev pub elements_of : {T V : Type 0} → (T → V → List ℕ) → List T → List V → List ℕ
elements_of elements [] vs = []
elements_of elements (turn ∷ turns) [] = []
elements_of elements (turn ∷ turns) (v ∷ vs) = elements turn v ++ elements_of elements turns vs

-- a test that stops the run
abbrev pub unless : {S F : Type 0} → Bool → F → S → Result S F
unless false fault s = Ok s
unless true fault s = Err fault

-- all values come first, then the test over all elements, and then the stores
abbrev pub tested : {T S V F : Type 0} → Statement T S V F → (T → V → List ℕ) → F → List T → S → Result S F
tested statement elements fault turns s =
    and_then (values statement turns s)
    (λ es. unless (stands_twice (elements_of elements turns es.value)) fault (store_all statement turns es.value es.after))

-- each value is stored at once, and the test comes last
abbrev pub tested_behind : {T S V F : Type 0} → Statement T S V F → (S → Bool) → F → List T → S → Result S F
tested_behind statement twice fault turns s = and_then (direct statement turns s) (λ stored. unless (twice stored) fault stored)

-- the first of two loops keeps each value in the temporary, the test comes next, and the second loop stores from it
abbrev pub tested_between : {T S V F : Type 0} → Statement T S V F → Temporary T S V → (S → Bool) → F → List T → S → Result S F
tested_between statement temporary twice fault turns s =
    and_then (direct (filling statement temporary) turns s)
    (λ filled. and_then (unless (twice filled) fault filled) (λ passed. Ok (store_kept statement temporary turns passed)))

-- what the state tells behind all stores is whether one of the elements stood twice
pub record TellsTwice {T S V F : Type 0} (statement : Statement T S V F) (elements : T → V → List ℕ) (twice : S → Bool)
    (turns : List T) (s : S) : Type 0 where
  pub told : (es : Evaluated (List V) S) → values statement turns s ≡ Ok es →
      twice (store_all statement turns es.value es.after) ≡ stands_twice (elements_of elements turns es.value)

-- ---- marks

-- a mark for each element, and whether one that had its mark was marked again
pub record Marks (S : Type 0) : Type 0 where
  pub marked : S → ℕ → Bool
  pub twice : S → Bool

-- a turn marks the elements that it stores into, and tells if one of them had its mark or stands twice there; its evaluation
-- leaves the marks alone
pub record KeepsMarks {T S V F : Type 0} (statement : Statement T S V F) (elements : T → V → List ℕ) (marks : Marks S)
    (Sound : S → Type 0) (May : T → V → Type 0) (turn : T) : Type 0 where
  pub marked : (v : V) (s : S) (other : ℕ) → Sound s → May turn v →
      marks.marked (statement.store turn v s) other ≡ (is_among other (elements turn v) || marks.marked s other)
  pub again : (v : V) (s : S) → Sound s → May turn v →
      marks.twice (statement.store turn v s)
      ≡ (list_any (marks.marked s) (elements turn v) || (stands_twice (elements turn v) || marks.twice s))
  pub left_marked : (s : S) (e : Evaluated V S) (other : ℕ) → Sound s → statement.evaluate turn s ≡ Ok e →
      marks.marked e.after other ≡ marks.marked s other
  pub left_twice : (s : S) (e : Evaluated V S) → Sound s → statement.evaluate turn s ≡ Ok e → marks.twice e.after ≡ marks.twice s

pub record IsUnmarked {S : Type 0} (marks : Marks S) (s : S) : Type 0 where
  pub marked : (element : ℕ) → marks.marked s element ≡ false
  pub twice : marks.twice s ≡ false

abbrev pub MarksTell : (T S V F : Type 0) → Type 0
MarksTell T S V F =
    (statement : Statement T S V F) (elements : T → V → List ℕ) (marks : Marks S) (sound : S → Bool) (may : T → V → Bool)
    (turns : List T) (s : S) →
    Every (Keeps statement (λ s. IsTrue (sound s)) (λ t v. IsTrue (may t v))) turns →
    Every (KeepsMarks statement elements marks (λ s. IsTrue (sound s)) (λ t v. IsTrue (may t v))) turns →
    IsUnmarked marks s →
    IsTrue (sound s) →
    TellsTwice statement elements marks.twice turns s

-- ---- the test behind

abbrev pub TestedBehind : (T S V F : Type 0) → Type 0
TestedBehind T S V F =
    (statement : Statement T S V F) (elements : T → V → List ℕ) (twice : S → Bool) (fault : F) (sound : S → Bool)
    (may : T → V → Bool) (turns : List T) (s : S) →
    Every (Keeps statement (λ s. IsTrue (sound s)) (λ t v. IsTrue (may t v))) turns →
    Pairwise (Ignores statement (λ s. IsTrue (sound s)) (λ t v. IsTrue (may t v))) turns →
    TellsTwice statement elements twice turns s →
    IsTrue (sound s) →
    tested_behind statement twice fault turns s ≡ tested statement elements fault turns s

-- the two stores may change places where no element stands twice among theirs
pub record CommutesApart {T S V F : Type 0} (statement : Statement T S V F) (elements : T → V → List ℕ) (Sound : S → Type 0)
    (May : T → V → Type 0) (turn other : T) : Type 0 where
  pub same : (v w : V) (s : S) → Sound s → May turn v → May other w →
      stands_twice (elements turn v ++ elements other w) ≡ false →
      statement.store turn v (statement.store other w s) ≡ statement.store other w (statement.store turn v s)

-- a statement whose turns may come in any order, once all are evaluated before any store, and no element stands twice
pub record IsFreeOnce {S V F : Type 0} (statement : Statement (List ℕ) S V F) (elements : List ℕ → V → List ℕ)
    (Sound : S → Type 0) (May : List ℕ → V → Type 0) (extents : List ℕ) (s : S) : Type 0 where
  pub still : (place : List ℕ) → IsPlace extents place → IsStill statement Sound place
  pub commutes : (place other : List ℕ) → IsPlace extents place → IsPlace extents other → place ≢ other →
      CommutesApart statement elements Sound May place other
  pub stops_alike : (place other : List ℕ) → IsPlace extents place → IsPlace extents other → StopsAlike statement s place other

abbrev pub TestedBehindInLegalOrder : (S V F : Type 0) → ℕ → List Level → List ℕ → List (List Entry) → Type 0
TestedBehindInLegalOrder S V F rank order extents distances =
    (statement : Statement (List ℕ) S V F) (elements : List ℕ → V → List ℕ) (twice : S → Bool) (fault : F) (sound : S → Bool)
    (may : List ℕ → V → Bool) (s : S) →
    IsTold statement (λ s. IsTrue (sound s)) (λ t v. IsTrue (may t v)) extents distances →
    KeepsPlaces statement (λ s. IsTrue (sound s)) (λ t v. IsTrue (may t v)) extents →
    IsFreeOnce statement elements (λ s. IsTrue (sound s)) (λ t v. IsTrue (may t v)) extents s →
    TellsTwice statement elements twice (tour order extents) s →
    IsTrue (sound s) →
    tested_behind statement twice fault (tour order extents) s
    ≡ tested statement elements fault (tour (element_order_of rank) extents) s

-- ---- the test between two loops

abbrev pub TestedBetween : (T S V F : Type 0) → Type 0
TestedBetween T S V F =
    (statement : Statement T S V F) (temporary : Temporary T S V) (elements : T → V → List ℕ) (twice : S → Bool) (fault : F)
    (sound : S → Bool) (may : T → V → Bool) (turns : List T) (s : S) →
    IsKeptApart statement temporary (λ s. IsTrue (sound s)) (λ t v. IsTrue (may t v)) →
    Every (Keeps statement (λ s. IsTrue (sound s)) (λ t v. IsTrue (may t v))) turns →
    Every (Keeps (filling statement temporary) (λ s. IsTrue (sound s)) (λ t v. IsTrue (may t v))) turns →
    Pairwise (Ignores (filling statement temporary) (λ s. IsTrue (sound s)) (λ t v. IsTrue (may t v))) turns →
    Pairwise (KeepsOther temporary (λ s. IsTrue (sound s)) (λ t v. IsTrue (may t v))) turns →
    TellsTwice (filling statement temporary) elements twice turns s →
    IsTrue (sound s) →
    tested_between statement temporary twice fault turns s
    ≡ and_then (values statement turns s)
    (λ es. unless (stands_twice (elements_of elements turns es.value)) fault
    (store_all (filling statement temporary) turns es.value (store_all statement turns es.value es.after)))
