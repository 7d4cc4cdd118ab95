-- A mask that is tested before all elements, and one that each turn tests for itself.
use Rattle.std.specs.Prelude.{◌≡◌, Bool, true, false, IsTrue, Option, Some, None, List, [], ◌∷◌, Result, Ok, Err}
use Rattle.a95_base.specs.Lists.{Every, Pairwise}
use Rattle.store_laws.specs.Store.{and_then, Evaluated, Statement, values, Keeps, IsStill}

-- a mask says of each turn whether it stores
abbrev pub Mask : (T S F : Type 0) → Type 0
Mask T S F = T → S → Result (Evaluated Bool S) F

-- the mask is tested at every turn
abbrev pub truths : {T S F : Type 0} → Mask T S F → List T → S → Result (Evaluated (List Bool) S) F
truths mask [] s = Ok (record { value = []; after = s })
truths mask (turn ∷ turns) s =
    and_then (mask turn s)
    (λ b. and_then (truths mask turns b.after) (λ bs. Ok (record { value = b.value ∷ bs.value; after = bs.after })))

-- the value of a turn whose mask is known
abbrev pub value_if : {T S V F : Type 0} → Statement T S V F → T → Bool → S → Result (Evaluated (Option V) S) F
value_if statement turn true s = and_then (statement.evaluate turn s) (λ e. Ok (record { value = Some e.value; after = e.after }))
value_if statement turn false s = Ok (record { value = None; after = s })

-- the values at the true turns
abbrev pub values_at : {T S V F : Type 0} → Statement T S V F → List T → List Bool → S → Result (Evaluated (List (Option V)) S) F
values_at statement [] bs s = Ok (record { value = []; after = s })
values_at statement (turn ∷ turns) [] s = Ok (record { value = []; after = s })
values_at statement (turn ∷ turns) (b ∷ bs) s =
    and_then (value_if statement turn b s)
    (λ e. and_then (values_at statement turns bs e.after) (λ es. Ok (record { value = e.value ∷ es.value; after = es.after })))

-- the mask comes first at every turn, and then the values at the true ones
abbrev pub masked : {T S V F : Type 0} → Mask T S F → Statement T S V F → List T → S → Result (Evaluated (List (Option V)) S) F
masked mask statement turns s = and_then (truths mask turns s) (λ bs. values_at statement turns bs.value bs.after)

abbrev pub store_if : {T S V F : Type 0} → Statement T S V F → T → Option V → S → S
store_if statement turn None s = s
store_if statement turn (Some v) s = statement.store turn v s

-- each turn tests the mask for itself, evaluates where it is true, and else stores nothing
abbrev pub guarded : {T S V F : Type 0} → Mask T S F → Statement T S V F → Statement T S (Option V) F
guarded mask statement = record {
  evaluate = λ turn s. and_then (mask turn s) (λ b. value_if statement turn b.value b.after);
  store = store_if statement;
}

-- the mask leaves the state alone
pub record IsStillMask {T S F : Type 0} (mask : Mask T S F) (Sound : S → Type 0) (turn : T) : Type 0 where
  pub after : (s : S) (b : Evaluated Bool S) → Sound s → mask turn s ≡ Ok b → b.after ≡ s

-- where a turn's evaluation stops the run, and the mask of a later turn would too, they do so alike
pub record StopsLikeMask {T S V F : Type 0} (mask : Mask T S F) (statement : Statement T S V F) (s : S)
    (turn later : T) : Type 0 where
  pub same : (stop other : F) → statement.evaluate turn s ≡ Err stop → mask later s ≡ Err other → stop ≡ other

-- all values of the guarded statement are those under the mask
abbrev pub IsMasked : {T S V F : Type 0} → Mask T S F → Statement T S V F → List T → S → Type 0
IsMasked mask statement turns s = values (guarded mask statement) turns s ≡ masked mask statement turns s

abbrev pub StillMaskInNest : (T S V F : Type 0) → Type 0
StillMaskInNest T S V F =
    (mask : Mask T S F) (statement : Statement T S V F) (sound : S → Bool) (turns : List T) (s : S) →
    Every (IsStillMask mask (λ s. IsTrue (sound s))) turns →
    Every (IsStill statement (λ s. IsTrue (sound s))) turns →
    Pairwise (StopsLikeMask mask statement s) turns →
    IsTrue (sound s) →
    IsMasked mask statement turns s

-- ---- a mask that never stops

-- the mask leaves the state alone, and never stops
pub record IsQuietMask {T S F : Type 0} (mask : Mask T S F) (Sound : S → Type 0) (turn : T) : Type 0 where
  pub looks : (s : S) → Sound s → (truth : Bool) × (mask turn s ≡ Ok (record { value = truth; after = s }))

-- the later turn's mask is the same before and after the turn's evaluation
pub record LeavesMask {T S V F : Type 0} (mask : Mask T S F) (statement : Statement T S V F) (Sound : S → Type 0)
    (turn later : T) : Type 0 where
  pub same : (s : S) (e : Evaluated V S) (truth : Bool) → Sound s → statement.evaluate turn s ≡ Ok e →
      mask later s ≡ Ok (record { value = truth; after = s }) →
      mask later e.after ≡ Ok (record { value = truth; after = e.after })

abbrev pub QuietMaskInNest : (T S V F : Type 0) → Type 0
QuietMaskInNest T S V F =
    (mask : Mask T S F) (statement : Statement T S V F) (sound : S → Bool) (may : T → V → Bool) (turns : List T) (s : S) →
    Every (Keeps statement (λ s. IsTrue (sound s)) (λ t v. IsTrue (may t v))) turns →
    Every (IsQuietMask mask (λ s. IsTrue (sound s))) turns →
    Pairwise (LeavesMask mask statement (λ s. IsTrue (sound s))) turns →
    IsTrue (sound s) →
    IsMasked mask statement turns s
