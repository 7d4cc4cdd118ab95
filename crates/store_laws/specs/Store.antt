-- A statement that stores a value in each of its turns: array assignment, WHERE and FORALL alike. A turn first evaluates its
-- value, which may change the state, as a call does, or stop the run by a fault or since no turn is left.
use Rattle.std.specs.Prelude.{◌≡◌, List, [], ◌∷◌, Result, Ok, Err}

-- what follows a result, unless that stops the run
abbrev pub and_then : {A B F : Type 0} → Result A F → (A → Result B F) → Result B F
and_then (Ok a) go = go a
and_then (Err stop) go = Err stop

-- the value of a turn, and the state after its evaluation
pub record Evaluated (V S : Type 0) : Type 0 where
  pub value : V
  pub after : S

pub record Statement (T S V F : Type 0) : Type 0 where
  pub evaluate : T → S → Result (Evaluated V S) F
  pub store : T → V → S → S

-- each value is stored at once
abbrev pub direct : {T S V F : Type 0} → Statement T S V F → List T → S → Result S F
direct statement [] s = Ok s
direct statement (turn ∷ turns) s =
    and_then (statement.evaluate turn s) (λ e. direct statement turns (statement.store turn e.value e.after))

abbrev pub values : {T S V F : Type 0} → Statement T S V F → List T → S → Result (Evaluated (List V) S) F
values statement [] s = Ok (record { value = []; after = s })
values statement (turn ∷ turns) s =
    and_then (statement.evaluate turn s)
    (λ e. and_then (values statement turns e.after) (λ es. Ok (record { value = e.value ∷ es.value; after = es.after })))

abbrev pub store_all : {T S V F : Type 0} → Statement T S V F → List T → List V → S → S
store_all statement [] vs s = s
store_all statement (turn ∷ turns) [] s = s
store_all statement (turn ∷ turns) (v ∷ vs) s = store_all statement turns vs (statement.store turn v s)

-- all values come before any store
abbrev pub deferred : {T S V F : Type 0} → Statement T S V F → List T → S → Result S F
deferred statement turns s = and_then (values statement turns s) (λ es. Ok (store_all statement turns es.value es.after))

-- a turn keeps the states sound and gives only values that it may store
pub record Keeps {T S V F : Type 0} (statement : Statement T S V F) (Sound : S → Type 0) (May : T → V → Type 0) (turn : T) : Type 0
  where
    pub evaluated : (s : S) (e : Evaluated V S) → Sound s → statement.evaluate turn s ≡ Ok e → Sound e.after × May turn e.value
    pub stored : (v : V) (s : S) → Sound s → May turn v → Sound (statement.store turn v s)

-- what the later turn evaluates is the same before and after the earlier one's store
pub record Ignores {T S V F : Type 0} (statement : Statement T S V F) (Sound : S → Type 0) (May : T → V → Type 0)
    (turn later : T) : Type 0 where
  pub same : (v : V) (s : S) → Sound s → May turn v → statement.evaluate later (statement.store turn v s)
      ≡ and_then (statement.evaluate later s) (λ e. Ok (record { value = e.value; after = statement.store turn v e.after }))

-- the evaluation leaves the state alone
pub record IsStill {T S V F : Type 0} (statement : Statement T S V F) (Sound : S → Type 0) (turn : T) : Type 0 where
  pub after : (s : S) (e : Evaluated V S) → Sound s → statement.evaluate turn s ≡ Ok e → e.after ≡ s

-- the two stores may change places
pub record Commutes {T S V F : Type 0} (statement : Statement T S V F) (Sound : S → Type 0) (May : T → V → Type 0)
    (turn other : T) : Type 0 where
  pub same : (v w : V) (s : S) → Sound s → May turn v → May other w → statement.store turn v (statement.store other w s)
      ≡ statement.store other w (statement.store turn v s)

-- where both turns stop the run, they do so alike
pub record StopsAlike {T S V F : Type 0} (statement : Statement T S V F) (s : S) (turn other : T) : Type 0 where
  pub same : (f g : F) → statement.evaluate turn s ≡ Err f → statement.evaluate other s ≡ Err g → f ≡ g

-- a temporary has a place of its own for the value of each turn
pub record Temporary (T S V : Type 0) : Type 0 where
  pub keep : T → V → S → S
  pub fetch : T → S → V

-- the first of two loops keeps each value in the temporary
abbrev pub filling : {T S V F : Type 0} → Statement T S V F → Temporary T S V → Statement T S V F
filling statement temporary = record { evaluate = statement.evaluate; store = temporary.keep }

-- the second stores from it
abbrev pub store_kept : {T S V F : Type 0} → Statement T S V F → Temporary T S V → List T → S → S
store_kept statement temporary [] s = s
store_kept statement temporary (turn ∷ turns) s = store_kept statement temporary turns
    (statement.store turn (temporary.fetch turn s) s)

abbrev pub through : {T S V F : Type 0} → Statement T S V F → Temporary T S V → List T → S → Result S F
through statement temporary turns s =
    and_then (direct (filling statement temporary) turns s) (λ filled. Ok (store_kept statement temporary turns filled))

-- the temporary gives back what it keeps, and no store touches it nor is touched by it
pub record IsKeptApart {T S V F : Type 0} (statement : Statement T S V F) (temporary : Temporary T S V) (Sound : S → Type 0)
    (May : T → V → Type 0) : Type 0 where
  pub given_back : (turn : T) (v : V) (s : S) → Sound s → May turn v → temporary.fetch turn (temporary.keep turn v s) ≡ v
  pub untouched : (turn other : T) (v : V) (s : S) → Sound s → May other v → temporary.fetch turn (statement.store other v s)
      ≡ temporary.fetch turn s
  pub aside : (turn other : T) (v w : V) (s : S) → Sound s → May turn v → May other w →
      statement.store turn v (temporary.keep other w s) ≡ temporary.keep other w (statement.store turn v s)

-- the two turns have different places in the temporary
pub record KeepsOther {T S V : Type 0} (temporary : Temporary T S V) (Sound : S → Type 0) (May : T → V → Type 0)
    (turn later : T) : Type 0 where
  pub same : (v : V) (s : S) → Sound s → May later v → temporary.fetch turn (temporary.keep later v s) ≡ temporary.fetch turn s
