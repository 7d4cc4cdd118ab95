-- A step of the nests beside a step of the source: both come to values that are related, in the same state of the source, or both
-- halt alike, and have written the same.
use Rattle.std.proofs.Common.{◌≡◌, refl, subst, List, []}
use Rattle.std.specs.Prelude.{Result, Ok, Err}
use Rattle.a95_base.specs.declared.scalar.Scalar.{Scalar}
use Rattle.a95_base.specs.Steps.{Ran, pure, stop, behind as goes_on, ◌>>=◌, ◌>>◌}
use Rattle.array_meaning.specs.State as source
use Rattle.array_meaning.specs.State.{State}
use Rattle.array_meaning.specs.Control.{Flow, Next, Exits, Cycles, Returns, behind}
use Rattle.nest_tree.specs.Plain.{Statement, Statements, no_statement, statement, joined}
use Rattle.nest_tree.specs.State.{NestState, Halt, By, Stray, Step}
use Rattle.nest_tree.specs.Statements.{Caller, acts, all_act}

abbrev pub AgreeBy : {A B : Type 0} → (A → B → NestState → Type 0) → Result A Halt → NestState → Result B source.Halt → State
    → Type 0
AgreeBy R (Ok a) n (Ok b) s = (n.cells.plain ≡ s) × R a b n
AgreeBy R (Err (By h)) n (Err h') s = (h ≡ h') × (n.cells.plain.written ≡ s.written)
AgreeBy R came n came' s = ⊥

pub record Agrees {A B : Type 0} (R : A → B → NestState → Type 0) (r : Ran Halt NestState A) (q : Ran source.Halt State B) : Type
    0 where
  pub by : AgreeBy R r.came r.after q.came q.after

module _ {A B A' B' : Type 0} (R : A → B → NestState → Type 0) (R' : A' → B' → NestState → Type 0) where
  by_then : (f : A → Step A') (g : B → source.Step B') (came : Result A Halt) (n : NestState) (came' : Result B source.Halt)
      (s : State)
      → AgreeBy R came n came' s
      → ((a : A) (b : B) (n : NestState) → R a b n → Agrees R' (f a n) (g b n.cells.plain))
      → Agrees R' (goes_on f came n) (goes_on g came' s)
  unfolding goes_on
  by_then f g (Ok a) n (Ok b) s h k = subst (λ p. Agrees R' (f a n) (g b p)) h.0 (k a b n h.1)
  by_then f g (Ok a) n (Err e) s h k = absurd h
  by_then f g (Err (By e)) n (Ok b) s h k = absurd h
  by_then f g (Err (By e)) n (Err e') s h k = record { by = h }
  by_then f g (Err Stray) n (Ok b) s h k = absurd h
  by_then f g (Err Stray) n (Err e') s h k = absurd h

  -- one step behind another
  pub agrees_then : (m : Step A) (q : source.Step B) (f : A → Step A') (g : B → source.Step B') (n : NestState) (s : State)
      → Agrees R (m n) (q s)
      → ((a : A) (b : B) (n : NestState) → R a b n → Agrees R' (f a n) (g b n.cells.plain))
      → Agrees R' ((m >>= f) n) ((q >>= g) s)
  unfolding ◌>>=◌
  agrees_then m q f g n s h k = by_then f g (m n).came (m n).after (q s).came (q s).after h.by k

-- brackets before a step that reads no value
module _ {E S A B C : Type 0} (f : A → S → Ran E S B) (t : S → Ran E S C) where
  next_by : (r : Result A E) (s : S)
      → goes_on (λ b. t) (goes_on f r s).came (goes_on f r s).after ≡ goes_on (λ a. (f a >> t)) r s
  unfolding goes_on ◌>>◌
  next_by (Ok a) s = refl
  next_by (Err e) s = refl

  pub assoc_next : (m : S → Ran E S A) (s : S) → ((m >>= f) >> t) s ≡ (m >>= (λ a. (f a >> t))) s
  unfolding ◌>>=◌ ◌>>◌
  assoc_next m s = next_by (m s).came (m s).after

pub pure_next : {E S A B : Type 0} (a : A) (t : S → Ran E S B) (s : S) → (pure a >> t) s ≡ t s
unfolding ◌>>◌ pure goes_on
pure_next a t s = refl

pub agrees_pure : {A B : Type 0} (R : A → B → NestState → Type 0) (a : A) (b : B) (n : NestState) (s : State) → n.cells.plain ≡ s
    → R a b n
    → Agrees R (pure a n) (pure b s)
unfolding pure
agrees_pure R a b n s e h = record { by = (e, h) }

pub agrees_stop : {A B : Type 0} (R : A → B → NestState → Type 0) (halt : source.Halt) (n : NestState) (s : State)
    → n.cells.plain.written ≡ s.written → Agrees R (stop (By halt) n) (stop halt s)
unfolding stop
agrees_stop R halt n s e = record { by = (refl, e) }

-- what ends in Next
abbrev pub Ends : {B : Type 0} → (B → NestState → Type 0) → Flow → B → NestState → Type 0
Ends R flow b n = (flow ≡ Next) × R b n

-- another value made of the one that the source came to
module _ {A B B' : Type 0} (R : A → B → NestState → Type 0) (R' : A → B' → NestState → Type 0) (f : B → B') where
  by_map : (came : Result A Halt) (n : NestState) (came' : Result B source.Halt) (s : State)
      → AgreeBy R came n came' s
      → ((a : A) (b : B) (n : NestState) → R a b n → R' a (f b) n)
      → AgreeBy R' came n (goes_on (λ b. pure (f b)) came' s).came (goes_on (λ b. pure (f b)) came' s).after
  unfolding goes_on pure
  by_map (Ok a) n (Ok b) s h k = (h.0, k a b n h.1)
  by_map (Ok a) n (Err e) s h k = absurd h
  by_map (Err (By e)) n (Ok b) s h k = absurd h
  by_map (Err (By e)) n (Err e') s h k = h
  by_map (Err Stray) n (Ok b) s h k = absurd h
  by_map (Err Stray) n (Err e') s h k = absurd h

  pub agrees_map : (r : Ran Halt NestState A) (m : source.Step B) (s : State) → Agrees R r (m s)
      → ((a : A) (b : B) (n : NestState) → R a b n → R' a (f b) n) → Agrees R' r ((m >>= (λ b. pure (f b))) s)
  unfolding ◌>>=◌
  agrees_map r m s h k = record { by = by_map r.came r.after (m s).came (m s).after h.by k }

-- a weaker relation
module _ {A B : Type 0} (R R' : A → B → NestState → Type 0) where
  by_weak : (came : Result A Halt) (n : NestState) (came' : Result B source.Halt) (s : State) → AgreeBy R came n came' s
      → ((a : A) (b : B) (n : NestState) → R a b n → R' a b n) → AgreeBy R' came n came' s
  by_weak (Ok a) n (Ok b) s h k = (h.0, k a b n h.1)
  by_weak (Ok a) n (Err e) s h k = absurd h
  by_weak (Err (By e)) n (Ok b) s h k = absurd h
  by_weak (Err (By e)) n (Err e') s h k = h
  by_weak (Err Stray) n (Ok b) s h k = absurd h
  by_weak (Err Stray) n (Err e') s h k = absurd h

  pub agrees_weak : (r : Ran Halt NestState A) (q : Ran source.Halt State B) → Agrees R r q
      → ((a : A) (b : B) (n : NestState) → R a b n → R' a b n) → Agrees R' r q
  agrees_weak r q h k = record { by = by_weak r.came r.after q.came q.after h.by k }

-- ---- lists of statements

module _ (constants : List Scalar) (calls : Caller) where
  abbrev pub run : Statements → Step Flow
  run body = all_act constants calls [] body

  unfoldable pub behind_all : (q : Statements) → Flow → Step Flow
  behind_all q flow = behind flow (run q)

  behind_assoc : (q : Statements) (more : Statements) (flow : Flow) (n : NestState)
      → ((n : NestState) → run (joined more q) n ≡ (run more >>= behind_all q) n)
      → behind flow (run (joined more q)) n ≡ (behind flow (run more) >>= behind_all q) n
  unfolding ◌>>=◌ pure goes_on behind_all
  behind_assoc q more Next n ih = ih n
  behind_assoc q more (Exits out) n ih = refl
  behind_assoc q more (Cycles out) n ih = refl
  behind_assoc q more Returns n ih = refl

  came_assoc : (q more : Statements) (came : Result Flow Halt) (n : NestState)
      → ((n : NestState) → run (joined more q) n ≡ (run more >>= behind_all q) n)
      → goes_on (λ flow. behind flow (run (joined more q))) came n
      ≡ goes_on (behind_all q) (goes_on (λ flow. behind flow (run more)) came n).came
      (goes_on (λ flow. behind flow (run more)) came n).after
  unfolding goes_on ◌>>=◌
  came_assoc q more (Ok flow) n ih = behind_assoc q more flow n ih
  came_assoc q more (Err halt) n ih = refl

  -- two lists, one behind the other
  pub joined_acts : (p q : Statements) (n : NestState) → run (joined p q) n ≡ (run p >>= behind_all q) n
  unfolding ◌>>=◌ pure goes_on behind_all
  joined_acts no_statement q n = refl
  joined_acts (statement s more) q n =
      came_assoc q more (acts constants calls [] s n).came (acts constants calls [] s n).after (λ m. joined_acts more q m)

  pub parts_then : {B B' : Type 0} (R : B → NestState → Type 0) (R' : Flow → B' → NestState → Type 0)
      (p q : Statements) (m : source.Step B) (g : B → source.Step B') (n : NestState) (s : State)
      → Agrees (Ends R) (run p n) (m s)
      → ((b : B) (n : NestState) → R b n → Agrees R' (run q n) (g b n.cells.plain))
      → Agrees R' (run (joined p q) n) ((m >>= g) s)
  unfolding behind_all
  parts_then R R' p q m g n s h k = rw (joined_acts p q n)
      (agrees_then (Ends R) R' (run p) m (behind_all q) g n s h
      (λ flow b n' r. rw r.0 (k b n' r.1)))

  -- a statement with a value of its own, and the rest
  pub one_then : {B B' : Type 0} (R : B → NestState → Type 0) (R' : Flow → B' → NestState → Type 0)
      (x : Statement) (q : Statements) (m : source.Step B) (g : B → source.Step B') (n : NestState) (s : State)
      → Agrees (Ends R) (acts constants calls [] x n) (m s)
      → ((b : B) (n : NestState) → R b n → Agrees R' (run q n) (g b n.cells.plain))
      → Agrees R' (run (statement x q) n) ((m >>= g) s)
  one_then R R' x q m g n s h k =
      agrees_then (Ends R) R' (acts constants calls [] x) m (λ flow. behind flow (run q)) g n s h
      (λ flow b n' r. rw r.0 (k b n' r.1))

  -- a statement that comes to Next in one state, or halts
  only_by : (r : Result Flow Halt) (n : NestState) → goes_on (λ flow. behind flow (run no_statement)) r n ≡ record
      { came = r; after = n }
  unfolding goes_on pure
  only_by (Ok Next) n = refl
  only_by (Ok (Exits out)) n = refl
  only_by (Ok (Cycles out)) n = refl
  only_by (Ok Returns) n = refl
  only_by (Err halt) n = refl

  pub run_next : (x : Statement) (q : Statements) (n m : NestState) → acts constants calls [] x n ≡ pure Next m
      → run (statement x q) n ≡ run q m
  unfolding ◌>>=◌ goes_on pure
  run_next x q n m h = rw h refl

  pub run_halt : (x : Statement) (q : Statements) (halt : Halt) (n m : NestState) → acts constants calls [] x n ≡ stop halt m
      → run (statement x q) n ≡ stop halt m
  unfolding ◌>>=◌ goes_on stop
  run_halt x q halt n m h = rw h refl

  pub run_none : (n : NestState) → run no_statement n ≡ pure Next n
  run_none n = refl

  pub run_only : (x : Statement) (n : NestState) → run (statement x no_statement) n ≡ acts constants calls [] x n
  unfolding ◌>>=◌
  run_only x n = only_by (acts constants calls [] x n).came (acts constants calls [] x n).after
