-- One more turn: what ended comes out the same, and what was written while waiting begins what is written then. Each step is
-- compared with itself in a state that has one more turn left, or with one that may go on for one more round. This is said for
-- any state that has turns and writes, and for any errors, of which some wait for a turn.
use Rattle.std.proofs.Common.{◌≡◌, refl, sym, ℕ, Bool, true, false, List, [], ◌++◌, append_assoc, append-nil}
use Rattle.std.specs.Prelude.{Result, Ok, Err}
use Rattle.a95_base.specs.Steps.{Ran, pure, behind, ◌>>=◌, ◌>>◌}
use Rattle.a95_base.specs.Outcome.{IsPrefix}

-- ---- prefixes

pub prefix_refl : {A : Type 0} (xs : List A) → IsPrefix xs xs
prefix_refl xs = record { more = []; is = sym (append-nil xs) }

pub prefix_trans : {A : Type 0} {xs ys zs : List A} → IsPrefix xs ys → IsPrefix ys zs → IsPrefix xs zs
prefix_trans {xs = xs} h k = record { more = h.more ++ k.more; is = rw (k.is, h.is) (append_assoc xs h.more k.more) }

-- ---- the two relations

-- the state with one more turn left, what is written in it, and whether an error waits for a turn
pub record Clock (E S : Type 0) : Type 0 where
  pub more : S → S
  pub written : S → List ℕ
  pub waits : E → Bool

-- what is written is only added to
pub record Tells {E S A : Type 0} (clock : Clock E S) (m : S → Ran E S A) : Type 0 where
  pub tells : (s : S) → IsPrefix (clock.written s) (clock.written (m s).after)

abbrev pub StopsBy : {E S : Type 0} → Clock E S → (A : Type 0) → Bool → E → S → Result A E → S → Type 0
StopsBy clock A true e s came' s' = IsPrefix (clock.written s) (clock.written s')
StopsBy clock A false e s came' s' = (came' ≡ Err e) × (s' ≡ clock.more s)

abbrev pub SameBy : {E S A : Type 0} → Clock E S → Result A E → S → Result A E → S → Type 0
SameBy clock (Ok a) s came' s' = (came' ≡ Ok a) × (s' ≡ clock.more s)
SameBy {A = A} clock (Err e) s came' s' = StopsBy clock A (clock.waits e) e s came' s'

abbrev pub Same : {E S A : Type 0} → Clock E S → Ran E S A → Ran E S A → Type 0
Same clock r r' = SameBy clock r.came r.after r'.came r'.after

-- the second step, with one more turn, comes to the same as the first where that doesn't wait
pub record Grows {E S A : Type 0} (clock : Clock E S) (m m' : S → Ran E S A) : Type 0 where
  pub grows : (s : S) → Same clock (m s) (m' (clock.more s))
  pub first : Tells clock m
  pub second : Tells clock m'

abbrev pub Steady : {E S A : Type 0} → Clock E S → (S → Ran E S A) → Type 0
Steady clock m = Grows clock m m

module _ {E S : Type 0} {clock : Clock E S} where
  pub steady_by : {A : Type 0} {m : S → Ran E S A} → ((s : S) → Same clock (m s) (m (clock.more s)))
      → ((s : S) → IsPrefix (clock.written s) (clock.written (m s).after)) → Steady clock m
  steady_by h t = record { grows = h; first = record { tells = t }; second = record { tells = t } }

  -- ---- one step behind another

  tells_behind : {A B : Type 0} (f : A → S → Ran E S B) → ((a : A) → Tells clock (f a)) → (came : Result A E) (s : S)
      → IsPrefix (clock.written s) (clock.written (behind f came s).after)
  unfolding behind
  tells_behind f t (Ok a) s = (t a).tells s
  tells_behind f t (Err e) s = prefix_refl (clock.written s)

  pub tells_then : {A B : Type 0} {m : S → Ran E S A} {f : A → S → Ran E S B} → Tells clock m → ((a : A) → Tells clock (f a))
      → Tells clock (m >>= f)
  unfolding ◌>>=◌
  tells_then {m = m} {f = f} h t = record { tells = λ s. prefix_trans (h.tells s) (tells_behind f t (m s).came (m s).after) }

  grows_stopped : {A B : Type 0} (f f' : A → S → Ran E S B) → ((a : A) → Grows clock (f a) (f' a)) → (waits : Bool) (e : E) (s : S)
      (came' : Result A E) (s' : S) → StopsBy clock A waits e s came' s'
      → StopsBy clock B waits e s (behind f' came' s').came (behind f' came' s').after
  unfolding behind
  grows_stopped f f' g true e s came' s' h = prefix_trans h (tells_behind f' (λ a. (g a).second) came' s')
  grows_stopped f f' g false e s came' s' h = rw (h.0, h.1) (refl, refl)

  grows_behind : {A B : Type 0} (f f' : A → S → Ran E S B) → ((a : A) → Grows clock (f a) (f' a)) → (came : Result A E) (s : S)
      (came' : Result A E) (s' : S)
      → SameBy clock came s came' s' → Same clock (behind f came s) (behind f' came' s')
  unfolding behind
  grows_behind f f' g (Ok a) s came' s' h = rw (h.0, h.1) ((g a).grows s)
  grows_behind f f' g (Err e) s came' s' h = grows_stopped f f' g (clock.waits e) e s came' s' h

  pub grows_then : {A B : Type 0} {m m' : S → Ran E S A} {f f' : A → S → Ran E S B} → Grows clock m m'
      → ((a : A) → Grows clock (f a) (f' a)) → Grows clock (m >>= f) (m' >>= f')
  unfolding ◌>>=◌
  grows_then {m = m} {m' = m'} {f = f} {f' = f'} h g = record {
    grows = λ s. grows_behind f f' g (m s).came (m s).after (m' (clock.more s)).came (m' (clock.more s)).after (h.grows s);
    first = tells_then h.first (λ a. (g a).first);
    second = tells_then h.second (λ a. (g a).second);
  }

  pub grows_next : {A B : Type 0} {m m' : S → Ran E S A} {n n' : S → Ran E S B} → Grows clock m m' → Grows clock n n'
      → Grows clock (m >> n) (m' >> n')
  unfolding ◌>>◌ ◌>>=◌
  grows_next {m = m} {m' = m'} {n = n} {n' = n'} h g = record {
    grows = λ s. grows_behind (λ a. n) (λ a. n') (λ a. g) (m s).came (m s).after (m' (clock.more s)).came (m' (clock.more s)).after
        (h.grows s);
    first = record { tells = (tells_then {f = λ a. n} h.first (λ a. g.first)).tells };
    second = record { tells = (tells_then {f = λ a. n'} h.second (λ a. g.second)).tells };
  }

  pub steady_pure : {A : Type 0} (a : A) → Steady clock (pure a)
  unfolding pure
  steady_pure a = steady_by (λ s. (refl, refl)) (λ s. prefix_refl (clock.written s))
