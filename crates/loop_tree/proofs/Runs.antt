-- Laws of runs. None opens a step.
use Rattle.std.proofs.Common.{◌≡◌, ◌⊎◌, ℕ, zero, suc, ◌+◌, ◌-◌, ◌≤◌, ◌<◌, true, false, List, [], ◌++◌, Option, Some, None, refl}
use Rattle.std.proofs.Common.{sym, ◌∙◌, ap, subst, inl, inr, arith, zero-add, suc-add, append_assoc, append-nil}
use Rattle.loop_tree.specs.declared.tree.Function.{Function}
use Rattle.loop_tree.specs.State.{Next, Goes, Ends, End}
use Rattle.loop_tree.specs.Machine.{step}
use Rattle.loop_tree.specs.Run.{Configuration, configuration, count_turn, after, one_step, steps, Reaches, begins_turn}

-- ---- steps

-- n steps and then m are m + n
steps_on : (functions : List Function) (m n : ℕ) (a b : Configuration) → steps functions n a ≡ Some b → steps functions (m + n) a
    ≡ steps functions m b
unfolding steps
steps_on functions zero n a b e = rw zero-add e
steps_on functions (suc m) n a b e = rw suc-add (ap (one_step functions) (steps_on functions m n a b e))

-- n steps behind the first
abbrev steps_from : List Function → ℕ → Option Configuration → Option Configuration
steps_from functions n None = None
steps_from functions n (Some t) = steps functions n t

one_more : (functions : List Function) (n : ℕ) (o : Option Configuration) → one_step functions (steps_from functions n o)
    ≡ steps_from functions (suc n) o
unfolding steps
one_more functions n None = refl
one_more functions n (Some t) = refl

opened : (functions : List Function) (o : Option Configuration) → o ≡ steps_from functions zero o
unfolding steps
opened functions None = refl
opened functions (Some t) = refl

first_step : (functions : List Function) (n : ℕ) (a : Configuration) → steps functions (suc n) a
    ≡ steps_from functions n (after a (step functions a.state))
unfolding steps
first_step functions zero a = opened functions (after a (step functions a.state))
first_step functions (suc n) a = ap (one_step functions) (first_step functions n a)
    ∙ one_more functions n (after a (step functions a.state))

-- ---- leading

-- no step
pub stays : (functions : List Function) (a : Configuration) → Reaches functions a a
unfolding steps
stays functions a = record { count = 0; there = refl }

-- one step
pub steps_once : (functions : List Function) (a b : Configuration) → after a (step functions a.state) ≡ Some b →
    Reaches functions a b
unfolding steps
steps_once functions a b e = record { count = 1; there = e }

-- one way and then another
pub joins : (functions : List Function) (a b c : Configuration) → Reaches functions a b → Reaches functions b c →
    Reaches functions a c
joins functions a b c f g = record { count = g.count + f.count; there = steps_on functions g.count f.count a b f.there ∙ g.there }

-- the part of a way behind a shorter one
remaining : (functions : List Function) (a b c : Configuration) (f : Reaches functions a b) (g : Reaches functions a c) →
    f.count ≤ g.count → Reaches functions b c
remaining functions a b c f g h =
    let sum : (g.count - f.count) + f.count ≡ g.count = omega arith in
    record {
      count = g.count - f.count;
      there = sym (steps_on functions (g.count - f.count) f.count a b f.there)
          ∙ (ap (λ k. steps functions k a) sum ∙ g.there);
    }

either_way : (m n : ℕ) → (m ≤ n) ⊎ (n ≤ m)
either_way zero n = inl (omega arith)
either_way (suc m) zero = inr (omega arith)
either_way (suc m) (suc n) = elim (either_way m n) [ inl h ↦ inl (omega arith) | inr h ↦ inr (omega arith) ]

-- of two ways from one start one leads to the other's end
pub linear : (functions : List Function) (a b c : Configuration) → Reaches functions a b → Reaches functions a c →
    Reaches functions b c ⊎ Reaches functions c b
linear functions a b c f g = elim (either_way f.count g.count)
    [ inl h ↦ inl (remaining functions a b c f g h) | inr h ↦ inr (remaining functions a c b g f h) ]

-- ---- turns and what is written only grow

pub record Grows (a b : Configuration) : Type 0 where
  pub turns : a.turns ≤ b.turns
  pub more : List ℕ
  pub written : b.written ≡ a.written ++ more

grows_same : (a : Configuration) → Grows a a
grows_same a = record { turns = omega arith; more = []; written = sym (append-nil a.written) }

grows_then : (a b c : Configuration) → Grows a b → Grows b c → Grows a c
grows_then a b c f g =
    record {
      turns = omega arith;
      more = f.more ++ g.more;
      written =
          g.written ∙ (ap (λ t. t ++ g.more) f.written ∙ append_assoc a.written f.more g.more);
    }

grows_by : (a b : Configuration) (next : Next) → after a next ≡ Some b → Grows a b
grows_by a b (Goes turn new s) e =
    let same : configuration (a.turns + count_turn turn) (a.written ++ new) s ≡ b = cc in
    subst (λ t. Grows a t) same (record { turns = omega arith; more = new; written = refl })
grows_by a b (Ends how) e = absurd cc

grows_behind : (functions : List Function) (a b : Configuration) (o : Option Configuration) →
    ((t : Configuration) → o ≡ Some t → Grows a t) → one_step functions o ≡ Some b → Grows a b
grows_behind functions a b None f e = absurd cc
grows_behind functions a b (Some t) f e = grows_then a t b (f t refl) (grows_by t b (step functions t.state) e)

grows_along : (functions : List Function) (n : ℕ) (a b : Configuration) → steps functions n a ≡ Some b → Grows a b
unfolding steps
grows_along functions zero a b e = let same : a ≡ b = cc in subst (λ t. Grows a t) same (grows_same a)
grows_along functions (suc n) a b e = grows_behind functions a b (steps functions n a) (λ t h. grows_along functions n a t h) e

pub grows : (functions : List Function) (a b : Configuration) → Reaches functions a b → Grows a b
grows functions a b f = grows_along functions f.count a b f.there

-- ---- ends

-- behind an end is nothing
last_at : (functions : List Function) (n : ℕ) (a b : Configuration) (how : End) → step functions a.state ≡ Ends how →
    steps functions n a ≡ Some b → b ≡ a
unfolding steps
last_at functions zero a b how e f = cc
last_at functions (suc n) a b how e f =
    let none : steps_from functions n (after a (step functions a.state)) ≡ None =
    ap (λ next. steps_from functions n (after a next)) e in
    absurd (cc (none, first_step functions n a, f))

pub last : (functions : List Function) (a b : Configuration) (how : End) → step functions a.state ≡ Ends how → Reaches functions a b
    → b ≡ a
last functions a b how e f = last_at functions f.count a b how e f.there

-- a state whose next step begins a turn is not passed by a run that begins no further turn
turn_counts : (functions : List Function) (n : ℕ) (a b : Configuration) (next : Next) → begins_turn next ≡ true →
    steps_from functions n (after a next) ≡ Some b → a.turns < b.turns
turn_counts functions n a b (Goes true new s) w e = let g = grows_along functions n
    (configuration (a.turns + 1) (a.written ++ new) s) b e in omega (arith, g.turns)
turn_counts functions n a b (Goes false new s) w e = absurd cc
turn_counts functions n a b (Ends how) w e = absurd cc

not_past_at : (functions : List Function) (n : ℕ) (a b : Configuration) → begins_turn (step functions a.state) ≡ true →
    b.turns ≤ a.turns → steps functions n a ≡ Some b → b ≡ a
unfolding steps
not_past_at functions zero a b w h f = cc
not_past_at functions (suc n) a b w h f =
    let more : a.turns < b.turns = turn_counts functions n a b (step functions a.state) w (sym (first_step functions n a) ∙ f) in
    absurd (omega arith)

pub not_past : (functions : List Function) (a b : Configuration) → begins_turn (step functions a.state) ≡ true → b.turns ≤ a.turns →
    Reaches functions a b → b ≡ a
not_past functions a b w h f = not_past_at functions f.count a b w h f.there
