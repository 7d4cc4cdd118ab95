-- What is left of the choice where one more loop is taken, and one more distance looked at.
use Rattle.std.proofs.Common.{◌≡◌, ℕ, zero, suc, ◌+◌, ◌-◌, ◌<◌, ◌≤◌, Bool, true, false, not, cond, ◌&&◌, ◌||◌, List, [], ◌∷◌}
use Rattle.std.proofs.Common.{length, get_or, set, drop, replicate, refl, sym, ap, ◌∙◌, inl, inr, arith}
use Rattle.std.specs.Prelude.{IsTrue, ◌↔◌, filter}
use Rattle.std.specs.List.{list_all}
use Rattle.std.proofs.lemmas.Bool.{cases_eq, eq-eqb, ne_eqb, and_parts, and_from}
use Rattle.std.proofs.lemmas.List.{drop_more, get_or-set_same, get_or-set_other}
use Rattle.a95_base.specs.Lists.{Every, down_to_one}
use Rattle.a95_base.proofs.Lists.{Every-weaker}
use Rattle.a95_base.proofs.Permuted.{each_from_one}
use Rattle.a95_base.proofs.Tests.{and-true, and-false}
use Rattle.rank_shape.specs.declared.distance.Entry.{Entry}
use Rattle.rank_shape.specs.declared.distance.Entry.TheVariants as entry
use Rattle.loop_order.specs.declared.sign.Sign.{Sign}
use Rattle.loop_order.specs.Legal.{sign_of, sign_at, settles, IsLegal}
use Rattle.rank_shape.specs.Order.{Level}
use Rattle.loop_order.specs.Choice.{is_still, some_entry, unsettled, without}
use Rattle.loop_order.specs.Left.{is_taken, loops_left, is_open, open_distances}

-- ---- nothing taken yet

pub open_at_first : (n : ℕ) (d : List Entry) → is_open (replicate n false) d ≡ true
open_at_first zero d = refl
open_at_first (suc n) [] = open_at_first n []
open_at_first (suc n) (e ∷ d) = open_at_first n d

filter_all : {A : Type 0} (p : A → Bool) → ((x : A) → p x ≡ true) → (xs : List A) → filter p xs ≡ xs
filter_all p each [] = refl
filter_all p each (x ∷ xs) = ap (λ b. cond b (x ∷ filter p xs) (filter p xs)) (each x) ∙ ap (λ ys. x ∷ ys) (filter_all p each xs)

pub all_open_at_first : (n : ℕ) (distances : List (List Entry)) → open_distances (replicate n false) distances ≡ distances
all_open_at_first n distances = filter_all (is_open (replicate n false)) (open_at_first n) distances

not_taken_at_first : (n k : ℕ) → get_or (replicate n false) k false ≡ false
not_taken_at_first zero k = refl
not_taken_at_first (suc n) zero = refl
not_taken_at_first (suc n) (suc k) = not_taken_at_first n k

pub all_left_at_first : (n rank : ℕ) → loops_left n (replicate rank false) ≡ down_to_one n
all_left_at_first n rank = filter_all (λ loop. not (is_taken (replicate rank false) loop))
    (λ loop. ap not (not_taken_at_first rank (loop - 1))) (down_to_one n)

-- ---- one more loop taken

filter_agree_on : {A : Type 0} (p q : A → Bool) (xs : List A) → Every (λ x. p x ≡ q x) xs → filter p xs ≡ filter q xs
filter_agree_on p q [] h = refl
filter_agree_on p q (x ∷ xs) h =
    ap (λ b. cond b (x ∷ filter p xs) (filter p xs)) h.0 ∙ ap (λ ys. cond (q x) (x ∷ ys) ys) (filter_agree_on p q xs h.1)

-- a filter that lets one number less through
filter_without : (p q : ℕ → Bool) (l n : ℕ) → p l ≡ true → q l ≡ false → ((x : ℕ) → 1 ≤ x → (x ≡ l → ⊥) → q x ≡ p x) → 1 ≤ l →
    l ≤ n → filter q (down_to_one n) ≡ without l (filter p (down_to_one n))
filter_without p q l zero at_p at_q others least most = absurd (omega arith)
filter_without p q l (suc n) at_p at_q others least most =
    elim (cases_eq (suc n) l) [
      | inl same ↦
          let p_here : p (suc n) ≡ true = ap p same ∙ at_p in
          let q_here : q (suc n) ≡ false = ap q same ∙ at_q in
          ap (λ b. cond b (suc n ∷ filter q (down_to_one n)) (filter q (down_to_one n))) q_here
          ∙ filter_agree_on q p (down_to_one n)
          (Every-weaker (λ x. (1 ≤ x) × (x ≤ n)) (λ x. q x ≡ p x) (λ x known. others x known.0 (λ is. omega (arith, known.1)))
          (down_to_one n) (each_from_one n n (omega arith)))
          ∙ sym (ap (λ b. without l (cond b (suc n ∷ filter p (down_to_one n)) (filter p (down_to_one n)))) p_here
          ∙ ap (λ b. cond b (filter p (down_to_one n)) (suc n ∷ without l (filter p (down_to_one n)))) (eq-eqb (suc n) l same))
      | inr apart ↦
          let below : l ≤ n = omega arith in
          ap (λ b. cond b (suc n ∷ filter q (down_to_one n)) (filter q (down_to_one n))) (others (suc n) (omega arith) apart)
          ∙ ap (λ ys. cond (p (suc n)) (suc n ∷ ys) ys) (filter_without p q l n at_p at_q others least below)
          ∙ sym (elim (p (suc n))
          as (λ b. without l (cond b (suc n ∷ filter p (down_to_one n)) (filter p (down_to_one n)))
          ≡ cond b (suc n ∷ without l (filter p (down_to_one n))) (without l (filter p (down_to_one n)))) [
            | true ↦ ap (λ b. cond b (filter p (down_to_one n)) (suc n ∷ without l (filter p (down_to_one n))))
                (ne_eqb (suc n) l apart)
            | false ↦ refl
          ])
    ]

pub one_more_taken : (rank : ℕ) (taken : List Bool) (l : ℕ) → 1 ≤ l → l ≤ rank → l ≤ length taken → is_taken taken l ≡ false →
    loops_left rank (set taken (l - 1) true) ≡ without l (loops_left rank taken)
one_more_taken rank taken l least most inside free =
    filter_without (λ x. not (is_taken taken x)) (λ x. not (is_taken (set taken (l - 1) true) x)) l rank
    (ap not free) (ap not (get_or-set_same taken (l - 1) true false (omega arith)))
    (λ x x_least apart. ap not (get_or-set_other taken (l - 1) (x - 1) true false (λ same. apart (omega arith)))) least most

and_turned : (a b c : Bool) → (a && (b && c)) ≡ (b && (a && c))
and_turned true b c = refl
and_turned false true c = refl
and_turned false false c = refl

and_twice : (a b : Bool) → (a && b) ≡ (a && (a && b))
and_twice true b = refl
and_twice false b = refl

-- a distance is open under one more loop where it was and has a known 0 there
one_more_open : (taken : List Bool) (k : ℕ) (d : List Entry) → k < length taken → is_open (set taken k true) d
    ≡ (is_still (sign_of (get_or d k entry.Any)) && is_open taken d)
one_more_open [] k d inside = absurd (omega arith)
one_more_open (true ∷ taken) zero [] inside = refl
one_more_open (true ∷ taken) zero (e ∷ d) inside = and_twice (is_still (sign_of e)) (is_open taken d)
one_more_open (false ∷ taken) zero [] inside = refl
one_more_open (false ∷ taken) zero (e ∷ d) inside = refl
one_more_open (true ∷ taken) (suc k) [] inside = refl
one_more_open (true ∷ taken) (suc k) (e ∷ d) inside =
    ap (λ b. is_still (sign_of e) && b) (one_more_open taken k d (omega arith))
    ∙ and_turned (is_still (sign_of e)) (is_still (sign_of (get_or d k entry.Any))) (is_open taken d)
one_more_open (false ∷ taken) (suc k) [] inside = one_more_open taken k [] (omega arith)
one_more_open (false ∷ taken) (suc k) (e ∷ d) inside = one_more_open taken k d (omega arith)

filter_twice : {A : Type 0} (p q r : A → Bool) → ((x : A) → r x ≡ (p x && q x)) → (xs : List A) →
    filter r xs ≡ filter p (filter q xs)
filter_twice p q r both [] = refl
filter_twice p q r both (x ∷ xs) =
    ap (λ b. cond b (x ∷ filter r xs) (filter r xs)) (both x)
    ∙ ap (λ ys. cond (p x && q x) (x ∷ ys) ys) (filter_twice p q r both xs)
    ∙ sym (elim (q x)
    as (λ b. filter p (cond b (x ∷ filter q xs) (filter q xs))
    ≡ cond (p x && b) (x ∷ filter p (filter q xs)) (filter p (filter q xs))) [
      | true ↦ sym (ap (λ b. cond b (x ∷ filter p (filter q xs)) (filter p (filter q xs))) (and-true (p x)))
      | false ↦ sym (ap (λ b. cond b (x ∷ filter p (filter q xs)) (filter p (filter q xs))) (and-false (p x)))
    ])

pub one_more_settled : (taken : List Bool) (l : ℕ) (distances : List (List Entry)) → 1 ≤ l → l ≤ length taken →
    open_distances (set taken (l - 1) true) distances ≡ unsettled l (open_distances taken distances)
one_more_settled taken l distances least inside =
    filter_twice (λ d. is_still (sign_at d l)) (is_open taken) (is_open (set taken (l - 1) true))
    (λ d. one_more_open taken (l - 1) d (omega arith)) distances

-- ---- one more distance looked at

or_turned : (a b c : Bool) → ((a || b) || c) ≡ (b || (a || c))
or_turned true true c = refl
or_turned true false c = refl
or_turned false true c = refl
or_turned false false c = refl

-- what is known of a loop once one more distance has been looked at
pub asks_open : (test : Sign → Bool) (loop : ℕ) (taken : List Bool) (d : List Entry) (others : List (List Entry)) (before : Bool) →
    is_open taken d ≡ true → ((test (sign_at d loop) || before) || some_entry test loop (open_distances taken others))
    ≡ (before || some_entry test loop (open_distances taken (d ∷ others)))
asks_open test loop taken d others before open_now =
    or_turned (test (sign_at d loop)) before (some_entry test loop (open_distances taken others))
    ∙ sym (ap (λ b. before || some_entry test loop (cond b (d ∷ open_distances taken others) (open_distances taken others)))
    open_now)

pub asks_closed : (test : Sign → Bool) (loop : ℕ) (taken : List Bool) (d : List Entry) (others : List (List Entry)) (before : Bool)
    → is_open taken d ≡ false → (before || some_entry test loop (open_distances taken others))
    ≡ (before || some_entry test loop (open_distances taken (d ∷ others)))
asks_closed test loop taken d others before closed =
    sym (ap (λ b. before || some_entry test loop (cond b (d ∷ open_distances taken others) (open_distances taken others))) closed)

-- ---- all distances are settled

pub all_each : {A : Type 0} (p : A → Bool) (xs : List A) → list_all p xs ≡ true → Every (λ x. IsTrue (p x)) xs
all_each p [] h = tt
all_each p (x ∷ xs) h = let parts = and_parts (p x) (list_all p xs) h in (parts.0, all_each p xs parts.1)

pub each_all : {A : Type 0} (p : A → Bool) (xs : List A) → Every (λ x. IsTrue (p x)) xs → list_all p xs ≡ true
each_all p [] h = refl
each_all p (x ∷ xs) h = and_from (p x) (list_all p xs) h.0 (each_all p xs h.1)

pub legal_is : (order : List Level) (distances : List (List Entry)) (r : Bool) → r ≡ list_all (settles order) distances →
    IsTrue r ↔ IsLegal order distances
legal_is order distances r is =
    (λ t. all_each (settles order) distances (sym is ∙ t), λ h. is ∙ each_all (settles order) distances h)

-- ---- one more of the loops taken looked at

pub open_free : (taken : List Bool) (distance : List Entry) (k : ℕ) → k < length taken → k < length distance → get_or taken k false
    ≡ false → is_open (drop (k + 1) taken) (drop (k + 1) distance) ≡ is_open (drop k taken) (drop k distance)
open_free taken distance k t d free =
    sym (ap (λ ts. is_open ts (drop k distance)) (drop_more taken k false t ∙ ap (λ b. b ∷ drop (k + 1) taken) free)
    ∙ ap (λ ds. is_open (false ∷ drop (k + 1) taken) ds) (drop_more distance k entry.Any d))

pub open_taken : (taken : List Bool) (distance : List Entry) (k : ℕ) → k < length taken → k < length distance → get_or taken k false
    ≡ true → is_open (drop k taken) (drop k distance)
    ≡ (is_still (sign_of (get_or distance k entry.Any)) && is_open (drop (k + 1) taken) (drop (k + 1) distance))
open_taken taken distance k t d is =
    ap (λ ts. is_open ts (drop k distance)) (drop_more taken k false t ∙ ap (λ b. b ∷ drop (k + 1) taken) is)
    ∙ ap (λ ds. is_open (true ∷ drop (k + 1) taken) ds) (drop_more distance k entry.Any d)

pub ruleset open_steps = (open_free, open_taken)
