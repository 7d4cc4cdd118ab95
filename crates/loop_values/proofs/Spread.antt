-- Variables in a list and a map: what is read at a number, and what a store leaves.
use Rattle.std.proofs.Common.{◌≡◌, ◌⊎◌, ℕ, zero, suc, ◌+◌, ◌-◌, ◌<◌, ◌≤◌, true, false, List, [], ◌∷◌, ◌++◌, length, get_or, set}
use Rattle.std.proofs.Common.{replicate, None, Some, refl, sym, ap, ◌∙◌, inl, inr, append_assoc, append-nil, arith, length-append}
use Rattle.std.proofs.Common.{length-set}
use Rattle.std.specs.Prelude.{unwrap_or, slice_get, Result, Ok, Err, OnOk, OnErr, is_ok, is_err, if◌then◌else◌}
use Rattle.std.specs.Ordering.{nat_cmp, is_eq}
use Rattle.std.specs.declared.cmp.Ordering.TheVariants.{Less, Equal, Greater}
use Rattle.std.specs.BTreeMap.{insert_entry, is_at}
use Rattle.std.specs.Map.{lookup}
use Rattle.std.proofs.lemmas.Bool.{cases_lt}
use Rattle.std.proofs.lemmas.Bool.Decides.{nat_tests}
use Rattle.std.proofs.lemmas.List.{length-replicate, get_or-append_right, get_or_append_left, get_or-replicate}
use Rattle.std.proofs.lemmas.List.{replicate-append-replicate}
use Rattle.std.proofs.lemmas.Result.{on_ok_weaker}
use Rattle.a95_base.proofs.Texts.{cmp_same}
use Rattle.loop_tree.specs.State.{with_at}
use Rattle.loop_values.specs.Spread.{spread, IsSpaced, dense}

-- ---- orders of two numbers

cmp_less : (n m : ℕ) → n < m → nat_cmp n m ≡ Less
cmp_less n m h = grind (arith, nat_tests)

cmp_greater : (n m : ℕ) → m < n → nat_cmp n m ≡ Greater
cmp_greater n m h = grind (arith, nat_tests)

-- ---- a store past the front of a list

pub with_at-append : {A : Type 0} (first : A) (xs ys : List A) (m : ℕ) (v : A) → with_at first (xs ++ ys) (length xs + m) v ≡ xs
    ++ with_at first ys m v
unfolding with_at
with_at-append first [] ys m v = ap (λ n. with_at first ys n v) (omega arith)
with_at-append first (x ∷ xs) ys m v =
    let e : suc (length xs) + m ≡ suc (length xs + m) = omega arith in
    ap (λ n. with_at first (x ∷ (xs ++ ys)) n v) e ∙ ap (λ zs. x ∷ zs) (with_at-append first xs ys m v)

-- the same, by the number
pub with_at_past : {A : Type 0} (first : A) (xs ys : List A) (n m : ℕ) (v : A) → length xs + m ≡ n → with_at first (xs ++ ys) n v
    ≡ xs ++ with_at first ys m v
with_at_past first xs ys n m v e = ap (λ k. with_at first (xs ++ ys) k v) (sym e) ∙ with_at-append first xs ys m v

pub with_at_within : {A : Type 0} (first : A) (xs ys : List A) (n : ℕ) (v : A) → n < length xs → with_at first (xs ++ ys) n v
    ≡ set xs n v ++ ys
unfolding with_at
with_at_within first [] ys n v h = absurd (omega arith)
with_at_within first (x ∷ xs) ys zero v h = refl
with_at_within first (x ∷ xs) ys (suc n) v h = ap (λ zs. x ∷ zs) (with_at_within first xs ys n v (omega arith))

pub with_at_nothing : {A : Type 0} (first : A) (m : ℕ) (v : A) → with_at first [] m v ≡ replicate m first ++ v ∷ []
unfolding with_at
with_at_nothing first zero v = refl
with_at_nothing first (suc m) v = ap (λ zs. first ∷ zs) (with_at_nothing first m v)

with_at_zero : {A : Type 0} (first x : A) (xs : List A) (v : A) → with_at first (x ∷ xs) 0 v ≡ v ∷ xs
unfolding with_at
with_at_zero first x xs v = refl

with_at_next : {A : Type 0} (first x : A) (xs : List A) (m : ℕ) (v : A) → with_at first (x ∷ xs) (suc m) v ≡ x
    ∷ with_at first xs m v
unfolding with_at
with_at_next first x xs m v = refl

-- a store at the end
pub with_at_end : {A : Type 0} (first : A) (xs : List A) (v : A) → with_at first xs (length xs) v ≡ xs ++ v ∷ []
unfolding with_at
with_at_end first [] v = refl
with_at_end first (x ∷ xs) v = ap (λ zs. x ∷ zs) (with_at_end first xs v)

-- a store past the end
pub with_at_far : {A : Type 0} (first : A) (xs : List A) (n : ℕ) (v : A) → length xs ≤ n → with_at first xs n v ≡ xs
    ++ (replicate (n - length xs) first ++ v ∷ [])
with_at_far first xs n v h =
    ap (λ zs. with_at first zs n v) (sym (append-nil xs))
    ∙ with_at_past first xs [] n (n - length xs) v (omega arith)
    ∙ ap (λ zs. xs ++ zs) (with_at_nothing first (n - length xs) v)

-- ---- entries

pub spaced_lower : {A : Type 0} (low at : ℕ) (es : List (ℕ × A)) → IsSpaced at es → low ≤ at → IsSpaced low es
spaced_lower low at [] h e = tt
spaced_lower low at (x ∷ es) h e = (omega (arith, h.0), h.1)

lookup_none : {A : Type 0} (n at : ℕ) (es : List (ℕ × A)) → IsSpaced at es → n < at → lookup (is_at (nat_cmp n)) es ≡ None
lookup_none n at [] h less = refl
lookup_none n at (e ∷ es) h less =
    let before : n < e.0 = omega (arith, h.0) in
    let other : is_at (nat_cmp n) e.0 ≡ false = ap is_eq (cmp_less n e.0 before) in
    let rest : lookup (is_at (nat_cmp n)) es ≡ None = lookup_none n (e.0 + 1) es h.1 (omega arith) in
    rw other rest

-- ---- what is read

get_before : {A : Type 0} (first : A) (n at to : ℕ) (ys : List A) → at ≤ n → n < to →
    get_or (replicate (to - at) first ++ ys) (n - at) first ≡ first
get_before first n at to ys from less =
    let within : n - at < length (replicate (to - at) first) = omega (arith, length-replicate (to - at) first) in
    get_or_append_left (replicate (to - at) first) ys first (n - at) within
    ∙ get_or-replicate (to - at) (n - at) first first (omega arith)

get_at : {A : Type 0} (first v : A) (n at : ℕ) (ys : List A) → at ≤ n → get_or (replicate (n - at) first ++ (v ∷ ys)) (n - at) first
    ≡ v
get_at first v n at ys from =
    get_or-append_right (replicate (n - at) first) (v ∷ ys) (n - at) (n - at) first (length-replicate (n - at) first) (omega arith)
    ∙ (let none : n - at - (n - at) ≡ 0 = omega arith in ap (λ i. get_or (v ∷ ys) i first) none)

get_after : {A : Type 0} (first v : A) (n at to : ℕ) (ys : List A) → at ≤ to → to < n
    → get_or (replicate (to - at) first ++ (v ∷ ys)) (n - at) first ≡ get_or ys (n - (to + 1)) first
get_after first v n at to ys from past =
    let next : n - at - (to - at) ≡ suc (n - (to + 1)) = omega arith in
    get_or-append_right (replicate (to - at) first) (v ∷ ys) (to - at) (n - at) first (length-replicate (to - at) first)
    (omega arith)
    ∙ ap (λ i. get_or (v ∷ ys) i first) next

pub get_spread : {A : Type 0} (first : A) (n at : ℕ) (es : List (ℕ × A)) → IsSpaced at es → at ≤ n
    → unwrap_or (lookup (is_at (nat_cmp n)) es) first ≡ get_or (spread first at es) (n - at) first
get_spread first n at [] h from = refl
get_spread {A} first n at (e ∷ es) h from = by_order (cases_lt n e.0) (cases_lt e.0 n)
    (λ past. get_spread first n (e.0 + 1) es h.1 past)
  where
    by_order : (n < e.0) ⊎ (e.0 ≤ n) → (e.0 < n) ⊎ (n ≤ e.0)
        → (e.0 + 1 ≤ n → unwrap_or (lookup (is_at (nat_cmp n)) es) first ≡ get_or (spread first (e.0 + 1) es) (n - (e.0 + 1)) first)
        → unwrap_or (lookup (is_at (nat_cmp n)) (e ∷ es)) first ≡ get_or (spread first at (e ∷ es)) (n - at) first
    by_order (inl less) other again =
        let differs : is_at (nat_cmp n) e.0 ≡ false = ap is_eq (cmp_less n e.0 less) in
        let none : lookup (is_at (nat_cmp n)) es ≡ None = lookup_none n (e.0 + 1) es h.1 (omega arith) in
        rw (differs, none) (sym (get_before first n at e.0 (e.1 ∷ spread first (e.0 + 1) es) from less))
    by_order (inr from_e) (inl more) again =
        let differs : is_at (nat_cmp n) e.0 ≡ false = ap is_eq (cmp_greater n e.0 more) in
        let rest : unwrap_or (lookup (is_at (nat_cmp n)) es) first ≡ get_or (spread first (e.0 + 1) es) (n - (e.0 + 1)) first =
        again (omega arith) in
        rw differs (rest ∙ sym (get_after first e.1 n at e.0 (spread first (e.0 + 1) es) h.0 more))
    by_order (inr from_e) (inr to_e) again =
        let is : e.0 ≡ n = omega arith in
        let same : is_at (nat_cmp n) e.0 ≡ true = ap (λ k. is_eq (nat_cmp n k)) is ∙ ap is_eq (cmp_same n) in
        let read : get_or (replicate (e.0 - at) first ++ (e.1 ∷ spread first (e.0 + 1) es)) (n - at) first ≡ e.1 =
        ap (λ k. get_or (replicate (e.0 - at) first ++ (e.1 ∷ spread first (e.0 + 1) es)) (k - at) first) (sym is)
        ∙ get_at first e.1 e.0 at (spread first (e.0 + 1) es) h.0 in
        rw same (sym read)

-- ---- what a store leaves

replicate_split : {A : Type 0} (first : A) (n at to : ℕ) (ys : List A) → at ≤ n → n < to
    → replicate (to - at) first ++ ys ≡ replicate (n - at) first ++ (first ∷ (replicate (to - (n + 1)) first ++ ys))
replicate_split first n at to ys from less =
    let whole : to - at ≡ n - at + suc (to - (n + 1)) = omega arith in
    ap (λ k. replicate k first ++ ys) whole
    ∙ ap (λ zs. zs ++ ys) (sym (replicate-append-replicate (n - at) (suc (to - (n + 1))) first))
    ∙ append_assoc (replicate (n - at) first) (replicate (suc (to - (n + 1))) first) ys

-- before the entries
pub set_before : {A : Type 0} (first : A) (n at : ℕ) (es : List (ℕ × A)) (v : A) → IsSpaced (n + 1) es → at ≤ n
    → with_at first (spread first at es) (n - at) v ≡ replicate (n - at) first ++ (v ∷ spread first (n + 1) es)
set_before first n at [] v h from = with_at_nothing first (n - at) v
set_before first n at (e ∷ es) v h from =
    let behind = e.1 ∷ spread first (e.0 + 1) es in
    let filled : length (replicate (n - at) first) + 0 ≡ n - at = omega (arith, length-replicate (n - at) first) in
    ap (λ zs. with_at first zs (n - at) v) (replicate_split first n at e.0 behind from (omega (arith, h.0)))
    ∙ with_at_past first (replicate (n - at) first) (first ∷ (replicate (e.0 - (n + 1)) first ++ behind)) (n - at) 0 v filled
    ∙ ap (λ zs. replicate (n - at) first ++ zs) (with_at_zero first first (replicate (e.0 - (n + 1)) first ++ behind) v)

pub set_spread : {A : Type 0} (first : A) (n at : ℕ) (es : List (ℕ × A)) (v : A) → IsSpaced at es → at ≤ n
    → with_at first (spread first at es) (n - at) v ≡ spread first at (insert_entry nat_cmp es n v)
set_spread first n at [] v h from = with_at_nothing first (n - at) v
set_spread {A} first n at (e ∷ es) v h from = by_order (cases_lt n e.0) (cases_lt e.0 n)
    (λ past. set_spread first n (e.0 + 1) es v h.1 past)
  where
    by_order : (n < e.0) ⊎ (e.0 ≤ n) → (e.0 < n) ⊎ (n ≤ e.0)
        → (e.0 + 1 ≤ n → with_at first (spread first (e.0 + 1) es) (n - (e.0 + 1)) v
        ≡ spread first (e.0 + 1) (insert_entry nat_cmp es n v))
        → with_at first (spread first at (e ∷ es)) (n - at) v ≡ spread first at (insert_entry nat_cmp (e ∷ es) n v)
    by_order (inl less) other again =
        let is : nat_cmp n e.0 ≡ Less = cmp_less n e.0 less in
        rw is (set_before first n at (e ∷ es) v (omega arith, h.1) from)
    by_order (inr from_e) (inl more) again =
        let is : nat_cmp n e.0 ≡ Greater = cmp_greater n e.0 more in
        let there : length (replicate (e.0 - at) first) + suc (n - (e.0 + 1)) ≡ n - at =
        omega (arith, length-replicate (e.0 - at) first, h.0) in
        let rest : with_at first (spread first (e.0 + 1) es) (n - (e.0 + 1)) v
        ≡ spread first (e.0 + 1) (insert_entry nat_cmp es n v) = again (omega arith) in
        let stored : with_at first (spread first at (e ∷ es)) (n - at) v ≡ replicate (e.0 - at) first
        ++ (e.1 ∷ spread first (e.0 + 1) (insert_entry nat_cmp es n v)) =
        with_at_past first (replicate (e.0 - at) first) (e.1 ∷ spread first (e.0 + 1) es) (n - at) (suc (n - (e.0 + 1))) v there
        ∙ ap (λ zs. replicate (e.0 - at) first ++ zs) (with_at_next first e.1 (spread first (e.0 + 1) es) (n - (e.0 + 1)) v)
        ∙ ap (λ zs. replicate (e.0 - at) first ++ (e.1 ∷ zs)) rest in
        rw is stored
    by_order (inr from_e) (inr to_e) again =
        let equal : e.0 ≡ n = omega arith in
        let is : nat_cmp n e.0 ≡ Equal = ap (nat_cmp n) equal ∙ cmp_same n in
        let there : length (replicate (e.0 - at) first) + 0 ≡ n - at = omega (arith, length-replicate (e.0 - at) first) in
        let stored : with_at first (spread first at (e ∷ es)) (n - at) v ≡ replicate (e.0 - at) first
        ++ (v ∷ spread first (e.0 + 1) es) =
        with_at_past first (replicate (e.0 - at) first) (e.1 ∷ spread first (e.0 + 1) es) (n - at) 0 v there
        ∙ ap (λ zs. replicate (e.0 - at) first ++ zs) (with_at_zero first e.1 (spread first (e.0 + 1) es) v) in
        rw is stored

pub spaced_insert : {A : Type 0} (n at : ℕ) (es : List (ℕ × A)) (v : A) → IsSpaced at es → at ≤ n →
    IsSpaced at (insert_entry nat_cmp es n v)
spaced_insert n at [] v h from = (from, tt)
spaced_insert {A} n at (e ∷ es) v h from = by_order (cases_lt n e.0) (cases_lt e.0 n)
    (λ past. spaced_insert n (e.0 + 1) es v h.1 past)
  where
    by_order : (n < e.0) ⊎ (e.0 ≤ n) → (e.0 < n) ⊎ (n ≤ e.0) → (e.0 + 1 ≤ n → IsSpaced (e.0 + 1) (insert_entry nat_cmp es n v)) →
        IsSpaced at (insert_entry nat_cmp (e ∷ es) n v)
    by_order (inl less) other again =
        let is : nat_cmp n e.0 ≡ Less = cmp_less n e.0 less in
        let spaced : IsSpaced at ((n, v) ∷ e ∷ es) = (from, (omega arith, h.1)) in
        rw is spaced
    by_order (inr from_e) (inl more) again =
        let is : nat_cmp n e.0 ≡ Greater = cmp_greater n e.0 more in
        let spaced : IsSpaced at (e ∷ insert_entry nat_cmp es n v) = (h.0, again (omega arith)) in
        rw is spaced
    by_order (inr from_e) (inr to_e) again =
        let equal : e.0 ≡ n = omega arith in
        let is : nat_cmp n e.0 ≡ Equal = ap (nat_cmp n) equal ∙ cmp_same n in
        let spaced : IsSpaced at ((e.0, v) ∷ es) = (h.0, h.1) in
        rw is spaced

-- ---- how many there are

pub length_spread : {A : Type 0} (first : A) (at i : ℕ) (es : List (ℕ × A)) (p : ℕ × A) → IsSpaced at es → i + 1 ≡ length es →
    slice_get es i ≡ Some p
    → at + length (spread first at es) ≡ p.0 + 1
length_spread first at i [] p h last is = absurd (omega arith)
length_spread first at zero (e ∷ []) p h last is =
    let same : e ≡ p = cc in
    let number : e.0 ≡ p.0 = ap (λ q. q.0) same in
    omega (arith, h.0, length-append (replicate (e.0 - at) first) (e.1 ∷ []), length-replicate (e.0 - at) first)
length_spread first at (suc i) (e ∷ []) p h last is = absurd (omega arith)
length_spread first at zero (e ∷ f ∷ es) p h last is = absurd (omega arith)
length_spread first at (suc i) (e ∷ f ∷ es) p h last is =
    let behind = spread first (e.0 + 1) (f ∷ es) in
    let rest : e.0 + 1 + length behind ≡ p.0 + 1 = length_spread first (e.0 + 1) i (f ∷ es) p h.1 (omega arith) is in
    let counted : length (spread first at (e ∷ f ∷ es)) ≡ length (replicate (e.0 - at) first) + suc (length behind) =
    length-append (replicate (e.0 - at) first) (e.1 ∷ behind) in
    let filled : length (replicate (e.0 - at) first) ≡ e.0 - at = length-replicate (e.0 - at) first in
    omega (arith, h.0)

-- ---- a list and the entries behind it, which show the values xs

pub read_high : {A : Type 0} (first : A) (low xs : List A) (es : List (ℕ × A)) (n : ℕ) → low ++ spread first (length low) es ≡ xs →
    length low ≤ dense → IsSpaced dense es → length low ≤ n
    → unwrap_or (lookup (is_at (nat_cmp n)) es) first ≡ get_or xs n first
read_high first low xs es n shows small spaced past =
    get_spread first n (length low) es (spaced_lower (length low) dense es spaced small) past
    ∙ sym (get_or-append_right low (spread first (length low) es) (length low) n first refl past)
    ∙ ap (λ zs. get_or zs n first) shows

pub store_low : {A : Type 0} (first : A) (low xs : List A) (es : List (ℕ × A)) (n : ℕ) (v : A) → low ++ spread first (length low) es
    ≡ xs → n < length low
    → set low n v ++ spread first (length (set low n v)) es ≡ with_at first xs n v
store_low first low xs es n v shows below =
    ap (λ k. set low n v ++ spread first k es) (length-set low n v)
    ∙ sym (with_at_within first low (spread first (length low) es) n v below)
    ∙ ap (λ zs. with_at first zs n v) shows

-- a list that grows
store_past : {A : Type 0} (first : A) (low new : List A) (es : List (ℕ × A)) (n : ℕ) (v : A) → IsSpaced dense es → length low ≤ n →
    n < dense → new ≡ with_at first low n v
    → new ++ spread first (length new) es ≡ with_at first (low ++ spread first (length low) es) n v
store_past first low new es n v spaced past small e =
    let fill = replicate (n - length low) first in
    let is : new ≡ low ++ (fill ++ v ∷ []) = e ∙ with_at_far first low n v past in
    let long : length new ≡ n + 1 =
    ap length is
    ∙ omega (arith, length-append low (fill ++ v ∷ []), length-append fill (v ∷ []), length-replicate (n - length low) first) in
    ap (λ k. new ++ spread first k es) long
    ∙ ap (λ zs. zs ++ spread first (n + 1) es) is
    ∙ append_assoc low (fill ++ v ∷ []) (spread first (n + 1) es)
    ∙ ap (λ zs. low ++ zs) (append_assoc fill (v ∷ []) (spread first (n + 1) es))
    ∙ ap (λ zs. low ++ zs) (sym (set_before first n (length low) es v (spaced_lower (n + 1) dense es spaced (omega arith)) past))
    ∙ sym (with_at_past first low (spread first (length low) es) n (n - length low) v (omega arith))

pub length_store : {A : Type 0} (first : A) (low : List A) (n : ℕ) (v : A) → length low ≤ n → length (with_at first low n v) ≡ n + 1
length_store first low n v past =
    ap length (with_at_far first low n v past)
    ∙ omega (
      arith,
      length-append low (replicate (n - length low) first ++ v ∷ []),
      length-append (replicate (n - length low) first) (v ∷ []),
      length-replicate (n - length low) first,
    )

store_high : {A : Type 0} (first : A) (low : List A) (es : List (ℕ × A)) (n : ℕ) (v : A) → length low ≤ dense → IsSpaced dense es →
    length low ≤ n
    → low ++ spread first (length low) (insert_entry nat_cmp es n v) ≡ with_at first (low ++ spread first (length low) es) n v
store_high first low es n v small spaced past =
    ap (λ zs. low ++ zs) (sym (set_spread first n (length low) es v (spaced_lower (length low) dense es spaced small) past))
    ∙ sym (with_at_past first low (spread first (length low) es) n (n - length low) v (omega arith))

pub length_table : {A : Type 0} (first : A) (low xs : List A) (es : List (ℕ × A)) (p : ℕ × A) → low ++ spread first (length low) es
    ≡ xs → length low ≤ dense → IsSpaced dense es
    → slice_get es (length es - 1) ≡ Some p → 0 < length es → p.0 + 1 ≡ length xs
length_table first low xs es p shows small spaced last some =
    let whole : length low + length (spread first (length low) es) ≡ p.0 + 1 =
    length_spread first (length low) (length es - 1) es p (spaced_lower (length low) dense es spaced small) (omega arith) last in
    sym (length-append low (spread first (length low) es) ∙ whole) ∙ ap length shows

pub short_store : {A U E : Type 0} (r : Result U E) (first : A) (low new : List A) (n : ℕ) (v : A) →
    OnOk r (new ≡ with_at first low n v) → OnErr r (new ≡ low)
    → length low ≤ n → n < dense → length new ≤ dense
short_store (Ok u) first low new n v done stays past small = let e : length new ≡ n + 1 =
    ap length done ∙ length_store first low n v past in omega arith
short_store (Err e) first low new n v done stays past small = let e : length new ≡ length low = ap length stays in omega arith

-- what the list and the map show after a store into the list
pub stored_past : {A U E : Type 0} (r : Result U E) (first : A) (low new xs : List A) (es : List (ℕ × A)) (n : ℕ) (v : A) →
    low ++ spread first (length low) es ≡ xs → IsSpaced dense es → length low ≤ n → n < dense
    → OnOk r (new ≡ with_at first low n v) → OnOk r (new ++ spread first (length new) es ≡ with_at first xs n v)
stored_past r first low new xs es n v shows spaced past small =
    on_ok_weaker r
    (λ (done : new ≡ with_at first low n v). store_past first low new es n v spaced past small done
    ∙ ap (λ zs. with_at first zs n v) shows)

-- and after a store into the map
pub spaced_store : {A U E : Type 0} (r : Result U E) (es new : List (ℕ × A)) (n : ℕ) (v : A) → IsSpaced dense es → dense ≤ n →
    OnOk r (new ≡ insert_entry nat_cmp es n v) → OnErr r (new ≡ es)
    → IsSpaced dense new
spaced_store (Ok u) es new n v spaced past done stays = rw done (spaced_insert n dense es v spaced past)
spaced_store (Err e) es new n v spaced past done stays = rw stays spaced

pub stored_high : {A U E : Type 0} (r : Result U E) (first : A) (low xs : List A) (es new : List (ℕ × A)) (n : ℕ) (v : A) →
    low ++ spread first (length low) es ≡ xs → length low ≤ dense → IsSpaced dense es → length low ≤ n
    → OnOk r (new ≡ insert_entry nat_cmp es n v) → OnOk r (low ++ spread first (length low) new ≡ with_at first xs n v)
stored_high r first low xs es new n v shows small spaced past =
    on_ok_weaker r
    (λ (done : new ≡ insert_entry nat_cmp es n v). ap (λ ys. low ++ spread first (length low) ys) done
    ∙ store_high first low es n v small spaced past ∙ ap (λ zs. with_at first zs n v) shows)

-- a list filled up to a place
pub filled : {A : Type 0} (first : A) (low full new : List A) (n long : ℕ) (v : A) → long ≡ length low → length low ≤ n →
    full ≡ low ++ replicate (n - long) first → new ≡ full ++ v ∷ []
    → new ≡ with_at first low n v
filled first low full new n long v same past fills is =
    is ∙ ap (λ xs. xs ++ v ∷ []) (fills ∙ ap (λ k. low ++ replicate (n - k) first) same)
    ∙ append_assoc low (replicate (n - length low) first) (v ∷ []) ∙ sym (with_at_far first low n v past)

-- ---- answers

pub when_ok : {U E P : Type 0} (r : Result U E) → OnOk r P → false ≡ is_err r → P
when_ok (Ok u) p h = p
when_ok (Err e) p h = absurd (cc)

pub when_pushed : {A U E : Type 0} (r : Result U E) (xs new : List A) (v : A) → new ≡ (if is_ok r then xs ++ v ∷ [] else xs) →
    false ≡ is_err r → new ≡ xs ++ v ∷ []
when_pushed (Ok u) xs new v p h = p
when_pushed (Err e) xs new v p h = absurd (cc)

pub push_end : {A U E : Type 0} (r : Result U E) (first : A) (xs new : List A) (n : ℕ) (v : A) → n ≡ length xs →
    OnOk r (new ≡ with_at first xs n v) → OnOk r (new ≡ xs ++ v ∷ [])
push_end (Ok u) first xs new n v e done = done ∙ ap (λ k. with_at first xs k v) e ∙ with_at_end first xs v
push_end (Err e) first xs new n v is done = tt
