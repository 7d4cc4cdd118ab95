-- Laws of texts.
use Rattle.std.proofs.Common.{◌≡◌, ℕ, suc, ◌+◌, ◌-◌, ◌<◌, List, ◌∷◌, ◌++◌, length, get_or, take, drop, replicate, false, true, sym}
use Rattle.std.proofs.Common.{ap, ◌∙◌, arith, zero, ◌≤◌, [], refl}
use Rattle.std.specs.Prelude.{max, nat_lt, ◌==◌, cond, decimal}
use Rattle.std.specs.List.{list_all}
use Rattle.std.specs.Str.{bytes_eq}
use Rattle.std.proofs.lemmas.Fmt.{decimal_digit}
use Rattle.std.proofs.lemmas.Slice.Eq.{bytes_eq-Decides}
use Rattle.std.specs.Ordering.{nat_cmp, ordering_then}
use Rattle.std.specs.Cmp.Lexicographic.{slice_cmp}
use Rattle.std.specs.declared.cmp.Ordering.TheVariants.{Less, Equal, Greater}
use Rattle.std.proofs.lemmas.List.{at_drop_more}
use Rattle.std.proofs.lemmas.Bool.Decides.{nat_tests}
use Rattle.a95_base.specs.Input.{is_digit, is_number}
use Rattle.a95_base.specs.Text.{fit, compare_padded}

pub cmp_same : (c : ℕ) → nat_cmp c c ≡ Equal
cmp_same c =
    let below : nat_lt c c ≡ false = grind (arith, nat_tests) in
    let same : (c == c) ≡ true = grind (arith, nat_tests) in
    ap (λ b. cond b Less (cond (c == c) Equal Greater)) below ∙ ap (λ b. cond b Equal Greater) same

fit_front : (n c : ℕ) (xs : List ℕ) → fit (suc n) (c ∷ xs) ≡ c ∷ fit n xs
fit_front n c xs = let rest : suc n - suc (length xs) ≡ n - length xs = omega arith in
    ap (λ k. c ∷ (take n xs ++ replicate k 32)) rest

-- a byte that both begin with decides nothing
pub same_front : (c : ℕ) (xs ys : List ℕ) → compare_padded (c ∷ xs) (c ∷ ys) ≡ compare_padded xs ys
same_front c xs ys =
    let most : max (length (c ∷ xs)) (length (c ∷ ys)) ≡ suc (max (length xs) (length ys)) = omega arith in
    let n = max (length xs) (length ys) in
    ap (λ m. slice_cmp nat_cmp (fit m (c ∷ xs)) (fit m (c ∷ ys))) most
    ∙ ap (λ zs. slice_cmp nat_cmp zs (fit (suc n) (c ∷ ys))) (fit_front n c xs)
    ∙ ap (λ zs. slice_cmp nat_cmp (c ∷ fit n xs) zs) (fit_front n c ys)
    ∙ ap (λ o. ordering_then o (slice_cmp nat_cmp (fit n xs) (fit n ys))) (cmp_same c)

-- the same by a place
pub same_at : (xs ys : List ℕ) (i : ℕ) → i < length xs → i < length ys → get_or xs i 0 ≡ get_or ys i 0
    → compare_padded (drop (i + 1) xs) (drop (i + 1) ys) ≡ compare_padded (drop i xs) (drop i ys)
same_at xs ys i left right same =
    let c = get_or ys i 0 in
    sym (
    at_drop_more (λ zs. compare_padded zs (drop i ys)) xs i 0 left
    ∙ ap (λ d. compare_padded (d ∷ drop (i + 1) xs) (drop i ys)) same
    ∙ at_drop_more (λ zs. compare_padded (c ∷ drop (i + 1) xs) zs) ys i 0 right
    ∙ same_front c (drop (i + 1) xs) (drop (i + 1) ys)
    )

-- ---- the same bytes

pub bytes_same : (xs : List ℕ) → bytes_eq xs xs ≡ true
bytes_same xs = (bytes_eq-Decides xs xs).1 refl

pub same_bytes : (xs ys : List ℕ) → bytes_eq xs ys ≡ true → xs ≡ ys
same_bytes xs ys e = (bytes_eq-Decides xs ys).0 e

-- ---- digits

pub is_number-some : (digits : List ℕ) → 0 < length digits → is_number digits ≡ list_all is_digit digits
is_number-some [] h = absurd (omega arith)
is_number-some (c ∷ cs) h = refl

-- what is written of a number begins with no nought but for 0
pub some_number : (n : ℕ) (digits : List ℕ) → decimal n ≡ digits → 49 ≤ get_or digits 0 0 → 0 < n
some_number zero digits e h =
    let z : decimal 0 ≡ 48 ∷ [] = decimal_digit 0 (omega arith) in
    let first : get_or digits 0 0 ≡ 48 = ap (λ xs. get_or xs 0 0) (sym e ∙ z) in
    absurd (omega arith)
some_number (suc n) digits e h = omega arith
