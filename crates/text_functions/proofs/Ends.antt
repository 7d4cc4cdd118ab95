-- Blanks at the end of a text.
use Rattle.std.proofs.Common.{◌≡◌, ◌≢◌, ℕ, ◌+◌, ◌-◌, ◌<◌, ◌≤◌, true, false, ◌&&◌, List, [], ◌∷◌, ◌++◌, length, get_or, take, refl}
use Rattle.std.proofs.Common.{sym, ap, ◌∙◌, arith}
use Rattle.std.specs.Prelude.{if◌then◌else◌}
use Rattle.std.specs.List.{list_all}
use Rattle.std.proofs.lemmas.List.{take_more}
use Rattle.std.proofs.lemmas.List.Folds.{list_all-append}
use Rattle.std.proofs.Math.Bool.{and-true, and-false}
use Rattle.std.proofs.lemmas.Bool.Decides.{nat_tests}
use Rattle.a95_base.specs.Text.{is_blank, trim}

trim_blank : (xs : List ℕ) (c : ℕ) → is_blank c ≡ true → trim (xs ++ c ∷ []) ≡ trim xs
trim_blank [] c h = rw h refl
trim_blank (x ∷ xs) c h =
    let all : list_all is_blank ((x ∷ xs) ++ c ∷ []) ≡ list_all is_blank (x ∷ xs) =
    list_all-append is_blank (x ∷ xs) (c ∷ []) ∙ ap (λ b. list_all is_blank (x ∷ xs) && (b && true)) h
    ∙ and-true (list_all is_blank (x ∷ xs)) in
    ap (λ b. if b then [] else (x ∷ trim (xs ++ c ∷ []))) all
    ∙ ap (λ ys. if list_all is_blank (x ∷ xs) then [] else (x ∷ ys)) (trim_blank xs c h)

trim_end : (xs : List ℕ) (c : ℕ) → is_blank c ≡ false → trim (xs ++ c ∷ []) ≡ xs ++ c ∷ []
trim_end [] c h = rw h refl
trim_end (x ∷ xs) c h =
    let all : list_all is_blank ((x ∷ xs) ++ c ∷ []) ≡ false =
    list_all-append is_blank (x ∷ xs) (c ∷ []) ∙ ap (λ b. list_all is_blank (x ∷ xs) && (b && true)) h
    ∙ and-false (list_all is_blank (x ∷ xs)) in
    ap (λ b. if b then [] else (x ∷ trim (xs ++ c ∷ []))) all
    ∙ ap (λ ys. x ∷ ys) (trim_end xs c h)

take_end : (text : List ℕ) (n : ℕ) → 0 < n → n ≤ length text → take n text ≡ take (n - 1) text ++ get_or text (n - 1) 0 ∷ []
take_end text n some within = let e : n ≡ n - 1 + 1 = omega arith in ap (λ k. take k text) e
    ∙ take_more text (n - 1) 0 (omega arith)

-- the same by a place
pub trim_step : (text : List ℕ) (n : ℕ) → 0 < n → n ≤ length text → get_or text (n - 1) 0 ≡ 32 →
    trim (take n text) ≡ trim (take (n - 1) text)
trim_step text n some within blank = ap trim (take_end text n some within)
    ∙ trim_blank (take (n - 1) text) (get_or text (n - 1) 0) (ap is_blank blank)

pub trim_stop : (text : List ℕ) (n : ℕ) → 0 < n → n ≤ length text → get_or text (n - 1) 0 ≢ 32 → trim (take n text) ≡ take n text
trim_stop text n some within other =
    let is : is_blank (get_or text (n - 1) 0) ≡ false = grind (arith, nat_tests) in
    let whole = take_end text n some within in
    ap trim whole ∙ trim_end (take (n - 1) text) (get_or text (n - 1) 0) is ∙ sym whole
