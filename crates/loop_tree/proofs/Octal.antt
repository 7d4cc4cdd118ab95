-- The three octal digits of a byte as they are printed.
use Rattle.std.proofs.Common.{◌≡◌, ℕ, ◌<◌, ◌/◌, ◌%◌, Bool, false, ◌∷◌, ◌++◌, decimal, arith, refl, sym, ◌∙◌, ap}
use Rattle.std.proofs.lemmas.Fmt.{decimal_digit}
use Rattle.loop_tree.specs.Text.{is_plain, octal, byte_text}

digits_of_byte : (c : ℕ) → c < 256 → decimal (c / 64) ++ (decimal (c / 8 % 8) ++ decimal (c % 8)) ≡ octal c
digits_of_byte c h =
    rw (decimal_digit (c / 64) (omega arith), decimal_digit (c / 8 % 8) (omega arith), decimal_digit (c % 8) (omega arith)) refl

escaped : (c : ℕ) (b : Bool) → is_plain c ≡ b → b ≡ false → byte_text c ≡ 92 ∷ octal c
escaped c b e f = let never : is_plain c ≡ false = e ∙ f in rw never refl

pub printed_octal : (c : ℕ) → c < 256 → is_plain c ≡ false → 92 ∷ (decimal (c / 64) ++ (decimal (c / 8 % 8) ++ decimal (c % 8)))
    ≡ byte_text c
printed_octal c h e = ap (λ ds. 92 ∷ ds) (digits_of_byte c h) ∙ sym (escaped c (is_plain c) refl e)
