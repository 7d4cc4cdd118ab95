-- A number, an atom, a text and a reference that are spelled right are taken for what they spell.
use Rattle.std.proofs.Common.{◌≡◌, ℕ, suc, pos, negsuc, ◌+◌, ◌-◌, ◌*◌, ◌/◌, ◌%◌, ◌^◌, ◌<◌, ◌==◌, true, false, List, [], ◌∷◌, ◌++◌}
use Rattle.std.proofs.Common.{decimal, refl, ◌∙◌, ap, arith, append_assoc, mod-eq_of_lt}
use Rattle.std.proofs.lemmas.Fmt.{decimal_by_steps}
use Rattle.std.proofs.lemmas.Bool.Decides.{nat_tests}
use Rattle.std.proofs.lemmas.Int.{ints, of_z-to_z}
use mir.Facts.{to_z-neg}
use Rattle.std.specs.Int.{w64, cast_signed, int_wrapping_neg}
use Rattle.a95_base.specs.Input.{is_digit}
use Rattle.loop_tree.specs.declared.atom.Atom.{Atom}
use Rattle.loop_tree.specs.declared.atom.Atom.TheVariants as atom
use Rattle.loop_tree.specs.Text.{atom_text}
use Rattle.loop_tree.specs.Program.{FitsAtom}
use Rattle.loop_text.specs.Guess.{byte_at, NumberOn, number_onto, number_on, index_on, int_atom, loop_atom, negative_atom}
use Rattle.loop_text.specs.Guess.{positive_atom, atom_on}

-- ---- numbers

pub digit_is : (d : ℕ) → d < 10 → is_digit (48 + d) ≡ true
digit_is d h = grind (arith, nat_tests)

with_digit : (m d n : ℕ) → d < 10 → m * 10 + d ≡ n → n < 2 ^ 64 → ((m * 10) % 2 ^ 64 + (48 + d - 48)) % 2 ^ 64 ≡ n
with_digit m d n h e small = omega arith

next_digit : (m d n : ℕ) (rest : List ℕ) → d < 10 → m * 10 + d ≡ n → n < 2 ^ 64 → number_onto m ((48 + d) ∷ rest)
    ≡ number_onto n rest
next_digit m d n rest h e small = rw (digit_is d h) (ap (λ k. number_onto k rest) (with_digit m d n h e small))

number_more : (n : ℕ) → n < 2 ^ 64 → (rest : List ℕ) → number_onto 0 (decimal n ++ rest) ≡ number_onto n rest
number_more n small = decimal_by_steps (λ n ds. n < 2 ^ 64 → (rest : List ℕ) → number_onto 0 (ds ++ rest) ≡ number_onto n rest)
    (λ n h low rest. next_digit 0 n n rest h (omega arith) low)
    (λ n ds h more low rest.
    ap (number_onto 0) (append_assoc ds ((48 + n % 10) ∷ []) rest)
    ∙ (more (omega arith) ((48 + n % 10) ∷ rest) ∙ next_digit (n / 10) (n % 10) n rest (omega arith) (omega arith) low))
    n small small

number_stops : (n : ℕ) (rest : List ℕ) → is_digit (byte_at rest 0) ≡ false → number_onto n rest ≡ record { value = n; rest = rest }
number_stops n [] e = refl
number_stops n (c ∷ cs) e = rw e refl

pub number_again : (n : ℕ) (rest : List ℕ) → n < 2 ^ 64 → is_digit (byte_at rest 0) ≡ false → number_on (decimal n ++ rest)
    ≡ record { value = n; rest = rest }
number_again n rest small e = number_more n small rest ∙ number_stops n rest e

pub index_again : (n : ℕ) (rest : List ℕ) → n < 2 ^ 32 → is_digit (byte_at rest 0) ≡ false → index_on (decimal n ++ rest)
    ≡ record { value = n; rest = rest }
index_again n rest small e =
    let whole = number_again n rest (omega arith) e in
    let cut : n % 2 ^ 32 ≡ n = mod-eq_of_lt small in
    ap (λ (k : NumberOn). record { value = k.value % 2 ^ 32; rest = k.rest }) whole
    ∙ ap (λ v. record { value = v; rest = rest }) cut

-- ---- atoms

pub first_digit : (n : ℕ) → n < 2 ^ 64 → (rest : List ℕ) → is_digit (byte_at (decimal n ++ rest) 0) ≡ true
first_digit n small = decimal_by_steps (λ n ds. (rest : List ℕ) → is_digit (byte_at (ds ++ rest) 0) ≡ true)
    (λ n h rest. digit_is n h)
    (λ n ds h more rest. ap (λ bytes. is_digit (byte_at bytes 0)) (append_assoc ds ((48 + n % 10) ∷ []) rest)
    ∙ more ((48 + n % 10) ∷ rest))
    n small

pub digit_differs : (c k : ℕ) → is_digit c ≡ true → 57 < k → (c == k) ≡ false
digit_differs c k e h = grind (arith, nat_tests)

digit_is_no_minus : (c : ℕ) → is_digit c ≡ true → (c == 45) ≡ false
digit_is_no_minus c e = grind (arith, nat_tests)

atom_of_digits : (bytes : List ℕ) → is_digit (byte_at bytes 0) ≡ true → atom_on bytes ≡ positive_atom (number_on bytes)
unfolding atom_on
atom_of_digits bytes e =
    rw (
      digit_differs (byte_at bytes 0) 105 e (omega arith),
      digit_differs (byte_at bytes 0) 107 e (omega arith),
      digit_is_no_minus (byte_at bytes 0) e,
    ) refl

negative_is : (n : ℕ) → n < 2 ^ 63 → int_wrapping_neg w64 (cast_signed w64 (suc n)) ≡ negsuc n
negative_is n h =
    let low : suc n < 2 ^ 64 = omega arith in
    let less : 2 ^ 64 - suc n < 2 ^ 64 = omega arith in
    ap (λ u. cast_signed w64 ((2 ^ 64 - u) % 2 ^ 64)) (of_z-to_z w64 (suc n) low)
    ∙ (ap (cast_signed w64) (mod-eq_of_lt less) ∙ to_z-neg w64 n h)

positive_is : (n : ℕ) → n < 2 ^ 63 → cast_signed w64 n ≡ pos n
positive_is n h = omega (arith, ints)

pub atom_again : (a : Atom) (rest : List ℕ) → FitsAtom a → is_digit (byte_at rest 0) ≡ false → atom_on (atom_text a ++ rest)
    ≡ record { value = a; rest = rest }
unfolding atom_on
atom_again (atom.Int n) rest h e = ap int_atom (index_again n rest h e)
atom_again (atom.Loop k) rest h e = ap loop_atom (index_again k rest h e)
atom_again (atom.Number (pos n)) rest h e =
    let small : n < 2 ^ 63 = omega arith in
    let low : n < 2 ^ 64 = omega arith in
    atom_of_digits (decimal n ++ rest) (first_digit n low rest)
    ∙ (ap positive_atom (number_again n rest low e) ∙ ap (λ z. record { value = atom.Number z; rest = rest }) (positive_is n small))
atom_again (atom.Number (negsuc n)) rest h e =
    let small : n < 2 ^ 63 = omega arith in
    let low : suc n < 2 ^ 64 = omega arith in
    ap negative_atom (number_again (suc n) rest low e) ∙ ap (λ z. record { value = atom.Number z; rest = rest })
    (negative_is n small)
