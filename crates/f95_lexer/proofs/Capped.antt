-- A number that is counted no further than just past the greatest INTEGER is as good as the whole number.
use Rattle.std.proofs.Common.{◌≡◌, ℕ, pos, ◌+◌, ◌-◌, ◌*◌, ◌<◌, ◌≤◌, min, false, cond, nat_lt, List, [], ◌∷◌, length, Some, None}
use Rattle.std.proofs.Common.{refl, sym, ap, ◌∙◌, ⊎_elim, arith}
use Rattle.std.proofs.lemmas.Bool.Decides.{nat_tests}
use Rattle.std.proofs.lemmas.Bool.{cases_lt}
use Rattle.a95_base.specs.Input.{is_digit}
use Rattle.f95_lexer.specs.declared.character.Character.{Character}
use Rattle.f95_lexer.specs.Lexeme.{value_from, integer, front, bytes_of}

at_least : (n : ℕ) (ds : List ℕ) → 2147483648 ≤ n → 2147483648 ≤ value_from n ds
at_least n [] h = h
at_least n (d ∷ ds) h = at_least (n * 10 + (d - 48)) ds (omega arith)

past : (v : ℕ) → 2147483648 ≤ v → integer v ≡ None
past v h =
    let b : nat_lt v 2147483648 ≡ false = grind (arith, nat_tests) in
    ap (λ t. cond t (Some (pos v)) None) b

capped : (n : ℕ) (ds : List ℕ) → integer (value_from (min n 2147483648) ds) ≡ integer (value_from n ds)
capped n ds = ⊎_elim
    (λ (h : n < 2147483648). let e : min n 2147483648 ≡ n = omega arith in ap (λ m. integer (value_from m ds)) e)
    (λ (h : 2147483648 ≤ n). let e : min n 2147483648 ≡ 2147483648 = omega arith in
    ap (λ m. integer (value_from m ds)) e ∙ past _ (at_least 2147483648 ds (omega arith)) ∙ sym (past _ (at_least n ds h)))
    (cases_lt n 2147483648)

-- the number that is counted
abbrev pub capped_from : ℕ → List ℕ → ℕ
capped_from n [] = n
capped_from n (d ∷ ds) = capped_from (min (n * 10 + (d - 48)) 2147483648) ds

pub capped_is : (n : ℕ) (ds : List ℕ) → integer (value_from n ds) ≡ integer (capped_from n ds)
capped_is n [] = refl
capped_is n (d ∷ ds) = sym (capped (n * 10 + (d - 48)) ds) ∙ capped_is (min (n * 10 + (d - 48)) 2147483648) ds

-- no further digit
pub ended : (v k : ℕ) (ds all : List ℕ) → ds ≡ [] → capped_from v ds ≡ capped_from k all → integer v ≡ integer (value_from k all)
ended v k ds all none same = ap integer (sym (ap (capped_from v) none) ∙ same) ∙ sym (capped_is k all)

pub none_left : (rest : List Character) → length rest < 1 → front is_digit (bytes_of rest) ≡ []
none_left [] few = refl
none_left (c ∷ cs) few = absurd (omega arith)
