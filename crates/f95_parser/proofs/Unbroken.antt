-- Tokens that break no rule are of a form, with few brackets open.
use Rattle.std.proofs.Common.{◌≡◌, ℕ, ◌≤◌, ◌<◌, Bool, true, false, List, Option, Some, None, refl, arith}
use Rattle.f95_lexer.specs.declared.token.Token.{Token}
use Rattle.f95_tree.specs.declared.form.Form.{Form}
use Rattle.f95_parser.specs.Rules.{IsOfForm, IsFormless, Broken, no_form, left_out, too_many_open, begins_left_out, most_open}
use Rattle.f95_parser.specs.Rules.{most_brackets}

-- the tokens break no rule on this line
abbrev pub IsUnbroken : ℕ → List Token → Type 0
IsUnbroken line tokens = (l r : ℕ) → Broken line tokens l r → ⊥

of_none : (line : ℕ) (tokens : List Token) (b : Bool) → begins_left_out tokens ≡ b → IsFormless tokens → IsUnbroken line tokens → ⊥
of_none line tokens true is none unbroken = unbroken line 12 (left_out (none, is))
of_none line tokens false is none unbroken = unbroken line 11 (no_form (none, is))

few : (n : ℕ) → (most_brackets < n → ⊥) → n ≤ most_brackets
few n many = omega (arith, many)

-- by what the tokens are found to be
pub unbroken_by : (line : ℕ) (tokens : List Token) (found : Option Form)
    → ((form : Form) → found ≡ Some form → IsOfForm tokens form) → (found ≡ None → IsFormless tokens) → IsUnbroken line tokens
    → (form : Form) × IsOfForm tokens form × (most_open 0 tokens ≤ most_brackets)
unbroken_by line tokens None of_form formless unbroken =
    absurd (of_none line tokens (begins_left_out tokens) refl (formless refl) unbroken)
unbroken_by line tokens (Some form) of_form formless unbroken = let is = of_form form refl in
    (form, is, few (most_open 0 tokens) (λ many. unbroken line 13 (too_many_open (form, is, many))))
