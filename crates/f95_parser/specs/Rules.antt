-- When tokens are of a form, and the three rules of refusal that they may break.
use Rattle.std.specs.Prelude.{◌≡◌, ℕ, ◌<◌, max, Bool, true, false, List, [], ◌∷◌}
use Rattle.f95_lexer.specs.declared.token.Token.{Token}
use Rattle.f95_lexer.specs.declared.token.Token.TheVariants as token
use Rattle.f95_tree.specs.declared.form.Form.{Form}
use Rattle.f95_tree.specs.Forms.{spell_form}
use Rattle.f95_tree.specs.WellFormed.{well_form}
use Rattle.f95_parser.specs.Words.{is_left_out}
use Rattle.f95_parser.specs.Tokens.{terminals_of, open_behind}
use Rattle.a95_base.specs.declared.source.PhaseError.{PhaseError}
use Rattle.a95_base.specs.declared.source.PhaseError.TheVariants as error

-- the tokens are of this form: what they stand for spells it
pub record IsOfForm (tokens : List Token) (form : Form) : Type 0 where
  pub spelled : terminals_of tokens ≡ spell_form form
  pub kept : well_form form ≡ true

-- whether the first token is a word that begins a statement of another language
abbrev pub begins_left_out : List Token → Bool
begins_left_out (token.Word w ∷ _) = is_left_out w
begins_left_out _ = false

-- the most brackets that are open at one token, when so many are open before
abbrev pub most_open : ℕ → List Token → ℕ
most_open n [] = n
most_open n (t ∷ ts) = max n (most_open (open_behind n t) ts)

-- so many brackets may be open at one token
abbrev pub most_brackets : ℕ
most_brackets = 64

-- the tokens are of no form
abbrev pub IsFormless : List Token → Type 0
IsFormless tokens = (form : Form) → IsOfForm tokens form → ⊥

-- 11: the tokens are of no form, and the first one begins no statement that is left out
abbrev pub HasNoForm : List Token → Type 0
HasNoForm tokens = IsFormless tokens × (begins_left_out tokens ≡ false)

-- 12: the tokens are of no form, and the first one begins a statement that is left out
abbrev pub IsLeftOut : List Token → Type 0
IsLeftOut tokens = IsFormless tokens × (begins_left_out tokens ≡ true)

-- 13: of a form, with more than so many brackets open at one token
abbrev pub OpensTooMuch : List Token → Type 0
OpensTooMuch tokens = (form : Form) × IsOfForm tokens form × (most_brackets < most_open 0 tokens)

-- the rule that a refusal names holds on the statement's line, and no lesser one
pub data Broken (line : ℕ) (tokens : List Token) : ℕ → ℕ → Type 0 where
  no_form : HasNoForm tokens → Broken line tokens line 11
  left_out : IsLeftOut tokens → Broken line tokens line 12
  too_many_open : OpensTooMuch tokens → Broken line tokens line 13

abbrev pub Refuses : ℕ → List Token → PhaseError → Type 0
Refuses line tokens (error.Broken l r) = Broken line tokens l.0 r.0
Refuses line tokens error.Memory = Unit {0}
