-- Bytes that break no rule read as a source.
use Rattle.std.proofs.Common.{◌≡◌, ℕ, ◌≤◌, List, [], ◌∷◌, refl, inl}
use Rattle.f95_lexer.specs.declared.token.Statement.{Statement}
use Rattle.f95_lexer.specs.declared.token.Token.{Token}
use Rattle.f95_lexer.specs.Spelling.{Cuts}
use Rattle.f95_lexer.specs.Rules as text
use Rattle.f95_tree.specs.declared.form.Form.{Form}
use Rattle.f95_tree.specs.declared.source.Source.{Source}
use Rattle.f95_parser.specs.Rules.{IsOfForm, Broken, most_open, most_brackets}
use Rattle.f95_nesting.specs.Nesting.{Lined, Nests}
use Rattle.f95_nesting.specs.Nesting as nesting
use Rattle.f95_reader.specs.Judging.{OneBreaks}
use Rattle.f95_reader.specs.Reading.{AreForms, in_text, in_form, in_nesting, IsUnbroken, ReadsSource}
use Rattle.f95_reader.proofs.Judgements.{later}
use Rattle.f95_reader.proofs.LeastLaws.{reads}

-- what the three phases say of what breaks none of their rules
abbrev pub CutsWhole : Type 0
CutsWhole = (bytes : List ℕ) → ((line rule : ℕ) → text.IsBroken bytes line rule → ⊥) → (statements : List Statement) × (feeds : ℕ)
    × Cuts bytes statements feeds

abbrev pub FormsWhole : Type 0
FormsWhole = (line : ℕ) (tokens : List Token) → ((l r : ℕ) → Broken line tokens l r → ⊥) → (form : Form) × IsOfForm tokens form
    × (most_open 0 tokens ≤ most_brackets)

abbrev pub NestsWhole : Type 0
NestsWhole = (forms : List Lined) (feeds : ℕ) → ((line rule : ℕ) → nesting.IsBroken forms feeds line rule → ⊥) →
    (s : Source) × Nests forms s

all_formed : FormsWhole → (ss : List Statement) → ((line rule : ℕ) → OneBreaks ss line rule → ⊥) → (forms : List Lined)
    × AreForms ss forms
all_formed whole [] unbroken = ([], tt)
all_formed whole (s ∷ ss) unbroken =
    let first = whole s.line.0 s.tokens (λ l. λ r. λ b. unbroken l r (record { statement = s; among = inl refl; broken = b })) in
    let rest = all_formed whole ss (λ l. λ r. λ o. unbroken l r (later s ss l r o)) in
    ((s.line, first.0) ∷ rest.0, (record { line = refl; form = first.1; few = first.2 }, rest.1))

pub unbroken_read : CutsWhole → FormsWhole → NestsWhole → (bytes : List ℕ) → IsUnbroken bytes → (s : Source) × ReadsSource bytes s
unbroken_read cuts formed nests bytes unbroken =
    let cut = cuts bytes (λ l. λ r. λ b. unbroken 1 l r (in_text b)) in
    let forms = all_formed formed cut.0 (λ l. λ r. λ o. unbroken 2 l r (in_form (record {
      statements = cut.0;
      feeds = cut.1;
      cut = cut.2;
      statement = o.statement;
      among = o.among;
      broken = o.broken;
    }))) in
    let whole : (l r : ℕ) → nesting.IsBroken forms.0 cut.1 l r → ⊥ = λ l. λ r. λ b. unbroken 3 l r (in_nesting (record {
      forms = forms.0;
      feeds = cut.1;
      has = record { statements = cut.0; cut = cut.2; are = forms.1 };
      broken = b;
    })) in
    let source = nests forms.0 cut.1 whole in
    (source.0, reads bytes cut.0 cut.1 forms.0 source.0 cut.2 forms.1 source.1 whole)
