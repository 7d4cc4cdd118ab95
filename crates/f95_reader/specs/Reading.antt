-- What bytes read as before any name is looked up, and the rules that they break: text, forms, nesting.
use Rattle.std.specs.Prelude.{◌≡◌, ℕ, ◌≤◌, ◌<◌, ◌⊎◌, List, [], ◌∷◌}
use Rattle.a95_base.specs.Lists.{Member}
use Rattle.f95_lexer.specs.declared.token.Statement.{Statement}
use Rattle.f95_lexer.specs.Spelling.{Cuts}
use Rattle.f95_lexer.specs.Rules as text
use Rattle.f95_tree.specs.declared.source.Source.{Source}
use Rattle.f95_parser.specs.Rules.{IsOfForm, Broken, most_open, most_brackets}
use Rattle.f95_nesting.specs.Nesting.{Lined, Nests}
use Rattle.f95_nesting.specs.Nesting as nesting
use Rattle.f95_reader.specs.declared.refusal.Refusal.{Refusal}
use Rattle.f95_reader.specs.declared.refusal.Refusal.TheVariants as refusal

-- the tokens of the statement are of this form, which stands on its line
pub record IsFormOf (s : Statement) (f : Lined) : Type 0 where
  pub line : f.0 ≡ s.line
  pub form : IsOfForm s.tokens f.1
  pub few : most_open 0 s.tokens ≤ most_brackets

-- each statement has its form
abbrev pub AreForms : List Statement → List Lined → Type 0
AreForms [] [] = Unit {0}
AreForms (s ∷ ss) (f ∷ fs) = IsFormOf s f × AreForms ss fs
AreForms _ _ = ⊥

-- the bytes are cut into statements of these forms, with so many line feeds
pub record HasForms (bytes : List ℕ) (forms : List Lined) (feeds : ℕ) : Type 0 where
  pub statements : List Statement
  pub cut : Cuts bytes statements feeds
  pub are : AreForms statements forms

-- a statement of the bytes breaks the rule
pub record BreaksInForm (bytes : List ℕ) (line rule : ℕ) : Type 0 where
  pub statements : List Statement
  pub feeds : ℕ
  pub cut : Cuts bytes statements feeds
  pub statement : Statement
  pub among : Member statements statement
  pub broken : Broken statement.line.0 statement.tokens line rule

-- their forms break the rule
pub record BreaksInNesting (bytes : List ℕ) (line rule : ℕ) : Type 0 where
  pub forms : List Lined
  pub feeds : ℕ
  pub has : HasForms bytes forms feeds
  pub broken : nesting.IsBroken forms feeds line rule

-- the bytes break this rule of this phase on this line
pub data IsBroken (bytes : List ℕ) : ℕ → ℕ → ℕ → Type 0 where
  in_text : {line rule : ℕ} → text.IsBroken bytes line rule → IsBroken bytes 1 line rule
  in_form : {line rule : ℕ} → BreaksInForm bytes line rule → IsBroken bytes 2 line rule
  in_nesting : {line rule : ℕ} → BreaksInNesting bytes line rule → IsBroken bytes 3 line rule

-- they break none
abbrev pub IsUnbroken : List ℕ → Type 0
IsUnbroken bytes = (phase line rule : ℕ) → IsBroken bytes phase line rule → ⊥

-- the bytes read as these nested forms: their statements have forms that nest so and break no rule of nesting
pub record ReadsSource (bytes : List ℕ) (source : Source) : Type 0 where
  pub forms : List Lined
  pub feeds : ℕ
  pub has : HasForms bytes forms feeds
  pub nests : Nests forms source
  pub unbroken : (line rule : ℕ) → nesting.IsBroken forms feeds line rule → ⊥

-- a phase, a line and a rule come before others, or are the same
abbrev pub ComesFirst : ℕ → ℕ → ℕ → ℕ → ℕ → ℕ → Type 0
ComesFirst phase line rule other_phase other_line other_rule =
    (phase < other_phase) ⊎ ((phase ≡ other_phase) × ((line < other_line) ⊎ ((line ≡ other_line) × (rule ≤ other_rule))))

-- of all that is broken, the first phase, in it the first line, and on that the least rule
pub record IsLeast (Breaks : ℕ → ℕ → ℕ → Type 0) (phase line rule : ℕ) : Type 0 where
  pub broken : Breaks phase line rule
  pub least : (other_phase other_line other_rule : ℕ) → Breaks other_phase other_line other_rule →
      ComesFirst phase line rule other_phase other_line other_rule

-- what a refusal of these bytes says; want of memory is free
abbrev pub Refuses : List ℕ → Refusal → Type 0
Refuses bytes (refusal.Refused phase line rule) = IsLeast (IsBroken bytes) phase line.0 rule.0
Refuses bytes refusal.Memory = Unit {0}
