-- What is known of scopes and of rules.
use Rattle.std.specs.Prelude.{◌≡◌, ℕ, true, false, Some, None}
use Rattle.a95_base.specs.declared.breaks.Break.{Break}
use Rattle.a95_base.specs.Breaks.{AreBroken, IsLeast, first_of}
use Rattle.a95_base.specs.Lists.{Every, Pairwise}
use Rattle.a95_base.specs.Rules.{declared_twice}
use Rattle.f95_tree.specs.Forms.{Word}
use Rattle.f95_tree.specs.declared.source.Source.{Source as Nested}
use Rattle.intrinsic_table.specs.Finding.{is_word}
use Rattle.names_types.specs.Plain.{Source}
use Rattle.names_types.specs.Scopes.{Entry, Scope, entries, scopes, is_undeclared, is_of_host}
use Rattle.names_types.specs.Rules.{Breaks}
use Rattle.names_types.specs.View.{source_of}
use Rattle.names_types.specs.Broken.{IsBroken}
use Rattle.names_types.specs.Listed.{breaks_of}

-- the list has all that a source breaks, and nothing else
abbrev pub ListedAreBroken : Type 0
ListedAreBroken = (s : Nested) → AreBroken (IsBroken s) (breaks_of (source_of s))

-- the first of them is what a refusal says, and where there is none nothing is broken
abbrev pub FirstIsLeast : Type 0
FirstIsLeast = (s : Nested) (b : Break) → first_of (breaks_of (source_of s)) ≡ Some b → IsLeast (IsBroken s) b.line b.rule

abbrev pub NoneIsUnbroken : Type 0
NoneIsUnbroken = (s : Nested) → first_of (breaks_of (source_of s)) ≡ None → (line rule : ℕ) → IsBroken s line rule → ⊥

-- the second of two declarations is of another name
abbrev pub IsOther : Entry → Entry → Type 0
IsOther d e = is_word e.name d.name ≡ false

abbrev pub DeclaresEachOnce : Scope → Type 0
DeclaresEachOnce c = Pairwise IsOther (entries c)

-- where rule 18 holds on no line, no scope declares a name twice
abbrev pub EachDeclaredOnce : Type 0
EachDeclaredOnce = (s : Source) → ((line : ℕ) → Breaks s line declared_twice → ⊥) → Every DeclaresEachOnce (scopes s)

-- of a name that breaks rule 28, rule 19 doesn't speak
abbrev pub HostIsDeclared : Type 0
HostIsDeclared = (c : Scope) (name : Word) → is_of_host c name ≡ true → is_undeclared c name ≡ false
