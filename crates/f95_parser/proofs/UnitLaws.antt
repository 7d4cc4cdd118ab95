-- Statements that begin and end program units: what is read is spelled as the terminals, and what is spelled is read.
use Rattle.std.proofs.Common.{◌≡◌, List, [], ◌∷◌, ◌++◌, Option, Some, None, sym, ◌∙◌, ap, subst, refl}
use Rattle.std.specs.Prelude.{option_map, option_and_then, codes, if◌then◌else◌}
use Rattle.f95_tree.specs.declared.terminal.Terminal.TheVariants as terminal
use Rattle.f95_tree.specs.declared.terminal.Punctuation.TheVariants as mark
use Rattle.f95_tree.specs.declared.terminal.Keyword.TheVariants as keyword
use Rattle.f95_tree.specs.declared.terminal.UnitWord.{UnitWord}
use Rattle.f95_tree.specs.declared.terminal.UnitWord.TheVariants as unit
use Rattle.f95_tree.specs.declared.form.UnitForm.{UnitForm}
use Rattle.f95_tree.specs.declared.form.UnitForm.TheVariants as unit_of
use Rattle.f95_tree.specs.Spelling.{Text, punctuated}
use Rattle.f95_tree.specs.Forms.{Word, named, unit_word, only_text, unit_text}
use Rattle.f95_tree.specs.WellFormed.{well_unit}
use Rattle.f95_expressions.proofs.Read.{mapped, chained}
use Rattle.f95_parts.specs.Views.{is_nil, behind, behind_name, behind_word, at_end, nothing_more}
use Rattle.f95_parts.specs.Parts.{name_of}
use Rattle.f95_parts.proofs.ViewLaws.{nil, behind_sound, name_sound, word_sound, end_sound, more_sound}
use Rattle.f95_parts.proofs.ListLaws.{Is}
use Rattle.f95_parts.proofs.Instances.{all_names, names as name_parts}
use Rattle.f95_statements.specs.Actions.{listed}
use Rattle.f95_statements.specs.Declarations.{procedure_of}
use Rattle.f95_statements.proofs.ConditionLaws.{listed_sound, listed_again}
use Rattle.f95_statements.proofs.ProcedureLaws.{procedure_sound}
use Rattle.f95_parser.specs.Reading.{only_of, use_named, use_of, implicit_of, unit_by}
use Rattle.f95_parser.proofs.BlockLaws.{is_as, chosen}

abbrev pub IsUnit : Text → UnitForm → Type 0
IsUnit = Is unit_text well_unit

only_sound : (ts : Text) (ns : List Word) → only_of ts ≡ Some ns → only_text (Some ns) ≡ ts
only_sound ts ns h =
    chained (λ a. option_and_then (λ b. option_and_then (listed name_of) (behind mark.Colon b)) (behind_word (codes "only") a))
    (behind mark.Comma ts) ns h (λ a ha h2.
    chained (λ b. option_and_then (listed name_of) (behind mark.Colon b)) (behind_word (codes "only") a) ns h2 (λ b hb h3.
    chained (listed name_of) (behind mark.Colon b) ns h3 (λ c hc h4.
    ap (λ t. punctuated mark.Comma (terminal.Name (codes "only") ∷ punctuated mark.Colon t))
    (listed_sound name_parts c ns h4).spelled
    ∙ ap (λ t. punctuated mark.Comma (terminal.Name (codes "only") ∷ t)) (sym (behind_sound mark.Colon b c hc))
    ∙ ap (punctuated mark.Comma) (sym (word_sound (codes "only") a b hb)) ∙ sym (behind_sound mark.Comma ts a ha))))

use_named_sound : (n : Word) (ts : Text) (u : UnitForm) → use_named (n, ts) ≡ Some u →
    IsUnit (terminal.Keyword keyword.Use ∷ terminal.Name n ∷ ts) u
use_named_sound n ts u h = chosen (is_nil ts) (Some (unit_of.Use n None))
    (option_map (λ ns. unit_of.Use n (Some ns)) (only_of ts)) u h
    (λ is_end h. let q : unit_of.Use n None ≡ u = cc in
    is_as unit_text well_unit (terminal.Keyword keyword.Use ∷ terminal.Name n ∷ ts) (unit_of.Use n None) u q
    (ap (λ t. terminal.Keyword keyword.Use ∷ terminal.Name n ∷ t) (sym (nil ts is_end))) refl)
    (λ _ h. mapped (λ ns. unit_of.Use n (Some ns)) (only_of ts) u h (λ ns hns is.
    is_as unit_text well_unit (terminal.Keyword keyword.Use ∷ terminal.Name n ∷ ts) (unit_of.Use n (Some ns)) u is
    (ap (λ t. terminal.Keyword keyword.Use ∷ terminal.Name n ∷ t) (only_sound ts ns hns)) refl))

pub use_sound : (ts : Text) (u : UnitForm) → use_of ts ≡ Some u → IsUnit (terminal.Keyword keyword.Use ∷ ts) u
use_sound ts u h = chained use_named (behind_name ts) u h (λ p hp h2.
    subst (λ t. IsUnit (terminal.Keyword keyword.Use ∷ t) u) (sym (name_sound ts p hp)) (use_named_sound p.0 p.1 u h2))

pub use_again : (n : Word) (only : Option (List Word)) → use_of (terminal.Name n ∷ only_text only) ≡ Some (unit_of.Use n only)
use_again n None = refl
use_again n (Some ns) = ap (option_map (λ ns. unit_of.Use n (Some ns)))
    (listed_again name_parts ns (all_names ns))

pub implicit_sound : (ts : Text) (u : UnitForm) → implicit_of ts ≡ Some u → IsUnit (terminal.Keyword keyword.Implicit ∷ ts) u
implicit_sound ts u h = chained (nothing_more unit_of.ImplicitNone) (behind_word (codes "none") ts) u h (λ rest hr he.
    let end = more_sound unit_of.ImplicitNone u rest he in
    is_as unit_text well_unit (terminal.Keyword keyword.Implicit ∷ ts) unit_of.ImplicitNone u end.0
    (ap (λ t. terminal.Keyword keyword.Implicit ∷ t)
    (sym (word_sound (codes "none") ts rest hr ∙ ap (λ t. terminal.Name (codes "none") ∷ t) end.1))) refl)

-- a name with nothing behind it
lone_name : (ts : Text) (n : Word) → option_and_then at_end (behind_name ts) ≡ Some n → ts ≡ named n
lone_name ts n h = chained at_end (behind_name ts) n h (λ p hp he.
    let end = end_sound p n he in name_sound ts p hp ∙ ap (λ t. terminal.Name p.0 ∷ t) end.1 ∙ ap named end.0)

pub unit_by_sound : (w : UnitWord) (ts : Text) (u : UnitForm) → unit_by w ts (unit_word w ∷ ts) ≡ Some u →
    IsUnit (unit_word w ∷ ts) u
unit_by_sound unit.Program ts u h = mapped unit_of.Program (option_and_then at_end (behind_name ts)) u h (λ n hn is.
    is_as unit_text well_unit (unit_word unit.Program ∷ ts) (unit_of.Program n) u is
    (ap (λ t. unit_word unit.Program ∷ t) (sym (lone_name ts n hn))) refl)
unit_by_sound unit.Module ts u h = mapped unit_of.Module (option_and_then at_end (behind_name ts)) u h (λ n hn is.
    is_as unit_text well_unit (unit_word unit.Module ∷ ts) (unit_of.Module n) u is
    (ap (λ t. unit_word unit.Module ∷ t) (sym (lone_name ts n hn))) refl)
unit_by_sound unit.Subroutine ts u h = mapped unit_of.Procedure (procedure_of (unit_word unit.Subroutine ∷ ts)) u h (λ p hp is.
    let c = procedure_sound (unit_word unit.Subroutine ∷ ts) p hp in is_as unit_text well_unit (unit_word unit.Subroutine ∷ ts)
    (unit_of.Procedure p) u is c.spelled c.kept)
unit_by_sound unit.Function ts u h = mapped unit_of.Procedure (procedure_of (unit_word unit.Function ∷ ts)) u h (λ p hp is.
    let c = procedure_sound (unit_word unit.Function ∷ ts) p hp in is_as unit_text well_unit (unit_word unit.Function ∷ ts)
    (unit_of.Procedure p) u is c.spelled c.kept)
