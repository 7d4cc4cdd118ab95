-- What fields are taken for is spelled as they are, and is taken again.
use Rattle.std.proofs.Common.{◌≡◌, true, ◌&&◌, [], ◌++◌, Option, Some, None, sym, ◌∙◌, ap}
use Rattle.std.proofs.Common.{append_assoc}
use Rattle.std.specs.Prelude.{option_map, option_and_then}
use Rattle.f95_tree.specs.declared.expression.Expression.{Expression}
use Rattle.f95_tree.specs.declared.expression.Expression.TheVariants as e
use Rattle.f95_tree.specs.declared.expression.Reference.{Reference}
use Rattle.f95_tree.specs.declared.expression.Reference.TheVariants as r
use Rattle.f95_tree.specs.declared.expression.Item.{Item}
use Rattle.f95_tree.specs.declared.expression.Item.TheVariants as i
use Rattle.f95_tree.specs.declared.expression.Value.{Value}
use Rattle.f95_tree.specs.declared.expression.Value.TheVariants as v
use Rattle.f95_tree.specs.declared.declaration.Dim.{Dim}
use Rattle.f95_tree.specs.declared.declaration.Dim.TheVariants as dim
use Rattle.f95_tree.specs.declared.action.Bound.{Bound}
use Rattle.f95_tree.specs.declared.action.Bound.TheVariants as bound
use Rattle.f95_tree.specs.declared.action.Assignment.{Assignment}
use Rattle.f95_tree.specs.declared.form.CaseRange.{CaseRange}
use Rattle.f95_tree.specs.declared.form.CaseRange.TheVariants as range
use Rattle.f95_tree.specs.declared.terminal.Terminal.TheVariants as terminal
use Rattle.f95_tree.specs.declared.terminal.Punctuation.TheVariants as mark
use Rattle.f95_tree.specs.Spelling.{punctuated, expression, reference, value}
use Rattle.f95_tree.specs.Grades.{Grade, well, well_reference, well_value}
use Rattle.f95_tree.specs.Forms.{Word, named, assignment_text}
use Rattle.f95_tree.specs.WellFormed.{well_assignment}
use Rattle.f95_tree.proofs.Nodes.{expression-Reference, reference-Whole, value-One, well_value-One, grade-Reference}
use Rattle.f95_tree.proofs.Nodes.{well_reference-Whole}
use Rattle.f95_tree.proofs.Views.{seen-Literal, seen-Reference, seen-Bracketed, seen-Constructor, seen-Signed, seen-Binary}
use Rattle.f95_tree.proofs.Views.{seen-Whole, seen-One}
use Rattle.f95_tree.proofs.Induction.{expression_cases}
use Rattle.f95_expressions.specs.declared.pending.Field.{Field}
use Rattle.f95_expressions.specs.declared.pending.Spread.{Spread}
use Rattle.f95_expressions.specs.declared.pending.Spread.TheVariants as spread
use Rattle.f95_expressions.specs.Fields.{field_text, well_field}
use Rattle.f95_expressions.specs.Machine.{lone, whole, name_in, name_in_reference, expression_in, field}
use Rattle.f95_expressions.specs.Machine.{expression_of}
use Rattle.f95_expressions.proofs.Fields.{expression_field}
use Rattle.f95_expressions.proofs.Read.{mapped, chained, lone_sound, whole_sound, expression_sound}
use Rattle.f95_parts.specs.Parts.{as_reference, reference_in, reference_of, name_of, spread_expression}
use Rattle.f95_parts.specs.Parts.{assignment, assignment_from, assignment_of}

-- ---- expressions, references and names

pub lone_again : (x : Expression) → lone (v.One x) ≡ Some x
lone_again x = ap expression_in (seen-One x)

pub expression_again : (x : Expression) → expression_of (expression_field x) ≡ Some x
expression_again x = lone_again x

pub expression_text : (x : Expression) → field_text (expression_field x) ≡ expression x
expression_text x = value-One x

pub expression_well : (x : Expression) → well_field (expression_field x) ≡ well x
expression_well x = well_value-One x

abbrev As : Expression → Type 0
As x = (y : Reference) → as_reference x ≡ Some y → x ≡ e.Reference y

pub as_reference_sound : (x : Expression) (y : Reference) → as_reference x ≡ Some y → x ≡ e.Reference y
as_reference_sound = expression_cases As record {
  on_literal = λ l y h. let q = sym (ap reference_in (seen-Literal l)) ∙ h in absurd (cc);
  on_reference = λ x y h. let q = sym (ap reference_in (seen-Reference x)) ∙ h in ap e.Reference (cc);
  on_bracketed = λ x y h. let q = sym (ap reference_in (seen-Bracketed x)) ∙ h in absurd (cc);
  on_constructor = λ vs y h. let q = sym (ap reference_in (seen-Constructor vs)) ∙ h in absurd (cc);
  on_signed = λ s x y h. let q = sym (ap reference_in (seen-Signed s x)) ∙ h in absurd (cc);
  on_binary = λ op a b y h. let q = sym (ap reference_in (seen-Binary op a b)) ∙ h in absurd (cc);
}

pub as_reference_again : (x : Reference) → as_reference (e.Reference x) ≡ Some x
as_reference_again x = ap reference_in (seen-Reference x)

abbrev pub reference_field : Reference → Field
reference_field x = expression_field (e.Reference x)

pub reference_sound : (f : Field) (x : Reference) → reference_of f ≡ Some x → f ≡ reference_field x
reference_sound f x h = chained as_reference (expression_of f) x h
    (λ y hy hx. expression_sound f y hy ∙ ap expression_field (as_reference_sound y x hx))

pub reference_again : (x : Reference) → reference_of (reference_field x) ≡ Some x
reference_again x = ap (option_and_then as_reference) (expression_again (e.Reference x)) ∙ as_reference_again x

pub reference_text : (x : Reference) → field_text (reference_field x) ≡ reference x
reference_text x = expression_text (e.Reference x) ∙ expression-Reference x

pub reference_well : (x : Reference) → well_field (reference_field x) ≡ well_reference x
reference_well x = expression_well (e.Reference x) ∙ ap (λ (g : Grade). g.1) (grade-Reference x)

abbrev pub name_field : Word → Field
name_field n = reference_field (r.Whole n)

pub whole_again : (n : Word) → whole (e.Reference (r.Whole n)) ≡ Some n
whole_again n = ap name_in (seen-Reference (r.Whole n)) ∙ ap name_in_reference (seen-Whole n)

pub name_sound : (f : Field) (n : Word) → name_of f ≡ Some n → f ≡ name_field n
name_sound f n h =
    chained whole (expression_of f) n h (λ y hy hn. expression_sound f y hy ∙ ap expression_field (whole_sound y n hn))

pub name_again : (n : Word) → name_of (name_field n) ≡ Some n
name_again n = ap (option_and_then whole) (expression_again (e.Reference (r.Whole n))) ∙ whole_again n

pub name_text : (n : Word) → field_text (name_field n) ≡ named n
name_text n = reference_text (r.Whole n) ∙ reference-Whole n

pub name_well : (n : Word) → well_field (name_field n) ≡ true
name_well n = reference_well (r.Whole n) ∙ well_reference-Whole n

-- ---- assignments

pub spread_sound : (s : Spread) (x : Expression) → spread_expression s ≡ Some x → s ≡ spread.One (v.One x)
spread_sound spread.Empty x h = absurd (cc)
spread_sound (spread.One w) x h = ap spread.One (lone_sound w x h)
spread_sound (spread.Triplet a b c) x h = absurd (cc)

abbrev pub assignment_field : Assignment → Field
assignment_field a = field (Some (e.Reference a.to)) (spread.One (v.One a.value))

assignment_sound_from : (left : Option Expression) (s : Spread) (a : Assignment) → assignment_from left s ≡ Some a →
    field left s ≡ assignment_field a
assignment_sound_from None s a h = absurd (cc)
assignment_sound_from (Some left) s a h = chained (λ to. option_map (assignment to) (spread_expression s)) (as_reference left) a h
    (λ to hto h2.
    mapped (assignment to) (spread_expression s) a h2 (λ x hx is.
    ap (λ l. field (Some l) s) (as_reference_sound left to hto) ∙ ap (λ s. field (Some (e.Reference to)) s) (spread_sound s x hx)
    ∙ ap assignment_field is))

pub assignment_sound : (f : Field) (a : Assignment) → assignment_of f ≡ Some a → f ≡ assignment_field a
assignment_sound f a h = assignment_sound_from f.left f.spread a h

pub assignment_again : (a : Assignment) → assignment_of (assignment_field a) ≡ Some a
assignment_again a = ap (option_and_then (λ to. option_map (assignment to) (lone (v.One a.value)))) (as_reference_again a.to)
    ∙ ap (option_map (assignment a.to)) (lone_again a.value)

pub assignment_spelled : (a : Assignment) → field_text (assignment_field a) ≡ assignment_text a
assignment_spelled a = ap (λ t. (t ++ punctuated mark.Assign []) ++ value (v.One a.value)) (expression-Reference a.to)
    ∙ append_assoc (reference a.to) (punctuated mark.Assign []) (value (v.One a.value))
    ∙ ap (λ t. reference a.to ++ punctuated mark.Assign t) (value-One a.value)

pub assignment_well : (a : Assignment) → well_field (assignment_field a) ≡ well_assignment a
assignment_well a = ap (λ b. b && well_value (v.One a.value)) (ap (λ (g : Grade). g.1) (grade-Reference a.to))
    ∙ ap (λ b. well_reference a.to && b) (well_value-One a.value)
