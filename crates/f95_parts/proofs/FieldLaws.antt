-- Entities, arguments, ranges and indices: spelled as the fields that they are taken from, and taken again.
use Rattle.std.proofs.Common.{◌≡◌, true, ◌&&◌, [], ◌∷◌, ◌++◌, Option, Some, None, ◌∙◌, ap, refl}
use Rattle.std.proofs.Common.{append-nil}
use Rattle.std.specs.Prelude.{option_map, option_and_then}
use Rattle.std.proofs.Math.Bool.{and-true}
use Rattle.f95_tree.specs.declared.expression.Expression.{Expression}
use Rattle.f95_tree.specs.declared.expression.Expression.TheVariants as e
use Rattle.f95_tree.specs.declared.expression.Reference.{Reference}
use Rattle.f95_tree.specs.declared.expression.Reference.TheVariants as r
use Rattle.f95_tree.specs.declared.expression.Value.TheVariants as v
use Rattle.f95_tree.specs.declared.action.Argument.{Argument}
use Rattle.f95_tree.specs.declared.action.Index.{Index}
use Rattle.f95_tree.specs.declared.form.CaseRange.{CaseRange}
use Rattle.f95_tree.specs.declared.form.CaseRange.TheVariants as range
use Rattle.f95_tree.specs.declared.terminal.Terminal.TheVariants as terminal
use Rattle.f95_tree.specs.declared.terminal.Punctuation.TheVariants as mark
use Rattle.f95_tree.specs.Spelling.{punctuated, maybe_behind, expression, value}
use Rattle.f95_tree.specs.Grades.{Grade, maybe_well, grade, well, well_value}
use Rattle.f95_tree.specs.Forms.{Word, argument_text, range_text, index_text}
use Rattle.f95_tree.specs.WellFormed.{well_range, well_index}
use Rattle.f95_tree.proofs.Nodes.{expression-Reference, reference-Whole, value-One, well_value-One, grade-Reference}
use Rattle.f95_tree.proofs.Nodes.{well_reference-Whole}
use Rattle.f95_expressions.specs.declared.pending.Field.{Field}
use Rattle.f95_expressions.specs.declared.pending.Spread.{Spread}
use Rattle.f95_expressions.specs.declared.pending.Spread.TheVariants as spread
use Rattle.f95_expressions.specs.Fields.{field_text, well_field}
use Rattle.f95_expressions.specs.Machine.{lone, whole, field}
use Rattle.f95_expressions.proofs.Read.{mapped, chained, lone_sound, whole_sound}
use Rattle.f95_parts.specs.Parts.{spread_expression, keyword_of, argument, argument_of, range_from, range_of, range_of_bounds}
use Rattle.f95_parts.specs.Parts.{index, index_of_bounds, index_from, index_of}
use Rattle.f95_parts.proofs.PartLaws.{lone_again, spread_sound, whole_again}

-- ---- arguments

abbrev pub keyword_left : Option Word → Option Expression
keyword_left None = None
keyword_left (Some n) = Some (e.Reference (r.Whole n))

abbrev pub argument_field : Argument → Field
argument_field a = field (keyword_left a.keyword) (spread.One (v.One a.value))

keyword_sound : (left : Option Expression) (n : Option Word) → keyword_of left ≡ Some n → left ≡ keyword_left n
keyword_sound None n h = let q : None ≡ n = cc in ap keyword_left q
keyword_sound (Some x) n h = mapped Some (whole x) n h (λ m hm is. ap Some (whole_sound x m hm) ∙ ap keyword_left is)

pub argument_sound : (f : Field) (a : Argument) → argument_of f ≡ Some a → f ≡ argument_field a
argument_sound f a h = chained (λ n. option_map (argument n) (spread_expression f.spread)) (keyword_of f.left) a h (λ n hn h2.
    mapped (argument n) (spread_expression f.spread) a h2 (λ x hx is.
    ap (λ l. field l f.spread) (keyword_sound f.left n hn) ∙ ap (λ s. field (keyword_left n) s) (spread_sound f.spread x hx)
    ∙ ap argument_field is))

keyword_again : (n : Option Word) → keyword_of (keyword_left n) ≡ Some n
keyword_again None = refl
keyword_again (Some n) = ap (option_map Some) (whole_again n)

pub argument_again : (a : Argument) → argument_of (argument_field a) ≡ Some a
argument_again a = ap (option_and_then (λ n. option_map (argument n) (lone (v.One a.value)))) (keyword_again a.keyword)
    ∙ ap (option_map (argument a.keyword)) (lone_again a.value)

argument_spelled_by : (n : Option Word) (x : Expression) → field_text (argument_field (argument n x)) ≡ argument_text (argument n x)
argument_spelled_by None x = value-One x
argument_spelled_by (Some n) x = ap (λ t. (t ++ punctuated mark.Assign []) ++ value (v.One x))
    (expression-Reference (r.Whole n) ∙ reference-Whole n)
    ∙ ap (λ t. terminal.Name n ∷ punctuated mark.Assign t) (value-One x)

pub argument_spelled : (a : Argument) → field_text (argument_field a) ≡ argument_text a
argument_spelled a = argument_spelled_by a.keyword a.value

argument_well_by : (n : Option Word) (x : Expression) → well_field (argument_field (argument n x)) ≡ well x
argument_well_by None x = well_value-One x
argument_well_by (Some n) x = ap (λ b. b && well_value (v.One x))
    (ap (λ (g : Grade). g.1) (grade-Reference (r.Whole n)) ∙ well_reference-Whole n) ∙ well_value-One x

pub argument_well : (a : Argument) → well_field (argument_field a) ≡ well a.value
argument_well a = argument_well_by a.keyword a.value

-- ---- ranges

abbrev pub range_field : CaseRange → Field
range_field (range.One x) = field None (spread.One (v.One x))
range_field (range.From a) = field None (spread.Triplet (Some a) None None)
range_field (range.UpTo b) = field None (spread.Triplet None (Some b) None)
range_field (range.Between a b) = field None (spread.Triplet (Some a) (Some b) None)

bounds_range : (a b c : Option Expression) (x : CaseRange) → range_of_bounds a b c ≡ Some x → field None (spread.Triplet a b c)
    ≡ range_field x
bounds_range None None c x h = absurd (cc)
bounds_range None (Some b) None x h = let q : range.UpTo b ≡ x = cc in ap range_field q
bounds_range None (Some b) (Some c) x h = absurd (cc)
bounds_range (Some a) None None x h = let q : range.From a ≡ x = cc in ap range_field q
bounds_range (Some a) None (Some c) x h = absurd (cc)
bounds_range (Some a) (Some b) None x h = let q : range.Between a b ≡ x = cc in ap range_field q
bounds_range (Some a) (Some b) (Some c) x h = absurd (cc)

range_sound_from : (left : Option Expression) (s : Spread) (x : CaseRange) → range_from left s ≡ Some x →
    field left s ≡ range_field x
range_sound_from None spread.Empty x h = absurd (cc)
range_sound_from None (spread.One w) x h = mapped range.One (lone w) x h
    (λ y hy is. ap (λ w. field None (spread.One w)) (lone_sound w y hy) ∙ ap range_field is)
range_sound_from None (spread.Triplet a b c) x h = bounds_range a b c x h
range_sound_from (Some l) s x h = absurd (cc)

pub range_sound : (f : Field) (x : CaseRange) → range_of f ≡ Some x → f ≡ range_field x
range_sound f x h = range_sound_from f.left f.spread x h

pub range_again : (x : CaseRange) → range_of (range_field x) ≡ Some x
range_again (range.One x) = ap (option_map range.One) (lone_again x)
range_again (range.From a) = refl
range_again (range.UpTo b) = refl
range_again (range.Between a b) = refl

pub range_spelled : (x : CaseRange) → field_text (range_field x) ≡ range_text x
range_spelled (range.One x) = value-One x
range_spelled (range.From a) = refl
range_spelled (range.UpTo b) = ap (λ t. punctuated mark.Colon t) (append-nil (expression b))
range_spelled (range.Between a b) = ap (λ t. expression a ++ punctuated mark.Colon t) (append-nil (expression b))

pub range_well : (x : CaseRange) → well_field (range_field x) ≡ well_range x
range_well (range.One x) = well_value-One x
range_well (range.From a) = and-true (well a)
range_well (range.UpTo b) = and-true (well b)
range_well (range.Between a b) = ap (λ c. well a && c) (and-true (well b))

-- ---- indices

abbrev pub index_field : Index → Field
index_field i = field (Some (e.Reference (r.Whole i.name))) (spread.Triplet (Some i.lower) (Some i.upper) i.stride)

bounds_index : (n : Word) (a b c : Option Expression) (i : Index) → index_of_bounds n a b c ≡ Some i →
    field (Some (e.Reference (r.Whole n))) (spread.Triplet a b c) ≡ index_field i
bounds_index n None b c i h = absurd (cc)
bounds_index n (Some a) None c i h = absurd (cc)
bounds_index n (Some a) (Some b) c i h = let q : index c n a b ≡ i = cc in ap index_field q

index_sound_from : (left : Option Expression) (s : Spread) (i : Index) → index_from left s ≡ Some i → field left s ≡ index_field i
index_sound_from None s i h = absurd (cc)
index_sound_from (Some l) spread.Empty i h = absurd (cc)
index_sound_from (Some l) (spread.One w) i h = absurd (cc)
index_sound_from (Some l) (spread.Triplet a b c) i h = chained (λ n. index_of_bounds n a b c) (whole l) i h (λ n hn hi.
    ap (λ l. field (Some l) (spread.Triplet a b c)) (whole_sound l n hn) ∙ bounds_index n a b c i hi)

pub index_sound : (f : Field) (i : Index) → index_of f ≡ Some i → f ≡ index_field i
index_sound f i h = index_sound_from f.left f.spread i h

pub index_again : (i : Index) → index_of (index_field i) ≡ Some i
index_again i = ap (option_and_then (λ n. index_of_bounds n (Some i.lower) (Some i.upper) i.stride)) (whole_again i.name)

pub index_spelled : (i : Index) → field_text (index_field i) ≡ index_text i
index_spelled i =
    ap (λ t. (t ++ punctuated mark.Assign [])
    ++ (expression i.lower
    ++ punctuated mark.Colon (expression i.upper ++ maybe_behind mark.Colon (option_map expression i.stride))))
    (expression-Reference (r.Whole i.name) ∙ reference-Whole i.name)

pub index_well : (i : Index) → well_field (index_field i) ≡ well_index i
index_well i = ap (λ b. b && (well i.lower && (well i.upper && maybe_well (option_map grade i.stride))))
    (ap (λ (g : Grade). g.1) (grade-Reference (r.Whole i.name)) ∙ well_reference-Whole i.name)
