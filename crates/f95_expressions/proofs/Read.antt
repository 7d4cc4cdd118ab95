-- What is made of fields is spelled as they are.
use Rattle.std.proofs.Common.{◌≡◌, Bool, true, ◌&&◌, List, [], ◌∷◌, ◌++◌, map, Option, Some, None, sym, ◌∙◌, ap}
use Rattle.std.proofs.Common.{refl, append_assoc, append-nil}
use Rattle.std.proofs.lemmas.List.{map-append}
use Rattle.std.specs.Prelude.{option_map, option_and_then}
use Rattle.std.proofs.lemmas.Bool.{and_parts}
use Rattle.f95_tree.specs.declared.expression.Expression.{Expression}
use Rattle.f95_tree.specs.declared.expression.Expression.TheVariants as e
use Rattle.f95_tree.specs.declared.expression.Reference.{Reference, out-Reference}
use Rattle.f95_tree.specs.declared.expression.Reference.TheVariants as r
use Rattle.f95_tree.specs.declared.expression.Value.{Value}
use Rattle.f95_tree.specs.declared.expression.Value.TheVariants as v
use Rattle.f95_tree.specs.declared.expression.Item.{Item}
use Rattle.f95_tree.specs.declared.expression.Item.TheVariants as i
use Rattle.f95_tree.specs.declared.terminal.Terminal.{Terminal}
use Rattle.f95_tree.specs.declared.terminal.Terminal.TheVariants as terminal
use Rattle.f95_tree.specs.declared.terminal.Punctuation.TheVariants as mark
use Rattle.f95_tree.specs.Spelling.{Text, punctuated, commas, expression}
use Rattle.f95_tree.specs.Grades.{all, well}
use Rattle.f95_tree.specs.Forms.{Word}
use Rattle.f95_tree.proofs.Views.{seen-Literal, seen-Reference, seen-Bracketed, seen-Constructor, seen-Signed, seen-Binary}
use Rattle.f95_tree.proofs.Views.{seen-Plain, seen-Keyword, seen-Triplet, seen-Whole, seen-Items, seen-Substring, seen-One}
use Rattle.f95_tree.proofs.Views.{seen-ImpliedDo}
use Rattle.f95_tree.proofs.Induction.{expression_cases, value_cases, reference_cases}
use Rattle.f95_expressions.specs.declared.pending.Field.{Field}
use Rattle.f95_expressions.specs.declared.pending.Spread.{Spread}
use Rattle.f95_expressions.specs.declared.pending.Spread.TheVariants as spread
use Rattle.f95_expressions.specs.declared.pending.Stage.{Stage}
use Rattle.f95_expressions.specs.declared.pending.Stage.TheVariants as stage
use Rattle.f95_expressions.specs.Fields.{field_text, done_text, fields_text, well_field}
use Rattle.f95_expressions.specs.Fields.{well_fields}
use Rattle.f95_expressions.specs.Machine.{lone, whole, name_in, name_in_reference, expression_in, value_from, item_from}
use Rattle.f95_expressions.specs.Machine.{field, value_of, expression_of, collected}
use Rattle.f95_expressions.proofs.Lists.{onto, onto_append}
use Rattle.f95_expressions.proofs.Fields.{value_field, expression_field, item_field, item_field_at}

-- what a mapped option comes from
pub mapped : {A B P : Type 0} (f : A → B) (o : Option A) (y : B) → option_map f o ≡ Some y → ((x : A) → o ≡ Some x → f x ≡ y → P) →
    P
mapped f None y h k = absurd (cc)
mapped f (Some x) y h k = k x refl (cc)

pub chained : {A B P : Type 0} (f : A → Option B) (o : Option A) (y : B) → option_and_then f o ≡ Some y →
    ((x : A) → o ≡ Some x → f x ≡ Some y → P) → P
chained f None y h k = absurd (cc)
chained f (Some x) y h k = k x refl h

-- ---- views

lone_one : (x y : Expression) → lone (v.One x) ≡ Some y → v.One x ≡ v.One y
lone_one x y h = let q = sym (ap expression_in (seen-One x)) ∙ h in ap v.One (cc)

lone_did : (vs : List Value) (n : Word) (a b : Expression) (c : Option Expression) (y : Expression) → lone (v.ImpliedDo vs n a b c)
    ≡ Some y → v.ImpliedDo vs n a b c ≡ v.One y
lone_did vs n a b c y h = let q = sym (ap expression_in (seen-ImpliedDo vs n a b c)) ∙ h in absurd (cc)

pub lone_sound : (w : Value) (y : Expression) → lone w ≡ Some y → w ≡ v.One y
lone_sound = value_cases (λ w. (y : Expression) → lone w ≡ Some y → w ≡ v.One y) lone_one lone_did

whole_reference : (x : Reference) (n : Word) → name_in_reference (out-Reference x) ≡ Some n → x ≡ r.Whole n
whole_reference = reference_cases (λ x. (n : Word) → name_in_reference (out-Reference x) ≡ Some n → x ≡ r.Whole n)
    (λ m n h. let q = sym (ap name_in_reference (seen-Whole m)) ∙ h in ap r.Whole (cc))
    (λ m xs n h. let q = sym (ap name_in_reference (seen-Items m xs)) ∙ h in absurd (cc))
    (λ m xs a b n h. let q = sym (ap name_in_reference (seen-Substring m xs a b)) ∙ h in absurd (cc))

abbrev Named : Expression → Type 0
Named x = (n : Word) → whole x ≡ Some n → x ≡ e.Reference (r.Whole n)

pub whole_sound : (x : Expression) (n : Word) → whole x ≡ Some n → x ≡ e.Reference (r.Whole n)
whole_sound = expression_cases Named record {
  on_literal = λ l n h. let q = sym (ap name_in (seen-Literal l)) ∙ h in absurd (cc);
  on_reference = λ x n h. ap e.Reference (whole_reference x n (sym (ap name_in (seen-Reference x)) ∙ h));
  on_bracketed = λ x n h. let q = sym (ap name_in (seen-Bracketed x)) ∙ h in absurd (cc);
  on_constructor = λ vs n h. let q = sym (ap name_in (seen-Constructor vs)) ∙ h in absurd (cc);
  on_signed = λ s x n h. let q = sym (ap name_in (seen-Signed s x)) ∙ h in absurd (cc);
  on_binary = λ op a b n h. let q = sym (ap name_in (seen-Binary op a b)) ∙ h in absurd (cc);
}

-- ---- items and values

pub item-Plain_field : (x : Expression) → item_field (i.Plain x) ≡ expression_field x
item-Plain_field x = ap item_field_at (seen-Plain x)

pub item-Keyword_field : (n : Word) (x : Expression) → item_field (i.Keyword n x)
    ≡ field (Some (e.Reference (r.Whole n))) (spread.One (v.One x))
item-Keyword_field n x = ap item_field_at (seen-Keyword n x)

pub item-Triplet_field : (a b c : Option Expression) → item_field (i.Triplet a b c) ≡ field None (spread.Triplet a b c)
item-Triplet_field a b c = ap item_field_at (seen-Triplet a b c)

pub value_sound : (left : Option Expression) (sp : Spread) (w : Value) → value_from left sp ≡ Some w → field left sp ≡ value_field w
value_sound None (spread.One u) w h = ap value_field (cc)
value_sound None spread.Empty w h = absurd (cc)
value_sound None (spread.Triplet a b c) w h = absurd (cc)
value_sound (Some x) sp w h = absurd (cc)

pub item_sound : (left : Option Expression) (sp : Spread) (x : Item) → item_from left sp ≡ Some x → field left sp ≡ item_field x
item_sound None spread.Empty x h = absurd (cc)
item_sound None (spread.One w) x h = mapped i.Plain (lone w) x h (λ y h is.
    ap value_field (lone_sound w y h) ∙ sym (item-Plain_field y) ∙ ap item_field is)
item_sound None (spread.Triplet a b c) x h = sym (item-Triplet_field a b c) ∙ ap item_field (cc)
item_sound (Some l) (spread.One w) x h = chained (λ n. option_map (i.Keyword n) (lone w)) (whole l) x h (λ n hn hw.
    mapped (i.Keyword n) (lone w) x hw (λ y hy is.
    ap (λ l. field (Some l) (spread.One w)) (whole_sound l n hn)
    ∙ ap (λ w. field (Some (e.Reference (r.Whole n))) (spread.One w)) (lone_sound w y hy)
    ∙ sym (item-Keyword_field n y) ∙ ap item_field is))
item_sound (Some l) spread.Empty x h = absurd (cc)
item_sound (Some l) (spread.Triplet a b c) x h = absurd (cc)

pub expression_sound : (f : Field) (x : Expression) → expression_of f ≡ Some x → f ≡ expression_field x
expression_sound f x h =
    chained lone (value_of f) x h (λ w hw hx. value_sound f.left f.spread w hw ∙ ap value_field (lone_sound w x hx))

-- ---- lists

pub record Collected {A : Type 0} (g : A → Field) (done bs : List A) (fs : List Field) : Type 0 where
  pub front : List A
  pub before : bs ≡ front ++ done
  pub fields : fs ≡ onto (map g front) []

collected_more : {A : Type 0} (g : A → Field) (a : A) (done bs : List A) (f : Field) (fs : List Field) → f ≡ g a →
    Collected g (a ∷ done) bs fs → Collected g done bs (f ∷ fs)
collected_more g a done bs f fs is more = record {
  front = more.front ++ a ∷ [];
  before = more.before ∙ sym (append_assoc more.front (a ∷ []) done);
  fields = ap (λ f. f ∷ fs) is ∙ ap (λ fs. g a ∷ fs) more.fields
      ∙ sym (ap (λ xs. onto xs []) (map-append g more.front (a ∷ [])) ∙ onto_append (map g more.front) (g a ∷ []) []);
}

pub collected_sound : {A : Type 0} (make : Field → Option A) (g : A → Field) → ((f : Field) (a : A) → make f ≡ Some a → f ≡ g a) →
    (done bs : List A) (fs : List Field) → collected make done fs ≡ Some bs → Collected g done bs fs
collected_sound make g sound done bs [] h = record { front = []; before = cc; fields = refl }
collected_sound make g sound done bs (f ∷ fs) h = chained (λ a. collected make (a ∷ done) fs) (make f) bs h (λ a ha hs.
    collected_more g a done bs f fs (sound f a ha) (collected_sound make g sound (a ∷ done) bs fs hs))

-- the fields of a list, collected
pub all_collected : {A : Type 0} (make : Field → Option A) (g : A → Field) → ((f : Field) (a : A) → make f ≡ Some a → f ≡ g a) →
    (bs : List A) (fs : List Field) → collected make [] fs ≡ Some bs → fs ≡ onto (map g bs) []
all_collected make g sound bs fs h =
    let c = collected_sound make g sound [] bs fs h in c.fields
    ∙ ap (λ xs. onto (map g xs) []) (sym (c.before ∙ append-nil c.front))

-- fields in a row are spelled with commas
onto_text : {A : Type 0} (g : A → Field) (text : A → Text) → ((x : A) → field_text (g x) ≡ text x) →
    (x : A) (xs : List A) (d : List Field) →
    fields_text (onto (map g (x ∷ xs)) d) ≡ done_text d ++ commas (map text (x ∷ xs))
onto_text g text same x [] d = ap (λ t. done_text d ++ t) (same x ∙ sym (append-nil (text x)))
onto_text g text same x (y ∷ ys) d =
    onto_text g text same y ys (g x ∷ d)
    ∙ append_assoc (done_text d) (field_text (g x) ++ punctuated mark.Comma []) (commas (map text (y ∷ ys)))
    ∙ ap (λ t. done_text d ++ t) (append_assoc (field_text (g x)) (punctuated mark.Comma []) (commas (map text (y ∷ ys)))
    ∙ ap (λ t. t ++ punctuated mark.Comma (commas (map text (y ∷ ys)))) (same x))

pub list_text : {A : Type 0} (g : A → Field) (text : A → Text) → ((x : A) → field_text (g x) ≡ text x) → (xs : List A) →
    fields_text (onto (map g xs) []) ≡ commas (map text xs)
list_text g text same [] = refl
list_text g text same (x ∷ xs) = onto_text g text same x xs []

-- fields in a row are well formed where each one is
pub onto_well : {A : Type 0} (g : A → Field) (w : A → Bool) → ((x : A) → well_field (g x) ≡ w x) → (xs : List A) (d : List Field) →
    well_fields (onto (map g xs) d) ≡ true → (all (map w xs) ≡ true) × (well_fields d ≡ true)
onto_well g w same [] d h = (refl, h)
onto_well g w same (x ∷ xs) d h =
    let more = onto_well g w same xs (g x ∷ d) h in
    let here = and_parts (well_fields d) (well_field (g x)) more.1 in
    (ap (λ b. b && all (map w xs)) (sym (same x) ∙ here.1) ∙ more.0, here.0)
