-- Attributes, one after another: what is read is spelled as the terminals, and what is spelled is read.
use Rattle.std.proofs.Common.{◌≡◌, ℕ, zero, suc, length, true, List, [], ◌∷◌, ◌++◌, map, Option, Some, None, sym, ◌∙◌, ap, subst, refl, append_assoc, codes}
use Rattle.std.specs.Prelude.{option_map, option_and_then, if◌then◌else◌}
use Rattle.std.proofs.lemmas.Bool.{and_parts, and_from}
use Rattle.a95_base.proofs.Tests.{by_test}
use Rattle.f95_tree.specs.declared.declaration.Attribute.{Attribute}
use Rattle.f95_tree.specs.declared.declaration.Attribute.TheVariants as attribute
use Rattle.f95_tree.specs.declared.declaration.Dim.{Dim}
use Rattle.f95_tree.specs.declared.declaration.Intent.{Intent}
use Rattle.f95_tree.specs.declared.declaration.Intent.TheVariants as intent
use Rattle.f95_tree.specs.declared.terminal.Terminal.{Terminal}
use Rattle.f95_tree.specs.declared.terminal.Terminal.TheVariants as terminal
use Rattle.f95_tree.specs.declared.terminal.Punctuation.TheVariants as mark
use Rattle.f95_tree.specs.Spelling.{Text, punctuated, behind_commas, commas, in_brackets, item}
use Rattle.f95_tree.specs.Grades.{all, some, well_item}
use Rattle.f95_tree.specs.Forms.{Word, named, dims_text, intent_text, attribute_text}
use Rattle.f95_tree.specs.WellFormed.{well_dim, well_dims, well_attribute}
use Rattle.f95_expressions.specs.Machine.{item_of, items_of, bracket}
use Rattle.f95_expressions.proofs.Lists.{onto}
use Rattle.f95_expressions.proofs.Fields.{item_field, item_back, item_text}
use Rattle.f95_expressions.proofs.Read.{mapped, chained, item_sound}
use Rattle.f95_expressions.proofs.Made.{well_item_field}
use Rattle.f95_parts.specs.Views.{is, behind, behind_name, behind_word}
use Rattle.f95_parts.specs.Parts.{dims_of}
use Rattle.f95_parts.proofs.ViewLaws.{behind_sound, name_sound, word_sound}
use Rattle.f95_parts.proofs.BoundLaws.{dim_item, dims_sound, dims_again, dims_spelled, dims_well}
use Rattle.f95_parts.proofs.ListLaws.{Parts, parts_of, within_list_sound, within_list_again, collected_inside}
use Rattle.f95_statements.specs.Declarations.{
  intent_named,
  behind_both,
  one_word,
  intent_at,
  closed_intent,
  intent_of,
  dimension_in,
  dimension_of,
  attribute_named,
  next_attribute,
  by_next,
  attributes_in,
  attributes_of,
}
use Rattle.f95_statements.proofs.AttributeSteps.{attribute_stop, attribute_step}
use Rattle.f95_statements.proofs.TypeLaws.{Leads, same_word}

abbrev AttributeIn : Text → Attribute × Text → Type 0
AttributeIn ts p = Leads attribute_text well_attribute ts p.0 p.1

-- ---- intents

intent_named_sound : (n : Word) (i : Intent) → intent_named n ≡ Some i → named n ≡ intent_text i
intent_named_sound n i h =
    by_test (λ b. (if b then Some intent.In else (if is (codes "out") n then Some intent.Out
    else (if is (codes "inout") n then Some intent.InOut else None))) ≡ Some i → named n ≡ intent_text i) (is (codes "in") n)
    (λ yes h. let q : intent.In ≡ i = cc in ap named (same_word n (codes "in") yes) ∙ ap intent_text q)
    (λ _. by_test (λ b. (if b then Some intent.Out else (if is (codes "inout") n then Some intent.InOut else None)) ≡ Some i →
    named n ≡ intent_text i) (is (codes "out") n)
    (λ yes h. let q : intent.Out ≡ i = cc in ap named (same_word n (codes "out") yes) ∙ ap intent_text q)
    (λ _. by_test (λ b. (if b then Some intent.InOut else None) ≡ Some i → named n ≡ intent_text i) (is (codes "inout") n)
    (λ yes h. let q : intent.InOut ≡ i = cc in ap named (same_word n (codes "inout") yes) ∙ ap intent_text q)
    (λ _ h. absurd (cc)))) h

abbrev IntentIn : Text → Intent × Text → Type 0
IntentIn ts p = intent_text p.0 ++ p.1 ≡ ts

one_word_sound : (ts : Text) (p : Intent × Text) → one_word ts ≡ Some p → IntentIn ts p
one_word_sound ts p h = chained (λ q. option_map (λ i. (i, q.1)) (intent_named q.0)) (behind_name ts) p h (λ q hq h2.
    mapped (λ i. (i, q.1)) (intent_named q.0) p h2 (λ i hi is.
    subst (IntentIn ts) is (ap (λ t. t ++ q.1) (sym (intent_named_sound q.0 i hi)) ∙ sym (name_sound ts q hq))))

both_sound : (ts rest : Text) → behind_both ts ≡ Some rest → ts ≡ terminal.Name (codes "in") ∷ terminal.Name (codes "out") ∷ rest
both_sound ts rest h = chained (behind_word (codes "out")) (behind_word (codes "in") ts) rest h (λ more hm hr.
    word_sound (codes "in") ts more hm ∙ ap (λ t. terminal.Name (codes "in") ∷ t) (word_sound (codes "out") more rest hr))

intent_at_sound : (o : Option Text) (ts : Text) (p : Intent × Text) → behind_both ts ≡ o → intent_at o ts ≡ Some p → IntentIn ts p
intent_at_sound (Some rest) ts p is h = let q : (intent.InAndOut, rest) ≡ p = cc in
    subst (IntentIn ts) q (sym (both_sound ts rest is))
intent_at_sound None ts p is h = one_word_sound ts p h

intent_sound : (ts : Text) (p : Attribute × Text) → intent_of ts ≡ Some p → AttributeIn (terminal.Name (codes "intent") ∷ ts) p
intent_sound ts p h = chained (λ inside.
    option_and_then closed_intent (intent_at (behind_both inside) inside)) (behind mark.Open ts) p h (λ inside hi h2.
    chained closed_intent (intent_at (behind_both inside) inside) p h2 (λ q hq h3.
    mapped (λ rest. (attribute.Intent q.0, rest)) (behind mark.Close q.1) p h3 (λ rest hr is.
    subst (AttributeIn (terminal.Name (codes "intent") ∷ ts)) is record {
      spelled =
          ap (λ t. terminal.Name (codes "intent") ∷ punctuated mark.Open t)
          (append_assoc (intent_text q.0) (punctuated mark.Close []) rest
          ∙ ap (λ t. intent_text q.0 ++ t) (sym (behind_sound mark.Close q.1 rest hr))
          ∙ intent_at_sound (behind_both inside) inside q refl hq)
          ∙ ap (λ t. terminal.Name (codes "intent") ∷ t) (sym (behind_sound mark.Open ts inside hi));
      kept = refl;
    })))

intent_again : (i : Intent) (rest : Text) → intent_of (in_brackets (intent_text i) ++ rest) ≡ Some (attribute.Intent i, rest)
intent_again intent.In rest = refl
intent_again intent.Out rest = refl
intent_again intent.InOut rest = refl
intent_again intent.InAndOut rest = refl

-- ---- dimensions

pub item_parts : Parts item_of item_field item well_item
item_parts = parts_of item_of item_field item well_item (λ f x is.
    item_sound f.left f.spread x is) item_back item_text well_item_field refl

dimension_sound : (ts : Text) (p : Attribute × Text) → dimension_of ts ≡ Some p →
    AttributeIn (terminal.Name (codes "dimension") ∷ ts) p
dimension_sound ts p h = chained (λ inside.
    option_and_then dimension_in (bracket inside)) (behind mark.Open ts) p h (λ inside hi h2.
    chained dimension_in (bracket inside) p h2 (λ found hf h3.
    mapped (λ dims. (attribute.Dimension dims, found.1)) (option_and_then dims_of (items_of found.0)) p h3 (λ dims hd is.
    chained dims_of (items_of found.0) dims hd (λ xs hx hds.
    let l = within_list_sound item_parts inside found.1 found.0 xs hf hx in
    let d = dims_sound xs dims hds in
    subst (AttributeIn (terminal.Name (codes "dimension") ∷ ts)) is record {
      spelled =
          ap (λ t. terminal.Name (codes "dimension") ∷ (t ++ found.1)) (sym (dims_spelled dims)
          ∙ sym (ap (λ xs. in_brackets (commas (map item xs))) d.0))
          ∙ ap (λ t. terminal.Name (codes "dimension") ∷ punctuated mark.Open t)
          (append_assoc (commas (map item xs)) (punctuated mark.Close []) found.1 ∙ l.0)
          ∙ ap (λ t. terminal.Name (codes "dimension") ∷ t) (sym (behind_sound mark.Open ts inside hi));
      kept = and_from (some dims) (all (map well_dim dims)) d.1 (sym (dims_well dims) ∙ sym (ap (λ xs. all (map well_item xs)) d.0)
          ∙ l.1);
    }))))

dimension_again : (dims : List Dim) (rest : Text) → well_dims dims ≡ true →
    dimension_of (dims_text dims ++ rest) ≡ Some (attribute.Dimension dims, rest)
dimension_again dims rest w =
    let ws = and_parts (some dims) (all (map well_dim dims)) w in
    let xs = map dim_item dims in
    let wells = dims_well dims ∙ ws.1 in
    ap (λ t. dimension_of (t ++ rest)) (sym (dims_spelled dims))
    ∙ ap (λ t. option_and_then dimension_in (bracket t)) (append_assoc (commas (map item xs)) (punctuated mark.Close []) rest)
    ∙ ap (option_and_then dimension_in) (within_list_again item_parts xs rest wells)
    ∙ ap (λ o. option_map (λ dims. (attribute.Dimension dims, rest)) (option_and_then dims_of o))
    (collected_inside item_parts xs wells)
    ∙ ap (option_map (λ dims. (attribute.Dimension dims, rest))) (dims_again dims ws.0)

-- ---- one attribute

named_sound : (q : Word × Text) (p : Attribute × Text) → attribute_named q ≡ Some p → AttributeIn (terminal.Name q.0 ∷ q.1) p
named_sound q p h =
    by_test (λ b. (if b then Some (attribute.Parameter, q.1) else
    (if is (codes "allocatable") q.0 then Some (attribute.Allocatable, q.1)
    else (if is (codes "dimension") q.0 then dimension_of q.1 else (if is (codes "intent") q.0 then intent_of q.1 else None)))) ≡
    Some p → AttributeIn (terminal.Name q.0 ∷ q.1) p)
    (is (codes "parameter") q.0)
    (λ yes h. let e : (attribute.Parameter, q.1) ≡ p = cc in
    subst (AttributeIn (terminal.Name q.0 ∷ q.1)) e record {
      spelled =
          ap (λ n. terminal.Name n ∷ q.1) (sym (same_word q.0 (codes "parameter") yes));
      kept = refl;
    })
    (λ _. by_test (λ b. (if b then Some (attribute.Allocatable, q.1)
    else (if is (codes "dimension") q.0 then dimension_of q.1 else (if is (codes "intent") q.0 then intent_of q.1 else None))) ≡
    Some p → AttributeIn (terminal.Name q.0 ∷ q.1) p)
    (is (codes "allocatable") q.0)
    (λ yes h. let e : (attribute.Allocatable, q.1) ≡ p = cc in
    subst (AttributeIn (terminal.Name q.0 ∷ q.1)) e record {
      spelled =
          ap (λ n. terminal.Name n ∷ q.1) (sym (same_word q.0 (codes "allocatable") yes));
      kept = refl;
    })
    (λ _. by_test (λ b. (if b then dimension_of q.1 else (if is (codes "intent") q.0 then intent_of q.1 else None)) ≡ Some p →
    AttributeIn (terminal.Name q.0 ∷ q.1) p)
    (is (codes "dimension") q.0)
    (λ yes h. subst (λ n.
    AttributeIn (terminal.Name n ∷ q.1) p) (sym (same_word q.0 (codes "dimension") yes)) (dimension_sound q.1 p h))
    (λ _. by_test (λ b. (if b then intent_of q.1 else None) ≡ Some p →
    AttributeIn (terminal.Name q.0 ∷ q.1) p) (is (codes "intent") q.0)
    (λ yes h. subst (λ n. AttributeIn (terminal.Name n ∷ q.1) p) (sym (same_word q.0 (codes "intent") yes)) (intent_sound q.1 p h))
    (λ _ h. absurd (cc))))) h

abbrev pub behind_comma : Attribute → Text
behind_comma a = punctuated mark.Comma (attribute_text a)

pub next_sound : (ts : Text) (p : Attribute × Text) → next_attribute ts ≡ Some p → Leads behind_comma well_attribute ts p.0 p.1
next_sound ts p h = chained (λ rest. option_and_then attribute_named (behind_name rest)) (behind mark.Comma ts) p h (λ rest hr h2.
    chained attribute_named (behind_name rest) p h2 (λ q hq h3.
    let s = named_sound q p h3 in record {
      spelled = ap (punctuated mark.Comma) (s.spelled ∙ sym (name_sound rest q hq)) ∙ sym (behind_sound mark.Comma ts rest hr);
      kept = s.kept;
    }))

pub next_again : (a : Attribute) (rest : Text) → well_attribute a ≡ true → next_attribute (behind_comma a ++ rest) ≡ Some (a, rest)
next_again attribute.Parameter rest w = refl
next_again attribute.Allocatable rest w = refl
next_again (attribute.Dimension dims) rest w = dimension_again dims rest w
next_again (attribute.Intent i) rest w = intent_again i rest

-- ---- one after another

-- the attributes that are read before the rest of a text, behind those that were done
pub record Run (done found : List Attribute) (ts rest : Text) : Type 0 where
  pub front : List Attribute
  pub newest : found ≡ onto front done
  pub spelled : behind_commas (map attribute_text front) ++ rest ≡ ts
  pub kept : all (map well_attribute front) ≡ true

abbrev RunTo : List Attribute → Text → List Attribute × Text → Type 0
RunTo done ts r = Run done r.0 ts r.1

next_run : (n : ℕ) (done : List Attribute) (ts : Text) (o : Option (Attribute × Text)) → next_attribute ts ≡ o →
    ((p : Attribute × Text) → RunTo (p.0 ∷ done) p.1 (attributes_in n (p.0 ∷ done) p.1)) →
    RunTo done ts (by_next o (done, ts) (λ next. attributes_in n (next.0 ∷ done) next.1))
next_run n done ts None is more = record { front = []; newest = refl; spelled = refl; kept = refl }
next_run n done ts (Some p) is more =
    let s = next_sound ts p is in
    let m = more p in
    let rest = (attributes_in n (p.0 ∷ done) p.1).1 in record {
      front = p.0 ∷ m.front;
      newest = m.newest;
      spelled = ap (punctuated mark.Comma) (append_assoc (attribute_text p.0) (behind_commas (map attribute_text m.front)) rest
          ∙ ap (λ t. attribute_text p.0 ++ t) m.spelled) ∙ s.spelled;
      kept = and_from (well_attribute p.0) (all (map well_attribute m.front)) s.kept m.kept;
    }

run_in : (n : ℕ) (done : List Attribute) (ts : Text) → RunTo done ts (attributes_in n done ts)
run_in zero done ts = record { front = []; newest = refl; spelled = refl; kept = refl }
run_in (suc n) done ts = next_run n done ts (next_attribute ts) refl (λ p. run_in n (p.0 ∷ done) p.1)

pub attributes_sound : (done : List Attribute) (ts : Text) → Run done (attributes_of done ts).0 ts (attributes_of done ts).1
attributes_sound done ts = run_in (length ts) done ts

pub attributes_again : (attributes done : List Attribute) (rest : Text) → all (map well_attribute attributes) ≡ true →
    next_attribute rest ≡ None →
    attributes_of done (behind_commas (map attribute_text attributes) ++ rest) ≡ (onto attributes done, rest)
attributes_again [] done rest w stops = attribute_stop done rest stops
attributes_again (a ∷ more) done rest w stops =
    let ws = and_parts (well_attribute a) (all (map well_attribute more)) w in
    let text = behind_commas (map attribute_text more) ++ rest in
    ap (λ t. attributes_of done (punctuated mark.Comma t))
    (append_assoc (attribute_text a) (behind_commas (map attribute_text more)) rest)
    ∙ attribute_step done (behind_comma a ++ text) (a, text) (next_again a text ws.0)
    ∙ attributes_again more (a ∷ done) rest ws.1 stops
