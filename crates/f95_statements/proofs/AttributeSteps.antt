-- Attributes, one after another.
use Rattle.std.proofs.Common.{◌≡◌, ℕ, zero, suc, ◌<◌, ◌≤◌, length, List, [], ◌∷◌, Option, Some, None}
use Rattle.std.proofs.Common.{refl, ◌∙◌, ap, arith, length-append, codes}
use Rattle.std.specs.Prelude.{option_map, option_and_then, if◌then◌else◌}
use Rattle.a95_base.proofs.Tests.{by_test}
use Rattle.f95_tree.specs.declared.declaration.Attribute.{Attribute}
use Rattle.f95_tree.specs.declared.declaration.Attribute.TheVariants as attribute
use Rattle.f95_tree.specs.declared.declaration.Intent.{Intent}
use Rattle.f95_tree.specs.declared.declaration.Intent.TheVariants as intent
use Rattle.f95_tree.specs.declared.terminal.Punctuation.{Punctuation}
use Rattle.f95_tree.specs.declared.terminal.Punctuation.TheVariants as mark
use Rattle.f95_tree.specs.Forms.{Word}
use Rattle.f95_tree.specs.Spelling.{Text, punctuated}
use Rattle.f95_expressions.specs.declared.pending.Field.{Field}
use Rattle.f95_expressions.specs.Fields.{fields_text}
use Rattle.f95_expressions.specs.Machine.{bracket, items_of}
use Rattle.f95_expressions.proofs.Read.{mapped, chained}
use Rattle.f95_expressions.proofs.Found.{bracket_sound}
use Rattle.f95_parts.specs.Views.{is, is_mark, as_name, behind, behind_name, behind_word}
use Rattle.f95_parts.specs.Parts.{dims_of}
use Rattle.f95_statements.specs.Declarations.{intent_named, behind_both, one_word, intent_at, closed_intent, intent_of}
use Rattle.f95_statements.specs.Declarations.{dimension_in, dimension_of, attribute_named, next_attribute, by_next, attributes_in}
use Rattle.f95_statements.specs.Declarations.{attributes_of}

behind_less : (p : Punctuation) (ts rest : Text) → behind p ts ≡ Some rest → length rest < length ts
behind_less p [] rest h = absurd (cc)
behind_less p (t ∷ ts) rest h = by_test (λ b. (if b then Some ts else None) ≡ Some rest → length rest < length (t ∷ ts))
    (is_mark p t)
    (λ _ h. let q : ts ≡ rest = cc in omega (arith, ap length q)) (λ _ h. absurd (cc)) h

name_less : (ts : Text) (p : Word × Text) → behind_name ts ≡ Some p → length p.1 < length ts
name_less [] p h = absurd (cc)
name_less (t ∷ ts) p h = mapped (λ n. (n, ts)) (as_name t) p h
    (λ n hn is. let q : ts ≡ p.1 = ap (λ (p : Word × Text). p.1) is in omega (arith, ap length q))

word_less : (w : Word) (ts rest : Text) → behind_word w ts ≡ Some rest → length rest < length ts
word_less w ts rest h = chained (λ p. if is w p.0 then Some p.1 else None) (behind_name ts) rest h (λ p hp hr.
    by_test (λ b. (if b then Some p.1 else None) ≡ Some rest → length rest < length ts) (is w p.0)
    (λ _ h. let q : p.1 ≡ rest = cc in omega (arith, ap length q, name_less ts p hp)) (λ _ h. absurd (cc)) hr)

bracket_less : (ts : Text) (p : List Field × Text) → bracket ts ≡ Some p → length p.1 < length ts
bracket_less ts p h =
    let s = bracket_sound ts p.0 p.1 h in
    omega (arith, ap length s.0, length-append (fields_text p.0) (punctuated mark.Close p.1))

abbrev rest_in : {A : Type 0} → Option (A × Text) → Text → Text
rest_in None ts = ts
rest_in (Some p) ts = p.1

-- what is found stands before the end
abbrev Before : Option (Attribute × Text) → Text → Type 0
Before o ts = (p : Attribute × Text) → o ≡ Some p → length p.1 < length ts

dimension_less : (ts : Text) → Before (dimension_of ts) ts
dimension_less ts p h = chained (λ inside. option_and_then dimension_in (bracket inside)) (behind mark.Open ts) p h (λ inside hi h2.
    chained dimension_in (bracket inside) p h2 (λ found hf h3.
    mapped (λ dims. (attribute.Dimension dims, found.1)) (option_and_then dims_of (items_of found.0)) p h3 (λ dims hd is.
    let q : found.1 ≡ p.1 = ap (λ (p : Attribute × Text). p.1) is in
    omega (arith, ap length q, bracket_less inside found hf, behind_less mark.Open ts inside hi))))

both_less : (ts rest : Text) → behind_both ts ≡ Some rest → length rest < length ts
both_less ts rest h = chained (behind_word (codes "out")) (behind_word (codes "in") ts) rest h (λ more hm hr.
    omega (arith, word_less (codes "in") ts more hm, word_less (codes "out") more rest hr))

one_less : (ts : Text) (p : Intent × Text) → one_word ts ≡ Some p → length p.1 < length ts
one_less ts p h = chained (λ q. option_map (λ i. (i, q.1)) (intent_named q.0)) (behind_name ts) p h (λ q hq h2.
    mapped (λ i. (i, q.1)) (intent_named q.0) p h2 (λ i hi is.
    let e : q.1 ≡ p.1 = ap (λ (p : Intent × Text). p.1) is in omega (arith, ap length e, name_less ts q hq)))

intent_less_at : (o : Option Text) (ts : Text) (p : Intent × Text) → behind_both ts ≡ o → intent_at o ts ≡ Some p →
    length p.1 < length ts
intent_less_at None ts p is h = one_less ts p h
intent_less_at (Some rest) ts p is h = let q : rest ≡ p.1 = ap (λ (o : Option (Intent × Text)). rest_in o rest) h in
    omega (arith, ap length q, both_less ts rest is)

intent_less : (ts : Text) → Before (intent_of ts) ts
intent_less ts p h = chained (λ inside. option_and_then closed_intent (intent_at (behind_both inside) inside)) (behind mark.Open ts)
    p h (λ inside hi h2.
    chained closed_intent (intent_at (behind_both inside) inside) p h2 (λ q hq h3.
    mapped (λ rest. (attribute.Intent q.0, rest)) (behind mark.Close q.1) p h3 (λ rest hr is.
    let e : rest ≡ p.1 = ap (λ (p : Attribute × Text). p.1) is in
    omega (
      arith,
      ap length e,
      behind_less mark.Open ts inside hi,
      intent_less_at (behind_both inside) inside q refl hq,
      behind_less mark.Close q.1 rest hr,
    ))))

-- an attribute by name takes nothing, or more
abbrev AtMost : Option (Attribute × Text) → Text → Type 0
AtMost o ts = (p : Attribute × Text) → o ≡ Some p → length p.1 ≤ length ts

here : (a : Attribute) (ts : Text) → AtMost (Some (a, ts)) ts
here a ts p h = let q : ts ≡ p.1 = ap (λ (o : Option (Attribute × Text)). rest_in o ts) h in omega (arith, ap length q)

named_less : (q : Word × Text) → AtMost (attribute_named q) q.1
named_less q =
    by_test (λ b. AtMost
    (if b then Some (attribute.Parameter, q.1) else (if is (codes "allocatable") q.0 then Some (attribute.Allocatable, q.1)
    else (if is (codes "dimension") q.0 then dimension_of q.1 else (if is (codes "intent") q.0 then intent_of q.1 else None)))) q.1)
    (is (codes "parameter") q.0)
    (λ _. here attribute.Parameter q.1)
    (λ _. by_test (λ b. AtMost (if b then Some (attribute.Allocatable, q.1)
    else (if is (codes "dimension") q.0 then dimension_of q.1 else (if is (codes "intent") q.0 then intent_of q.1 else None))) q.1)
    (is (codes "allocatable") q.0)
    (λ _. here attribute.Allocatable q.1)
    (λ _. by_test (λ b. AtMost (if b then dimension_of q.1 else (if is (codes "intent") q.0 then intent_of q.1 else None)) q.1)
    (is (codes "dimension") q.0)
    (λ _ p h. omega (arith, dimension_less q.1 p h))
    (λ _. by_test (λ b. AtMost (if b then intent_of q.1 else None) q.1) (is (codes "intent") q.0)
    (λ _ p h. omega (arith, intent_less q.1 p h))
    (λ _ p h. absurd (cc)))))

pub shorter : (ts : Text) (p : Attribute × Text) → next_attribute ts ≡ Some p → length p.1 < length ts
shorter ts p h = chained (λ rest. option_and_then attribute_named (behind_name rest)) (behind mark.Comma ts) p h (λ rest hr h2.
    chained attribute_named (behind_name rest) p h2 (λ q hq h3.
    omega (arith, behind_less mark.Comma ts rest hr, name_less rest q hq, named_less q p h3)))

-- ---- as many as there are

next_same : (n m : ℕ) (done : List Attribute) (ts : Text) (o : Option (Attribute × Text)) →
    ((p : Attribute × Text) → o ≡ Some p → attributes_in n (p.0 ∷ done) p.1 ≡ attributes_in m (p.0 ∷ done) p.1) →
    by_next o (done, ts) (λ next. attributes_in n (next.0 ∷ done) next.1)
    ≡ by_next o (done, ts) (λ next. attributes_in m (next.0 ∷ done) next.1)
next_same n m done ts None same = refl
next_same n m done ts (Some p) same = same p refl

enough : (n m : ℕ) (done : List Attribute) (ts : Text) → length ts ≤ n → length ts ≤ m → attributes_in n done ts
    ≡ attributes_in m done ts
enough zero zero done ts h g = refl
enough zero (suc m) done [] h g = refl
enough zero (suc m) done (t ∷ ts) h g = absurd (omega arith)
enough (suc n) zero done [] h g = refl
enough (suc n) zero done (t ∷ ts) h g = absurd (omega arith)
enough (suc n) (suc m) done ts h g =
    next_same n m done ts (next_attribute ts)
    (λ p hp. enough n m (p.0 ∷ done) p.1 (omega (arith, shorter ts p hp)) (omega (arith, shorter ts p hp)))

stop_in : (n : ℕ) (done : List Attribute) (ts : Text) → next_attribute ts ≡ None → attributes_in n done ts ≡ (done, ts)
stop_in zero done ts h = refl
stop_in (suc n) done ts h = ap (λ o. by_next o (done, ts) (λ next. attributes_in n (next.0 ∷ done) next.1)) h

pub attribute_stop : (done : List Attribute) (ts : Text) → next_attribute ts ≡ None → attributes_of done ts ≡ (done, ts)
attribute_stop done ts h = stop_in (length ts) done ts h

step_in : (n : ℕ) (done : List Attribute) (ts : Text) (p : Attribute × Text) → length ts ≤ n → next_attribute ts ≡ Some p →
    attributes_in n done ts ≡ attributes_of (p.0 ∷ done) p.1
step_in zero done ts p l h = absurd (omega (arith, shorter ts p h))
step_in (suc n) done ts p l h =
    ap (λ o. by_next o (done, ts) (λ next. attributes_in n (next.0 ∷ done) next.1)) h
    ∙ enough n (length p.1) (p.0 ∷ done) p.1 (omega (arith, shorter ts p h)) (omega arith)

pub attribute_step : (done : List Attribute) (ts : Text) (p : Attribute × Text) → next_attribute ts ≡ Some p → attributes_of done ts
    ≡ attributes_of (p.0 ∷ done) p.1
attribute_step done ts p h = step_in (length ts) done ts p (omega arith) h
