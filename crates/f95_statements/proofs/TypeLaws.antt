-- Types with their lengths: what is read is spelled as the terminals, and what is spelled is read.
use Rattle.std.proofs.Common.{◌≡◌, Bool, true, false, ◌||◌, [], ◌∷◌, ◌++◌, Option, Some, None, sym, ◌∙◌, ap, subst, refl, append_assoc, codes}
use Rattle.std.specs.Prelude.{ℤ, option_map, option_and_then, if◌then◌else◌}
use Rattle.a95_base.proofs.Tests.{by_test}
use Rattle.f95_statements.proofs.ConditionLaws.{only_sound}
use Rattle.f95_tree.specs.declared.expression.Expression.{Expression, roll-Expression, out-Expression}
use Rattle.f95_tree.specs.declared.expression.Expression.TheVariants as e
use Rattle.f95_tree.specs.declared.expression.Reference.{roll-Reference, out-Reference}
use Rattle.f95_tree.specs.declared.expression.Reference.TheVariants as r
use Rattle.f95_tree.specs.declared.expression.Literal.{Literal}
use Rattle.f95_tree.specs.declared.expression.Literal.TheVariants as literal
use Rattle.f95_tree.specs.declared.expression.Value.{roll-Value, out-Value}
use Rattle.f95_tree.specs.declared.expression.Value.TheVariants as v
use Rattle.f95_tree.specs.declared.terminal.Terminal.{Terminal}
use Rattle.f95_tree.specs.declared.terminal.Terminal.TheVariants as terminal
use Rattle.f95_tree.specs.declared.terminal.Keyword.TheVariants as keyword
use Rattle.f95_tree.specs.declared.terminal.TypeWord.{TypeWord}
use Rattle.f95_tree.specs.declared.terminal.TypeWord.TheVariants as type_word
use Rattle.f95_tree.specs.declared.terminal.Punctuation.TheVariants as mark
use Rattle.f95_tree.specs.declared.declaration.Length.{Length}
use Rattle.f95_tree.specs.declared.declaration.Length.TheVariants as length_of
use Rattle.f95_tree.specs.declared.declaration.TypeSpec.{TypeSpec}
use Rattle.f95_tree.specs.declared.declaration.TypeSpec.TheVariants as type_spec
use Rattle.f95_tree.specs.declared.action.Argument.{Argument}
use Rattle.f95_tree.specs.Spelling.{Text, punctuated, expression}
use Rattle.f95_tree.specs.Grades.{well}
use Rattle.f95_tree.specs.Forms.{Word, star, length_keyword, length_text, type_text}
use Rattle.f95_tree.specs.WellFormed.{well_length, well_type}
use Rattle.f95_expressions.specs.declared.pending.Field.{Field}
use Rattle.f95_expressions.specs.declared.pending.Spread.TheVariants as spread
use Rattle.f95_expressions.specs.declared.pending.Machine.TheVariants as machine
use Rattle.f95_expressions.specs.Fields.{field_text, fields_text, well_fields}
use Rattle.f95_expressions.specs.Machine.{whole, field, bracket, closed_found, run}
use Rattle.f95_expressions.proofs.Fields.{expression_field}
use Rattle.f95_expressions.proofs.Read.{mapped, chained, whole_sound}
use Rattle.f95_expressions.proofs.Found.{bracket_again, bracket_sound}
use Rattle.f95_parts.specs.Views.{is, is_mark, is_star, behind, behind_star, behind_literal, behind_word}
use Rattle.f95_parts.specs.Parts.{argument, spread_expression}
use Rattle.f95_parts.proofs.ViewLaws.{behind_sound, star_sound, literal_sound, word_sound}
use Rattle.f95_parts.proofs.PartLaws.{expression_text, expression_well, lone_again, spread_sound, whole_again}
use Rattle.f95_parts.proofs.FieldLaws.{keyword_left, argument_field, argument_spelled, argument_well}
use Rattle.f95_statements.specs.Actions.{only}
use Rattle.f95_statements.specs.Declarations.{
  keyed_of,
  given_length,
  given_in,
  behind_len,
  behind_any,
  or_else,
  assumed,
  length_inside,
  as_number,
  number_length,
  starred_length,
  length_by,
  length_at,
  type_of,
}

-- what stands first: spelled so, well formed, and with the rest behind it
pub record Leads {A : Type 0} (spell : A → Text) (w : A → Bool) (ts : Text) (a : A) (rest : Text) : Type 0 where
  pub spelled : spell a ++ rest ≡ ts
  pub kept : w a ≡ true

-- what is never found isn't there
pub none_where : {A : Type 0} (o : Option A) → ((a : A) → o ≡ Some a → ⊥) → o ≡ None
none_where None never = refl
none_where (Some a) never = absurd (never a refl)

pub same_word : (n w : Word) → is w n ≡ true → n ≡ w
same_word n w h = let q = word_sound w (terminal.Name n ∷ []) [] (ap (λ b. if b then Some [] else None) h) in cc

-- ---- lengths

any_sound : (ts rest : Text) → behind_any ts ≡ Some rest → ts ≡ star ∷ punctuated mark.Close rest
any_sound ts rest h = chained (behind mark.Close) (behind_star ts) rest h (λ more hm hr.
    star_sound ts more hm ∙ ap (λ t. star ∷ t) (behind_sound mark.Close more rest hr))

len_sound : (ts rest : Text) → behind_len ts ≡ Some rest → ts ≡ terminal.Name (codes "len") ∷ punctuated mark.Assign rest
len_sound ts rest h = chained (behind mark.Assign) (behind_word (codes "len") ts) rest h (λ more hm hr.
    word_sound (codes "len") ts more hm ∙ ap (λ t. terminal.Name (codes "len") ∷ t) (behind_sound mark.Assign more rest hr))

len_any_sound : (ts rest : Text) → option_and_then behind_any (behind_len ts) ≡ Some rest →
    ts ≡ terminal.Name (codes "len") ∷ punctuated mark.Assign (star ∷ punctuated mark.Close rest)
len_any_sound ts rest h = chained behind_any (behind_len ts) rest h (λ more hm hr.
    len_sound ts more hm ∙ ap (λ t. terminal.Name (codes "len") ∷ punctuated mark.Assign t) (any_sound more rest hr))

abbrev len_word : Bool → Option Word
len_word true = Some (codes "len")
len_word false = None

-- LEN = e, or e
abbrev given : Bool → Expression → Argument
given keyed x = argument (len_word keyed) x

given_text : (keyed : Bool) (x : Expression) → field_text (argument_field (given keyed x)) ≡ length_keyword keyed ++ expression x
given_text true x = argument_spelled (given true x)
given_text false x = argument_spelled (given false x)

keyed_sound : (left : Option Expression) (k : Bool) → keyed_of left ≡ Some k → left ≡ keyword_left (len_word k)
keyed_sound None k h = let q : false ≡ k = cc in ap (λ k. keyword_left (len_word k)) q
keyed_sound (Some x) k h = chained (λ n. if is (codes "len") n then Some true else None) (whole x) k h (λ n hn h2.
    by_test (λ b. (if b then Some true else None) ≡ Some k → Some x ≡ keyword_left (len_word k)) (is (codes "len") n)
    (λ yes h. let q : true ≡ k = cc in
    ap Some (whole_sound x n hn) ∙ ap (λ n. Some (e.Reference (r.Whole n))) (same_word n (codes "len") yes)
    ∙ ap (λ k. keyword_left (len_word k)) q)
    (λ _ h. absurd (cc)) h2)

keyed_again : (keyed : Bool) → keyed_of (keyword_left (len_word keyed)) ≡ Some keyed
keyed_again true = ap (option_and_then (λ n. if is (codes "len") n then Some true else None)) (whole_again (codes "len"))
keyed_again false = refl

given_sound : {P : Type 0} (f : Field) (l : Length) → given_length f ≡ Some l →
    ((keyed : Bool) (x : Expression) → f ≡ argument_field (given keyed x) → length_of.Given keyed x ≡ l → P) → P
given_sound f l h k = chained (λ keyed.
    option_map (length_of.Given keyed) (spread_expression f.spread)) (keyed_of f.left) l h (λ keyed hk h2.
    mapped (length_of.Given keyed) (spread_expression f.spread) l h2 (λ x hx is.
    k keyed x (ap (λ l. field l f.spread) (keyed_sound f.left keyed hk)
    ∙ ap (λ s. field (keyword_left (len_word keyed)) s) (spread_sound f.spread x hx)) is))

given_again : (keyed : Bool) (x : Expression) → given_length (argument_field (given keyed x)) ≡ Some (length_of.Given keyed x)
given_again keyed x =
    ap (option_and_then (λ keyed. option_map (length_of.Given keyed) (spread_expression (spread.One (v.One x)))))
    (keyed_again keyed)
    ∙ ap (option_map (length_of.Given keyed)) (lone_again x)

abbrev LengthIn : Text → Length × Text → Type 0
LengthIn ts p = Leads length_text well_length ts p.0 p.1

given_in_sound : (inside : Text) (p : Length × Text) → option_and_then given_in (bracket inside) ≡ Some p →
    LengthIn (punctuated mark.Open inside) p
given_in_sound inside p h = chained given_in (bracket inside) p h (λ found hf h2.
    mapped (λ l. (l, found.1)) (option_and_then given_length (only found.0)) p h2 (λ l hl is.
    chained given_length (only found.0) l hl (λ f ho hg.
    given_sound f l hg (λ keyed x field_is length_is.
    let s = bracket_sound inside found.0 found.1 hf in
    let one = only_sound found.0 f ho ∙ ap (λ f. f ∷ []) field_is in
    subst (LengthIn (punctuated mark.Open inside)) (ap (λ l. (l, found.1)) length_is ∙ is) record {
      spelled = ap (punctuated mark.Open) (append_assoc (length_keyword keyed ++ expression x) (punctuated mark.Close []) found.1
          ∙ ap (λ t. t ++ punctuated mark.Close found.1) (sym (given_text keyed x) ∙ sym (ap fields_text one)) ∙ s.0);
      kept = sym (argument_well (given keyed x)) ∙ sym (ap well_fields one) ∙ s.1;
    }))))

pub or_else_sound : {A P : Type 0} (a b : Option A) (x : A) → or_else a b ≡ Some x → (a ≡ Some x → P) → (b ≡ Some x → P) → P
or_else_sound None b x h first second = second h
or_else_sound (Some a) b x h first second = first h

inside_sound : (inside : Text) (p : Length × Text) → length_inside inside ≡ Some p → LengthIn (punctuated mark.Open inside) p
inside_sound inside p h =
    let any = option_map (assumed false) (behind_any inside) in
    let len_any = option_map (assumed true) (option_and_then behind_any (behind_len inside)) in
    let other = option_and_then given_in (bracket inside) in
    or_else_sound any (or_else len_any other) p h
    (λ h. mapped (assumed false) (behind_any inside) p h (λ rest hr is.
    subst (LengthIn (punctuated mark.Open inside)) is record {
      spelled =
          ap (punctuated mark.Open) (sym (any_sound inside rest hr));
      kept = refl;
    }))
    (λ h. or_else_sound len_any other p h
    (λ h. mapped (assumed true) (option_and_then behind_any (behind_len inside)) p h (λ rest hr is.
    subst (LengthIn (punctuated mark.Open inside)) is record {
      spelled =
          ap (punctuated mark.Open) (sym (len_any_sound inside rest hr));
      kept = refl;
    }))
    (given_in_sound inside p))

number_is : (l : Literal) (n : ℤ) → as_number l ≡ Some n → l ≡ literal.Number n
number_is (literal.Number m) n h = ap literal.Number (cc)
number_is (literal.Text t) n h = absurd (cc)
number_is (literal.Logical b) n h = absurd (cc)

starred_sound : (ts : Text) (p : Length × Text) → starred_length ts ≡ Some p → LengthIn (star ∷ ts) p
starred_sound ts p h = chained number_length (behind_literal ts) p h (λ q hq h2.
    mapped (λ n. (length_of.Number n, q.1)) (as_number q.0) p h2 (λ n hn is.
    subst (LengthIn (star ∷ ts)) is record {
      spelled = ap (λ t. star ∷ t) (sym (literal_sound ts q hq ∙ ap (λ l. terminal.Literal l ∷ q.1) (number_is q.0 n hn)));
      kept = refl;
    }))

length_by_sound : (a b : Option Text) (ts : Text) (p : Length × Text) → behind_star ts ≡ a → behind mark.Open ts ≡ b →
    length_by a b ts ≡ Some p → LengthIn ts p
length_by_sound (Some more) b ts p hs ho h = subst (λ t. LengthIn t p) (sym (star_sound ts more hs)) (starred_sound more p h)
length_by_sound None (Some inside) ts p hs ho h = subst (λ t.
    LengthIn t p) (sym (behind_sound mark.Open ts inside ho)) (inside_sound inside p h)
length_by_sound None None ts p hs ho h = let q : (length_of.One, ts) ≡ p = cc in
    subst (LengthIn ts) q record { spelled = refl; kept = refl }

pub length_sound : (ts : Text) (p : Length × Text) → length_at ts ≡ Some p → Leads length_text well_length ts p.0 p.1
length_sound ts p h = length_by_sound (behind_star ts) (behind mark.Open ts) ts p refl refl h

-- whether * or ( stands first, with which a length would begin
abbrev pub begins_length : Text → Bool
begins_length [] = false
begins_length (t ∷ ts) = is_star t || is_mark mark.Open t

no_length_by : (a b : Bool) (t : Terminal) (ts : Text) → (a || b) ≡ false →
    length_by (if a then Some ts else None) (if b then Some ts else None) (t ∷ ts) ≡ Some (length_of.One, t ∷ ts)
no_length_by true b t ts h = absurd (cc)
no_length_by false true t ts h = absurd (cc)
no_length_by false false t ts h = refl

no_length : (ts : Text) → begins_length ts ≡ false → length_at ts ≡ Some (length_of.One, ts)
no_length [] h = refl
no_length (t ∷ ts) h = no_length_by (is_star t) (is_mark mark.Open t) t ts h

run_stops : (ts : Text) → run machine.Stops ts ≡ None
run_stops [] = refl
run_stops (t ∷ ts) = run_stops ts

-- no expression begins with *
bracket_star : (ts : Text) → bracket (star ∷ ts) ≡ None
bracket_star ts = ap (option_and_then closed_found) (run_stops ts)

bracket_named_star : (n : Word) (ts : Text) → bracket (terminal.Name n ∷ punctuated mark.Assign (star ∷ ts)) ≡ None
unfolding roll-Value denote.Hole.Carrier.roll out-Value denote.Hole.Carrier.out roll-Expression out-Expression roll-Reference
    out-Reference
bracket_named_star n ts = ap (option_and_then closed_found) (run_stops ts)

bracket_expression : (x : Expression) (rest : Text) → well x ≡ true →
    bracket (expression x ++ punctuated mark.Close rest) ≡ Some (expression_field x ∷ [], rest)
bracket_expression x rest w =
    ap (λ t. bracket (t ++ punctuated mark.Close rest)) (sym (expression_text x))
    ∙ bracket_again (expression_field x) [] rest (expression_well x ∙ w)

not_any : (x : Expression) (rest more : Text) → well x ≡ true →
    behind_any (expression x ++ punctuated mark.Close rest) ≡ Some more → ⊥
not_any x rest more w h =
    let q = sym (bracket_expression x rest w) ∙ ap bracket (any_sound (expression x ++ punctuated mark.Close rest) more h)
    ∙ bracket_star (punctuated mark.Close more) in absurd (cc)

not_len_any : (x : Expression) (rest more : Text) → well x ≡ true →
    option_and_then behind_any (behind_len (expression x ++ punctuated mark.Close rest)) ≡ Some more → ⊥
not_len_any x rest more w h =
    let q = sym (bracket_expression x rest w) ∙ ap bracket (len_any_sound (expression x ++ punctuated mark.Close rest) more h)
    ∙ bracket_named_star (codes "len") (punctuated mark.Close more) in absurd (cc)

inside_again : (inside : Text) (p : Length × Text) → behind_any inside ≡ None →
    option_and_then behind_any (behind_len inside) ≡ None →
    option_and_then given_in (bracket inside) ≡ Some p → length_inside inside ≡ Some p
inside_again inside p ha hb hc =
    ap (λ o. or_else (option_map (assumed false) o)
    (or_else (option_map (assumed true) (option_and_then behind_any (behind_len inside)))
    (option_and_then given_in (bracket inside)))) ha
    ∙ ap (λ o. or_else (option_map (assumed true) o) (option_and_then given_in (bracket inside))) hb ∙ hc

given_found : (keyed : Bool) (x : Expression) (rest : Text) → well x ≡ true →
    option_and_then given_in (bracket ((length_keyword keyed ++ expression x) ++ punctuated mark.Close rest)) ≡
    Some (length_of.Given keyed x, rest)
given_found keyed x rest w =
    ap (λ t. option_and_then given_in (bracket (t ++ punctuated mark.Close rest))) (sym (given_text keyed x))
    ∙ ap (option_and_then given_in) (bracket_again (argument_field (given keyed x)) [] rest (argument_well (given keyed x) ∙ w))
    ∙ ap (option_map (λ l. (l, rest))) (given_again keyed x)

given_inside : (keyed : Bool) (x : Expression) (rest : Text) → well x ≡ true →
    length_inside ((length_keyword keyed ++ expression x) ++ punctuated mark.Close rest) ≡ Some (length_of.Given keyed x, rest)
given_inside true x rest w = inside_again ((length_keyword true ++ expression x) ++ punctuated mark.Close rest)
    (length_of.Given true x, rest) refl
    (none_where (behind_any (expression x ++ punctuated mark.Close rest)) (λ more. not_any x rest more w))
    (given_found true x rest w)
given_inside false x rest w = inside_again (expression x ++ punctuated mark.Close rest) (length_of.Given false x, rest)
    (none_where (behind_any (expression x ++ punctuated mark.Close rest)) (λ more. not_any x rest more w))
    (none_where (option_and_then behind_any (behind_len (expression x ++ punctuated mark.Close rest))) (λ more.
    not_len_any x rest more w))
    (given_found false x rest w)

-- a length is read where the rest doesn't begin one
pub length_again : (l : Length) (rest : Text) → well_length l ≡ true → begins_length rest ≡ false →
    length_at (length_text l ++ rest) ≡ Some (l, rest)
length_again length_of.One rest w h = no_length rest h
length_again (length_of.Number n) rest w h = refl
length_again (length_of.Given keyed x) rest w h =
    ap length_inside (append_assoc (length_keyword keyed ++ expression x) (punctuated mark.Close []) rest)
    ∙ given_inside keyed x rest w
length_again (length_of.Assumed true) rest w h = refl
length_again (length_of.Assumed false) rest w h = refl

-- ---- types

abbrev pub word_of : TypeSpec → TypeWord
word_of type_spec.Integer = type_word.Integer
word_of type_spec.Logical = type_word.Logical
word_of (type_spec.Character l) = type_word.Character

-- what stands behind the word of a type
abbrev pub behind_type : TypeSpec → Text
behind_type type_spec.Integer = []
behind_type type_spec.Logical = []
behind_type (type_spec.Character l) = length_text l

abbrev pub type_terminal : TypeWord → Terminal
type_terminal w = terminal.Keyword (keyword.«Type» w)

pub type_spelled : (t : TypeSpec) → type_text t ≡ type_terminal (word_of t) ∷ behind_type t
type_spelled type_spec.Integer = refl
type_spelled type_spec.Logical = refl
type_spelled (type_spec.Character l) = refl

abbrev TypeIn : Text → TypeSpec × Text → Type 0
TypeIn ts p = Leads type_text well_type ts p.0 p.1

pub type_sound : (w : TypeWord) (ts : Text) (p : TypeSpec × Text) → type_of w ts ≡ Some p →
    Leads type_text well_type (type_terminal w ∷ ts) p.0 p.1
type_sound type_word.Integer ts p h = let q : (type_spec.Integer, ts) ≡ p = cc in
    subst (TypeIn (type_terminal type_word.Integer ∷ ts)) q record { spelled = refl; kept = refl }
type_sound type_word.Logical ts p h = let q : (type_spec.Logical, ts) ≡ p = cc in
    subst (TypeIn (type_terminal type_word.Logical ∷ ts)) q record { spelled = refl; kept = refl }
type_sound type_word.Character ts p h = mapped (λ q. (type_spec.Character q.0, q.1)) (length_at ts) p h (λ q hq is.
    let s = length_sound ts q hq in
    subst (TypeIn (type_terminal type_word.Character ∷ ts)) is record {
      spelled =
          ap (λ t. type_terminal type_word.Character ∷ t) s.spelled;
      kept = s.kept;
    })

-- a type is read where the rest doesn't begin a length
pub type_again : (t : TypeSpec) (rest : Text) → well_type t ≡ true → begins_length rest ≡ false →
    type_of (word_of t) (behind_type t ++ rest) ≡ Some (t, rest)
type_again type_spec.Integer rest w h = refl
type_again type_spec.Logical rest w h = refl
type_again (type_spec.Character l) rest w h = ap (option_map (λ (q : Length × Text). (type_spec.Character q.0, q.1)))
    (length_again l rest w h)
