-- What stands first, and_parts ways.
use Rattle.std.proofs.Common.{◌≡◌, ℕ, true, ◌==◌, nat_eq, List, [], ◌∷◌, Option, Some, None, ◌∙◌, ap}
use Rattle.std.proofs.Common.{refl}
use Rattle.std.specs.Prelude.{option_map, option_and_then, if◌then◌else◌}
use Rattle.std.proofs.lemmas.Bool.{eqb-true, eq-eqb, and_parts, and_from}
use Rattle.a95_base.proofs.Tests.{by_test}
use Rattle.f95_tree.specs.declared.expression.Literal.{Literal}
use Rattle.f95_tree.specs.declared.terminal.Terminal.{Terminal}
use Rattle.f95_tree.specs.declared.terminal.Terminal.TheVariants as terminal
use Rattle.f95_tree.specs.declared.terminal.Operator.TheVariants as operator
use Rattle.f95_tree.specs.declared.terminal.Keyword.{Keyword}
use Rattle.f95_tree.specs.declared.terminal.Punctuation.{Punctuation}
use Rattle.f95_tree.specs.declared.terminal.Punctuation.TheVariants as mark
use Rattle.f95_tree.specs.Forms.{Word, maybe_named, star}
use Rattle.f95_tree.specs.Spelling.{Text, punctuated}
use Rattle.f95_expressions.proofs.Read.{mapped, chained}
use Rattle.f95_parts.specs.Views.{is, is_nil, mark_number, is_mark, is_star, behind, behind_star, as_name, as_keyword, as_literal}
use Rattle.f95_parts.specs.Views.{behind_name, behind_keyword, behind_literal, behind_word, at_end, nothing_more, name_at_end}

pub nil : (ts : Text) → is_nil ts ≡ true → ts ≡ []
nil [] h = refl
nil (t ∷ ts) h = absurd (cc)

same_word : (n w : List ℕ) → is w n ≡ true → n ≡ w
same_word [] [] h = refl
same_word [] (y ∷ w) h = absurd (cc)
same_word (x ∷ n) [] h = absurd (cc)
same_word (x ∷ n) (y ∷ w) h =
    let parts = and_parts (nat_eq x y) (is w n) h in ap (λ z. z ∷ n) (eqb-true x y parts.0) ∙ ap (λ n. y ∷ n) (same_word n w parts.1)

same_mark : (p q : Punctuation) → (mark_number p == mark_number q) ≡ true → q ≡ p
same_mark mark.Open mark.Open h = refl
same_mark mark.Open q h = absurd (cc)
same_mark mark.Close mark.Close h = refl
same_mark mark.Close q h = absurd (cc)
same_mark mark.OpenArray mark.OpenArray h = refl
same_mark mark.OpenArray q h = absurd (cc)
same_mark mark.CloseArray mark.CloseArray h = refl
same_mark mark.CloseArray q h = absurd (cc)
same_mark mark.Comma mark.Comma h = refl
same_mark mark.Comma q h = absurd (cc)
same_mark mark.Colon mark.Colon h = refl
same_mark mark.Colon q h = absurd (cc)
same_mark mark.DoubleColon mark.DoubleColon h = refl
same_mark mark.DoubleColon q h = absurd (cc)
same_mark mark.Assign mark.Assign h = refl
same_mark mark.Assign q h = absurd (cc)

mark_is : (p : Punctuation) (t : Terminal) → is_mark p t ≡ true → t ≡ terminal.Punctuation p
mark_is p (terminal.Punctuation q) h = ap terminal.Punctuation (same_mark p q h)
mark_is p terminal.Not h = absurd (cc)
mark_is p t h = absurd (cc)

pub behind_sound : (p : Punctuation) (ts rest : Text) → behind p ts ≡ Some rest → ts ≡ punctuated p rest
behind_sound p [] rest h = absurd (cc)
behind_sound p (t ∷ ts) rest h =
    by_test (λ b. (if b then Some ts else None) ≡ Some rest → b ≡ is_mark p t → t ∷ ts ≡ punctuated p rest) (is_mark p t)
    (λ e h _. let q : ts ≡ rest = cc in ap (λ x. x ∷ ts) (mark_is p t e) ∙ ap (punctuated p) q) (λ _ h _. absurd (cc)) h refl

pub behind_again : (p : Punctuation) (rest : Text) → behind p (punctuated p rest) ≡ Some rest
behind_again mark.Open rest = refl
behind_again p rest = refl

star_is : (t : Terminal) → is_star t ≡ true → t ≡ star
star_is (terminal.Operator operator.Multiply) h = refl
star_is (terminal.Operator operator.Power) h = absurd (cc)
star_is (terminal.Operator op) h = absurd (cc)
star_is terminal.Not h = absurd (cc)
star_is t h = absurd (cc)

pub star_sound : (ts rest : Text) → behind_star ts ≡ Some rest → ts ≡ star ∷ rest
star_sound [] rest h = absurd (cc)
star_sound (t ∷ ts) rest h = by_test (λ b. (if b then Some ts else None) ≡ Some rest → t ∷ ts ≡ star ∷ rest) (is_star t)
    (λ e h. let q : ts ≡ rest = cc in ap (λ x. x ∷ ts) (star_is t e) ∙ ap (λ ts. star ∷ ts) q) (λ _ h. absurd (cc)) h

name_is : (t : Terminal) (n : Word) → as_name t ≡ Some n → t ≡ terminal.Name n
name_is (terminal.Name m) n h = ap terminal.Name (cc)
name_is terminal.Not n h = absurd (cc)
name_is t n h = absurd (cc)

pub name_sound : (ts : Text) (p : Word × Text) → behind_name ts ≡ Some p → ts ≡ terminal.Name p.0 ∷ p.1
name_sound [] p h = absurd (cc)
name_sound (t ∷ ts) p h = mapped (λ n. (n, ts)) (as_name t) p h (λ n hn is.
    ap (λ x. x ∷ ts) (name_is t n hn) ∙ ap (λ (p : Word × Text). terminal.Name p.0 ∷ p.1) is)

literal_is : (t : Terminal) (l : Literal) → as_literal t ≡ Some l → t ≡ terminal.Literal l
literal_is (terminal.Literal m) l h = ap terminal.Literal (cc)
literal_is terminal.Not l h = absurd (cc)
literal_is t l h = absurd (cc)

pub literal_sound : (ts : Text) (p : Literal × Text) → behind_literal ts ≡ Some p → ts ≡ terminal.Literal p.0 ∷ p.1
literal_sound [] p h = absurd (cc)
literal_sound (t ∷ ts) p h = mapped (λ l. (l, ts)) (as_literal t) p h (λ l hl is.
    ap (λ x. x ∷ ts) (literal_is t l hl) ∙ ap (λ (p : Literal × Text). terminal.Literal p.0 ∷ p.1) is)

keyword_is : (t : Terminal) (k : Keyword) → as_keyword t ≡ Some k → t ≡ terminal.Keyword k
keyword_is (terminal.Keyword m) k h = ap terminal.Keyword (cc)
keyword_is terminal.Not k h = absurd (cc)
keyword_is t k h = absurd (cc)

pub keyword_sound : (ts : Text) (p : Keyword × Text) → behind_keyword ts ≡ Some p → ts ≡ terminal.Keyword p.0 ∷ p.1
keyword_sound [] p h = absurd (cc)
keyword_sound (t ∷ ts) p h = mapped (λ k. (k, ts)) (as_keyword t) p h (λ k hk is.
    ap (λ x. x ∷ ts) (keyword_is t k hk) ∙ ap (λ (p : Keyword × Text). terminal.Keyword p.0 ∷ p.1) is)

pub word_sound : (w : Word) (ts rest : Text) → behind_word w ts ≡ Some rest → ts ≡ terminal.Name w ∷ rest
word_sound w ts rest h = chained (λ p. if is w p.0 then Some p.1 else None) (behind_name ts) rest h (λ p hp hr.
    by_test (λ b. (if b then Some p.1 else None) ≡ Some rest → ts ≡ terminal.Name w ∷ rest) (is w p.0)
    (λ e h. let q : p.1 ≡ rest = cc in name_sound ts p hp ∙ ap (λ n. terminal.Name n ∷ p.1) (same_word p.0 w e)
    ∙ ap (λ ts. terminal.Name w ∷ ts) q)
    (λ _ h. absurd (cc)) hr)

-- what stands at the end
pub end_sound : {A : Type 0} (p : A × Text) (a : A) → at_end p ≡ Some a → (p.0 ≡ a) × (p.1 ≡ [])
end_sound p a h = by_test (λ b. (if b then Some p.0 else None) ≡ Some a → (p.0 ≡ a) × (p.1 ≡ [])) (is_nil p.1)
    (λ e h. (cc, nil p.1 e)) (λ _ h. absurd (cc)) h

pub more_sound : {A : Type 0} (a b : A) (ts : Text) → nothing_more a ts ≡ Some b → (a ≡ b) × (ts ≡ [])
more_sound a b ts h = by_test (λ c. (if c then Some a else None) ≡ Some b → (a ≡ b) × (ts ≡ [])) (is_nil ts) (λ e h. (cc, nil ts e))
    (λ _ h. absurd (cc)) h

pub name_end_sound : (ts : Text) (n : Option Word) → name_at_end ts ≡ Some n → ts ≡ maybe_named n
name_end_sound ts n h =
    by_test (λ b. (if b then Some None else option_map Some (option_and_then at_end (behind_name ts))) ≡ Some n →
    ts ≡ maybe_named n) (is_nil ts)
    (λ e h. let q : None ≡ n = cc in nil ts e ∙ ap maybe_named q)
    (λ _ h. mapped Some (option_and_then at_end (behind_name ts)) n h (λ m hm is.
    chained at_end (behind_name ts) m hm (λ p hp he.
    let end = end_sound p m he in
    name_sound ts p hp ∙ ap (λ rest. terminal.Name p.0 ∷ rest) end.1 ∙ ap (λ n. terminal.Name n ∷ []) end.0 ∙ ap maybe_named is)))
    h

pub name_end_again : (n : Option Word) → name_at_end (maybe_named n) ≡ Some n
name_end_again None = refl
name_end_again (Some n) = refl

-- ---- what is spelled so is read so

pub star_again : (rest : Text) → behind_star (star ∷ rest) ≡ Some rest
star_again rest = refl

pub name_again : (n : Word) (rest : Text) → behind_name (terminal.Name n ∷ rest) ≡ Some (n, rest)
name_again n rest = refl

pub keyword_again : (k : Keyword) (rest : Text) → behind_keyword (terminal.Keyword k ∷ rest) ≡ Some (k, rest)
keyword_again k rest = refl

pub literal_again : (l : Literal) (rest : Text) → behind_literal (terminal.Literal l ∷ rest) ≡ Some (l, rest)
literal_again l rest = refl

word_is : (w : Word) → is w w ≡ true
word_is [] = refl
word_is (x ∷ w) = and_from (nat_eq x x) (is w w) (eq-eqb x x refl) (word_is w)

pub word_again : (w : Word) (rest : Text) → behind_word w (terminal.Name w ∷ rest) ≡ Some rest
word_again w rest = ap (λ b. if b then Some rest else None) (word_is w)

pub end_again : {A : Type 0} (a : A) → at_end (a, []) ≡ Some a
end_again a = refl

pub more_again : {A : Type 0} (a : A) → nothing_more a [] ≡ Some a
more_again a = refl
