-- What is of the first form is printed so, its numbers are numbers of the language, and it is no larger than its spelling.
use Rattle.std.proofs.Common.{◌≡◌, ℕ, ◌+◌, ◌≤◌, arith, pos, negsuc, nat_le, Bool, true, false, ◌&&◌, List, [], ◌∷◌, ◌++◌}
use Rattle.std.proofs.Common.{length, Option, Some, None, refl, sym, ◌∙◌, ap, subst, length-append}
use Rattle.std.specs.List.{list_all, sum_by}
use Rattle.std.proofs.lemmas.List.Sums.{fold-append, sum_by-cons, sum_by-append}
use Rattle.std.proofs.lemmas.Bool.{and_parts, and_from}
use Rattle.std.proofs.lemmas.Option.{same_Some}
use Rattle.f95_tree.specs.Forms.{Word}
use Rattle.f95_tree.specs.Spelling.{expression, reference}
use Rattle.f95_tree.specs.declared.expression.Expression.{Expression}
use Rattle.f95_tree.specs.declared.expression.Expression.TheVariants as e
use Rattle.f95_tree.specs.declared.expression.Reference.{Reference}
use Rattle.f95_tree.specs.declared.expression.Reference.TheVariants as r
use Rattle.f95_tree.specs.declared.expression.Literal.{Literal}
use Rattle.f95_tree.specs.declared.expression.Literal.TheVariants as literal
use Rattle.f95_tree.specs.declared.terminal.Terminal.TheVariants as terminal
use Rattle.f95_tree.specs.declared.terminal.Operator.{Operator}
use Rattle.f95_tree.specs.declared.terminal.Operator.TheVariants as operator
use Rattle.f95_tree.proofs.Induction.{ByNode, each_expression, each_reference}
use Rattle.f95_tree.proofs.Nodes.{expression-Literal, expression-Reference, expression-Binary, reference-Whole}
use Rattle.rank_one.specs.declared.form.NamedSum.{NamedSum}
use Rattle.rank_one.specs.declared.form.NamedAddend.{NamedAddend}
use Rattle.rank_one.specs.declared.form.NamedTerm.{NamedTerm}
use Rattle.rank_one.specs.declared.form.NamedFactor.{NamedFactor}
use Rattle.rank_one.specs.declared.form.NamedFactor.TheVariants as factor
use Rattle.rank_one.specs.Forms.{◌>>=◌, alone, natural_in, number_in, one_factor, term_in, factor_in, multiplied, added, joined}
use Rattle.rank_one.specs.Forms.{whole, sum_in}
use Rattle.rank_one.specs.Grammar.{factor_tree, times, term_tree, sign_of, plus, sum_tree, fits_factor}
use Rattle.rank_one.specs.Grammar.{fits_term, fits_sum}
use Rattle.rank_one.proofs.Choices.{yes, no, by_test}
use Rattle.rank_one.proofs.Nodes.{sum-Literal, sum-Reference, sum-Bracketed, sum-Constructor, sum-Signed, sum-Binary, whole-Whole}
use Rattle.rank_one.proofs.Nodes.{whole-Items, whole-Substring}

pub bound : {A B P : Type 0} (o : Option A) (f : A → Option B) (y : B) → (o >>= f) ≡ Some y →
    ((x : A) → o ≡ Some x → f x ≡ Some y → P) → P
bound None f y h k = absurd (cc)
bound (Some x) f y h k = k x refl h

pub alone_is : {A B : Type 0} (xs : List A) (y z : B) → alone xs y ≡ Some z → (xs ≡ []) × (y ≡ z)
alone_is [] y z h = (refl, same_Some y z h)
alone_is (x ∷ xs) y z h = absurd (cc)

pub natural_is : (m n : ℕ) → natural_in (pos m) ≡ Some n → (m ≡ n) × (nat_le n 2147483647 ≡ true)
natural_is m n h = by_test (nat_le m 2147483647)
    (λ small. let same = same_Some m n (sym (yes (Some m) None small) ∙ h) in
    (same, subst (λ k. nat_le k 2147483647 ≡ true) same small))
    (λ large. absurd (cc (sym (no (Some m) None large) ∙ h)))

pub number_is : (l : Literal) (n : ℕ) → number_in l ≡ Some n → (l ≡ literal.Number (pos n)) × (nat_le n 2147483647 ≡ true)
number_is (literal.Number (pos m)) n h = let is = natural_is m n h in (ap (λ k. literal.Number (pos k)) is.0, is.1)
number_is (literal.Number (negsuc m)) n h = absurd (cc)
number_is (literal.Text t) n h = absurd (cc)
number_is (literal.Logical b) n h = absurd (cc)

abbrev pub one_term : NamedTerm → NamedSum
one_term t = record { first = t; rest = [] }

abbrev pub term_of : NamedFactor → NamedTerm
term_of f = record { first = f; rest = [] }

abbrev sum_with : NamedTerm → List NamedAddend → NamedSum
sum_with t more = record { first = t; rest = more }

pub term_is : (x : NamedSum) (t : NamedTerm) → term_in x ≡ Some t → x ≡ one_term t
term_is x t h =
    let is = alone_is x.rest x.first t h in
    ap (sum_with x.first) is.0 ∙ ap (λ (u : NamedTerm). sum_with u []) is.1

abbrev term_with : NamedFactor → List NamedFactor → NamedTerm
term_with f more = record { first = f; rest = more }

pub factor_is : (t : NamedTerm) (f : NamedFactor) → factor_in t ≡ Some f → t ≡ term_of f
factor_is t f h =
    let is = alone_is t.rest t.first f h in
    ap (term_with t.first) is.0 ∙ ap (λ (g : NamedFactor). term_with g []) is.1

-- the terms and factors of a sum, as a unit counts them
abbrev pub term_size : NamedTerm → ℕ
term_size t = 2 + length t.rest

abbrev pub sum_size : NamedSum → ℕ
sum_size s = term_size s.first + sum_by (λ (a : NamedAddend). term_size a.term) s.rest

-- what is known of an expression that is this sum
pub record Known (x : Expression) (s : NamedSum) : Type 0 where
  pub tree : sum_tree s ≡ x
  pub fits : fits_sum s ≡ true
  pub few : sum_size s ≤ length (expression x) + 1

all_front : {A : Type 0} (test : A → Bool) (xs : List A) (y : A) → list_all test xs ≡ true → test y ≡ true →
    list_all test (xs ++ y ∷ []) ≡ true
all_front test [] y h k = and_from (test y) true k refl
all_front test (x ∷ xs) y h k =
    let two = and_parts (test x) (list_all test xs) h in and_from (test x) (list_all test (xs ++ y ∷ [])) two.0
    (all_front test xs y two.1 k)

multiplied_known : (a b : Expression) (t : NamedTerm) (f : NamedFactor) → Known a (one_term t) → Known b (one_term (term_of f))
    → Known (e.Binary operator.Multiply a b) (one_term (term_with t.first (t.rest ++ f ∷ [])))
multiplied_known a b t f ka kb =
    let left = and_parts (fits_term t) true ka.fits in
    let own = and_parts (fits_factor t.first) (list_all fits_factor t.rest) left.0 in
    let right = and_parts (fits_factor f) true (and_parts (fits_factor f && true) true kb.fits).0 in
    let spelled = ap length (expression-Binary operator.Multiply a b) in
    let apart = length-append (expression a) (terminal.Operator operator.Multiply ∷ expression b) in
    let more = length-append t.rest (f ∷ []) in
    let first = ka.few in
    record {
      tree = fold-append times (factor_tree t.first) t.rest (f ∷ [])
          ∙ (ap (λ x. e.Binary operator.Multiply x (factor_tree f)) ka.tree ∙ ap (λ y. e.Binary operator.Multiply a y) kb.tree);
      fits = and_from _ true (and_from (fits_factor t.first) _ own.0 (all_front fits_factor t.rest f own.1 right.0)) refl;
      few = omega (arith, spelled, apart, more, first);
    }

added_known : (minus : Bool) (a b : Expression) (x : NamedSum) (t : NamedTerm) → Known a x → Known b (one_term t)
    → Known (e.Binary (sign_of minus) a b) (sum_with x.first (x.rest ++ record { minus = minus; term = t } ∷ []))
added_known minus a b x t ka kb =
    let addend : NamedAddend = record { minus = minus; term = t } in
    let left = and_parts (fits_term x.first) (list_all (λ (m : NamedAddend). fits_term m.term) x.rest) ka.fits in
    let right = and_parts (fits_term t) true kb.fits in
    let spelled = ap length (expression-Binary (sign_of minus) a b) in
    let apart = length-append (expression a) (terminal.Operator (sign_of minus) ∷ expression b) in
    let more = sum_by-append (λ (m : NamedAddend). term_size m.term) x.rest (addend ∷ []) in
    let one = sum_by-cons (λ (m : NamedAddend). term_size m.term) addend [] in
    let first = ka.few in
    let second = kb.few in
    record {
      tree = fold-append plus (term_tree x.first) x.rest (addend ∷ [])
          ∙ (ap (λ y. e.Binary (sign_of minus) y (term_tree t)) ka.tree ∙ ap (λ y. e.Binary (sign_of minus) a y) kb.tree);
      fits = and_from (fits_term x.first) _ left.0
          (all_front (λ (m : NamedAddend). fits_term m.term) x.rest addend left.1 right.0);
      few = omega (arith, spelled, apart, more, one, first, second);
    }

times_known : (a b : Expression) (x y s : NamedSum) → Known a x → Known b y → multiplied x y ≡ Some s →
    Known (e.Binary operator.Multiply a b) s
times_known a b x y s ka kb h =
    bound (term_in x) _ s h (λ t is more. bound (term_in y) _ s more (λ u is' more'. bound (factor_in u) _ s more' (λ f is'' last.
    subst (Known (e.Binary operator.Multiply a b)) (same_Some (one_term (term_with t.first (t.rest ++ f ∷ []))) s last)
    (multiplied_known a b t f (subst (Known a) (term_is x t is) ka)
    (subst (λ z. Known b (one_term z)) (factor_is u f is'') (subst (Known b) (term_is y u is') kb))))))

plus_known : (minus : Bool) (a b : Expression) (x y s : NamedSum) → Known a x → Known b y → added minus x y ≡ Some s →
    Known (e.Binary (sign_of minus) a b) s
plus_known minus a b x y s ka kb h = bound (term_in y) _ s h (λ t is last.
    subst (Known (e.Binary (sign_of minus) a b))
    (same_Some (sum_with x.first (x.rest ++ record { minus = minus; term = t } ∷ [])) s last)
    (added_known minus a b x t ka (subst (Known b) (term_is y t is) kb)))

joined_known : (op : Operator) (a b : Expression) (x y s : NamedSum) → Known a x → Known b y → joined op x y ≡ Some s →
    Known (e.Binary op a b) s
joined_known operator.Multiply a b x y s ka kb h = times_known a b x y s ka kb h
joined_known operator.Add a b x y s ka kb h = plus_known false a b x y s ka kb h
joined_known operator.Subtract a b x y s ka kb h = plus_known true a b x y s ka kb h
joined_known operator.Power a b x y s ka kb h = absurd (cc)
joined_known operator.Divide a b x y s ka kb h = absurd (cc)
joined_known operator.Concat a b x y s ka kb h = absurd (cc)
joined_known (operator.Relation o) a b x y s ka kb h = absurd (cc)
joined_known operator.And a b x y s ka kb h = absurd (cc)
joined_known operator.Or a b x y s ka kb h = absurd (cc)
joined_known operator.Equivalent a b x y s ka kb h = absurd (cc)
joined_known operator.NotEquivalent a b x y s ka kb h = absurd (cc)

abbrev P : Expression → Type 0
P x = (s : NamedSum) → sum_in x ≡ Some s → Known x s

abbrev R : Reference → Type 0
R x = (n : Word) → whole x ≡ Some n → r.Whole n ≡ x

abbrev Any : {A : Type 0} → A → Type 0
Any x = Unit {0}

on_literal : (l : Literal) → P (e.Literal l)
on_literal l = λ s h. bound (number_in l) _ s (sym (sum-Literal l) ∙ h) (λ n is last.
    let number = number_is l n is in
    let spelled = ap length (expression-Literal l) in
    subst (Known (e.Literal l)) (same_Some (one_factor (factor.Number n)) s last) (record {
      tree = ap e.Literal (sym number.0);
      fits = and_from _ true (and_from _ true number.1 refl) refl;
      few = omega (arith, spelled);
    }))

on_reference : (x : Reference) → R x → P (e.Reference x)
on_reference x k = λ s h. bound (whole x) _ s (sym (sum-Reference x) ∙ h) (λ n is last.
    let name = k n is in
    let spelled = ap length (expression-Reference x ∙ (ap reference (sym name) ∙ reference-Whole n)) in
    subst (Known (e.Reference x)) (same_Some (one_factor (factor.Name n)) s last) (record {
      tree = ap e.Reference name;
      fits = refl;
      few = omega (arith, spelled);
    }))

on_binary : (op : Operator) (a b : Expression) → P a → P b → P (e.Binary op a b)
on_binary op a b pa pb = λ s h. bound (sum_in a) _ s (sym (sum-Binary op a b) ∙ h)
    (λ x is more. bound (sum_in b) _ s more (λ y is' last.
    joined_known op a b x y s (pa x is) (pb y is') last))

cases : ByNode P Any R Any
cases = record {
  on_literal = on_literal;
  on_reference = on_reference;
  on_bracketed = λ x p s h. absurd (cc (sym (sum-Bracketed x) ∙ h));
  on_constructor = λ vs p s h. absurd (cc (sym (sum-Constructor vs) ∙ h));
  on_signed = λ o x p s h. absurd (cc (sym (sum-Signed o x) ∙ h));
  on_binary = on_binary;
  on_plain = λ x p. tt;
  on_keyword = λ n x p. tt;
  on_triplet = λ a b c p q t. tt;
  on_whole = λ n m h. ap r.Whole (same_Some m n (sym (sym (whole-Whole n) ∙ h)));
  on_items = λ n items p m h. absurd (cc (sym (whole-Items n items) ∙ h));
  on_substring = λ n items a b p q t m h. absurd (cc (sym (whole-Substring n items a b) ∙ h));
  on_one = λ x p. tt;
  on_implied = λ vs n a b c p q t u. tt;
}

-- an expression that is a sum is printed so
pub known : (x : Expression) (s : NamedSum) → sum_in x ≡ Some s → Known x s
known = each_expression P Any R Any cases

pub whole_is : (x : Reference) (n : Word) → whole x ≡ Some n → r.Whole n ≡ x
whole_is = each_reference P Any R Any cases
