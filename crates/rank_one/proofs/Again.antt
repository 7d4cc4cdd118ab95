-- What is printed in the first form is of it.
use Rattle.std.proofs.Common.{◌≡◌, ℕ, pos, Bool, true, false, List, [], ◌∷◌, ◌++◌, map, fold, Option, Some, None, refl, sym}
use Rattle.std.proofs.Common.{◌∙◌, ap, append_assoc, append-nil}
use Rattle.std.specs.List.{list_all}
use Rattle.a95_base.specs.declared.source.Line.{Line}
use Rattle.std.proofs.lemmas.Bool.{and_parts}
use Rattle.f95_tree.specs.Forms.{Word}
use Rattle.f95_tree.specs.declared.action.Action.{Action}
use Rattle.f95_tree.specs.declared.expression.Expression.{Expression}
use Rattle.f95_tree.specs.declared.expression.Expression.TheVariants as e
use Rattle.f95_tree.specs.declared.expression.Reference.TheVariants as r
use Rattle.f95_tree.specs.declared.expression.Literal.TheVariants as literal
use Rattle.f95_tree.specs.declared.terminal.Operator.TheVariants as operator
use Rattle.f95_tree.specs.declared.source.Statement.TheVariants as statement
use Rattle.f95_tree.specs.declared.source.Statement.TheOpen as layer
use Rattle.f95_tree.specs.declared.source.Statement.TheFolds.{fold-roll-Statement}
use Rattle.rank_one.specs.declared.form.NamedAction.{NamedAction}
use Rattle.rank_one.specs.declared.form.NamedAction.TheVariants as action
use Rattle.rank_one.specs.declared.form.NamedArray.{NamedArray}
use Rattle.rank_one.specs.declared.form.NamedSum.{NamedSum}
use Rattle.rank_one.specs.declared.form.NamedAddend.{NamedAddend}
use Rattle.rank_one.specs.declared.form.NamedTerm.{NamedTerm}
use Rattle.rank_one.specs.declared.form.NamedFactor.{NamedFactor}
use Rattle.rank_one.specs.declared.form.NamedFactor.TheVariants as factor
use Rattle.rank_one.specs.Forms.{◌>>=◌, one_factor, term_in, factor_in, joined, added, sum_in}
use Rattle.rank_one.specs.Forms.{name_of_factor, number_of_factor, name_in, constant_in, names_from, action_in, named_at, named_in}
use Rattle.rank_one.specs.Forms.{array_in, arrays_from, arrays_in}
use Rattle.rank_one.specs.Grammar.{number_tree, name_tree, factor_tree, times, term_tree, sign_of, plus, sum_tree, action_tree}
use Rattle.rank_one.specs.Grammar.{array_tree, declaration_tree, is_integer_value, fits_factor, fits_term, fits_sum, fits_action}
use Rattle.rank_one.proofs.Choices.{yes}
use Rattle.rank_one.proofs.Nodes.{sum-Literal, sum-Reference, sum-Binary, whole-Whole}
use Rattle.rank_one.proofs.Printed.{one_term, term_of}

abbrev term_with : NamedFactor → List NamedFactor → NamedTerm
term_with f more = record { first = f; rest = more }

abbrev sum_with : NamedTerm → List NamedAddend → NamedSum
sum_with t more = record { first = t; rest = more }

factor_again : (f : NamedFactor) → fits_factor f ≡ true → sum_in (factor_tree f) ≡ Some (one_factor f)
factor_again (factor.Number n) h =
    sum-Literal (literal.Number (pos n)) ∙ ap (λ (o : Option ℕ). o >>= λ m. Some (one_factor (factor.Number m)))
    (yes (Some n) None h)
factor_again (factor.Name n) h =
    sum-Reference (r.Whole n) ∙ ap (λ (o : Option Word). o >>= λ m. Some (one_factor (factor.Name m))) (whole-Whole n)

times_again : (x : Expression) (t : NamedTerm) (f : NamedFactor) → sum_in x ≡ Some (one_term t) → fits_factor f ≡ true
    → sum_in (times x f) ≡ Some (one_term (term_with t.first (t.rest ++ f ∷ [])))
times_again x t f h fits =
    sum-Binary operator.Multiply x (factor_tree f)
    ∙ (ap (λ (o : Option NamedSum). o >>= λ a. (sum_in (factor_tree f) >>= λ b. joined operator.Multiply a b)) h
    ∙ ap (λ (o : Option NamedSum). o >>= λ b. joined operator.Multiply (one_term t) b) (factor_again f fits))

factors_again : (rest : List NamedFactor) (x : Expression) (t : NamedTerm) → sum_in x ≡ Some (one_term t) →
    list_all fits_factor rest ≡ true
    → sum_in (fold times x rest) ≡ Some (one_term (term_with t.first (t.rest ++ rest)))
factors_again [] x t h fits = h ∙ ap (λ more. Some (one_term (term_with t.first more))) (sym (append-nil t.rest))
factors_again (f ∷ rest) x t h fits =
    let two = and_parts (fits_factor f) (list_all fits_factor rest) fits in
    factors_again rest (times x f) (term_with t.first (t.rest ++ f ∷ [])) (times_again x t f h two.0) two.1
    ∙ ap (λ more. Some (one_term (term_with t.first more))) (append_assoc t.rest (f ∷ []) rest)

term_again : (t : NamedTerm) → fits_term t ≡ true → sum_in (term_tree t) ≡ Some (one_term t)
term_again t fits =
    let two = and_parts (fits_factor t.first) (list_all fits_factor t.rest) fits in
    factors_again t.rest (factor_tree t.first) (term_of t.first) (factor_again t.first two.0) two.1

joined_again : (minus : Bool) (a b : NamedSum) → joined (sign_of minus) a b ≡ added minus a b
joined_again true a b = refl
joined_again false a b = refl

plus_again : (x : Expression) (s : NamedSum) (a : NamedAddend) → sum_in x ≡ Some s → fits_term a.term ≡ true
    → sum_in (plus x a) ≡ Some (sum_with s.first (s.rest ++ a ∷ []))
plus_again x s a h fits =
    sum-Binary (sign_of a.minus) x (term_tree a.term)
    ∙ (ap (λ (o : Option NamedSum). o >>= λ m. (sum_in (term_tree a.term) >>= λ n. joined (sign_of a.minus) m n)) h
    ∙ (ap (λ (o : Option NamedSum). o >>= λ n. joined (sign_of a.minus) s n) (term_again a.term fits)
    ∙ joined_again a.minus s (one_term a.term)))

addends_again : (rest : List NamedAddend) (x : Expression) (s : NamedSum) → sum_in x ≡ Some s →
    list_all (λ (a : NamedAddend). fits_term a.term) rest ≡ true
    → sum_in (fold plus x rest) ≡ Some (sum_with s.first (s.rest ++ rest))
addends_again [] x s h fits = h ∙ ap (λ more. Some (sum_with s.first more)) (sym (append-nil s.rest))
addends_again (a ∷ rest) x s h fits =
    let two = and_parts (fits_term a.term) (list_all (λ (b : NamedAddend). fits_term b.term) rest) fits in
    addends_again rest (plus x a) (sum_with s.first (s.rest ++ a ∷ [])) (plus_again x s a h two.0) two.1
    ∙ ap (λ more. Some (sum_with s.first more)) (append_assoc s.rest (a ∷ []) rest)

pub sum_again : (s : NamedSum) → fits_sum s ≡ true → sum_in (sum_tree s) ≡ Some s
sum_again s fits =
    let two = and_parts (fits_term s.first) (list_all (λ (a : NamedAddend). fits_term a.term) s.rest) fits in
    addends_again s.rest (term_tree s.first) (one_term s.first) (term_again s.first two.0) two.1

name_again : (n : Word) → name_in (name_tree n) ≡ Some n
name_again n = ap (λ (o : Option NamedSum). (o >>= λ s. (term_in s >>= λ t. factor_in t)) >>= name_of_factor)
    (factor_again (factor.Name n) refl)

constant_again : (n : ℕ) → is_integer_value n ≡ true → constant_in (number_tree n) ≡ Some n
constant_again n h = ap (λ (o : Option NamedSum). (o >>= λ s. (term_in s >>= λ t. factor_in t)) >>= number_of_factor)
    (factor_again (factor.Number n) h)

names_again : (names more : List Word) → names_from names (map name_tree more) ≡ Some (names ++ more)
names_again names [] = ap Some (sym (append-nil names))
names_again names (n ∷ more) =
    ap (λ (o : Option Word). o >>= λ m. names_from (names ++ m ∷ []) (map name_tree more)) (name_again n)
    ∙ (names_again (names ++ n ∷ []) more ∙ ap Some (append_assoc names (n ∷ []) more))

pub action_again : (a : NamedAction) → fits_action a ≡ true → action_in (action_tree a) ≡ Some a
action_again (action.Assign target value) fits =
    ap (λ (o : Option Word). o >>= λ t. (sum_in (sum_tree value) >>= λ s. Some (action.Assign t s))) (whole-Whole target)
    ∙ ap (λ (o : Option NamedSum). o >>= λ s. Some (action.Assign target s)) (sum_again value fits)
action_again (action.Print first rest) fits =
    ap (λ (o : Option Word). o >>= λ n. (names_from [] (map name_tree rest) >>= λ ns. Some (action.Print n ns))) (name_again first)
    ∙ ap (λ (o : Option (List Word)). o >>= λ ns. Some (action.Print first ns)) (names_again [] rest)

pub named_again : (l : Line) (a : NamedAction) → fits_action a ≡ true → named_in (statement.Action l (action_tree a)) ≡ Some a
named_again l a fits =
    ap named_in (sym (statement.rolls-Action l (action_tree a)))
    ∙ (fold-roll-Statement (Option NamedAction) (Unit {0}) (Unit {0}) (Unit {0}) named_at (λ _. tt) (λ _. tt) (λ _. tt)
    (layer.Action l (action_tree a))
    ∙ action_again a fits)

array_again : (a : NamedArray) → is_integer_value a.extent ≡ true → array_in (array_tree a) ≡ Some a
array_again a h = ap (λ (o : Option ℕ). o >>= λ k. Some (record { name = a.name; extent = k })) (constant_again a.extent h)

arrays_again : (arrays more : List NamedArray) → list_all (λ (a : NamedArray). is_integer_value a.extent) more ≡ true
    → arrays_from arrays (map array_tree more) ≡ Some (arrays ++ more)
arrays_again arrays [] h = ap Some (sym (append-nil arrays))
arrays_again arrays (a ∷ more) h =
    let two = and_parts (is_integer_value a.extent) (list_all (λ (b : NamedArray). is_integer_value b.extent) more) h in
    ap (λ (o : Option NamedArray). o >>= λ m. arrays_from (arrays ++ m ∷ []) (map array_tree more)) (array_again a two.0)
    ∙ (arrays_again (arrays ++ a ∷ []) more two.1 ∙ ap Some (append_assoc arrays (a ∷ []) more))

pub declaration_again : (colons : Bool) (arrays : List NamedArray) → list_all (λ (a : NamedArray). is_integer_value a.extent) arrays
    ≡ true
    → arrays_in (declaration_tree colons arrays) ≡ Some arrays
declaration_again colons arrays h = arrays_again [] arrays h
