-- What a statement of the first form is: an assignment or a PRINT by itself, printed so.
use Rattle.std.proofs.Common.{◌≡◌, ℕ, ◌+◌, ◌≤◌, arith, true, ◌&&◌, List, [], ◌∷◌, ◌++◌, map, length, Some}
use Rattle.std.proofs.Common.{refl, sym, ◌∙◌, ap, subst, length-append, append_assoc, append-nil}
use Rattle.std.proofs.lemmas.List.{length-map}
use Rattle.std.proofs.lemmas.Bool.{and_parts}
use Rattle.std.proofs.lemmas.Option.{same_Some}
use Rattle.f95_tree.specs.declared.terminal.Punctuation.TheVariants as mark
use Rattle.f95_tree.specs.Forms.{Word, action_text}
use Rattle.f95_tree.specs.Spelling.{Text, punctuated, expression, reference, behind_commas}
use Rattle.f95_tree.specs.declared.expression.Expression.{Expression}
use Rattle.f95_tree.specs.declared.expression.Expression.TheVariants as e
use Rattle.f95_tree.specs.declared.expression.Reference.{Reference}
use Rattle.f95_tree.specs.declared.expression.Reference.TheVariants as r
use Rattle.f95_tree.specs.declared.action.Action.{Action}
use Rattle.f95_tree.specs.declared.action.Action.TheVariants as act
use Rattle.f95_tree.specs.declared.action.Assignment.{Assignment}
use Rattle.f95_tree.proofs.Nodes.{reference-Whole}
use Rattle.rank_one.specs.declared.form.NamedAction.{NamedAction}
use Rattle.rank_one.specs.declared.form.NamedAction.TheVariants as action
use Rattle.rank_one.specs.declared.form.NamedFactor.{NamedFactor}
use Rattle.rank_one.specs.declared.form.NamedFactor.TheVariants as factor
use Rattle.rank_one.specs.Forms.{◌>>=◌, term_in, whole, sum_in, sole_factor, name_of_factor, number_of_factor, name_in}
use Rattle.rank_one.specs.Forms.{constant_in, names_from, print_in, assignment_in, action_in}
use Rattle.rank_one.specs.Grammar.{number_tree, name_tree, factor_tree, sum_tree, action_tree, fits_factor, fits_action}
use Rattle.rank_one.proofs.Printed.{bound, Known, known, whole_is, one_term, term_of, term_is, factor_is, sum_size}

-- what is one factor is printed so
pub record Sole (x : Expression) (f : NamedFactor) : Type 0 where
  pub tree : factor_tree f ≡ x
  pub fits : fits_factor f ≡ true

pub sole_known : (x : Expression) (f : NamedFactor) → sole_factor x ≡ Some f → Sole x f
sole_known x f h = bound (sum_in x) _ f h (λ s is more. bound (term_in s) _ f more (λ t is' last.
    let one : s ≡ one_term (term_of f) = term_is s t is' ∙ ap one_term (factor_is t f last) in
    let k = subst (Known x) one (known x s is) in
    record { tree = k.tree; fits = (and_parts (fits_factor f) true (and_parts (fits_factor f && true) true k.fits).0).0 }))

named_factor : (f : NamedFactor) (n : Word) → name_of_factor f ≡ Some n → f ≡ factor.Name n
named_factor (factor.Name m) n h = ap factor.Name (same_Some m n h)
named_factor (factor.Number m) n h = absurd (cc)

numbered_factor : (f : NamedFactor) (n : ℕ) → number_of_factor f ≡ Some n → f ≡ factor.Number n
numbered_factor (factor.Number m) n h = ap factor.Number (same_Some m n h)
numbered_factor (factor.Name m) n h = absurd (cc)

pub name_known : (x : Expression) (n : Word) → name_in x ≡ Some n → name_tree n ≡ x
name_known x n h = bound (sole_factor x) _ n h (λ f is last.
    ap factor_tree (sym (named_factor f n last)) ∙ (sole_known x f is).tree)

pub constant_known : (x : Expression) (n : ℕ) → constant_in x ≡ Some n →
    (number_tree n ≡ x) × (fits_factor (factor.Number n) ≡ true)
constant_known x n h = bound (sole_factor x) _ n h (λ f is last.
    let number = numbered_factor f n last in
    (ap factor_tree (sym number) ∙ (sole_known x f is).tree, ap fits_factor (sym number) ∙ (sole_known x f is).fits))

-- names that are added to others
pub record Names (names : List Word) (xs : List Expression) (all : List Word) : Type 0 where
  pub more : List Word
  pub all_is : names ++ more ≡ all
  pub trees : map name_tree more ≡ xs

pub names_known : (names : List Word) (xs : List Expression) (all : List Word) → names_from names xs ≡ Some all → Names names xs all
names_known names [] all h = record { more = []; all_is = append-nil names ∙ same_Some names all h; trees = refl }
names_known names (x ∷ xs) all h = bound (name_in x) _ all h (λ n is last.
    let rest = names_known (names ++ n ∷ []) xs all last in
    record {
      more = n ∷ rest.more;
      all_is = sym (append_assoc names (n ∷ []) rest.more) ∙ rest.all_is;
      trees = ap (λ y. y ∷ map name_tree rest.more) (name_known x n is) ∙ ap (λ ys. x ∷ ys) rest.trees;
    })

-- what an action is printed as, and how large it is
abbrev pub action_size : NamedAction → ℕ
action_size (action.Assign target s) = 1 + sum_size s
action_size (action.Print first rest) = 2 + length rest

pub record Acted (a : Action) (n : NamedAction) : Type 0 where
  pub tree : action_tree n ≡ a
  pub fits : fits_action n ≡ true
  pub few : action_size n ≤ length (action_text a)

pub behind_few : (xs : List Text) → length xs ≤ length (behind_commas xs)
behind_few [] = omega arith
behind_few (x ∷ xs) = let more = behind_few xs in let apart = length-append x (behind_commas xs) in omega (arith, more, apart)

print_known : (xs : List Expression) (n : NamedAction) → print_in xs ≡ Some n → Acted (act.Print xs) n
print_known [] n h = absurd (cc)
print_known (x ∷ xs) n h = bound (name_in x) _ n h (λ first is more. bound (names_from [] xs) _ n more (λ rest is' last.
    let names = names_known [] xs rest is' in
    subst (Acted (act.Print (x ∷ xs))) (same_Some (action.Print first rest) n last) (record {
      tree = ap (λ y. act.Print (y ∷ map name_tree rest)) (name_known x first is)
          ∙ ap (λ ys. act.Print (x ∷ ys)) (ap (map name_tree) (sym names.all_is) ∙ names.trees);
      fits = refl;
      few = omega (
        arith,
        behind_few (map expression (x ∷ xs)),
        length-map (x ∷ xs) expression,
        length-map rest name_tree,
        ap length (ap (map name_tree) (sym names.all_is) ∙ names.trees),
      );
    })))

abbrev assignment_with : Reference → Expression → Assignment
assignment_with to value = record { to = to; value = value }

assignment_known : (a : Assignment) (n : NamedAction) → assignment_in a.to a.value ≡ Some n → Acted (act.Assignment a) n
assignment_known a n h = bound (whole a.to) _ n h (λ target is more. bound (sum_in a.value) _ n more (λ s is' last.
    let k = known a.value s is' in
    subst (Acted (act.Assignment a)) (same_Some (action.Assign target s) n last) (record {
      tree = ap (λ t. act.Assignment (assignment_with t (sum_tree s))) (whole_is a.to target is)
          ∙ ap (λ v. act.Assignment (assignment_with a.to v)) k.tree;
      fits = k.fits;
      few = omega (
        arith,
        k.few,
        length-append (reference a.to) (punctuated mark.Assign (expression a.value)),
        ap length (ap reference (sym (whole_is a.to target is)) ∙ reference-Whole target),
      );
    })))

pub action_known : (a : Action) (n : NamedAction) → action_in a ≡ Some n → Acted a n
action_known (act.Assignment a) n h = assignment_known a n h
action_known (act.Print xs) n h = print_known xs n h
action_known (act.Call _ _) n h = absurd (cc)
action_known (act.Allocate _) n h = absurd (cc)
action_known (act.Deallocate _) n h = absurd (cc)
action_known (act.Write _) n h = absurd (cc)
action_known (act.Read _) n h = absurd (cc)
action_known (act.ReadUnit _) n h = absurd (cc)
action_known (act.Stop _) n h = absurd (cc)
action_known act.Return n h = absurd (cc)
action_known act.Continue n h = absurd (cc)
action_known (act.Exit _) n h = absurd (cc)
action_known (act.Cycle _) n h = absurd (cc)
action_known (act.Where _ _) n h = absurd (cc)
action_known (act.Forall _ _) n h = absurd (cc)
