-- Statements and declarations of the first form, printed as they are.
use Rattle.std.proofs.Common.{◌≡◌, ℕ, ◌+◌, ◌≤◌, arith, Bool, true, List, [], ◌∷◌, ◌++◌, map, length, Option, Some, None}
use Rattle.std.proofs.Common.{refl, sym, ◌∙◌, ap, subst, length-append, append_assoc, append-nil}
use Rattle.std.proofs.lemmas.List.{length-map}
use Rattle.a95_base.specs.declared.source.Line.{Line}
use Rattle.std.proofs.lemmas.Option.{same_Some}
use Rattle.f95_tree.specs.Forms.{Word, action_text, declaration_text, type_text, attribute_text, colons_text, entity_text}
use Rattle.f95_tree.specs.Spelling.{commas, behind_commas}
use Rattle.f95_tree.specs.declared.expression.Expression.{Expression}
use Rattle.f95_tree.specs.declared.action.Action.{Action}
use Rattle.f95_tree.specs.declared.declaration.Declaration.{Declaration}
use Rattle.f95_tree.specs.declared.declaration.Attribute.{Attribute}
use Rattle.f95_tree.specs.declared.declaration.Entity.{Entity}
use Rattle.f95_tree.specs.declared.declaration.TypeSpec.{TypeSpec}
use Rattle.f95_tree.specs.declared.declaration.TypeSpec.TheVariants as type_spec
use Rattle.f95_tree.specs.declared.declaration.Dim.{Dim}
use Rattle.f95_tree.specs.declared.declaration.Dim.TheVariants as dim
use Rattle.f95_tree.specs.declared.source.Statement.{Statement, roll-Statement}
use Rattle.f95_tree.specs.declared.source.Statement.TheVariants as statement
use Rattle.f95_tree.specs.declared.source.Statement.TheOpen.{Statement-F}
use Rattle.f95_tree.specs.declared.source.Statement.TheOpen as layer
use Rattle.f95_tree.specs.declared.source.Statement.TheFolds.{ind-Statement, map-Statement, fold-roll-Statement}
use Rattle.f95_tree.specs.declared.source.Branch.{Branch}
use Rattle.f95_tree.specs.declared.source.Case.{Case}
use Rattle.f95_tree.specs.declared.source.Otherwise.{Otherwise}
use Rattle.rank_one.specs.declared.form.NamedAction.{NamedAction}
use Rattle.rank_one.specs.declared.form.NamedArray.{NamedArray}
use Rattle.rank_one.specs.Forms.{◌>>=◌, alone, named_at, named_in, bound_in, extent_in, array_with}
use Rattle.rank_one.specs.Forms.{array_in, arrays_from, is_integer, arrays_in}
use Rattle.rank_one.specs.Grammar.{number_tree, array_tree, declaration_tree}
use Rattle.rank_one.specs.Sizes.{terminals_at, statement_terminals}
use Rattle.rank_one.proofs.Choices.{yes, no, by_test}
use Rattle.rank_one.proofs.Printed.{bound, alone_is}
use Rattle.rank_one.proofs.Acts.{constant_known, Acted, action_known, behind_few}

-- ---- statements

-- a statement that does this
pub record Stated (x : Statement) (n : NamedAction) : Type 0 where
  pub line : Line
  pub it : Action
  pub is : statement.Action line it ≡ x
  pub acted : Acted it n
  pub terminals : statement_terminals x ≡ length (action_text it)

abbrev P : Statement → Type 0
P x = (n : NamedAction) → named_in x ≡ Some n → Stated x n

abbrev Any : {A : Type 0} → A → Type 0
Any x = Unit {0}

abbrev named_roll : (z : Statement-F Statement Branch Case Otherwise) → Type 0
named_roll z = named_in (roll-Statement z) ≡ None

other : (z : Statement-F Statement Branch Case Otherwise) → named_roll z → P (roll-Statement z)
other z none = λ n h. absurd (cc)

abbrev firsts : {A : Type 0} {Q : A → Type 0} → List ((x : A) × Q x) → List A
firsts xs = map (λ p. p.0) xs

rolled : (y : Statement-F ((x : Statement) × P x) ((x : Branch) × Any x) ((x : Case) × Any x) ((x : Otherwise) × Any x))
    → P (roll-Statement
    (map-Statement ((x : Statement) × P x) ((x : Branch) × Any x) ((x : Case) × Any x) ((x : Otherwise) × Any x) Statement
    Branch Case Otherwise (λ p. p.0) (λ p. p.0) (λ p. p.0) (λ p. p.0) y))
rolled (layer.Action l a) = λ n h. record {
  line = l;
  it = a;
  is = sym (statement.rolls-Action l a);
  acted = action_known a n
      (sym (fold-roll-Statement (Option NamedAction) (Unit {0}) (Unit {0}) (Unit {0}) named_at (λ _. tt) (λ _. tt) (λ _. tt)
      (layer.Action l a)) ∙ h);
  terminals = fold-roll-Statement ℕ (Unit {0}) (Unit {0}) (Unit {0}) terminals_at (λ _. tt) (λ _. tt) (λ _. tt) (layer.Action l a);
}
rolled (layer.If l c a) =
    other (layer.If l c a)
    (fold-roll-Statement (Option NamedAction) (Unit {0}) (Unit {0}) (Unit {0}) named_at (λ _. tt) (λ _. tt) (λ _. tt)
    (layer.If l c a))
rolled (layer.IfBlock l n c xs bs None end) = other (layer.IfBlock l n c (firsts xs) (firsts bs) None end)
    (fold-roll-Statement (Option NamedAction) (Unit {0}) (Unit {0}) (Unit {0}) named_at (λ _. tt) (λ _. tt) (λ _. tt)
    (layer.IfBlock l n c (firsts xs) (firsts bs) None end))
rolled (layer.IfBlock l n c xs bs (Some o) end) = other (layer.IfBlock l n c (firsts xs) (firsts bs) (Some o.0) end)
    (fold-roll-Statement (Option NamedAction) (Unit {0}) (Unit {0}) (Unit {0}) named_at (λ _. tt) (λ _. tt) (λ _. tt)
    (layer.IfBlock l n c (firsts xs) (firsts bs) (Some o.0) end))
rolled (layer.Select l n c ks end) = other (layer.Select l n c (firsts ks) end)
    (fold-roll-Statement (Option NamedAction) (Unit {0}) (Unit {0}) (Unit {0}) named_at (λ _. tt) (λ _. tt) (λ _. tt)
    (layer.Select l n c (firsts ks) end))
rolled (layer.Do l n k xs end) = other (layer.Do l n k (firsts xs) end)
    (fold-roll-Statement (Option NamedAction) (Unit {0}) (Unit {0}) (Unit {0}) named_at (λ _. tt) (λ _. tt) (λ _. tt)
    (layer.Do l n k (firsts xs) end))
rolled (layer.Where b) =
    other (layer.Where b)
    (fold-roll-Statement (Option NamedAction) (Unit {0}) (Unit {0}) (Unit {0}) named_at (λ _. tt) (λ _. tt) (λ _. tt)
    (layer.Where b))
rolled (layer.Forall l h xs end) = other (layer.Forall l h xs end)
    (fold-roll-Statement (Option NamedAction) (Unit {0}) (Unit {0}) (Unit {0}) named_at (λ _. tt) (λ _. tt) (λ _. tt)
    (layer.Forall l h xs end))

pub stated : (x : Statement) (n : NamedAction) → named_in x ≡ Some n → Stated x n
stated = ind-Statement P Any Any Any (λ x y is. subst (λ z. P (roll-Statement z)) is (rolled y)) (λ x y is. tt) (λ x y is. tt)
    (λ x y is. tt)

-- ---- declarations

bound_known : (d : Dim) (k : ℕ) → bound_in d ≡ Some k → d ≡ dim.Upper (number_tree k)
bound_known (dim.Upper x) k h = ap dim.Upper (sym (constant_known x k h).0)
bound_known (dim.Both _ _) k h = absurd (cc)
bound_known (dim.Lower _) k h = absurd (cc)
bound_known dim.Deferred k h = absurd (cc)

extent_known : (ds : List Dim) (k : ℕ) → extent_in ds ≡ Some k → dim.Upper (number_tree k) ∷ [] ≡ ds
extent_known [] k h = absurd (cc)
extent_known (d ∷ ds) k h = bound (alone ds d) _ k h (λ x is last.
    let sole = alone_is ds d x is in
    ap (λ y. y ∷ []) (sym (sole.1 ∙ bound_known x k last)) ∙ ap (λ ys. d ∷ ys) (sym sole.0))

abbrev entity_with : Word → Option (List Dim) → Option Expression → Entity
entity_with n dims initial = record { name = n; dims = dims; initial = initial }

array_known_with : (n : Word) (dims : Option (List Dim)) (initial : Option Expression) (a : NamedArray) → array_with n dims initial
    ≡ Some a
    → array_tree a ≡ entity_with n dims initial
array_known_with n (Some dims) None a h = bound (extent_in dims) _ a h (λ k is last.
    ap array_tree (sym (same_Some (record { name = n; extent = k }) a last))
    ∙ ap (λ ds. entity_with n (Some ds) None) (extent_known dims k is))
array_known_with n None None a h = absurd (cc)
array_known_with n None (Some _) a h = absurd (cc)
array_known_with n (Some dims) (Some _) a h = absurd (cc)

pub array_known : (x : Entity) (a : NamedArray) → array_in x ≡ Some a → array_tree a ≡ x
array_known x a h = array_known_with x.name x.dims x.initial a h

pub record Arrays (arrays : List NamedArray) (xs : List Entity) (all : List NamedArray) : Type 0 where
  pub more : List NamedArray
  pub all_is : arrays ++ more ≡ all
  pub trees : map array_tree more ≡ xs

pub arrays_known : (arrays : List NamedArray) (xs : List Entity) (all : List NamedArray) → arrays_from arrays xs ≡ Some all →
    Arrays arrays xs all
arrays_known arrays [] all h = record { more = []; all_is = append-nil arrays ∙ same_Some arrays all h; trees = refl }
arrays_known arrays (x ∷ xs) all h = bound (array_in x) _ all h (λ a is last.
    let rest = arrays_known (arrays ++ a ∷ []) xs all last in
    record {
      more = a ∷ rest.more;
      all_is = sym (append_assoc arrays (a ∷ []) rest.more) ∙ rest.all_is;
      trees = ap (λ y. y ∷ map array_tree rest.more) (array_known x a is) ∙ ap (λ ys. x ∷ ys) rest.trees;
    })

integer_is : (t : TypeSpec) → is_integer t ≡ true → t ≡ type_spec.Integer
integer_is type_spec.Integer h = refl
integer_is type_spec.Logical h = absurd (cc)
integer_is (type_spec.Character _) h = absurd (cc)

abbrev declaration_with : TypeSpec → List Attribute → Bool → List Entity → Declaration
declaration_with t attributes colons entities = record { of = t; attributes = attributes; colons = colons; entities = entities }

-- a declaration of arrays is printed so
pub declaration_known : (d : Declaration) (arrays : List NamedArray) → arrays_in d ≡ Some arrays → declaration_tree d.colons arrays
    ≡ d
declaration_known d arrays h = by_test (is_integer d.of)
    (λ integer. bound (alone d.attributes d.entities) (arrays_from []) arrays
    (sym (yes (alone d.attributes d.entities >>= arrays_from []) None integer) ∙ h) (λ es is last.
    let sole = alone_is d.attributes d.entities es is in
    let made = arrays_known [] es arrays last in
    ap (λ t. declaration_with t [] d.colons (map array_tree arrays)) (sym (integer_is d.of integer))
    ∙ (ap (λ xs. declaration_with d.of xs d.colons (map array_tree arrays)) (sym sole.0)
    ∙ ap (declaration_with d.of d.attributes d.colons) (ap (map array_tree) (sym made.all_is) ∙ (made.trees ∙ sym sole.1)))))
    (λ other. absurd (cc (sym (no (alone d.attributes d.entities >>= arrays_from []) None other) ∙ h)))

-- its arrays are no more than its terminals
pub declaration_few : (d : Declaration) (arrays : List NamedArray) → arrays_in d ≡ Some arrays →
    length arrays ≤ length (declaration_text d)
declaration_few d arrays h =
    let same = ap (λ (x : Declaration). length x.entities) (declaration_known d arrays h) in
    let count = length-map arrays array_tree in
    let few = entities_few d.entities in
    let first =
    length-append (type_text d.of)
    (behind_commas (map attribute_text d.attributes) ++ (colons_text d.colons ++ commas (map entity_text d.entities))) in
    let second = length-append (behind_commas (map attribute_text d.attributes))
    (colons_text d.colons ++ commas (map entity_text d.entities)) in
    let third = length-append (colons_text d.colons) (commas (map entity_text d.entities)) in
    omega (arith, same, count, few, first, second, third)
  where
    entities_few : (xs : List Entity) → length xs ≤ length (commas (map entity_text xs))
    entities_few [] = omega arith
    entities_few (x ∷ xs) =
        let more = behind_few (map entity_text xs) in
        let apart = length-append (entity_text x) (behind_commas (map entity_text xs)) in
        let same = length-map xs entity_text in
        omega (arith, more, apart, same)
