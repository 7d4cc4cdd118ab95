-- Arguments, one after the other.
use Rattle.std.proofs.Common.{◌≡◌, ℕ, suc, ◌+◌, ◌≤◌, Bool, true, false, not, ◌&&◌, ◌||◌, List, [], ◌∷◌, ◌++◌, map, Option, Some}
use Rattle.std.proofs.Common.{None, refl, sym, ap, ◌∙◌, append_assoc, length, get_or, take, drop, ◌-◌, arith}
use Rattle.std.proofs.lemmas.List.{take_all}
use Rattle.std.specs.Prelude.{option_map}
use Rattle.std.specs.List.{list_all}
use Rattle.std.specs.Option.{is_some}
use Rattle.constant_operators.specs.declared.value.Argument.{Argument}
use Rattle.intrinsic_table.specs.declared.intrinsic.Intrinsic.{Intrinsic}
use Rattle.names_types.specs.Constants.{Placed, placed_first, placed_from, argument_place, keywords_last, arguments}
use Rattle.names_types.specs.Plain as plain
use Rattle.names_types.specs.View.{joined_items, item_of}
use Rattle.names_types.specs.declared.sense.Sense.{Sense}
use Rattle.f95_tree.specs.declared.expression.Item.{Item}
use Rattle.f95_tree.specs.Forms.{Word}

-- ---- places

moved : (made : List Placed) (p : ℕ) (a : Argument) (more : Option (List Placed))
    → option_map (λ ys. made ++ ys) (placed_first (Some p) a more) ≡ option_map (λ ys. (made ++ (p, a) ∷ []) ++ ys) more
moved made p a None = refl
moved made p a (Some ys) = ap Some (sym (append_assoc made ((p, a) ∷ []) ys))

pub placed_more : (which : Intrinsic) (next p : ℕ) (a : Argument) (made : List Placed) (rest : List Argument)
    (whole : Option (List Placed)) → argument_place which next a.keyword ≡ Some p
    → option_map (λ ys. made ++ ys) (placed_from which next (a ∷ rest)) ≡ whole
    → option_map (λ ys. (made ++ (p, a) ∷ []) ++ ys) (placed_from which (next + 1) rest) ≡ whole
placed_more which next p a made rest whole e h =
    let counted : next + 1 ≡ suc next = omega arith in
    ap (λ n. option_map (λ ys. (made ++ (p, a) ∷ []) ++ ys) (placed_from which n rest)) counted
    ∙ sym (moved made p a (placed_from which (suc next) rest))
    ∙ (ap (λ o. option_map (λ ys. made ++ ys) (placed_first o a (placed_from which (suc next) rest))) (sym e) ∙ h)

pub placed_none : (which : Intrinsic) (next : ℕ) (a : Argument) (made : List Placed) (rest : List Argument)
    (whole : Option (List Placed)) → argument_place which next a.keyword ≡ None
    → option_map (λ ys. made ++ ys) (placed_from which next (a ∷ rest)) ≡ whole → None ≡ whole
placed_none which next a made rest whole e h =
    ap (λ o. option_map (λ ys. made ++ ys) (placed_first o a (placed_from which (suc next) rest))) (sym e) ∙ h

-- ---- keywords

abbrev keyed : Argument → Bool
keyed a = is_some a.keyword

all_last : (args : List Argument) → list_all (λ (a : Argument). is_some a.keyword) args ≡ true → keywords_last args ≡ true
all_last [] e = refl
all_last (a ∷ more) e = by (keyed a) (list_all (λ (b : Argument). is_some b.keyword) more) e (all_last more)
  where
    by : (k all : Bool) → (k && all) ≡ true → (all ≡ true → keywords_last more ≡ true)
        → ((not k || all) && keywords_last more) ≡ true
    by true true e f = f refl
    by true false e f = absurd (let z : ⊥ = cc in z)
    by false all e f = absurd (let z : ⊥ = cc in z)

keywords_behind : (a : Argument) (more : List Argument) → is_some a.keyword ≡ true
    → list_all (λ (b : Argument). is_some b.keyword) more ≡ keywords_last (a ∷ more)
keywords_behind a more e = by (keyed a) (list_all (λ (b : Argument). is_some b.keyword) more) e (all_last more)
  where
    by : (k all : Bool) → k ≡ true → (all ≡ true → keywords_last more ≡ true) → all ≡ ((not k || all) && keywords_last more)
    by true true e f = sym (f refl)
    by true false e f = refl
    by false all e f = absurd (let z : ⊥ = cc in z)

pub keywords_behind_first : (args : List Argument) (d : Argument) → 1 ≤ length args → is_some (get_or args 0 d).keyword ≡ true
    → list_all (λ (b : Argument). is_some b.keyword) (take (length args - 1) (drop 1 args)) ≡ keywords_last args
keywords_behind_first [] d some e = absurd (omega (arith, some))
keywords_behind_first (a ∷ more) d some e =
    let all : take (length (a ∷ more) - 1) more ≡ more = take_all (length (a ∷ more) - 1) more (omega arith) in
    ap (λ bs. list_all (λ (b : Argument). is_some b.keyword) bs) all ∙ keywords_behind a more e

-- ---- items

-- an item adds one argument
pub argument_next : (sense : Word → Sense) (made : List Argument) (i : Item) (a : Argument) (rest : List Item)
    (whole : List Argument)
    → ((more : plain.Items) → arguments sense (item_of i more) ≡ a ∷ arguments sense more)
    → made ++ arguments sense (joined_items (map item_of (i ∷ rest))) ≡ whole
    → (made ++ a ∷ []) ++ arguments sense (joined_items (map item_of rest)) ≡ whole
argument_next sense made i a rest whole h e =
    let more = joined_items (map item_of rest) in
    append_assoc made (a ∷ []) (arguments sense more) ∙ (ap (λ xs. made ++ xs) (sym (h more)) ∙ e)
