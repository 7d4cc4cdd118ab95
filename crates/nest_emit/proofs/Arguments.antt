-- The arguments of an elemental function, each with its place among the dummies: their sorts, and their values in atoms.
use Rattle.std.proofs.Common.{◌≡◌, ℕ, suc, ◌+◌, ◌≤◌, Bool, true, false, ◌&&◌, nat_le, List, [], ◌∷◌, Option, Some, None, refl, sym, ap, ◌∙◌, subst, arith, length, nat_eq, if◌then◌else◌}
use Rattle.std.specs.Prelude.{is_some}
use Rattle.std.specs.List.{list_all}
use Rattle.std.proofs.lemmas.Bool.Decides.{nat_tests}
use Rattle.a95_base.specs.declared.scalar.Scalar.{Scalar}
use Rattle.std.proofs.lemmas.Bool.{and_parts}
use Rattle.a95_base.proofs.Tests.{clash}
use Rattle.nest_tree.proofs.Sorts.{sort_if_some}
use Rattle.f95_unit.specs.declared.operation.Elemental.{Elemental}
use Rattle.f95_unit.specs.declared.operation.Elemental.TheVariants as elemental
use Rattle.array_meaning.specs.Values.{nothing, argument_of}
use Rattle.nest_tree.specs.declared.unit.Sort.{Sort}
use Rattle.nest_tree.specs.declared.unit.Sort.TheVariants as sort
use Rattle.nest_tree.specs.Plain.{Tree, Trees, no_tree, tree}
use Rattle.nest_tree.specs.Sound.{Scope, some_serves, both_serve, sort_of, sorts_of, sort_at, sort_if, one_of, two_of, is_merge, either_sort, elemental_sort}
use Rattle.loop_laws.specs.At.{Variables, value_of, bytes_of}
use Rattle.nest_emit.specs.Numbers.{first_free}
use Rattle.nest_emit.specs.Trees.{atom_of, words_of, atom_at, words_at, count_trees}
use Rattle.nest_emit.specs.Kin.{Shows, Keeps}
use Rattle.nest_emit.proofs.Values.{some_is, shows_as, there_is, served, shows_serves}
use Rattle.nest_emit.proofs.Leaves.{steady}
use Rattle.nest_emit.proofs.Kin.{keeps_less}

-- ---- arguments in their atoms

module _ (c : Scope) (nests : ℕ) (v : Variables) where
  -- the value of each argument, from number t on
  abbrev pub AllShown : ℕ → Trees → List (ℕ × Scalar) → Type 0
  AllShown t no_tree [] = Unit {0}
  AllShown t no_tree (x ∷ xs) = ⊥
  AllShown t (tree place x ts) [] = ⊥
  AllShown t (tree place x ts) (y ∷ xs) = (place ≡ y.0)
      × ((s : Sort) → sort_of c x ≡ Some s → Shows s (value_of v (atom_of c nests t x)) (bytes_of v (words_of c nests t x)) y.1)
      × AllShown (suc t) ts xs

  -- the argument with a place
  pub argument_shown : (place : ℕ) (asked : Sort) (t : ℕ) (ts : Trees) (xs : List (ℕ × Scalar)) → AllShown t ts xs →
      some_serves (sort_at place (sorts_of c ts)) asked ≡ true →
      Shows asked (value_of v (atom_at c nests place t ts)) (bytes_of v (words_at c nests place t ts))
      (argument_of nothing place xs)
  argument_shown place asked t no_tree xs shown h = cc
  argument_shown place asked t (tree p x ts) [] shown h = absurd shown
  argument_shown place asked t (tree p x ts) (y ∷ xs) shown h =
      by (λ g. argument_shown place asked (suc t) ts xs shown.2 g) (nat_eq p place) refl h
    where
      by : (some_serves (sort_at place (sorts_of c ts)) asked ≡ true →
          Shows asked (value_of v (atom_at c nests place (suc t) ts)) (bytes_of v (words_at c nests place (suc t) ts))
          (argument_of nothing place xs)) →
          (b : Bool) → nat_eq p place ≡ b →
          some_serves (if nat_eq p place then sort_of c x else sort_at place (sorts_of c ts)) asked ≡ true →
          Shows asked (value_of v (if nat_eq p place then atom_of c nests t x else atom_at c nests place (suc t) ts))
          (bytes_of v (if nat_eq p place then words_of c nests t x else words_at c nests place (suc t) ts))
          (if nat_eq y.0 place then y.1 else argument_of nothing place xs)
      by later true e g =
          let other : nat_eq y.0 place ≡ true = ap (λ k. nat_eq k place) (sym shown.0) ∙ e in
          let s = served (sort_of c x) asked
          (ap (λ b. some_serves (if b then sort_of c x else sort_at place (sorts_of c ts)) asked) (sym e) ∙ g) in
          rw (e, other) (shows_serves s.sort asked s.serves_it (value_of v (atom_of c nests t x))
          (bytes_of v (words_of c nests t x)) y.1 (shown.1 s.sort s.is))
      by later false e g =
          let other : nat_eq y.0 place ≡ false = ap (λ k. nat_eq k place) (sym shown.0) ∙ e in
          rw (e, other) (later
          (ap (λ b. some_serves (if b then sort_of c x else sort_at place (sorts_of c ts)) asked) (sym e) ∙ g))

-- ---- each argument has a sort

abbrev pub AllSorted : Scope → Trees → Type 0
AllSorted c no_tree = Unit {0}
AllSorted c (tree place x ts) = ((s : Sort) × (sort_of c x ≡ Some s)) × AllSorted c ts

-- something has this place
abbrev There : ℕ → List (ℕ × Option Sort) → Type 0
There place ss = is_some (sort_at place ss) ≡ true

served_there : (o : Option Sort) (asked : Sort) → some_serves o asked ≡ true → is_some o ≡ true
served_there None asked h = cc
served_there (Some s) asked h = refl

at_first : (b : Bool) (o p : Option Sort) → b ≡ true → is_some (if b then o else p) ≡ true → is_some o ≡ true
at_first true o p e h = h
at_first false o p e h = cc

further : (b : Bool) (o p : Option Sort) → b ≡ false → is_some (if b then o else p) ≡ true → is_some p ≡ true
further true o p e h = cc
further false o p e h = h

-- an entry has one place
other_place : (p i j : ℕ) → nat_eq i j ≡ false → nat_eq p i ≡ true → nat_eq p j ≡ false
other_place p i j apart e = let same : p ≡ i = grind (arith, nat_tests, e) in ap (λ k. nat_eq k j) same ∙ apart

one_place : (i : ℕ) (e : ℕ × Option Sort) → There i (e ∷ []) → (nat_eq e.0 i ≡ true) × (is_some e.1 ≡ true)
one_place i e h = by (nat_eq e.0 i) h
  where
    by : (b : Bool) → is_some (if b then e.1 else None) ≡ true → (b ≡ true) × (is_some e.1 ≡ true)
    by true g = (refl, g)
    by false g = cc

-- two entries with two places, and three with three
two_places : (i j : ℕ) → nat_eq i j ≡ false → (e f : ℕ × Option Sort) → There i (e ∷ f ∷ []) → There j (e ∷ f ∷ []) →
    (is_some e.1 ≡ true) × (is_some f.1 ≡ true)
two_places i j apart e f h g = by (nat_eq e.0 i) refl
  where
    again : (is_some f.1 ≡ true) → nat_eq f.0 i ≡ true → (b : Bool) → nat_eq e.0 j ≡ b → (is_some e.1 ≡ true) × (is_some f.1 ≡ true)
    again there at true is = (at_first (nat_eq e.0 j) e.1 (sort_at j (f ∷ [])) is g, there)
    again there at false is = absurd (clash (nat_eq f.0 j)
        ((one_place j f (further (nat_eq e.0 j) e.1 (sort_at j (f ∷ [])) is g)).0) (other_place f.0 i j apart at))

    by : (b : Bool) → nat_eq e.0 i ≡ b → (is_some e.1 ≡ true) × (is_some f.1 ≡ true)
    by true is = (
      at_first (nat_eq e.0 i) e.1 (sort_at i (f ∷ [])) is h,
      (one_place j f (further (nat_eq e.0 j) e.1 (sort_at j (f ∷ [])) (other_place e.0 i j apart is) g)).1,
    )
    by false is =
        let next = one_place i f (further (nat_eq e.0 i) e.1 (sort_at i (f ∷ [])) is h) in again next.1 next.0 (nat_eq e.0 j) refl

not_three : (e f : ℕ × Option Sort) → There 0 (e ∷ f ∷ []) → There 1 (e ∷ f ∷ []) → There 2 (e ∷ f ∷ []) → ⊥
not_three e f h g k = by (nat_eq e.0 0) refl
  where
    last : (i j : ℕ) → nat_eq i j ≡ false → There i (f ∷ []) → There j (f ∷ []) → ⊥
    last i j apart a b = clash (nat_eq f.0 j) (one_place j f b).0 (other_place f.0 i j apart (one_place i f a).0)

    again : There 0 (f ∷ []) → (b : Bool) → nat_eq e.0 1 ≡ b → ⊥
    again a true is = last 0 2 refl a (further (nat_eq e.0 2) e.1 (sort_at 2 (f ∷ [])) (other_place e.0 1 2 refl is) k)
    again a false is = last 0 1 refl a (further (nat_eq e.0 1) e.1 (sort_at 1 (f ∷ [])) is g)

    by : (b : Bool) → nat_eq e.0 0 ≡ b → ⊥
    by true is = last 1 2 refl (further (nat_eq e.0 1) e.1 (sort_at 1 (f ∷ [])) (other_place e.0 0 1 refl is) g)
        (further (nat_eq e.0 2) e.1 (sort_at 2 (f ∷ [])) (other_place e.0 0 2 refl is) k)
    by false is = again (further (nat_eq e.0 0) e.1 (sort_at 0 (f ∷ [])) is h) (nat_eq e.0 1) refl

three_places : (e f d : ℕ × Option Sort) → There 0 (e ∷ f ∷ d ∷ []) → There 1 (e ∷ f ∷ d ∷ []) → There 2 (e ∷ f ∷ d ∷ []) →
    (is_some e.1 ≡ true) × ((is_some f.1 ≡ true) × (is_some d.1 ≡ true))
three_places e f d h g k = by (nat_eq e.0 0) (nat_eq e.0 1) (nat_eq e.0 2) refl refl refl
  where
    first : (i : ℕ) → There i (e ∷ f ∷ d ∷ []) → nat_eq e.0 i ≡ true → is_some e.1 ≡ true
    first i a is = at_first (nat_eq e.0 i) e.1 (sort_at i (f ∷ d ∷ [])) is a

    behind : (i : ℕ) → There i (e ∷ f ∷ d ∷ []) → nat_eq e.0 i ≡ false → There i (f ∷ d ∷ [])
    behind i a is = further (nat_eq e.0 i) e.1 (sort_at i (f ∷ d ∷ [])) is a

    by : (p q r : Bool) → nat_eq e.0 0 ≡ p → nat_eq e.0 1 ≡ q → nat_eq e.0 2 ≡ r →
        (is_some e.1 ≡ true) × ((is_some f.1 ≡ true) × (is_some d.1 ≡ true))
    by true q r is at to = (
      first 0 h is,
      two_places 1 2 refl f d (behind 1 g (other_place e.0 0 1 refl is))
          (behind 2 k (other_place e.0 0 2 refl is)),
    )
    by false true r is at to = (first 1 g at, two_places 0 2 refl f d (behind 0 h is) (behind 2 k (other_place e.0 1 2 refl at)))
    by false false true is at to = (first 2 k to, two_places 0 1 refl f d (behind 0 h is) (behind 1 g at))
    by false false false is at to = absurd (not_three f d (behind 0 h is) (behind 1 g at) (behind 2 k to))

too_many : (m : ℕ) → nat_eq (suc (suc m)) 1 ≡ true → ⊥
too_many m e = let same : suc (suc m) ≡ 1 = grind (arith, nat_tests, e) in omega (arith, same)

more_than_two : (m : ℕ) → nat_eq (suc (suc (suc m))) 2 ≡ true → ⊥
more_than_two m e = let same : suc (suc (suc m)) ≡ 2 = grind (arith, nat_tests, e) in omega (arith, same)

more_than_three : (m : ℕ) → nat_eq (suc (suc (suc (suc m)))) 3 ≡ true → ⊥
more_than_three m e = let same : suc (suc (suc (suc m))) ≡ 3 = grind (arith, nat_tests, e) in omega (arith, same)

one_sorted : (c : Scope) (ts : Trees) → nat_eq (length (sorts_of c ts)) 1 ≡ true → There 0 (sorts_of c ts) → AllSorted c ts
one_sorted c no_tree e h = cc
one_sorted c (tree p x no_tree) e h = (there_is (sort_of c x) (one_place 0 (p, sort_of c x) h).1, tt)
one_sorted c (tree p x (tree r y ts)) e h = absurd (too_many (length (sorts_of c ts)) e)

two_sorted : (c : Scope) (ts : Trees) → nat_eq (length (sorts_of c ts)) 2 ≡ true → There 0 (sorts_of c ts) →
    There 1 (sorts_of c ts) → AllSorted c ts
two_sorted c no_tree e h g = cc
two_sorted c (tree p x no_tree) e h g = cc
two_sorted c (tree p x (tree r y no_tree)) e h g =
    let both = two_places 0 1 refl (p, sort_of c x) (r, sort_of c y) h g in
    (there_is (sort_of c x) both.0, (there_is (sort_of c y) both.1, tt))
two_sorted c (tree p x (tree r y (tree k z ts))) e h g = absurd (more_than_two (length (sorts_of c ts)) e)

three_sorted : (c : Scope) (ts : Trees) → nat_eq (length (sorts_of c ts)) 3 ≡ true → There 0 (sorts_of c ts) →
    There 1 (sorts_of c ts) → There 2 (sorts_of c ts) → AllSorted c ts
three_sorted c no_tree e h g k = cc
three_sorted c (tree p x no_tree) e h g k = cc
three_sorted c (tree p x (tree r y no_tree)) e h g k = cc
three_sorted c (tree p x (tree r y (tree i z no_tree))) e h g k =
    let all = three_places (p, sort_of c x) (r, sort_of c y) (i, sort_of c z) h g k in
    (there_is (sort_of c x) all.0, (there_is (sort_of c y) all.1.0, (there_is (sort_of c z) all.1.1, tt)))
three_sorted c (tree p x (tree r y (tree i z (tree j u ts)))) e h g k = absurd (more_than_three (length (sorts_of c ts)) e)

-- each is an INTEGER
abbrev pub AllInts : Scope → Trees → Type 0
AllInts c no_tree = Unit {0}
AllInts c (tree place x ts) = (some_serves (sort_of c x) sort.Int ≡ true) × AllInts c ts

pub all_ints : (c : Scope) (ts : Trees) → list_all (λ (s : ℕ × Option Sort). some_serves s.1 sort.Int) (sorts_of c ts) ≡ true →
    AllInts c ts
all_ints c no_tree h = tt
all_ints c (tree p x ts) h =
    let two = and_parts (some_serves (sort_of c x) sort.Int)
    (list_all (λ (s : ℕ × Option Sort). some_serves s.1 sort.Int) (sorts_of c ts)) h in (two.0, all_ints c ts two.1)

list_sorted : (c : Scope) (ts : Trees) → AllInts c ts → AllSorted c ts
list_sorted c no_tree all = tt
list_sorted c (tree p x ts) all = (there_is (sort_of c x) (served_there (sort_of c x) sort.Int all.0), list_sorted c ts all.1)

-- ---- what the functions ask for

pub record OneOf (ss : List (ℕ × Option Sort)) (asked : Sort) : Type 0 where
  pub many : nat_eq (length ss) 1 ≡ true
  pub only : some_serves (sort_at 0 ss) asked ≡ true

pub one_asked : (ss : List (ℕ × Option Sort)) (asked given s : Sort) → sort_if (one_of ss asked) given ≡ Some s →
    OneOf ss asked × (given ≡ s)
one_asked ss asked given s h =
    let is = sort_if_some (one_of ss asked) given s h in
    let two = and_parts (nat_eq (length ss) 1) (some_serves (sort_at 0 ss) asked) is.0 in
    (record { many = two.0; only = two.1 }, is.1)

pub record TwoOf (ss : List (ℕ × Option Sort)) (asked : Sort) : Type 0 where
  pub many : nat_eq (length ss) 2 ≡ true
  pub first : some_serves (sort_at 0 ss) asked ≡ true
  pub next : some_serves (sort_at 1 ss) asked ≡ true

two_by : (ss : List (ℕ × Option Sort)) (count : ℕ) (asked : Sort) →
    (nat_eq (length ss) count && both_serve (sort_at 0 ss) (sort_at 1 ss) asked) ≡ true →
    (nat_eq (length ss) count ≡ true) × ((some_serves (sort_at 0 ss) asked ≡ true) × (some_serves (sort_at 1 ss) asked ≡ true))
two_by ss count asked h =
    let two = and_parts (nat_eq (length ss) count) (both_serve (sort_at 0 ss) (sort_at 1 ss) asked) h in
    (two.0, and_parts (some_serves (sort_at 0 ss) asked) (some_serves (sort_at 1 ss) asked) two.1)

pub two_asked : (ss : List (ℕ × Option Sort)) (asked given s : Sort) → sort_if (two_of ss asked) given ≡ Some s →
    TwoOf ss asked × (given ≡ s)
two_asked ss asked given s h =
    let is = sort_if_some (two_of ss asked) given s h in
    let all = two_by ss 2 asked is.0 in
    (record { many = all.0; first = all.1.0; next = all.1.1 }, is.1)

-- MERGE: two of the sort that it gives, and a LOGICAL
pub record MergeOf (ss : List (ℕ × Option Sort)) (s : Sort) : Type 0 where
  pub many : nat_eq (length ss) 3 ≡ true
  pub first : some_serves (sort_at 0 ss) s ≡ true
  pub next : some_serves (sort_at 1 ss) s ≡ true
  pub chosen : some_serves (sort_at 2 ss) sort.Log ≡ true

merge_by : (a b d : Bool) (s : Sort) (P : Sort → Type 0) → (a ≡ true → P sort.Int) → (b ≡ true → P sort.Log) →
    (d ≡ true → P sort.Text) →
    either_sort (sort_if a sort.Int) (either_sort (sort_if b sort.Log) (sort_if d sort.Text)) ≡ Some s → P s
merge_by true b d s P x y z h = subst P (some_is h) (x refl)
merge_by false true d s P x y z h = subst P (some_is h) (y refl)
merge_by false false true s P x y z h = subst P (some_is h) (z refl)
merge_by false false false s P x y z h = cc

pub merge_asked : (ss : List (ℕ × Option Sort)) (s : Sort) → elemental_sort elemental.Merge ss ≡ Some s → MergeOf ss s
merge_asked ss s h = merge_by (is_merge ss sort.Int) (is_merge ss sort.Log) (is_merge ss sort.Text) s (MergeOf ss)
    (each sort.Int) (each sort.Log) (each sort.Text) h
  where
    each : (r : Sort) → is_merge ss r ≡ true → MergeOf ss r
    each r e =
        let two = and_parts (nat_eq (length ss) 3 && both_serve (sort_at 0 ss) (sort_at 1 ss) r)
        (some_serves (sort_at 2 ss) sort.Log) e in
        let all = two_by ss 3 r two.0 in
        record { many = all.0; first = all.1.0; next = all.1.1; chosen = two.1 }

-- MAX and MIN: INTEGERs, of which there is one
pub record ListOf (ss : List (ℕ × Option Sort)) : Type 0 where
  pub all : list_all (λ (s : ℕ × Option Sort). some_serves s.1 sort.Int) ss ≡ true
  pub some : nat_le 1 (length ss) ≡ true

pub list_asked : (ss : List (ℕ × Option Sort)) (s : Sort) →
    sort_if (list_all (λ (s : ℕ × Option Sort). some_serves s.1 sort.Int) ss && nat_le 1 (length ss)) sort.Int ≡ Some s →
    ListOf ss × (sort.Int ≡ s)
list_asked ss s h =
    let is = sort_if_some (list_all (λ (s : ℕ × Option Sort). some_serves s.1 sort.Int) ss && nat_le 1 (length ss)) sort.Int s h in
    let two = and_parts (list_all (λ (s : ℕ × Option Sort). some_serves s.1 sort.Int) ss) (nat_le 1 (length ss)) is.0 in
    (record { all = two.0; some = two.1 }, is.1)

by_one : (c : Scope) (ts : Trees) (asked given s : Sort) → sort_if (one_of (sorts_of c ts) asked) given ≡ Some s → AllSorted c ts
by_one c ts asked given s h =
    let o = (one_asked (sorts_of c ts) asked given s h).0 in
    one_sorted c ts o.many (served_there (sort_at 0 (sorts_of c ts)) asked o.only)

by_two : (c : Scope) (ts : Trees) (asked given s : Sort) → sort_if (two_of (sorts_of c ts) asked) given ≡ Some s → AllSorted c ts
by_two c ts asked given s h =
    let o = (two_asked (sorts_of c ts) asked given s h).0 in
    two_sorted c ts o.many (served_there (sort_at 0 (sorts_of c ts)) asked o.first)
    (served_there (sort_at 1 (sorts_of c ts)) asked o.next)

pub all_sorted : (c : Scope) (which : Elemental) (ts : Trees) (s : Sort) → elemental_sort which (sorts_of c ts) ≡ Some s →
    AllSorted c ts
all_sorted c elemental.Abs ts s h = by_one c ts sort.Int sort.Int s h
all_sorted c elemental.Max ts s h = list_sorted c ts (all_ints c ts (list_asked (sorts_of c ts) s h).0.all)
all_sorted c elemental.Min ts s h = list_sorted c ts (all_ints c ts (list_asked (sorts_of c ts) s h).0.all)
all_sorted c elemental.Merge ts s h =
    let o = merge_asked (sorts_of c ts) s h in
    three_sorted c ts o.many (served_there (sort_at 0 (sorts_of c ts)) s o.first)
    (served_there (sort_at 1 (sorts_of c ts)) s o.next) (served_there (sort_at 2 (sorts_of c ts)) sort.Log o.chosen)
all_sorted c elemental.Ichar ts s h = by_one c ts sort.Text sort.Int s h
all_sorted c elemental.Char ts s h = by_one c ts sort.Int sort.Text s h
all_sorted c elemental.LenTrim ts s h = by_one c ts sort.Text sort.Int s h
all_sorted c elemental.Index ts s h = by_two c ts sort.Text sort.Int s h
all_sorted c elemental.Adjustl ts s h = by_one c ts sort.Text sort.Text s h
all_sorted c elemental.Adjustr ts s h = by_one c ts sort.Text sort.Text s h
all_sorted c which ts s h = by_two c ts sort.Int sort.Int s h

-- ---- arguments stay

-- what an atom gives is as it was while only variables further on change
pub still_shown : (c : Scope) (nests t : ℕ) (x : Tree) (s : Sort) → sort_of c x ≡ Some s → first_free c.own ≤ t →
    {v u : Variables} → Keeps (suc t) v u →
    (y : Scalar) → Shows s (value_of v (atom_of c nests t x)) (bytes_of v (words_of c nests t x)) y →
    (r : Sort) → sort_of c x ≡ Some r →
    Shows r (value_of u (atom_of c nests t x)) (bytes_of u (words_of c nests t x)) y
still_shown c nests t x s is free {v} {u} keep y sh r other =
    let same = steady c nests t x s is free keep in
    let sorts : s ≡ r = some_is (sym is ∙ other) in
    subst (λ k. Shows k (value_of u (atom_of c nests t x)) (bytes_of u (words_of c nests t x)) y) sorts (shows_as same.0 same.1 sh)

-- an argument stays while only variables behind all of them change
pub argument_still : (c : Scope) (nests place : ℕ) (asked : Sort) (t : ℕ) (ts : Trees) → first_free c.own ≤ t →
    some_serves (sort_at place (sorts_of c ts)) asked ≡ true → {v u : Variables} → Keeps (t + count_trees ts) v u →
    value_of u (atom_at c nests place t ts) ≡ value_of v (atom_at c nests place t ts)
argument_still c nests place asked t no_tree free h keep = refl
argument_still c nests place asked t (tree p x ts) free h {v} {u} keep =
    by (λ g. argument_still c nests place asked (suc t) ts (omega (arith, free)) g (keeps_less (omega arith) keep))
    (nat_eq p place) refl h
  where
    by : (some_serves (sort_at place (sorts_of c ts)) asked ≡ true →
        value_of u (atom_at c nests place (suc t) ts) ≡ value_of v (atom_at c nests place (suc t) ts)) →
        (b : Bool) → nat_eq p place ≡ b →
        some_serves (if nat_eq p place then sort_of c x else sort_at place (sorts_of c ts)) asked ≡ true →
        value_of u (if nat_eq p place then atom_of c nests t x else atom_at c nests place (suc t) ts)
        ≡ value_of v (if nat_eq p place then atom_of c nests t x else atom_at c nests place (suc t) ts)
    by later true e g =
        let s = served (sort_of c x) asked
        (ap (λ b. some_serves (if b then sort_of c x else sort_at place (sorts_of c ts)) asked) (sym e) ∙ g) in
        rw e ((steady c nests t x s.sort s.is free (keeps_less (omega arith) keep)).0)
    by later false e g =
        rw e (later (ap (λ b. some_serves (if b then sort_of c x else sort_at place (sorts_of c ts)) asked) (sym e) ∙ g))
