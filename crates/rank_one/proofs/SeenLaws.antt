-- What the names of a statement show.
use Rattle.std.proofs.Common.{◌≡◌, ◌<◌, ◌+◌, ◌==◌, ◌&&◌, ℕ, Bool, false, true, List, [], ◌∷◌, ◌++◌, length, refl, sym}
use Rattle.std.proofs.Common.{◌∙◌, ap, Option, Some, None, get_or, take, map, append-nil}
use Rattle.std.specs.Prelude.{is_some}
use Rattle.std.specs.List.{flat_map, filter_map, list_all, cons_option}
use Rattle.std.proofs.lemmas.Grind.{flat_map-append}
use Rattle.std.proofs.lemmas.List.{take_more, map_push}
use Rattle.a95_base.proofs.Tests.{equals_itself, and-false}
use Rattle.rank_one.specs.declared.symbols.Symbol.{Symbol}
use Rattle.rank_one.specs.declared.resolve.Seen.{Seen}
use Rattle.rank_one.specs.Conditions.{place_of, extent_of, all_equal}
use Rattle.rank_one.specs.Resolving.{unseen, seen_with, see_all}
use Rattle.rank_one.proofs.SymbolLaws.{extent_there, no_extent}

-- names are seen one after another
pub see_append : (symbols : List Symbol) (seen : Seen) (a b : List (List ℕ)) → see_all symbols seen (a ++ b)
    ≡ see_all symbols (see_all symbols seen a) b
see_append symbols seen [] b = refl
see_append symbols seen (name ∷ a) b = see_append symbols (seen_with seen (extent_of symbols name)) a b

parts_append : {X : Type 0} (f : X → List (List ℕ)) (xs : List X) (y : X) → flat_map f (xs ++ y ∷ []) ≡ flat_map f xs ++ f y
parts_append f xs y = flat_map-append f xs (y ∷ []) ∙ ap (λ ns. flat_map f xs ++ ns) (append-nil (f y))

-- one more element, as a loop meets it
taken_more : {X : Type 0} (xs : List X) (i : ℕ) (x : X) → i < length xs → x ≡ get_or xs i x → take (i + 1) xs ≡ take i xs ++ x ∷ []
taken_more xs i x within is = take_more xs i x within ∙ ap (λ y. take i xs ++ y ∷ []) (sym is)

pub map_one_more : {X Y : Type 0} (f : X → Y) (xs : List X) (i : ℕ) (x : X) → i < length xs → x ≡ get_or xs i x →
    map f (take (i + 1) xs) ≡ map f (take i xs) ++ f x ∷ []
map_one_more f xs i x within is = ap (map f) (taken_more xs i x within is) ∙ map_push f (take i xs) x

-- the names of one more part
pub see_more : {X : Type 0} (symbols : List Symbol) (seen : Seen) (f : X → List (List ℕ)) (xs : List X) (i : ℕ) (x : X) →
    i < length xs → x ≡ get_or xs i x
    → see_all symbols seen (flat_map f (take (i + 1) xs)) ≡ see_all symbols (see_all symbols seen (flat_map f (take i xs))) (f x)
see_more symbols seen f xs i x within is =
    ap (λ ys. see_all symbols seen (flat_map f ys)) (taken_more xs i x within is)
    ∙ (ap (λ ns. see_all symbols seen ns) (parts_append f (take i xs) x)
    ∙ see_append symbols seen (flat_map f (take i xs)) (f x))

pub see_one_more : (symbols : List Symbol) (seen : Seen) (names : List (List ℕ)) (i : ℕ) (name : List ℕ) → i < length names →
    name ≡ get_or names i name
    → see_all symbols seen (take (i + 1) names) ≡ seen_with (see_all symbols seen (take i names)) (extent_of symbols name)
see_one_more symbols seen names i name within is =
    ap (λ ns. see_all symbols seen ns) (taken_more names i name within is) ∙ see_append symbols seen (take i names) (name ∷ [])

and_true : (b : Bool) → b ≡ (b && true)
and_true true = refl
and_true false = refl

and_grouped : (a b c : Bool) → ((a && b) && c) ≡ (a && (b && c))
and_grouped true b c = refl
and_grouped false b c = refl

after_first_by : (symbols : List Symbol) (e : ℕ) (conforming declared : Bool) (names : List (List ℕ)) (o : Option ℕ)
    → ((c d : Bool) → (see_all symbols (record { extent = Some e; conforming = c; declared = d }) names).conforming
    ≡ (c && list_all (λ y. y == e) (filter_map (extent_of symbols) names)))
    → (see_all symbols (seen_with (record { extent = Some e; conforming = conforming; declared = declared }) o) names).conforming
    ≡ (conforming && list_all (λ y. y == e) (cons_option o (filter_map (extent_of symbols) names)))
after_first_by symbols e conforming declared names None rest = rest conforming false
after_first_by symbols e conforming declared names (Some x) rest = rest (conforming && (x == e)) declared
    ∙ and_grouped conforming (x == e) _

-- behind the first declared name
after_first : (symbols : List Symbol) (e : ℕ) (conforming declared : Bool) (names : List (List ℕ))
    → (see_all symbols (record { extent = Some e; conforming = conforming; declared = declared }) names).conforming
    ≡ (conforming && list_all (λ y. y == e) (filter_map (extent_of symbols) names))
after_first symbols e conforming declared [] = and_true conforming
after_first symbols e conforming declared (name ∷ names) =
    after_first_by symbols e conforming declared names (extent_of symbols name) (λ c d. after_first symbols e c d names)

before_first_by : (symbols : List Symbol) (declared : Bool) (names : List (List ℕ)) (o : Option ℕ)
    → ((d : Bool) → (see_all symbols (record { extent = None; conforming = true; declared = d }) names).conforming
    ≡ all_equal (filter_map (extent_of symbols) names))
    → (see_all symbols (seen_with (record { extent = None; conforming = true; declared = declared }) o) names).conforming
    ≡ all_equal (cons_option o (filter_map (extent_of symbols) names))
before_first_by symbols declared names None rest = rest false
before_first_by symbols declared names (Some x) rest =
    after_first symbols x (x == x) declared names ∙ ap (λ b. b && list_all (λ y. y == x) (filter_map (extent_of symbols) names))
    (equals_itself x)

before_first : (symbols : List Symbol) (declared : Bool) (names : List (List ℕ))
    → (see_all symbols (record { extent = None; conforming = true; declared = declared }) names).conforming
    ≡ all_equal (filter_map (extent_of symbols) names)
before_first symbols declared [] = refl
before_first symbols declared (name ∷ names) = before_first_by symbols declared names (extent_of symbols name)
    (λ d. before_first symbols d names)

-- the declared names of a statement have equal extents
pub conforming_is : (symbols : List Symbol) (names : List (List ℕ)) → (see_all symbols unseen names).conforming
    ≡ all_equal (filter_map (extent_of symbols) names)
conforming_is symbols names = before_first symbols true names

declared_by : (symbols : List Symbol) (seen : Seen) (name : List ℕ) (names : List (List ℕ)) (o : Option ℕ) → place_of symbols name
    ≡ o
    → ((s : Seen) → (see_all symbols s names).declared ≡ (s.declared && list_all (λ n. is_some (place_of symbols n)) names))
    → (see_all symbols (seen_with seen (extent_of symbols name)) names).declared
    ≡ (seen.declared && (is_some o && list_all (λ n. is_some (place_of symbols n)) names))
declared_by symbols seen name names None place rest =
    ap (λ x. (see_all symbols (seen_with seen x) names).declared) (no_extent symbols name place)
    ∙ (rest (seen_with seen None) ∙ sym (and-false seen.declared))
declared_by symbols seen name names (Some k) place rest =
    let there = extent_there symbols name k (record { name = []; array = record { line = 0; extent = 0 } }) place in
    ap (λ x. (see_all symbols (seen_with seen x) names).declared) there.1 ∙ rest (seen_with seen (Some _))

declared_after : (symbols : List Symbol) (seen : Seen) (names : List (List ℕ))
    → (see_all symbols seen names).declared ≡ (seen.declared && list_all (λ name. is_some (place_of symbols name)) names)
declared_after symbols seen [] = and_true seen.declared
declared_after symbols seen (name ∷ names) = declared_by symbols seen name names (place_of symbols name) refl
    (λ s. declared_after symbols s names)

-- all its names are declared
pub declared_is : (symbols : List Symbol) (names : List (List ℕ)) → (see_all symbols unseen names).declared
    ≡ list_all (λ name. is_some (place_of symbols name)) names
declared_is symbols names = declared_after symbols unseen names
