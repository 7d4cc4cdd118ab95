-- What a source of the first form is, is typed, and no larger than its spelling.
use Rattle.std.proofs.Common.{◌≡◌, ◌<◌, ◌≤◌, ◌+◌, ◌^◌, ℕ, suc, zero, Bool, false, true, ◌&&◌, List, [], ◌∷◌, ◌++◌, length, refl}
use Rattle.std.proofs.Common.{sym, ◌∙◌, ap, arith, subst, nat_le, nat_lt, length-append, fold, Option, Some, None, get_or}
use Rattle.std.proofs.Common.{inl, inr, ⊎_elim}
use Rattle.std.specs.Prelude.{◌==◌, map, is_some, unwrap_or}
use Rattle.std.specs.List.{list_all, flat_map, filter_map, sum_by, cons_option}
use Rattle.std.proofs.lemmas.List.Sums.{sum_by-cons, sum_by-append}
use Rattle.std.proofs.lemmas.List.{length-map}
use Rattle.std.proofs.lemmas.Bool.Decides.{nat_tests}
use Rattle.std.proofs.lemmas.Bool.{le-leb, cases_lt, and_parts}
use Rattle.a95_base.specs.Lists.{Every, Member}
use Rattle.a95_base.specs.Limits.{most_elements}
use Rattle.a95_base.specs.declared.source.Line.{Line}
use Rattle.a95_base.proofs.Lists.{each_from_has, Every-append, list_all_parts}
use Rattle.f95_tree.specs.Forms.{declaration_text}
use Rattle.f95_tree.specs.declared.declaration.Declaration.{Declaration}
use Rattle.f95_tree.specs.declared.source.Source.{Source}
use Rattle.f95_tree.specs.declared.source.Statement.{Statement}
use Rattle.rank_one.specs.declared.unit.Array.{Array}
use Rattle.rank_one.specs.declared.unit.Statement as typed
use Rattle.rank_one.specs.declared.unit.Addend.{Addend}
use Rattle.rank_one.specs.declared.form.NamedAction.{NamedAction}
use Rattle.rank_one.specs.declared.form.NamedAction.TheVariants as action
use Rattle.rank_one.specs.declared.form.NamedArray.{NamedArray}
use Rattle.rank_one.specs.declared.form.NamedSum.{NamedSum}
use Rattle.rank_one.specs.declared.form.NamedAddend.{NamedAddend}
use Rattle.rank_one.specs.declared.form.NamedTerm.{NamedTerm}
use Rattle.rank_one.specs.declared.form.NamedFactor.{NamedFactor}
use Rattle.rank_one.specs.declared.form.NamedFactor.TheVariants as factor
use Rattle.rank_one.specs.declared.symbols.Symbol.{Symbol}
use Rattle.rank_one.specs.Conditions.{place_of, extent_of, names_in_factor, names_in_term, names_in_sum, is_declared}
use Rattle.rank_one.specs.Conditions.{is_conforming, all_equal}
use Rattle.rank_one.specs.Forms.{arrays_in, named_in, statement_line}
use Rattle.rank_one.specs.Grammar.{fits_factor, fits_term, fits_sum, fits_action}
use Rattle.rank_one.specs.Placing.{placed_name, placed_factor, placed_term, placed_addend, placed_sum, placed_action}
use Rattle.rank_one.specs.Reading.{symbol_on, with_symbol, symbols_in, declared_in, symbols_of, acted, statement_in, unit_of}
use Rattle.rank_one.specs.Reading.{IsBuilt, AreDeclared, large_extent, unequal_extents, unknown_name, LineFits, StatementFits, Fits}
use Rattle.rank_one.specs.Sizes.{statement_terminals, terminals_in}
use Rattle.rank_one.specs.Typed.{size_of_term, size_of_action, size_of, factors_of_term, factors_of, has_extent}
use Rattle.rank_one.specs.Typed.{is_typed_factor, extent_at, is_typed_action, IsTyped}
use Rattle.rank_one.proofs.Acts.{action_size}
use Rattle.rank_one.proofs.Choices.{yes, no, by_test}
use Rattle.rank_one.proofs.Printed.{term_size}
use Rattle.rank_one.proofs.Stated.{stated, declaration_few}
use Rattle.rank_one.proofs.SymbolLaws.{extent_there, no_extent}

all_and : {A : Type 0} (test : A → Bool) (x : A) (xs : List A) → test x ≡ true → list_all test xs ≡ true → list_all test (x ∷ xs)
    ≡ true
all_and test x xs h k = ap (λ b. b && list_all test xs) h ∙ k

all_append : {A : Type 0} (test : A → Bool) (xs ys : List A) → list_all test xs ≡ true → list_all test ys ≡ true →
    list_all test (xs ++ ys) ≡ true
all_append test [] ys h k = k
all_append test (x ∷ xs) ys h k =
    let two = and_parts (test x) (list_all test xs) h in all_and test x (xs ++ ys) two.0 (all_append test xs ys two.1 k)

-- ---- sizes

module _ (symbols : List Symbol) where
  term_placed : (t : NamedTerm) → size_of_term (placed_term symbols t) ≡ term_size t
  term_placed t = let same = length-map t.rest (placed_factor symbols) in omega arith

  addends_placed : (more : List NamedAddend) → sum_by (λ (a : Addend). size_of_term a.term) (map (placed_addend symbols) more)
      ≡ sum_by (λ (a : NamedAddend). term_size a.term) more
  addends_placed [] = refl
  addends_placed (a ∷ more) =
      let first = term_placed a.term in
      let rest = addends_placed more in
      let left = sum_by-cons (λ (a : Addend). size_of_term a.term) (placed_addend symbols a) (map (placed_addend symbols) more) in
      let right = sum_by-cons (λ (a : NamedAddend). term_size a.term) a more in
      omega arith

  action_placed : (a : NamedAction) → size_of_action (placed_action symbols a) ≡ action_size a
  action_placed (action.Assign target value) = let first = term_placed value.first in let rest = addends_placed value.rest in
      omega arith
  action_placed (action.Print first rest) = let same = length-map rest (placed_name symbols) in omega arith

  acted_few : (x : Statement) (o : Option NamedAction) → named_in x ≡ o →
      sum_by (λ (s : typed.Statement). size_of_action s.action) (acted symbols (statement_line x) o) ≤ statement_terminals x
  acted_few x None is = omega arith
  acted_few x (Some a) is =
      let known = stated x a is in
      let same = action_placed a in
      let few = known.acted.few in
      let terminals = known.terminals in
      omega (arith, same, few, terminals)

  statements_few : (xs : List Statement) → sum_by (λ (s : typed.Statement). size_of_action s.action)
      (flat_map (statement_in symbols) xs) ≤ sum_by statement_terminals xs
  statements_few [] = omega arith
  statements_few (x ∷ xs) =
      let first = acted_few x (named_in x) refl in
      let rest = statements_few xs in
      let left = sum_by-append (λ (s : typed.Statement). size_of_action s.action) (statement_in symbols x)
      (flat_map (statement_in symbols) xs) in
      let right = sum_by-cons statement_terminals x xs in
      omega (arith, first, rest, left, right)

symbols_few : (symbols xs : List Symbol) → length (fold with_symbol symbols xs) ≤ length symbols + length xs
symbols_few symbols [] = omega arith
symbols_few symbols (x ∷ xs) =
    let rest = symbols_few (with_symbol symbols x) xs in
    let one = by_test {P = length (with_symbol symbols x) ≤ length symbols + 1} (is_some (place_of symbols x.name))
    (λ found. let same = ap length (yes symbols (symbols ++ x ∷ []) found) in omega (arith, same))
    (λ new. let same = ap length (no symbols (symbols ++ x ∷ []) new) in let more = length-append symbols (x ∷ []) in
    omega (arith, same, more)) in
    omega (arith, rest, one)

declared_few : (d : Line × Declaration) (o : Option (List NamedArray)) → arrays_in d.1 ≡ o →
    length (map (symbol_on d.0.0) (unwrap_or o [])) ≤ length (declaration_text d.1)
declared_few d None is = omega arith
declared_few d (Some arrays) is = let few = declaration_few d.1 arrays is in let same = length-map arrays (symbol_on d.0.0) in
    omega (arith, few, same)

arrays_few : (ds : List (Line × Declaration)) → length (declared_in ds)
    ≤ sum_by (λ (d : Line × Declaration). length (declaration_text d.1)) ds
arrays_few [] = omega arith
arrays_few (d ∷ ds) =
    let first = declared_few d (arrays_in d.1) refl in
    let rest = arrays_few ds in
    let left = length-append (symbols_in d) (declared_in ds) in
    let right = sum_by-cons (λ (d : Line × Declaration). length (declaration_text d.1)) d ds in
    omega (arith, first, rest, left, right)

-- a unit is no larger than the spelling of its source
pub no_larger : (s : Source) → size_of (unit_of s) ≤ terminals_in s
no_larger s =
    let arrays = length-map (symbols_of s) (λ (x : Symbol). x.array) in
    let symbols = symbols_few [] (declared_in s.main.section.declarations) in
    let declared = arrays_few s.main.section.declarations in
    let acts = statements_few (symbols_of s) s.main.body in
    omega (arith, arrays, symbols, declared, acts)

-- ---- types

-- the declared extent of a name is this one
abbrev is_extent : ℕ → Option ℕ → Bool
is_extent e None = false
is_extent e (Some y) = y == e

module _ (symbols : List Symbol) (e : ℕ) where
  abbrev arrays : List Array
  arrays = map (λ (x : Symbol). x.array) symbols

  abbrev fits : List ℕ → Bool
  fits name = is_extent e (extent_of symbols name)

  -- declared names with equal extents
  names_fit : (names : List (List ℕ)) → list_all (λ name. is_some (place_of symbols name)) names ≡ true →
      list_all (λ y. y == e) (filter_map (extent_of symbols) names) ≡ true
      → list_all fits names ≡ true
  names_fit [] declared equal = refl
  names_fit (name ∷ names) declared equal =
      let parts = and_parts (is_some (place_of symbols name)) (list_all (λ n. is_some (place_of symbols n)) names) declared in
      by (place_of symbols name) (extent_of symbols name) parts.0 (λ k h. (extent_there symbols name k none h).1)
      (λ o. no_extent symbols name o) refl refl equal (λ g. names_fit names parts.1 g)
    where
      none : Symbol
      none = record { name = []; array = record { line = 0; extent = 0 } }

      by : (place extent : Option ℕ) → is_some place ≡ true →
          ((k : ℕ) → place_of symbols name ≡ Some k → extent_of symbols name ≡ Some (get_or symbols k none).array.extent)
          → (place_of symbols name ≡ None → extent_of symbols name ≡ None)
          → place_of symbols name ≡ place → extent_of symbols name ≡ extent
          → list_all (λ y. y == e) (filter_map (extent_of symbols) (name ∷ names)) ≡ true →
          (list_all (λ y. y == e) (filter_map (extent_of symbols) names) ≡ true → list_all fits names ≡ true)
          → list_all fits (name ∷ names) ≡ true
      by None extent some there lost p x equal more = cc
      by (Some k) None some there lost p x equal more = let y = there k p in cc
      by (Some k) (Some y) some there lost p x equal more =
          let all : list_all (λ z. z == e) (y ∷ filter_map (extent_of symbols) names) ≡ true =
          sym (ap (λ (o : Option ℕ). list_all (λ z. z == e) (cons_option o (filter_map (extent_of symbols) names))) x) ∙ equal in
          let parts = and_parts (y == e) (list_all (λ z. z == e) (filter_map (extent_of symbols) names)) all in
          all_and fits name names (ap (is_extent e) x ∙ parts.0) (more parts.1)

  -- the array of a name that fits is there
  array_there : (k : ℕ) (xs : List Symbol) → k < length xs → (d : Symbol) → (get_or xs k d).array.extent ≡ e →
      has_extent (map (λ (x : Symbol). x.array) xs) e k ≡ true
  array_there k [] h d same = absurd (omega arith)
  array_there zero (x ∷ xs) h d same = grind (arith, nat_tests)
  array_there (suc k) (x ∷ xs) h d same = array_there k xs (omega arith) d same

  place_fits : (name : List ℕ) → fits name ≡ true → has_extent arrays e (placed_name symbols name) ≡ true
  place_fits name h = by (place_of symbols name) refl
    where
      none : Symbol
      none = record { name = []; array = record { line = 0; extent = 0 } }

      by : (place : Option ℕ) → place_of symbols name ≡ place → has_extent arrays e (placed_name symbols name) ≡ true
      by None p = let x = ap (is_extent e) (no_extent symbols name p) in cc
      by (Some k) p =
          let there = extent_there symbols name k none p in
          let test : ((get_or symbols k none).array.extent == e) ≡ true = sym (ap (is_extent e) there.1) ∙ h in
          let same : (get_or symbols k none).array.extent ≡ e = grind (arith, nat_tests) in
          ap (λ (o : Option ℕ). has_extent arrays e (unwrap_or o 0)) p ∙ array_there k symbols there.0 none same

  factor_typed : (f : NamedFactor) → fits_factor f ≡ true → list_all fits (names_in_factor f) ≡ true →
      is_typed_factor arrays e (placed_factor symbols f) ≡ true
  factor_typed (factor.Number n) small ok = small
  factor_typed (factor.Name name) small ok = place_fits name (and_parts (fits name) true ok).0

  factors_typed : (fs : List NamedFactor) → list_all fits_factor fs ≡ true → list_all fits (flat_map names_in_factor fs) ≡ true
      → list_all (is_typed_factor arrays e) (map (placed_factor symbols) fs) ≡ true
  factors_typed [] small ok = refl
  factors_typed (f ∷ fs) small ok =
      let numbers = and_parts (fits_factor f) (list_all fits_factor fs) small in
      let names = list_all_parts fits (names_in_factor f) (flat_map names_in_factor fs) ok in
      all_and (is_typed_factor arrays e) (placed_factor symbols f) (map (placed_factor symbols) fs)
      (factor_typed f numbers.0 names.0) (factors_typed fs numbers.1 names.1)

  term_typed : (t : NamedTerm) → fits_term t ≡ true → list_all fits (names_in_term t) ≡ true →
      list_all (is_typed_factor arrays e) (factors_of_term (placed_term symbols t)) ≡ true
  term_typed t small ok =
      let numbers = and_parts (fits_factor t.first) (list_all fits_factor t.rest) small in
      let names = list_all_parts fits (names_in_factor t.first) (flat_map names_in_factor t.rest) ok in
      all_and (is_typed_factor arrays e) (placed_factor symbols t.first) (map (placed_factor symbols) t.rest)
      (factor_typed t.first numbers.0 names.0) (factors_typed t.rest numbers.1 names.1)

  addends_typed : (more : List NamedAddend) → list_all (λ (a : NamedAddend). fits_term a.term) more ≡ true →
      list_all fits (flat_map (λ (a : NamedAddend). names_in_term a.term) more) ≡ true
      → list_all (is_typed_factor arrays e) (flat_map (λ (a : Addend). factors_of_term a.term) (map (placed_addend symbols) more))
      ≡ true
  addends_typed [] small ok = refl
  addends_typed (a ∷ more) small ok =
      let numbers = and_parts (fits_term a.term) (list_all (λ (b : NamedAddend). fits_term b.term) more) small in
      let names = list_all_parts fits (names_in_term a.term) (flat_map (λ (b : NamedAddend). names_in_term b.term) more) ok in
      all_append (is_typed_factor arrays e) (factors_of_term (placed_term symbols a.term)) _ (term_typed a.term numbers.0 names.0)
      (addends_typed more numbers.1 names.1)

  sum_typed : (s : NamedSum) → fits_sum s ≡ true → list_all fits (names_in_sum s) ≡ true →
      list_all (is_typed_factor arrays e) (factors_of (placed_sum symbols s)) ≡ true
  sum_typed s small ok =
      let numbers = and_parts (fits_term s.first) (list_all (λ (a : NamedAddend). fits_term a.term) s.rest) small in
      let names = list_all_parts fits (names_in_term s.first) (flat_map (λ (a : NamedAddend). names_in_term a.term) s.rest) ok in
      all_append (is_typed_factor arrays e) (factors_of_term (placed_term symbols s.first)) _ (term_typed s.first numbers.0 names.0)
      (addends_typed s.rest numbers.1 names.1)

-- ---- statements

module _ (symbols : List Symbol) where
  abbrev all_arrays : List Array
  all_arrays = map (λ (x : Symbol). x.array) symbols

  extent_at_place : (k : ℕ) (xs : List Symbol) (d : Symbol) → k < length xs → extent_at (map (λ (x : Symbol). x.array) xs) k
      ≡ (get_or xs k d).array.extent
  extent_at_place k [] d h = absurd (omega arith)
  extent_at_place zero (x ∷ xs) d h = refl
  extent_at_place (suc k) (x ∷ xs) d h = extent_at_place k xs d (omega arith)

  -- the place of a declared name, and its extent there
  pub record IsPlaced (name : List ℕ) : Type 0 where
    pub here : placed_name symbols name < length symbols
    pub extent : extent_of symbols name ≡ Some (extent_at all_arrays (placed_name symbols name))

  placed : (name : List ℕ) → is_some (place_of symbols name) ≡ true → IsPlaced name
  placed name h = by (place_of symbols name) refl h
    where
      none : Symbol
      none = record { name = []; array = record { line = 0; extent = 0 } }

      by : (place : Option ℕ) → place_of symbols name ≡ place → is_some place ≡ true → IsPlaced name
      by None p some = cc
      by (Some k) p some =
          let there = extent_there symbols name k none p in
          let is : placed_name symbols name ≡ k = ap (λ (o : Option ℕ). unwrap_or o 0) p in
          record {
            here = subst (λ m. m < length symbols) (sym is) there.0;
            extent = there.1 ∙ ap Some (sym (extent_at_place k symbols none there.0) ∙ ap (λ m. extent_at all_arrays m) (sym is));
          }

  print_typed : (names : List (List ℕ)) → list_all (λ name. is_some (place_of symbols name)) names ≡ true →
      list_all (λ place. nat_lt place (length all_arrays)) (map (placed_name symbols) names) ≡ true
  print_typed [] h = refl
  print_typed (name ∷ names) h =
      let parts = and_parts (is_some (place_of symbols name)) (list_all (λ n. is_some (place_of symbols n)) names) h in
      let count = length-map symbols (λ (x : Symbol). x.array) in
      let below : placed_name symbols name < length all_arrays =
      subst (λ m. placed_name symbols name < m) (sym count) (placed name parts.0).here in
      all_and (λ place. nat_lt place (length all_arrays)) (placed_name symbols name) (map (placed_name symbols) names)
      (le-leb (suc (placed_name symbols name)) (length all_arrays) below) (print_typed names parts.1)

  action_typed : (a : NamedAction) → fits_action a ≡ true → is_declared symbols a ≡ true → is_conforming symbols a ≡ true →
      is_typed_action all_arrays (placed_action symbols a) ≡ true
  action_typed (action.Assign target value) small declared conforming =
      let names = and_parts (is_some (place_of symbols target)) (list_all (λ n. is_some (place_of symbols n)) (names_in_sum value))
      declared in
      let there = placed target names.0 in
      let e = extent_at all_arrays (placed_name symbols target) in
      let equal : list_all (λ y. y == e) (filter_map (extent_of symbols) (names_in_sum value)) ≡ true =
      sym (ap (λ (o : Option ℕ). all_equal (cons_option o (filter_map (extent_of symbols) (names_in_sum value)))) there.extent)
      ∙ conforming in
      let ok = names_fit symbols e (names_in_sum value) names.1 equal in
      let count = length-map symbols (λ (x : Symbol). x.array) in
      let below : placed_name symbols target < length all_arrays =
      subst (λ m. placed_name symbols target < m) (sym count) there.here in
      ap (λ b. b && list_all (is_typed_factor all_arrays e) (factors_of (placed_sum symbols value)))
      (le-leb (suc (placed_name symbols target)) (length all_arrays) below) ∙ sum_typed symbols e value small ok
  action_typed (action.Print first rest) small declared conforming =
      let some : nat_lt 0 (length (map (placed_name symbols) (first ∷ rest))) ≡ true =
      le-leb 1 (length (map (placed_name symbols) (first ∷ rest))) (omega arith) in
      ap (λ b. b && list_all (λ place. nat_lt place (length all_arrays)) (map (placed_name symbols) (first ∷ rest))) some
      ∙ print_typed (first ∷ rest) declared

not_false : (b : Bool) → (b ≡ false → ⊥) → b ≡ true
not_false true h = refl
not_false false h = absurd (h refl)

module _ (s : Source) (built : IsBuilt s) (declared : AreDeclared s) where
  act_typed : (x : Statement) → Member s.main.body x → (o : Option NamedAction) → named_in x ≡ o
      → list_all (λ (t : typed.Statement). is_typed_action (all_arrays (symbols_of s)) t.action)
      (acted (symbols_of s) (statement_line x) o) ≡ true
  act_typed x among None is = refl
  act_typed x among (Some a) is =
      let conforming = not_false (is_conforming (symbols_of s) a) (λ h. built _ _ (unequal_extents x among a is h)) in
      let known = not_false (is_declared (symbols_of s) a) (λ h. declared _ _ (unknown_name x among a is h)) in
      all_and (λ (t : typed.Statement). is_typed_action (all_arrays (symbols_of s)) t.action)
      (record { line = statement_line x; action = placed_action (symbols_of s) a }) []
      (action_typed (symbols_of s) a (stated x a is).acted.fits known conforming) refl

  acts_typed : (xs : List Statement) → ((x : Statement) → Member xs x → Member s.main.body x)
      → list_all (λ (t : typed.Statement). is_typed_action (all_arrays (symbols_of s)) t.action)
      (flat_map (statement_in (symbols_of s)) xs) ≡ true
  acts_typed [] among = refl
  acts_typed (x ∷ xs) among =
      all_append (λ (t : typed.Statement). is_typed_action (all_arrays (symbols_of s)) t.action) (statement_in (symbols_of s) x)
      (flat_map (statement_in (symbols_of s)) xs)
      (act_typed x (among x (inl refl)) (named_in x) refl) (acts_typed xs (λ y h. among y (inr h)))

act_line : (symbols : List Symbol) (line : ℕ) (o : Option NamedAction) → line < 2 ^ 32 →
    list_all (λ (t : typed.Statement). nat_lt t.line (2 ^ 32)) (acted symbols line o) ≡ true
act_line symbols line None h = refl
act_line symbols line (Some a) h = all_and (λ (t : typed.Statement). nat_lt t.line (2 ^ 32))
    (record { line = line; action = placed_action symbols a }) [] (le-leb (suc line) (2 ^ 32) h) refl

act_lines : (symbols : List Symbol) (xs : List Statement) → Every StatementFits xs
    → list_all (λ (t : typed.Statement). nat_lt t.line (2 ^ 32)) (flat_map (statement_in symbols) xs) ≡ true
act_lines symbols [] h = refl
act_lines symbols (x ∷ xs) h =
    all_append (λ (t : typed.Statement). nat_lt t.line (2 ^ 32)) (statement_in symbols x) (flat_map (statement_in symbols) xs)
    (act_line symbols (statement_line x) (named_in x) h.0) (act_lines symbols xs h.1)

-- what holds of each array that is declared holds of each that is kept
kept : (Q : Symbol → Type 0) (symbols xs : List Symbol) → Every Q symbols → Every Q xs → Every Q (fold with_symbol symbols xs)
kept Q symbols [] h k = h
kept Q symbols (x ∷ xs) h k = kept Q (with_symbol symbols x) xs
    (by_test (is_some (place_of symbols x.name))
    (λ found. subst (Every Q) (sym (yes symbols (symbols ++ x ∷ []) found)) h)
    (λ new. subst (Every Q) (sym (no symbols (symbols ++ x ∷ []) new)) (Every-append Q symbols (x ∷ []) h (k.0, tt))))
    k.1

declared_lines : (ds : List (Line × Declaration)) → Every LineFits ds →
    Every (λ (x : Symbol). x.array.line < 2 ^ 32) (declared_in ds)
declared_lines [] h = tt
declared_lines (d ∷ ds) h = Every-append (λ (x : Symbol). x.array.line < 2 ^ 32) (symbols_in d) (declared_in ds)
    (each (unwrap_or (arrays_in d.1) [])) (declared_lines ds h.1)
  where
    each : (arrays : List NamedArray) → Every (λ (x : Symbol). x.array.line < 2 ^ 32) (map (symbol_on d.0.0) arrays)
    each [] = tt
    each (a ∷ arrays) = (h.0, each arrays)

lines_typed : (xs : List Symbol) → Every (λ (x : Symbol). x.array.line < 2 ^ 32) xs →
    list_all (λ (a : Array). nat_lt a.line (2 ^ 32)) (map (λ (x : Symbol). x.array) xs) ≡ true
lines_typed [] h = refl
lines_typed (x ∷ xs) h =
    all_and (λ (a : Array). nat_lt a.line (2 ^ 32)) x.array (map (λ (y : Symbol). y.array) xs)
    (le-leb (suc x.array.line) (2 ^ 32) h.0) (lines_typed xs h.1)

extents_typed : (xs : List Symbol) → Every (λ (x : Symbol). x.array.extent ≤ most_elements) xs →
    list_all (λ (a : Array). nat_le a.extent most_elements) (map (λ (x : Symbol). x.array) xs) ≡ true
extents_typed [] h = refl
extents_typed (x ∷ xs) h =
    all_and (λ (a : Array). nat_le a.extent most_elements) x.array (map (λ (y : Symbol). y.array) xs)
    (le-leb x.array.extent most_elements h.0) (extents_typed xs h.1)

small_extents : (s : Source) → IsBuilt s → Every (λ (x : Symbol). x.array.extent ≤ most_elements)
    (declared_in s.main.section.declarations)
small_extents s built = each_from_has (λ (x : Symbol). x.array.extent ≤ most_elements) (declared_in s.main.section.declarations)
    (λ x among. ⊎_elim
    (λ (large : most_elements < x.array.extent). absurd (built _ _ (large_extent x among large)))
    (λ (small : x.array.extent ≤ most_elements). small)
    (cases_lt most_elements x.array.extent))

-- what a source without a broken rule is, is typed
pub typed_unit : (s : Source) → IsBuilt s → AreDeclared s → Fits s → IsTyped (unit_of s)
typed_unit s built declared fits =
    let all = declared_in s.main.section.declarations in
    let count = length-map (symbols_of s) (λ (x : Symbol). x.array) in
    record {
      count = omega (arith, count, fits.count);
      array_lines =
          lines_typed (symbols_of s)
          (kept (λ (x : Symbol). x.array.line < 2 ^ 32) [] all tt (declared_lines s.main.section.declarations fits.declarations));
      statement_lines = act_lines (symbols_of s) s.main.body fits.statements;
      extents =
          extents_typed (symbols_of s) (kept (λ (x : Symbol). x.array.extent ≤ most_elements) [] all tt (small_extents s built));
      statements = acts_typed s built declared s.main.body (λ x h. h);
    }
