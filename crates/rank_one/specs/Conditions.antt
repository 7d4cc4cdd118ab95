-- What the names of a statement are, and which of them are declared.
use Rattle.std.specs.Prelude.{ℕ, suc, Bool, true, List, [], ◌∷◌, ◌++◌, ◌==◌, if◌then◌else◌, Option, Some, None, is_some}
use Rattle.std.specs.List.{flat_map, list_all, filter_map}
use Rattle.std.specs.Option.{option_map}
use Rattle.std.specs.Str.{bytes_eq}
use Rattle.rank_one.specs.declared.form.NamedAction.{NamedAction}
use Rattle.rank_one.specs.declared.form.NamedAction.TheVariants as action
use Rattle.rank_one.specs.declared.form.NamedSum.{NamedSum}
use Rattle.rank_one.specs.declared.form.NamedTerm.{NamedTerm}
use Rattle.rank_one.specs.declared.form.NamedFactor.{NamedFactor}
use Rattle.rank_one.specs.declared.form.NamedFactor.TheVariants as factor
use Rattle.rank_one.specs.declared.symbols.Symbol.{Symbol}

-- the names in an expression, from left to right
abbrev pub names_in_factor : NamedFactor → List (List ℕ)
names_in_factor (factor.Number n) = []
names_in_factor (factor.Name name) = name ∷ []

abbrev pub names_in_term : NamedTerm → List (List ℕ)
names_in_term t = names_in_factor t.first ++ flat_map names_in_factor t.rest

abbrev pub names_in_sum : NamedSum → List (List ℕ)
names_in_sum s = names_in_term s.first ++ flat_map (λ a. names_in_term a.term) s.rest

-- the names in a statement
abbrev pub names_in : NamedAction → List (List ℕ)
names_in (action.Assign target value) = target ∷ names_in_sum value
names_in (action.Print first rest) = first ∷ rest

-- the place of the array with this name
unfoldable pub place_of : List Symbol → List ℕ → Option ℕ
place_of [] name = None
place_of (s ∷ symbols) name = if bytes_eq s.name name then Some 0 else option_map suc (place_of symbols name)

-- its extent
unfoldable pub extent_of : List Symbol → List ℕ → Option ℕ
extent_of [] name = None
extent_of (s ∷ symbols) name = if bytes_eq s.name name then Some s.array.extent else extent_of symbols name

abbrev pub all_equal : List ℕ → Bool
all_equal [] = true
all_equal (x ∷ xs) = list_all (λ y. y == x) xs

-- the declared names of an assignment have equal extents
abbrev pub is_conforming : List Symbol → NamedAction → Bool
is_conforming symbols (action.Assign target value) = all_equal (filter_map (extent_of symbols) (target ∷ names_in_sum value))
is_conforming symbols (action.Print first rest) = true

-- each name of a statement is declared
abbrev pub is_declared : List Symbol → NamedAction → Bool
is_declared symbols a = list_all (λ name. is_some (place_of symbols name)) (names_in a)
