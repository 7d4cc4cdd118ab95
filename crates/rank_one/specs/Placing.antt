-- A statement with the places of its names.
use Rattle.std.specs.Prelude.{ℕ, List, ◌∷◌, map, unwrap_or}
use Rattle.rank_one.specs.declared.unit.Action.{Action}
use Rattle.rank_one.specs.declared.unit.Action.TheVariants as unit
use Rattle.rank_one.specs.declared.unit.Sum.{Sum}
use Rattle.rank_one.specs.declared.unit.Addend.{Addend}
use Rattle.rank_one.specs.declared.unit.Term.{Term}
use Rattle.rank_one.specs.declared.unit.Factor.{Factor}
use Rattle.rank_one.specs.declared.unit.Factor.TheVariants as placed
use Rattle.rank_one.specs.declared.form.NamedAction.{NamedAction}
use Rattle.rank_one.specs.declared.form.NamedAction.TheVariants as action
use Rattle.rank_one.specs.declared.form.NamedSum.{NamedSum}
use Rattle.rank_one.specs.declared.form.NamedAddend.{NamedAddend}
use Rattle.rank_one.specs.declared.form.NamedTerm.{NamedTerm}
use Rattle.rank_one.specs.declared.form.NamedFactor.{NamedFactor}
use Rattle.rank_one.specs.declared.form.NamedFactor.TheVariants as factor
use Rattle.rank_one.specs.declared.symbols.Symbol.{Symbol}
use Rattle.rank_one.specs.Conditions.{place_of}

-- the place of a declared name
abbrev pub placed_name : List Symbol → List ℕ → ℕ
placed_name symbols name = unwrap_or (place_of symbols name) 0

abbrev pub placed_factor : List Symbol → NamedFactor → Factor
placed_factor symbols (factor.Number n) = placed.Number n
placed_factor symbols (factor.Name name) = placed.Array (placed_name symbols name)

abbrev pub placed_term : List Symbol → NamedTerm → Term
placed_term symbols t = record { first = placed_factor symbols t.first; rest = map (placed_factor symbols) t.rest }

abbrev pub placed_addend : List Symbol → NamedAddend → Addend
placed_addend symbols a = record { minus = a.minus; term = placed_term symbols a.term }

abbrev pub placed_sum : List Symbol → NamedSum → Sum
placed_sum symbols s = record { first = placed_term symbols s.first; rest = map (placed_addend symbols) s.rest }

abbrev pub placed_action : List Symbol → NamedAction → Action
placed_action symbols (action.Assign target value) = unit.Assign (placed_name symbols target) (placed_sum symbols value)
placed_action symbols (action.Print first rest) = unit.Print (map (placed_name symbols) (first ∷ rest))
