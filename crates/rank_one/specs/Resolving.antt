-- What the names of a statement show, one after another.
use Rattle.std.specs.Prelude.{ℕ, Bool, true, false, List, [], ◌∷◌, ◌==◌, ◌&&◌, Option, Some, None, unwrap_or}
use Rattle.rank_one.specs.declared.symbols.Symbol.{Symbol}
use Rattle.rank_one.specs.declared.resolve.Seen.{Seen}
use Rattle.rank_one.specs.Conditions.{extent_of}

abbrev pub unseen : Seen
unseen = record { extent = None; conforming = true; declared = true }

-- one more name, by its extent where it is declared
abbrev pub seen_with : Seen → Option ℕ → Seen
seen_with seen None = record { extent = seen.extent; conforming = seen.conforming; declared = false }
seen_with seen (Some extent) = record {
  extent = Some (unwrap_or seen.extent extent);
  conforming = seen.conforming && (extent == unwrap_or seen.extent extent);
  declared = seen.declared;
}

abbrev pub see_all : List Symbol → Seen → List (List ℕ) → Seen
see_all symbols seen [] = seen
see_all symbols seen (name ∷ names) = see_all symbols (seen_with seen (extent_of symbols name)) names
