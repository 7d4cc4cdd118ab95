-- The text of a record whose values come one by one.
use Rattle.std.specs.Prelude.{ℕ, Bool, List, [], ◌∷◌, ◌++◌}
use Rattle.a95_base.specs.Record.{is_text, blank_before, value_text}
use Rattle.a95_base.specs.declared.scalar.Scalar.{Scalar}

-- a text stands last, or before all of them where there are none
abbrev pub ends_in_text : Bool → List Scalar → Bool
ends_in_text after_text [] = after_text
ends_in_text after_text (value ∷ more) = ends_in_text (is_text value) more

-- what one more value adds to the text
abbrev pub added_text : Bool → Scalar → List ℕ
added_text after_text value = blank_before after_text value ++ value_text value
