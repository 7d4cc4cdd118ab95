-- What a name means in a specification expression, by what names mean in constant ones.
use Rattle.std.specs.Prelude.{List, if◌then◌else◌, ◌&&◌}
use Rattle.f95_tree.specs.Forms.{Word}
use Rattle.constant_operators.specs.declared.value.Worth.TheVariants.{Unknown}
use Rattle.constant_operators.specs.Operators.{valued_as, an_integer}
use Rattle.names_types.specs.declared.sense.Sense.{Sense}
use Rattle.names_types.specs.declared.sense.Sense.TheVariants.{Names, NamesArray}
use Rattle.names_types.specs.Scopes.{Scope, Meant, is_readable, is_dummy, means_array, meaning_in}

abbrev pub specification_with : Scope → List Meant → (Word → Sense) → Word → Sense
specification_with c before constant name =
    if is_readable c name then Names (valued_as an_integer Unknown)
    else (if is_dummy c name && means_array (meaning_in before name) then NamesArray else constant name)
