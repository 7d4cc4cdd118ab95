-- Each row holds by computation.
use Rattle.std.proofs.Common.{refl}
use Rattle.a95_base.specs.Integer.{wrapped}
use Rattle.names_types_rows.specs.Modules.{Life, BroughtAgain, BroughtTwice, NotAbove, ModuleVariable, PrefixOfUse}

pub life_row : Life
unfolding wrapped
life_row = refl

pub brought_again_row : BroughtAgain
unfolding wrapped
brought_again_row = refl

pub brought_twice_row : BroughtTwice
unfolding wrapped
brought_twice_row = refl

pub not_above_row : NotAbove
unfolding wrapped
not_above_row = refl

pub module_variable_row : ModuleVariable
unfolding wrapped
module_variable_row = refl

pub prefix_of_use_row : PrefixOfUse
unfolding wrapped
prefix_of_use_row = refl
