-- Fields: how they are spelled, and what is well formed in them.
use Rattle.std.specs.Prelude.{Bool, true, ◌&&◌, List, [], ◌∷◌, ◌++◌, Option, Some, None}
use Rattle.f95_tree.specs.declared.expression.Expression.{Expression}
use Rattle.f95_tree.specs.declared.terminal.Punctuation.TheVariants as mark
use Rattle.f95_tree.specs.Spelling.{Text, punctuated, maybe, maybe_behind, expression, value}
use Rattle.f95_tree.specs.Grades.{well_value}
use Rattle.f95_tree.specs.Forms.{maybe_expression}
use Rattle.f95_tree.specs.WellFormed.{maybe_well_expression}
use Rattle.f95_expressions.specs.declared.pending.Field.{Field}
use Rattle.f95_expressions.specs.declared.pending.Spread.{Spread}
use Rattle.f95_expressions.specs.declared.pending.Spread.TheVariants as spread

abbrev pub spread_text : Spread → Text
spread_text spread.Empty = []
spread_text (spread.One v) = value v
spread_text (spread.Triplet lower upper stride) =
    maybe (maybe_expression lower)
    ++ punctuated mark.Colon (maybe (maybe_expression upper) ++ maybe_behind mark.Colon (maybe_expression stride))

-- left =
abbrev pub left_text : Option Expression → Text
left_text None = []
left_text (Some e) = expression e ++ punctuated mark.Assign []

abbrev pub field_text : Field → Text
field_text f = left_text f.left ++ spread_text f.spread

-- fields, the newest one first, each with the comma behind it
abbrev pub done_text : List Field → Text
done_text [] = []
done_text (f ∷ fs) = done_text fs ++ (field_text f ++ punctuated mark.Comma [])

-- fields, the newest one first, parted by commas
abbrev pub fields_text : List Field → Text
fields_text [] = []
fields_text (f ∷ fs) = done_text fs ++ field_text f

abbrev pub well_spread : Spread → Bool
well_spread spread.Empty = true
well_spread (spread.One v) = well_value v
well_spread (spread.Triplet lower upper stride) = maybe_well_expression lower
    && (maybe_well_expression upper && maybe_well_expression stride)

abbrev pub well_field : Field → Bool
well_field f = maybe_well_expression f.left && well_spread f.spread

abbrev pub well_fields : List Field → Bool
well_fields [] = true
well_fields (f ∷ fs) = well_fields fs && well_field f
