-- How pieces are put together. No public clause cites this file: it says how the private functions work.
use Rattle.std.specs.Prelude.{List, [], ◌∷◌, ◌++◌}
use Rattle.loop_tree.specs.declared.tree.Function.{Function}
use Rattle.loop_writer.specs.declared.pieces.Piece.{Piece}
use Rattle.loop_writer.specs.declared.pieces.Piece.TheVariants.{Begin, Code}
use Rattle.loop_writer.specs.declared.collecting.Begun.{Begun}

abbrev pub closed : Begun → List Function
closed begun = begun.functions ++ record { parameters = begun.parameters; body = begun.body } ∷ []

abbrev pub with_piece : Begun → Piece → Begun
with_piece begun (Begin parameters) = record { functions = closed begun; parameters = parameters; body = [] }
with_piece begun (Code code) = record begun { body = begun.body ++ code.statements }
