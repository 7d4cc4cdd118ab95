-- The two kinds of unit that have statements, and which blocks are DO, as code has them.
use Rattle.std.specs.Prelude.{Bool, true, false, List, [], ◌∷◌, ◌++◌, Option, Some, None}
use Rattle.a95_base.specs.declared.source.Line.{Line}
use Rattle.f95_tree.specs.declared.source.Statement.{Statement}
use Rattle.f95_tree.specs.declared.source.Statement.TheVariants as statement
use Rattle.f95_tree.specs.declared.action.Action.{Action}
use Rattle.f95_tree.specs.declared.expression.Expression.{Expression}
use Rattle.f95_nesting.specs.declared.open.Body.{Body}
use Rattle.f95_nesting.specs.declared.open.Frame.{Frame}
use Rattle.f95_nesting.specs.declared.open.WhereFrame.{WhereFrame}
use Rattle.f95_nesting.specs.declared.open.WherePart.{WherePart}
use Rattle.f95_tree.specs.Forms.{Word}
use Rattle.f95_nesting.specs.declared.open.Block.{Block}
use Rattle.f95_nesting.specs.declared.open.Block.TheVariants as block
use Rattle.f95_nesting.specs.Placed.{Context, is_named, action_stands}
use Rattle.f95_nesting.specs.Machine.{context, only_if, more, in_where, where_frame}

-- what the statements of a procedure, or of a main program, stand in
abbrev pub unit_context : Bool → Context
unit_context procedure = record { procedure = procedure; blocks = 0; dos = [] }

-- a WHERE block with its next part, where there is one
abbrev pub with_part : List Frame → List Statement → List WhereFrame → Line → Expression → Option WherePart → Option Body
with_part outer before wheres l m None = None
with_part outer before wheres l m (Some p) = Some (in_where outer before wheres (where_frame l m p []))

-- an action, and IF with one, if it may stand behind these statements
abbrev pub more_action : Bool → List Frame → List Statement → Line → Action → Option Body
more_action procedure outer done l a =
    only_if (action_stands (context (unit_context procedure) outer) a) (more outer done (statement.Action l a))

abbrev pub more_if : Bool → List Frame → List Statement → Line → Expression → Action → Option Body
more_if procedure outer done l e a =
    only_if (action_stands (context (unit_context procedure) outer) a) (more outer done (statement.If l e a))

abbrev pub is_do : Block → Bool
is_do (block.Do h) = true
is_do (block.If _) = false
is_do (block.ElseIf _ _ _ _) = false
is_do (block.Else _ _ _ _ _) = false
is_do (block.Case _ _ _) = false

abbrev pub is_do_of : Word → Block → Bool
is_do_of n (block.Do h) = is_named n h.name
is_do_of n (block.If _) = false
is_do_of n (block.ElseIf _ _ _ _) = false
is_do_of n (block.Else _ _ _ _ _) = false
is_do_of n (block.Case _ _ _) = false
