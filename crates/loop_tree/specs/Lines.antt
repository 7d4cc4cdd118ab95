-- The lines of a tree: one for each line of its text.
use Rattle.std.specs.Prelude.{List, [], ◌∷◌, ◌++◌, map}
use Rattle.loop_tree.specs.declared.tree.Stmt.{Stmt}
use Rattle.loop_tree.specs.declared.tree.Stmt.TheOpen.{Stmt-F}
use Rattle.loop_tree.specs.declared.tree.Stmt.TheOpen as layer
use Rattle.loop_tree.specs.declared.tree.Stmt.TheFolds.{fold-Stmt}
use Rattle.loop_tree.specs.declared.tree.Function.{Function}
use Rattle.loop_tree.specs.declared.tree.CodeLine.{CodeLine}
use Rattle.loop_tree.specs.declared.tree.CodeLine.TheVariants as code

-- lists in a row
abbrev pub joined : {A : Type 0} → List (List A) → List A
joined [] = []
joined (xs ∷ more) = xs ++ joined more

-- one statement, each statement inside it given as its lines
abbrev pub flat_at : Stmt-F (List CodeLine) → List CodeLine
flat_at (layer.Row row) = code.Row row ∷ []
flat_at (layer.If test body) = code.If test ∷ (joined body ++ code.Close ∷ [])
flat_at (layer.IfElse test body other) = code.If test ∷ (joined body ++ code.Else ∷ (joined other ++ code.Close ∷ []))
flat_at (layer.ForUp k bound body) = code.ForUp k bound ∷ (joined body ++ code.Close ∷ [])
flat_at (layer.ForDown k bound body) = code.ForDown k bound ∷ (joined body ++ code.Close ∷ [])
flat_at (layer.Forever body) = code.Forever ∷ (joined body ++ code.Close ∷ [])

abbrev pub flat : Stmt → List CodeLine
flat = fold-Stmt (List CodeLine) flat_at

abbrev pub flats : List Stmt → List CodeLine
flats body = joined (map flat body)

-- the lines below a function's head, the last of which closes its brace
abbrev pub lines_of : Function → List CodeLine
lines_of function = flats function.body ++ code.Close ∷ []
