-- How the lines of a place go from one dimension to the next. No public clause cites this file.
use Rattle.std.specs.Prelude.{ℕ, suc, List, [], ◌∷◌, ◌++◌}
use Rattle.nest_tree.specs.Plain.{Procedure}
use Rattle.nest_tree.specs.declared.access.Along.{Along}
use Rattle.loop_tree.specs.declared.atom.Atom.TheVariants as atom
use Rattle.loop_tree.specs.declared.atom.Operator.TheVariants as operator
use Rattle.loop_tree.specs.declared.tree.Stmt.{Stmt}
use Rattle.nest_emit.specs.Numbers.{lower_number, extent_number}
use Rattle.nest_emit.specs.Trees.{compute, subscript_atom, subscript_lines}

-- how far a subscript is above the lower bound
abbrev pub distance : Procedure → ℕ → ℕ → ℕ → ℕ → Along → List Stmt
distance q nests t array dim along = subscript_lines q nests t along
    ++ (compute t (subscript_atom q nests t along) operator.Subtract (atom.Int (lower_number array dim)) ∷ [])

-- the place in the further dimensions times the extent of this one, and the place in this one
abbrev pub joined : Procedure → ℕ → ℕ → ℕ → ℕ → Along → List Stmt
joined q nests t array dim along = compute t (atom.Int (extent_number array dim)) operator.Multiply (atom.Int t)
    ∷ (subscript_lines q nests (suc t) along
    ++ (compute (suc t) (subscript_atom q nests (suc t) along) operator.Subtract (atom.Int (lower_number array dim))
    ∷ compute t (atom.Int t) operator.Add (atom.Int (suc t)) ∷ []))
