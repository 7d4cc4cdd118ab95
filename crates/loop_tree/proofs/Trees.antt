-- Induction over statements, and the lines, depth and leaving of each kind of statement.
use Rattle.std.proofs.Common.{◌≡◌, ℕ, ◌+◌, max, Bool, false, ◌||◌, List, [], ◌∷◌, ◌++◌, map, sym, ◌∙◌, ap, subst}
use Rattle.std.specs.List.{AllByRecursion}
use Rattle.loop_tree.specs.declared.atom.Atom.{Atom}
use Rattle.loop_tree.specs.declared.row.Row.{Row}
use Rattle.loop_tree.specs.declared.tree.Stmt.{Stmt, roll-Stmt}
use Rattle.loop_tree.specs.declared.tree.Stmt.TheVariants as stmt
use Rattle.loop_tree.specs.declared.tree.Stmt.TheOpen.{Stmt-F}
use Rattle.loop_tree.specs.declared.tree.Stmt.TheOpen as layer
use Rattle.loop_tree.specs.declared.tree.Stmt.TheFolds.{fold-roll-Stmt, ind-Stmt, map-Stmt}
use Rattle.loop_tree.specs.declared.tree.CodeLine.{CodeLine}
use Rattle.loop_tree.specs.declared.tree.CodeLine.TheVariants as code
use Rattle.loop_tree.specs.Lines.{flat_at, flat, flats}
use Rattle.loop_tree.specs.Program.{depth_at, depth, depths, leaves_row, leaves_at, leaves, some_leaves}

-- ---- the lines of each kind

pub flat-Row : (row : Row) → flat (stmt.Row row) ≡ code.Row row ∷ []
flat-Row row = ap flat (sym (stmt.rolls-Row row)) ∙ fold-roll-Stmt (List CodeLine) flat_at (layer.Row row)

pub flat-If : (test : Atom) (body : List Stmt) → flat (stmt.If test body) ≡ code.If test ∷ (flats body ++ code.Close ∷ [])
flat-If test body = ap flat (sym (stmt.rolls-If test body)) ∙ fold-roll-Stmt (List CodeLine) flat_at (layer.If test body)

pub flat-IfElse : (test : Atom) (body other : List Stmt) → flat (stmt.IfElse test body other) ≡ code.If test
    ∷ (flats body ++ code.Else ∷ (flats other ++ code.Close ∷ []))
flat-IfElse test body other = ap flat (sym (stmt.rolls-IfElse test body other))
    ∙ fold-roll-Stmt (List CodeLine) flat_at (layer.IfElse test body other)

pub flat-ForUp : (k : ℕ) (bound : Atom) (body : List Stmt) → flat (stmt.ForUp k bound body) ≡ code.ForUp k bound
    ∷ (flats body ++ code.Close ∷ [])
flat-ForUp k bound body = ap flat (sym (stmt.rolls-ForUp k bound body))
    ∙ fold-roll-Stmt (List CodeLine) flat_at (layer.ForUp k bound body)

pub flat-ForDown : (k : ℕ) (bound : Atom) (body : List Stmt) → flat (stmt.ForDown k bound body) ≡ code.ForDown k bound
    ∷ (flats body ++ code.Close ∷ [])
flat-ForDown k bound body = ap flat (sym (stmt.rolls-ForDown k bound body))
    ∙ fold-roll-Stmt (List CodeLine) flat_at (layer.ForDown k bound body)

pub flat-Forever : (body : List Stmt) → flat (stmt.Forever body) ≡ code.Forever ∷ (flats body ++ code.Close ∷ [])
flat-Forever body = ap flat (sym (stmt.rolls-Forever body)) ∙ fold-roll-Stmt (List CodeLine) flat_at (layer.Forever body)

-- ---- how many braces are open at once

pub depth-Row : (row : Row) → depth (stmt.Row row) ≡ 0
depth-Row row = ap depth (sym (stmt.rolls-Row row)) ∙ fold-roll-Stmt ℕ depth_at (layer.Row row)

pub depth-If : (test : Atom) (body : List Stmt) → depth (stmt.If test body) ≡ depths body + 1
depth-If test body = ap depth (sym (stmt.rolls-If test body)) ∙ fold-roll-Stmt ℕ depth_at (layer.If test body)

pub depth-IfElse : (test : Atom) (body other : List Stmt) → depth (stmt.IfElse test body other) ≡ max (depths body) (depths other)
    + 1
depth-IfElse test body other = ap depth (sym (stmt.rolls-IfElse test body other))
    ∙ fold-roll-Stmt ℕ depth_at (layer.IfElse test body other)

pub depth-ForUp : (k : ℕ) (bound : Atom) (body : List Stmt) → depth (stmt.ForUp k bound body) ≡ depths body + 1
depth-ForUp k bound body = ap depth (sym (stmt.rolls-ForUp k bound body)) ∙ fold-roll-Stmt ℕ depth_at (layer.ForUp k bound body)

pub depth-ForDown : (k : ℕ) (bound : Atom) (body : List Stmt) → depth (stmt.ForDown k bound body) ≡ depths body + 1
depth-ForDown k bound body = ap depth (sym (stmt.rolls-ForDown k bound body))
    ∙ fold-roll-Stmt ℕ depth_at (layer.ForDown k bound body)

pub depth-Forever : (body : List Stmt) → depth (stmt.Forever body) ≡ depths body + 1
depth-Forever body = ap depth (sym (stmt.rolls-Forever body)) ∙ fold-roll-Stmt ℕ depth_at (layer.Forever body)

-- ---- whether a break or a continue stands in no loop

pub leaves-Row : (row : Row) → leaves (stmt.Row row) ≡ leaves_row row
leaves-Row row = ap leaves (sym (stmt.rolls-Row row)) ∙ fold-roll-Stmt Bool leaves_at (layer.Row row)

pub leaves-If : (test : Atom) (body : List Stmt) → leaves (stmt.If test body) ≡ some_leaves body
leaves-If test body = ap leaves (sym (stmt.rolls-If test body)) ∙ fold-roll-Stmt Bool leaves_at (layer.If test body)

pub leaves-IfElse : (test : Atom) (body other : List Stmt) → leaves (stmt.IfElse test body other)
    ≡ (some_leaves body || some_leaves other)
leaves-IfElse test body other = ap leaves (sym (stmt.rolls-IfElse test body other))
    ∙ fold-roll-Stmt Bool leaves_at (layer.IfElse test body other)

pub leaves-ForUp : (k : ℕ) (bound : Atom) (body : List Stmt) → leaves (stmt.ForUp k bound body) ≡ false
leaves-ForUp k bound body = ap leaves (sym (stmt.rolls-ForUp k bound body))
    ∙ fold-roll-Stmt Bool leaves_at (layer.ForUp k bound body)

pub leaves-ForDown : (k : ℕ) (bound : Atom) (body : List Stmt) → leaves (stmt.ForDown k bound body) ≡ false
leaves-ForDown k bound body = ap leaves (sym (stmt.rolls-ForDown k bound body))
    ∙ fold-roll-Stmt Bool leaves_at (layer.ForDown k bound body)

pub leaves-Forever : (body : List Stmt) → leaves (stmt.Forever body) ≡ false
leaves-Forever body = ap leaves (sym (stmt.rolls-Forever body)) ∙ fold-roll-Stmt Bool leaves_at (layer.Forever body)

-- ---- induction

-- what holds of each kind of statement where it holds of the statements inside it
pub record ByKind (P : Stmt → Type 0) : Type 0 where
  pub on_row : (row : Row) → P (stmt.Row row)
  pub on_if : (test : Atom) (body : List Stmt) → AllByRecursion P body → P (stmt.If test body)
  pub on_else : (test : Atom) (body other : List Stmt) → AllByRecursion P body → AllByRecursion P other →
      P (stmt.IfElse test body other)
  pub on_up : (k : ℕ) (bound : Atom) (body : List Stmt) → AllByRecursion P body → P (stmt.ForUp k bound body)
  pub on_down : (k : ℕ) (bound : Atom) (body : List Stmt) → AllByRecursion P body → P (stmt.ForDown k bound body)
  pub on_forever : (body : List Stmt) → AllByRecursion P body → P (stmt.Forever body)

all_inside : (P : Stmt → Type 0) (body : List ((s : Stmt) × P s)) → AllByRecursion P (map (λ (e : (s : Stmt) × P s). e.0) body)
all_inside P [] = tt
all_inside P (e ∷ body) = (e.1, all_inside P body)

abbrev insides : (P : Stmt → Type 0) → List ((s : Stmt) × P s) → List Stmt
insides P body = map (λ (e : (s : Stmt) × P s). e.0) body

by_layer : (P : Stmt → Type 0) → ByKind P → (y : Stmt-F ((s : Stmt) × P s)) →
    P (roll-Stmt (map-Stmt ((s : Stmt) × P s) Stmt (λ e. e.0) y))
by_layer P by (layer.Row row) = subst P (sym (stmt.rolls-Row row)) (by.on_row row)
by_layer P by (layer.If test body) = subst P (sym (stmt.rolls-If test (insides P body)))
    (by.on_if test (insides P body) (all_inside P body))
by_layer P by (layer.IfElse test body other) = subst P (sym (stmt.rolls-IfElse test (insides P body) (insides P other)))
    (by.on_else test (insides P body) (insides P other) (all_inside P body) (all_inside P other))
by_layer P by (layer.ForUp k bound body) = subst P (sym (stmt.rolls-ForUp k bound (insides P body)))
    (by.on_up k bound (insides P body) (all_inside P body))
by_layer P by (layer.ForDown k bound body) = subst P (sym (stmt.rolls-ForDown k bound (insides P body)))
    (by.on_down k bound (insides P body) (all_inside P body))
by_layer P by (layer.Forever body) = subst P (sym (stmt.rolls-Forever (insides P body)))
    (by.on_forever (insides P body) (all_inside P body))

pub each_statement : (P : Stmt → Type 0) → ByKind P → (s : Stmt) → P s
each_statement P by = ind-Stmt P (λ x y is. subst (λ z. P (roll-Stmt z)) is (by_layer P by y))
