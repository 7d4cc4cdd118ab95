-- The lines of whole statements leave the braces around them alone.
use Rattle.std.proofs.Common.{◌≡◌, List, [], ◌∷◌, ◌++◌, map, refl, sym, ◌∙◌, ap, append_assoc}
use Rattle.loop_tree.specs.declared.tree.Stmt.{Stmt}
use Rattle.loop_tree.specs.declared.tree.Stmt.TheOpen.{Stmt-F}
use Rattle.loop_tree.specs.declared.tree.Stmt.TheOpen as layer
use Rattle.loop_tree.specs.declared.tree.Stmt.TheFolds.{fold-roll-Stmt, ind-Stmt, map-Stmt}
use Rattle.loop_tree.specs.declared.tree.CodeLine.{CodeLine}
use Rattle.loop_tree.specs.declared.tree.CodeLine.TheVariants as code
use Rattle.loop_tree.specs.Lines.{joined, flat_at, flat, flats}
use Rattle.a95_base.specs.Lists.{rest_of}
use Rattle.loop_tree.specs.Machine.{exits, first_exit, behind}

abbrev pub Passes : Stmt → Type 0
Passes s = (r : List CodeLine) → exits (flat s ++ r) ≡ exits r

-- statements that each pass
abbrev Passing : Type 0
Passing = (s : Stmt) × Passes s

abbrev lines_in : List Passing → List CodeLine
lines_in body = joined (map flat (map (λ (e : Passing). e.0) body))

in_row : (body : List Passing) (r : List CodeLine) → exits (lines_in body ++ r) ≡ exits r
in_row [] r = refl
in_row (e ∷ body) r = ap exits (append_assoc (flat e.0) (lines_in body) r) ∙ (e.1 (lines_in body ++ r) ∙ in_row body r)

-- a body and its closing brace
closed : (body : List Passing) (r : List CodeLine) → exits ((lines_in body ++ code.Close ∷ []) ++ r) ≡ (code.Close ∷ r) ∷ exits r
unfolding exits
closed body r = ap exits (append_assoc (lines_in body) (code.Close ∷ []) r) ∙ in_row body (code.Close ∷ r)

-- two bodies, with ELSE between them
parted : (body other : List Passing) (r : List CodeLine) → rest_of
    (exits ((lines_in body ++ code.Else ∷ (lines_in other ++ code.Close ∷ [])) ++ r)) ≡ exits r
unfolding exits
parted body other r =
    ap (λ ls. rest_of (exits ls)) (append_assoc (lines_in body) (code.Else ∷ (lines_in other ++ code.Close ∷ [])) r)
    ∙ (ap rest_of (in_row body (code.Else ∷ ((lines_in other ++ code.Close ∷ []) ++ r))) ∙ ap rest_of (closed other r))

level : (y : Stmt-F Passing) (r : List CodeLine) →
    exits (flat_at (map-Stmt Stmt (List CodeLine) flat (map-Stmt Passing Stmt (λ e. e.0) y)) ++ r) ≡ exits r
unfolding exits
level (layer.Row row) r = refl
level (layer.If test body) r = ap rest_of (closed body r)
level (layer.IfElse test body other) r = parted body other r
level (layer.ForUp k bound body) r = ap rest_of (closed body r)
level (layer.ForDown k bound body) r = ap rest_of (closed body r)
level (layer.Forever body) r = ap rest_of (closed body r)

pub exits-flat : (s : Stmt) → Passes s
exits-flat = ind-Stmt Passes (λ x y is r.
    ap (λ ls. exits (ls ++ r)) (fold-roll-Stmt (List CodeLine) flat_at x)
    ∙ (ap (λ z. exits (flat_at (map-Stmt Stmt (List CodeLine) flat z) ++ r)) (sym is) ∙ level y r))

pub exits-flats : (body : List Stmt) (r : List CodeLine) → exits (flats body ++ r) ≡ exits r
exits-flats [] r = refl
exits-flats (s ∷ body) r = ap exits (append_assoc (flat s) (flats body) r) ∙ (exits-flat s (flats body ++ r) ∙ exits-flats body r)

-- where a brace before a body is closed
pub exits-body : (body : List Stmt) (r : List CodeLine) → exits (flats body ++ code.Close ∷ r) ≡ (code.Close ∷ r) ∷ exits r
unfolding exits
exits-body body r = exits-flats body (code.Close ∷ r)

pub exits-branch : (body : List Stmt) (r : List CodeLine) → exits (flats body ++ code.Else ∷ r) ≡ (code.Else ∷ r)
    ∷ rest_of (exits r)
unfolding exits
exits-branch body r = exits-flats body (code.Else ∷ r)

-- what stands behind the closing brace
pub behind-body : (body : List Stmt) (r : List CodeLine) → behind (flats body ++ code.Close ∷ r) ≡ r
behind-body body r = ap (λ es. rest_of (first_exit es)) (exits-body body r)
