-- Statements that the grammar admits, one in front of others.
use Rattle.std.proofs.Common.{◌≡◌, ℕ, ◌<◌, ◌≤◌, Bool, true, false, List, [], ◌∷◌, ◌++◌, refl, arith, ⊎_elim}
use Rattle.a95_base.specs.declared.fault.FaultKind.{FaultKind}
use Rattle.std.proofs.lemmas.Bool.{or_cases}
use Rattle.loop_tree.specs.declared.atom.Atom.{Atom}
use Rattle.loop_tree.specs.declared.atom.Operator.{Operator}
use Rattle.loop_tree.specs.declared.row.IntValue.{IntValue}
use Rattle.loop_tree.specs.declared.row.TextValue.{TextValue}
use Rattle.loop_tree.specs.declared.row.ControlRow.{ControlRow}
use Rattle.loop_tree.specs.declared.row.Row.{Row}
use Rattle.loop_tree.specs.declared.row.Row.TheVariants as row
use Rattle.loop_tree.specs.declared.tree.Stmt.{Stmt}
use Rattle.loop_tree.specs.declared.tree.Stmt.TheVariants as stmt
use Rattle.loop_tree.specs.Body.{Body, IsBody, Stands}
use Rattle.loop_tree.specs.Program.{FitsNumber, FitsAtom, FitsInt, FitsWords, FitsControl, FitsRow, leaves_row, leaves, some_leaves}
use Rattle.loop_tree.specs.Lines.{flat, flats}
use Rattle.loop_tree.proofs.Bodies.{fit_both, both_bodies, row_stands, if_stands, else_stands, up_stands, down_stands, forever_stands}
use Rattle.nest_emit.specs.Trees.{set, say, compute, unless_fault}

abbrev pub body_of : ℕ → Bool → List Stmt → Body
body_of room loop body = record { statements = body; room = room; in_loop = loop }

-- so many braces may be open in the statements, which stand in a loop or in none
abbrev pub Good : ℕ → Bool → List Stmt → Type 0
Good room loop body = IsBody (body_of room loop body)

pub good_none : {room : ℕ} {loop : Bool} → room ≤ 999 → Good room loop []
good_none small = record { numbers = tt; loops = λ e. cc; braces = omega arith; room = small }

pub good_both : {room : ℕ} {loop : Bool} (a b : List Stmt) → Good room loop a → Good room loop b → Good room loop (a ++ b)
good_both {room} {loop} a b f g = both_bodies room loop a b f g

good_more : {room : ℕ} {loop : Bool} (s : Stmt) (more : List Stmt) → Stands (body_of room loop []) s → Good room loop more →
    Good room loop (s ∷ more)
good_more {room} {loop} s more stands g = record {
  numbers = fit_both (flat s) (flats more) stands.numbers g.numbers;
  loops = λ e. ⊎_elim stands.loops g.loops (or_cases (leaves s) (some_leaves more) e);
  braces = omega (arith, stands.braces, g.braces);
  room = g.room;
}

not_leaving : (b loop : Bool) → b ≡ false → b ≡ true → loop ≡ true
not_leaving true loop e h = cc
not_leaving false loop e h = cc

pub good_row : {room : ℕ} {loop : Bool} (r : Row) (more : List Stmt) → FitsRow r → leaves_row r ≡ false → Good room loop more →
    Good room loop (stmt.Row r ∷ more)
good_row {room} {loop} r more fits calm g =
    good_more (stmt.Row r) more (row_stands (body_of room loop []) r fits (not_leaving (leaves_row r) loop calm)) g

pub good_set : {room : ℕ} {loop : Bool} (n : ℕ) (x : IntValue) (more : List Stmt) → FitsNumber n → FitsInt x →
    Good room loop more → Good room loop (set n x ∷ more)
good_set n x more number fits g = good_row (row.Int n x) more (number, fits) refl g

pub good_say : {room : ℕ} {loop : Bool} (n : ℕ) (x : TextValue) (more : List Stmt) → FitsNumber n → FitsWords x →
    Good room loop more → Good room loop (say n x ∷ more)
good_say n x more number fits g = good_row (row.Text n x) more (number, fits) refl g

pub good_compute : {room : ℕ} {loop : Bool} (n : ℕ) (a : Atom) (op : Operator) (b : Atom) (more : List Stmt) → FitsNumber n →
    FitsAtom a → FitsAtom b → Good room loop more → Good room loop (compute n a op b ∷ more)
good_compute n a op b more number first second g = good_row (row.Int n _) more (number, (first, second)) refl g

pub good_else : {room : ℕ} {loop : Bool} (inner : ℕ) (a : Atom) (body other more : List Stmt) → inner < room → FitsAtom a →
    Good inner loop body → Good inner loop other → Good room loop more → Good room loop (stmt.IfElse a body other ∷ more)
good_else {room} {loop} inner a body other more less fits f h g =
    good_more (stmt.IfElse a body other) more
    (else_stands (body_of room loop []) (body_of inner loop body) (body_of inner loop other) a fits f less (λ e. e) h less (λ e. e)) g

pub good_if : {room : ℕ} {loop : Bool} (inner : ℕ) (a : Atom) (body more : List Stmt) → inner < room → FitsAtom a →
    Good inner loop body → Good room loop more → Good room loop (stmt.If a body ∷ more)
good_if {room} {loop} inner a body more less fits f g =
    good_more (stmt.If a body) more (if_stands (body_of room loop []) (body_of inner loop body) a fits f less (λ e. e)) g

pub good_fault : {room : ℕ} {loop : Bool} (a : Atom) (kind : FaultKind) (more : List Stmt) → 1 ≤ room → FitsAtom a →
    Good room loop more → Good room loop (unless_fault a kind ∷ more)
good_fault a kind more some fits g =
    good_else 0 a [] _ more some fits (good_none (omega arith)) (good_row _ [] tt refl (good_none (omega arith))) g

-- a break or a continue stands in a loop
pub good_leave : {room : ℕ} {loop : Bool} (r : ControlRow) (more : List Stmt) → FitsControl r → loop ≡ true → Good room loop more →
    Good room loop (stmt.Row (row.Control r) ∷ more)
good_leave {room} {loop} r more fits inside g =
    good_more (stmt.Row (row.Control r)) more (row_stands (body_of room loop []) (row.Control r) fits (λ e. inside)) g

-- a loop over elements, in whose body no break stands
pub good_up : {room : ℕ} {loop : Bool} (inner : ℕ) (k : ℕ) (bound : Atom) (body more : List Stmt) → inner < room → FitsNumber k →
    FitsAtom bound → Good inner true body → Good room loop more → Good room loop (stmt.ForUp k bound body ∷ more)
good_up {room} {loop} inner k bound body more less number fits f g =
    good_more (stmt.ForUp k bound body) more (up_stands (body_of room loop []) (body_of inner true body) k bound number fits f less) g

pub good_down : {room : ℕ} {loop : Bool} (inner : ℕ) (k : ℕ) (bound : Atom) (body more : List Stmt) → inner < room → FitsNumber k →
    FitsAtom bound → Good inner true body → Good room loop more → Good room loop (stmt.ForDown k bound body ∷ more)
good_down {room} {loop} inner k bound body more less number fits f g =
    good_more (stmt.ForDown k bound body) more
    (down_stands (body_of room loop []) (body_of inner true body) k bound number fits f less) g

pub good_forever : {room : ℕ} {loop : Bool} (inner : ℕ) (body more : List Stmt) → inner < room → Good inner true body →
    Good room loop more → Good room loop (stmt.Forever body ∷ more)
good_forever {room} {loop} inner body more less f g =
    good_more (stmt.Forever body) more (forever_stands (body_of room loop []) (body_of inner true body) f less) g

-- more braces may be open
pub good_wider : {room wide : ℕ} {loop : Bool} (body : List Stmt) → room ≤ wide → wide ≤ 999 → Good room loop body → Good wide loop body
good_wider body more top g = record { numbers = g.numbers; loops = g.loops; braces = omega (arith, more, g.braces); room = top }
