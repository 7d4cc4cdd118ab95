-- Statements that may stand in a body, and one more of them.
use Rattle.std.proofs.Common.{◌≡◌, ℕ, ◌<◌, ◌≤◌, max, Bool, true, false, ◌||◌, List, [], ◌∷◌, ◌++◌, refl, sym, ◌∙◌, ap, subst, arith}
use Rattle.std.proofs.Common.{append_assoc}
use Rattle.std.specs.Prelude.{Result, Ok, Err, OnOk, OnErr}
use Rattle.std.specs.List.{AllByRecursion}
use Rattle.a95_base.proofs.Tests.{or-false, or_assoc}
use Rattle.loop_tree.specs.declared.atom.Atom.{Atom}
use Rattle.loop_tree.specs.declared.row.Row.{Row}
use Rattle.loop_tree.specs.declared.tree.Stmt.{Stmt}
use Rattle.loop_tree.specs.declared.tree.Stmt.TheVariants as stmt
use Rattle.loop_tree.specs.declared.tree.CodeLine.{CodeLine}
use Rattle.loop_tree.specs.declared.tree.CodeLine.TheVariants as code
use Rattle.loop_tree.specs.Lines.{flat, flats}
use Rattle.loop_tree.specs.Program.{FitsNumber, FitsAtom, FitsRow, FitsLine, leaves_row, leaves, some_leaves, depths}
use Rattle.loop_tree.specs.Body.{Body, IsBody, Stands}
use Rattle.loop_tree.proofs.Trees.{flat-Row, flat-If, flat-IfElse, flat-ForUp, flat-ForDown, flat-Forever, depth-Row, depth-If}
use Rattle.loop_tree.proofs.Trees.{depth-IfElse, depth-ForUp, depth-ForDown, depth-Forever, leaves-Row, leaves-If, leaves-IfElse}
use Rattle.loop_tree.proofs.Trees.{leaves-ForUp, leaves-ForDown, leaves-Forever}

-- ---- lists of statements

pub flats-append : (a b : List Stmt) → flats (a ++ b) ≡ flats a ++ flats b
flats-append [] b = refl
flats-append (s ∷ a) b = ap (λ ls. flat s ++ ls) (flats-append a b) ∙ sym (append_assoc (flat s) (flats a) (flats b))

pub some_leaves-append : (a b : List Stmt) → some_leaves (a ++ b) ≡ (some_leaves a || some_leaves b)
some_leaves-append [] b = refl
some_leaves-append (s ∷ a) b = ap (λ x. leaves s || x) (some_leaves-append a b)
    ∙ sym (or_assoc (leaves s) (some_leaves a) (some_leaves b))

pub depths-append : (a b : List Stmt) → depths (a ++ b) ≡ max (depths a) (depths b)
depths-append [] b = omega arith
depths-append (s ∷ a) b = omega (arith, depths-append a b)

pub fit_both : (a b : List CodeLine) → AllByRecursion FitsLine a → AllByRecursion FitsLine b → AllByRecursion FitsLine (a ++ b)
fit_both [] b h k = k
fit_both (x ∷ a) b h k = (h.0, fit_both a b h.1 k)

either_true : (a b : Bool) (P : Type 0) → (a ≡ true → P) → (b ≡ true → P) → (a || b) ≡ true → P
either_true true b P f g e = f refl
either_true false b P f g e = g e

-- ---- one more

pub both_bodies : (room : ℕ) (in_loop : Bool) (a b : List Stmt)
    → IsBody (record { statements = a; room = room; in_loop = in_loop })
    → IsBody (record { statements = b; room = room; in_loop = in_loop })
    → IsBody (record { statements = a ++ b; room = room; in_loop = in_loop })
both_bodies room in_loop a b f g = record {
  numbers = subst (AllByRecursion FitsLine) (sym (flats-append a b)) (fit_both (flats a) (flats b) f.numbers g.numbers);
  loops = λ e. either_true (some_leaves a) (some_leaves b) (in_loop ≡ true) f.loops g.loops (sym (some_leaves-append a b) ∙ e);
  braces = omega (arith, depths-append a b, f.braces, g.braces);
  room = f.room;
}

one_body : (room : ℕ) (in_loop : Bool) (s : Stmt) → room ≤ 999
    → Stands (record { statements = []; room = room; in_loop = in_loop }) s
    → IsBody (record { statements = s ∷ []; room = room; in_loop = in_loop })
one_body room in_loop s small is = record {
  numbers = fit_both (flat s) [] is.numbers tt;
  loops = λ e. is.loops (sym (or-false (leaves s)) ∙ e);
  braces = omega (arith, is.braces);
  room = small;
}

-- what a push leaves, whatever it answers
pub pushed : {T E : Type 0} (r : Result T E) (body : Body) (s : Stmt) (new : List Stmt) → IsBody body → Stands body s
    → OnOk r (new ≡ body.statements ++ s ∷ []) → OnErr r (new ≡ body.statements) →
    IsBody (record { statements = new; room = body.room; in_loop = body.in_loop })
pushed (Ok a) body s new is stands ok err =
    subst (λ (l : List Stmt). IsBody (record { statements = l; room = body.room; in_loop = body.in_loop })) (sym ok)
    (both_bodies body.room body.in_loop body.statements (s ∷ []) is
    (one_body body.room body.in_loop s is.room (record { numbers = stands.numbers; loops = stands.loops; braces = stands.braces })))
pushed (Err e) body s new is stands ok err =
    subst (λ (l : List Stmt). IsBody (record { statements = l; room = body.room; in_loop = body.in_loop })) (sym err) is

-- ---- each kind of statement

pub row_stands : (body : Body) (row : Row) → FitsRow row → (leaves_row row ≡ true → body.in_loop ≡ true)
    → Stands body (stmt.Row row)
row_stands body row fits loops = record {
  numbers = subst (AllByRecursion FitsLine) (sym (flat-Row row)) (fits, tt);
  loops = λ e. loops (sym (leaves-Row row) ∙ e);
  braces = omega (arith, depth-Row row);
}

-- a head, statements and the closing brace
closed_fit : (head : CodeLine) (body : List Stmt) → FitsLine head → AllByRecursion FitsLine (flats body)
    → AllByRecursion FitsLine (head ∷ (flats body ++ code.Close ∷ []))
closed_fit head body h k = (h, fit_both (flats body) (code.Close ∷ []) k (tt, tt))

pub if_stands : (body inner : Body) (test : Atom) → FitsAtom test → IsBody inner → inner.room < body.room
    → (inner.in_loop ≡ true → body.in_loop ≡ true) → Stands body (stmt.If test inner.statements)
if_stands body inner test fits is room loops = record {
  numbers = subst (AllByRecursion FitsLine) (sym (flat-If test inner.statements))
      (closed_fit (code.If test) inner.statements fits is.numbers);
  loops = λ e. loops (is.loops (sym (leaves-If test inner.statements) ∙ e));
  braces = omega (arith, depth-If test inner.statements, is.braces);
}

pub else_stands : (body inner other : Body) (test : Atom) → FitsAtom test → IsBody inner → inner.room < body.room
    → (inner.in_loop ≡ true → body.in_loop ≡ true)
    → IsBody other → other.room < body.room → (other.in_loop ≡ true → body.in_loop ≡ true) →
    Stands body (stmt.IfElse test inner.statements other.statements)
else_stands body inner other test fits is room loops too below leaves_none = record {
  numbers = subst (AllByRecursion FitsLine) (sym (flat-IfElse test inner.statements other.statements)) (
    fits,
    fit_both (flats inner.statements) (code.Else ∷ (flats other.statements ++ code.Close ∷ [])) is.numbers
        (closed_fit code.Else other.statements tt too.numbers),
  );
  loops = λ e. either_true (some_leaves inner.statements) (some_leaves other.statements) (body.in_loop ≡ true)
      (λ f. loops (is.loops f)) (λ f. leaves_none (too.loops f))
      (sym (leaves-IfElse test inner.statements other.statements) ∙ e);
  braces = omega (arith, depth-IfElse test inner.statements other.statements, is.braces, too.braces);
}

no_leave : (b : Bool) (P : Type 0) → b ≡ false → b ≡ true → P
no_leave true P e f = absurd cc
no_leave false P e f = absurd cc

pub up_stands : (body inner : Body) (k : ℕ) (bound : Atom) → FitsNumber k → FitsAtom bound → IsBody inner
    → inner.room < body.room → Stands body (stmt.ForUp k bound inner.statements)
up_stands body inner k bound small fits is room = record {
  numbers = subst (AllByRecursion FitsLine) (sym (flat-ForUp k bound inner.statements))
      (closed_fit (code.ForUp k bound) inner.statements (small, fits) is.numbers);
  loops = no_leave (leaves (stmt.ForUp k bound inner.statements)) (body.in_loop ≡ true) (leaves-ForUp k bound inner.statements);
  braces = omega (arith, depth-ForUp k bound inner.statements, is.braces);
}

pub down_stands : (body inner : Body) (k : ℕ) (bound : Atom) → FitsNumber k → FitsAtom bound → IsBody inner
    → inner.room < body.room → Stands body (stmt.ForDown k bound inner.statements)
down_stands body inner k bound small fits is room = record {
  numbers = subst (AllByRecursion FitsLine) (sym (flat-ForDown k bound inner.statements))
      (closed_fit (code.ForDown k bound) inner.statements (small, fits) is.numbers);
  loops = no_leave (leaves (stmt.ForDown k bound inner.statements)) (body.in_loop ≡ true) (leaves-ForDown k bound inner.statements);
  braces = omega (arith, depth-ForDown k bound inner.statements, is.braces);
}

pub forever_stands : (body inner : Body) → IsBody inner → inner.room < body.room → Stands body (stmt.Forever inner.statements)
forever_stands body inner is room = record {
  numbers = subst (AllByRecursion FitsLine) (sym (flat-Forever inner.statements))
      (closed_fit code.Forever inner.statements tt is.numbers);
  loops = no_leave (leaves (stmt.Forever inner.statements)) (body.in_loop ≡ true) (leaves-Forever inner.statements);
  braces = omega (arith, depth-Forever inner.statements, is.braces);
}
