-- The open braces of a text that is read.
use Rattle.std.proofs.Common.{◌≡◌, ℕ, ◌+◌, ◌≤◌, max, Bool, true, false, ◌||◌, List, [], ◌∷◌, ◌++◌, length, reverse, refl, sym, ◌∙◌}
use Rattle.std.proofs.Common.{ap, arith, append_assoc, append-nil}
use Rattle.loop_tree.specs.declared.tree.Stmt.{Stmt}
use Rattle.loop_tree.specs.declared.tree.CodeLine.{CodeLine}
use Rattle.loop_tree.specs.declared.tree.CodeLine.TheVariants as code
use Rattle.loop_tree.specs.Lines.{flat, flats}
use Rattle.loop_tree.specs.Program.{depth, depths, leaves, some_leaves}
use Rattle.loop_tree.proofs.Trees.{flat-If, flat-IfElse, flat-ForUp, flat-ForDown, flat-Forever, depth-If, depth-IfElse}
use Rattle.loop_tree.proofs.Trees.{depth-ForUp, depth-ForDown, depth-Forever, leaves-If, leaves-IfElse, leaves-ForUp}
use Rattle.loop_tree.proofs.Trees.{leaves-ForDown, leaves-Forever}
use Rattle.loop_tree.proofs.Bodies.{flats-append, some_leaves-append, depths-append}
use Rattle.loop_text.specs.declared.level.LevelKind.{LevelKind}
use Rattle.loop_text.specs.declared.level.LevelKind.TheVariants as kind
use mathlib.Core.List.{reverse-cons}
use Rattle.std.proofs.lemmas.List.Folds.{list_any-append}
use Rattle.a95_base.proofs.Tests.{or-false}
use Rattle.loop_text.specs.declared.level.Level.{Level}
use Rattle.loop_text.specs.Reader.{is_loop, in_loop, closed}

or_comm : (a b : Bool) → (a || b) ≡ (b || a)
or_comm true true = refl
or_comm true false = refl
or_comm false true = refl
or_comm false false = refl

pub in_loop_reversed : (levels : List Level) → in_loop (reverse levels) ≡ in_loop levels
in_loop_reversed [] = refl
in_loop_reversed (level ∷ levels) =
    ap in_loop (reverse-cons level levels) ∙ list_any-append (λ (l : Level). is_loop l.kind) (reverse levels) (level ∷ [])
    ∙ (ap (λ b. in_loop (reverse levels) || b) (or-false (is_loop level.kind))
    ∙ (or_comm (in_loop (reverse levels)) (is_loop level.kind) ∙ ap (λ b. is_loop level.kind || b) (in_loop_reversed levels)))

-- ---- the lines read in a function

-- those that open a brace
abbrev pub opening : LevelKind → List CodeLine
opening (kind.If a) = code.If a ∷ []
opening (kind.Else a first) = code.If a ∷ (flats first ++ code.Else ∷ [])
opening (kind.ForUp k bound) = code.ForUp k bound ∷ []
opening (kind.ForDown k bound) = code.ForDown k bound ∷ []
opening kind.Forever = code.Forever ∷ []

abbrev pub lines_in : List Level → List Stmt → List CodeLine
lines_in [] body = flats body
lines_in (level ∷ levels) body = lines_in levels level.outer ++ (opening level.kind ++ flats body)

-- the statements of the function once every brace is closed, and the lines that close them
abbrev pub close_all : List Level → List Stmt → List Stmt
close_all [] body = body
close_all (level ∷ levels) body = close_all levels (level.outer ++ closed level.kind body ∷ [])

abbrev pub closings : List Level → List CodeLine
closings [] = []
closings (level ∷ levels) = code.Close ∷ closings levels

pub lines_in-more : (levels : List Level) (body more : List Stmt) → lines_in levels (body ++ more) ≡ lines_in levels body
    ++ flats more
lines_in-more [] body more = flats-append body more
lines_in-more (level ∷ levels) body more = ap (λ ls. lines_in levels level.outer ++ (opening level.kind ++ ls))
    (flats-append body more) ∙ simp append_assoc

flat-closed : (k : LevelKind) (body : List Stmt) → flat (closed k body) ≡ opening k ++ (flats body ++ code.Close ∷ [])
flat-closed (kind.If a) body = flat-If a body
flat-closed (kind.Else a first) body = flat-IfElse a first body
    ∙ ap (λ ls. code.If a ∷ ls) (sym (append_assoc (flats first) (code.Else ∷ []) (flats body ++ code.Close ∷ [])))
flat-closed (kind.ForUp k bound) body = flat-ForUp k bound body
flat-closed (kind.ForDown k bound) body = flat-ForDown k bound body
flat-closed kind.Forever body = flat-Forever body

-- a brace is closed
pub lines_in-closed : (level : Level) (levels : List Level) (body : List Stmt) →
    lines_in levels (level.outer ++ closed level.kind body ∷ []) ≡ lines_in (level ∷ levels) body ++ code.Close ∷ []
lines_in-closed level levels body =
    lines_in-more levels level.outer (closed level.kind body ∷ [])
    ∙ (ap (λ ls. lines_in levels level.outer ++ (ls ++ [])) (flat-closed level.kind body) ∙ simp (append_assoc, append-nil))

-- all are closed
pub flats-close_all : (levels : List Level) (body : List Stmt) → flats (close_all levels body) ≡ lines_in levels body
    ++ closings levels
flats-close_all [] body = sym (append-nil (flats body))
flats-close_all (level ∷ levels) body =
    flats-close_all levels (level.outer ++ closed level.kind body ∷ [])
    ∙ (ap (λ ls. ls ++ closings levels) (lines_in-closed level levels body)
    ∙ append_assoc (lines_in (level ∷ levels) body) (code.Close ∷ []) (closings levels))

-- ---- breaks outside of loops

abbrev pub leaves_kind : LevelKind → Bool → Bool
leaves_kind (kind.If a) b = b
leaves_kind (kind.Else a first) b = some_leaves first || b
leaves_kind (kind.ForUp k bound) b = false
leaves_kind (kind.ForDown k bound) b = false
leaves_kind kind.Forever b = false

abbrev pub leaks : List Level → Bool → Bool
leaks [] b = b
leaks (level ∷ levels) b = leaks levels (some_leaves level.outer || leaves_kind level.kind b)

leaves-closed : (k : LevelKind) (body : List Stmt) → leaves (closed k body) ≡ leaves_kind k (some_leaves body)
leaves-closed (kind.If a) body = leaves-If a body
leaves-closed (kind.Else a first) body = leaves-IfElse a first body
leaves-closed (kind.ForUp k bound) body = leaves-ForUp k bound body
leaves-closed (kind.ForDown k bound) body = leaves-ForDown k bound body
leaves-closed kind.Forever body = leaves-Forever body

pub leaks-closed : (level : Level) (levels : List Level) (body : List Stmt) →
    leaks levels (some_leaves (level.outer ++ closed level.kind body ∷ [])) ≡ leaks (level ∷ levels) (some_leaves body)
leaks-closed level levels body =
    ap (leaks levels)
    (some_leaves-append level.outer (closed level.kind body ∷ [])
    ∙ ap (λ b. some_leaves level.outer || b) (or-false (leaves (closed level.kind body)) ∙ leaves-closed level.kind body))

pub some_leaves-close_all : (levels : List Level) (body : List Stmt) → some_leaves (close_all levels body)
    ≡ leaks levels (some_leaves body)
some_leaves-close_all [] body = refl
some_leaves-close_all (level ∷ levels) body = some_leaves-close_all levels (level.outer ++ closed level.kind body ∷ [])
    ∙ leaks-closed level levels body

loop_leaves : (k : LevelKind) (b c : Bool) → is_loop k ≡ true → leaves_kind k b ≡ leaves_kind k c
loop_leaves (kind.If a) b c e = absurd cc
loop_leaves (kind.Else a first) b c e = absurd cc
loop_leaves (kind.ForUp k bound) b c e = refl
loop_leaves (kind.ForDown k bound) b c e = refl
loop_leaves kind.Forever b c e = refl

leaks_by : (level : Level) (levels : List Level) (b c d : Bool) → is_loop level.kind ≡ d → (d || in_loop levels) ≡ true →
    ((x y : Bool) → in_loop levels ≡ true → leaks levels x ≡ leaks levels y) → leaks (level ∷ levels) b ≡ leaks (level ∷ levels) c
leaks_by level levels b c true e h more = ap (λ x. leaks levels (some_leaves level.outer || x)) (loop_leaves level.kind b c e)
leaks_by level levels b c false e h more = more (some_leaves level.outer || leaves_kind level.kind b)
    (some_leaves level.outer || leaves_kind level.kind c) h

-- in a loop nothing leaks
pub leaks-in_loop : (levels : List Level) (b c : Bool) → in_loop levels ≡ true → leaks levels b ≡ leaks levels c
leaks-in_loop [] b c h = absurd cc
leaks-in_loop (level ∷ levels) b c h = leaks_by level levels b c (is_loop level.kind) refl h (λ x y g. leaks-in_loop levels x y g)

-- ---- braces

abbrev pub kind_depth : LevelKind → ℕ → ℕ
kind_depth (kind.If a) d = d + 1
kind_depth (kind.Else a first) d = max (depths first) d + 1
kind_depth (kind.ForUp k bound) d = d + 1
kind_depth (kind.ForDown k bound) d = d + 1
kind_depth kind.Forever d = d + 1

abbrev pub deep : List Level → ℕ → ℕ
deep [] d = d
deep (level ∷ levels) d = deep levels (max (depths level.outer) (kind_depth level.kind d))

depth-closed : (k : LevelKind) (body : List Stmt) → depth (closed k body) ≡ kind_depth k (depths body)
depth-closed (kind.If a) body = depth-If a body
depth-closed (kind.Else a first) body = depth-IfElse a first body
depth-closed (kind.ForUp k bound) body = depth-ForUp k bound body
depth-closed (kind.ForDown k bound) body = depth-ForDown k bound body
depth-closed kind.Forever body = depth-Forever body

pub deep-closed : (level : Level) (levels : List Level) (body : List Stmt) →
    deep levels (depths (level.outer ++ closed level.kind body ∷ [])) ≡ deep (level ∷ levels) (depths body)
deep-closed level levels body =
    let one : max (depth (closed level.kind body)) 0 ≡ kind_depth level.kind (depths body) =
    omega (arith, depth-closed level.kind body) in
    ap (deep levels) (depths-append level.outer (closed level.kind body ∷ []) ∙ ap (max (depths level.outer)) one)

pub depths-close_all : (levels : List Level) (body : List Stmt) → depths (close_all levels body) ≡ deep levels (depths body)
depths-close_all [] body = refl
depths-close_all (level ∷ levels) body = depths-close_all levels (level.outer ++ closed level.kind body ∷ [])
    ∙ deep-closed level levels body

kind_depth-max : (k : LevelKind) (d e : ℕ) → kind_depth k (max d e) ≡ max (kind_depth k d) (e + 1)
kind_depth-max (kind.If a) d e = omega arith
kind_depth-max (kind.Else a first) d e = omega arith
kind_depth-max (kind.ForUp k bound) d e = omega arith
kind_depth-max (kind.ForDown k bound) d e = omega arith
kind_depth-max kind.Forever d e = omega arith

pub deep-max : (levels : List Level) (d e : ℕ) → deep levels (max d e) ≤ max (deep levels d) (e + length levels)
deep-max [] d e = omega arith
deep-max (level ∷ levels) d e =
    let same : max (depths level.outer) (kind_depth level.kind (max d e))
    ≡ max (max (depths level.outer) (kind_depth level.kind d)) (e + 1) = omega (arith, kind_depth-max level.kind d e) in
    let inner = deep-max levels (max (depths level.outer) (kind_depth level.kind d)) (e + 1) in
    omega (arith, ap (deep levels) same, inner)
