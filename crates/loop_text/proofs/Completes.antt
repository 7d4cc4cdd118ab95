-- The text of a program is read to its end, and gives the program.
use Rattle.std.proofs.Common.{◌≡◌, ℕ, ◌+◌, ◌≤◌, ◌<◌, Bool, true, false, ◌||◌, List, [], ◌∷◌, ◌++◌, map, length, nat_lt, Option}
use Rattle.std.proofs.Common.{Some, refl, sym, ◌∙◌, ap, subst, arith, append_assoc, append-nil}
use Rattle.std.specs.List.{AllByRecursion}
use Rattle.std.proofs.lemmas.Bool.Decides.{nat_tests}
use Rattle.std.proofs.lemmas.Bool.{or_left, or_right}
use Rattle.a95_base.proofs.Texts.{bytes_same}
use Rattle.loop_tree.specs.declared.atom.Letter.{Letter}
use Rattle.loop_tree.specs.declared.atom.Atom.{Atom}
use Rattle.loop_tree.specs.declared.row.Row.{Row}
use Rattle.loop_tree.specs.declared.tree.Stmt.{Stmt}
use Rattle.loop_tree.specs.declared.tree.Stmt.TheVariants as stmt
use Rattle.loop_tree.specs.declared.tree.CodeLine.{CodeLine}
use Rattle.loop_tree.specs.declared.tree.CodeLine.TheVariants as code
use Rattle.loop_tree.specs.declared.tree.Function.{Function}
use Rattle.loop_tree.specs.Lines.{flat, flats}
use Rattle.loop_tree.specs.Text.{spell}
use Rattle.loop_tree.specs.Program.{FitsLine, depth, depths, leaves, some_leaves, leaves_row}
use Rattle.loop_tree.proofs.Trees.{flat-Row, flat-If, flat-IfElse, flat-ForUp, flat-ForDown, flat-Forever, depth-If, depth-IfElse}
use Rattle.loop_tree.proofs.Trees.{depth-ForUp, depth-ForDown, depth-Forever, leaves-Row, leaves-If, leaves-IfElse, each_statement}
use Rattle.loop_text.specs.declared.level.Level.{Level}
use Rattle.loop_text.specs.declared.level.LevelKind.{LevelKind}
use Rattle.loop_text.specs.declared.level.LevelKind.TheVariants as kind
use Rattle.loop_text.specs.declared.reader.Reader.{Reader}
use Rattle.loop_text.specs.Reader.{is_loop, in_loop, closed, may_stand, add_row, open_level, add_line, go_on, accept, accept_in}
use Rattle.loop_text.specs.Reader.{reads}
use Rattle.loop_text.proofs.OneLine.{line_again}

-- within a function
abbrev pub reading : List Function → List Letter → List Level → List Stmt → Reader
reading functions parameters levels body =
    record { started = true; within = true; functions = functions; parameters = parameters; levels = levels; body = body }

pub reads-append : (o : Option Reader) (xs ys : List (List ℕ)) → reads o (xs ++ ys) ≡ reads (reads o xs) ys
reads-append o [] ys = refl
reads-append o (x ∷ xs) ys = reads-append (accept_in o x) xs ys

-- a line that is spelled right is added
pub spelled : (fs : List Function) (ps : List Letter) (ls : List Level) (body : List Stmt) (line : CodeLine) → FitsLine line →
    accept (reading fs ps ls body) (spell line) ≡ add_line (reading fs ps ls body) line
unfolding accept go_on
spelled fs ps ls body line h = rw (line_again line h, bytes_same (spell line)) refl

-- ---- lists

pub all_left : {A : Type 0} (P : A → Type 0) (xs ys : List A) → AllByRecursion P (xs ++ ys) → AllByRecursion P xs
all_left P [] ys h = tt
all_left P (x ∷ xs) ys h = (h.0, all_left P xs ys h.1)

pub all_right : {A : Type 0} (P : A → Type 0) (xs ys : List A) → AllByRecursion P (xs ++ ys) → AllByRecursion P ys
all_right P [] ys h = h
all_right P (x ∷ xs) ys h = all_right P xs ys h.1

pub spell-append : (xs ys : List CodeLine) → map spell (xs ++ ys) ≡ map spell xs ++ map spell ys
spell-append [] ys = refl
spell-append (x ∷ xs) ys = ap (λ ls. spell x ∷ ls) (spell-append xs ys)

-- ---- statements

abbrev AddsAt : Stmt → Type 0
AddsAt s = (fs : List Function) (ps : List Letter) (ls : List Level) (body : List Stmt) → AllByRecursion FitsLine (flat s) →
    length ls + 1 + depth s ≤ 1000 → (leaves s ≡ true → in_loop ls ≡ true) →
    reads (Some (reading fs ps ls body)) (map spell (flat s)) ≡ Some (reading fs ps ls (body ++ s ∷ []))

pub adds_all : (fs : List Function) (ps : List Letter) (ls : List Level) (body more : List Stmt) → AllByRecursion AddsAt more →
    AllByRecursion FitsLine (flats more) → length ls + 1 + depths more ≤ 1000 →
    (some_leaves more ≡ true → in_loop ls ≡ true) → reads (Some (reading fs ps ls body)) (map spell (flats more))
    ≡ Some (reading fs ps ls (body ++ more))
adds_all fs ps ls body [] adds fits deep loops = ap (λ b. Some (reading fs ps ls b)) (sym (append-nil body))
adds_all fs ps ls body (s ∷ more) adds fits deep loops =
    ap (reads (Some (reading fs ps ls body))) (spell-append (flat s) (flats more))
    ∙ (reads-append (Some (reading fs ps ls body)) (map spell (flat s)) (map spell (flats more))
    ∙ (ap (λ o. reads o (map spell (flats more)))
    (adds.0 fs ps ls body (all_left FitsLine (flat s) (flats more) fits) (omega arith)
    (λ e. loops (or_left (leaves s) (some_leaves more) e)))
    ∙ (adds_all fs ps ls (body ++ s ∷ []) more adds.1 (all_right FitsLine (flat s) (flats more) fits) (omega arith)
    (λ e. loops (or_right (leaves s) (some_leaves more) e))
    ∙ ap (λ b. Some (reading fs ps ls b)) (append_assoc body (s ∷ []) more))))

-- a line that opens a brace
opens : (fs : List Function) (ps : List Letter) (ls : List Level) (body : List Stmt) (k : LevelKind) → length ls + 1 < 1000 →
    open_level (reading fs ps ls body) k ≡ Some (reading fs ps (record { kind = k; outer = body } ∷ ls) [])
unfolding open_level
opens fs ps ls body k h = let test : nat_lt (length ls + 1) 1000 ≡ true = grind (arith, nat_tests) in rw test refl

-- the closing brace
closes : (fs : List Function) (ps : List Letter) (ls : List Level) (outer more : List Stmt) (k : LevelKind) →
    accept (reading fs ps (record { kind = k; outer = outer } ∷ ls) more) (spell code.Close)
    ≡ Some (reading fs ps ls (outer ++ closed k more ∷ []))
unfolding add_line
closes fs ps ls outer more k = spelled fs ps (record { kind = k; outer = outer } ∷ ls) more code.Close tt

-- statements and the closing brace behind them
to_close : (fs : List Function) (ps : List Letter) (ls : List Level) (outer body more : List Stmt) (k : LevelKind) →
    AllByRecursion AddsAt more → AllByRecursion FitsLine (flats more) → length ls + 2 + depths more ≤ 1000 →
    (some_leaves more ≡ true → (is_loop k || in_loop ls) ≡ true) →
    reads (Some (reading fs ps (record { kind = k; outer = outer } ∷ ls) body)) (map spell (flats more ++ code.Close ∷ []))
    ≡ Some (reading fs ps ls (outer ++ closed k (body ++ more) ∷ []))
to_close fs ps ls outer body more k adds fits deep loops =
    let levels : List Level = record { kind = k; outer = outer } ∷ ls in
    ap (reads (Some (reading fs ps levels body))) (spell-append (flats more) (code.Close ∷ []))
    ∙ (reads-append (Some (reading fs ps levels body)) (map spell (flats more)) (spell code.Close ∷ [])
    ∙ (ap (λ o. reads o (spell code.Close ∷ [])) (adds_all fs ps levels body more adds fits (omega arith) loops)
    ∙ closes fs ps ls outer (body ++ more) k))

-- a statement with one body
block : (fs : List Function) (ps : List Letter) (ls : List Level) (body more : List Stmt) (head : CodeLine) (k : LevelKind) →
    FitsLine head → add_line (reading fs ps ls body) head ≡ open_level (reading fs ps ls body) k →
    AllByRecursion AddsAt more → AllByRecursion FitsLine (flats more) → length ls + 2 + depths more ≤ 1000 →
    (some_leaves more ≡ true → (is_loop k || in_loop ls) ≡ true) →
    reads (Some (reading fs ps ls body)) (map spell (head ∷ (flats more ++ code.Close ∷ [])))
    ≡ Some (reading fs ps ls (body ++ closed k more ∷ []))
block fs ps ls body more head k h e adds fits deep loops =
    ap (λ o. reads o (map spell (flats more ++ code.Close ∷ [])))
    (spelled fs ps ls body head h ∙ (e ∙ opens fs ps ls body k (omega arith)))
    ∙ to_close fs ps ls body [] more k adds fits deep loops

-- from the lines of a statement to the statement itself
by_lines : (s : Stmt) (lines : List CodeLine) → flat s ≡ lines →
    ((fs : List Function) (ps : List Letter) (ls : List Level) (body : List Stmt) → AllByRecursion FitsLine lines →
    length ls + 1 + depth s ≤ 1000 → (leaves s ≡ true → in_loop ls ≡ true) →
    reads (Some (reading fs ps ls body)) (map spell lines) ≡ Some (reading fs ps ls (body ++ s ∷ []))) → AddsAt s
by_lines s lines e h = λ fs ps ls body fits deep loops.
    ap (λ ls'. reads (Some (reading fs ps ls body)) (map spell ls')) e
    ∙ h fs ps ls body (subst (AllByRecursion FitsLine) e fits) deep loops

may_stand_by : (row : Row) (ls : List Level) (b : Bool) → leaves_row row ≡ b → (b ≡ true → in_loop ls ≡ true) →
    may_stand row ls ≡ true
may_stand_by row ls true e h = rw e (h refl)
may_stand_by row ls false e h = rw e refl

adds_row : (row : Row) → AddsAt (stmt.Row row)
unfolding add_row add_line
adds_row row = by_lines (stmt.Row row) (code.Row row ∷ []) (flat-Row row) (λ fs ps ls body fits deep loops.
    let stands : may_stand row ls ≡ true = may_stand_by row ls (leaves_row row) refl (λ e. loops (leaves-Row row ∙ e)) in
    spelled fs ps ls body (code.Row row) fits.0 ∙ rw stands refl)

inner_fits : (head : CodeLine) (more : List Stmt) → AllByRecursion FitsLine (head ∷ (flats more ++ code.Close ∷ [])) →
    AllByRecursion FitsLine (flats more)
inner_fits head more fits = all_left FitsLine (flats more) (code.Close ∷ []) fits.1

adds_if : (test : Atom) (more : List Stmt) → AllByRecursion AddsAt more → AddsAt (stmt.If test more)
unfolding add_line
adds_if test more adds = by_lines (stmt.If test more) _ (flat-If test more) (λ fs ps ls body fits deep loops.
    block fs ps ls body more (code.If test) (kind.If test) fits.0 refl adds (inner_fits (code.If test) more fits)
    (omega (arith, depth-If test more)) (λ e. loops (leaves-If test more ∙ e)))

adds_up : (k : ℕ) (bound : Atom) (more : List Stmt) → AllByRecursion AddsAt more → AddsAt (stmt.ForUp k bound more)
unfolding add_line
adds_up k bound more adds = by_lines (stmt.ForUp k bound more) _ (flat-ForUp k bound more) (λ fs ps ls body fits deep loops.
    block fs ps ls body more (code.ForUp k bound) (kind.ForUp k bound) fits.0 refl adds (inner_fits (code.ForUp k bound) more fits)
    (omega (arith, depth-ForUp k bound more)) (λ e. refl))

adds_down : (k : ℕ) (bound : Atom) (more : List Stmt) → AllByRecursion AddsAt more → AddsAt (stmt.ForDown k bound more)
unfolding add_line
adds_down k bound more adds = by_lines (stmt.ForDown k bound more) _ (flat-ForDown k bound more) (λ fs ps ls body fits deep loops.
    block fs ps ls body more (code.ForDown k bound) (kind.ForDown k bound) fits.0 refl adds
    (inner_fits (code.ForDown k bound) more fits) (omega (arith, depth-ForDown k bound more)) (λ e. refl))

adds_forever : (more : List Stmt) → AllByRecursion AddsAt more → AddsAt (stmt.Forever more)
unfolding add_line
adds_forever more adds = by_lines (stmt.Forever more) _ (flat-Forever more) (λ fs ps ls body fits deep loops.
    block fs ps ls body more code.Forever kind.Forever tt refl adds (inner_fits code.Forever more fits)
    (omega (arith, depth-Forever more)) (λ e. refl))

-- ELSE behind the first branch
at_else : (fs : List Function) (ps : List Letter) (ls : List Level) (outer first : List Stmt) (test : Atom) →
    accept (reading fs ps (record { kind = kind.If test; outer = outer } ∷ ls) first) (spell code.Else)
    ≡ Some (reading fs ps (record { kind = kind.Else test first; outer = outer } ∷ ls) [])
unfolding add_line
at_else fs ps ls outer first test = spelled fs ps (record { kind = kind.If test; outer = outer } ∷ ls) first code.Else tt

adds_else : (test : Atom) (first other : List Stmt) → AllByRecursion AddsAt first → AllByRecursion AddsAt other →
    AddsAt (stmt.IfElse test first other)
unfolding add_line
adds_else test first other adds more = by_lines (stmt.IfElse test first other) _ (flat-IfElse test first other)
    (λ fs ps ls body fits deep loops.
    let within : List Level = record { kind = kind.If test; outer = body } ∷ ls in
    let behind : List CodeLine = flats other ++ code.Close ∷ [] in
    let depth_is = depth-IfElse test first other in
    ap (λ o. reads o (map spell (flats first ++ code.Else ∷ behind)))
    (spelled fs ps ls body (code.If test) fits.0 ∙ opens fs ps ls body (kind.If test) (omega (arith, depth_is)))
    ∙ (ap (reads (Some (reading fs ps within []))) (spell-append (flats first) (code.Else ∷ behind))
    ∙ (reads-append (Some (reading fs ps within [])) (map spell (flats first)) (map spell (code.Else ∷ behind))
    ∙ (ap (λ o. reads o (map spell (code.Else ∷ behind)))
    (adds_all fs ps within [] first adds (all_left FitsLine (flats first) (code.Else ∷ behind) fits.1) (omega (arith, depth_is))
    (λ e. loops (leaves-IfElse test first other ∙ or_left (some_leaves first) (some_leaves other) e)))
    ∙ (ap (λ o. reads o (map spell behind)) (at_else fs ps ls body first test)
    ∙ to_close fs ps ls body [] other (kind.Else test first) more
    (all_left FitsLine (flats other) (code.Close ∷ []) (all_right FitsLine (flats first) (code.Else ∷ behind) fits.1).1)
    (omega (arith, depth_is))
    (λ e. loops (leaves-IfElse test first other ∙ or_right (some_leaves first) (some_leaves other) e)))))))

pub adds : (s : Stmt) → AddsAt s
adds = each_statement AddsAt
    (record {
      on_row = adds_row;
      on_if = adds_if;
      on_else = adds_else;
      on_up = adds_up;
      on_down = adds_down;
      on_forever =
          adds_forever;
    })

pub each_adds : (body : List Stmt) → AllByRecursion AddsAt body
each_adds [] = tt
each_adds (s ∷ body) = (adds s, each_adds body)
