-- What was read begins a text, and whoever read it knows which.
use Rattle.std.proofs.Common.{◌≡◌, ℕ, suc, ◌+◌, ◌≤◌, ◌<◌, ◌^◌, max, Bool, true, false, ◌||◌, nat_lt, if◌then◌else◌, List, [], ◌∷◌}
use Rattle.std.proofs.Common.{◌++◌, map, length, codes, Some, None, refl, sym, ◌∙◌, ap, subst, arith, append_assoc}
use Rattle.std.proofs.Common.{append-nil, length-append}
use Rattle.std.specs.List.{AllByRecursion}
use Rattle.std.specs.Str.{bytes_eq}
use Rattle.std.proofs.lemmas.Bool.Decides.{nat_tests}
use Rattle.a95_base.proofs.Tests.{or-false, some_behind}
use Rattle.a95_base.proofs.Texts.{same_bytes}
use Rattle.loop_tree.specs.declared.atom.Letter.{Letter}
use Rattle.loop_tree.specs.declared.atom.Atom.{Atom}
use Rattle.loop_tree.specs.declared.row.Row.{Row}
use Rattle.loop_tree.specs.declared.tree.Stmt.{Stmt}
use Rattle.loop_tree.specs.declared.tree.Stmt.TheVariants as stmt
use Rattle.loop_tree.specs.declared.tree.CodeLine.{CodeLine}
use Rattle.loop_tree.specs.declared.tree.CodeLine.TheVariants as code
use Rattle.loop_tree.specs.declared.tree.Function.{Function}
use Rattle.loop_tree.specs.Lines.{flats}
use Rattle.loop_tree.specs.Text.{spell, function_head, function_lines, functions_lines, text_lines}
use Rattle.loop_tree.specs.Program.{FitsRow, FitsLine, depths, leaves, some_leaves, leaves_row, main_parameters, IsFunction}
use Rattle.loop_tree.proofs.Trees.{flat-Row, depth-Row, leaves-Row}
use Rattle.loop_tree.proofs.Bodies.{some_leaves-append, depths-append}
use Rattle.loop_text.specs.declared.level.Level.{Level}
use Rattle.loop_text.specs.declared.level.LevelKind.{LevelKind}
use Rattle.loop_text.specs.declared.level.LevelKind.TheVariants as kind
use Rattle.loop_text.specs.declared.reader.Reader.{Reader}
use Rattle.loop_text.specs.Guess.{line_on}
use Rattle.loop_text.specs.Reader.{in_loop, closed, letters_on, may_begin, may_stand, add_row, open_level, else_of, else_in}
use Rattle.loop_text.specs.Reader.{close_in, add_line, go_on, accept, nothing_read}
use Rattle.loop_text.proofs.Completes.{reading, spell-append}
use Rattle.loop_text.proofs.WholeText.{outside}
use Rattle.loop_text.proofs.Fits.{AreBytes, line_fits}
use Rattle.loop_text.proofs.Levels.{opening, lines_in, lines_in-more, lines_in-closed, leaves_kind, leaks, leaks-closed}
use Rattle.loop_text.proofs.Levels.{leaks-in_loop, kind_depth, deep, deep-closed, deep-max}

-- ---- states, with the lines that lead to them

-- the functions that were closed
pub record SoFar (fs : List Function) : Type 0 where
  pub count : length fs ≤ 2 ^ 32
  pub main : main_parameters fs ≡ []
  pub each : AllByRecursion IsFunction fs

-- the function that is open, with the levels and the statements in the innermost
pub record IsOpen (ls : List Level) (body : List Stmt) : Type 0 where
  pub numbers : AllByRecursion FitsLine (lines_in ls body)
  pub loops : leaks ls (some_leaves body) ≡ false
  pub braces : deep ls (depths body) + 1 ≤ 1000

abbrev pub inside_lines : List Function → List Letter → List Level → List Stmt → List (List ℕ)
inside_lines fs ps ls body = codes "/* LoopC 1 */"
    ∷ (functions_lines 0 fs ++ function_head (length fs) ps ∷ map spell (lines_in ls body))

pub data Reached (r : Reader) (lines : List (List ℕ)) : Type 0 where
  at_start : r ≡ nothing_read → lines ≡ [] → Reached r lines
  between : (fs : List Function) → SoFar fs → r ≡ outside fs → lines ≡ text_lines fs → Reached r lines
  inside : (fs : List Function) (ps : List Letter) (ls : List Level) (body : List Stmt) → SoFar fs →
      may_begin (length fs) (length ps) ≡ true → IsOpen ls body → r ≡ reading fs ps ls body → lines ≡ inside_lines fs ps ls body →
      Reached r lines

-- ---- tests

-- what a test decides, where something is made
some_if : {A : Type 0} (b : Bool) (x y : A) → (if b then Some x else None) ≡ Some y → (b ≡ true) × (y ≡ x)
some_if true x y e = (refl, cc)
some_if false x y e = absurd cc

-- ---- one more line in a function

lines_more : (fs : List Function) (ps : List Letter) (ls ls' : List Level) (body body' : List Stmt) (line : CodeLine) →
    lines_in ls' body' ≡ lines_in ls body ++ line ∷ [] →
    inside_lines fs ps ls body ++ spell line ∷ [] ≡ inside_lines fs ps ls' body'
lines_more fs ps ls ls' body body' line e =
    let before : List (List ℕ) = codes "/* LoopC 1 */" ∷ functions_lines 0 fs in
    append_assoc before (function_head (length fs) ps ∷ map spell (lines_in ls body)) (spell line ∷ [])
    ∙ ap (λ lines. before ++ function_head (length fs) ps ∷ lines)
    (sym (spell-append (lines_in ls body) (line ∷ [])) ∙ ap (map spell) (sym e))

all_append : {A : Type 0} (P : A → Type 0) (xs ys : List A) → AllByRecursion P xs → AllByRecursion P ys →
    AllByRecursion P (xs ++ ys)
all_append P [] ys h k = k
all_append P (x ∷ xs) ys h k = (h.0, all_append P xs ys h.1 k)

numbers_more : (ls ls' : List Level) (body body' : List Stmt) (line : CodeLine) → lines_in ls' body' ≡ lines_in ls body ++ line ∷ []
    → AllByRecursion FitsLine (lines_in ls body) → FitsLine line → AllByRecursion FitsLine (lines_in ls' body')
numbers_more ls ls' body body' line e h k = subst (AllByRecursion FitsLine) (sym e)
    (all_append FitsLine (lines_in ls body) (line ∷ []) h (k, tt))

-- a row
row_line : (ls : List Level) (body : List Stmt) (row : Row) → lines_in ls (body ++ stmt.Row row ∷ []) ≡ lines_in ls body
    ++ code.Row row ∷ []
row_line ls body row = lines_in-more ls body (stmt.Row row ∷ []) ∙ ap (λ lines. lines_in ls body ++ (lines ++ [])) (flat-Row row)

stands : (ls : List Level) (body : List Stmt) (row : Row) (b : Bool) → leaves_row row ≡ b → may_stand row ls ≡ true →
    leaks ls (some_leaves body || b) ≡ leaks ls (some_leaves body)
stands ls body row true e h = leaks-in_loop ls (some_leaves body || true) (some_leaves body) (sym (stand_is row ls true e) ∙ h)
  where
    stand_is : (row : Row) (ls : List Level) (b : Bool) → leaves_row row ≡ b → may_stand row ls ≡ (if b then in_loop ls else true)
    stand_is row ls b e = ap (λ x. if x then in_loop ls else true) e
stands ls body row false e h = ap (leaks ls) (or-false (some_leaves body))

row_open : (ls : List Level) (body : List Stmt) (row : Row) → IsOpen ls body → FitsRow row → may_stand row ls ≡ true →
    IsOpen ls (body ++ stmt.Row row ∷ [])
row_open ls body row is fits may =
    let leaving : some_leaves (body ++ stmt.Row row ∷ []) ≡ (some_leaves body || leaves_row row) =
    some_leaves-append body (stmt.Row row ∷ []) ∙ ap (λ b. some_leaves body || b)
    (or-false (leaves (stmt.Row row)) ∙ leaves-Row row) in
    let same : depths (body ++ stmt.Row row ∷ []) ≡ depths body =
    omega (arith, depths-append body (stmt.Row row ∷ []), depth-Row row) in
    record {
      numbers = numbers_more ls ls body (body ++ stmt.Row row ∷ []) (code.Row row) (row_line ls body row) is.numbers fits;
      loops = ap (leaks ls) leaving ∙ (stands ls body row (leaves_row row) refl may ∙ is.loops);
      braces = subst (λ d. deep ls d + 1 ≤ 1000) (sym same) is.braces;
    }

-- a brace is opened: nothing leaves it yet, and it is one brace
pub record IsFresh (k : LevelKind) (line : CodeLine) : Type 0 where
  pub opens : opening k ≡ line ∷ []
  pub leaves : leaves_kind k false ≡ false
  pub depth : kind_depth k 0 ≡ 1

opened_line : (ls : List Level) (body : List Stmt) (k : LevelKind) (line : CodeLine) → IsFresh k line →
    lines_in (record { kind = k; outer = body } ∷ ls) [] ≡ lines_in ls body ++ line ∷ []
opened_line ls body k line fresh = ap (λ lines. lines_in ls body ++ (lines ++ [])) fresh.opens

opened : (ls : List Level) (body : List Stmt) (k : LevelKind) (line : CodeLine) → IsFresh k line → IsOpen ls body → FitsLine line →
    length ls + 1 < 1000 → IsOpen (record { kind = k; outer = body } ∷ ls) []
opened ls body k line fresh is fits room =
    let deeper : deep ls (max (depths body) (kind_depth k 0)) ≡ deep ls (max (depths body) 1) =
    ap (λ d. deep ls (max (depths body) d)) fresh.depth in
    record {
      numbers = numbers_more ls (record { kind = k; outer = body } ∷ ls) body [] line (opened_line ls body k line fresh) is.numbers
          fits;
      loops = ap (λ b. leaks ls (some_leaves body || b)) fresh.leaves ∙ (ap (leaks ls) (or-false (some_leaves body)) ∙ is.loops);
      braces = omega (arith, deeper, deep-max ls (depths body) 1, is.braces);
    }

-- ELSE
else_line : (ls : List Level) (outer body : List Stmt) (a : Atom) →
    lines_in (record { kind = kind.Else a body; outer = outer } ∷ ls) []
    ≡ lines_in (record { kind = kind.If a; outer = outer } ∷ ls) body ++ code.Else ∷ []
else_line ls outer body a = simp (append_assoc, append-nil)

else_open : (ls : List Level) (outer body : List Stmt) (a : Atom) → IsOpen (record { kind = kind.If a; outer = outer } ∷ ls) body →
    IsOpen (record { kind = kind.Else a body; outer = outer } ∷ ls) []
else_open ls outer body a is =
    let depth_is : max (depths body) 0 + 1 ≡ depths body + 1 = omega arith in
    record {
      numbers = numbers_more (record { kind = kind.If a; outer = outer } ∷ ls)
          (record { kind = kind.Else a body; outer = outer } ∷ ls) body [] code.Else (else_line ls outer body a) is.numbers tt;
      loops = ap (λ b. leaks ls (some_leaves outer || b)) (or-false (some_leaves body)) ∙ is.loops;
      braces = subst (λ d. deep ls (max (depths outer) d) + 1 ≤ 1000) (sym depth_is) is.braces;
    }

-- a closing brace
closed_open : (level : Level) (ls : List Level) (body : List Stmt) → IsOpen (level ∷ ls) body →
    IsOpen ls (level.outer ++ closed level.kind body ∷ [])
closed_open level ls body is =
    record {
      numbers = numbers_more (level ∷ ls) ls body (level.outer ++ closed level.kind body ∷ []) code.Close
          (lines_in-closed level ls body) is.numbers tt;
      loops = leaks-closed level ls body ∙ is.loops;
      braces = subst (λ d. d + 1 ≤ 1000) (sym (deep-closed level ls body)) is.braces;
    }

-- ---- a function that is closed

pub functions_more : (n : ℕ) (fs : List Function) (f : Function) → functions_lines n (fs ++ f ∷ []) ≡ functions_lines n fs
    ++ function_lines (n + length fs) f
functions_more n [] f = let none : n + 0 ≡ n = omega arith in append-nil (function_lines n f)
    ∙ ap (λ k. function_lines k f) (sym none)
functions_more n (g ∷ fs) f =
    let next : n + 1 + length fs ≡ n + suc (length fs) = omega arith in
    ap (λ lines. function_lines n g ++ lines) (functions_more (n + 1) fs f)
    ∙ (sym (append_assoc (function_lines n g) (functions_lines (n + 1) fs) (function_lines (n + 1 + length fs) f))
    ∙ ap (λ k. (function_lines n g ++ functions_lines (n + 1) fs) ++ function_lines k f) next)

done_lines : (fs : List Function) (ps : List Letter) (body : List Stmt) → inside_lines fs ps [] body ++ spell code.Close ∷ []
    ≡ text_lines (fs ++ record { parameters = ps; body = body } ∷ [])
done_lines fs ps body =
    let before : List (List ℕ) = codes "/* LoopC 1 */" ∷ functions_lines 0 fs in
    let f : Function = record { parameters = ps; body = body } in
    let number : 0 + length fs ≡ length fs = omega arith in
    append_assoc before (function_head (length fs) ps ∷ map spell (flats body)) (spell code.Close ∷ [])
    ∙ (ap (λ lines. before ++ function_head (length fs) ps ∷ lines) (sym (spell-append (flats body) (code.Close ∷ [])))
    ∙ (ap (λ k. before ++ function_lines k f) (sym number) ∙ ap (λ lines. codes "/* LoopC 1 */" ∷ lines)
    (sym (functions_more 0 fs f))))

record May (m n : ℕ) : Type 0 where
  number : m < 2 ^ 32
  parameters : n ≤ 2 ^ 32
  main : m ≡ 0 → n ≡ 0

may_is : (m n : ℕ) → may_begin m n ≡ true → May m n
may_is m n e =
    record { number = grind (arith, nat_tests); parameters = grind (arith, nat_tests); main = λ z. grind (arith, nat_tests) }

empty_by : {A : Type 0} (xs : List A) → length xs ≡ 0 → xs ≡ []
empty_by [] e = refl
empty_by (x ∷ xs) e = absurd (omega arith)

main_more : (fs : List Function) (f : Function) → main_parameters fs ≡ [] → (length fs ≡ 0 → length f.parameters ≡ 0) →
    main_parameters (fs ++ f ∷ []) ≡ []
main_more [] f e h = empty_by f.parameters (h refl)
main_more (g ∷ fs) f e h = e

pub so_far_more : (fs : List Function) (ps : List Letter) (body : List Stmt) → SoFar fs → may_begin (length fs) (length ps) ≡ true →
    IsOpen [] body → SoFar (fs ++ record { parameters = ps; body = body } ∷ [])
so_far_more fs ps body so may is =
    let f : Function = record { parameters = ps; body = body } in
    let facts = may_is (length fs) (length ps) may in
    let whole : IsFunction f = record { parameters = facts.parameters; numbers = is.numbers; loops = is.loops; braces = is.braces }
    in
    record {
      count = omega (arith, length-append fs (f ∷ []), facts.number);
      main = main_more fs f so.main facts.main;
      each = all_append IsFunction fs (f ∷ []) so.each (whole, tt);
    }

-- ---- one more line

row_reached : (fs : List Function) (ps : List Letter) (ls : List Level) (body : List Stmt) (row : Row) (r : Reader) → SoFar fs →
    may_begin (length fs) (length ps) ≡ true → IsOpen ls body → FitsRow row →
    add_row (reading fs ps ls body) row ≡ Some r → Reached r (inside_lines fs ps ls body ++ spell (code.Row row) ∷ [])
unfolding add_row
row_reached fs ps ls body row r so may is fits e =
    let made = some_if (may_stand row ls) (reading fs ps ls (body ++ stmt.Row row ∷ [])) r e in
    inside fs ps ls (body ++ stmt.Row row ∷ []) so may (row_open ls body row is fits made.0) made.1
    (lines_more fs ps ls ls body (body ++ stmt.Row row ∷ []) (code.Row row) (row_line ls body row))

open_reached : (fs : List Function) (ps : List Letter) (ls : List Level) (body : List Stmt) (k : LevelKind) (line : CodeLine)
    (r : Reader) → IsFresh k line → SoFar fs → may_begin (length fs) (length ps) ≡ true → IsOpen ls body → FitsLine line →
    open_level (reading fs ps ls body) k ≡ Some r → Reached r (inside_lines fs ps ls body ++ spell line ∷ [])
unfolding open_level
open_reached fs ps ls body k line r fresh so may is fits e =
    let levels : List Level = record { kind = k; outer = body } ∷ ls in
    let made = some_if (nat_lt (length ls + 1) 1000) (reading fs ps levels []) r e in
    let room : length ls + 1 < 1000 = grind (arith, nat_tests, made.0) in
    inside fs ps levels [] so may (opened ls body k line fresh is fits room) made.1
    (lines_more fs ps ls levels body [] line (opened_line ls body k line fresh))

else_reached : (fs : List Function) (ps : List Letter) (k : LevelKind) (outer : List Stmt) (ls : List Level) (body : List Stmt)
    (r : Reader) → SoFar fs → may_begin (length fs) (length ps) ≡ true → IsOpen (record { kind = k; outer = outer } ∷ ls) body →
    else_of (reading fs ps (record { kind = k; outer = outer } ∷ ls) body) k outer ls ≡ Some r →
    Reached r (inside_lines fs ps (record { kind = k; outer = outer } ∷ ls) body ++ spell code.Else ∷ [])
else_reached fs ps (kind.If a) outer ls body r so may is e =
    let old : List Level = record { kind = kind.If a; outer = outer } ∷ ls in
    let new : List Level = record { kind = kind.Else a body; outer = outer } ∷ ls in
    let same : r ≡ reading fs ps new [] = cc in
    inside fs ps new [] so may (else_open ls outer body a is) same
    (lines_more fs ps old new body [] code.Else (else_line ls outer body a))
else_reached fs ps (kind.Else a first) outer ls body r so may is e = absurd cc
else_reached fs ps (kind.ForUp k bound) outer ls body r so may is e = absurd cc
else_reached fs ps (kind.ForDown k bound) outer ls body r so may is e = absurd cc
else_reached fs ps kind.Forever outer ls body r so may is e = absurd cc

else_at : (fs : List Function) (ps : List Letter) (ls : List Level) (body : List Stmt) (r : Reader) → SoFar fs →
    may_begin (length fs) (length ps) ≡ true → IsOpen ls body →
    else_in (reading fs ps ls body) ls ≡ Some r → Reached r (inside_lines fs ps ls body ++ spell code.Else ∷ [])
else_at fs ps [] body r so may is e = absurd cc
else_at fs ps (level ∷ ls) body r so may is e = else_reached fs ps level.kind level.outer ls body r so may is e

close_at : (fs : List Function) (ps : List Letter) (ls : List Level) (body : List Stmt) (r : Reader) → SoFar fs →
    may_begin (length fs) (length ps) ≡ true → IsOpen ls body →
    r ≡ close_in (reading fs ps ls body) ls → Reached r (inside_lines fs ps ls body ++ spell code.Close ∷ [])
close_at fs ps [] body r so may is e = between (fs ++ record { parameters = ps; body = body } ∷ [])
    (so_far_more fs ps body so may is) e (done_lines fs ps body)
close_at fs ps (level ∷ ls) body r so may is e =
    let new : List Stmt = level.outer ++ closed level.kind body ∷ [] in
    inside fs ps ls new so may (closed_open level ls body is) e
    (lines_more fs ps (level ∷ ls) ls body new code.Close (lines_in-closed level ls body))

add_reached : (fs : List Function) (ps : List Letter) (ls : List Level) (body : List Stmt) (line : CodeLine) (r : Reader) →
    SoFar fs → may_begin (length fs) (length ps) ≡ true → IsOpen ls body → FitsLine line →
    add_line (reading fs ps ls body) line ≡ Some r → Reached r (inside_lines fs ps ls body ++ spell line ∷ [])
unfolding add_line
add_reached fs ps ls body (code.Row row) r so may is fits e = row_reached fs ps ls body row r so may is fits e
add_reached fs ps ls body (code.If a) r so may is fits e = open_reached fs ps ls body (kind.If a) (code.If a) r
    (record { opens = refl; leaves = refl; depth = refl }) so may is fits e
add_reached fs ps ls body code.Else r so may is fits e = else_at fs ps ls body r so may is e
add_reached fs ps ls body (code.ForUp k bound) r so may is fits e =
    open_reached fs ps ls body (kind.ForUp k bound) (code.ForUp k bound) r (record { opens = refl; leaves = refl; depth = refl }) so
    may is fits e
add_reached fs ps ls body (code.ForDown k bound) r so may is fits e =
    open_reached fs ps ls body (kind.ForDown k bound) (code.ForDown k bound) r
    (record { opens = refl; leaves = refl; depth = refl }) so may is fits e
add_reached fs ps ls body code.Forever r so may is fits e = open_reached fs ps ls body kind.Forever code.Forever r
    (record { opens = refl; leaves = refl; depth = refl }) so may is fits e
add_reached fs ps ls body code.Close r so may is fits e = let same : r ≡ close_in (reading fs ps ls body) ls = cc in
    close_at fs ps ls body r so may is same

-- ---- from any state

inside_reached : (fs : List Function) (ps : List Letter) (ls : List Level) (body : List Stmt) (bytes : List ℕ) (r : Reader) →
    SoFar fs → may_begin (length fs) (length ps) ≡ true → IsOpen ls body → AreBytes bytes →
    accept (reading fs ps ls body) bytes ≡ Some r → Reached r (inside_lines fs ps ls body ++ bytes ∷ [])
unfolding accept go_on
inside_reached fs ps ls body bytes r so may is are e =
    let made = some_behind (bytes_eq bytes (spell (line_on bytes))) (add_line (reading fs ps ls body) (line_on bytes)) r e in
    subst (λ bs. Reached r (inside_lines fs ps ls body ++ bs ∷ [])) (sym (same_bytes bytes (spell (line_on bytes)) made.0))
    (add_reached fs ps ls body (line_on bytes) r so may is (line_fits bytes are) made.1)

nothing_open : IsOpen [] []
nothing_open = record { numbers = tt; loops = refl; braces = omega arith }

between_reached : (fs : List Function) (bytes : List ℕ) (r : Reader) → SoFar fs → accept (outside fs) bytes ≡ Some r →
    Reached r (text_lines fs ++ bytes ∷ [])
unfolding accept
between_reached fs bytes r so e =
    let ps : List Letter = letters_on bytes in
    let head = some_behind (bytes_eq bytes (function_head (length fs) ps)) _ r e in
    let made = some_if (may_begin (length fs) (length ps)) (reading fs ps [] []) r head.1 in
    let same : bytes ≡ function_head (length fs) ps = same_bytes bytes (function_head (length fs) ps) head.0 in
    inside fs ps [] [] so made.0 nothing_open made.1 (ap (λ bs. text_lines fs ++ bs ∷ []) same)

start_reached : (bytes : List ℕ) (r : Reader) → accept nothing_read bytes ≡ Some r → Reached r (bytes ∷ [])
unfolding accept
start_reached bytes r e =
    let made = some_if (bytes_eq bytes (codes "/* LoopC 1 */")) (outside []) r e in
    between [] (record { count = omega arith; main = refl; each = tt }) made.1
    (ap (λ bs. bs ∷ []) (same_bytes bytes (codes "/* LoopC 1 */") made.0))

pub one_more : (r next : Reader) (lines : List (List ℕ)) (bytes : List ℕ) → Reached r lines → AreBytes bytes →
    accept r bytes ≡ Some next → Reached next (lines ++ bytes ∷ [])
one_more r next lines bytes (at_start e f) are h =
    subst (λ ls. Reached next (ls ++ bytes ∷ [])) (sym f) (start_reached bytes next (ap (λ x. accept x bytes) (sym e) ∙ h))
one_more r next lines bytes (between fs so e f) are h =
    subst (λ ls. Reached next (ls ++ bytes ∷ [])) (sym f) (between_reached fs bytes next so (ap (λ x. accept x bytes) (sym e) ∙ h))
one_more r next lines bytes (inside fs ps ls body so may is e f) are h =
    subst (λ lines'. Reached next (lines' ++ bytes ∷ [])) (sym f)
    (inside_reached fs ps ls body bytes next so may is are (ap (λ x. accept x bytes) (sym e) ∙ h))
