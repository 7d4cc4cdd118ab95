-- The text of a program is read to its end, and gives the program.
use Rattle.std.proofs.Common.{◌≡◌, ℕ, ◌+◌, ◌%◌, ◌≤◌, ◌<◌, ◌^◌, true, false, List, [], ◌∷◌, ◌++◌, map, length, flat_map, filter_map}
use Rattle.std.proofs.Common.{decimal, codes, Some, None, refl, sym, ◌∙◌, ap, arith, append_assoc, append-nil, length-append}
use Rattle.std.specs.List.{AllByRecursion}
use Rattle.std.proofs.lemmas.Fmt.{decimal_by_steps}
use Rattle.std.proofs.lemmas.List.Elements.{filter_map-append}
use Rattle.std.proofs.lemmas.Bool.Decides.{nat_tests}
use Rattle.a95_base.proofs.Texts.{bytes_same}
use Rattle.a95_base.specs.Input.{is_digit}
use Rattle.loop_tree.specs.declared.atom.Letter.{Letter}
use Rattle.loop_tree.specs.declared.atom.Letter.TheVariants as letter
use Rattle.loop_tree.specs.declared.tree.Stmt.{Stmt}
use Rattle.loop_tree.specs.declared.tree.CodeLine.TheVariants as code
use Rattle.loop_tree.specs.declared.tree.Function.{Function}
use Rattle.loop_tree.specs.Lines.{flats, lines_of}
use Rattle.loop_tree.specs.Text.{spell, letter_text, listed, parameters_text, function_head, function_lines, functions_lines}
use Rattle.loop_tree.specs.Text.{text_lines}
use Rattle.loop_tree.specs.Program.{some_leaves, main_parameters, IsFunction, IsProgram}
use Rattle.loop_text.specs.declared.reader.Reader.{Reader}
use Rattle.loop_text.specs.Guess.{NumberOn}
use Rattle.loop_text.specs.Reader.{in_loop, letter_at, letters_on, may_begin, begin, add_line, accept, reads, nothing_read}
use Rattle.loop_text.proofs.Numbers.{number_again, digit_is, digit_differs}
use Rattle.loop_text.proofs.Completes.{reading, reads-append, spelled, spell-append, adds_all, each_adds}

-- ---- letters

digit_is_no_letter : (c : ℕ) → is_digit c ≡ true → letter_at c ≡ None
digit_is_no_letter c e =
    rw (
      digit_differs c 105 e (omega arith),
      digit_differs c 115 e (omega arith),
      digit_differs c 98 e (omega arith),
      digit_differs c 99 e (omega arith),
    ) refl

one_digit : (d : ℕ) → d < 10 → filter_map letter_at ((48 + d) ∷ []) ≡ []
one_digit d h = rw (digit_is_no_letter (48 + d) (digit_is d h)) refl

no_letters : (n : ℕ) → n < 2 ^ 64 → filter_map letter_at (decimal n) ≡ []
no_letters n small = decimal_by_steps (λ n ds. filter_map letter_at ds ≡ [])
    (λ n h. one_digit n h)
    (λ n ds h before. filter_map-append letter_at ds ((48 + n % 10) ∷ [])
    ∙ (ap (λ ls. ls ++ filter_map letter_at ((48 + n % 10) ∷ [])) before ∙ one_digit (n % 10) (omega arith)))
    n small

one_letter : (p : Letter) (j : ℕ) → j < 2 ^ 64 → filter_map letter_at (letter_text p ++ decimal j) ≡ p ∷ []
one_letter letter.Int j h = ap (λ ls. letter.Int ∷ ls) (no_letters j h)
one_letter letter.Text j h = ap (λ ls. letter.Text ∷ ls) (no_letters j h)
one_letter letter.Ints j h = ap (λ ls. letter.Ints ∷ ls) (no_letters j h)
one_letter letter.Texts j h = ap (λ ls. letter.Texts ∷ ls) (no_letters j h)

abbrev others : ℕ → List Letter → List ℕ
others j ps = flat_map (λ y. codes ", " ++ y) (parameters_text j ps)

other_letters : (j : ℕ) (ps : List Letter) → j + length ps < 2 ^ 64 → filter_map letter_at (others j ps) ≡ ps
other_letters j [] h = refl
other_letters j (p ∷ ps) h =
    filter_map-append letter_at (letter_text p ++ decimal j) (others (j + 1) ps)
    ∙ (ap (λ ls. ls ++ filter_map letter_at (others (j + 1) ps)) (one_letter p j (omega arith))
    ∙ ap (λ ls. p ∷ ls) (other_letters (j + 1) ps (omega arith)))

all_letters : (ps : List Letter) → length ps < 2 ^ 64 → filter_map letter_at (listed (parameters_text 0 ps)) ≡ ps
all_letters [] h = refl
all_letters (p ∷ ps) h =
    filter_map-append letter_at (letter_text p ++ decimal 0) (others 1 ps)
    ∙ (ap (λ ls. ls ++ filter_map letter_at (others 1 ps)) (one_letter p 0 (omega arith))
    ∙ ap (λ ls. p ∷ ls) (other_letters 1 ps (omega arith)))

letters_again : (n : ℕ) (ps : List Letter) → n < 2 ^ 64 → length ps < 2 ^ 64 → letters_on (function_head n ps) ≡ ps
letters_again n ps small few =
    let list = listed (parameters_text 0 ps) in
    ap (λ (k : NumberOn). filter_map letter_at k.rest) (number_again n (40 ∷ (list ++ codes ") {")) small refl)
    ∙ (filter_map-append letter_at list (codes ") {") ∙ (append-nil (filter_map letter_at list) ∙ all_letters ps few))

-- ---- functions

-- between functions
abbrev pub outside : List Function → Reader
outside fs = record { started = true; within = false; functions = fs; parameters = []; levels = []; body = [] }

begins_function : (fs : List Function) (ps : List Letter) → may_begin (length fs) (length ps) ≡ true → length fs < 2 ^ 64 →
    length ps < 2 ^ 64 → accept (outside fs) (function_head (length fs) ps) ≡ Some (reading fs ps [] [])
unfolding accept
begins_function fs ps may few short =
    ap (begin (outside fs) (function_head (length fs) ps)) (letters_again (length fs) ps few short)
    ∙ rw (bytes_same (function_head (length fs) ps), may) refl

ends_function : (fs : List Function) (ps : List Letter) (body : List Stmt) → accept (reading fs ps [] body) (spell code.Close)
    ≡ Some (outside (fs ++ record { parameters = ps; body = body } ∷ []))
unfolding add_line
ends_function fs ps body = spelled fs ps [] body code.Close tt

none_leaves : (body : List Stmt) → some_leaves body ≡ false → some_leaves body ≡ true → in_loop [] ≡ true
none_leaves body e f = absurd cc

function_read : (fs : List Function) (f : Function) → may_begin (length fs) (length f.parameters) ≡ true → length fs < 2 ^ 64 →
    IsFunction f → reads (Some (outside fs)) (function_lines (length fs) f) ≡ Some (outside (fs ++ f ∷ []))
function_read fs f may few is =
    let short : length f.parameters < 2 ^ 64 = omega (arith, is.parameters) in
    ap (λ o. reads o (map spell (lines_of f))) (begins_function fs f.parameters may few short)
    ∙ (ap (reads (Some (reading fs f.parameters [] []))) (spell-append (flats f.body) (code.Close ∷ []))
    ∙ (reads-append (Some (reading fs f.parameters [] [])) (map spell (flats f.body)) (spell code.Close ∷ [])
    ∙ (ap (λ o. reads o (spell code.Close ∷ []))
    (adds_all fs f.parameters [] [] f.body (each_adds f.body) is.numbers (omega (arith, is.braces))
    (none_leaves f.body is.loops))
    ∙ ends_function fs f.parameters f.body)))

may_go_on : (m n : ℕ) → m < 2 ^ 32 → n ≤ 2 ^ 32 → 0 < m → may_begin m n ≡ true
may_go_on m n h few some = grind (arith, nat_tests)

functions_read : (fs more : List Function) → 0 < length fs → length fs + length more ≤ 2 ^ 32 → AllByRecursion IsFunction more →
    reads (Some (outside fs)) (functions_lines (length fs) more) ≡ Some (outside (fs ++ more))
functions_read fs [] some few each = ap (λ l. Some (outside l)) (sym (append-nil fs))
functions_read fs (f ∷ more) some few each =
    let next : length (fs ++ f ∷ []) ≡ length fs + 1 = omega (arith, length-append fs (f ∷ [])) in
    let may : may_begin (length fs) (length f.parameters) ≡ true =
    may_go_on (length fs) (length f.parameters) (omega arith) each.0.parameters some in
    reads-append (Some (outside fs)) (function_lines (length fs) f) (functions_lines (length fs + 1) more)
    ∙ (ap (λ o. reads o (functions_lines (length fs + 1) more)) (function_read fs f may (omega arith) each.0)
    ∙ (ap (λ k. reads (Some (outside (fs ++ f ∷ []))) (functions_lines k more)) (sym next)
    ∙ (functions_read (fs ++ f ∷ []) more (omega arith) (omega arith) each.1
    ∙ ap (λ l. Some (outside l)) (append_assoc fs (f ∷ []) more))))

may_be_first : (ps : List Letter) → ps ≡ [] → may_begin 0 (length ps) ≡ true
may_be_first ps e = ap (λ l. may_begin 0 (length l)) e

starts : accept nothing_read (codes "/* LoopC 1 */") ≡ Some (outside [])
unfolding accept
starts = rw (bytes_same (codes "/* LoopC 1 */")) refl

from_main : (fs : List Function) → 0 < length fs → length fs ≤ 2 ^ 32 → main_parameters fs ≡ [] → AllByRecursion IsFunction fs →
    reads (Some (outside [])) (functions_lines 0 fs) ≡ Some (outside fs)
from_main [] some few main each = absurd (omega arith)
from_main (f ∷ more) some few main each =
    reads-append (Some (outside [])) (function_lines 0 f) (functions_lines 1 more)
    ∙ (ap (λ o. reads o (functions_lines 1 more)) (function_read [] f (may_be_first f.parameters main) (omega arith) each.0)
    ∙ functions_read (f ∷ []) more (omega arith) (omega arith) each.1)

pub text_read : (fs : List Function) → IsProgram fs → reads (Some nothing_read) (text_lines fs) ≡ Some (outside fs)
text_read fs is = ap (λ o. reads o (functions_lines 0 fs)) starts ∙ from_main fs is.some is.count is.main is.each
