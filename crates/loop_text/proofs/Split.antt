-- A text is cut into its lines in one way.
use Rattle.std.proofs.Common.{◌≡◌, ℕ, zero, suc, ◌+◌, ◌<◌, ◌^◌, ◌==◌, Bool, true, false, not, if◌then◌else◌, List, [], ◌∷◌}
use Rattle.std.proofs.Common.{◌++◌, map, length, get_or, take, drop, refl, sym, ◌∙◌, ap, arith, append_assoc, eqb-true}
use Rattle.std.specs.List.{AllByRecursion}
use Rattle.std.proofs.lemmas.Bool.{not-true}
use Rattle.a95_base.proofs.Tests.{and_second, and_first}
use Rattle.loop_tree.specs.declared.tree.CodeLine.{CodeLine}
use Rattle.loop_tree.specs.declared.tree.CodeLine.TheVariants as code
use Rattle.loop_tree.specs.declared.tree.Function.{Function}
use Rattle.loop_tree.specs.Lines.{flats, lines_of}
use Rattle.loop_tree.specs.Text.{spell, function_lines, functions_lines, text_lines, with_line_feeds, text_of_program}
use Rattle.loop_tree.specs.Program.{FitsLine, IsFunction, IsProgram, ReadsText}
use Rattle.loop_text.specs.Refused.{Split, is_one_line, byte_onto, feed_onto, split_of}
use Rattle.loop_text.proofs.Fits.{AreBytes}
use Rattle.loop_text.proofs.OneLineEach.{line_one, head_one}

abbrev split : List (List ℕ) → List ℕ → Split
split lines tail = record { lines = lines; tail = tail }

-- a byte that is no line feed, in front
no_feed : (c : ℕ) (cs : List ℕ) → (c == 10) ≡ false → split_of (c ∷ cs) ≡ byte_onto c ((split_of cs).lines) ((split_of cs).tail)
no_feed c cs e = rw e refl

-- ---- a line, its line feed, and more

pub line_first : (line rest : List ℕ) → is_one_line line ≡ true → split_of (line ++ 10 ∷ rest)
    ≡ split (line ∷ (split_of rest).lines) ((split_of rest).tail)
line_first [] rest e = refl
line_first (c ∷ cs) rest e =
    let differs : (c == 10) ≡ false = not-true (c == 10) (and_first (not (c == 10)) (is_one_line cs) e) in
    no_feed c (cs ++ 10 ∷ rest) differs
    ∙ ap (λ (p : Split). byte_onto c p.lines p.tail) (line_first cs rest (and_second (not (c == 10)) (is_one_line cs) e))

-- no line feed at all
pub only_tail : (bytes : List ℕ) → is_one_line bytes ≡ true → split_of bytes ≡ split [] bytes
only_tail [] e = refl
only_tail (c ∷ cs) e =
    let differs : (c == 10) ≡ false = not-true (c == 10) (and_first (not (c == 10)) (is_one_line cs) e) in
    no_feed c cs differs ∙ ap (λ (p : Split). byte_onto c p.lines p.tail)
    (only_tail cs (and_second (not (c == 10)) (is_one_line cs) e))

-- ---- the lines of a text

abbrev Each : List (List ℕ) → Type 0
Each lines = AllByRecursion (λ line. is_one_line line ≡ true) lines

pub lines_again : (lines : List (List ℕ)) → Each lines → split_of (with_line_feeds lines) ≡ split lines []
lines_again [] each = refl
lines_again (line ∷ lines) each =
    ap split_of (append_assoc line (10 ∷ []) (with_line_feeds lines))
    ∙ (line_first line (with_line_feeds lines) each.0 ∙ ap (λ (p : Split). split (line ∷ p.lines) p.tail)
    (lines_again lines each.1))

each_append : (xs ys : List (List ℕ)) → Each xs → Each ys → Each (xs ++ ys)
each_append [] ys h k = k
each_append (x ∷ xs) ys h k = (h.0, each_append xs ys h.1 k)

each_code : (lines : List CodeLine) → AllByRecursion FitsLine lines → Each (map spell lines)
each_code [] h = tt
each_code (line ∷ lines) h = (line_one line h.0, each_code lines h.1)

fits_close : (lines : List CodeLine) → AllByRecursion FitsLine lines → AllByRecursion FitsLine (lines ++ code.Close ∷ [])
fits_close [] h = (tt, tt)
fits_close (line ∷ lines) h = (h.0, fits_close lines h.1)

each_function : (n : ℕ) (f : Function) → n < 2 ^ 64 → IsFunction f → Each (function_lines n f)
each_function n f small is =
    (head_one n f.parameters small (omega (arith, is.parameters)), each_code (lines_of f) (fits_close (flats f.body) is.numbers))

each_functions : (n : ℕ) (fs : List Function) → n + length fs < 2 ^ 64 → AllByRecursion IsFunction fs → Each (functions_lines n fs)
each_functions n [] small is = tt
each_functions n (f ∷ fs) small is = each_append (function_lines n f) (functions_lines (n + 1) fs)
    (each_function n f (omega arith) is.0) (each_functions (n + 1) fs (omega arith) is.1)

pub text_again : (fs : List Function) → IsProgram fs → split_of (text_of_program fs) ≡ split (text_lines fs) []
text_again fs is = lines_again (text_lines fs) (refl, each_functions 0 fs (omega (arith, is.count)) is.each)

-- of bytes that are a program's text
pub split_of_text : (bytes : List ℕ) (fs : List Function) → ReadsText bytes fs → split_of bytes ≡ split (text_lines fs) []
split_of_text bytes fs is = ap split_of is.text ∙ text_again fs is.program

-- ---- the pieces join again

joined_byte : (c : ℕ) (lines : List (List ℕ)) (tail : List ℕ) → with_line_feeds ((byte_onto c lines tail).lines)
    ++ (byte_onto c lines tail).tail ≡ c ∷ (with_line_feeds lines ++ tail)
joined_byte c [] tail = refl
joined_byte c (line ∷ lines) tail = refl

joined_by : (c : ℕ) (cs : List ℕ) (b : Bool) → (c == 10) ≡ b → cs ≡ with_line_feeds ((split_of cs).lines) ++ (split_of cs).tail →
    c ∷ cs ≡ with_line_feeds ((if b then feed_onto (split_of cs) else byte_onto c ((split_of cs).lines) ((split_of cs).tail)).lines)
    ++ (if b then feed_onto (split_of cs) else byte_onto c ((split_of cs).lines) ((split_of cs).tail)).tail
joined_by c cs true e h = let same : c ≡ 10 = eqb-true c 10 e in ap (λ x. x ∷ cs) same ∙ ap (λ bs. 10 ∷ bs) h
joined_by c cs false e h = ap (λ bs. c ∷ bs) h ∙ sym (joined_byte c ((split_of cs).lines) ((split_of cs).tail))

pub split_joins : (bytes : List ℕ) → bytes ≡ with_line_feeds ((split_of bytes).lines) ++ (split_of bytes).tail
split_joins [] = refl
split_joins (c ∷ cs) = joined_by c cs (c == 10) refl (split_joins cs)

-- ---- bytes, and the place of a line feed

pub bytes_take : (n : ℕ) (bytes : List ℕ) → AreBytes bytes → AreBytes (take n bytes)
bytes_take zero bytes h = tt
bytes_take (suc n) [] h = tt
bytes_take (suc n) (c ∷ cs) h = (h.0, bytes_take n cs h.1)

pub at_feed : (bytes : List ℕ) (place : ℕ) → place < length bytes → get_or bytes place 0 ≡ 10 → bytes ≡ take place bytes ++ 10
    ∷ drop (suc place) bytes
at_feed [] place h e = absurd (omega arith)
at_feed (c ∷ cs) zero h e = ap (λ x. x ∷ cs) e
at_feed (c ∷ cs) (suc place) h e = ap (λ bs. c ∷ bs) (at_feed cs place (omega arith) e)
