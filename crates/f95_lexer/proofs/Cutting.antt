-- The lines that `bstr` gives are the lines of a text.
use Rattle.std.proofs.Common.{◌≡◌, ℕ, suc, ◌-◌, Bool, true, false, ◌&&◌, ◌==◌, cond, nat_lt, slice_index, List, [], ◌∷◌, length}
use Rattle.std.proofs.Common.{take, drop, map, refl, sym, ap, ◌∙◌, arith}
use Rattle.std.proofs.lemmas.Bool.Decides.{nat_tests}
use Rattle.a95_base.proofs.Tests.{and-false}
use Rattle.bstr.specs.Text.{line_len, no_cr, without_terminator}
use Rattle.bstr.specs.Text as bstr
use Rattle.bstr.proofs.lemmas.LineLemmas.{lines-nil, lines-step}
use Rattle.f95_lexer.specs.Lines.{onto, begins_with_feed, text_lines}

-- the first line of what doesn't begin with a line feed, one character in front
longer : (c : ℕ) (cs : List ℕ)
    → take (suc (line_len cs)) (c ∷ cs) ∷ bstr.lines_of (drop (line_len cs) cs) ≡ onto c (bstr.lines_of cs)
unfolding line_len
longer c [] = ap (λ l. (c ∷ []) ∷ l) lines-nil ∙ ap (onto c) (sym lines-nil)
longer c (d ∷ ds) = ap (onto c) (sym (lines-step (d ∷ ds) (omega arith)))

by_feed : (c : ℕ) (cs : List ℕ) (b : Bool) → line_len (c ∷ cs) ≡ cond b 1 (suc (line_len cs))
    → bstr.lines_of (c ∷ cs) ≡ cond b ((c ∷ []) ∷ bstr.lines_of cs) (onto c (bstr.lines_of cs))
by_feed c cs true e = lines-step (c ∷ cs) (omega arith) ∙ ap (λ k. take k (c ∷ cs) ∷ bstr.lines_of (drop k (c ∷ cs))) e
by_feed c cs false e =
    lines-step (c ∷ cs) (omega arith) ∙ ap (λ k. take k (c ∷ cs) ∷ bstr.lines_of (drop k (c ∷ cs))) e ∙ longer c cs

-- one more character in front, by the test for a line feed
step : (c : ℕ) (cs : List ℕ) → bstr.lines_of (c ∷ cs) ≡ cond (c == 10) ((c ∷ []) ∷ bstr.lines_of cs) (onto c (bstr.lines_of cs))
unfolding line_len
step c cs = by_feed c cs (c == 10) refl

-- whether e is the last byte, and the bytes without the last
abbrev ends_in : ℕ → List ℕ → Bool
ends_in e bs = nat_lt 0 (length bs) && slice_index bs (length bs - 1) == e

abbrev shorter : List ℕ → List ℕ
shorter bs = take (length bs - 1) bs

some : (n : ℕ) → nat_lt 0 (suc n) ≡ true
some n = grind (arith, nat_tests)

less_two : (n : ℕ) → suc (suc n) - 1 ≡ suc n
less_two n = omega arith

less_one : (n : ℕ) → suc n - 1 ≡ n
less_one n = omega arith

ends_in-cons : (e c d : ℕ) (ys : List ℕ) → ends_in e (c ∷ d ∷ ys) ≡ ends_in e (d ∷ ys)
ends_in-cons e c d ys =
    let n = length ys in
    ap (λ t. t && slice_index (c ∷ d ∷ ys) (suc (suc n) - 1) == e) (some (suc n) ∙ sym (some n))
    ∙ ap (λ k. nat_lt 0 (suc n) && slice_index (c ∷ d ∷ ys) k == e) (less_two n)
    ∙ ap (λ k. nat_lt 0 (suc n) && slice_index (d ∷ ys) k == e) (sym (less_one n))

shorter-cons : (c d : ℕ) (ys : List ℕ) → shorter (c ∷ d ∷ ys) ≡ c ∷ shorter (d ∷ ys)
shorter-cons c d ys =
    let n = length ys in
    ap (λ k. take k (c ∷ d ∷ ys)) (less_two n) ∙ ap (λ k. c ∷ take k (d ∷ ys)) (sym (less_one n))

cond-cons : (b : Bool) (c : ℕ) (xs ys : List ℕ) → cond b (c ∷ xs) (c ∷ ys) ≡ c ∷ cond b xs ys
cond-cons true c xs ys = refl
cond-cons false c xs ys = refl

no_cr-cons : (c d : ℕ) (ys : List ℕ) → no_cr (c ∷ d ∷ ys) ≡ c ∷ no_cr (d ∷ ys)
no_cr-cons c d ys =
    ap (λ t. cond t (shorter (c ∷ d ∷ ys)) (c ∷ d ∷ ys)) (ends_in-cons 13 c d ys)
    ∙ ap (λ s. cond (ends_in 13 (d ∷ ys)) s (c ∷ d ∷ ys)) (shorter-cons c d ys)
    ∙ cond-cons (ends_in 13 (d ∷ ys)) c (shorter (d ∷ ys)) (d ∷ ys)

-- without the line feed and a carriage return before it, a character further in front of what doesn't begin with the line feed
trimmed-cons : (c d : ℕ) (ys : List ℕ) → d == 10 ≡ false → without_terminator (c ∷ d ∷ ys) ≡ c ∷ without_terminator (d ∷ ys)
trimmed-cons c d [] other =
    ap (λ t. cond t (no_cr (c ∷ [])) (c ∷ d ∷ [])) other ∙ sym (ap (λ t. c ∷ cond t (no_cr []) (d ∷ [])) other)
trimmed-cons c d (e ∷ zs) other =
    ap (λ t. cond t (no_cr (shorter (c ∷ d ∷ e ∷ zs))) (c ∷ d ∷ e ∷ zs)) (ends_in-cons 10 c d (e ∷ zs))
    ∙ ap (λ s. cond (ends_in 10 (d ∷ e ∷ zs)) s (c ∷ d ∷ e ∷ zs))
    (ap no_cr (shorter-cons c d (e ∷ zs) ∙ ap (λ s. c ∷ s) (shorter-cons d e zs))
    ∙ no_cr-cons c d (shorter (e ∷ zs)) ∙ ap (λ s. c ∷ no_cr s) (sym (shorter-cons d e zs)))
    ∙ cond-cons (ends_in 10 (d ∷ e ∷ zs)) c (no_cr (shorter (d ∷ e ∷ zs))) (d ∷ e ∷ zs)

trimmed-onto : (c d : ℕ) (ss : List (List ℕ)) → d == 10 ≡ false
    → map without_terminator (onto c (onto d ss)) ≡ onto c (map without_terminator (onto d ss))
trimmed-onto c d [] other = ap (λ s. s ∷ []) (trimmed-cons c d [] other)
trimmed-onto c d (s ∷ ss) other = ap (λ s. s ∷ map without_terminator ss) (trimmed-cons c d s other)

abbrev trimmed : List ℕ → List (List ℕ)
trimmed bs = map without_terminator (bstr.lines_of bs)

-- a line feed alone, and a line of one character before the line feed
feed_alone : (d : ℕ) → d == 10 ≡ true → without_terminator (d ∷ []) ≡ []
feed_alone d feed = ap (λ t. cond t (no_cr []) (d ∷ [])) feed

one_before : (c d : ℕ) → d == 10 ≡ true → without_terminator (c ∷ d ∷ []) ≡ cond (c == 13) [] (c ∷ [])
one_before c d feed = ap (λ t. cond t (no_cr (c ∷ [])) (c ∷ d ∷ [])) feed

pick : (b : Bool) (c : ℕ) (rest : List (List ℕ)) → cond b [] (c ∷ []) ∷ rest ≡ cond (b && true) ([] ∷ rest) (onto c ([] ∷ rest))
pick true c rest = refl
pick false c rest = refl

before : (c d : ℕ) (ds : List ℕ) (b : Bool) → d == 10 ≡ b
    → map without_terminator (onto c (bstr.lines_of (d ∷ ds)))
    ≡ cond (c == 13 && d == 10) (trimmed (d ∷ ds)) (onto c (trimmed (d ∷ ds)))
before c d ds true feed =
    let lines : bstr.lines_of (d ∷ ds) ≡ (d ∷ []) ∷ bstr.lines_of ds =
    step d ds ∙ ap (λ t. cond t ((d ∷ []) ∷ bstr.lines_of ds) (onto d (bstr.lines_of ds))) feed in
    let rest = trimmed ds in
    let after : trimmed (d ∷ ds) ≡ [] ∷ rest = ap (map without_terminator) lines ∙ ap (λ s. s ∷ rest) (feed_alone d feed) in
    ap (λ l. map without_terminator (onto c l)) lines ∙ ap (λ s. s ∷ rest) (one_before c d feed) ∙ pick (c == 13) c rest
    ∙ ap (λ t. cond (c == 13 && t) ([] ∷ rest) (onto c ([] ∷ rest))) (sym feed)
    ∙ ap (λ l. cond (c == 13 && d == 10) l (onto c l)) (sym after)
before c d ds false other =
    let lines : bstr.lines_of (d ∷ ds) ≡ onto d (bstr.lines_of ds) =
    step d ds ∙ ap (λ t. cond t ((d ∷ []) ∷ bstr.lines_of ds) (onto d (bstr.lines_of ds))) other in
    ap (λ l. map without_terminator (onto c l)) lines ∙ trimmed-onto c d (bstr.lines_of ds) other
    ∙ ap (λ l. onto c (map without_terminator l)) (sym lines)
    ∙ sym (ap (λ t. cond t (trimmed (d ∷ ds)) (onto c (trimmed (d ∷ ds)))) (ap (λ t. c == 13 && t) other ∙ and-false (c == 13)))

-- a character that is no line feed
in_line : (c : ℕ) (cs : List ℕ) → c == 10 ≡ false
    → map without_terminator (onto c (bstr.lines_of cs)) ≡ cond (c == 13 && begins_with_feed cs) (trimmed cs) (onto c (trimmed cs))
in_line c [] other =
    ap (λ l. map without_terminator (onto c l)) lines-nil ∙ ap (λ t. cond t (no_cr []) (c ∷ []) ∷ []) other
    ∙ ap (λ l. onto c (map without_terminator l)) (sym lines-nil)
    ∙ sym (ap (λ t. cond t (trimmed []) (onto c (trimmed []))) (and-false (c == 13)))
in_line c (d ∷ ds) other = before c d ds (d == 10) refl

by_character : (c : ℕ) (cs : List ℕ) (b : Bool) → c == 10 ≡ b → trimmed cs ≡ text_lines cs
    → trimmed (c ∷ cs)
    ≡ cond b ([] ∷ text_lines cs) (cond (c == 13 && begins_with_feed cs) (text_lines cs) (onto c (text_lines cs)))
by_character c cs true feed rest =
    ap (map without_terminator) (step c cs ∙ ap (λ t. cond t ((c ∷ []) ∷ bstr.lines_of cs) (onto c (bstr.lines_of cs))) feed)
    ∙ ap (λ s. s ∷ trimmed cs) (feed_alone c feed) ∙ ap (λ l. [] ∷ l) rest
by_character c cs false other rest =
    ap (map without_terminator) (step c cs ∙ ap (λ t. cond t ((c ∷ []) ∷ bstr.lines_of cs) (onto c (bstr.lines_of cs))) other)
    ∙ in_line c cs other ∙ ap (λ l. cond (c == 13 && begins_with_feed cs) l (onto c l)) rest

pub lines_are : (bs : List ℕ) → map without_terminator (bstr.lines_of bs) ≡ text_lines bs
lines_are [] = ap (map without_terminator) lines-nil
lines_are (c ∷ cs) = by_character c cs (c == 10) refl (lines_are cs)
