-- How far a text was read, and what each end of the reading says.
use Rattle.std.proofs.Common.{◌≡◌, ℕ, zero, suc, min, ◌+◌, ◌-◌, ◌<◌, ◌≤◌, ◌^◌, ◌==◌, Bool, true, false, nat_lt, List, [], ◌∷◌, ◌++◌}
use Rattle.std.proofs.Common.{map, length, take, drop, codes, Option, Some, None, refl, sym, ◌∙◌, ap, subst, arith, append_assoc}
use Rattle.std.proofs.Common.{append-nil, length-append, length-drop}
use Rattle.std.specs.List.{AllByRecursion}
use Rattle.std.proofs.lemmas.Bool.Decides.{nat_tests}
use Rattle.loop_tree.specs.declared.atom.Letter.{Letter}
use Rattle.loop_tree.specs.declared.tree.Stmt.{Stmt}
use Rattle.loop_tree.specs.declared.tree.CodeLine.{CodeLine}
use Rattle.loop_tree.specs.declared.tree.CodeLine.TheVariants as code
use Rattle.loop_tree.specs.declared.tree.Function.{Function}
use Rattle.loop_tree.specs.Lines.{lines_of}
use Rattle.loop_tree.specs.Text.{spell, function_head, function_lines, functions_lines, text_lines, with_line_feeds}
use Rattle.loop_tree.specs.Program.{FitsLine, IsProgram, ReadsText}
use Rattle.loop_tree.proofs.Bodies.{fit_both}
use Rattle.loop_text.specs.declared.level.Level.{Level}
use Rattle.loop_text.specs.declared.reader.Reader.{Reader}
use Rattle.loop_text.specs.declared.reading.NoText.{NoText}
use Rattle.loop_text.specs.declared.reading.NoText.TheVariants as no_text
use Rattle.loop_text.specs.Reader.{Took, may_begin, accept, accept_in, reads, nothing_read, is_text}
use Rattle.loop_text.specs.Refused.{Split, is_one_line, IsLineOf, split_of, BeginsText, IsRefusedAt, Refuses, OneProgram, OneLine}
use Rattle.loop_text.proofs.Completes.{reads-append, spell-append}
use Rattle.loop_text.proofs.WholeText.{outside, text_read}
use Rattle.loop_text.proofs.Fits.{AreBytes, bytes_drop}
use Rattle.loop_text.proofs.Levels.{lines_in, close_all, closings, flats-close_all, some_leaves-close_all, depths-close_all}
use Rattle.loop_text.proofs.Reached.{SoFar, IsOpen, Reached, at_start, between, inside, one_more, so_far_more, functions_more}
use Rattle.loop_text.proofs.Split.{line_first, only_tail, split_of_text, split_joins, at_feed, bytes_take}

-- ---- what was read begins a text

-- the least program
abbrev empty_main : Function
empty_main = record { parameters = []; body = [] }

least_is : IsProgram (empty_main ∷ [])
least_is =
    record {
      some = omega arith;
      count = omega arith;
      main = refl;
      each =
          (record { parameters = omega arith; numbers = tt; loops = refl; braces = omega arith }, tt);
    }

closings_fit : (ls : List Level) → AllByRecursion FitsLine (closings ls)
closings_fit [] = tt
closings_fit (level ∷ ls) = (tt, closings_fit ls)

-- every open brace closed
all_closed : (ls : List Level) (body : List Stmt) → IsOpen ls body → IsOpen [] (close_all ls body)
all_closed ls body is = record {
  numbers = subst (AllByRecursion FitsLine) (sym (flats-close_all ls body))
      (fit_both (lines_in ls body) (closings ls) is.numbers (closings_fit ls));
  loops = some_leaves-close_all ls body ∙ is.loops;
  braces = subst (λ d. d + 1 ≤ 1000) (sym (depths-close_all ls body)) is.braces;
}

inside_begins : (fs : List Function) (ps : List Letter) (ls : List Level) (body : List Stmt) (lines : List (List ℕ)) → SoFar fs →
    may_begin (length fs) (length ps) ≡ true → IsOpen ls body →
    lines ≡ codes "/* LoopC 1 */" ∷ (functions_lines 0 fs ++ function_head (length fs) ps ∷ map spell (lines_in ls body)) →
    BeginsText lines
inside_begins fs ps ls body lines so may is e =
    let f : Function = record { parameters = ps; body = close_all ls body } in
    let whole = so_far_more fs ps (close_all ls body) so may (all_closed ls body is) in
    let rest : List CodeLine = closings ls ++ code.Close ∷ [] in
    let before : List (List ℕ) = codes "/* LoopC 1 */" ∷ functions_lines 0 fs in
    let number : 0 + length fs ≡ length fs = omega arith in
    let body_lines : lines_of f ≡ lines_in ls body ++ rest = ap (λ ls'. ls' ++ code.Close ∷ []) (flats-close_all ls body)
    ∙ append_assoc (lines_in ls body) (closings ls) (code.Close ∷ []) in
    let all : text_lines (fs ++ f ∷ []) ≡ before ++ function_head (length fs) ps
    ∷ (map spell (lines_in ls body) ++ map spell rest) =
    ap (λ ls'. codes "/* LoopC 1 */" ∷ ls') (functions_more 0 fs f)
    ∙ (ap (λ k. before ++ function_lines k f) number ∙ ap (λ ls'. before ++ function_head (length fs) ps ∷ ls')
    (ap (map spell) body_lines ∙ spell-append (lines_in ls body) rest)) in
    record {
      program = fs ++ f ∷ [];
      more = map spell rest;
      is_program =
          record { some = omega (arith, length-append fs (f ∷ [])); count = whole.count; main = whole.main; each = whole.each };
      begins = all
          ∙ (sym (append_assoc before (function_head (length fs) ps ∷ map spell (lines_in ls body)) (map spell rest))
          ∙ ap (λ ls'. ls' ++ map spell rest) (sym e));
    }

between_begins : (fs : List Function) (lines : List (List ℕ)) → SoFar fs → lines ≡ text_lines fs → BeginsText lines
between_begins [] lines so e =
    record {
      program = empty_main ∷ [];
      more = functions_lines 0 (empty_main ∷ []);
      is_program = least_is;
      begins =
          ap (λ ls. ls ++ functions_lines 0 (empty_main ∷ [])) (sym e);
    }
between_begins (f ∷ fs) lines so e =
    record {
      program = f ∷ fs;
      more = [];
      is_program = record
          { some = omega arith; count = so.count; main = so.main; each = so.each };
      begins = sym (append-nil (text_lines (f ∷ fs)))
          ∙ ap (λ ls. ls ++ []) (sym e);
    }

begins_text : (r : Reader) (lines : List (List ℕ)) → Reached r lines → BeginsText lines
begins_text r lines (at_start e f) =
    record {
      program = empty_main ∷ [];
      more = text_lines (empty_main ∷ []);
      is_program = least_is;
      begins =
          ap (λ ls. ls ++ text_lines (empty_main ∷ [])) (sym f);
    }
begins_text r lines (between fs so e f) = between_begins fs lines so f
begins_text r lines (inside fs ps ls body so may is e f) = inside_begins fs ps ls body lines so may is f

-- ---- progress

-- so many lines of the bytes were read, and the rest is left
pub record Progress (bytes rest : List ℕ) (n : ℕ) (r : Reader) : Type 0 where
  pub lines : (split_of rest).lines ≡ drop n ((split_of bytes).lines)
  pub tail : (split_of rest).tail ≡ (split_of bytes).tail
  pub count : n ≤ length ((split_of bytes).lines)
  pub room : n + length rest ≤ length bytes
  pub are : AreBytes rest
  pub reached : Reached r (take n ((split_of bytes).lines))
  pub read : reads (Some nothing_read) (take n ((split_of bytes).lines)) ≡ Some r

first_of : (rest : List ℕ) (end : ℕ) → IsLineOf rest end → split_of rest
    ≡ record { lines = take end rest ∷ (split_of (drop (suc end) rest)).lines; tail = (split_of (drop (suc end) rest)).tail }
first_of rest end is = ap split_of (at_feed rest end is.within is.feed) ∙ line_first (take end rest) (drop (suc end) rest) is.line

-- where x stands behind n items of a list
record Stands {A : Type 0} (n : ℕ) (xs : List A) (x : A) (more : List A) : Type 0 where
  taken : take (suc n) xs ≡ take n xs ++ x ∷ []
  dropped : drop (suc n) xs ≡ more
  within : n < length xs

stands : {A : Type 0} (n : ℕ) (xs : List A) (x : A) (more : List A) → drop n xs ≡ x ∷ more → Stands n xs x more
stands zero [] x more e = absurd cc
stands zero (y ∷ ys) x more e = let same : y ≡ x = cc in record
    { taken = ap (λ z. z ∷ []) same; dropped = cc; within = omega arith }
stands (suc n) [] x more e = absurd cc
stands (suc n) (y ∷ ys) x more e = let h = stands n ys x more e in
    record { taken = ap (λ zs. y ∷ zs) h.taken; dropped = h.dropped; within = omega (arith, h.within) }

whole : {A : Type 0} (n : ℕ) (xs : List A) → xs ≡ take n xs ++ drop n xs
whole zero xs = refl
whole (suc n) [] = refl
whole (suc n) (x ∷ xs) = ap (λ ys. x ∷ ys) (whole n xs)

-- the line that comes next
next_stands : (bytes rest : List ℕ) (n end : ℕ) (r : Reader) → Progress bytes rest n r → IsLineOf rest end →
    Stands n ((split_of bytes).lines) (take end rest) ((split_of (drop (suc end) rest)).lines)
next_stands bytes rest n end r p is = stands n ((split_of bytes).lines) (take end rest) ((split_of (drop (suc end) rest)).lines)
    (sym p.lines ∙ ap (λ (q : Split). q.lines) (first_of rest end is))

reads_next : (lines : List (List ℕ)) (line : List ℕ) (r : Reader) → reads (Some nothing_read) lines ≡ Some r →
    reads (Some nothing_read) (lines ++ line ∷ []) ≡ accept r line
reads_next lines line r e = reads-append (Some nothing_read) lines (line ∷ []) ∙ ap (λ o. accept_in o line) e

goes_on : (bytes rest : List ℕ) (n end : ℕ) (r next : Reader) → Progress bytes rest n r → IsLineOf rest end →
    accept r (take end rest) ≡ Some next → Progress bytes (drop (suc end) rest) (suc n) next
goes_on bytes rest n end r next p is e =
    let at = next_stands bytes rest n end r p is in
    let lines = (split_of bytes).lines in
    record {
      lines = sym at.dropped;
      tail = sym (ap (λ (q : Split). q.tail) (first_of rest end is)) ∙ p.tail;
      count = omega (arith, at.within);
      room = omega (arith, p.room, length-drop (suc end) rest, is.within);
      are = bytes_drop (suc end) rest p.are;
      reached = subst (λ ls. Reached next ls) (sym at.taken)
          (one_more r next (take n lines) (take end rest) p.reached (bytes_take end rest p.are) e);
      read = ap (reads (Some nothing_read)) at.taken ∙ (reads_next (take n lines) (take end rest) r p.read ∙ e);
    }

took_on : (o : Option Reader) (b : Bool) (next : Reader) → Took o b next → b ≡ true → o ≡ Some next
took_on o true next t e = t
took_on o false next t e = absurd cc

took_none : (o : Option Reader) (b : Bool) (next : Reader) → Took o b next → b ≡ false → o ≡ None
took_none o true next t e = absurd cc
took_none o false next t e = t

pub step_on : (bytes rest line behind : List ℕ) (n end : ℕ) (r next : Reader) (ok : Bool) → Progress bytes rest n r →
    IsLineOf rest end → line ≡ take end rest → Took (accept r line) ok next → ok ≡ true → behind ≡ drop (end + 1) rest →
    Progress bytes behind (n + 1) next
step_on bytes rest line behind n end r next ok p is same took went cut =
    let number : suc n ≡ n + 1 = omega arith in
    let place : end + 1 ≡ suc end = omega arith in
    let accepted : accept r (take end rest) ≡ Some next = ap (accept r) (sym same) ∙ took_on (accept r line) ok next took went in
    subst (λ k. Progress bytes behind k next) number
    (subst (λ bs. Progress bytes bs (suc n) next) (sym (cut ∙ ap (λ k. drop k rest) place))
    (goes_on bytes rest n end r next p is accepted))

-- ---- refused

-- a run that ends in nothing is none of a text
none_stays : (lines : List (List ℕ)) → reads None lines ≡ None
none_stays [] = refl
none_stays (line ∷ lines) = none_stays lines

never_begins : (lines : List (List ℕ)) → reads (Some nothing_read) lines ≡ None → BeginsText lines → ⊥
never_begins lines e b =
    let run : reads (Some nothing_read) (lines ++ b.more) ≡ None = reads-append (Some nothing_read) lines b.more
    ∙ (ap (λ o. reads o b.more) e ∙ none_stays b.more) in
    let text : reads (Some nothing_read) (lines ++ b.more) ≡ Some (outside b.program) =
    ap (reads (Some nothing_read)) (sym b.begins) ∙ text_read b.program b.is_program in
    absurd cc

text_begins : (bytes : List ℕ) (fs : List Function) (n : ℕ) → ReadsText bytes fs → BeginsText (take n ((split_of bytes).lines))
text_begins bytes fs n is =
    record {
      program = fs;
      more = drop n ((split_of bytes).lines);
      is_program = is.program;
      begins =
          sym (ap (λ (q : Split). q.lines) (split_of_text bytes fs is)) ∙ whole n ((split_of bytes).lines);
    }

refused_by : (bytes : List ℕ) (n : ℕ) → n < length ((split_of bytes).lines) → BeginsText (take n ((split_of bytes).lines)) →
    reads (Some nothing_read) (take (suc n) ((split_of bytes).lines)) ≡ None → IsRefusedAt bytes (suc n)
refused_by bytes n h b e =
    let one : suc n - 1 ≡ n = omega arith in
    record {
      counted = omega arith;
      within = omega arith;
      before = subst (λ k. BeginsText (take k ((split_of bytes).lines))) (sym one) b;
      here = λ k begins. never_begins (take (suc n) ((split_of bytes).lines)) e begins;
      no_text = λ fs is. never_begins (take (suc n) ((split_of bytes).lines)) e (text_begins bytes fs (suc n) is);
    }

pub refused_line : (bytes rest : List ℕ) (n end : ℕ) (r : Reader) → Progress bytes rest n r → IsLineOf rest end →
    accept r (take end rest) ≡ None → IsRefusedAt bytes (n + 1)
refused_line bytes rest n end r p is e =
    let at = next_stands bytes rest n end r p is in
    let lines = (split_of bytes).lines in
    let number : suc n ≡ n + 1 = omega arith in
    subst (IsRefusedAt bytes) number
    (refused_by bytes n at.within (begins_text r (take n lines) p.reached)
    (ap (reads (Some nothing_read)) at.taken ∙ (reads_next (take n lines) (take end rest) r p.read ∙ e)))

-- ---- behind the last line

nothing_left : {A : Type 0} (n : ℕ) (xs : List A) → drop n xs ≡ [] → length xs ≤ n
nothing_left n xs e = omega (arith, length-drop n xs, ap length e)

all_taken : {A : Type 0} (n : ℕ) (xs : List A) → drop n xs ≡ [] → take n xs ≡ xs
all_taken n xs e = sym (append-nil (take n xs)) ∙ (ap (λ ys. take n xs ++ ys) (sym e) ∙ sym (whole n xs))

-- every line was read, and what is left is the tail
record AtEnd (bytes rest : List ℕ) (n : ℕ) (r : Reader) : Type 0 where
  number : n ≡ length ((split_of bytes).lines)
  taken : take n ((split_of bytes).lines) ≡ (split_of bytes).lines
  tail : (split_of bytes).tail ≡ rest
  begins : BeginsText (take n ((split_of bytes).lines))

at_end : (bytes rest : List ℕ) (n : ℕ) (r : Reader) → Progress bytes rest n r → is_one_line rest ≡ true → AtEnd bytes rest n r
at_end bytes rest n r p e =
    let lines = (split_of bytes).lines in
    let left : drop n lines ≡ [] = sym p.lines ∙ ap (λ (q : Split). q.lines) (only_tail rest e) in
    record {
      number = omega (arith, p.count, nothing_left n lines left);
      taken = all_taken n lines left;
      tail =
          sym p.tail ∙ ap (λ (q : Split). q.tail) (only_tail rest e);
      begins = begins_text r (take n lines) p.reached;
    }

refused_end : (bytes rest : List ℕ) (n : ℕ) (r : Reader) → AtEnd bytes rest n r → ((fs : List Function) → ReadsText bytes fs → ⊥) →
    IsRefusedAt bytes (n + 1)
refused_end bytes rest n r at never =
    let one : n + 1 - 1 ≡ n = omega arith in
    record {
      counted = omega arith;
      within = omega (arith, at.number);
      before = subst (λ k. BeginsText (take k ((split_of bytes).lines))) (sym one) at.begins;
      here = λ k begins. absurd (omega (arith, at.number));
      no_text = never;
    }

-- something stands behind the last line feed
pub refused_tail : (bytes rest : List ℕ) (n : ℕ) (r : Reader) → Progress bytes rest n r → is_one_line rest ≡ true →
    (rest ≡ [] → ⊥) → IsRefusedAt bytes (n + 1)
refused_tail bytes rest n r p e some =
    let at = at_end bytes rest n r p e in
    refused_end bytes rest n r at (λ fs is. some (sym at.tail ∙ ap (λ (q : Split). q.tail) (split_of_text bytes fs is)))

-- ---- the end of a text

is_text_outside : (fs : List Function) → 0 < length fs → is_text (outside fs) ≡ true
is_text_outside fs h = grind (arith, nat_tests)

-- what was read is no whole text
pub refused_short : (bytes rest : List ℕ) (n : ℕ) (r : Reader) → Progress bytes rest n r → is_one_line rest ≡ true →
    is_text r ≡ false → IsRefusedAt bytes (n + 1)
refused_short bytes rest n r p e short =
    let at = at_end bytes rest n r p e in
    refused_end bytes rest n r at (λ fs is.
    let read : reads (Some nothing_read) (take n ((split_of bytes).lines)) ≡ Some (outside fs) =
    ap (reads (Some nothing_read)) (at.taken ∙ ap (λ (q : Split). q.lines) (split_of_text bytes fs is))
    ∙ text_read fs is.program in
    let same : r ≡ outside fs = cc (read, p.read) in
    let text : is_text r ≡ true = ap is_text same ∙ is_text_outside fs is.program.some in
    absurd cc)

found_between : (r : Reader) (fs : List Function) (bytes : List ℕ) → SoFar fs → r ≡ outside fs → is_text r ≡ true →
    bytes ≡ with_line_feeds (text_lines fs) → ReadsText bytes r.functions
found_between r fs bytes so e text same =
    let some : 0 < length fs = some_of fs (sym (ap is_text e) ∙ text) in
    let functions : r.functions ≡ fs = ap (λ (x : Reader). x.functions) e in
    subst (λ gs. ReadsText bytes gs) (sym functions)
    (record { text = same; program = record { some = some; count = so.count; main = so.main; each = so.each } }) where
      some_of : (fs : List Function) → is_text (outside fs) ≡ true → 0 < length fs
      some_of [] h = absurd cc
      some_of (f ∷ fs) h = omega arith

found_by : (r : Reader) (lines : List (List ℕ)) (bytes : List ℕ) → Reached r lines → is_text r ≡ true →
    bytes ≡ with_line_feeds lines → ReadsText bytes r.functions
found_by r lines bytes (at_start e f) text same = let none : is_text r ≡ false = ap is_text e in absurd cc
found_by r lines bytes (between fs so e f) text same = found_between r fs bytes so e text (same ∙ ap with_line_feeds f)
found_by r lines bytes (inside fs ps ls body so may is e f) text same = let none : is_text r ≡ false = ap is_text e in absurd cc

-- a whole text was read
pub found : (bytes rest : List ℕ) (n : ℕ) (r : Reader) → Progress bytes rest n r → is_one_line rest ≡ true → rest ≡ [] →
    is_text r ≡ true → ReadsText bytes r.functions
found bytes rest n r p e none text =
    let at = at_end bytes rest n r p e in
    let joined : bytes ≡ with_line_feeds ((split_of bytes).lines) =
    split_joins bytes
    ∙ (ap (λ t. with_line_feeds ((split_of bytes).lines) ++ t) (at.tail ∙ none)
    ∙ append-nil (with_line_feeds ((split_of bytes).lines))) in
    found_by r (take n ((split_of bytes).lines)) bytes p.reached text (joined ∙ ap with_line_feeds (sym at.taken))

-- ---- answers

-- the answer where n lines were read
answered : (bytes : List ℕ) (n : ℕ) (answer : NoText) → IsRefusedAt bytes (n + 1) →
    answer ≡ no_text.At (record { 0 = min (n + 1) (2 ^ 32 - 1) }) → Refuses bytes answer
answered bytes n answer is e = subst (Refuses bytes) (sym e) (record { number = n + 1; refused = is; given = refl })

pub step_refused : (bytes rest line : List ℕ) (n end : ℕ) (r next : Reader) (ok : Bool) (answer : NoText) → Progress bytes rest n r
    → IsLineOf rest end → line ≡ take end rest → Took (accept r line) ok next → ok ≡ false →
    answer ≡ no_text.At (record { 0 = min (n + 1) (2 ^ 32 - 1) }) → Refuses bytes answer
step_refused bytes rest line n end r next ok answer p is same took never e =
    answered bytes n answer
    (refused_line bytes rest n end r p is (ap (accept r) (sym same) ∙ took_none (accept r line) ok next took never)) e

pub tail_refused : (bytes rest : List ℕ) (n : ℕ) (r : Reader) (b : Bool) (answer : NoText) → Progress bytes rest n r →
    is_one_line rest ≡ true → b ≡ (length rest == 0) → b ≡ false → answer ≡ no_text.At (record { 0 = min (n + 1) (2 ^ 32 - 1) }) →
    Refuses bytes answer
tail_refused bytes rest n r b answer p line e f a =
    answered bytes n answer
    (refused_tail bytes rest n r p line
    (λ none. let empty : (length rest == 0) ≡ true = ap (λ bs. length bs == 0) none in absurd cc)) a

pub short_refused : (bytes rest : List ℕ) (n : ℕ) (r : Reader) (b : Bool) (answer : NoText) → Progress bytes rest n r →
    is_one_line rest ≡ true → b ≡ is_text r → b ≡ false → answer ≡ no_text.At (record { 0 = min (n + 1) (2 ^ 32 - 1) }) →
    Refuses bytes answer
short_refused bytes rest n r b answer p line e f a = answered bytes n answer (refused_short bytes rest n r p line (sym e ∙ f)) a

empty_is : (rest : List ℕ) (b : Bool) → b ≡ (length rest == 0) → b ≡ true → rest ≡ []
empty_is [] b e f = refl
empty_is (c ∷ cs) b e f = let none : (length (c ∷ cs) == 0) ≡ false = grind (arith, nat_tests) in absurd cc

pub whole_found : (bytes rest : List ℕ) (n : ℕ) (r : Reader) (none text : Bool) (functions : List Function) →
    Progress bytes rest n r → is_one_line rest ≡ true → none ≡ (length rest == 0) → none ≡ true → text ≡ is_text r → text ≡ true →
    functions ≡ r.functions → ReadsText bytes functions
whole_found bytes rest n r none text functions p line e empty f also same =
    subst (ReadsText bytes) (sym same) (found bytes rest n r p line (empty_is rest none e empty) (sym f ∙ also))

-- ---- one program

pub one_program : OneProgram
one_program bytes fs gs is also =
    let lines : text_lines fs ≡ text_lines gs = ap (λ (q : Split). q.lines)
    (sym (split_of_text bytes fs is) ∙ split_of_text bytes gs also) in
    let both : Some (outside fs) ≡ Some (outside gs) = sym (text_read fs is.program)
    ∙ (ap (reads (Some nothing_read)) lines ∙ text_read gs also.program) in
    let same : outside fs ≡ outside gs = cc in
    ap (λ (x : Reader). x.functions) same

-- ---- one line

take_less : {A : Type 0} (n m : ℕ) (xs : List A) → n ≤ m → take n (take m xs) ≡ take n xs
take_less zero m xs h = refl
take_less (suc n) zero xs h = absurd (omega arith)
take_less (suc n) (suc m) [] h = refl
take_less (suc n) (suc m) (x ∷ xs) h = ap (λ ys. x ∷ ys) (take_less n m xs (omega arith))

-- fewer lines of a text begin it too
begins_less : (n m : ℕ) (lines : List (List ℕ)) → n ≤ m → BeginsText (take m lines) → BeginsText (take n lines)
begins_less n m lines h b =
    let cut : take m lines ≡ take n lines ++ drop n (take m lines) = whole n (take m lines)
    ∙ ap (λ ls. ls ++ drop n (take m lines)) (take_less n m lines h) in
    record {
      program = b.program;
      more = drop n (take m lines) ++ b.more;
      is_program = b.is_program;
      begins = b.begins ∙ (ap (λ ls. ls ++ b.more) cut ∙ append_assoc (take n lines) (drop n (take m lines)) b.more);
    }

none_less : (bytes : List ℕ) (n m : ℕ) → IsRefusedAt bytes n → IsRefusedAt bytes m → n < m → ⊥
none_less bytes n m is also h = is.here (omega (arith, also.within))
    (begins_less n (m - 1) ((split_of bytes).lines) (omega arith) also.before)

same_by : (n m : ℕ) (b c : Bool) → nat_lt n m ≡ b → nat_lt m n ≡ c → (n < m → ⊥) → (m < n → ⊥) → n ≡ m
same_by n m true c e f h k = absurd (h (grind (arith, nat_tests)))
same_by n m false true e f h k = absurd (k (grind (arith, nat_tests)))
same_by n m false false e f h k =
    let one : m ≤ n = grind (arith, nat_tests) in
    let other : n ≤ m = grind (arith, nat_tests) in
    omega arith

pub one_line : OneLine
one_line bytes n m is also = same_by n m (nat_lt n m) (nat_lt m n) refl refl (none_less bytes n m is also)
    (none_less bytes m n also is)
