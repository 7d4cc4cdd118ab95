-- The lines of a text are read in one way, and splicing them gives what they leave and the rules that they break.
use Rattle.std.proofs.Common.{◌≡◌, ℕ, ◌+◌, ◌-◌, Bool, true, false, ◌==◌, cond, List, [], ◌∷◌, ◌++◌, map, Option, Some, None}
use Rattle.std.proofs.Common.{refl, sym, ap, ◌∙◌, subst, inl, ⊎_elim, arith}
use Rattle.std.proofs.lemmas.Bool.Decides.{nat_tests}
use Rattle.a95_base.specs.Lists.{Member}
use Rattle.a95_base.proofs.Lists.{Member-append_left, Member-append_right, Member-append_cases}
use Rattle.a95_base.specs.declared.breaks.Break.{Break}
use Rattle.f95_lexer.specs.declared.splice.Mode.{Mode}
use Rattle.f95_lexer.specs.declared.splice.Mode.TheVariants.{Fresh, Goes, Inside}
use Rattle.f95_lexer.specs.Characters.{from_blank, is_empty, is_comment}
use Rattle.f95_lexer.specs.Continuation.{open_behind, HasBody, Onward, Ended, GoesOn, context, continuation_number}
use Rattle.f95_lexer.specs.Continuation.{StatementLine, begins_with_ampersand, IsAlone, Begins, initial, joined, apart, cut_off}
use Rattle.f95_lexer.specs.Continuation.{IsRead, more, has_semicolon, after, parted, character, characters, BreaksRule, many_lines}
use Rattle.f95_lexer.specs.Continuation.{open_text, no_second}
use Rattle.f95_lexer.specs.Continuation as continuation
use Rattle.a95_base.specs.Rules as refusal
use Rattle.f95_lexer.specs.Limits.{too_many_lines}
use Rattle.a95_base.specs.Breaks.{broken_at}
use Rattle.std.proofs.lemmas.Bool.{eqb-true}
use Rattle.a95_base.proofs.Tests.{and_first}
use Rattle.f95_lexer.specs.Splicing.{Spliced, put, fortieth, all_broken, scan, begun, line_read}
use Rattle.f95_lexer.specs.Splicing as splicing
use Rattle.f95_lexer.proofs.Bodies.{code_of, body_of, continued_of, ends_here, has_body, body_is, IsContext, comment_code}
use Rattle.f95_lexer.proofs.Bodies.{text_code, mode_at, open_break, said, scan_is}
use Rattle.f95_lexer.proofs.Written.{skip, stay}

-- how far the 40th continuation line is ahead
abbrev pub mode_of : Onward → Mode
mode_of Ended = Fresh
mode_of (GoesOn inside from lines) = mode_at inside from (too_many_lines - lines)

-- The rules that a line breaks, as a list.

abbrev four : Onward → ℕ → List Break
four Ended number = []
four (GoesOn inside from lines) number = fortieth number (too_many_lines - lines)

-- by whether the line begins with `&`, and has it alone
abbrev six : Onward → ℕ → Bool → Bool → List Break
six Ended number true only = broken_at number refusal.broken_continuation ∷ []
six Ended number false only = []
six (GoesOn inside from lines) number true true = broken_at number refusal.broken_continuation ∷ []
six (GoesOn inside from lines) number true false = []
six (GoesOn None from lines) number false only = []
six (GoesOn (Some d) from lines) number false only = broken_at from refusal.broken_continuation ∷ []

abbrev five : StatementLine → List Break
five l = cond l.continued [] (open_break l.number (open_behind l.inside l.body))

abbrev breaks_of : StatementLine → Bool → List Break
breaks_of l only = four l.before l.number ++ (six l.before l.number (begins_with_ampersand l.text) only ++ five l)

-- what a line leaves
abbrev pub made : Onward → ℕ → Bool → Bool → List ℕ → Option ℕ → List ℕ → Bool → Spliced
made before number ampersand only lead inside body continued = record {
  text = map (λ c. character c number) (lead ++ (parted inside body ++ cond continued [] (10 ∷ [])));
  breaks =
      four before number ++ (six before number ampersand only ++ cond continued [] (open_break number (open_behind inside body)));
  mode = mode_of
      (cond continued
      (GoesOn (open_behind inside body) number (cond (has_semicolon inside body) 0 (continuation_number before))) Ended);
}

abbrev result : StatementLine → Bool → Spliced
result l only = made l.before l.number (begins_with_ampersand l.text) only l.lead l.inside l.body l.continued

-- what goes on behind a body
body_mode : (shut : Option ℕ) (number lines : ℕ) (continued semicolon : Bool) →
    cond continued (mode_at shut number (cond semicolon too_many_lines (too_many_lines - lines))) Fresh
    ≡ mode_of (cond continued (GoesOn shut number (cond semicolon 0 lines)) Ended)
body_mode shut number lines false semicolon = refl
body_mode shut number lines true true = refl
body_mode shut number lines true false = refl

one_less : (lines : ℕ) → too_many_lines - lines - 1 ≡ too_many_lines - (lines + 1)
one_less lines = omega arith

-- the rest of a line that has a body, outside of texts or inside of one, behind its lead
body_said : (inside : Option ℕ) (number lines : ℕ) (rest body : List ℕ) (continued : Bool) → IsContext inside
    → HasBody inside rest body continued →
    scan inside number (too_many_lines - lines) rest ≡ record {
      text = map (λ c. character c number) (parted inside body ++ cond continued [] (10 ∷ []));
      breaks = cond continued [] (open_break number (open_behind inside body));
      mode = mode_of (cond continued (GoesOn (open_behind inside body) number (cond (has_semicolon inside body) 0 lines)) Ended);
    }
body_said inside number lines rest body continued h b =
    let is = body_is inside rest body continued b in
    scan_is inside number (too_many_lines - lines) rest h
    ∙ ap (λ k. said inside number (too_many_lines - lines) k (continued_of (code_of inside rest))) (sym is.0)
    ∙ ap (λ k. said inside number (too_many_lines - lines) body k) (sym is.1)
    ∙ ap (λ (m : Mode). record {
      text = map (λ c. character c number) (parted inside body ++ cond continued [] (10 ∷ []));
      breaks = cond continued [] (open_break number (open_behind inside body));
      mode = m;
    }) (body_mode (open_behind inside body) number lines continued (has_semicolon inside body))

-- nothing but an `&`, by the tests of splicing
abbrev is_alone : Option ℕ → List ℕ → Bool
is_alone None rest = is_comment (from_blank rest)
is_alone (Some d) rest = is_empty (from_blank rest)

alone_test : (inside : Option ℕ) (rest : List ℕ) → IsContext inside → ends_here 38 (code_of inside rest) ≡ is_alone inside rest
alone_test None rest h = comment_code rest
alone_test (Some d) rest h = text_code d rest h

-- the code of a text that begins with an `&`
ampersand_code : (inside : Option ℕ) (rest : List ℕ) → IsContext inside → code_of inside (38 ∷ rest) ≡ 38 ∷ code_of inside rest
ampersand_code None rest h = refl
ampersand_code (Some d) rest h =
    let other : 38 == d ≡ false = grind (arith, nat_tests) in
    ap (λ t. 38 ∷ code_of (cond t None (Some d)) rest) other

alone_body : (inside : Option ℕ) (rest : List ℕ) → IsContext inside → is_alone inside rest ≡ true
    → HasBody inside (38 ∷ rest) [] true
alone_body inside rest h e =
    let code = ampersand_code inside rest h in
    let test = alone_test inside rest h ∙ e in
    subst (λ b. HasBody inside (38 ∷ rest) b true) (ap body_of code ∙ stay (ends_here 38 (code_of inside rest)) _ _ test)
    (subst (λ b. HasBody inside (38 ∷ rest) (body_of (code_of inside (38 ∷ rest))) b) (ap continued_of code
    ∙ stay (ends_here 38 (code_of inside rest)) _ _ test)
    (has_body inside (38 ∷ rest)))

-- a text with an `&` alone begins with it
record HasAmpersand (inside : Option ℕ) (text : List ℕ) : Type 0 where
  rest : List ℕ
  is : text ≡ 38 ∷ rest
  test : is_alone inside rest ≡ true

no_cons : (c : ℕ) (cs : List ℕ) → [] ≡ c ∷ cs → ⊥
no_cons c cs e = cc

no_code : (inside : Option ℕ) → HasBody inside [] [] true → ⊥
no_code inside h = let e = (body_is inside [] [] true h).1 in cc

code_begins : (inside : Option ℕ) (c : ℕ) (cs : List ℕ) → c == 33 ≡ false
    → code_of inside (c ∷ cs) ≡ c ∷ code_of (open_behind inside (c ∷ [])) cs
code_begins None c cs e = skip (c == 33) _ _ _ e refl
code_begins (Some d) c cs e = refl

alone_is : (inside : Option ℕ) (c : ℕ) (cs : List ℕ) → IsContext inside → c == 33 ≡ false → HasBody inside (c ∷ cs) [] true
    → HasAmpersand inside (c ∷ cs)
alone_is inside c cs h no_comment b =
    let is = body_is inside (c ∷ cs) [] true b in
    let code = code_begins inside c cs no_comment in
    let rest = code_of (open_behind inside (c ∷ [])) cs in
    let test : ends_here c rest ≡ true = by_test (ends_here c rest) refl (is.0 ∙ ap body_of code) in
    let same : c ≡ 38 = eqb-true c 38 (and_first (c == 38) (is_empty (from_blank rest)) test) in
    let here : ends_here 38 (code_of inside cs) ≡ true =
    subst (λ l. ends_here 38 l
    ≡ true) (rest_is same) (subst (λ x. ends_here x (code_of (open_behind inside (x ∷ [])) cs) ≡ true) same test) in
    record { rest = cs; is = ap (λ x. x ∷ cs) same; test = sym (alone_test inside cs h) ∙ here }
  where
    by_test : (b : Bool) → ends_here c (code_of (open_behind inside (c ∷ [])) cs) ≡ b
        → [] ≡ cond b [] (c ∷ body_of (code_of (open_behind inside (c ∷ [])) cs))
        → ends_here c (code_of (open_behind inside (c ∷ [])) cs) ≡ true
    by_test true e k = e
    by_test false e k = absurd (no_cons _ _ k)

    behind : (o : Option ℕ) → IsContext o → open_behind o (38 ∷ []) ≡ o
    behind None k = refl
    behind (Some d) k = let other : 38 == d ≡ false = grind (arith, nat_tests) in ap (λ t. cond t None (Some d)) other

    rest_is : c ≡ 38 → code_of (open_behind inside (38 ∷ [])) cs ≡ code_of inside cs
    rest_is same = ap (λ o. code_of o cs) (behind inside h)

-- One line, by how it begins: an `&` alone, or more.

line_begun : (m : Mode) (line c : ℕ) (cs : List ℕ) → c == 33 ≡ false → line_read m line (c ∷ cs) ≡ begun m line c cs
line_begun m line c cs e = skip (c == 33) _ _ _ e refl

alone_line : (before : Onward) (number : ℕ) (rest : List ℕ) → is_alone (context before) rest ≡ true →
    line_read (mode_of before) number (38 ∷ rest) ≡ record {
      text = [];
      breaks = four before number ++ (six before number true true ++ []);
      mode = mode_of (GoesOn (context before) number (continuation_number before));
    }
alone_line Ended number rest e =
    ap (λ b. splicing.bad_continuation number
    (cond b (splicing.ends (Goes number too_many_lines)) (scan None number too_many_lines rest))) e
alone_line (GoesOn None from lines) number rest e =
    ap (λ b. all_broken (fortieth number (too_many_lines - lines))
    (cond b (splicing.bad_continuation number (splicing.ends (Goes number (too_many_lines - lines - 1))))
    (scan None number (too_many_lines - lines - 1) rest))) e
    ∙ ap (λ n. all_broken (fortieth number (too_many_lines - lines))
    (splicing.bad_continuation number (splicing.ends (Goes number n)))) (one_less lines)
alone_line (GoesOn (Some d) from lines) number rest e =
    ap (λ b. all_broken (fortieth number (too_many_lines - lines))
    (cond b (splicing.bad_continuation number (splicing.ends (Inside d number (too_many_lines - lines - 1))))
    (scan (Some d) number (too_many_lines - lines - 1) rest))) e
    ∙ ap (λ n. all_broken (fortieth number (too_many_lines - lines))
    (splicing.bad_continuation number (splicing.ends (Inside d number n)))) (one_less lines)

not_alone : (b : Bool) → (b ≡ true → ⊥) → b ≡ false
not_alone true f = absurd (f refl)
not_alone false f = refl

begun_line : (before : Onward) (number c : ℕ) (cs lead : List ℕ) (inside : Option ℕ) (rest body : List ℕ) (continued : Bool)
    → IsContext (context before) →
    (IsAlone before (c ∷ cs) → ⊥) → Begins before (c ∷ cs) lead inside rest → HasBody inside rest body continued →
    begun (mode_of before) number c cs ≡ made before number (c == 38) false lead inside body continued
begun_line Ended number c cs lead inside rest body continued h other (initial text e) b =
    skip (c == 38) _ _ _ e (body_said None number 0 (c ∷ cs) body continued tt b)
    ∙ sym (ap (λ t. made Ended number t false [] None body continued) e)
begun_line Ended number c cs lead inside rest body continued h other (continuation.continues_nothing same) b =
    let test : is_comment (from_blank cs) ≡ false = not_alone (is_comment (from_blank cs)) (λ k. other (alone_body None cs tt k)) in
    ap (λ t. splicing.bad_continuation number
    (cond t (splicing.ends (Goes number too_many_lines)) (scan None number too_many_lines cs))) test
    ∙ ap (splicing.bad_continuation number) (body_said None number 0 cs body continued tt b)
begun_line (GoesOn None from lines) number c cs lead inside rest body continued h other (joined same k n behind) b =
    let test : is_comment (from_blank cs) ≡ false = not_alone (is_comment (from_blank cs)) (λ k. other (alone_body None cs tt k)) in
    ap (λ t. all_broken (fortieth number (too_many_lines - lines))
    (cond t (splicing.bad_continuation number (splicing.ends (Goes number (too_many_lines - lines - 1))))
    (scan None number (too_many_lines - lines - 1) cs))) test
    ∙ ap (λ n. all_broken (fortieth number (too_many_lines - lines)) (scan None number n cs)) (one_less lines)
    ∙ ap (all_broken (fortieth number (too_many_lines - lines))) (body_said None number (lines + 1) cs body continued tt b)
begun_line (GoesOn None from lines) number c cs lead inside rest body continued h other (apart k n text e) b =
    ap (λ t. all_broken (fortieth number (too_many_lines - lines)) t)
    (skip (c == 38) _ _ _ e (ap (λ n. put 32 number (scan None number n (c ∷ cs))) (one_less lines)
    ∙ ap (put 32 number) (body_said None number (lines + 1) (c ∷ cs) body continued tt b)))
    ∙ sym (ap (λ t. made (GoesOn None from lines) number t false (32 ∷ []) None body continued) e)
begun_line (GoesOn (Some d) from lines) number c cs lead inside rest body continued h other (joined same k n behind) b =
    let test : is_empty (from_blank cs) ≡ false = not_alone (is_empty (from_blank cs)) (λ k. other (alone_body (Some d) cs h k)) in
    ap (λ t. all_broken (fortieth number (too_many_lines - lines))
    (cond t (splicing.bad_continuation number (splicing.ends (Inside d number (too_many_lines - lines - 1))))
    (scan (Some d) number (too_many_lines - lines - 1) cs))) test
    ∙ ap (λ n. all_broken (fortieth number (too_many_lines - lines)) (scan (Some d) number n cs)) (one_less lines)
    ∙ ap (all_broken (fortieth number (too_many_lines - lines))) (body_said (Some d) number (lines + 1) cs body continued h b)
begun_line (GoesOn (Some d) from lines) number c cs lead inside rest body continued h other (cut_off same k n text e) b =
    ap (λ t. all_broken (fortieth number (too_many_lines - lines)) t)
    (skip (c == 38) _ _ _ e
    (ap (λ n. splicing.bad_continuation from (splicing.close number (scan None number n (c ∷ cs)))) (one_less lines)
    ∙ ap (λ s. splicing.bad_continuation from (splicing.close number s))
    (body_said None number (lines + 1) (c ∷ cs) body continued tt b)))
    ∙ sym (ap (λ t. made (GoesOn (Some d) from lines) number t false (10 ∷ []) None body continued) e)

-- The breaks of a line are the rules that it breaks.

-- whether a line has an `&` alone
record IsOnly (l : StatementLine) (only : Bool) : Type 0 where
  yes : only ≡ true → IsAlone l.before l.text
  no : only ≡ false → IsAlone l.before l.text → ⊥
  ampersand : only ≡ true → begins_with_ampersand l.text ≡ true

the_one : (b x : Break) → Member (x ∷ []) b → x ≡ b
the_one b x h = ⊎_elim (λ (e : x ≡ b). e) (λ (k : ⊥). absurd k) h

by_break : (l : StatementLine) (b : Break) (line rule : ℕ) → BreaksRule l line rule → Member (broken_at line rule ∷ []) b
    → BreaksRule l b.line b.rule
by_break l b line rule r h = subst (λ (x : Break). BreaksRule l x.line x.rule) (the_one b (broken_at line rule) h) r

fortieth_is : (lines : ℕ) → too_many_lines - lines == 1 ≡ true → lines + 1 ≡ too_many_lines
fortieth_is lines e = grind (arith, nat_tests)

is_fortieth : (lines : ℕ) → lines + 1 ≡ too_many_lines → too_many_lines - lines == 1 ≡ true
is_fortieth lines e = grind (arith, nat_tests)

four_sound : (l : StatementLine) (before : Onward) (b : Break) → l.before ≡ before → Member (four before l.number) b
    → BreaksRule l b.line b.rule
four_sound l Ended b e h = absurd h
four_sound l (GoesOn inside from lines) b e h = go (too_many_lines - lines == 1) refl h
  where
    go : (t : Bool) → too_many_lines - lines == 1 ≡ t
        → Member (cond t (broken_at l.number refusal.too_many_continuations ∷ []) []) b
        → BreaksRule l b.line b.rule
    go true f k =
        by_break l b l.number refusal.too_many_continuations (many_lines (ap continuation_number e ∙ fortieth_is lines f)) k
    go false f k = absurd k

six_sound : (l : StatementLine) (only : Bool) (before : Onward) (m : Bool) (b : Break) → IsOnly l only → l.before ≡ before
    → begins_with_ampersand l.text ≡ m → Member (six before l.number m only) b → BreaksRule l b.line b.rule
six_sound l only Ended true b v e f h = by_break l b l.number refusal.broken_continuation (continuation.continues_nothing e f) h
six_sound l only Ended false b v e f h = absurd h
six_sound l true (GoesOn inside from lines) true b v e f h =
    by_break l b l.number refusal.broken_continuation (continuation.alone (v.yes refl)) h
six_sound l false (GoesOn inside from lines) true b v e f h = absurd h
six_sound l only (GoesOn None from lines) false b v e f h = absurd h
six_sound l only (GoesOn (Some d) from lines) false b v e f h =
    by_break l b from refusal.broken_continuation (no_second d from lines e f) h

five_sound : (l : StatementLine) (continued : Bool) (shut : Option ℕ) (b : Break) → l.continued ≡ continued
    → open_behind l.inside l.body ≡ shut → Member (cond continued [] (open_break l.number shut)) b → BreaksRule l b.line b.rule
five_sound l true shut b e f h = absurd h
five_sound l false None b e f h = absurd h
five_sound l false (Some d) b e f h = by_break l b l.number refusal.open_text (open_text d e f) h

sound : (l : StatementLine) (only : Bool) (b : Break) → IsOnly l only → Member (breaks_of l only) b → BreaksRule l b.line b.rule
sound l only b v h = ⊎_elim
    (λ (x : Member (four l.before l.number) b). four_sound l l.before b refl x)
    (λ (x : Member (six l.before l.number (begins_with_ampersand l.text) only ++ five l) b). ⊎_elim
    (λ (y : Member (six l.before l.number (begins_with_ampersand l.text) only) b). six_sound l only l.before
    (begins_with_ampersand l.text) b v refl refl y)
    (λ (y : Member (five l) b). five_sound l l.continued (open_behind l.inside l.body) b refl refl y)
    (Member-append_cases (six l.before l.number (begins_with_ampersand l.text) only) (five l) b x))
    (Member-append_cases (four l.before l.number) (six l.before l.number (begins_with_ampersand l.text) only ++ five l) b h)

four_complete : (before : Onward) (number : ℕ) → continuation_number before ≡ too_many_lines
    → Member (four before number) (broken_at number refusal.too_many_continuations)
four_complete Ended number e = cc
four_complete (GoesOn inside from lines) number e =
    subst
    (λ t. Member (cond t (broken_at number refusal.too_many_continuations ∷ []) [])
    (broken_at number refusal.too_many_continuations)) (sym (is_fortieth lines e)) (inl refl)

six_alone : (before : Onward) (number : ℕ) → Member (six before number true true) (broken_at number refusal.broken_continuation)
six_alone Ended number = inl refl
six_alone (GoesOn inside from lines) number = inl refl

complete : (l : StatementLine) (only : Bool) (line rule : ℕ) → IsOnly l only → BreaksRule l line rule
    → Member (breaks_of l only) (broken_at line rule)
complete l only line rule v (many_lines e) = Member-append_left (four l.before l.number) _ _ (four_complete l.before l.number e)
complete l only line rule v (open_text d e f) =
    Member-append_right (four l.before l.number) _ _
    (Member-append_right (six l.before l.number (begins_with_ampersand l.text) only) (five l) _
    (subst (λ t. Member (cond t [] (open_break l.number (open_behind l.inside l.body))) (broken_at l.number refusal.open_text))
    (sym e)
    (subst (λ o. Member (open_break l.number o) (broken_at l.number refusal.open_text)) (sym f) (inl refl))))
complete l only line rule v (continuation.alone h) =
    Member-append_right (four l.before l.number) _ _
    (Member-append_left (six l.before l.number (begins_with_ampersand l.text) only) (five l) _ (by_only only v refl))
  where
    by_only : (o : Bool) → IsOnly l o → o ≡ only
        → Member (six l.before l.number (begins_with_ampersand l.text) only) (broken_at l.number refusal.broken_continuation)
    by_only true w same =
        subst (λ m. Member (six l.before l.number m only) (broken_at l.number refusal.broken_continuation)) (sym (w.ampersand refl))
        (subst (λ o. Member (six l.before l.number true o) (broken_at l.number refusal.broken_continuation)) same
        (six_alone l.before l.number))
    by_only false w same = absurd (w.no refl h)
complete l only line rule v (continuation.continues_nothing e f) =
    Member-append_right (four l.before l.number) _ _
    (Member-append_left (six l.before l.number (begins_with_ampersand l.text) only) (five l) _
    (subst (λ x. Member (six x l.number (begins_with_ampersand l.text) only) (broken_at l.number refusal.broken_continuation))
    (sym e)
    (subst (λ m. Member (six Ended l.number m only) (broken_at l.number refusal.broken_continuation)) (sym f) (inl refl))))
complete l only line rule v (no_second d from lines e f) =
    Member-append_right (four l.before l.number) _ _
    (Member-append_left (six l.before l.number (begins_with_ampersand l.text) only) (five l) _
    (subst (λ x. Member (six x l.number (begins_with_ampersand l.text) only) (broken_at from refusal.broken_continuation)) (sym e)
    (subst (λ m. Member (six (GoesOn (Some d) from lines) l.number m only) (broken_at from refusal.broken_continuation)) (sym f)
    (inl refl))))

-- what splicing makes of a line
pub record IsSpliced (l : StatementLine) (s : Spliced) : Type 0 where
  pub text : s.text ≡ characters l
  pub mode : s.mode ≡ mode_of (after l)
  pub sound : (b : Break) → Member s.breaks b → BreaksRule l b.line b.rule
  pub complete : (line rule : ℕ) → BreaksRule l line rule → Member s.breaks (broken_at line rule)

result_spliced : (l : StatementLine) (only : Bool) → IsOnly l only → IsSpliced l (result l only)
result_spliced l only v =
    record {
      text = refl;
      mode = refl;
      sound = λ b. λ h. sound l only b v h;
      complete = λ line. λ rule. λ h. complete l only line rule v h;
    }

no_comment : (c : ℕ) (cs : List ℕ) → is_comment (c ∷ cs) ≡ false → c == 33 ≡ false
no_comment c cs e = e

alone_result : (l : StatementLine) (rest : List ℕ) → l.text ≡ 38 ∷ rest → is_alone (context l.before) rest ≡ true → l.lead ≡ []
    → l.inside ≡ context l.before → l.body ≡ [] → l.continued ≡ true →
    line_read (mode_of l.before) l.number l.text ≡ result l true
alone_result l rest text test lead inside body continued =
    ap (line_read (mode_of l.before) l.number) text ∙ alone_line l.before l.number rest test
    ∙ ap (λ o. made l.before l.number true true [] o [] true) (sym inside)
    ∙ ap (λ b. made l.before l.number true true [] l.inside [] b) (sym continued)
    ∙ ap (λ b. made l.before l.number true true [] l.inside b l.continued) (sym body)
    ∙ ap (λ x. made l.before l.number true true x l.inside l.body l.continued) (sym lead)
    ∙ ap (λ t. made l.before l.number t true l.lead l.inside l.body l.continued) (sym (ap begins_with_ampersand text))

pub read_spliced : (l : StatementLine) (text : List ℕ) → l.text ≡ text → is_comment text ≡ false → IsContext (context l.before)
    → IsRead l → IsSpliced l (line_read (mode_of l.before) l.number l.text)
read_spliced l [] same e h r = cc
read_spliced l (c ∷ cs) same e h (continuation.alone only lead inside body continued) =
    let is = alone_is (context l.before) c cs h e (subst (λ t. HasBody (context l.before) t [] true) same only) in
    let text : l.text ≡ 38 ∷ is.rest = same ∙ is.is in
    subst (IsSpliced l) (sym (alone_result l is.rest text is.test lead inside body continued))
    (result_spliced l true (record { yes = λ k. only; no = λ k. absurd (never k); ampersand = λ k. ap begins_with_ampersand text }))
  where
    never : true ≡ false → ⊥
    never k = cc
read_spliced l (c ∷ cs) same e h (more rest other begun_so body) =
    let line : line_read (mode_of l.before) l.number l.text ≡ result l false =
    ap (line_read (mode_of l.before) l.number) same ∙ line_begun (mode_of l.before) l.number c cs e
    ∙ begun_line l.before l.number c cs l.lead l.inside rest l.body l.continued h
    (λ k. other (subst (IsAlone l.before) (sym same) k))
    (subst (λ t. Begins l.before t l.lead l.inside rest) same begun_so) body
    ∙ ap (λ t. made l.before l.number t false l.lead l.inside l.body l.continued) (sym (ap begins_with_ampersand same)) in
    subst (IsSpliced l) (sym line) (result_spliced l false (record {
      yes = λ k. absurd (never k);
      no = λ k. other;
      ampersand = λ k. absurd (never k);
    }))
  where
    never : false ≡ true → ⊥
    never k = cc
