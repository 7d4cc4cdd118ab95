-- The body of a line as a function, and that scanning a line gives what its body says.
use Rattle.std.proofs.Common.{◌≡◌, ℕ, Bool, true, false, ◌&&◌, ◌||◌, ◌==◌, cond, List, [], ◌∷◌, ◌++◌, map, Option, Some, None, refl}
use Rattle.std.proofs.Common.{sym, ap, ◌∙◌, subst, arith}
use Rattle.std.proofs.lemmas.Bool.Decides.{nat_tests}
use Rattle.a95_base.specs.declared.breaks.Break.{Break}
use Rattle.f95_lexer.specs.declared.splice.Mode.{Mode}
use Rattle.f95_lexer.specs.declared.splice.Mode.TheVariants.{Fresh, Goes, Inside}
use Rattle.f95_lexer.specs.Characters.{AllPass, is_blank, is_delimiter, from_blank, is_empty, is_comment}
use Rattle.f95_lexer.specs.Continuation.{opened, kept, open_behind, HasNoComment, IsCode, whole, commented, IsContinued, goes_on}
use Rattle.f95_lexer.specs.Continuation.{ends, HasBody, has_semicolon, parted, character}
use Rattle.a95_base.specs.Rules as refusal
use Rattle.f95_lexer.specs.Limits.{too_many_lines}
use Rattle.a95_base.specs.Breaks.{broken_at}
use Rattle.std.proofs.lemmas.Bool.{true≢false, eqb-true, and_right}
use Rattle.a95_base.proofs.Tests.{and_second, and_first}
use Rattle.f95_lexer.specs.Splicing.{Spliced, put, scan}
use Rattle.f95_lexer.specs.Splicing as splicing
use Rattle.f95_lexer.proofs.Written.{skip, stay}

-- what a line is without its comment
abbrev pub code_of : Option ℕ → List ℕ → List ℕ
code_of inside [] = []
code_of None (c ∷ cs) = cond (c == 33) [] (c ∷ code_of (opened c) cs)
code_of (Some d) (c ∷ cs) = c ∷ code_of (kept d c) cs

-- an `&` before nothing but blanks
abbrev pub ends_here : ℕ → List ℕ → Bool
ends_here c cs = c == 38 && is_empty (from_blank cs)

-- what code is without an `&` at its end, and whether it has one
abbrev pub body_of : List ℕ → List ℕ
body_of [] = []
body_of (c ∷ cs) = cond (ends_here c cs) [] (c ∷ body_of cs)

abbrev pub continued_of : List ℕ → Bool
continued_of [] = false
continued_of (c ∷ cs) = cond (ends_here c cs) true (continued_of cs)

-- blanks alone

blank_empty : (gap : List ℕ) → AllPass is_blank gap → is_empty (from_blank gap) ≡ true
blank_empty [] a = refl
blank_empty (c ∷ cs) a = ap (λ b. is_empty (cond b (from_blank cs) (c ∷ cs))) a.0 ∙ blank_empty cs a.1

empty_blank : (gap : List ℕ) → is_empty (from_blank gap) ≡ true → AllPass is_blank gap
empty_blank [] e = tt
empty_blank (c ∷ cs) e = go (is_blank c) refl (empty_blank cs) e
  where
    go : (b : Bool) → is_blank c ≡ b → (is_empty (from_blank cs) ≡ true → AllPass is_blank cs)
        → is_empty (cond b (from_blank cs) (c ∷ cs)) ≡ true → AllPass is_blank (c ∷ cs)
    go true is more k = (is, more k)
    go false is more k = absurd (true≢false (sym k))

-- the code of a line, both ways

no_comment_rest : (c : ℕ) (cs : List ℕ) → HasNoComment None (c ∷ cs) → HasNoComment (opened c) cs
no_comment_rest c cs h = λ front. λ comment. λ e. λ shut. h (c ∷ front) comment (ap (λ l. c ∷ l) e) shut

no_comment_in : (d c : ℕ) (cs : List ℕ) → HasNoComment (Some d) (c ∷ cs) → HasNoComment (kept d c) cs
no_comment_in d c cs h = λ front. λ comment. λ e. λ shut. h (c ∷ front) comment (ap (λ l. c ∷ l) e) shut

code_whole : (inside : Option ℕ) (text : List ℕ) → HasNoComment inside text → code_of inside text ≡ text
code_whole inside [] h = refl
code_whole None (c ∷ cs) h = go (c == 33) refl (code_whole (opened c) cs (no_comment_rest c cs h))
  where
    go : (b : Bool) → c == 33 ≡ b → code_of (opened c) cs ≡ cs → cond b [] (c ∷ code_of (opened c) cs) ≡ c ∷ cs
    go true e more = absurd (h [] cs (ap (λ x. x ∷ cs) (eqb-true c 33 e)) refl)
    go false e more = ap (λ l. c ∷ l) more
code_whole (Some d) (c ∷ cs) h = ap (λ l. c ∷ l) (code_whole (kept d c) cs (no_comment_in d c cs h))

code_before : (inside : Option ℕ) (code comment : List ℕ) → HasNoComment inside code → open_behind inside code ≡ None
    → code_of inside (code ++ 33 ∷ comment) ≡ code
code_before None [] comment h shut = refl
code_before (Some d) [] comment h shut = cc
code_before None (c ∷ cs) comment h shut = go (c == 33) refl (code_before (opened c) cs comment (no_comment_rest c cs h) shut)
  where
    go : (b : Bool) → c == 33 ≡ b → code_of (opened c) (cs ++ 33 ∷ comment) ≡ cs
        → cond b [] (c ∷ code_of (opened c) (cs ++ 33 ∷ comment)) ≡ c ∷ cs
    go true e more = absurd (h [] cs (ap (λ x. x ∷ cs) (eqb-true c 33 e)) refl)
    go false e more = ap (λ l. c ∷ l) more
code_before (Some d) (c ∷ cs) comment h shut = ap (λ l. c ∷ l) (code_before (kept d c) cs comment (no_comment_in d c cs h) shut)

code_is : (inside : Option ℕ) (text code : List ℕ) → IsCode inside text code → code ≡ code_of inside text
code_is inside text code (whole same h) = sym (code_whole inside same h)
code_is inside text code (commented same comment h shut) = sym (code_before inside same comment h shut)

no_comment_nil : (front comment : List ℕ) → [] ≡ front ++ 33 ∷ comment → ⊥
no_comment_nil [] comment e = cc
no_comment_nil (c ∷ cs) comment e = cc

-- no comment begins at the and_first character, and none behind it
no_comment_at : (c : ℕ) (cs : List ℕ) → c == 33 ≡ false → HasNoComment (opened c) cs → (front comment : List ℕ)
    → c ∷ cs ≡ front ++ 33 ∷ comment → open_behind None front ≡ None → ⊥
no_comment_at c cs other h [] comment e shut =
    let same : c ≡ 33 = cc in
    true≢false (sym (ap (λ x. x == 33) same) ∙ other)
no_comment_at c cs other h (f ∷ fs) comment e shut =
    let same : f ≡ c = cc in
    let rest : cs ≡ fs ++ 33 ∷ comment = cc in
    h fs comment rest (subst (λ x. open_behind (opened x) fs ≡ None) same shut)

no_comment_inside_at : (d c : ℕ) (cs : List ℕ) → HasNoComment (kept d c) cs → (front comment : List ℕ)
    → c ∷ cs ≡ front ++ 33 ∷ comment → open_behind (Some d) front ≡ None → ⊥
no_comment_inside_at d c cs h [] comment e shut = cc
no_comment_inside_at d c cs h (f ∷ fs) comment e shut =
    let same : f ≡ c = cc in
    let rest : cs ≡ fs ++ 33 ∷ comment = cc in
    h fs comment rest (subst (λ x. open_behind (kept d x) fs ≡ None) same shut)

code_more : (c : ℕ) (cs code : List ℕ) → c == 33 ≡ false → IsCode (opened c) cs code → IsCode None (c ∷ cs) (c ∷ code)
code_more c cs code other (whole same h) = whole (c ∷ same) (no_comment_at c same other h)
code_more c cs code other (commented same comment h shut) = commented (c ∷ same) comment (no_comment_at c same other h) shut

code_more_inside : (d c : ℕ) (cs code : List ℕ) → IsCode (kept d c) cs code → IsCode (Some d) (c ∷ cs) (c ∷ code)
code_more_inside d c cs code (whole same h) = whole (c ∷ same) (no_comment_inside_at d c same h)
code_more_inside d c cs code (commented same comment h shut) = commented (c ∷ same) comment (no_comment_inside_at d c same h) shut

has_code : (inside : Option ℕ) (text : List ℕ) → IsCode inside text (code_of inside text)
has_code inside [] = whole [] (λ front. λ comment. λ e. λ shut. no_comment_nil front comment e)
has_code None (c ∷ cs) = go (c == 33) refl (has_code (opened c) cs)
  where
    go : (b : Bool) → c == 33 ≡ b → IsCode (opened c) cs (code_of (opened c) cs)
        → IsCode None (c ∷ cs) (cond b [] (c ∷ code_of (opened c) cs))
    go true e more =
        subst (λ x. IsCode None (x ∷ cs) []) (sym (eqb-true c 33 e))
        (commented [] cs (λ front. λ comment. λ k. λ shut. no_comment_nil front comment k) refl)
    go false e more = code_more c cs (code_of (opened c) cs) e more
has_code (Some d) (c ∷ cs) = code_more_inside d c cs (code_of (kept d c) cs) (has_code (kept d c) cs)

-- the body of code, both ways

before_ampersand : (body gap : List ℕ) → is_empty (from_blank (body ++ 38 ∷ gap)) ≡ false
before_ampersand [] gap = refl
before_ampersand (c ∷ cs) gap = go (is_blank c) (before_ampersand cs gap)
  where
    go : (b : Bool) → is_empty (from_blank (cs ++ 38 ∷ gap)) ≡ false
        → is_empty (cond b (from_blank (cs ++ 38 ∷ gap)) (c ∷ (cs ++ 38 ∷ gap))) ≡ false
    go true more = more
    go false more = refl

goes_on_is : (body gap : List ℕ) → AllPass is_blank gap → (body ≡ body_of (body ++ 38 ∷ gap))
    × (true ≡ continued_of (body ++ 38 ∷ gap))
goes_on_is [] gap a =
    (sym (stay (is_empty (from_blank gap)) _ _ (blank_empty gap a)), sym (stay (is_empty (from_blank gap)) _ _ (blank_empty gap a)))
goes_on_is (c ∷ cs) gap a =
    let other : ends_here c (cs ++ 38 ∷ gap) ≡ false = and_right (c == 38) _ (before_ampersand cs gap) in
    let rest = goes_on_is cs gap a in (
      ap (λ l. c ∷ l) rest.0 ∙ sym (skip (ends_here c (cs ++ 38 ∷ gap)) _ _ _ other refl),
      rest.1 ∙ sym (skip (ends_here c (cs ++ 38 ∷ gap)) _ _ _ other refl),
    )

ends_is : (code : List ℕ) → ((body gap : List ℕ) → AllPass is_blank gap → code ≡ body ++ 38 ∷ gap → ⊥) → (code ≡ body_of code)
    × (false ≡ continued_of code)
ends_is [] h = (refl, refl)
ends_is (c ∷ cs) h = go (ends_here c cs) refl (ends_is cs (λ body. λ gap. λ a. λ k. h (c ∷ body) gap a (ap (λ l. c ∷ l) k)))
  where
    go : (b : Bool) → ends_here c cs ≡ b → (cs ≡ body_of cs) × (false ≡ continued_of cs) → (c ∷ cs ≡ cond b [] (c ∷ body_of cs))
        × (false ≡ cond b true (continued_of cs))
    go true e more =
        absurd (h [] cs (empty_blank cs (and_second (c == 38) _ e)) (ap (λ x. x ∷ cs) (eqb-true c 38 (and_first (c == 38) _ e))))
    go false e more = (ap (λ l. c ∷ l) more.0, more.1)

continued_is : (code body : List ℕ) (continued : Bool) → IsContinued code body continued → (body ≡ body_of code)
    × (continued ≡ continued_of code)
continued_is code body continued (goes_on same gap a) = goes_on_is same gap a
continued_is code body continued (ends same h) = ends_is same h

no_ampersand : (body gap : List ℕ) → [] ≡ body ++ 38 ∷ gap → ⊥
no_ampersand [] gap e = cc
no_ampersand (c ∷ cs) gap e = cc

not_at : (c : ℕ) (cs : List ℕ) → ends_here c cs ≡ false → ((body gap : List ℕ) → AllPass is_blank gap → cs ≡ body ++ 38 ∷ gap → ⊥)
    → (body gap : List ℕ) → AllPass is_blank gap → c ∷ cs ≡ body ++ 38 ∷ gap → ⊥
not_at c cs other h [] gap a e =
    let same : c ≡ 38 = cc in
    let rest : cs ≡ gap = cc in
    true≢false (sym (ap (λ x. ends_here x cs) same ∙ ap (λ l. is_empty (from_blank l)) rest ∙ blank_empty gap a) ∙ other)
not_at c cs other h (b ∷ bs) gap a e = let rest : cs ≡ bs ++ 38 ∷ gap = cc in h bs gap a rest

continued_more : (c : ℕ) (cs body : List ℕ) (continued : Bool) → ends_here c cs ≡ false → IsContinued cs body continued
    → IsContinued (c ∷ cs) (c ∷ body) continued
continued_more c cs body continued other (goes_on same gap a) = goes_on (c ∷ same) gap a
continued_more c cs body continued other (ends same h) = ends (c ∷ same) (not_at c same other h)

has_ending : (code : List ℕ) → IsContinued code (body_of code) (continued_of code)
has_ending [] = ends [] (λ body. λ gap. λ a. λ e. no_ampersand body gap e)
has_ending (c ∷ cs) = go (ends_here c cs) refl (has_ending cs)
  where
    go : (b : Bool) → ends_here c cs ≡ b → IsContinued cs (body_of cs) (continued_of cs)
        → IsContinued (c ∷ cs) (cond b [] (c ∷ body_of cs)) (cond b true (continued_of cs))
    go true e more =
        subst (λ x. IsContinued (x ∷ cs) [] true) (sym (eqb-true c 38 (and_first (c == 38) _ e)))
        (goes_on [] cs (empty_blank cs (and_second (c == 38) _ e)))
    go false e more = continued_more c cs (body_of cs) (continued_of cs) e more

-- each text has a body, and one only
pub has_body : (inside : Option ℕ) (text : List ℕ)
    → HasBody inside text (body_of (code_of inside text)) (continued_of (code_of inside text))
has_body inside text =
    record { code = code_of inside text; uncommented = has_code inside text; ending = has_ending (code_of inside text) }

pub body_is : (inside : Option ℕ) (text body : List ℕ) (continued : Bool) → HasBody inside text body continued
    → (body ≡ body_of (code_of inside text)) × (continued ≡ continued_of (code_of inside text))
body_is inside text body continued h =
    let code = code_is inside text h.code h.uncommented in
    let e = continued_is h.code body continued h.ending in
    (e.0 ∙ ap body_of code, e.1 ∙ ap continued_of code)

-- Scanning.

-- a text that is open has one of the two delimiters
abbrev pub IsContext : Option ℕ → Type 0
IsContext None = Unit {0}
IsContext (Some d) = is_delimiter d ≡ true

opened_context : (c : ℕ) → IsContext (opened c)
opened_context c = go (is_delimiter c) refl
  where
    go : (b : Bool) → is_delimiter c ≡ b → IsContext (cond b (Some c) None)
    go true e = e
    go false e = tt

kept_context : (d c : ℕ) → is_delimiter d ≡ true → IsContext (kept d c)
kept_context d c e = go (c == d)
  where
    go : (b : Bool) → IsContext (cond b None (Some d))
    go true = tt
    go false = e

pub open_context : (inside : Option ℕ) (body : List ℕ) → IsContext inside → IsContext (open_behind inside body)
open_context inside [] h = h
open_context None (c ∷ cs) h = open_context (opened c) cs (opened_context c)
open_context (Some d) (c ∷ cs) h = open_context (kept d c) cs (kept_context d c h)

-- behind an `&` outside of texts, a comment is nothing
pub comment_code : (cs : List ℕ) → is_empty (from_blank (code_of None cs)) ≡ is_comment (from_blank cs)
comment_code [] = refl
comment_code (c ∷ cs) = go (c == 33) (is_blank c) (comment_code cs) refl refl
  where
    go : (b g : Bool) → is_empty (from_blank (code_of None cs)) ≡ is_comment (from_blank cs) → c == 33 ≡ b → is_blank c ≡ g
        → is_empty (from_blank (cond b [] (c ∷ code_of (opened c) cs))) ≡ is_comment (cond g (from_blank cs) (c ∷ cs))
    go true true more e f = let not_both : ⊥ = grind (arith, nat_tests) in absurd not_both
    go true false more e f = sym e
    go false true more e f =
        let plain : is_delimiter c ≡ false = grind (arith, nat_tests) in
        let none : opened c ≡ None = ap (λ t. cond t (Some c) None) plain in
        ap (λ t. is_empty (cond t (from_blank (code_of (opened c) cs)) (c ∷ code_of (opened c) cs))) f
        ∙ ap (λ o. is_empty (from_blank (code_of o cs))) none ∙ more
    go false false more e f = ap (λ t. is_empty (cond t (from_blank (code_of (opened c) cs)) (c ∷ code_of (opened c) cs))) f ∙ sym e

-- inside of a text it isn't
pub text_code : (d : ℕ) (cs : List ℕ) → is_delimiter d ≡ true
    → is_empty (from_blank (code_of (Some d) cs)) ≡ is_empty (from_blank cs)
text_code d [] h = refl
text_code d (c ∷ cs) h = go (is_blank c) (text_code d cs h) refl
  where
    go : (g : Bool) → is_empty (from_blank (code_of (Some d) cs)) ≡ is_empty (from_blank cs) → is_blank c ≡ g
        → is_empty (cond g (from_blank (code_of (kept d c) cs)) (c ∷ code_of (kept d c) cs))
        ≡ is_empty (cond g (from_blank cs) (c ∷ cs))
    go true more f =
        let other : c == d ≡ false = grind (arith, nat_tests) in
        ap (λ o. is_empty (from_blank (code_of o cs))) (ap (λ t. cond t None (Some d)) other) ∙ more
    go false more f = refl

abbrev pub mode_at : Option ℕ → ℕ → ℕ → Mode
mode_at None line left = Goes line left
mode_at (Some d) line left = Inside d line left

-- rule 5, where a text is open at the end of a line
abbrev pub open_break : ℕ → Option ℕ → List Break
open_break line None = []
open_break line (Some d) = broken_at line refusal.open_text ∷ []

-- what a line leaves that has this body
abbrev pub said : Option ℕ → ℕ → ℕ → List ℕ → Bool → Spliced
said inside line left body continued = record {
  text = map (λ c. character c line) (parted inside body ++ cond continued [] (10 ∷ []));
  breaks = cond continued [] (open_break line (open_behind inside body));
  mode = cond continued (mode_at (open_behind inside body) line (cond (has_semicolon inside body) too_many_lines left)) Fresh;
}

abbrev said_of : Option ℕ → ℕ → ℕ → List ℕ → Spliced
said_of inside line left code = said inside line left (body_of code) (continued_of code)

said_plain : (c line left : ℕ) (body : List ℕ) (continued : Bool) → c == 59 ≡ false
    → said None line left (c ∷ body) continued ≡ put c line (said (opened c) line left body continued)
said_plain c line left body continued e = ap (λ (b : Bool). record {
  text = map (λ x. character x line) ((cond b 10 c ∷ parted (opened c) body) ++ cond continued [] (10 ∷ []));
  breaks = cond continued [] (open_break line (open_behind (opened c) body));
  mode = cond continued
      (mode_at (open_behind (opened c) body) line (cond (b || has_semicolon (opened c) body) too_many_lines left)) Fresh;
}) e

either_way : (b : Bool) (n : ℕ) → n ≡ cond b n n
either_way true n = refl
either_way false n = refl

said_semicolon : (line left : ℕ) (body : List ℕ) (continued : Bool)
    → said None line left (59 ∷ body) continued ≡ put 10 line (said None line too_many_lines body continued)
said_semicolon line left body continued = ap (λ (n : ℕ). record {
  text = map (λ x. character x line) ((10 ∷ parted None body) ++ cond continued [] (10 ∷ []));
  breaks = cond continued [] (open_break line (open_behind None body));
  mode = cond continued (mode_at (open_behind None body) line n) Fresh;
}) (either_way (has_semicolon None body) too_many_lines)

abbrev ScanIs : ℕ → ℕ → List ℕ → ℕ → Type 0
ScanIs line left cs x = scan None line left (x ∷ cs) ≡ said_of None line left (code_of None (x ∷ cs))

-- the same of the rest of the line
abbrev ScansRest : ℕ → List ℕ → Type 0
ScansRest line cs =
    (inside : Option ℕ) (left : ℕ) → IsContext inside → scan inside line left cs ≡ said_of inside line left (code_of inside cs)

pub scan_is : (inside : Option ℕ) (line left : ℕ) (text : List ℕ) → IsContext inside
    → scan inside line left text ≡ said_of inside line left (code_of inside text)
scan_is None line left [] h = refl
scan_is (Some d) line left [] h = refl
scan_is None line left (c ∷ cs) h = by_comment (λ o. λ n. λ k. scan_is o line n cs k) (c == 33) refl
  where
    ampersand : ScansRest line cs → (b : Bool) → is_comment (from_blank cs) ≡ b → ScanIs line left cs 38
    ampersand more true e =
        let same = comment_code cs ∙ e in
        stay (is_comment (from_blank cs)) _ _ e
        ∙ sym
        (ap (λ t. said None line left (cond t [] (38 ∷ body_of (code_of None cs)))
        (cond t true (continued_of (code_of None cs)))) same)
    ampersand more false e =
        let same = comment_code cs ∙ e in
        skip (is_comment (from_blank cs)) _ _ _ e (ap (put 38 line) (more None left tt))
        ∙ sym
        (ap (λ t. said None line left (cond t [] (38 ∷ body_of (code_of None cs)))
        (cond t true (continued_of (code_of None cs)))) same)

    others : ScansRest line cs → c == 33 ≡ false → c == 59 ≡ false → c == 38 ≡ false → ScanIs line left cs c
    others more no_comment no_semicolon no_ampersand_here =
        let code = code_of (opened c) cs in
        skip (c == 33) _ _ _ no_comment
        (skip (c == 59) _ _ _ no_semicolon
        (ap (λ t. cond (t && is_comment (from_blank cs)) (splicing.ends (Goes line left))
        (put c line (scan (opened c) line left cs))) no_ampersand_here))
        ∙ ap (put c line) (more (opened c) left (opened_context c))
        ∙ sym (said_plain c line left (body_of code) (continued_of code) no_semicolon)
        ∙ sym
        (ap (λ t. said None line left (cond (t && is_empty (from_blank code)) [] (c ∷ body_of code))
        (cond (t && is_empty (from_blank code)) true (continued_of code))) no_ampersand_here)
        ∙ sym (ap (λ t. said_of None line left (cond t [] (c ∷ code))) no_comment)

    by_ampersand : ScansRest line cs → (b : Bool) → c == 33 ≡ false → c == 59 ≡ false → c == 38 ≡ b → ScanIs line left cs c
    by_ampersand more true e f g =
        subst (ScanIs line left cs) (sym (eqb-true c 38 g)) (ampersand more (is_comment (from_blank cs)) refl)
    by_ampersand more false e f g = others more e f g

    by_semicolon : ScansRest line cs → (b : Bool) → c == 33 ≡ false → c == 59 ≡ b → ScanIs line left cs c
    by_semicolon more true e f =
        subst (ScanIs line left cs) (sym (eqb-true c 59 f)) (ap (put 10 line) (more None too_many_lines tt)
        ∙ sym (said_semicolon line left (body_of (code_of None cs)) (continued_of (code_of None cs))))
    by_semicolon more false e f = by_ampersand more (c == 38) e f refl

    by_comment : ScansRest line cs → (b : Bool) → c == 33 ≡ b → ScanIs line left cs c
    by_comment more true e = subst (ScanIs line left cs) (sym (eqb-true c 33 e)) refl
    by_comment more false e = by_semicolon more (c == 59) e refl
scan_is (Some d) line left (c ∷ cs) h = by_end (scan_is (kept d c) line left cs (kept_context d c h)) (ends_here c cs) refl
  where
    code : List ℕ
    code = code_of (kept d c) cs

    same_end : ends_here c code ≡ ends_here c cs
    same_end = go (c == 38) refl
      where
        go : (b : Bool) → c == 38 ≡ b → b && is_empty (from_blank code) ≡ b && is_empty (from_blank cs)
        go true e =
            let other : c == d ≡ false = grind (arith, nat_tests) in
            ap (λ o. is_empty (from_blank (code_of o cs))) (ap (λ t. cond t None (Some d)) other) ∙ text_code d cs h
        go false e = refl

    by_end : scan (kept d c) line left cs ≡ said_of (kept d c) line left code → (b : Bool) → ends_here c cs ≡ b
        → scan (Some d) line left (c ∷ cs) ≡ said_of (Some d) line left (c ∷ code)
    by_end more true e =
        stay (ends_here c cs) _ _ e
        ∙ sym (ap (λ t. said (Some d) line left (cond t [] (c ∷ body_of code)) (cond t true (continued_of code))) (same_end ∙ e))
    by_end more false e =
        skip (ends_here c cs) _ _ _ e (ap (put c line) more)
        ∙ sym (ap (λ t. said (Some d) line left (cond t [] (c ∷ body_of code)) (cond t true (continued_of code))) (same_end ∙ e))
