-- A text has its lines in one way, and they leave what splicing it leaves and break what splicing it breaks.
use Rattle.std.proofs.Common.{◌≡◌, ◌⊎◌, ℕ, ◌+◌, Bool, true, false, ◌&&◌, ◌==◌, nat_lt, cond, List, [], ◌∷◌, ◌++◌, length, Option}
use Rattle.std.proofs.Common.{Some, None, refl, sym, ap, ◌∙◌, subst, inl, inr, ⊎_elim, append-nil}
use Rattle.a95_base.specs.Lists.{Member}
use Rattle.a95_base.proofs.Lists.{Member-append_left, Member-append_right, Member-append_cases}
use Rattle.a95_base.specs.declared.breaks.Break.{Break}
use Rattle.f95_lexer.specs.declared.splice.Mode.{Mode}
use Rattle.f95_lexer.specs.Characters.{from_blank, is_empty, is_comment}
use Rattle.f95_lexer.specs.Continuation.{open_behind, HasBody, Onward, Ended, GoesOn, context, continuation_number, StatementLine}
use Rattle.f95_lexer.specs.Continuation.{begins_with_ampersand, IsAlone, Begins, initial, joined, apart, cut_off, IsRead, more}
use Rattle.f95_lexer.specs.Continuation.{has_semicolon, after, characters, AreRead, none, passed, stands, HasLines, all_characters}
use Rattle.f95_lexer.specs.Continuation.{BreaksRule}
use Rattle.f95_lexer.specs.Continuation as continuation
use Rattle.a95_base.specs.Rules as refusal
use Rattle.f95_lexer.specs.Limits.{longest_line}
use Rattle.f95_lexer.specs.Lines.{text_lines}
use Rattle.a95_base.specs.Breaks.{broken_at}
use Rattle.std.proofs.lemmas.Bool.{true≢false, eqb-true}
use Rattle.f95_lexer.specs.Splicing.{Spliced, line_read, too_long, splice, spliced, unfinished, line_breaks}
use Rattle.f95_lexer.specs.Splicing as splicing
use Rattle.f95_lexer.proofs.Bodies.{code_of, body_of, continued_of, has_body, body_is, IsContext, open_context}
use Rattle.f95_lexer.proofs.LinesRead.{mode_of, IsSpliced, read_spliced}
use Rattle.f95_lexer.proofs.Written.{stay}

-- Every text has its lines.

-- how a line begins that isn't an `&` alone
record Begun (before : Onward) (text : List ℕ) : Type 0 where
  lead : List ℕ
  inside : Option ℕ
  rest : List ℕ
  is : Begins before text lead inside rest

plain : (before : Onward) (text : List ℕ) → begins_with_ampersand text ≡ false → Begun before text
plain Ended text e = record { lead = []; inside = None; rest = text; is = initial text e }
plain (GoesOn None from lines) text e = record { lead = 32 ∷ []; inside = None; rest = text; is = apart from lines text e }
plain (GoesOn (Some d) from lines) text e = record { lead = 10 ∷ []; inside = None; rest = text; is = cut_off d from lines text e }

behind_ampersand : (before : Onward) (rest : List ℕ) → Begun before (38 ∷ rest)
behind_ampersand Ended rest = record { lead = []; inside = None; rest = rest; is = continuation.continues_nothing rest }
behind_ampersand (GoesOn inside from lines) rest =
    record { lead = []; inside = inside; rest = rest; is = joined inside from lines rest }

how_begun : (before : Onward) (text : List ℕ) → Begun before text
how_begun before [] = plain before [] refl
how_begun before (c ∷ cs) = go (c == 38) refl
  where
    go : (b : Bool) → c == 38 ≡ b → Begun before (c ∷ cs)
    go true e = subst (λ x. Begun before (x ∷ cs)) (sym (eqb-true c 38 e)) (behind_ampersand before cs)
    go false e = plain before (c ∷ cs) e

-- a line of a statement, with its number, after what goes on before it
record Found (before : Onward) (number : ℕ) (text : List ℕ) : Type 0 where
  line : StatementLine
  here : (line.before ≡ before) × ((line.number ≡ number) × (line.text ≡ text))
  read : IsRead line

abbrev line_of : Onward → ℕ → List ℕ → List ℕ → Option ℕ → List ℕ → Bool → StatementLine
line_of before number text lead inside body continued =
    record { number = number; before = before; text = text; lead = lead; inside = inside; body = body; continued = continued }

abbrev is_only : Onward → List ℕ → Bool
is_only before text = is_empty (body_of (code_of (context before) text)) && continued_of (code_of (context before) text)

both : (body : List ℕ) (continued : Bool) → is_empty body && continued ≡ true → (body ≡ []) × (continued ≡ true)
both [] continued e = (refl, e)
both (c ∷ cs) continued e = cc

only_so : (before : Onward) (text : List ℕ) → IsAlone before text → is_only before text ≡ true
only_so before text h =
    let is = body_is (context before) text [] true h in
    sym (ap (λ b. is_empty b && continued_of (code_of (context before) text)) is.0) ∙ sym is.1

found : (before : Onward) (number : ℕ) (text : List ℕ) → Found before number text
found before number text = go (is_only before text) refl
  where
    go : (b : Bool) → is_only before text ≡ b → Found before number text
    go true e =
        let is = both (body_of (code_of (context before) text)) (continued_of (code_of (context before) text)) e in
        let only : IsAlone before text =
        subst (λ b. HasBody (context before) text b true) is.0
        (subst (λ t. HasBody (context before) text (body_of (code_of (context before) text)) t) is.1
        (has_body (context before) text)) in
        record {
          line = line_of before number text [] (context before) [] true;
          here = (refl, (refl, refl));
          read = continuation.alone only refl refl refl refl;
        }
    go false e =
        let b = how_begun before text in
        let code = code_of b.inside b.rest in
        record {
          line = line_of before number text b.lead b.inside (body_of code) (continued_of code);
          here = (refl, (refl, refl));
          read = more b.rest (λ h. true≢false (sym (only_so before text h) ∙ e)) b.is (has_body b.inside b.rest);
        }

pub record Lines (before : Onward) (number : ℕ) (texts : List (List ℕ)) : Type 0 where
  pub lines : List StatementLine
  pub behind : Onward
  pub read : AreRead before number texts lines behind

with_line : (before : Onward) (number : ℕ) (text : List ℕ) (texts : List (List ℕ)) → is_comment (from_blank text) ≡ false
    → (f : Found before number (from_blank text)) → Lines (after f.line) (number + 1) texts → Lines before number (text ∷ texts)
with_line before number text texts e f r = record {
  lines = f.line ∷ r.lines;
  behind = r.behind;
  read =
      subst (λ x. AreRead x number (text ∷ texts) (f.line ∷ r.lines) r.behind) f.here.0
      (subst (λ n. AreRead f.line.before n (text ∷ texts) (f.line ∷ r.lines) r.behind) f.here.1.0
      (stands f.line text texts r.lines r.behind e f.here.1.1 f.read
      (subst (λ n. AreRead (after f.line) (n + 1) texts r.lines r.behind) (sym f.here.1.0) r.read)));
}

pub has_lines : (before : Onward) (number : ℕ) (texts : List (List ℕ)) → Lines before number texts
has_lines before number [] = record { lines = []; behind = before; read = none before number }
has_lines before number (text ∷ texts) = go (is_comment (from_blank text)) refl (λ x. has_lines x (number + 1) texts)
  where
    go : (b : Bool) → is_comment (from_blank text) ≡ b → ((x : Onward) → Lines x (number + 1) texts)
        → Lines before number (text ∷ texts)
    go true e r = let rest =
        r before in record {
          lines = rest.lines;
          behind = rest.behind;
          read = passed before number text texts rest.lines rest.behind e rest.read;
        }
    go false e r = let f = found before number (from_blank text) in with_line before number text texts e f (r (after f.line))

-- What splicing makes of them.

inside_context : (before : Onward) (text lead : List ℕ) (inside : Option ℕ) (rest : List ℕ) → Begins before text lead inside rest
    → IsContext (context before) → IsContext inside
inside_context before text lead inside rest (initial same e) h = tt
inside_context before text lead inside rest (joined same from lines k) h = h
inside_context before text lead inside rest (apart from lines same e) h = tt
inside_context before text lead inside rest (continuation.continues_nothing same) h = tt
inside_context before text lead inside rest (cut_off d from lines same e) h = tt

read_context : (l : StatementLine) → IsRead l → IsContext (context l.before) → IsContext l.inside
read_context l (continuation.alone only lead inside body continued) h = subst IsContext (sym inside) h
read_context l (more rest other begun body) h = inside_context l.before l.text l.lead l.inside rest begun h

after_context : (l : StatementLine) → IsContext l.inside → IsContext (context (after l))
after_context l h = go l.continued
  where
    go : (b : Bool)
        → IsContext
        (context
        (cond b
        (GoesOn (open_behind l.inside l.body) l.number
        (cond (has_semicolon l.inside l.body) 0 (continuation_number l.before))) Ended))
    go true = open_context l.inside l.body h
    go false = tt

-- one of the lines breaks the rule
pub record OneBreaks (lines : List StatementLine) (line rule : ℕ) : Type 0 where
  pub which : StatementLine
  pub has : Member lines which
  pub breaks : BreaksRule which line rule

pub record AreSpliced (lines : List StatementLine) (behind : Onward) (s : Spliced) : Type 0 where
  pub text : s.text ≡ all_characters lines
  pub mode : s.mode ≡ mode_of behind
  pub sound : (b : Break) → Member s.breaks b → (b.rule ≡ refusal.line_too_long) ⊎ OneBreaks lines b.line b.rule
  pub complete : (l : StatementLine) (line rule : ℕ) → Member lines l → BreaksRule l line rule
      → Member s.breaks (broken_at line rule)

long_rule : (n : ℕ) (text : List ℕ) (b : Break) → Member (too_long n text) b → b.rule ≡ refusal.line_too_long
long_rule n text b h = go (nat_lt longest_line (length text)) h
  where
    go : (t : Bool) → Member (cond t (broken_at n refusal.line_too_long ∷ []) []) b → b.rule ≡ refusal.line_too_long
    go true k = ⊎_elim (λ (e : broken_at n refusal.line_too_long ≡ b). sym (ap (λ (x : Break). x.rule) e)) (λ (x : ⊥). absurd x) k
    go false k = absurd k

passed_line : (m : Mode) (n : ℕ) (text : List ℕ) → is_comment text ≡ true → line_read m n text ≡ splicing.ends m
passed_line m n [] e = refl
passed_line m n (c ∷ cs) e = stay (c == 33) _ _ e

-- one line, and then the rest
abbrev joined_to : ℕ → List ℕ → Spliced → List (List ℕ) → Spliced
joined_to n text first texts = splicing.after (too_long n text) first (splice first.mode (n + 1) texts)

later : (l : StatementLine) (lines : List StatementLine) (line rule : ℕ) → OneBreaks lines line rule
    → OneBreaks (l ∷ lines) line rule
later l lines line rule o = record { which = o.which; has = inr o.has; breaks = o.breaks }

passed_spliced : (m : Mode) (n : ℕ) (text : List ℕ) (texts : List (List ℕ)) (lines : List StatementLine) (behind : Onward)
    → AreSpliced lines behind (splice m (n + 1) texts) → AreSpliced lines behind (joined_to n text (splicing.ends m) texts)
passed_spliced m n text texts lines behind r = record {
  text = r.text;
  mode = r.mode;
  sound = λ b. λ h. ⊎_elim
      (λ (x : Member (too_long n text ++ []) b). inl
      (long_rule n text b (subst (λ l. Member l b) (append-nil (too_long n text)) x)))
      (λ (x : Member (splice m (n + 1) texts).breaks b). r.sound b x)
      (Member-append_cases (too_long n text ++ []) (splice m (n + 1) texts).breaks b h);
  complete =
      λ l. λ line. λ rule. λ h. λ k. Member-append_right (too_long n text ++ []) _ (broken_at line rule)
      (r.complete l line rule h k);
}

line_spliced : (l : StatementLine) (n : ℕ) (first : Spliced) (text : List ℕ) (texts : List (List ℕ)) (lines : List StatementLine)
    (behind : Onward) →
    IsSpliced l first → AreSpliced lines behind (splice first.mode (n + 1) texts)
    → AreSpliced (l ∷ lines) behind (joined_to n text first texts)
line_spliced l n first text texts lines behind f r = record {
  text = ap (λ t. t ++ (splice first.mode (n + 1) texts).text) f.text ∙ ap (λ t. characters l ++ t) r.text;
  mode = r.mode;
  sound = λ b. λ h. ⊎_elim
      (λ (x : Member (too_long n text ++ first.breaks) b). ⊎_elim
      (λ (y : Member (too_long n text) b). inl (long_rule n text b y))
      (λ (y : Member first.breaks b). inr (record { which = l; has = inl refl; breaks = f.sound b y }))
      (Member-append_cases (too_long n text) first.breaks b x))
      (λ (x : Member (splice first.mode (n + 1) texts).breaks b). ⊎_elim
      (λ (y : b.rule ≡ refusal.line_too_long). inl y)
      (λ (y : OneBreaks lines b.line b.rule). inr (later l lines b.line b.rule y))
      (r.sound b x))
      (Member-append_cases (too_long n text ++ first.breaks) (splice first.mode (n + 1) texts).breaks b h);
  complete = λ k. λ line. λ rule. λ h. λ breaks. ⊎_elim
      (λ (e : l
      ≡ k). Member-append_left (too_long n text ++ first.breaks) _ (broken_at line rule)
      (Member-append_right (too_long n text) first.breaks (broken_at line rule)
      (f.complete line rule (subst (λ x. BreaksRule x line rule) (sym e) breaks))))
      (λ (x : Member lines k). Member-append_right (too_long n text ++ first.breaks) _ (broken_at line rule)
      (r.complete k line rule x breaks))
      h;
}

are_spliced : (before : Onward) (n : ℕ) (texts : List (List ℕ)) (lines : List StatementLine) (behind : Onward)
    → AreRead before n texts lines behind → IsContext (context before) → AreSpliced lines behind (splice (mode_of before) n texts)
are_spliced before n texts lines behind (none same k) h =
    record { text = refl; mode = refl; sound = λ b. λ x. absurd x; complete = λ l. λ line. λ rule. λ x. λ y. absurd x }
are_spliced before n texts lines behind (passed same k text rest those end e r) h =
    subst (AreSpliced those end)
    (sym (ap (λ first. joined_to k text first rest) (passed_line (mode_of same) k (from_blank text) e)))
    (passed_spliced (mode_of same) k text rest those end (are_spliced same (k + 1) rest those end r h))
are_spliced before n texts lines behind (stands l text rest those end e is read r) h =
    let first = line_read (mode_of l.before) l.number (from_blank text) in
    let one : IsSpliced l first =
    subst (λ t. IsSpliced l (line_read (mode_of l.before) l.number t)) is (read_spliced l (from_blank text) is e h read) in
    let more_of = are_spliced (after l) (l.number + 1) rest those end r (after_context l (read_context l read h)) in
    line_spliced l l.number first text rest those end one
    (subst (λ m. AreSpliced those end (splice m (l.number + 1) rest)) (sym one.mode) more_of)

-- Of a whole text.

pub lines_spliced : (bytes : List ℕ) (lines : List StatementLine) (behind : Onward) → HasLines bytes lines behind
    → AreSpliced lines behind (spliced bytes)
lines_spliced bytes lines behind r = are_spliced Ended 1 (text_lines bytes) lines behind r tt

-- rule 6, where a statement goes on behind the last line
unfinished_sound : (behind : Onward) (b : Break) → Member (unfinished (mode_of behind)) b → (inside : Option ℕ) × (lines : ℕ)
    × (behind ≡ GoesOn inside b.line lines) × (b.rule ≡ refusal.broken_continuation)
unfinished_sound Ended b h = absurd h
unfinished_sound (GoesOn None from lines) b h = ⊎_elim
    (λ (e : broken_at from refusal.broken_continuation
    ≡ b). (
      None,
      lines,
      ap (λ (x : Break). GoesOn None x.line lines) e,
      sym (ap (λ (x : Break). x.rule) e),
    )) (λ (x : ⊥). absurd x) h
unfinished_sound (GoesOn (Some d) from lines) b h = ⊎_elim
    (λ (e : broken_at from refusal.broken_continuation
    ≡ b). (
      Some d,
      lines,
      ap (λ (x : Break). GoesOn (Some d) x.line lines) e,
      sym (ap (λ (x : Break). x.rule) e),
    )) (λ (x : ⊥). absurd x) h

unfinished_complete : (inside : Option ℕ) (from lines : ℕ)
    → Member (unfinished (mode_of (GoesOn inside from lines))) (broken_at from refusal.broken_continuation)
unfinished_complete None from lines = inl refl
unfinished_complete (Some d) from lines = inl refl

-- the rules of lines that a text breaks, but for the length of a line
pub data LineBreak (lines : List StatementLine) (behind : Onward) : ℕ → ℕ → Type 0 where
  of_line : (line rule : ℕ) → OneBreaks lines line rule → LineBreak lines behind line rule
  no_further : (inside : Option ℕ) (from count : ℕ) → behind ≡ GoesOn inside from count
      → LineBreak lines behind from refusal.broken_continuation

pub break_sound : (bytes : List ℕ) (lines : List StatementLine) (behind : Onward) (b : Break) → HasLines bytes lines behind
    → Member (line_breaks bytes) b → (b.rule ≡ refusal.line_too_long) ⊎ LineBreak lines behind b.line b.rule
break_sound bytes lines behind b r h =
    let s = lines_spliced bytes lines behind r in
    ⊎_elim
    (λ (x : Member (spliced bytes).breaks b). ⊎_elim (λ (y : b.rule
    ≡ refusal.line_too_long). inl y) (λ (y : OneBreaks lines b.line b.rule). inr (of_line b.line b.rule y)) (s.sound b x))
    (λ (x : Member (unfinished (spliced bytes).mode) b).
    let u = unfinished_sound behind b (subst (λ m. Member (unfinished m) b) s.mode x) in
    inr (subst (λ rule. LineBreak lines behind b.line rule) (sym u.3) (no_further u.0 b.line u.1 u.2)))
    (Member-append_cases (spliced bytes).breaks (unfinished (spliced bytes).mode) b h)

pub break_complete : (bytes : List ℕ) (lines : List StatementLine) (behind : Onward) (line rule : ℕ) → HasLines bytes lines behind
    → LineBreak lines behind line rule → Member (line_breaks bytes) (broken_at line rule)
break_complete bytes lines behind line rule r (of_line n k o) =
    Member-append_left (spliced bytes).breaks (unfinished (spliced bytes).mode) (broken_at n k)
    ((lines_spliced bytes lines behind r).complete o.which n k o.has o.breaks)
break_complete bytes lines behind line rule r (no_further inside from count e) =
    Member-append_right (spliced bytes).breaks (unfinished (spliced bytes).mode) (broken_at from refusal.broken_continuation)
    (subst (λ m. Member (unfinished m) (broken_at from refusal.broken_continuation)) (sym ((lines_spliced bytes lines behind r).mode
    ∙ ap mode_of e)) (unfinished_complete inside from count))
