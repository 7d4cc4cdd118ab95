-- A text cuts into statements exactly where no rule is broken, and in one way.
use Rattle.std.proofs.Common.{◌≡◌, ℕ, zero, suc, ◌≤◌, true, List, [], ◌∷◌, ◌++◌, length, map, take, drop, Some, None, Result, Ok}
use Rattle.std.proofs.Common.{Err, IfOk, ◌<◌, refl, sym, ap, ◌∙◌, subst, inl, inr, ◌+◌, ⊎_elim, arith}
use Rattle.std.proofs.lemmas.Bool.{cases_lt}
use Rattle.std.proofs.lemmas.List.{take-map, drop-map, take-append-drop}
use Rattle.f95_lexer.specs.declared.character.Character.{Character}
use Rattle.a95_base.specs.declared.breaks.Break.{Break}
use Rattle.f95_lexer.specs.declared.lexeme.Lexeme.{Lexeme}
use Rattle.f95_lexer.specs.declared.lexeme.Lexeme.TheVariants as lexeme
use Rattle.f95_lexer.specs.declared.token.Statement.{Statement}
use Rattle.f95_lexer.specs.Characters.{is_blank}
use Rattle.f95_lexer.specs.Lexeme.{bytes_of, found_at}
use Rattle.a95_base.specs.Lists.{Every, Member}
use Rattle.f95_lexer.specs.Continuation.{Onward, Ended, GoesOn, StatementLine, HasLines, all_characters, BreaksRule}
use Rattle.f95_lexer.specs.Limits.{longest_line}
use Rattle.f95_lexer.specs.Lines.{feeds_of, text_lines}
use Rattle.a95_base.specs.Breaks.{broken_at}
use Rattle.f95_lexer.specs.Splicing.{spliced, unfinished, line_breaks}
use Rattle.f95_lexer.specs.Statements.{Item, Ends, items_at, items_of, rules_of, token_breaks, lexemes_behind, lexemes_of}
use Rattle.f95_lexer.specs.Statements.{statements_of}
use Rattle.f95_lexer.specs.Rules.{Numbered, numbered, numbered_from, IsBroken, long_file, breaks_of}
use Rattle.f95_lexer.specs.declared.token.Statements.{Statements}
use Rattle.a95_base.specs.declared.source.PhaseError.{PhaseError}
use Rattle.a95_base.proofs.Lists.{no_member, no_item}
use Rattle.f95_lexer.specs.Spelling.{Spelled, nothing, next, Cuts}
use Rattle.f95_lexer.proofs.Balance.{balanced, found_kept}
use Rattle.f95_lexer.proofs.Continued.{whole_balanced, left_empty, right_empty}
use Rattle.f95_lexer.proofs.InLines.{long_line_broken}
use Rattle.f95_lexer.proofs.Judging.{nothing_broken, listed_is_broken, long_is}
use Rattle.f95_lexer.proofs.LinesRead.{mode_of}
use Rattle.f95_lexer.proofs.TextRead.{has_lines, lines_spliced, LineBreak, of_line, no_further, break_sound, break_complete}
use Rattle.f95_lexer.proofs.Spellings.{spelled_read}
use Rattle.f95_lexer.proofs.Unwritten.{IsWritten, found_good}

-- a blank in front makes the gap longer
blank_spelled : (c : Character) (rest : List Character) (items : List Item) → is_blank c.byte ≡ true → Spelled rest items
    → Spelled (c ∷ rest) items
blank_spelled c rest items e (nothing gap blank) = nothing (c ∷ gap) (e, blank)
blank_spelled c rest items e (next gap written behind blank s more) = next (c ∷ gap) written behind (e, blank) s more

no_bytes : (cs : List Character) → bytes_of cs ≡ [] → cs ≡ []
no_bytes [] e = refl
no_bytes (c ∷ cs) e = cc

-- one lexeme in front, as it is written
lexeme_spelled : (l : Lexeme) (c : Character) (more rest : List Character) (items : List Item)
    → IsWritten l c.byte (bytes_of more) (bytes_of rest) → (l ≡ lexeme.Unclosed → ⊥)
    → Spelled rest items → Spelled (c ∷ (more ++ rest)) (items_at c.line l ++ items)
lexeme_spelled lexeme.Blank c more rest items w closed s =
    subst (λ m. Spelled (c ∷ (m ++ rest)) items) (sym (no_bytes more w.1)) (blank_spelled c rest items w.0 s)
lexeme_spelled lexeme.End c more rest items w closed s =
    subst (λ m. Spelled (c ∷ (m ++ rest)) (Ends ∷ items)) (sym (no_bytes more w.1))
    (next [] (c ∷ []) rest tt (ap (λ b. b ∷ []) w.0) s)
lexeme_spelled (lexeme.Word x) c more rest items w closed s = next [] (c ∷ more) rest tt (refl, w) s
lexeme_spelled (lexeme.Number None b) c more rest items w closed s = absurd w
lexeme_spelled (lexeme.Number (Some z) b) c more rest items w closed s = next [] (c ∷ more) rest tt (refl, w) s
lexeme_spelled (lexeme.Text x) c more rest items w closed s = next [] (c ∷ more) rest tt (refl, w) s
lexeme_spelled lexeme.Unclosed c more rest items w closed s = absurd (closed refl)
lexeme_spelled (lexeme.Pointed x) c more rest items w closed s = next [] (c ∷ more) rest tt (refl, w) s
lexeme_spelled (lexeme.Symbol m) c more rest items w closed s = next [] (c ∷ more) rest tt (refl, w) s
lexeme_spelled lexeme.Stray c more rest items w closed s = absurd w

no_rules : (line : ℕ) (rs : List ℕ) → map (broken_at line) rs ≡ [] → rs ≡ []
no_rules line [] e = refl
no_rules line (r ∷ rs) e = cc

-- What breaks no rule of tokens and leaves no text open is spelled by its items.
read_spelled : (n : ℕ) (cs : List Character) → token_breaks (lexemes_behind n cs) ≡ []
    → balanced None (bytes_of (drop n cs)) ≡ true → Spelled (drop n cs) (items_of (lexemes_behind n cs))
read_spelled zero [] whole h = nothing [] tt
read_spelled (suc n) [] whole h = nothing [] tt
read_spelled (suc n) (c ∷ cs) whole h = read_spelled n cs whole h
read_spelled zero (c ∷ cs) whole h =
    let f = found_at c.byte (bytes_of cs) in
    let mine = map (broken_at c.line) (rules_of f.lexeme) in
    let behind = token_breaks (lexemes_behind f.further cs) in
    let rules = no_rules c.line (rules_of f.lexeme) (left_empty mine behind whole) in
    let k = found_kept c.byte (bytes_of cs) in
    let written = (found_good c.byte (bytes_of cs)).good rules in
    let here : IsWritten f.lexeme c.byte (bytes_of (take f.further cs)) (bytes_of (drop f.further cs)) =
    subst (λ m. IsWritten f.lexeme c.byte m (bytes_of (drop f.further cs))) (take-map (λ (x : Character). x.byte) f.further cs)
    (subst (λ m. IsWritten f.lexeme c.byte (take f.further (bytes_of cs)) m)
    (drop-map (λ (x : Character). x.byte) f.further cs) written) in
    let rest : balanced None (bytes_of (drop f.further cs)) ≡ true =
    ap (balanced None) (sym (drop-map (λ (x : Character). x.byte) f.further cs)) ∙ k.rest h in
    subst (λ l. Spelled (c ∷ l) (items_at c.line f.lexeme ++ items_of (lexemes_behind f.further cs)))
    (take-append-drop f.further cs)
    (lexeme_spelled f.lexeme c (take f.further cs) (drop f.further cs) (items_of (lexemes_behind f.further cs)) here (k.closed h)
    (read_spelled f.further cs (right_empty mine behind whole) rest))

nothing_goes_on : (behind : Onward) → unfinished (mode_of behind) ≡ [] → behind ≡ Ended
nothing_goes_on Ended e = refl
nothing_goes_on (GoesOn None from lines) e = cc
nothing_goes_on (GoesOn (Some d) from lines) e = cc

all_narrow : (n : ℕ) (texts : List (List ℕ))
    → ((line : ℕ) (text : List ℕ) → Member (numbered_from n texts) (numbered line text) → longest_line < length text → ⊥)
    → Every (λ text. length text ≤ longest_line) texts
all_narrow n [] f = tt
all_narrow n (text ∷ texts) f = (
  ⊎_elim (λ (long : longest_line < length text). absurd (f n text (inl refl) long)) (λ (short : length text ≤ longest_line). short)
      (cases_lt longest_line (length text)),
  all_narrow (n + 1) texts (λ line. λ t. λ h. f line t (inr h)),
)

pub unbroken_cuts : (bytes : List ℕ) (statements : List Statement) (feeds : ℕ) → length bytes ≤ 1048576 → breaks_of bytes ≡ []
    → statements ≡ statements_of (items_of (lexemes_of bytes)) → feeds ≡ feeds_of bytes → Cuts bytes statements feeds
unbroken_cuts bytes statements feeds short none are counted =
    let lines = left_empty (line_breaks bytes) (token_breaks (lexemes_of bytes)) none in
    let all = has_lines Ended 1 (text_lines bytes) in
    let s = lines_spliced bytes all.lines all.behind all.read in
    let last : all.behind ≡ Ended =
    nothing_goes_on all.behind (ap unfinished (sym s.mode)
    ∙ right_empty (spliced bytes).breaks (unfinished (spliced bytes).mode) lines) in
    record {
      short = short;
      narrow =
          all_narrow 1 (text_lines bytes)
          (λ line. λ text. λ h. λ long. no_item _ _ lines (long_line_broken bytes line text h long));
      lines = all.lines;
      read = subst (λ x. HasLines bytes all.lines x) last all.read;
      whole =
          λ l. λ line. λ rule. λ h. λ b. no_item _ _ lines
          (break_complete bytes all.lines all.behind line rule all.read
          (of_line line rule (record { which = l; has = h; breaks = b })));
      items = items_of (lexemes_of bytes);
      spelled = subst (λ t. Spelled t (items_of (lexemes_of bytes))) s.text
          (read_spelled 0 (spliced bytes).text (right_empty (line_breaks bytes) (token_breaks (lexemes_of bytes)) none)
          (whole_balanced bytes lines));
      are = are;
      counted = counted;
    }

-- what a text cuts into is read, and breaks no rule

narrow_at : (n line : ℕ) (text : List ℕ) (texts : List (List ℕ)) → Every (λ text. length text ≤ longest_line) texts
    → Member (numbered_from n texts) (numbered line text) → length text ≤ longest_line
narrow_at n line text [] e h = absurd h
narrow_at n line text (t ∷ ts) e h = ⊎_elim
    (λ (x : numbered n t ≡ numbered line text). subst (λ (y : Numbered). length y.text ≤ longest_line) x e.0)
    (λ (x : Member (numbered_from (n + 1) ts) (numbered line text)). narrow_at (n + 1) line text ts e.1 x)
    h

never_goes_on : (lines : List StatementLine) (line rule : ℕ)
    → ((l : StatementLine) (line rule : ℕ) → Member lines l → BreaksRule l line rule → ⊥) → LineBreak lines Ended line rule → ⊥
never_goes_on lines line rule whole (of_line n k o) = whole o.which n k o.has o.breaks
never_goes_on lines line rule whole (no_further inside from count e) = cc

cut_lines : (bytes : List ℕ) (statements : List Statement) (feeds : ℕ) → Cuts bytes statements feeds → line_breaks bytes ≡ []
cut_lines bytes statements feeds c = no_member (line_breaks bytes) (λ b. λ h. ⊎_elim
    (λ (e : b.rule ≡ 3).
    let long = long_is bytes b h e in
    let narrow : length long.text ≤ longest_line = narrow_at 1 b.line long.text (text_lines bytes) c.narrow long.has in
    let wide : longest_line < length long.text = long.long in
    absurd (omega (arith, narrow, wide)))
    (λ (x : LineBreak c.lines Ended b.line b.rule). never_goes_on c.lines b.line b.rule c.whole x)
    (break_sound bytes c.lines Ended b c.read h))

cut_statements : (bytes : List ℕ) (statements : List Statement) (feeds : ℕ) → Cuts bytes statements feeds
    → statements ≡ statements_of (items_of (lexemes_of bytes))
cut_statements bytes statements feeds c =
    c.are ∙ ap statements_of (sym (spelled_read (all_characters c.lines) c.items c.spelled).read)
    ∙ sym (ap (λ t. statements_of (items_of (lexemes_behind 0 t))) (lines_spliced bytes c.lines Ended c.read).text)

cut_breaks : (bytes : List ℕ) (statements : List Statement) (feeds : ℕ) → Cuts bytes statements feeds → breaks_of bytes ≡ []
cut_breaks bytes statements feeds c =
    ap (λ l. l ++ token_breaks (lexemes_of bytes)) (cut_lines bytes statements feeds c)
    ∙ ap (λ t. token_breaks (lexemes_behind 0 t)) (lines_spliced bytes c.lines Ended c.read).text
    ∙ (spelled_read (all_characters c.lines) c.items c.spelled).breaks

pub cut_unbroken : (bytes : List ℕ) (statements : List Statement) (feeds line rule : ℕ) → Cuts bytes statements feeds
    → IsBroken bytes line rule → ⊥
cut_unbroken bytes statements feeds line rule c b = nothing_broken bytes line rule c.short (cut_breaks bytes statements feeds c) b

pub one_cut : (bytes : List ℕ) (a b : List Statement) (m n : ℕ) → Cuts bytes a m → Cuts bytes b n → (a ≡ b) × (m ≡ n)
one_cut bytes a b m n x y = (cut_statements bytes a m x ∙ sym (cut_statements bytes b n y), x.counted ∙ sym y.counted)

none_listed : (bytes : List ℕ) (bs : List Break) → ((b : Break) → Member bs b → Member (breaks_of bytes) b)
    → ((line rule : ℕ) → IsBroken bytes line rule → ⊥) → bs ≡ []
none_listed bytes [] among none = refl
none_listed bytes (b ∷ bs) among none = absurd (none b.line b.rule (listed_is_broken bytes b (among b (inl refl))))

pub cuts : (bytes : List ℕ) → ((line rule : ℕ) → IsBroken bytes line rule → ⊥) → (statements : List Statement) × (feeds : ℕ)
    × Cuts bytes statements feeds
cuts bytes none = ⊎_elim
    (λ (long : 1048576 < length bytes). absurd (none 1 1 (long_file long)))
    (λ (short : length bytes ≤ 1048576). (
      statements_of (items_of (lexemes_of bytes)),
      feeds_of bytes,
      unbroken_cuts bytes _ _ short (none_listed bytes (breaks_of bytes) (λ b. λ h. h) none) refl refl,
    ))
    (cases_lt 1048576 (length bytes))

pub cut_by : (bytes : List ℕ) (r : Result Statements PhaseError) → length bytes ≤ 1048576 → IfOk r (λ s. breaks_of bytes ≡ [])
    → IfOk r (λ s. s.list.items ≡ statements_of (items_of (lexemes_of bytes))) → IfOk r (λ s. s.feeds ≡ feeds_of bytes)
    → IfOk r (λ s. Cuts bytes s.list.items s.feeds)
cut_by bytes (Ok s) short none list feeds = unbroken_cuts bytes s.list.items s.feeds short none list feeds
cut_by bytes (Err e) short none list feeds = tt
