-- Which rules the lines break, and that lines are counted from 1.
use Rattle.std.proofs.Common.{◌≡◌, ℕ, ◌+◌, ◌-◌, ◌<◌, ◌≤◌, ◌⊎◌, Bool, true, false, ◌&&◌, ◌==◌, nat_lt, cond, List, [], ◌∷◌, ◌++◌}
use Rattle.std.proofs.Common.{length, Option, Some, None, refl, sym, ap, subst, inl, inr, ⊎_elim, arith}
use Rattle.std.proofs.lemmas.Bool.Decides.{nat_tests}
use Rattle.a95_base.specs.Lists.{Member, Every}
use Rattle.a95_base.proofs.Lists.{Every-append, Every-weaker, each_has, Member-append_left, Member-append_right}
use Rattle.f95_lexer.specs.Continuation.{opened, kept}
use Rattle.f95_lexer.specs.Characters.{from_blank, is_comment, is_empty}
use Rattle.f95_lexer.specs.declared.character.Character.{Character}
use Rattle.a95_base.specs.declared.breaks.Break.{Break}
use Rattle.f95_lexer.specs.declared.splice.Mode.{Mode}
use Rattle.f95_lexer.specs.declared.splice.Mode.TheVariants.{Fresh, Goes, Inside}
use Rattle.a95_base.specs.Breaks.{broken_at}
use Rattle.f95_lexer.specs.Splicing.{Spliced, ends, put, breaks_rule, all_broken, fortieth, scan, begun, line_read}
use Rattle.f95_lexer.specs.Splicing.{too_long, splice, spliced, unfinished, line_breaks}
use Rattle.f95_lexer.specs.Rules.{Numbered, numbered, numbered_from}
use Rattle.f95_lexer.specs.Lines.{text_lines}

-- a break by the rules of continuations
pub record IsContinuationBreak (b : Break) : Type 0 where
  pub counted : 1 ≤ b.line
  pub rule : (b.rule ≡ 4) ⊎ ((b.rule ≡ 5) ⊎ (b.rule ≡ 6))

abbrev mode_line : Mode → ℕ
mode_line Fresh = 1
mode_line (Goes line left) = line
mode_line (Inside d line left) = line

pub record IsCounted (c : Character) : Type 0 where
  pub counted : 1 ≤ c.line

-- what is spliced from lines that are counted from 1
pub record IsSound (s : Spliced) : Type 0 where
  pub text : Every IsCounted s.text
  pub breaks : Every IsContinuationBreak s.breaks
  pub mode : 1 ≤ mode_line s.mode

at_cond : (b : Bool) (x y : Spliced) → IsSound x → IsSound y → IsSound (cond b x y)
at_cond true x y a b = a
at_cond false x y a b = b

ends_sound : (m : Mode) → 1 ≤ mode_line m → IsSound (ends m)
ends_sound m h = record { text = tt; breaks = tt; mode = h }

put_sound : (c line : ℕ) (s : Spliced) → 1 ≤ line → IsSound s → IsSound (put c line s)
put_sound c line s h a = record { text = (record { counted = h }, a.text); breaks = a.breaks; mode = a.mode }

four : (line : ℕ) → 1 ≤ line → IsContinuationBreak (broken_at line 4)
four line h = record { counted = h; rule = inl refl }

five : (line : ℕ) → 1 ≤ line → IsContinuationBreak (broken_at line 5)
five line h = record { counted = h; rule = inr (inl refl) }

six : (line : ℕ) → 1 ≤ line → IsContinuationBreak (broken_at line 6)
six line h = record { counted = h; rule = inr (inr refl) }

breaks_sound : (line r : ℕ) (s : Spliced) → IsContinuationBreak (broken_at line r) → IsSound s → IsSound (breaks_rule line r s)
breaks_sound line r s h a = record { text = a.text; breaks = (h, a.breaks); mode = a.mode }

counted_sound : (line left : ℕ) (s : Spliced) → 1 ≤ line → IsSound s → IsSound (all_broken (fortieth line left) s)
counted_sound line left s h a = go (left == 1)
  where
    go : (b : Bool) → IsSound (all_broken (cond b (broken_at line 4 ∷ []) []) s)
    go true = record { text = a.text; breaks = (four line h, a.breaks); mode = a.mode }
    go false = a

scan_sound : (inside : Option ℕ) (line left : ℕ) (cs : List ℕ) → 1 ≤ line → IsSound (scan inside line left cs)
scan_sound None line left [] h = put_sound 10 line _ h (ends_sound Fresh (omega arith))
scan_sound (Some d) line left [] h = breaks_sound line 5 _ (five line h) (put_sound 10 line _ h (ends_sound Fresh (omega arith)))
scan_sound None line left (c ∷ cs) h =
    at_cond (c == 33) _ _ (put_sound 10 line _ h (ends_sound Fresh (omega arith)))
    (at_cond (c == 59) _ _ (put_sound 10 line _ h (scan_sound None line 40 cs h))
    (at_cond (c == 38 && is_comment (from_blank cs)) _ _ (ends_sound (Goes line left) h)
    (put_sound c line _ h (scan_sound (opened c) line left cs h))))
scan_sound (Some d) line left (c ∷ cs) h =
    at_cond (c == 38 && is_empty (from_blank cs)) _ _ (ends_sound (Inside d line left) h)
    (put_sound c line _ h (scan_sound (kept d c) line left cs h))

begun_sound : (m : Mode) (line c : ℕ) (cs : List ℕ) → 1 ≤ line → 1 ≤ mode_line m → IsSound (begun m line c cs)
begun_sound Fresh line c cs h k =
    at_cond (c == 38) _ _
    (breaks_sound line 6 _ (six line h)
    (at_cond (is_comment (from_blank cs)) _ _ (ends_sound (Goes line 40) h) (scan_sound None line 40 cs h)))
    (scan_sound None line 40 (c ∷ cs) h)
begun_sound (Goes from left) line c cs h k = counted_sound line left _ h (
    at_cond (c == 38) _ _
    (at_cond (is_comment (from_blank cs)) _ _ (breaks_sound line 6 _ (six line h) (ends_sound (Goes line (left - 1)) h))
    (scan_sound None line (left - 1) cs h))
    (put_sound 32 line _ h (scan_sound None line (left - 1) (c ∷ cs) h)))
begun_sound (Inside d from left) line c cs h k = counted_sound line left _ h (
    at_cond (c == 38) _ _
    (at_cond (is_empty (from_blank cs)) _ _ (breaks_sound line 6 _ (six line h) (ends_sound (Inside d line (left - 1)) h))
    (scan_sound (Some d) line (left - 1) cs h))
    (breaks_sound from 6 _ (six from k) (put_sound 10 line _ h (scan_sound None line (left - 1) (c ∷ cs) h))))

read_sound : (m : Mode) (line : ℕ) (cs : List ℕ) → 1 ≤ line → 1 ≤ mode_line m → IsSound (line_read m line cs)
read_sound m line [] h k = ends_sound m k
read_sound m line (c ∷ cs) h k = at_cond (c == 33) _ _ (ends_sound m k) (begun_sound m line c cs h k)

-- a line among these is too long
pub record IsLongLine (lines : List Numbered) (b : Break) : Type 0 where
  pub counted : 1 ≤ b.line
  pub rule : b.rule ≡ 3
  pub text : List ℕ
  pub has : Member lines (numbered b.line text)
  pub long : 132 < length text

abbrev pub IsLineBreak : List Numbered → Break → Type 0
IsLineBreak lines b = IsContinuationBreak b ⊎ IsLongLine lines b

-- of a whole text: the breaks are those of its lines
pub record IsSplicedFrom (lines : List Numbered) (s : Spliced) : Type 0 where
  pub text : Every IsCounted s.text
  pub breaks : Every (IsLineBreak lines) s.breaks
  pub mode : 1 ≤ mode_line s.mode

long_cases : (n : ℕ) (text : List ℕ) (lines : List Numbered) (b : Bool) → nat_lt 132 (length text) ≡ b → 1 ≤ n
    → Every (IsLineBreak (numbered n text ∷ lines)) (cond b (broken_at n 3 ∷ []) [])
long_cases n text lines true e h =
    let long : 132 < length text = grind (arith, nat_tests) in
    (inr (record { counted = h; rule = refl; text = text; has = inl refl; long = long }), tt)
long_cases n text lines false e h = tt

later : (n : ℕ) (text : List ℕ) (lines : List Numbered) (b : Break) → IsLineBreak lines b → IsLineBreak (numbered n text ∷ lines) b
later n text lines b h = ⊎_elim
    (λ (x : IsContinuationBreak b). inl x)
    (λ (x : IsLongLine lines b). inr (record { counted = x.counted; rule = x.rule; text = x.text; has = inr x.has; long = x.long }))
    h

splice_sound : (m : Mode) (n : ℕ) (texts : List (List ℕ)) → 1 ≤ n → 1 ≤ mode_line m
    → IsSplicedFrom (numbered_from n texts) (splice m n texts)
splice_sound m n [] h k = record { text = tt; breaks = tt; mode = k }
splice_sound m n (text ∷ texts) h k =
    let first = read_sound m n (from_blank text) h k in
    let mode = (line_read m n (from_blank text)).mode in
    let rest = splice_sound mode (n + 1) texts (omega arith) first.mode in
    let lines = numbered_from (n + 1) texts in
    record {
      text = Every-append IsCounted (line_read m n (from_blank text)).text (splice mode (n + 1) texts).text first.text rest.text;
      breaks =
          Every-append (IsLineBreak (numbered n text ∷ lines)) (too_long n text ++ (line_read m n (from_blank text)).breaks)
          (splice mode (n + 1) texts).breaks
          (Every-append (IsLineBreak (numbered n text ∷ lines)) (too_long n text) (line_read m n (from_blank text)).breaks
          (long_cases n text lines (nat_lt 132 (length text)) refl h)
          (Every-weaker IsContinuationBreak (IsLineBreak (numbered n text ∷ lines)) (λ b. λ x. inl x)
          (line_read m n (from_blank text)).breaks first.breaks))
          (Every-weaker (IsLineBreak lines) (IsLineBreak (numbered n text ∷ lines)) (later n text lines)
          (splice mode (n + 1) texts).breaks rest.breaks);
      mode = rest.mode;
    }

unfinished_sound : (m : Mode) (lines : List Numbered) → 1 ≤ mode_line m → Every (IsLineBreak lines) (unfinished m)
unfinished_sound Fresh lines h = tt
unfinished_sound (Goes line left) lines h = (inl (six line h), tt)
unfinished_sound (Inside d line left) lines h = (inl (six line h), tt)

whole_sound : (bytes : List ℕ) → IsSplicedFrom (numbered_from 1 (text_lines bytes)) (spliced bytes)
whole_sound bytes = splice_sound Fresh 1 (text_lines bytes) (omega arith) (omega arith)

pub text_counted : (bytes : List ℕ) → Every IsCounted (spliced bytes).text
text_counted bytes = (whole_sound bytes).text

pub line_break_is : (bytes : List ℕ) (b : Break) → Member (line_breaks bytes) b → IsLineBreak (numbered_from 1 (text_lines bytes)) b
line_break_is bytes b h =
    let lines = numbered_from 1 (text_lines bytes) in
    each_has (IsLineBreak lines) (line_breaks bytes) b
    (Every-append (IsLineBreak lines) (spliced bytes).breaks (unfinished (spliced bytes).mode) (whole_sound bytes).breaks
    (unfinished_sound (spliced bytes).mode lines (whole_sound bytes).mode)) h

long_has : (n : ℕ) (text : List ℕ) → 132 < length text → Member (too_long n text) (broken_at n 3)
long_has n text long =
    let b : nat_lt 132 (length text) ≡ true = grind (arith, nat_tests) in
    subst (λ t. Member (cond t (broken_at n 3 ∷ []) []) (broken_at n 3)) (sym b) (inl refl)

long_found : (m : Mode) (n line : ℕ) (text : List ℕ) (texts : List (List ℕ)) → Member (numbered_from n texts) (numbered line text)
    → 132 < length text → Member (splice m n texts).breaks (broken_at line 3)
long_found m n line text [] h long = absurd h
long_found m n line text (t ∷ ts) h long =
    let first = line_read m n (from_blank t) in
    let rest = splice first.mode (n + 1) ts in
    ⊎_elim
    (λ (e : numbered n t ≡ numbered line text).
    let same_line : n ≡ line = ap (λ (x : Numbered). x.line) e in let same_text : t ≡ text = ap (λ (x : Numbered). x.text) e in
    Member-append_left (too_long n t ++ first.breaks) rest.breaks (broken_at line 3)
    (Member-append_left (too_long n t) first.breaks (broken_at line 3)
    (subst (λ l. Member (too_long n t) (broken_at l 3)) same_line
    (long_has n t (subst (λ x. 132 < length x) (sym same_text) long)))))
    (λ (k : Member (numbered_from (n + 1) ts) (numbered line text)).
    Member-append_right (too_long n t ++ first.breaks) rest.breaks (broken_at line 3)
    (long_found first.mode (n + 1) line text ts k long))
    h

pub long_line_broken : (bytes : List ℕ) (line : ℕ) (text : List ℕ)
    → Member (numbered_from 1 (text_lines bytes)) (numbered line text) → 132 < length text
    → Member (line_breaks bytes) (broken_at line 3)
long_line_broken bytes line text h long =
    Member-append_left (spliced bytes).breaks (unfinished (spliced bytes).mode) (broken_at line 3)
    (long_found Fresh 1 line text (text_lines bytes) h long)
