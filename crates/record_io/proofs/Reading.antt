-- The input rule finds what the grammar says.
use Rattle.std.proofs.Common.{◌≡◌, ◌⊎◌, inl, inr, ℕ, ℤ, pos, neg_ℤ, ◌+◌, ◌-◌, ◌^◌, ◌<◌, ◌≤◌, Bool, true, false, not, ◌&&◌}
use Rattle.std.proofs.Common.{List, [], ◌∷◌, ◌++◌, length, refl, sym, ap, ◌∙◌, subst, arith, append_assoc, append-nil}
use Rattle.std.proofs.Common.{length-append}
use Rattle.std.specs.Prelude.{if◌then◌else◌, ◌==◌, nat_le, nat_lt, Option, Some, None}
use Rattle.std.specs.List.{list_all}
use Rattle.std.proofs.lemmas.Bool.Decides.{nat_tests}
use Rattle.a95_base.specs.Input.{Integer, NoMore, NoInteger, is_whitespace, is_separator, is_digit, past_whitespace, past_comma}
use Rattle.a95_base.specs.Input.{past_gap, word_of, is_number, number_of, negative_of, positive_of, integer_of, reading_of}
use Rattle.a95_base.specs.Input.{reading_at, next_value}
use Rattle.std.proofs.lemmas.Bool.{and_parts, not-true, or_parts, true≢false, eqb-true}
use Rattle.record_io.specs.Grammar.{IsGap, HasSign, Writes, EndsValue, IsNext}

-- whitespace at the front is passed, and nothing else is
blanks-append : (blanks text : List ℕ) → list_all is_whitespace blanks ≡ true
    → past_whitespace (blanks ++ text) ≡ past_whitespace text
blanks-append [] text h = refl
blanks-append (c ∷ cs) text h =
    let parts = and_parts (is_whitespace c) (list_all is_whitespace cs) h in
    ap (λ b. if b then past_whitespace (cs ++ text) else (c ∷ (cs ++ text))) parts.0 ∙ blanks-append cs text parts.1

blanks_stop : (c : ℕ) (cs : List ℕ) → is_whitespace c ≡ false → past_whitespace (c ∷ cs) ≡ c ∷ cs
blanks_stop c cs h = ap (λ b. if b then past_whitespace cs else (c ∷ cs)) h

record Blanks (text : List ℕ) : Type 0 where
  blanks : List ℕ
  all : list_all is_whitespace blanks ≡ true
  split : text ≡ blanks ++ past_whitespace text

blanks_at : (c : ℕ) (cs : List ℕ) (b : Bool) → is_whitespace c ≡ b → Blanks cs → Blanks (c ∷ cs)
blanks_at c cs true e r = record {
  blanks = c ∷ r.blanks;
  all = ap (λ b. b && list_all is_whitespace r.blanks) e ∙ r.all;
  split = ap (λ l. c ∷ l) r.split ∙ ap (λ b. (c ∷ r.blanks) ++ (if b then past_whitespace cs else (c ∷ cs))) (sym e);
}
blanks_at c cs false e r = record { blanks = []; all = refl; split = sym (blanks_stop c cs e) }

blanks_of : (text : List ℕ) → Blanks text
blanks_of [] = record { blanks = []; all = refl; split = refl }
blanks_of (c ∷ cs) = blanks_at c cs (is_whitespace c) refl (blanks_of cs)

-- a text whose front is no gap
abbrev Starts : List ℕ → Type 0
Starts [] = Unit {0}
Starts (c ∷ cs) = is_separator c ≡ false

starts_blanks : (text : List ℕ) → Starts text → past_whitespace text ≡ text
starts_blanks [] h = refl
starts_blanks (c ∷ cs) h = blanks_stop c cs (or_parts (is_whitespace c) (c == 44) h).0

starts_comma : (text : List ℕ) → Starts text → past_comma text ≡ text
starts_comma [] h = refl
starts_comma (c ∷ cs) h = ap (λ b. if b then cs else (c ∷ cs)) (or_parts (is_whitespace c) (c == 44) h).1

-- a gap in front of a text that begins none is passed, and that alone
pub gap-append : (comma : Bool) (gap text : List ℕ) → IsGap comma gap → Starts text → past_gap comma (gap ++ text) ≡ text
gap-append false gap text (inl blanks) s = blanks-append gap text blanks ∙ starts_blanks text s
gap-append true gap text (inl blanks) s =
    ap (λ l. past_whitespace (past_comma l)) (blanks-append gap text blanks ∙ starts_blanks text s)
    ∙ ap past_whitespace (starts_comma text s) ∙ starts_blanks text s
gap-append false gap text (inr g) s = absurd (true≢false (sym g.0))
gap-append true gap text (inr g) s =
    let around = g.1 in
    let before = around.0 in
    let after = around.1 in
    let whole : gap ++ text ≡ before ++ (44 ∷ (after ++ text)) =
    ap (λ l. l ++ text) around.4 ∙ append_assoc before (44 ∷ after) text in
    ap (λ l. past_whitespace (past_comma (past_whitespace l))) whole
    ∙ ap (λ l. past_whitespace (past_comma l)) (blanks-append before (44 ∷ (after ++ text)) around.2)
    ∙ blanks-append after text around.3 ∙ starts_blanks text s

-- a text is a gap and the rest
pub record Parted (comma : Bool) (text rest : List ℕ) : Type 0 where
  pub gap : List ℕ
  pub is : IsGap comma gap
  pub split : text ≡ gap ++ rest

blanks_again_at : (c : ℕ) (cs : List ℕ) (b : Bool) → is_whitespace c ≡ b
    → past_whitespace (past_whitespace cs) ≡ past_whitespace cs
    → past_whitespace (past_whitespace (c ∷ cs)) ≡ past_whitespace (c ∷ cs)
blanks_again_at c cs true e h =
    let here : past_whitespace (c ∷ cs) ≡ past_whitespace cs = ap (λ b. if b then past_whitespace cs else (c ∷ cs)) e in
    ap past_whitespace here ∙ h ∙ sym here
blanks_again_at c cs false e h = ap past_whitespace (blanks_stop c cs e)

blanks_again : (text : List ℕ) → past_whitespace (past_whitespace text) ≡ past_whitespace text
blanks_again [] = refl
blanks_again (c ∷ cs) = blanks_again_at c cs (is_whitespace c) refl (blanks_again cs)

comma_at : (blanks : List ℕ) (c : ℕ) (cs : List ℕ) (b : Bool) → (c == 44) ≡ b → list_all is_whitespace blanks ≡ true
    → past_whitespace (c ∷ cs) ≡ c ∷ cs → Parted true (blanks ++ (c ∷ cs)) (past_whitespace (past_comma (c ∷ cs)))
comma_at blanks c cs true e all stop =
    let behind = blanks_of cs in
    let comma : c ≡ 44 = grind (arith, nat_tests) in
    let passed : past_comma (c ∷ cs) ≡ cs = ap (λ b. if b then cs else (c ∷ cs)) e in
    record {
      gap = blanks ++ (44 ∷ behind.blanks);
      is = inr (refl, (blanks, behind.blanks, all, behind.all, refl));
      split =
          ap (λ d. blanks ++ (d ∷ cs)) comma ∙ ap (λ l. blanks ++ (44 ∷ l)) behind.split
          ∙ sym (append_assoc blanks (44 ∷ behind.blanks) (past_whitespace cs))
          ∙ ap (λ l. (blanks ++ (44 ∷ behind.blanks)) ++ past_whitespace l) (sym passed);
    }
comma_at blanks c cs false e all stop = record {
  gap = blanks;
  is = inl all;
  split = ap (λ l. blanks ++ l) (sym stop ∙ ap past_whitespace (sym (ap (λ b. if b then cs else (c ∷ cs)) e)));
}

comma_of : (blanks rest : List ℕ) → list_all is_whitespace blanks ≡ true → past_whitespace rest ≡ rest
    → Parted true (blanks ++ rest) (past_whitespace (past_comma rest))
comma_of blanks [] all stop = record { gap = blanks; is = inl all; split = refl }
comma_of blanks (c ∷ cs) all stop = comma_at blanks c cs (c == 44) refl all stop

pub gap_of : (comma : Bool) (text : List ℕ) → Parted comma text (past_gap comma text)
gap_of false text = let front = blanks_of text in record { gap = front.blanks; is = inl front.all; split = front.split }
gap_of true text =
    let front = blanks_of text in
    let parted = comma_of front.blanks (past_whitespace text) front.all (blanks_again text) in
    record { gap = parted.gap; is = parted.is; split = front.split ∙ parted.split }

-- a word, up to what ends a value
abbrev plain : ℕ → Bool
plain c = not (is_separator c)

pub record Worded (text : List ℕ) : Type 0 where
  pub more : List ℕ
  pub split : text ≡ word_of text ++ more
  pub ends : EndsValue more

word_at : (c : ℕ) (cs : List ℕ) (b : Bool) → is_separator c ≡ b → Worded cs → Worded (c ∷ cs)
word_at c cs true e w =
    record { more = c ∷ cs; split = ap (λ b. (if b then [] else (c ∷ word_of cs)) ++ (c ∷ cs)) (sym e); ends = e }
word_at c cs false e w = record {
  more = w.more;
  split = ap (λ l. c ∷ l) w.split ∙ ap (λ b. (if b then [] else (c ∷ word_of cs)) ++ w.more) (sym e);
  ends = w.ends;
}

pub word_split : (text : List ℕ) → Worded text
word_split [] = record { more = []; split = refl; ends = tt }
word_split (c ∷ cs) = word_at c cs (is_separator c) refl (word_split cs)

word_end : (more : List ℕ) → EndsValue more → word_of more ≡ []
word_end [] e = refl
word_end (c ∷ cs) e = ap (λ b. if b then [] else (c ∷ word_of cs)) e

word-append : (word more : List ℕ) → list_all plain word ≡ true → EndsValue more → word_of (word ++ more) ≡ word
word-append [] more h e = word_end more e
word-append (c ∷ cs) more h e =
    let parts = and_parts (plain c) (list_all plain cs) h in
    ap (λ b. if b then [] else (c ∷ word_of (cs ++ more))) (not-true (is_separator c) parts.0)
    ∙ ap (λ l. c ∷ l) (word-append cs more parts.1 e)

-- digits and signs end no value
digit_plain : (c : ℕ) → is_digit c ≡ true → plain c ≡ true
digit_plain c h = grind (arith, nat_tests)

digits_plain : (digits : List ℕ) → list_all is_digit digits ≡ true → list_all plain digits ≡ true
digits_plain [] h = refl
digits_plain (c ∷ cs) h =
    let parts = and_parts (is_digit c) (list_all is_digit cs) h in
    ap (λ b. b && list_all plain cs) (digit_plain c parts.0) ∙ digits_plain cs parts.1

number_plain : (digits : List ℕ) → is_number digits ≡ true → list_all plain digits ≡ true
number_plain [] h = absurd (true≢false (sym h))
number_plain (c ∷ cs) h = digits_plain (c ∷ cs) h

-- a number behind a sign or none is the INTEGER that the input rule reads
positive_is : (digits : List ℕ) → is_number digits ≡ true → number_of digits < 2 ^ 31
    → positive_of digits ≡ Some (pos (number_of digits))
positive_is digits h lt =
    let value = Some (pos (number_of digits)) in
    let fits : nat_lt (number_of digits) (2 ^ 31) ≡ true = grind (arith, nat_tests) in
    ap (λ b. if b && nat_lt (number_of digits) (2 ^ 31) then value else None) h ∙ ap (λ b. if b then value else None) fits

negative_is : (digits : List ℕ) → is_number digits ≡ true → number_of digits ≤ 2 ^ 31
    → negative_of digits ≡ Some (neg_ℤ (pos (number_of digits)))
negative_is digits h le =
    let value = Some (neg_ℤ (pos (number_of digits))) in
    let fits : nat_le (number_of digits) (2 ^ 31) ≡ true = grind (arith, nat_tests) in
    ap (λ b. if b && nat_le (number_of digits) (2 ^ 31) then value else None) h ∙ ap (λ b. if b then value else None) fits

unsigned_is : (digits : List ℕ) → is_number digits ≡ true → integer_of digits ≡ positive_of digits
unsigned_is [] h = absurd (true≢false (sym h))
unsigned_is (c ∷ cs) h =
    let digit = (and_parts (is_digit c) (list_all is_digit cs) h).0 in
    let no_minus : (c == 45) ≡ false = grind (arith, nat_tests) in
    let no_plus : (c == 43) ≡ false = grind (arith, nat_tests) in
    ap (λ b. if b then negative_of cs else (if c == 43 then positive_of cs else positive_of (c ∷ cs))) no_minus
    ∙ ap (λ b. if b then positive_of cs else positive_of (c ∷ cs)) no_plus

plus_is : (sign digits : List ℕ) (value : ℤ) → is_number digits ≡ true → (sign ≡ []) ⊎ (sign ≡ 43 ∷ []) → number_of digits < 2 ^ 31
    → value ≡ pos (number_of digits) → integer_of (sign ++ digits) ≡ Some value
plus_is sign digits value h (inl none) lt v =
    ap (λ s. integer_of (s ++ digits)) none ∙ unsigned_is digits h ∙ positive_is digits h lt ∙ ap (λ z. Some z) (sym v)
plus_is sign digits value h (inr plus) lt v =
    ap (λ s. integer_of (s ++ digits)) plus ∙ positive_is digits h lt ∙ ap (λ z. Some z) (sym v)

signed_is : (sign digits : List ℕ) (value : ℤ) → is_number digits ≡ true → HasSign sign (number_of digits) value
    → integer_of (sign ++ digits) ≡ Some value
signed_is sign digits value h (inl p) = plus_is sign digits value h p.0 p.1 p.2
signed_is sign digits value h (inr p) =
    ap (λ s. integer_of (s ++ digits)) p.0 ∙ negative_is digits h p.1 ∙ ap (λ z. Some z) (sym p.2)

signed_plain : (sign digits : List ℕ) (value : ℤ) → is_number digits ≡ true → HasSign sign (number_of digits) value
    → list_all plain (sign ++ digits) ≡ true
signed_plain sign digits value h (inl (inl none, lt, v)) = ap (λ s. list_all plain (s ++ digits)) none ∙ number_plain digits h
signed_plain sign digits value h (inl (inr plus, lt, v)) = ap (λ s. list_all plain (s ++ digits)) plus ∙ number_plain digits h
signed_plain sign digits value h (inr p) = ap (λ s. list_all plain (s ++ digits)) p.0 ∙ number_plain digits h

some_digit : (digits : List ℕ) → is_number digits ≡ true → 0 < length digits
some_digit [] h = absurd (true≢false (sym h))
some_digit (c ∷ cs) h = omega arith

starts_word : (word more : List ℕ) → list_all plain word ≡ true → 0 < length word → Starts (word ++ more)
starts_word [] more h some = absurd (omega arith)
starts_word (c ∷ cs) more h some = not-true (is_separator c) (and_parts (plain c) (list_all plain cs) h).0

reading_some : (before : ℕ) (text : List ℕ) → 0 < length text
    → reading_at before text ≡ reading_of (integer_of (word_of text)) (before + length (word_of text))
reading_some before [] some = absurd (omega arith)
reading_some before (c ∷ cs) some = refl

-- what the grammar has is found
pub found : (comma : Bool) (rest : List ℕ) (value : ℤ) (used : ℕ) → IsNext comma rest value used
    → next_value comma rest ≡ Integer value used
found comma rest value used n =
    let w = n.writes in
    let whole = n.word ++ n.more in
    let word_plain : list_all plain n.word ≡ true =
    subst (λ l. list_all plain l ≡ true) (sym w.text) (signed_plain w.sign w.digits value w.number w.signed) in
    let some : 0 < length n.word = omega (arith, some_digit w.digits w.number, ap length w.text, length-append w.sign w.digits) in
    let passed : past_gap comma rest ≡ whole =
    ap (past_gap comma) n.text ∙ gap-append comma n.gap whole n.parts (starts_word n.word n.more word_plain some) in
    let word : word_of whole ≡ n.word = word-append n.word n.more word_plain n.ends in
    let count : length rest - length whole + length n.word ≡ used =
    omega (arith, n.count, ap length n.text, length-append n.gap whole) in
    ap (λ l. reading_at (length rest - length l) l) passed
    ∙ reading_some (length rest - length whole) whole (omega (arith, some, length-append n.word n.more))
    ∙ ap (λ l. reading_of (integer_of l) (length rest - length whole + length l)) word
    ∙ ap (λ o. reading_of o (length rest - length whole + length n.word)) (ap integer_of w.text
    ∙ signed_is w.sign w.digits value w.number w.signed)
    ∙ ap (Integer value) count

-- what is found is in the grammar
no_value : (z : ℤ) → None ≡ Some z → ⊥
no_value z e = cc

chosen : (b : Bool) (x z : ℤ) → (if b then Some x else None) ≡ Some z → (b ≡ true) × (z ≡ x)
chosen true x z e = (refl, cc)
chosen false x z e = absurd (no_value z e)

positive_reads : (digits : List ℕ) (z : ℤ) → positive_of digits ≡ Some z → (is_number digits ≡ true) × (number_of digits < 2 ^ 31)
    × (z ≡ pos (number_of digits))
positive_reads digits z e =
    let test = chosen (is_number digits && nat_lt (number_of digits) (2 ^ 31)) (pos (number_of digits)) z e in
    let parts = and_parts (is_number digits) (nat_lt (number_of digits) (2 ^ 31)) test.0 in
    let fits = parts.1 in
    (parts.0, grind (arith, nat_tests), test.1)

negative_reads : (digits : List ℕ) (z : ℤ) → negative_of digits ≡ Some z → (is_number digits ≡ true) × (number_of digits ≤ 2 ^ 31)
    × (z ≡ neg_ℤ (pos (number_of digits)))
negative_reads digits z e =
    let test = chosen (is_number digits && nat_le (number_of digits) (2 ^ 31)) (neg_ℤ (pos (number_of digits))) z e in
    let parts = and_parts (is_number digits) (nat_le (number_of digits) (2 ^ 31)) test.0 in
    let fits = parts.1 in
    (parts.0, grind (arith, nat_tests), test.1)

reads_at : (c : ℕ) (cs : List ℕ) (z : ℤ) (minus : Bool) → (c == 45) ≡ minus → (plus : Bool) → (c == 43) ≡ plus
    → (if minus then negative_of cs else (if plus then positive_of cs else positive_of (c ∷ cs))) ≡ Some z → Writes (c ∷ cs) z
reads_at c cs z true m plus p e =
    let r = negative_reads cs z e in
    record { sign = 45 ∷ []; digits = cs; text = ap (λ d. d ∷ cs) (eqb-true c 45 m); number = r.0; signed = inr (refl, r.1, r.2) }
reads_at c cs z false m true p e =
    let r = positive_reads cs z e in
    record {
      sign = 43 ∷ [];
      digits = cs;
      text = ap (λ d. d ∷ cs) (eqb-true c 43 p);
      number = r.0;
      signed = inl (inr refl, r.1, r.2);
    }
reads_at c cs z false m false p e =
    let r = positive_reads (c ∷ cs) z e in
    record { sign = []; digits = c ∷ cs; text = refl; number = r.0; signed = inl (inl refl, r.1, r.2) }

reads : (word : List ℕ) (z : ℤ) → integer_of word ≡ Some z → Writes word z
reads [] z e = absurd (no_value z e)
reads (c ∷ cs) z e = reads_at c cs z (c == 45) refl (c == 43) refl e

no_integer : (z : ℤ) (used : ℕ) → NoInteger ≡ Integer z used → ⊥
no_integer z used e = cc

no_more : (z : ℤ) (used : ℕ) → NoMore ≡ Integer z used → ⊥
no_more z used e = cc

more_left : (o : Option ℤ) (n : ℕ) → reading_of o n ≡ NoMore → ⊥
more_left None n e = cc
more_left (Some z) n e = cc

integer_read : (o : Option ℤ) (n : ℕ) (z : ℤ) (used : ℕ) → reading_of o n ≡ Integer z used → (o ≡ Some z) × (used ≡ n)
integer_read None n z used e = absurd (no_integer z used e)
integer_read (Some x) n z used e = (cc, cc)

next_at : (comma : Bool) (rest text : List ℕ) (value : ℤ) (used : ℕ) → Parted comma rest text
    → reading_at (length rest - length text) text ≡ Integer value used → IsNext comma rest value used
next_at comma rest [] value used parted e = absurd (no_more value used e)
next_at comma rest (c ∷ cs) value used parted e =
    let text = c ∷ cs in
    let w = word_split text in
    let read = integer_read (integer_of (word_of text)) (length rest - length text + length (word_of text)) value used e in
    record {
      gap = parted.gap;
      word = word_of text;
      more = w.more;
      text = parted.split ∙ ap (λ l. parted.gap ++ l) w.split;
      parts = parted.is;
      writes = reads (word_of text) value read.0;
      ends = w.ends;
      count = omega (arith, read.1, ap length parted.split, length-append parted.gap text);
    }

pub only : (comma : Bool) (rest : List ℕ) (value : ℤ) (used : ℕ) → next_value comma rest ≡ Integer value used
    → IsNext comma rest value used
only comma rest value used e = next_at comma rest (past_gap comma rest) value used (gap_of comma rest) e

-- the end is found exactly behind a gap
end_at : (comma : Bool) (rest text : List ℕ) → Parted comma rest text → reading_at (length rest - length text) text ≡ NoMore
    → IsGap comma rest
end_at comma rest [] parted e = subst (IsGap comma) (sym (parted.split ∙ append-nil parted.gap)) parted.is
end_at comma rest (c ∷ cs) parted e =
    absurd (more_left (integer_of (word_of (c ∷ cs))) (length rest - length (c ∷ cs) + length (word_of (c ∷ cs))) e)

pub end_only : (comma : Bool) (rest : List ℕ) → next_value comma rest ≡ NoMore → IsGap comma rest
end_only comma rest e = end_at comma rest (past_gap comma rest) (gap_of comma rest) e

pub end_found : (comma : Bool) (rest : List ℕ) → IsGap comma rest → next_value comma rest ≡ NoMore
end_found comma rest gap =
    let nothing : past_gap comma rest ≡ [] = ap (past_gap comma) (sym (append-nil rest)) ∙ gap-append comma rest [] gap tt in
    ap (λ l. reading_at (length rest - length l) l) nothing
