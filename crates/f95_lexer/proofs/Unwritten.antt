-- What is found without a broken rule is written there as a token, the longest that begins there.
use Rattle.std.proofs.Common.{◌≡◌, ℕ, pos, suc, ◌+◌, ◌-◌, ◌*◌, ◌<◌, ◌≤◌, Bool, true, false, ◌&&◌, ◌==◌, not, nat_lt, cond, List, []}
use Rattle.std.proofs.Common.{◌∷◌, ◌++◌, length, map, take, drop, Option, Some, None, refl, sym, ap, ◌∙◌, subst, arith}
use Rattle.std.proofs.lemmas.Bool.Decides.{nat_tests}
use Rattle.std.proofs.lemmas.List.{length_push, length-map, length-append, take_at, drop_at, append_assoc}
use Rattle.a95_base.proofs.Tests.{and_second, equals_itself}
use Rattle.a95_base.specs.Input.{is_digit}
use Rattle.f95_lexer.specs.declared.lexeme.Lexeme.{Lexeme}
use Rattle.f95_lexer.specs.declared.lexeme.Lexeme.TheVariants as lexeme
use Rattle.f95_lexer.specs.declared.lexeme.Found.{Found}
use Rattle.f95_lexer.specs.declared.token.Mark.{Mark}
use Rattle.f95_lexer.specs.declared.token.Mark.TheVariants as mark
use Rattle.f95_lexer.specs.Characters.{is_blank, is_letter, is_name, is_delimiter, lower, AllPass, begins}
use Rattle.f95_lexer.specs.Lexeme.{front, behind_front, is_nil, begins_with, found, found_at, word_at, word_to_point, pointed}
use Rattle.f95_lexer.specs.Lexeme.{value_from, clings, taken, is_dotted, number_at, Literal, literal, text_at, symbol, symbol_at}
use Rattle.f95_lexer.specs.Lexeme.{symbol_of_one, symbol_of_two, longer_or}
use Rattle.f95_lexer.specs.Statements.{rules_of}
use Rattle.f95_lexer.specs.Spelling.{SpellsWord, SpellsNumber, SpellsText, SpellsDotted, SpellsMark, doubled, is_inside}
use Rattle.f95_lexer.specs.Spelling.{symbol_text}
use Rattle.f95_lexer.proofs.Written.{skip, stay, taken_none}

-- A lexeme as it is written, with what follows.
abbrev pub IsWritten : Lexeme → ℕ → List ℕ → List ℕ → Type 0
IsWritten lexeme.Blank c more rest = (is_blank c ≡ true) × (more ≡ [])
IsWritten lexeme.End c more rest = (c ≡ 10) × (more ≡ [])
IsWritten (lexeme.Word w) c more rest = SpellsWord w (c ∷ more) rest
IsWritten (lexeme.Number None b) c more rest = ⊥
IsWritten (lexeme.Number (Some z) b) c more rest = SpellsNumber z (c ∷ more) rest
IsWritten (lexeme.Text bytes) c more rest = SpellsText bytes (c ∷ more) rest
IsWritten lexeme.Unclosed c more rest = Unit {0}
IsWritten (lexeme.Pointed w) c more rest = SpellsDotted w (c ∷ more) rest
IsWritten (lexeme.Symbol m) c more rest = SpellsMark m (c ∷ more) rest
IsWritten lexeme.Stray c more rest = ⊥

-- what is found, unless it breaks a rule
pub record IsGood (c : ℕ) (cs : List ℕ) (f : Found) : Type 0 where
  pub good : rules_of f.lexeme ≡ [] → IsWritten f.lexeme c (take f.further cs) (drop f.further cs)

by_test : (c : ℕ) (cs : List ℕ) (b : Bool) (x y : Found) → (b ≡ true → IsGood c cs x) → (b ≡ false → IsGood c cs y)
    → IsGood c cs (cond b x y)
by_test c cs true x y f g = f refl
by_test c cs false x y f g = g refl

take_front : (p : ℕ → Bool) (cs : List ℕ) → take (length (front p cs)) cs ≡ front p cs
take_front p [] = refl
take_front p (c ∷ cs) = go (p c) (take_front p cs)
  where
    go : (b : Bool) → take (length (front p cs)) cs ≡ front p cs
        → take (length (cond b (c ∷ front p cs) [])) (c ∷ cs) ≡ cond b (c ∷ front p cs) []
    go true more = ap (λ l. c ∷ l) more
    go false more = refl

pub drop_front : (p : ℕ → Bool) (cs : List ℕ) → drop (length (front p cs)) cs ≡ behind_front p cs
drop_front p [] = refl
drop_front p (c ∷ cs) = go (p c) (drop_front p cs)
  where
    go : (b : Bool) → drop (length (front p cs)) cs ≡ behind_front p cs
        → drop (length (cond b (c ∷ front p cs) [])) (c ∷ cs) ≡ cond b (behind_front p cs) (c ∷ cs)
    go true more = more
    go false more = refl

front_passes : (p : ℕ → Bool) (cs : List ℕ) → AllPass p (front p cs)
front_passes p [] = tt
front_passes p (c ∷ cs) = go (p c) refl (front_passes p cs)
  where
    go : (b : Bool) → p c ≡ b → AllPass p (front p cs) → AllPass p (cond b (c ∷ front p cs) [])
    go true e more = (e, more)
    go false e more = tt

behind_stops : (p : ℕ → Bool) (cs : List ℕ) → begins p (behind_front p cs) ≡ false
behind_stops p [] = refl
behind_stops p (c ∷ cs) = go (p c) refl (behind_stops p cs)
  where
    go : (b : Bool) → p c ≡ b → begins p (behind_front p cs) ≡ false → begins p (cond b (behind_front p cs) (c ∷ cs)) ≡ false
    go true e more = more
    go false e more = e

-- a test that would break a rule has failed
unbroken : (b : Bool) (r : ℕ) → cond b (r ∷ []) [] ≡ [] → b ≡ false
unbroken true r e = cc
unbroken false r e = refl

word_good : (c : ℕ) (cs : List ℕ) → is_letter c ≡ true → IsGood c cs (word_at c cs)
word_good c cs letter = record {
  good = λ rules.
      let w = lower c ∷ map lower (front is_name cs) in
      let n = length (front is_name cs) in
      let few : nat_lt 31 (length w) ≡ false = unbroken (nat_lt 31 (length w)) 7 rules in
      let short : length w ≤ 31 = grind (arith, nat_tests) in
      let spelled : SpellsWord w (c ∷ front is_name cs) (behind_front is_name cs) =
      (record {
        letter = c;
        more = front is_name cs;
        is = refl;
        begun = letter;
        names = front_passes is_name cs;
        lowered = refl;
        short = short;
        longest = behind_stops is_name cs;
      }) in
      subst (λ l. SpellsWord w (c ∷ l) (drop n cs)) (sym (take_front is_name cs))
      (subst (λ l. SpellsWord w (c ∷ front is_name cs) l) (sym (drop_front is_name cs)) spelled);
}

-- a number, by the test of its size
number_cases : (c : ℕ) (cs : List ℕ) (b k : Bool) → is_digit c ≡ true
    → nat_lt (value_from (c - 48) (front is_digit cs)) 2147483648 ≡ b → clings (behind_front is_digit cs) ≡ k
    → IsGood c cs
    (found (lexeme.Number (cond b (Some (pos (value_from (c - 48) (front is_digit cs)))) None) k)
    (length (front is_digit cs) + taken (behind_front is_digit cs)))
number_cases c cs false k digit size apart = record { good = λ rules. cc }
number_cases c cs true true digit size apart = record { good = λ rules. cc }
number_cases c cs true false digit size apart = record {
  good = λ rules.
      let ds = front is_digit cs in
      let behind = behind_front is_digit cs in
      let start : 0 * 10 + (c - 48) ≡ c - 48 = omega arith in
      let value = value_from (c - 48) ds in
      let small : value < 2147483648 = grind (arith, nat_tests) in
      let same : value_from 0 (c ∷ ds) ≡ value = ap (λ n. value_from n ds) start in
      let count : length ds + taken behind ≡ length ds = omega (arith, taken_none behind apart) in
      let spelled : SpellsNumber (pos value) (c ∷ ds) behind =
      (record {
        digit = c;
        more = ds;
        is = refl;
        begun = digit;
        digits = front_passes is_digit cs;
        value = ap pos (sym same);
        small = subst (λ n. n < 2147483648) (sym same) small;
        longest = behind_stops is_digit cs;
        apart = apart;
      }) in
      subst (λ n. SpellsNumber (pos value) (c ∷ take n cs) (drop n cs)) (sym count)
      (subst (λ l. SpellsNumber (pos value) (c ∷ l) (drop (length ds) cs)) (sym (take_front is_digit cs))
      (subst (λ l. SpellsNumber (pos value) (c ∷ ds) l) (sym (drop_front is_digit cs)) spelled));
}

number_good : (c : ℕ) (cs : List ℕ) → is_digit c ≡ true → IsGood c cs (number_at c cs)
number_good c cs digit =
    number_cases c cs (nat_lt (value_from (c - 48) (front is_digit cs)) 2147483648)
    (clings (behind_front is_digit cs)) digit refl refl

-- Texts.

abbrev whole : ℕ → Bool → List ℕ → List ℕ
whole d true cs = d ∷ cs
whole d false cs = cs

abbrev many : Bool → ℕ → ℕ
many true n = n + 1
many false n = n

-- the characters of a closed text, and what stands behind it
record IsText (d : ℕ) (behind : Bool) (cs : List ℕ) (t : Literal) : Type 0 where
  rest : List ℕ
  is : whole d behind cs ≡ doubled d t.bytes ++ (d ∷ rest)
  count : many behind t.taken ≡ length (doubled d t.bytes) + 1
  inside : AllPass is_inside t.bytes
  longest : begins (λ c. c == d) rest ≡ false

-- unless the text is open
record IsClosed (d : ℕ) (behind : Bool) (cs : List ℕ) (t : Literal) : Type 0 where
  if_closed : t.closed ≡ true → IsText d behind cs t

closed_test : (d : ℕ) (behind : Bool) (cs : List ℕ) (b : Bool) (x y : Literal) → (b ≡ true → IsClosed d behind cs x)
    → (b ≡ false → IsClosed d behind cs y) → IsClosed d behind cs (cond b x y)
closed_test d behind cs true x y f g = f refl
closed_test d behind cs false x y f g = g refl

text_parts : (d : ℕ) (behind : Bool) (cs : List ℕ) → d == 10 ≡ false → IsClosed d behind cs (literal d behind cs)
text_parts d true [] feed =
    record { if_closed = λ closed. record { rest = []; is = refl; count = refl; inside = tt; longest = refl } }
text_parts d false [] feed = record { if_closed = λ closed. cc }
text_parts d false (c ∷ cs) feed =
    closed_test d false (c ∷ cs) (c == 10) _ _ (λ e. record { if_closed = λ closed. cc })
    (λ other. closed_test d false (c ∷ cs) (c == d) _ _
    (λ e. let same : c ≡ d = grind (arith, nat_tests) in record {
      if_closed = λ closed.
          let t = (text_parts d true cs feed).if_closed closed in
          record { rest = t.rest; is = ap (λ x. x ∷ cs) same ∙ t.is; count = t.count; inside = t.inside; longest = t.longest };
    })
    (λ e. record {
      if_closed = λ closed.
          let t = (text_parts d false cs feed).if_closed closed in
          let bytes = (literal d false cs).bytes in
          let written : doubled d (c ∷ bytes) ≡ c ∷ doubled d bytes = skip (c == d) _ _ _ e refl in
          record {
            rest = t.rest;
            is = ap (λ l. c ∷ l) t.is ∙ sym (ap (λ l. l ++ (d ∷ t.rest)) written);
            count =
                ap (λ n. n + 1) t.count
                ∙ (let n = length (doubled d bytes) in let step : n + 1 + 1 ≡ suc n + 1 = omega arith in step)
                ∙ ap (λ l. length l + 1) (sym written);
            inside = (ap not other, t.inside);
            longest = t.longest;
          };
    }))
text_parts d true (c ∷ cs) feed =
    closed_test d true (c ∷ cs) (c == d) _ _
    (λ e. let same : c ≡ d = grind (arith, nat_tests) in record {
      if_closed = λ closed.
          let t = (text_parts d false cs feed).if_closed closed in
          let bytes = (literal d false cs).bytes in
          let written : doubled d (d ∷ bytes) ≡ d ∷ d ∷ doubled d bytes = stay (d == d) _ _ (equals_itself d) in
          record {
            rest = t.rest;
            is = ap (λ x. d ∷ x ∷ cs) same ∙ ap (λ l. d ∷ d ∷ l) t.is ∙ sym (ap (λ l. l ++ (d ∷ t.rest)) written);
            count =
                ap (λ n. n + 1 + 1) t.count
                ∙ (let n = length (doubled d bytes) in let step : n + 1 + 1 + 1 ≡ suc (suc n) + 1 = omega arith in step)
                ∙ ap (λ l. length l + 1) (sym written);
            inside = (ap not feed, t.inside);
            longest = t.longest;
          };
    })
    (λ e. record { if_closed = λ closed. record { rest = c ∷ cs; is = refl; count = refl; inside = tt; longest = e } })

text_cases : (d : ℕ) (cs : List ℕ) (b : Bool) → is_delimiter d ≡ true → d == 10 ≡ false → (literal d false cs).closed ≡ b
    → IsGood d cs (found (cond b (lexeme.Text (literal d false cs).bytes) lexeme.Unclosed) (literal d false cs).taken)
text_cases d cs false delimiter feed closed = record { good = λ rules. tt }
text_cases d cs true delimiter feed closed = record {
  good = λ rules.
      let bytes = (literal d false cs).bytes in
      let t = (text_parts d false cs feed).if_closed closed in
      let written = doubled d bytes ++ d ∷ [] in
      let apart : cs ≡ written ++ t.rest = t.is ∙ sym (append_assoc (doubled d bytes) (d ∷ []) t.rest) in
      let count : length written ≡ (literal d false cs).taken = length_push (doubled d bytes) d ∙ sym t.count in
      let spelled : SpellsText bytes (d ∷ written) t.rest =
      (record { delimiter = d; begun = delimiter; is = refl; inside = t.inside; longest = t.longest }) in
      subst (λ l. SpellsText bytes (d ∷ take (literal d false cs).taken l) (drop (literal d false cs).taken l)) (sym apart)
      (subst (λ l. SpellsText bytes (d ∷ l) (drop (literal d false cs).taken (written ++ t.rest)))
      (sym (take_at written t.rest _ count))
      (subst (λ l. SpellsText bytes (d ∷ written) l) (sym (drop_at written t.rest _ count)) spelled));
}

text_good : (d : ℕ) (cs : List ℕ) → is_delimiter d ≡ true → IsGood d cs (text_at d cs)
text_good d cs delimiter = let feed : d == 10 ≡ false =
    grind (arith, nat_tests) in text_cases d cs (literal d false cs).closed delimiter feed refl

-- Dotted words.

pub begun_by : (e : ℕ) (cs : List ℕ) → begins_with e cs ≡ true → cs ≡ e ∷ drop 1 cs
begun_by e [] h = cc
begun_by e (c ∷ cs) h = let same : c ≡ e = grind (arith, nat_tests) in ap (λ x. x ∷ cs) same

pub front_behind : (p : ℕ → Bool) (cs : List ℕ) → cs ≡ front p cs ++ behind_front p cs
front_behind p [] = refl
front_behind p (c ∷ cs) = go (p c) (front_behind p cs)
  where
    go : (b : Bool) → cs ≡ front p cs ++ behind_front p cs
        → c ∷ cs ≡ cond b (c ∷ front p cs) [] ++ cond b (behind_front p cs) (c ∷ cs)
    go true more = ap (λ l. c ∷ l) more
    go false more = refl

no_rule : (b : Bool) (r : ℕ) → cond b [] (r ∷ []) ≡ [] → b ≡ true
no_rule true r e = refl
no_rule false r e = cc

dotted_cases : (cs : List ℕ) (b : Bool) → not (is_nil (front is_letter cs)) && begins_with 46 (behind_front is_letter cs) ≡ b
    → IsGood 46 cs (pointed (cond b (Some (map lower (front is_letter cs))) None))
dotted_cases cs false test = record { good = λ rules. cc }
dotted_cases cs true test = record {
  good = λ rules.
      let letters = front is_letter cs in
      let w = map lower letters in
      let rest = drop 1 (behind_front is_letter cs) in
      let written = letters ++ 46 ∷ [] in
      let point : behind_front is_letter cs ≡ 46 ∷ rest =
      begun_by 46 (behind_front is_letter cs) (and_second (not (is_nil letters)) (begins_with 46 (behind_front is_letter cs)) test) in
      let apart : cs ≡ written ++ rest =
      front_behind is_letter cs ∙ ap (λ l. letters ++ l) point ∙ sym (append_assoc letters (46 ∷ []) rest) in
      let count : length written ≡ length w + 1 = omega (arith, length_push letters 46, length-map letters lower) in
      let spelled : SpellsDotted w (46 ∷ written) rest =
      (record {
        letters = letters;
        is = refl;
        names = front_passes is_letter cs;
        lowered = refl;
        word = no_rule (is_dotted w) 10 rules;
      }) in
      subst (λ l. SpellsDotted w (46 ∷ take (length w + 1) l) (drop (length w + 1) l)) (sym apart)
      (subst (λ l. SpellsDotted w (46 ∷ l) (drop (length w + 1) (written ++ rest))) (sym (take_at written rest _ count))
      (subst (λ l. SpellsDotted w (46 ∷ written) l) (sym (drop_at written rest _ count)) spelled));
}

point_good : (cs : List ℕ) → IsGood 46 cs (pointed (word_to_point cs))
point_good cs = dotted_cases cs (not (is_nil (front is_letter cs)) && begins_with 46 (behind_front is_letter cs)) refl

-- Symbols.

row : (b : Bool) (a : Mark) (y : Option Mark) (m : Mark) (text : List ℕ) → cond b (Some a) y ≡ Some m
    → (b ≡ true → symbol_text a ≡ text) → (y ≡ Some m → symbol_text m ≡ text) → symbol_text m ≡ text
row true a y m text e f g = let same : a ≡ m = cc in subst (λ x. symbol_text x ≡ text) same (f refl)
row false a y m text e f g = g e

pair : (x y c d : ℕ) → c == x && d == y ≡ true → x ∷ y ∷ [] ≡ c ∷ d ∷ []
pair x y c d e = let first : x ≡ c = grind (arith, nat_tests) in let other : y ≡ d =
    grind (arith, nat_tests) in ap (λ z. z ∷ y ∷ []) first ∙ ap (λ z. c ∷ z ∷ []) other

one : (x c : ℕ) → c == x ≡ true → x ∷ [] ≡ c ∷ []
one x c e = let first : x ≡ c = grind (arith, nat_tests) in ap (λ z. z ∷ []) first

two_back : (c d : ℕ) (m : Mark) → symbol_of_two c d ≡ Some m → symbol_text m ≡ c ∷ d ∷ []
two_back c d m e0 =
    row (c == 40 && d == 47) mark.OpenArray _ m _ e0 (pair 40 47 c d)
    (λ e1. row (c == 47 && d == 41) mark.CloseArray _ m _ e1 (pair 47 41 c d)
    (λ e2. row (c == 58 && d == 58) mark.DoubleColon _ m _ e2 (pair 58 58 c d)
    (λ e3. row (c == 61 && d == 61) mark.Equal _ m _ e3 (pair 61 61 c d)
    (λ e4. row (c == 47 && d == 61) mark.NotEqual _ m _ e4 (pair 47 61 c d)
    (λ e5. row (c == 60 && d == 61) mark.LessEqual _ m _ e5 (pair 60 61 c d)
    (λ e6. row (c == 62 && d == 61) mark.GreaterEqual _ m _ e6 (pair 62 61 c d)
    (λ e7. row (c == 42 && d == 42) mark.Power _ m _ e7 (pair 42 42 c d)
    (λ e8. row (c == 47 && d == 47) mark.Concat _ m _ e8 (pair 47 47 c d)
    (λ e9. cc)))))))))

one_back : (c : ℕ) (m : Mark) → symbol_of_one c ≡ Some m → symbol_text m ≡ c ∷ []
one_back c m e0 =
    row (c == 40) mark.Open _ m _ e0 (one 40 c)
    (λ e1. row (c == 41) mark.Close _ m _ e1 (one 41 c)
    (λ e2. row (c == 44) mark.Comma _ m _ e2 (one 44 c)
    (λ e3. row (c == 58) mark.Colon _ m _ e3 (one 58 c)
    (λ e4. row (c == 61) mark.Assign _ m _ e4 (one 61 c)
    (λ e5. row (c == 60) mark.Less _ m _ e5 (one 60 c)
    (λ e6. row (c == 62) mark.Greater _ m _ e6 (one 62 c)
    (λ e7. row (c == 43) mark.Plus _ m _ e7 (one 43 c)
    (λ e8. row (c == 45) mark.Minus _ m _ e8 (one 45 c)
    (λ e9. row (c == 42) mark.Star _ m _ e9 (one 42 c)
    (λ e10. row (c == 47) mark.Slash _ m _ e10 (one 47 c)
    (λ e11. cc)))))))))))

-- a symbol has one character, or two that are found as it
data Size (m : Mark) : Type 0 where
  small : length (symbol_text m) ≡ 1 → Size m
  large : (x y : ℕ) → symbol_text m ≡ x ∷ y ∷ [] → symbol_of_two x y ≡ Some m → Size m

size_of : (m : Mark) → Size m
size_of mark.Open = small refl
size_of mark.Close = small refl
size_of mark.OpenArray = large 40 47 refl refl
size_of mark.CloseArray = large 47 41 refl refl
size_of mark.Comma = small refl
size_of mark.Colon = small refl
size_of mark.DoubleColon = large 58 58 refl refl
size_of mark.Assign = small refl
size_of mark.Equal = large 61 61 refl refl
size_of mark.NotEqual = large 47 61 refl refl
size_of mark.Less = small refl
size_of mark.LessEqual = large 60 61 refl refl
size_of mark.Greater = small refl
size_of mark.GreaterEqual = large 62 61 refl refl
size_of mark.Plus = small refl
size_of mark.Minus = small refl
size_of mark.Star = small refl
size_of mark.Power = large 42 42 refl refl
size_of mark.Slash = small refl
size_of mark.Concat = large 47 47 refl refl

two_at_most : (m : Mark) → Size m → length (symbol_text m) ≤ 2
two_at_most m (small e) = omega (arith, e)
two_at_most m (large x y e f) = omega (arith, ap length e)

-- where no two characters are a symbol, no other symbol begins there that is longer
one_at_most : (c d : ℕ) (ds more : List ℕ) (other : Mark) → symbol_of_two c d ≡ None → c ∷ d ∷ ds ≡ symbol_text other ++ more
    → Size other → length (symbol_text other) ≤ 1
one_at_most c d ds more other none e (small f) = omega (arith, f)
one_at_most c d ds more other none e (large x y text two) =
    let parts : c ∷ d ∷ ds ≡ x ∷ y ∷ more = e ∙ ap (λ l. l ++ more) text in
    let first : x ≡ c = cc in
    let second_one : y ≡ d = cc in
    let found_two : symbol_of_two c d ≡ Some other =
    subst (λ z. symbol_of_two z d ≡ Some other) first (subst (λ z. symbol_of_two x z ≡ Some other) second_one two) in
    let both : None ≡ Some other = sym none ∙ found_two in
    cc

at_end_length : (c : ℕ) (more : List ℕ) (other : Mark) → c ∷ [] ≡ symbol_text other ++ more → length (symbol_text other) ≤ 1
at_end_length c more other e = omega (arith, ap length e, length-append (symbol_text other) more)

symbol_end : (c : ℕ) (o : Option Mark) → symbol_of_one c ≡ o → IsGood c [] (symbol 0 o)
symbol_end c None e = record { good = λ rules. cc }
symbol_end c (Some m) e =
    record { good = λ rules. record { is = sym (one_back c m e); longest = λ other. λ more. λ f. at_end_length c more other f } }

symbol_short : (c d : ℕ) (ds : List ℕ) (o : Option Mark) → symbol_of_two c d ≡ None → symbol_of_one c ≡ o
    → IsGood c (d ∷ ds) (symbol 0 o)
symbol_short c d ds None none e = record { good = λ rules. cc }
symbol_short c d ds (Some m) none e =
    record {
      good = λ rules. record {
        is = sym (one_back c m e);
        longest = λ other. λ more. λ f. one_at_most c d ds more other none f (size_of other);
      };
    }

symbol_long : (c d : ℕ) (ds : List ℕ) (o : Option Mark) → symbol_of_two c d ≡ o → IsGood c (d ∷ ds) (longer_or o (symbol_of_one c))
symbol_long c d ds None e = symbol_short c d ds (symbol_of_one c) e refl
symbol_long c d ds (Some m) e =
    record {
      good = λ rules. record {
        is = sym (two_back c d m e);
        longest = λ other. λ more. λ f. two_at_most other (size_of other);
      };
    }

symbol_good : (c : ℕ) (cs : List ℕ) → IsGood c cs (symbol_at c cs)
symbol_good c [] = symbol_end c (symbol_of_one c) refl
symbol_good c (d ∷ ds) = symbol_long c d ds (symbol_of_two c d) refl

pub found_good : (c : ℕ) (cs : List ℕ) → IsGood c cs (found_at c cs)
found_good c cs =
    by_test c cs (is_blank c) _ _ (λ e. record { good = λ rules. (e, refl) })
    (λ e1. by_test c cs (c == 10) _ _ (λ e. record { good = λ rules. (let is : c ≡ 10 = grind (arith, nat_tests) in is, refl) })
    (λ e2. by_test c cs (is_letter c) _ _ (λ e. word_good c cs e)
    (λ e3. by_test c cs (is_digit c) _ _ (λ e. number_good c cs e)
    (λ e4. by_test c cs (is_delimiter c) _ _ (λ e. text_good c cs e)
    (λ e5. by_test c cs (c == 46) _ _ (λ e. let is : 46
    ≡ c = grind (arith, nat_tests) in subst (λ x. IsGood x cs (pointed (word_to_point cs))) is (point_good cs))
    (λ e6. symbol_good c cs))))))
