-- What is written as a token is found as this token.
use Rattle.std.proofs.Common.{◌≡◌, ℕ, pos, suc, ◌+◌, ◌-◌, ◌*◌, ◌<◌, ◌≤◌, Bool, true, false, ◌&&◌, ◌||◌, ◌==◌, not, nat_lt, cond}
use Rattle.std.proofs.Common.{List, [], ◌∷◌, ◌++◌, length, map, Option, Some, None, is_some, refl, sym, ap, ◌∙◌, append_assoc}
use Rattle.std.proofs.Common.{arith}
use Rattle.std.proofs.lemmas.Bool.Decides.{nat_tests}
use Rattle.std.proofs.lemmas.List.{length_push, length-map}
use Rattle.std.proofs.lemmas.Bool.{not-true}
use Rattle.a95_base.proofs.Tests.{equals_itself}
use Rattle.a95_base.specs.Input.{is_digit}
use Rattle.f95_lexer.specs.declared.lexeme.Lexeme.{Lexeme}
use Rattle.f95_lexer.specs.declared.lexeme.Lexeme.TheVariants as lexeme
use Rattle.f95_lexer.specs.declared.token.Mark.{Mark}
use Rattle.f95_lexer.specs.declared.token.Mark.TheVariants as mark
use Rattle.f95_lexer.specs.Characters.{is_blank, is_letter, is_name, is_delimiter, lower, AllPass, begins}
use Rattle.f95_lexer.specs.Lexeme.{front, behind_front, is_nil, begins_with, found, found_at, word_at, word_to_point, pointed}
use Rattle.f95_lexer.specs.Lexeme.{value_from, integer, clings, taken, begins_dotted, is_dotted, number_at, Literal, literal}
use Rattle.f95_lexer.specs.Lexeme.{one_more, holds, ended, text_at, text_lexeme, longer_or}
use Rattle.f95_lexer.specs.Spelling.{doubled, is_inside, symbol_text}

pub skip : {A : Type 0} (b : Bool) (x y z : A) → b ≡ false → y ≡ z → cond b x y ≡ z
skip b x y z no_test e = ap (λ t. cond t x y) no_test ∙ e

pub stay : {A : Type 0} (b : Bool) (x y : A) → b ≡ true → cond b x y ≡ x
stay b x y test = ap (λ t. cond t x y) test

letter_found : (c : ℕ) (cs : List ℕ) → is_letter c ≡ true → found_at c cs ≡ word_at c cs
letter_found c cs e =
    let blank : is_blank c ≡ false = grind (arith, nat_tests) in
    let feed : c == 10 ≡ false = grind (arith, nat_tests) in
    skip (is_blank c) _ _ _ blank (skip (c == 10) _ _ _ feed (stay (is_letter c) _ _ e))

digit_found : (c : ℕ) (cs : List ℕ) → is_digit c ≡ true → found_at c cs ≡ number_at c cs
digit_found c cs e =
    let blank : is_blank c ≡ false = grind (arith, nat_tests) in
    let feed : c == 10 ≡ false = grind (arith, nat_tests) in
    let letter : is_letter c ≡ false = grind (arith, nat_tests) in
    skip (is_blank c) _ _ _ blank (skip (c == 10) _ _ _ feed (skip (is_letter c) _ _ _ letter (stay (is_digit c) _ _ e)))

delimiter_found : (c : ℕ) (cs : List ℕ) → is_delimiter c ≡ true → found_at c cs ≡ text_at c cs
delimiter_found c cs e =
    let blank : is_blank c ≡ false = grind (arith, nat_tests) in
    let feed : c == 10 ≡ false = grind (arith, nat_tests) in
    let letter : is_letter c ≡ false = grind (arith, nat_tests) in
    let digit : is_digit c ≡ false = grind (arith, nat_tests) in
    skip (is_blank c) _ _ _ blank
    (skip (c == 10) _ _ _ feed (skip (is_letter c) _ _ _ letter (skip (is_digit c) _ _ _ digit (stay (is_delimiter c) _ _ e))))

front_is : (p : ℕ → Bool) (w rest : List ℕ) → AllPass p w → begins p rest ≡ false → front p (w ++ rest) ≡ w
front_is p [] [] all none = refl
front_is p [] (c ∷ cs) all none = ap (λ t. cond t (c ∷ front p cs) []) none
front_is p (c ∷ w) rest all none = stay (p c) _ _ all.0 ∙ ap (λ l. c ∷ l) (front_is p w rest all.1 none)

behind_is : (p : ℕ → Bool) (w rest : List ℕ) → AllPass p w → begins p rest ≡ false → behind_front p (w ++ rest) ≡ rest
behind_is p [] [] all none = refl
behind_is p [] (c ∷ cs) all none = ap (λ t. cond t (behind_front p cs) (c ∷ cs)) none
behind_is p (c ∷ w) rest all none = stay (p c) _ _ all.0 ∙ behind_is p w rest all.1 none

pub word_found : (c : ℕ) (w rest : List ℕ) → is_letter c ≡ true → AllPass is_name w → begins is_name rest ≡ false
    → found_at c (w ++ rest) ≡ found (lexeme.Word (lower c ∷ map lower w)) (length w)
word_found c w rest e all none =
    letter_found c (w ++ rest) e
    ∙ ap (λ l. found (lexeme.Word (lower c ∷ map lower l)) (length l)) (front_is is_name w rest all none)

no_taking : (l u p : Bool) (w : Option (List ℕ)) → l || u || (p && not (begins_dotted w)) ≡ false
    → u || (p && not (is_some w)) ≡ false
no_taking true u p w e = cc
no_taking false true p w e = cc
no_taking false false false w e = refl
no_taking false false true None e = cc
no_taking false false true (Some w) e = refl

-- what is followed by nothing that clings takes nothing with it
pub taken_none : (rest : List ℕ) → clings rest ≡ false → taken rest ≡ 0
taken_none [] apart = refl
taken_none (c ∷ cs) apart = ap (λ t. cond t 1 0) (no_taking (is_letter c) (c == 95) (c == 46) (word_to_point cs) apart)

integer_is : (n : ℕ) → n < 2147483648 → integer n ≡ Some (pos n)
integer_is n small =
    let b : nat_lt n 2147483648 ≡ true = grind (arith, nat_tests) in
    stay (nat_lt n 2147483648) _ _ b

pub number_found : (c : ℕ) (w rest : List ℕ) → is_digit c ≡ true → AllPass is_digit w → begins is_digit rest ≡ false
    → clings rest ≡ false
    → value_from 0 (c ∷ w) < 2147483648
    → found_at c (w ++ rest) ≡ found (lexeme.Number (Some (pos (value_from 0 (c ∷ w)))) false) (length w)
number_found c w rest e all none apart small =
    let start : 0 * 10 + (c - 48) ≡ c - 48 = omega arith in
    let value : integer (value_from (c - 48) w) ≡ Some (pos (value_from 0 (c ∷ w))) =
    ap (λ n. integer (value_from n w)) (sym start) ∙ integer_is (value_from 0 (c ∷ w)) small in
    let count : length w + taken rest ≡ length w = omega (arith, taken_none rest apart) in
    digit_found c (w ++ rest) e
    ∙ ap (λ l. found (lexeme.Number (integer (value_from (c - 48) l)) (clings (behind_front is_digit (w ++ rest))))
    (length l + taken (behind_front is_digit (w ++ rest)))) (front_is is_digit w rest all none)
    ∙ ap (λ r. found (lexeme.Number (integer (value_from (c - 48) w)) (clings r)) (length w + taken r))
    (behind_is is_digit w rest all none)
    ∙ ap (λ v. found (lexeme.Number v (clings rest)) (length w + taken rest)) value
    ∙ ap (λ b. found (lexeme.Number (Some (pos (value_from 0 (c ∷ w)))) b) (length w + taken rest)) apart
    ∙ ap (λ n. found (lexeme.Number (Some (pos (value_from 0 (c ∷ w)))) false) n) count

-- a closed text
abbrev closed_text : List ℕ → ℕ → Literal
closed_text bytes n = record { bytes = bytes; taken = n; closed = true }

-- right behind a delimiter that isn't doubled
closes : (d : ℕ) (rest : List ℕ) → begins (λ c. c == d) rest ≡ false → literal d true rest ≡ ended true
closes d [] none = refl
closes d (c ∷ cs) none = skip (c == d) _ _ _ none refl

delimiter_met : (d : ℕ) (cs : List ℕ) → d == 10 ≡ false → literal d false (d ∷ cs) ≡ one_more (literal d true cs)
delimiter_met d cs feed = skip (d == 10) _ _ _ feed (stay (d == d) _ _ (equals_itself d))

by_delimiter : (d c : ℕ) (cs rest : List ℕ) (b : Bool) → c == d ≡ b → d == 10 ≡ false → c == 10 ≡ false
    → literal d false (doubled d cs ++ (d ∷ rest)) ≡ closed_text cs (length (doubled d cs) + 1)
    → literal d false (cond b (d ∷ d ∷ doubled d cs) (c ∷ doubled d cs) ++ (d ∷ rest))
    ≡ closed_text (c ∷ cs) (length (cond b (d ∷ d ∷ doubled d cs) (c ∷ doubled d cs)) + 1)
by_delimiter d c cs rest true e feed other more =
    let n = length (doubled d cs) in
    let is : d ≡ c = grind (arith, nat_tests) in
    let count : n + 1 + 1 + 1 ≡ suc (suc n) + 1 = omega arith in
    delimiter_met d (d ∷ (doubled d cs ++ (d ∷ rest))) feed
    ∙ ap one_more (stay (d == d) _ _ (equals_itself d) ∙ ap (holds d) more)
    ∙ ap (λ x. closed_text (x ∷ cs) (n + 1 + 1 + 1)) is ∙ ap (closed_text (c ∷ cs)) count
by_delimiter d c cs rest false e feed other more =
    let n = length (doubled d cs) in
    let count : n + 1 + 1 ≡ suc n + 1 = omega arith in
    skip (c == 10) _ _ _ other (skip (c == d) _ _ _ e (ap (holds c) more)) ∙ ap (closed_text (c ∷ cs)) count

literal_is : (d : ℕ) (bytes rest : List ℕ) → d == 10 ≡ false → AllPass is_inside bytes → begins (λ c. c == d) rest ≡ false
    → literal d false (doubled d bytes ++ (d ∷ rest)) ≡ closed_text bytes (length (doubled d bytes) + 1)
literal_is d [] rest feed inside none = delimiter_met d rest feed ∙ ap one_more (closes d rest none)
literal_is d (c ∷ cs) rest feed inside none =
    by_delimiter d c cs rest (c == d) refl feed (not-true (c == 10) inside.0) (literal_is d cs rest feed inside.1 none)

pub text_found : (d : ℕ) (bytes rest : List ℕ) → is_delimiter d ≡ true → AllPass is_inside bytes → begins (λ c. c == d) rest ≡ false
    → found_at d ((doubled d bytes ++ d ∷ []) ++ rest) ≡ found (lexeme.Text bytes) (length (doubled d bytes ++ d ∷ []))
text_found d bytes rest e inside none =
    let feed : d == 10 ≡ false = grind (arith, nat_tests) in
    let all : literal d false ((doubled d bytes ++ d ∷ []) ++ rest) ≡ closed_text bytes (length (doubled d bytes) + 1) =
    ap (literal d false) (append_assoc (doubled d bytes) (d ∷ []) rest) ∙ literal_is d bytes rest feed inside none in
    delimiter_found d ((doubled d bytes ++ d ∷ []) ++ rest) e
    ∙ ap (λ t. found (text_lexeme t) t.taken) all
    ∙ ap (λ n. found (lexeme.Text bytes) n) (sym (length_push (doubled d bytes) d))

pointed_is : (letters rest : List ℕ) → AllPass is_letter letters → is_dotted (map lower letters) ≡ true
    → word_to_point (letters ++ 46 ∷ rest) ≡ Some (map lower letters)
pointed_is [] rest all word = cc
pointed_is (c ∷ cs) rest all word =
    let front_of = front_is is_letter (c ∷ cs) (46 ∷ rest) all refl in
    let behind = behind_is is_letter (c ∷ cs) (46 ∷ rest) all refl in
    ap (λ l. cond (not (is_nil l) && begins_with 46 (behind_front is_letter ((c ∷ cs) ++ 46 ∷ rest)))
    (Some (map lower l)) None) front_of
    ∙ ap (λ r. cond (not (is_nil (c ∷ cs)) && begins_with 46 r) (Some (map lower (c ∷ cs))) None) behind

pub dotted_found : (letters rest : List ℕ) → AllPass is_letter letters → is_dotted (map lower letters) ≡ true
    → found_at 46 ((letters ++ 46 ∷ []) ++ rest) ≡ found (lexeme.Pointed (map lower letters)) (length (letters ++ 46 ∷ []))
dotted_found letters rest all word =
    let count : length (map lower letters) + 1 ≡ length (letters ++ 46 ∷ []) =
    omega (arith, length_push letters 46, length-map letters lower) in
    ap (λ l. pointed (word_to_point l)) (append_assoc letters (46 ∷ []) rest)
    ∙ ap pointed (pointed_is letters rest all word)
    ∙ ap (λ n. found (lexeme.Pointed (map lower letters)) n) count

-- Symbols.

-- the symbol, where no longer one begins, is found
pub record IsFound (l : Lexeme) (written rest : List ℕ) : Type 0 where
  pub first : ℕ
  pub more : List ℕ
  pub is : written ≡ first ∷ more
  pub found_there : found_at first (more ++ rest) ≡ found l (length more)

abbrev pub IsLongest : Mark → List ℕ → Type 0
IsLongest m rest =
    (other : Mark) (more : List ℕ) → symbol_text m ++ rest ≡ symbol_text other ++ more
    → length (symbol_text other) ≤ length (symbol_text m)

no_longer : (m other : Mark) (c e d : ℕ) (ds : List ℕ) (b : Bool) → d == e ≡ b → symbol_text m ≡ c ∷ []
    → symbol_text other ≡ c ∷ e ∷ [] → IsLongest m (d ∷ ds) → d == e ≡ false
no_longer m other c e d ds false test one two longest = test
no_longer m other c e d ds true test one two longest =
    let same : d ≡ e = grind (arith, nat_tests) in
    let begun : symbol_text m ++ (d ∷ ds) ≡ symbol_text other ++ ds =
    ap (λ s. s ++ (d ∷ ds)) one ∙ ap (λ x. c ∷ x ∷ ds) same ∙ sym (ap (λ s. s ++ ds) two) in
    absurd (omega (arith, longest other ds begun, ap length one, ap length two))

alone : (m : Mark) (c : ℕ) (rest : List ℕ) → symbol_text m ≡ c ∷ [] → found_at c rest ≡ found (lexeme.Symbol m) 0
    → IsFound (lexeme.Symbol m) (symbol_text m) rest
alone m c rest text at = record { first = c; more = []; is = text; found_there = at }

in_pair : (m : Mark) (c e : ℕ) (rest : List ℕ) → symbol_text m ≡ c ∷ e ∷ [] → found_at c (e ∷ rest) ≡ found (lexeme.Symbol m) 1
    → IsFound (lexeme.Symbol m) (symbol_text m) rest
in_pair m c e rest text at = record { first = c; more = e ∷ []; is = text; found_there = at }

-- a symbol of one character that one other character makes longer
once : (m other : Mark) (c e : ℕ) (rest : List ℕ) → symbol_text m ≡ c ∷ [] → symbol_text other ≡ c ∷ e ∷ [] → IsLongest m rest
    → found_at c [] ≡ found (lexeme.Symbol m) 0
    → ((d : ℕ) (ds : List ℕ) → d == e ≡ false → found_at c (d ∷ ds) ≡ found (lexeme.Symbol m) 0)
    → IsFound (lexeme.Symbol m) (symbol_text m) rest
once m other c e [] one two longest at_end before = alone m c [] one at_end
once m other c e (d ∷ ds) one two longest at_end before =
    alone m c (d ∷ ds) one (before d ds (no_longer m other c e d ds (d == e) refl one two longest))

slash_found : (rest : List ℕ) → IsLongest mark.Slash rest → IsFound (lexeme.Symbol mark.Slash) (symbol_text mark.Slash) rest
slash_found [] longest = alone mark.Slash 47 [] refl refl
slash_found (d ∷ ds) longest =
    let array : d == 41 ≡ false = no_longer mark.Slash mark.CloseArray 47 41 d ds (d == 41) refl refl refl longest in
    let unequal : d == 61 ≡ false = no_longer mark.Slash mark.NotEqual 47 61 d ds (d == 61) refl refl refl longest in
    let joined : d == 47 ≡ false = no_longer mark.Slash mark.Concat 47 47 d ds (d == 47) refl refl refl longest in
    alone mark.Slash 47 (d ∷ ds) refl (ap (λ o. longer_or o (Some mark.Slash))
    (skip (d == 41) (Some mark.CloseArray) _ None array
    (skip (d == 61) (Some mark.NotEqual) _ None unequal (skip (d == 47) (Some mark.Concat) None None joined refl))))

simple_found : (m : Mark) (c : ℕ) (rest : List ℕ) → symbol_text m ≡ c ∷ [] → found_at c [] ≡ found (lexeme.Symbol m) 0
    → ((d : ℕ) (ds : List ℕ) → found_at c (d ∷ ds) ≡ found (lexeme.Symbol m) 0)
    → IsFound (lexeme.Symbol m) (symbol_text m) rest
simple_found m c [] text at_end before = alone m c [] text at_end
simple_found m c (d ∷ ds) text at_end before = alone m c (d ∷ ds) text (before d ds)

pub mark_found : (m : Mark) (rest : List ℕ) → IsLongest m rest → IsFound (lexeme.Symbol m) (symbol_text m) rest
mark_found mark.Open rest longest =
    once mark.Open mark.OpenArray 40 47 rest refl refl longest refl
    (λ d. λ ds. λ e. ap (λ t. longer_or (cond t (Some mark.OpenArray) None) (Some mark.Open)) e)
mark_found mark.Close rest longest = simple_found mark.Close 41 rest refl refl (λ d. λ ds. refl)
mark_found mark.OpenArray rest longest = in_pair mark.OpenArray 40 47 rest refl refl
mark_found mark.CloseArray rest longest = in_pair mark.CloseArray 47 41 rest refl refl
mark_found mark.Comma rest longest = simple_found mark.Comma 44 rest refl refl (λ d. λ ds. refl)
mark_found mark.Colon rest longest =
    once mark.Colon mark.DoubleColon 58 58 rest refl refl longest refl
    (λ d. λ ds. λ e. ap (λ t. longer_or (cond t (Some mark.DoubleColon) None) (Some mark.Colon)) e)
mark_found mark.DoubleColon rest longest = in_pair mark.DoubleColon 58 58 rest refl refl
mark_found mark.Assign rest longest =
    once mark.Assign mark.Equal 61 61 rest refl refl longest refl
    (λ d. λ ds. λ e. ap (λ t. longer_or (cond t (Some mark.Equal) None) (Some mark.Assign)) e)
mark_found mark.Equal rest longest = in_pair mark.Equal 61 61 rest refl refl
mark_found mark.NotEqual rest longest = in_pair mark.NotEqual 47 61 rest refl refl
mark_found mark.Less rest longest =
    once mark.Less mark.LessEqual 60 61 rest refl refl longest refl
    (λ d. λ ds. λ e. ap (λ t. longer_or (cond t (Some mark.LessEqual) None) (Some mark.Less)) e)
mark_found mark.LessEqual rest longest = in_pair mark.LessEqual 60 61 rest refl refl
mark_found mark.Greater rest longest =
    once mark.Greater mark.GreaterEqual 62 61 rest refl refl longest refl
    (λ d. λ ds. λ e. ap (λ t. longer_or (cond t (Some mark.GreaterEqual) None) (Some mark.Greater)) e)
mark_found mark.GreaterEqual rest longest = in_pair mark.GreaterEqual 62 61 rest refl refl
mark_found mark.Plus rest longest = simple_found mark.Plus 43 rest refl refl (λ d. λ ds. refl)
mark_found mark.Minus rest longest = simple_found mark.Minus 45 rest refl refl (λ d. λ ds. refl)
mark_found mark.Star rest longest =
    once mark.Star mark.Power 42 42 rest refl refl longest refl
    (λ d. λ ds. λ e. ap (λ t. longer_or (cond t (Some mark.Power) None) (Some mark.Star)) e)
mark_found mark.Power rest longest = in_pair mark.Power 42 42 rest refl refl
mark_found mark.Slash rest longest = slash_found rest longest
mark_found mark.Concat rest longest = in_pair mark.Concat 47 47 rest refl refl
