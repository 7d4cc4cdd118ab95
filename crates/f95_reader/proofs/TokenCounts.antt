-- Bytes are cut into no more tokens than there are bytes: each token has a character that is no blank and ends nothing.
use Rattle.std.proofs.Common.{◌≡◌, ℕ, suc, ◌+◌, ◌≤◌, Bool, true, false, ◌&&◌, ◌==◌, cond, List, [], ◌∷◌, ◌++◌, length}
use Rattle.std.proofs.Common.{map, Option, Some, None, sym, ◌∙◌, ap, subst, refl, arith}
use Rattle.std.proofs.lemmas.Bool.Decides.{nat_tests}
use Rattle.a95_base.specs.Input.{is_digit}
use Rattle.f95_lexer.specs.declared.character.Character.{Character}
use Rattle.f95_lexer.specs.declared.token.Token.{Token}
use Rattle.f95_lexer.specs.declared.token.Token.TheVariants as token
use Rattle.f95_lexer.specs.declared.token.Mark.{Mark}
use Rattle.f95_lexer.specs.declared.token.Mark.TheVariants as mark
use Rattle.f95_lexer.specs.declared.token.Statement.{Statement}
use Rattle.f95_lexer.specs.Characters.{is_blank, is_letter, is_delimiter, from_blank}
use Rattle.f95_lexer.specs.Lexeme.{bytes_of}
use Rattle.f95_lexer.specs.Lines.{onto, begins_with_feed, text_lines}
use Rattle.f95_lexer.specs.Statements.{Item, Ends, Stands, Parts, with_statement, parts_of, statements_of}
use Rattle.f95_lexer.specs.Spelling.{SpellsToken, symbol_text}
use Rattle.f95_lexer.specs.Spelling.{Spelled, nothing, next, Cuts}
use Rattle.f95_lexer.specs.Continuation.{Onward, Ended, after, StatementLine, opened, kept, parted, character, characters}
use Rattle.f95_lexer.specs.Continuation.{all_characters, IsCode, whole as uncommented, commented, IsContinued, goes_on, ends}
use Rattle.f95_lexer.specs.Continuation.{HasBody, Begins, initial, joined, apart, continues_nothing, cut_off, IsRead, alone, more}
use Rattle.f95_lexer.specs.Continuation.{AreRead, none, passed, stands}
use Rattle.f95_reader.specs.Sizes.{token_count}

-- whether a character is neither blank nor a line feed
abbrev is_solid : ℕ → Bool
is_solid c = cond (is_blank c) false (cond (c == 10) false true)

abbrev solid_one : Bool → ℕ
solid_one true = 1
solid_one false = 0

abbrev solids : List ℕ → ℕ
solids [] = 0
solids (x ∷ xs) = solid_one (is_solid x) + solids xs

solids_append : (xs ys : List ℕ) → solids (xs ++ ys) ≡ solids xs + solids ys
solids_append [] ys = omega arith
solids_append (x ∷ xs) ys = let h = solids_append xs ys in omega (arith, h)

at_most_one : (b : Bool) → solid_one b ≤ 1
at_most_one true = omega arith
at_most_one false = omega arith

solids_most : (xs : List ℕ) → solids xs ≤ length xs
solids_most [] = omega arith
solids_most (x ∷ xs) = let h = solids_most xs in let k = at_most_one (is_solid x) in omega (arith, h, k)

-- a list that begins with a solid character
front_solid : (x : ℕ) (xs : List ℕ) → is_solid x ≡ true → 1 ≤ solids (x ∷ xs)
front_solid x xs h = subst (λ b. 1 ≤ solid_one b + solids xs) (sym h) (omega arith)

letter_solid : (x : ℕ) → is_letter x ≡ true → is_solid x ≡ true
letter_solid x h = grind (arith, nat_tests)

digit_solid : (x : ℕ) → is_digit x ≡ true → is_solid x ≡ true
digit_solid x h = grind (arith, nat_tests)

delimiter_solid : (x : ℕ) → is_delimiter x ≡ true → is_solid x ≡ true
delimiter_solid x h = grind (arith, nat_tests)

mark_solid : (m : Mark) → 1 ≤ solids (symbol_text m)
mark_solid mark.Open = omega arith
mark_solid m = omega arith

token_solid : (t : Token) (written rest : List ℕ) → SpellsToken t written rest → 1 ≤ solids written
token_solid (token.Word w) written rest s = subst (λ z. 1 ≤ solids z) (sym s.is)
    (front_solid s.letter s.more (letter_solid s.letter s.begun))
token_solid (token.Number z) written rest s = subst (λ z. 1 ≤ solids z) (sym s.is)
    (front_solid s.digit s.more (digit_solid s.digit s.begun))
token_solid (token.Text t) written rest s = subst (λ z. 1 ≤ solids z) (sym s.is)
    (front_solid s.delimiter _ (delimiter_solid s.delimiter s.begun))
token_solid (token.Dotted w) written rest s = subst (λ z. 1 ≤ solids z) (sym s.is) (front_solid 46 _ refl)
token_solid (token.Mark m) written rest s = subst (λ z. 1 ≤ solids z) (sym s.is) (mark_solid m)

-- the tokens among some items
abbrev tokens_among : List Item → ℕ
tokens_among [] = 0
tokens_among (Ends ∷ items) = tokens_among items
tokens_among (Stands line t ∷ items) = suc (tokens_among items)

bytes_append : (xs ys : List Character) → bytes_of (xs ++ ys) ≡ bytes_of xs ++ bytes_of ys
bytes_append [] ys = refl
bytes_append (x ∷ xs) ys = ap (λ z. x.byte ∷ z) (bytes_append xs ys)

pieces_solid : (gap written rest : List Character) → solids (bytes_of (gap ++ (written ++ rest))) ≡ solids (bytes_of gap)
    + (solids (bytes_of written) + solids (bytes_of rest))
pieces_solid gap written rest =
    ap solids (bytes_append gap (written ++ rest)) ∙ solids_append (bytes_of gap) (bytes_of (written ++ rest))
    ∙ ap (λ n. solids (bytes_of gap) + n) (ap solids (bytes_append written rest) ∙ solids_append (bytes_of written) (bytes_of rest))

spelled_solid : (cs : List Character) (items : List Item) → Spelled cs items → tokens_among items ≤ solids (bytes_of cs)
spelled_solid cs items (nothing gap g) = omega arith
spelled_solid cs items (next gap written rest {i = Ends} {items = more_items} g s h) =
    let k = spelled_solid rest more_items h in let e = pieces_solid gap written rest in omega (arith, k, e)
spelled_solid cs items (next gap written rest {i = Stands line t} {items = more_items} g s h) =
    let k = spelled_solid rest more_items h in let e = pieces_solid gap written rest in
    let o = token_solid t (bytes_of written) (bytes_of rest) s.1 in omega (arith, k, e, o)

-- and of the statements that they are
abbrev tokens_in : Parts → ℕ
tokens_in p = length p.tokens + token_count p.behind

with_counted : (line : ℕ) (ts : List Token) (behind : List Statement) → token_count (with_statement line ts behind) ≡ length ts
    + token_count behind
with_counted line [] behind = omega arith
with_counted line (t ∷ ts) behind = refl

parts_counted : (items : List Item) → tokens_in (parts_of items) ≡ tokens_among items
parts_counted [] = omega arith
parts_counted (Ends ∷ items) =
    let e = with_counted (parts_of items).line (parts_of items).tokens (parts_of items).behind in
    let h = parts_counted items in omega (arith, e, h)
parts_counted (Stands line t ∷ items) = let h = parts_counted items in omega (arith, h)

statements_counted : (items : List Item) → token_count (statements_of items) ≡ tokens_among items
statements_counted items = with_counted (parts_of items).line (parts_of items).tokens (parts_of items).behind ∙ parts_counted items

-- lines
bytes_on : (n : ℕ) (xs : List ℕ) → bytes_of (map (λ x. character x n) xs) ≡ xs
bytes_on n [] = refl
bytes_on n (x ∷ xs) = ap (λ z. x ∷ z) (bytes_on n xs)

semicolon_solid : (x : ℕ) (t : Bool) → solid_one (is_solid (cond t 10 x)) ≤ solid_one (is_solid x)
semicolon_solid x true = omega arith
semicolon_solid x false = omega arith

body_inside : (body : List ℕ) (inside : Option ℕ) → solids (parted inside body) ≤ solids body
body_inside [] inside = omega arith
body_inside (x ∷ xs) None =
    let h = body_inside xs (opened x) in let k = semicolon_solid x (x == 59) in omega (arith, h, k)
body_inside (x ∷ xs) (Some e) = let h = body_inside xs (kept e x) in omega (arith, h)

code_solid : (inside : Option ℕ) (text code : List ℕ) → IsCode inside text code → solids code ≤ solids text
code_solid inside text code (uncommented _ h) = omega arith
code_solid inside text code (commented _ comment h e) = let k = solids_append code (33 ∷ comment) in omega (arith, k)

body_solid : (code body : List ℕ) (b : Bool) → IsContinued code body b → solids body ≤ solids code
body_solid code body b (goes_on _ gap g) = let k = solids_append body (38 ∷ gap) in omega (arith, k)
body_solid code body b (ends _ h) = omega arith

has_body_solid : (inside : Option ℕ) (text body : List ℕ) (b : Bool) → HasBody inside text body b → solids body ≤ solids text
has_body_solid inside text body b h =
    let x = code_solid inside text h.code h.uncommented in let y = body_solid h.code body b h.ending in omega (arith, x, y)

-- what parts lines, and what is left of the text
record Leads (lead text rest : List ℕ) : Type 0 where
  none : solids lead ≡ 0
  less : solids rest ≤ solids text

begins_solid : (before : Onward) (text lead : List ℕ) (inside : Option ℕ) (rest : List ℕ) → Begins before text lead inside rest →
    Leads lead text rest
begins_solid before text lead inside rest (initial _ h) = record { none = refl; less = omega arith }
begins_solid before text lead inside rest (joined _ from lines _) = record { none = refl; less = omega arith }
begins_solid before text lead inside rest (apart from lines _ h) = record { none = refl; less = omega arith }
begins_solid before text lead inside rest (continues_nothing _) = record { none = refl; less = omega arith }
begins_solid before text lead inside rest (cut_off d from lines _ h) = record { none = refl; less = omega arith }

ending_solid : (b : Bool) → solids (cond b [] (10 ∷ [])) ≡ 0
ending_solid true = refl
ending_solid false = refl

left_solid : (l : StatementLine) → solids l.lead ≡ 0 → solids l.body ≤ solids l.text → solids (bytes_of (characters l))
    ≤ solids l.text
left_solid l lead body =
    let e = ap solids (bytes_on l.number (l.lead ++ (parted l.inside l.body ++ cond l.continued [] (10 ∷ []))))
    ∙ solids_append l.lead (parted l.inside l.body ++ cond l.continued [] (10 ∷ [])) in
    let f = solids_append (parted l.inside l.body) (cond l.continued [] (10 ∷ [])) in
    let g = ending_solid l.continued in let h = body_inside l.body l.inside in
    omega (arith, e, f, g, h, lead, body)

read_solid : (l : StatementLine) → IsRead l → solids (bytes_of (characters l)) ≤ solids l.text
read_solid l (alone a lead inside body b) = left_solid l (ap solids lead)
    (subst (λ z. solids z ≤ solids l.text) (sym body) (omega arith))
read_solid l (more rest a begun body) =
    let b = begins_solid l.before l.text l.lead l.inside rest begun in let h =
    has_body_solid l.inside rest l.body l.continued body in
    left_solid l b.none (omega (arith, h, b.less))

blank_less : (x : ℕ) (xs : List ℕ) (t : Bool) → length (from_blank xs) ≤ length xs → length (cond t (from_blank xs) (x ∷ xs))
    ≤ length (x ∷ xs)
blank_less x xs true h = omega (arith, h)
blank_less x xs false h = omega arith

from_blank_less : (xs : List ℕ) → length (from_blank xs) ≤ length xs
from_blank_less [] = omega arith
from_blank_less (x ∷ xs) = blank_less x xs (is_blank x) (from_blank_less xs)

-- the characters of some lines
abbrev all_of : List (List ℕ) → ℕ
all_of [] = 0
all_of (x ∷ xs) = length x + all_of xs

all_solid : (ls : List StatementLine) (l : StatementLine) → solids (bytes_of (all_characters (l ∷ ls)))
    ≡ solids (bytes_of (characters l)) + solids (bytes_of (all_characters ls))
all_solid ls l = ap solids (bytes_append (characters l) (all_characters ls))
    ∙ solids_append (bytes_of (characters l)) (bytes_of (all_characters ls))

lines_solid : (before : Onward) (n : ℕ) (texts : List (List ℕ)) (ls : List StatementLine) (behind : Onward) →
    AreRead before n texts ls behind → solids (bytes_of (all_characters ls)) ≤ all_of texts
lines_solid before n texts ls behind (none _ _) = omega arith
lines_solid before n texts ls behind (passed _ _ text rest _ _ c h) = let k = lines_solid before (n + 1) rest ls behind h in
    omega (arith, k)
lines_solid before n texts ls behind (stands l text rest lines _ c is r h) =
    let k = lines_solid (after l) (l.number + 1) rest lines behind h in
    let e = all_solid lines l in let o = read_solid l r in let m = solids_most l.text in
    let t = from_blank_less text in let same : length l.text ≡ length (from_blank text) = ap length is in
    omega (arith, k, e, o, m, t, same)

onto_all : (x : ℕ) (xs : List (List ℕ)) → all_of (onto x xs) ≡ suc (all_of xs)
onto_all x [] = omega arith
onto_all x (y ∷ ys) = omega arith

line_within : (x : ℕ) (xs : List ℕ) (t u : Bool) → all_of (text_lines xs) ≤ length xs →
    all_of (cond t ([] ∷ text_lines xs) (cond u (text_lines xs) (onto x (text_lines xs)))) ≤ length (x ∷ xs)
line_within x xs true u h = omega (arith, h)
line_within x xs false true h = omega (arith, h)
line_within x xs false false h = let e = onto_all x (text_lines xs) in omega (arith, h, e)

lines_within : (bytes : List ℕ) → all_of (text_lines bytes) ≤ length bytes
lines_within [] = omega arith
lines_within (x ∷ xs) = line_within x xs (x == 10) (x == 13 && begins_with_feed xs) (lines_within xs)

-- the tokens of a text are no more than its bytes
pub tokens_within : (bytes : List ℕ) (statements : List Statement) (feeds : ℕ) → Cuts bytes statements feeds →
    token_count statements ≤ length bytes
tokens_within bytes statements feeds cut =
    let a : token_count statements ≡ tokens_among cut.items = ap token_count cut.are ∙ statements_counted cut.items in
    let b = spelled_solid (all_characters cut.lines) cut.items cut.spelled in
    let d = lines_solid Ended 1 (text_lines bytes) cut.lines Ended cut.read in
    let e = lines_within bytes in omega (arith, a, b, d, e)
