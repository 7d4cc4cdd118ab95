-- A text that is spelled by some items is read as these items, and breaks no rule of tokens.
use Rattle.std.proofs.Common.{◌≡◌, ℕ, ℤ, pos, ◌<◌, ◌≤◌, true, false, nat_lt, cond, List, [], ◌∷◌, ◌++◌, length, map, Some, refl}
use Rattle.std.proofs.Common.{sym, ap, ◌∙◌, subst, append-nil, arith}
use Rattle.std.proofs.lemmas.Bool.Decides.{nat_tests}
use Rattle.std.proofs.lemmas.List.{length-map, map-append}
use Rattle.f95_lexer.specs.declared.character.Character.{Character}
use Rattle.f95_lexer.specs.declared.lexeme.Lexeme.{Lexeme}
use Rattle.f95_lexer.specs.declared.lexeme.Lexeme.TheVariants as lexeme
use Rattle.f95_lexer.specs.declared.lexeme.Found.{Found}
use Rattle.f95_lexer.specs.declared.token.Token.{Token}
use Rattle.f95_lexer.specs.declared.token.Token.TheVariants as token
use Rattle.f95_lexer.specs.Characters.{is_blank, lower}
use Rattle.f95_lexer.specs.Lexeme.{bytes_of, found, found_at, is_dotted, value_from}
use Rattle.f95_lexer.specs.declared.token.Mark.{Mark}
use Rattle.a95_base.specs.Breaks.{broken_at}
use Rattle.f95_lexer.specs.Statements.{Item, Ends, Stands, items_at, items_of, rules_of, token_breaks, lexemes_behind}
use Rattle.f95_lexer.specs.Spelling.{IsGap, Spells, SpellsToken, SpellsWord, SpellsNumber, SpellsText, SpellsDotted, SpellsMark}
use Rattle.f95_lexer.specs.Spelling.{Spelled, nothing, next, doubled, symbol_text}
use Rattle.f95_lexer.proofs.Written.{IsFound, word_found, number_found, text_found, dotted_found, mark_found, IsLongest, stay}

-- a lexeme that breaks no rule, and is this item
pub record IsItem (l : Lexeme) (line : ℕ) (i : Item) : Type 0 where
  pub items : items_at line l ≡ i ∷ []
  pub rules : rules_of l ≡ []

-- what is written is found as the item
record ItemFound (line : ℕ) (i : Item) (written rest : List ℕ) : Type 0 where
  what : Lexeme
  there : IsFound what written rest
  item : IsItem what line i

word_item : (line : ℕ) (w written rest : List ℕ) → SpellsWord w written rest
    → ItemFound line (Stands line (token.Word w)) written rest
word_item line w written rest s =
    let found_word = word_found s.letter s.more rest s.begun s.names s.longest in
    let few : nat_lt 31 (length w) ≡ false = let short : length w ≤ 31 = s.short in grind (arith, nat_tests) in
    record {
      what = lexeme.Word w;
      there =
          record {
            first = s.letter;
            more = s.more;
            is = s.is;
            found_there = found_word
                ∙ ap (λ l. found (lexeme.Word l) (length s.more)) (sym s.lowered);
          };
      item = record { items = refl; rules = ap (λ t. cond t (7 ∷ []) []) few };
    }

number_item : (line : ℕ) (z : ℤ) (written rest : List ℕ) → SpellsNumber z written rest
    → ItemFound line (Stands line (token.Number z)) written rest
number_item line z written rest s =
    let small : value_from 0 (s.digit ∷ s.more) < 2147483648 = subst (λ l. value_from 0 l < 2147483648) s.is s.small in
    let value : z ≡ pos (value_from 0 (s.digit ∷ s.more)) = s.value ∙ ap (λ l. pos (value_from 0 l)) s.is in
    record {
      what = lexeme.Number (Some z) false;
      there = record {
        first = s.digit;
        more = s.more;
        is = s.is;
        found_there =
            number_found s.digit s.more rest s.begun s.digits s.longest s.apart small
            ∙ ap (λ v. found (lexeme.Number (Some v) false) (length s.more)) (sym value);
      };
      item = record { items = refl; rules = refl };
    }

text_item : (line : ℕ) (bytes written rest : List ℕ) → SpellsText bytes written rest
    → ItemFound line (Stands line (token.Text bytes)) written rest
text_item line bytes written rest s = record {
  what = lexeme.Text bytes;
  there =
      record {
        first = s.delimiter;
        more = doubled s.delimiter bytes ++ s.delimiter ∷ [];
        is = s.is;
        found_there = text_found s.delimiter bytes rest s.begun s.inside s.longest;
      };
  item = record { items = refl; rules = refl };
}

dotted_item : (line : ℕ) (w written rest : List ℕ) → SpellsDotted w written rest
    → ItemFound line (Stands line (token.Dotted w)) written rest
dotted_item line w written rest s =
    let word : is_dotted (map lower s.letters) ≡ true = subst (λ l. is_dotted l ≡ true) s.lowered s.word in
    record {
      what = lexeme.Pointed w;
      there = record {
        first = 46;
        more = s.letters ++ 46 ∷ [];
        is = s.is;
        found_there =
            dotted_found s.letters rest s.names word
            ∙ ap (λ l. found (lexeme.Pointed l) (length (s.letters ++ 46 ∷ []))) (sym s.lowered);
      };
      item = record { items = refl; rules = ap (λ t. cond t [] (10 ∷ [])) s.word };
    }

mark_item : (line : ℕ) (m : Mark) (written rest : List ℕ) → SpellsMark m written rest
    → ItemFound line (Stands line (token.Mark m)) written rest
mark_item line m written rest s =
    let longest : IsLongest m rest = λ other. λ more. λ e.
    subst (λ l. length (symbol_text other) ≤ length l) s.is (s.longest other more (ap (λ l. l ++ rest) s.is ∙ e)) in
    let f = mark_found m rest longest in
    record {
      what = lexeme.Symbol m;
      there = record { first = f.first; more = f.more; is = s.is ∙ f.is; found_there = f.found_there };
      item = record { items = refl; rules = refl };
    }

token_item : (line : ℕ) (t : Token) (written rest : List ℕ) → SpellsToken t written rest
    → ItemFound line (Stands line t) written rest
token_item line (token.Word w) written rest s = word_item line w written rest s
token_item line (token.Number z) written rest s = number_item line z written rest s
token_item line (token.Text bytes) written rest s = text_item line bytes written rest s
token_item line (token.Dotted w) written rest s = dotted_item line w written rest s
token_item line (token.Mark m) written rest s = mark_item line m written rest s

-- the characters are read as these items
pub record IsRead (cs : List Character) (items : List Item) : Type 0 where
  pub read : items_of (lexemes_behind 0 cs) ≡ items
  pub breaks : token_breaks (lexemes_behind 0 cs) ≡ []

past : (w rest : List Character) → lexemes_behind (length w) (w ++ rest) ≡ lexemes_behind 0 rest
past [] rest = refl
past (c ∷ w) rest = past w rest

-- one lexeme in front, which gives these items and breaks no rule
in_front : (c : Character) (w rest : List Character) (l : Lexeme) (first items : List Item) →
    found_at c.byte (bytes_of (w ++ rest)) ≡ found l (length w) → items_at c.line l ≡ first → rules_of l ≡ [] → IsRead rest items
    → IsRead (c ∷ (w ++ rest)) (first ++ items)
in_front c w rest l first items at gives rules r = record {
  read =
      ap (λ f. items_at c.line f.lexeme ++ items_of (lexemes_behind f.further (w ++ rest))) at
      ∙ ap (λ x. x ++ items_of (lexemes_behind (length w) (w ++ rest))) gives
      ∙ ap (λ ps. first ++ items_of ps) (past w rest) ∙ ap (λ x. first ++ x) r.read;
  breaks =
      ap (λ (f : Found). map (broken_at c.line) (rules_of f.lexeme) ++ token_breaks (lexemes_behind f.further (w ++ rest))) at
      ∙ ap (λ rs. map (broken_at c.line) rs ++ token_breaks (lexemes_behind (length w) (w ++ rest))) rules
      ∙ ap token_breaks (past w rest) ∙ r.breaks;
}

gap_read : (gap rest : List Character) (items : List Item) → IsGap gap → IsRead rest items → IsRead (gap ++ rest) items
gap_read [] rest items blank r = r
gap_read (c ∷ gap) rest items blank r =
    in_front c [] (gap ++ rest) lexeme.Blank [] items (stay (is_blank c.byte) _ _ blank.0) refl refl
    (gap_read gap rest items blank.1 r)

-- what stands there is found as the item
item_read : (c : Character) (w rest : List Character) (i : Item) (items : List Item) →
    ItemFound c.line i (bytes_of (c ∷ w)) (bytes_of rest) → IsRead rest items → IsRead (c ∷ (w ++ rest)) (i ∷ items)
item_read c w rest i items f r =
    let first : c.byte ≡ f.there.first = cc in
    let more : bytes_of w ≡ f.there.more = cc in
    let count : length f.there.more ≡ length w = ap length (sym more) ∙ length-map w (λ (x : Character). x.byte) in
    in_front c w rest f.what (i ∷ []) items
    (ap (found_at c.byte) (map-append (λ (x : Character). x.byte) w rest)
    ∙ ap (λ b. found_at b (bytes_of w ++ bytes_of rest)) first ∙ ap (λ l. found_at f.there.first (l ++ bytes_of rest)) more
    ∙ f.there.found_there ∙ ap (found f.what) count)
    f.item.items f.item.rules r

end_found : (b : ℕ) (cs : List ℕ) → b ≡ 10 → found_at b cs ≡ found lexeme.End 0
end_found b cs e = ap (λ x. found_at x cs) e

written_read : (written rest : List Character) (i : Item) (items : List Item) → Spells i written (bytes_of rest)
    → IsRead rest items → IsRead (written ++ rest) (i ∷ items)
written_read [] rest Ends items s r = cc
written_read (c ∷ []) rest Ends items s r =
    let feed : c.byte ≡ 10 = cc in
    in_front c [] rest lexeme.End (Ends ∷ []) items (end_found c.byte (bytes_of rest) feed) refl refl r
written_read (c ∷ d ∷ w) rest Ends items s r = cc
written_read [] rest (Stands line t) items s r = absurd s.0
written_read (c ∷ w) rest (Stands line t) items s r =
    item_read c w rest (Stands line t) items
    (subst (λ l. ItemFound c.line (Stands l t) (bytes_of (c ∷ w)) (bytes_of rest)) s.0
    (token_item c.line t (bytes_of (c ∷ w)) (bytes_of rest) s.1)) r

pub spelled_read : (cs : List Character) (items : List Item) → Spelled cs items → IsRead cs items
spelled_read cs items (nothing gap blank) =
    subst (λ l. IsRead l []) (append-nil gap) (gap_read gap [] [] blank (record { read = refl; breaks = refl }))
spelled_read cs items (next gap written rest {i = i} {items = more} blank s spelled) =
    gap_read gap (written ++ rest) (i ∷ more) blank (written_read written rest i more s (spelled_read rest more spelled))
