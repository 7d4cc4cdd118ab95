-- Reading items one after the other, and reading them from the last back.
use Rattle.std.proofs.Common.{◌≡◌, ℕ, suc, zero, List, [], ◌∷◌, ◌++◌, drop, map, length, length-drop, ◌≤◌, refl, sym, ap, ◌∙◌}
use Rattle.std.proofs.Common.{append_assoc, append-nil, arith}
use Rattle.f95_lexer.specs.declared.character.Character.{Character}
use Rattle.f95_lexer.specs.declared.token.Token.{Token}
use Rattle.f95_lexer.specs.declared.token.Statement.{Statement}
use Rattle.f95_lexer.specs.Statements.{Item, Ends, Stands, Parts, Reading, reading, next, read_on, first_line, with_statement}
use Rattle.f95_lexer.specs.Statements.{whole, parts_of, statements_of, lexemes_behind, items_of, items_at, rules_of, token_breaks}
use Rattle.a95_base.specs.declared.breaks.Break.{Break}
use Rattle.f95_lexer.specs.declared.lexeme.Found.{Found}
use Rattle.a95_base.specs.Breaks.{broken_at}
use Rattle.f95_lexer.specs.Lexeme.{found_at, bytes_of}

pub read_on-append : (r : Reading) (xs ys : List Item) → read_on r (xs ++ ys) ≡ read_on (read_on r xs) ys
read_on-append r [] ys = refl
read_on-append r (x ∷ xs) ys = read_on-append (next r x) xs ys

pub skipped : (n : ℕ) (cs : List Character) → lexemes_behind n cs ≡ lexemes_behind 0 (drop n cs)
skipped zero cs = refl
skipped (suc n) [] = refl
skipped (suc n) (c ∷ cs) = skipped n cs

-- tokens that stand before what is left
abbrev before : ℕ → List Token → Parts → Parts
before line [] rest = rest
before line (t ∷ ts) rest = record { line = line; tokens = (t ∷ ts) ++ rest.tokens; behind = rest.behind }

with-append : (line : ℕ) (ts : List Token) (xs : List Statement) → with_statement line ts [] ++ xs ≡ with_statement line ts xs
with-append line [] xs = refl
with-append line (t ∷ ts) xs = refl

before_end : (line : ℕ) (ts : List Token) (behind : List Statement)
    → whole (before line ts (record { line = 0; tokens = []; behind = behind })) ≡ with_statement line ts behind
before_end line [] behind = refl
before_end line (t ∷ ts) behind = ap (λ l. with_statement line l behind) (append-nil (t ∷ ts))

before_token : (old line : ℕ) (ts : List Token) (t : Token) (rest : Parts) →
    before (first_line old ts line) (ts ++ t ∷ []) rest
    ≡ before old ts (record { line = line; tokens = t ∷ rest.tokens; behind = rest.behind })
before_token old line [] t rest = refl
before_token old line (u ∷ us) t rest =
    ap (λ l. (record { line = old; tokens = u ∷ l; behind = rest.behind })) (append_assoc us (t ∷ []) rest.tokens)

abbrev closed : Reading → List Statement
closed r = r.list ++ with_statement r.line r.tokens []

pub read_whole : (r : Reading) (items : List Item)
    → closed (read_on r items) ≡ r.list ++ whole (before r.line r.tokens (parts_of items))
read_whole r [] = ap (λ l. r.list ++ l) (sym (before_end r.line r.tokens []))
read_whole r (Ends ∷ items) =
    read_whole (next r Ends) items ∙ append_assoc r.list (with_statement r.line r.tokens []) (whole (parts_of items))
    ∙ ap (λ l. r.list ++ l) (with-append r.line r.tokens (whole (parts_of items))
    ∙ sym (before_end r.line r.tokens (whole (parts_of items))))
read_whole r (Stands line t ∷ items) =
    read_whole (next r (Stands line t)) items ∙ ap (λ p. r.list ++ whole p) (before_token r.line line r.tokens t (parts_of items))

pub read_all : (items : List Item) → closed (read_on (reading [] 0 []) items) ≡ statements_of items
read_all items = read_whole (reading [] 0 []) items

-- one lexeme
pub one_read : (r q : Reading) (c : Character) (more rest : List Character) (f : Found) → f ≡ found_at c.byte (bytes_of more)
    → q ≡ read_on r (items_at c.line f.lexeme) → rest ≡ drop f.further more
    → read_on q (items_of (lexemes_behind 0 rest)) ≡ read_on r (items_of (lexemes_behind 0 (c ∷ more)))
one_read r q c more rest f is read left =
    let behind = items_of (lexemes_behind f.further more) in
    ap (λ s. read_on s (items_of (lexemes_behind 0 rest))) read
    ∙ ap (λ l. read_on (read_on r (items_at c.line f.lexeme)) (items_of (lexemes_behind 0 l))) left
    ∙ ap (λ l. read_on (read_on r (items_at c.line f.lexeme)) (items_of l)) (sym (skipped f.further more))
    ∙ sym (read_on-append r (items_at c.line f.lexeme) behind)
    ∙ ap (λ g. read_on r (items_at c.line g.lexeme ++ items_of (lexemes_behind g.further more))) is

pub one_broken : (old new : List Break) (c : Character) (more rest : List Character) (f : Found)
    → f ≡ found_at c.byte (bytes_of more) → new ≡ old ++ map (broken_at c.line) (rules_of f.lexeme) → rest ≡ drop f.further more
    → new ++ token_breaks (lexemes_behind 0 rest) ≡ old ++ token_breaks (lexemes_behind 0 (c ∷ more))
one_broken old new c more rest f is broken left =
    let mine = map (broken_at c.line) (rules_of f.lexeme) in
    ap (λ l. l ++ token_breaks (lexemes_behind 0 rest)) broken ∙ ap (λ l. (old ++ mine) ++ token_breaks (lexemes_behind 0 l)) left
    ∙ ap (λ l. (old ++ mine) ++ token_breaks l) (sym (skipped f.further more))
    ∙ append_assoc old mine (token_breaks (lexemes_behind f.further more))
    ∙ ap (λ g. old ++ (map (broken_at c.line) (rules_of g.lexeme) ++ token_breaks (lexemes_behind g.further more))) is

-- the last statement
pub ended : (r : Reading) (items : List Item) → r ≡ read_on (reading [] 0 []) items → closed r ≡ statements_of items
ended r items is = ap closed is ∙ read_all items

pub shorter : (more rest : List Character) (n : ℕ) → rest ≡ drop n more → length rest ≤ length more
shorter more rest n left = omega (arith, ap length left, length-drop n more)
