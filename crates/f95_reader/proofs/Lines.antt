-- Each form of a text stands on one of its lines, and it has no more lines than bytes.
use Rattle.std.proofs.Common.{◌≡◌, ℕ, suc, ◌+◌, ◌≤◌, ◌<◌, Bool, true, false, ◌&&◌, ◌==◌, cond, List, [], ◌∷◌, ◌++◌, length, sym}
use Rattle.std.proofs.Common.{subst, arith}
use Rattle.std.proofs.lemmas.List.Sums.{count_by-le-length}
use Rattle.a95_base.specs.Lists.{Every}
use Rattle.a95_base.proofs.Lists.{Every-append, Every-right, Every-map, Every-all}
use Rattle.f95_lexer.specs.declared.character.Character.{Character}
use Rattle.f95_lexer.specs.declared.token.Token.{Token}
use Rattle.f95_lexer.specs.declared.token.Statement.{Statement}
use Rattle.f95_lexer.specs.Continuation.{Onward, Ended, after, StatementLine, character, characters, all_characters, AreRead, none}
use Rattle.f95_lexer.specs.Continuation.{passed, stands}
use Rattle.f95_lexer.specs.Lines.{onto, begins_with_feed, text_lines}
use Rattle.f95_lexer.specs.Spelling.{BeginsOn, Spelled, nothing, next, Cuts}
use Rattle.f95_lexer.specs.Statements.{Item, Ends, Stands, with_statement, parts_of, statements_of}
use Rattle.f95_nesting.specs.Nesting.{Lined}
use Rattle.f95_reader.specs.Reading.{IsFormOf, AreForms, HasForms}

-- the lines of a text
abbrev lines_counted : List (List ℕ) → ℕ
lines_counted texts = length texts

onto_counted : (x : ℕ) (xs : List (List ℕ)) → lines_counted (onto x xs) ≤ suc (lines_counted xs)
onto_counted x [] = omega arith
onto_counted x (y ∷ ys) = omega arith

line_counted : (x : ℕ) (xs : List ℕ) (t u : Bool) → lines_counted (text_lines xs) ≤ length xs →
    lines_counted (cond t ([] ∷ text_lines xs) (cond u (text_lines xs) (onto x (text_lines xs)))) ≤ length (x ∷ xs)
line_counted x xs true u h = omega (arith, h)
line_counted x xs false true h = omega (arith, h)
line_counted x xs false false h = let e = onto_counted x (text_lines xs) in omega (arith, h, e)

lines_most : (bytes : List ℕ) → lines_counted (text_lines bytes) ≤ length bytes
lines_most [] = omega arith
lines_most (x ∷ xs) = line_counted x xs (x == 10) (x == 13 && begins_with_feed xs) (lines_most xs)

-- a number below the bound
module _ (bound : ℕ) where
  abbrev LineWithin : StatementLine → Type 0
  LineWithin l = l.number < bound

  abbrev CharacterWithin : Character → Type 0
  CharacterWithin c = c.line < bound

  abbrev ItemWithin : Item → Type 0
  ItemWithin Ends = Unit {0}
  ItemWithin (Stands line t) = line < bound

  abbrev StatementWithin : Statement → Type 0
  StatementWithin s = s.line.0 < bound

  -- the line of some tokens, where there are any
  abbrev TokensWithin : ℕ → List Token → Type 0
  TokensWithin line [] = Unit {0}
  TokensWithin line (t ∷ ts) = line < bound

  numbered : (before : Onward) (n : ℕ) (texts : List (List ℕ)) (ls : List StatementLine) (behind : Onward) →
      AreRead before n texts ls behind →
      n + length texts ≤ bound → Every LineWithin ls
  numbered before n texts ls behind (none _ _) h = tt
  numbered before n texts ls behind (passed _ _ text rest _ _ c r) h = numbered before (n + 1) rest ls behind r (omega (arith, h))
  numbered before n texts ls behind (stands l text rest lines _ c is r more) h =
      (omega (arith, h), numbered (after l) (l.number + 1) rest lines behind more (omega (arith, h)))

  line_characters : (l : StatementLine) → LineWithin l → Every CharacterWithin (characters l)
  line_characters l h = Every-map CharacterWithin (λ c. character c l.number) _ (Every-all (λ c. l.number < bound) (λ c. h) _)

  all_within : (ls : List StatementLine) → Every LineWithin ls → Every CharacterWithin (all_characters ls)
  all_within [] h = tt
  all_within (l ∷ ls) h = Every-append CharacterWithin (characters l) (all_characters ls) (line_characters l h.0)
      (all_within ls h.1)

  begun_within : (line : ℕ) (written rest : List Character) → BeginsOn line written → Every CharacterWithin (written ++ rest) →
      line < bound
  begun_within line [] rest b h = absurd b
  begun_within line (c ∷ cs) rest b h = subst (λ n. n < bound) b h.0

  items_within : (cs : List Character) (items : List Item) → Spelled cs items → Every CharacterWithin cs → Every ItemWithin items
  items_within cs items (nothing gap g) h = tt
  items_within cs items (next gap written rest {i = Ends} {items = more} g s r) h =
      let behind = Every-right CharacterWithin gap (written ++ rest) h in
      (tt, items_within rest more r (Every-right CharacterWithin written rest behind))
  items_within cs items (next gap written rest {i = Stands line t} {items = more} g s r) h =
      let behind = Every-right CharacterWithin gap (written ++ rest) h in
      (begun_within line written rest s.0 behind, items_within rest more r (Every-right CharacterWithin written rest behind))

  with_within : (line : ℕ) (ts : List Token) (behind : List Statement) → TokensWithin line ts → Every StatementWithin behind →
      Every StatementWithin (with_statement line ts behind)
  with_within line [] behind h k = k
  with_within line (t ∷ ts) behind h k = (h, k)

  parts_within : (items : List Item) → Every ItemWithin items →
      TokensWithin (parts_of items).line (parts_of items).tokens × Every StatementWithin (parts_of items).behind
  parts_within [] h = (tt, tt)
  parts_within (Ends ∷ items) h =
      let rest = parts_within items h.1 in
      (tt, with_within (parts_of items).line (parts_of items).tokens (parts_of items).behind rest.0 rest.1)
  parts_within (Stands line t ∷ items) h = (h.0, (parts_within items h.1).1)

  statements_within : (items : List Item) → Every ItemWithin items → Every StatementWithin (statements_of items)
  statements_within items h =
      let parts = parts_within items h in
      with_within (parts_of items).line (parts_of items).tokens (parts_of items).behind parts.0 parts.1

cut_within : (bytes : List ℕ) (statements : List Statement) (feeds : ℕ) → Cuts bytes statements feeds →
    Every (StatementWithin (suc (length bytes))) statements
cut_within bytes statements feeds cut =
    let bound = suc (length bytes) in
    let most = lines_most bytes in
    let lines = numbered bound Ended 1 (text_lines bytes) cut.lines Ended cut.read (omega (arith, most)) in
    let items = items_within bound (all_characters cut.lines) cut.items cut.spelled (all_within bound cut.lines lines) in
    subst (Every (StatementWithin bound)) (sym cut.are) (statements_within bound cut.items items)

forms_within : (most : ℕ) (ss : List Statement) (fs : List Lined) → AreForms ss fs → Every (StatementWithin (suc most)) ss →
    Every (λ (f : Lined). f.0.0 ≤ most) fs
forms_within most [] [] a h = tt
forms_within most [] (f ∷ fs) a h = absurd a
forms_within most (s ∷ ss) [] a h = absurd a
forms_within most (s ∷ ss) (f ∷ fs) a h =
    let first : s.line.0 ≤ most = omega (arith, h.0) in
    (subst (λ l. l.0 ≤ most) (sym a.0.line) first, forms_within most ss fs a.1 h.1)

pub lines_within : (bytes : List ℕ) (fs : List Lined) (feeds : ℕ) → HasForms bytes fs feeds →
    Every (λ (f : Lined). f.0.0 ≤ length bytes) fs
lines_within bytes fs feeds h = forms_within (length bytes) h.statements fs h.are (cut_within bytes h.statements feeds h.cut)

-- and so has no more line feeds
pub feeds_fit : (bytes : List ℕ) (statements : List Statement) (feeds : ℕ) → Cuts bytes statements feeds → feeds < 4294967295
feeds_fit bytes statements feeds cut =
    let few = count_by-le-length (λ c. c == 10) bytes in
    let short : length bytes ≤ 1048576 = cut.short in
    let counted = cut.counted in
    omega (arith, few, short, counted)
