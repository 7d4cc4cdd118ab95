-- Where continuations are whole, each text that begins in the spliced characters is closed: lines and tokens agree on texts.
use Rattle.std.proofs.Common.{◌≡◌, ℕ, ◌+◌, Bool, true, false, ◌&&◌, ◌||◌, ◌==◌, not, cond, List, [], ◌∷◌, length, map, drop, Option}
use Rattle.std.proofs.Common.{Some, None, is_some, refl, sym, ap, ◌∙◌, subst, add-one, arith}
use Rattle.std.proofs.lemmas.Bool.Decides.{nat_tests}
use Rattle.std.proofs.lemmas.List.{length-map, drop-drop}
use Rattle.std.proofs.lemmas.Bool.{and_right}
use Rattle.a95_base.proofs.Tests.{and_second}
use Rattle.a95_base.specs.Input.{is_digit}
use Rattle.f95_lexer.specs.Continuation.{opened, kept}
use Rattle.f95_lexer.specs.declared.lexeme.Lexeme.TheVariants as lexeme
use Rattle.f95_lexer.specs.declared.lexeme.Found.{Found}
use Rattle.f95_lexer.specs.declared.token.Mark.{Mark}
use Rattle.f95_lexer.specs.Characters.{is_blank, is_letter, is_name, is_delimiter, lower}
use Rattle.f95_lexer.specs.Lexeme.{front, behind_front, is_nil, begins_with, found_at, word_at, word_to_point, pointed, taken}
use Rattle.f95_lexer.specs.Lexeme.{number_at, Literal, literal, text_at, symbol, symbol_at, symbol_of_one, symbol_of_two, longer_or}
use Rattle.f95_lexer.proofs.Written.{skip, stay}
use Rattle.f95_lexer.proofs.Unwritten.{drop_front, begun_by}

-- each text that is open, or begins, is closed before its statement ends
abbrev pub balanced : Option ℕ → List ℕ → Bool
balanced None [] = true
balanced (Some d) [] = false
balanced None (c ∷ cs) = balanced (opened c) cs
balanced (Some d) (c ∷ cs) = cond (c == 10) false (balanced (kept d c) cs)

plain : (c : ℕ) → is_delimiter c ≡ false → opened c ≡ None
plain c e = ap (λ t. cond t (Some c) None) e

step : (c : ℕ) (cs : List ℕ) → is_delimiter c ≡ false → balanced (opened c) cs ≡ true → balanced None cs ≡ true
step c cs e h = ap (λ o. balanced o cs) (sym (plain c e)) ∙ h

-- what is found leaves no text open
pub record IsKept (c : ℕ) (cs : List ℕ) (f : Found) : Type 0 where
  pub closed : balanced (opened c) cs ≡ true → f.lexeme ≡ lexeme.Unclosed → ⊥
  pub rest : balanced (opened c) cs ≡ true → balanced None (drop f.further cs) ≡ true

by_test : (c : ℕ) (cs : List ℕ) (b : Bool) (x y : Found) → (b ≡ true → IsKept c cs x) → (b ≡ false → IsKept c cs y)
    → IsKept c cs (cond b x y)
by_test c cs true x y f g = f refl
by_test c cs false x y f g = g refl

front_kept : (p : ℕ → Bool) (cs : List ℕ) → ((x : ℕ) → p x ≡ true → is_delimiter x ≡ false) → balanced None cs ≡ true
    → balanced None (drop (length (front p cs)) cs) ≡ true
front_kept p [] none h = h
front_kept p (c ∷ cs) none h = go (p c) refl (λ k. front_kept p cs none k)
  where
    go : (b : Bool) → p c ≡ b → (balanced None cs ≡ true → balanced None (drop (length (front p cs)) cs) ≡ true)
        → balanced None (drop (length (cond b (c ∷ front p cs) [])) (c ∷ cs)) ≡ true
    go true e more = more (step c cs (none c e) h)
    go false e more = h

taken_kept : (rest : List ℕ) → balanced None rest ≡ true → balanced None (drop (taken rest) rest) ≡ true
taken_kept [] h = h
taken_kept (c ∷ cs) h = go (c == 95 || (c == 46 && not (is_some (word_to_point cs)))) refl
  where
    go : (b : Bool) → c == 95 || (c == 46 && not (is_some (word_to_point cs))) ≡ b
        → balanced None (drop (cond b 1 0) (c ∷ cs)) ≡ true
    go true e = let other : is_delimiter c ≡ false = grind (arith, nat_tests) in step c cs other h
    go false e = h

name_plain : (x : ℕ) → is_name x ≡ true → is_delimiter x ≡ false
name_plain x e = grind (arith, nat_tests)

digit_plain : (x : ℕ) → is_digit x ≡ true → is_delimiter x ≡ false
digit_plain x e = grind (arith, nat_tests)

letter_plain : (x : ℕ) → is_letter x ≡ true → is_delimiter x ≡ false
letter_plain x e = grind (arith, nat_tests)

word_kept : (c : ℕ) (cs : List ℕ) → is_letter c ≡ true → IsKept c cs (word_at c cs)
word_kept c cs e = record {
  closed = λ h. λ k. cc;
  rest = λ h. front_kept is_name cs name_plain (step c cs (letter_plain c e) h);
}

number_kept : (c : ℕ) (cs : List ℕ) → is_digit c ≡ true → IsKept c cs (number_at c cs)
number_kept c cs e = record {
  closed = λ h. λ k. cc;
  rest = λ h.
      let behind = behind_front is_digit cs in
      let n = length (front is_digit cs) in
      let start : balanced None behind ≡ true =
      ap (balanced None) (sym (drop_front is_digit cs)) ∙ front_kept is_digit cs digit_plain (step c cs (digit_plain c e) h) in
      ap (balanced None) (sym (drop-drop (taken behind) n cs) ∙ ap (drop (taken behind)) (drop_front is_digit cs))
      ∙ taken_kept behind start;
}

abbrev context : ℕ → Bool → Option ℕ
context d true = None
context d false = Some d

-- a text is closed, and what stands behind it is balanced
record IsEnded (cs : List ℕ) (t : Literal) : Type 0 where
  closed : t.closed ≡ true
  rest : balanced None (drop t.taken cs) ≡ true

ended_test : (cs : List ℕ) (b : Bool) (x y : Literal) → (b ≡ true → IsEnded cs x) → (b ≡ false → IsEnded cs y)
    → IsEnded cs (cond b x y)
ended_test cs true x y f g = f refl
ended_test cs false x y f g = g refl

later : (c n : ℕ) (cs : List ℕ) → balanced None (drop n cs) ≡ true → balanced None (drop (n + 1) (c ∷ cs)) ≡ true
later c n cs h = ap (λ k. balanced None (drop k (c ∷ cs))) (add-one n) ∙ h

literal_kept : (d : ℕ) (behind : Bool) (cs : List ℕ) → is_delimiter d ≡ true → balanced (context d behind) cs ≡ true
    → IsEnded cs (literal d behind cs)
literal_kept d true [] e h = record { closed = refl; rest = refl }
literal_kept d false [] e h = cc
literal_kept d false (c ∷ cs) e h =
    ended_test (c ∷ cs) (c == 10) _ _
    (λ feed. let never : false ≡ true = sym (ap (λ t. cond t false (balanced (kept d c) cs)) feed) ∙ h in cc)
    (λ other.
    let inner : balanced (kept d c) cs ≡ true = sym (skip (c == 10) false _ _ other refl) ∙ h in
    ended_test (c ∷ cs) (c == d) _ _
    (λ test.
    let now : balanced None cs ≡ true = ap (λ t. balanced (cond t None (Some d)) cs) (sym test) ∙ inner in
    let t = literal_kept d true cs e now in
    record { closed = t.closed; rest = later c (literal d true cs).taken cs t.rest })
    (λ test.
    let now : balanced (Some d) cs ≡ true = ap (λ t. balanced (cond t None (Some d)) cs) (sym test) ∙ inner in
    let t = literal_kept d false cs e now in
    record { closed = t.closed; rest = later c (literal d false cs).taken cs t.rest }))
literal_kept d true (c ∷ cs) e h =
    ended_test (c ∷ cs) (c == d) _ _
    (λ test.
    let same : c ≡ d = grind (arith, nat_tests) in
    let now : balanced (Some d) cs ≡ true = ap (λ o. balanced o cs) (sym (ap opened same ∙ stay (is_delimiter d) _ _ e)) ∙ h in
    let t = literal_kept d false cs e now in
    record { closed = t.closed; rest = later c (literal d false cs).taken cs t.rest })
    (λ test. record { closed = refl; rest = h })

text_kept : (c : ℕ) (cs : List ℕ) → is_delimiter c ≡ true → IsKept c cs (text_at c cs)
text_kept c cs e = record {
  closed = λ h. λ k.
      let t = literal_kept c false cs e (ap (λ o. balanced o cs) (sym (stay (is_delimiter c) _ _ e)) ∙ h) in
      let never : lexeme.Text (literal c false cs).bytes ≡ lexeme.Unclosed =
      sym (stay (literal c false cs).closed _ _ t.closed) ∙ k in
      cc;
  rest = λ h. (literal_kept c false cs e (ap (λ o. balanced o cs) (sym (stay (is_delimiter c) _ _ e)) ∙ h)).rest;
}

point_cases : (cs : List ℕ) (b : Bool) → not (is_nil (front is_letter cs)) && begins_with 46 (behind_front is_letter cs) ≡ b
    → IsKept 46 cs (pointed (cond b (Some (map lower (front is_letter cs))) None))
point_cases cs false test = record { closed = λ h. λ k. cc; rest = λ h. h }
point_cases cs true test = record {
  closed = λ h. λ k. cc;
  rest = λ h.
      let letters = front is_letter cs in
      let behind = behind_front is_letter cs in
      let point : behind ≡ 46 ∷ drop 1 behind = begun_by 46 behind (and_second (not (is_nil letters)) (begins_with 46 behind) test) in
      let start : balanced None behind ≡ true =
      ap (balanced None) (sym (drop_front is_letter cs)) ∙ front_kept is_letter cs letter_plain h in
      let after_point : balanced None (drop 1 behind) ≡ true = ap (balanced None) (sym point) ∙ start in
      ap (λ n. balanced None (drop (n + 1) cs)) (length-map letters lower)
      ∙ ap (balanced None) (sym (drop-drop 1 (length letters) cs) ∙ ap (drop 1) (drop_front is_letter cs)) ∙ after_point;
}

no_symbol : (c d : ℕ) → is_delimiter d ≡ true → symbol_of_two c d ≡ None
no_symbol c d e =
    let slash : d == 47 ≡ false = grind (arith, nat_tests) in
    let paren : d == 41 ≡ false = grind (arith, nat_tests) in
    let colon : d == 58 ≡ false = grind (arith, nat_tests) in
    let equals : d == 61 ≡ false = grind (arith, nat_tests) in
    let star : d == 42 ≡ false = grind (arith, nat_tests) in
    skip (c == 40 && d == 47) _ _ _ (and_right (c == 40) (d == 47) slash)
    (skip (c == 47 && d == 41) _ _ _ (and_right (c == 47) (d == 41) paren)
    (skip (c == 58 && d == 58) _ _ _ (and_right (c == 58) (d == 58) colon)
    (skip (c == 61 && d == 61) _ _ _ (and_right (c == 61) (d == 61) equals)
    (skip (c == 47 && d == 61) _ _ _ (and_right (c == 47) (d == 61) equals)
    (skip (c == 60 && d == 61) _ _ _ (and_right (c == 60) (d == 61) equals)
    (skip (c == 62 && d == 61) _ _ _ (and_right (c == 62) (d == 61) equals)
    (skip (c == 42 && d == 42) _ _ _ (and_right (c == 42) (d == 42) star)
    (skip (c == 47 && d == 47) _ _ _ (and_right (c == 47) (d == 47) slash) refl))))))))

symbol_plain : (c d : ℕ) (m : Mark) (b : Bool) → is_delimiter d ≡ b → symbol_of_two c d ≡ Some m → is_delimiter d ≡ false
symbol_plain c d m false e s = e
symbol_plain c d m true e s = let never : None ≡ Some m = sym (no_symbol c d e) ∙ s in cc

single_kept : (c : ℕ) (cs : List ℕ) (o : Option Mark) → is_delimiter c ≡ false → IsKept c cs (symbol 0 o)
single_kept c cs None other = record { closed = λ h. λ k. cc; rest = λ h. step c cs other h }
single_kept c cs (Some m) other = record { closed = λ h. λ k. cc; rest = λ h. step c cs other h }

pair_kept : (c d : ℕ) (ds : List ℕ) (o : Option Mark) → is_delimiter c ≡ false → symbol_of_two c d ≡ o
    → IsKept c (d ∷ ds) (longer_or o (symbol_of_one c))
pair_kept c d ds None other e = single_kept c (d ∷ ds) (symbol_of_one c) other
pair_kept c d ds (Some m) other e = record {
  closed = λ h. λ k. cc;
  rest = λ h. step d ds (symbol_plain c d m (is_delimiter d) refl e) (step c (d ∷ ds) other h);
}

symbol_kept : (c : ℕ) (cs : List ℕ) → is_delimiter c ≡ false → IsKept c cs (symbol_at c cs)
symbol_kept c [] other = single_kept c [] (symbol_of_one c) other
symbol_kept c (d ∷ ds) other = pair_kept c d ds (symbol_of_two c d) other refl

pub found_kept : (c : ℕ) (cs : List ℕ) → IsKept c cs (found_at c cs)
found_kept c cs =
    by_test c cs (is_blank c) _ _ (λ e. let other : is_delimiter c
    ≡ false = grind (arith, nat_tests) in record { closed = λ h. λ k. cc; rest = λ h. step c cs other h })
    (λ e1. by_test c cs (c == 10) _ _ (λ e. let other : is_delimiter c
    ≡ false = grind (arith, nat_tests) in record { closed = λ h. λ k. cc; rest = λ h. step c cs other h })
    (λ e2. by_test c cs (is_letter c) _ _ (λ e. word_kept c cs e)
    (λ e3. by_test c cs (is_digit c) _ _ (λ e. number_kept c cs e)
    (λ e4. by_test c cs (is_delimiter c) _ _ (λ e. text_kept c cs e)
    (λ e5. by_test c cs (c == 46) _ _ (λ e. let is : 46
    ≡ c = grind (
      arith,
      nat_tests,
    ) in subst (λ x. IsKept x cs (pointed (word_to_point cs))) is
    (point_cases cs (not (is_nil (front is_letter cs)) && begins_with 46 (behind_front is_letter cs)) refl))
    (λ e6. symbol_kept c cs e5))))))
