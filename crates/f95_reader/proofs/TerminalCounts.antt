-- The forms of a text have at most twice as many terminals as the text has bytes.
use Rattle.std.proofs.Common.{◌≡◌, ℕ, zero, suc, ◌+◌, ◌*◌, ◌≤◌, Bool, true, false, List, [], ◌∷◌, ◌++◌, length, Option, Some, None}
use Rattle.std.proofs.Common.{sym, ◌∙◌, ap, subst, refl, arith}
use Rattle.std.proofs.lemmas.List.{length-append}
use Rattle.f95_lexer.specs.declared.token.Token.{Token}
use Rattle.f95_lexer.specs.declared.token.Token.TheVariants as token
use Rattle.f95_lexer.specs.declared.token.Mark.{Mark}
use Rattle.f95_lexer.specs.declared.token.Mark.TheVariants as mark
use Rattle.f95_lexer.specs.declared.token.Statement.{Statement}
use Rattle.f95_tree.specs.declared.terminal.Terminal.{Terminal}
use Rattle.f95_tree.specs.Forms.{Word, spell_form}
use Rattle.f95_parser.specs.Words.{Keywords, reserved}
use Rattle.f95_parser.specs.Tokens.{words_of, inside, marked, terminals_at, open_behind, terminals_from, terminals_of}
use Rattle.f95_nesting.specs.Nesting.{Lined}
use Rattle.f95_reader.specs.Reading.{IsFormOf, AreForms, HasForms}
use Rattle.f95_reader.specs.Sizes.{token_count, terminal_count}
use Rattle.f95_reader.proofs.TokenCounts.{tokens_within}

two_words : (w : Word) (k : Option Keywords) → length (words_of w k) ≤ 2
two_words w None = omega arith
two_words w (Some (k, None)) = omega arith
two_words w (Some (k, Some l)) = omega arith

two_inside : (n : ℕ) (t : Terminal) → length (inside n t) ≤ 2
two_inside zero t = omega arith
two_inside (suc n) t = omega arith

two_marks : (n : ℕ) (m : Mark) → length (marked n m) ≤ 2
two_marks n mark.DoubleColon = two_inside n _
two_marks n m = omega arith

two_each : (n : ℕ) (t : Token) → length (terminals_at n t) ≤ 2
two_each n (token.Word w) = two_words w (reserved w)
two_each n (token.Number i) = omega arith
two_each n (token.Text t) = omega arith
two_each n (token.Dotted w) = omega arith
two_each n (token.Mark m) = two_marks n m

twice : (n : ℕ) (ts : List Token) → length (terminals_from n ts) ≤ 2 * length ts
twice n [] = omega arith
twice n (t ∷ ts) =
    let e = length-append (terminals_at n t) (terminals_from (open_behind n t) ts) in
    let h = twice (open_behind n t) ts in let k = two_each n t in omega (arith, e, h, k)

forms_counted : (ss : List Statement) (fs : List Lined) → AreForms ss fs → terminal_count fs ≤ 2 * token_count ss
forms_counted [] [] a = omega arith
forms_counted [] (f ∷ fs) a = absurd a
forms_counted (s ∷ ss) [] a = absurd a
forms_counted (s ∷ ss) (f ∷ fs) a =
    let h = forms_counted ss fs a.1 in let k = twice 0 s.tokens in
    let e : length (terminals_of s.tokens) ≡ length (spell_form f.1) = ap length a.0.form.spelled in omega (arith, h, k, e)

pub terminals_within : (bytes : List ℕ) (fs : List Lined) (feeds : ℕ) → HasForms bytes fs feeds → terminal_count fs ≤ 2
    * length bytes
terminals_within bytes fs feeds h =
    let a = forms_counted h.statements fs h.are in let b = tokens_within bytes h.statements feeds h.cut in omega (arith, a, b)
