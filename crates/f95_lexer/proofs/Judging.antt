-- The rules of refusal, and the one list of what is broken.
use Rattle.std.proofs.Common.{◌≡◌, ℕ, zero, suc, ℤ, ◌<◌, ◌≤◌, ◌⊎◌, Bool, true, false, nat_lt, cond, List, [], ◌∷◌, length, map}
use Rattle.std.proofs.Common.{Option, Some, None, Result, Ok, Err, IfOk, IfErr, OnOk, refl, sym, subst, inl, inr, ⊎_elim, arith}
use Rattle.std.proofs.lemmas.Bool.{cases_lt}
use Rattle.std.proofs.lemmas.Bool.Decides.{nat_tests}
use Rattle.a95_base.specs.Lists.{Member, Every}
use Rattle.a95_base.proofs.Lists.{Member-from_map, Member-map, Member-append_left, Member-append_right, Member-append_cases}
use Rattle.a95_base.proofs.Lists.{each_has}
use Rattle.f95_lexer.specs.declared.character.Character.{Character}
use Rattle.a95_base.specs.declared.breaks.Break.{Break}
use Rattle.f95_lexer.specs.declared.lexeme.Lexeme.{Lexeme}
use Rattle.f95_lexer.specs.declared.lexeme.Lexeme.TheVariants as lexeme
use Rattle.f95_lexer.specs.Continuation.{Onward, Ended, GoesOn, StatementLine, HasLines}
use Rattle.f95_lexer.specs.Lexeme.{is_dotted, found_at, bytes_of}
use Rattle.f95_lexer.specs.Lines.{text_lines}
use Rattle.a95_base.specs.Breaks.{ComesFirst, IsLeast, AreBroken, broken_at, first_of}
use Rattle.f95_lexer.specs.Splicing.{line_breaks, spliced}
use Rattle.f95_lexer.specs.Statements.{Placed, lexemes_behind, lexemes_of, rules_of, if_clings, token_breaks}
use Rattle.f95_lexer.specs.Rules.{IsLine, Stands, BreaksInLine, FindsNoLine, IsBroken, breaks_of}
use Rattle.f95_lexer.specs.Rules.{numbered_from, Refuses, RefusesBy}
use Rattle.f95_lexer.specs.Rules as rules_of_phase
use Rattle.a95_base.specs.declared.source.PhaseError.{PhaseError}
use Rattle.a95_base.specs.declared.source.PhaseError.TheVariants.{Memory, Broken}
use Rattle.f95_lexer.proofs.Members.{from_flat, into_flat}
use Rattle.a95_base.proofs.First.{first_is_least}
use Rattle.f95_lexer.proofs.TextRead.{has_lines, lines_spliced, LineBreak, of_line, no_further, break_sound, break_complete}
use Rattle.f95_lexer.proofs.InLines.{IsContinuationBreak, IsLongLine, IsCounted, text_counted, line_break_is, long_line_broken}

-- What stands in what the lines leave stands in what is spliced.

stands_in : (bytes : List ℕ) (line : ℕ) (l : Lexeme) → Stands bytes line l
    → Member (lexemes_of bytes) (record { line = line; lexeme = l })
stands_in bytes line l s =
    subst (λ (t : List Character). Member (lexemes_behind 0 t) (record {
      line = line;
      lexeme = l;
    })) (sym (lines_spliced bytes s.0 s.1 s.2).text) s.3

stands_so : (bytes : List ℕ) (line : ℕ) (l : Lexeme) → Member (lexemes_of bytes) (record { line = line; lexeme = l })
    → Stands bytes line l
stands_so bytes line l h =
    let all = has_lines Ended 1 (text_lines bytes) in (
      all.lines,
      all.behind,
      all.read,
      subst (λ (t : List Character). Member (lexemes_behind 0 t) (record {
        line = line;
        lexeme = l;
      })) (lines_spliced bytes all.lines all.behind all.read).text h,
    )

-- A lexeme that stands somewhere, and a rule that it breaks.

clings_break : (bytes : List ℕ) (line r : ℕ) (value : Option ℤ) (clings : Bool) → Stands bytes line (lexeme.Number value clings)
    → Member (if_clings clings) r → IsBroken bytes line r
clings_break bytes line r value true s h = ⊎_elim
    (λ (e : 9 ≡ r). subst (λ q. IsBroken bytes line q) e (rules_of_phase.number_runs_on value s))
    (λ (x : ⊥). absurd x) h
clings_break bytes line r value false s h = absurd h

word_break : (bytes : List ℕ) (line r : ℕ) (w : List ℕ) (b : Bool) → nat_lt 31 (length w) ≡ b → Stands bytes line (lexeme.Word w)
    → Member (cond b (7 ∷ []) []) r → IsBroken bytes line r
word_break bytes line r w true t s h =
    let long : 31 < length w = grind (arith, nat_tests) in
    ⊎_elim
    (λ (e : 7 ≡ r). subst (λ q. IsBroken bytes line q) e (rules_of_phase.long_word w s long))
    (λ (x : ⊥). absurd x) h
word_break bytes line r w false t s h = absurd h

pointed_break : (bytes : List ℕ) (line r : ℕ) (w : List ℕ) (b : Bool) → is_dotted w ≡ b → Stands bytes line (lexeme.Pointed w)
    → Member (cond b [] (10 ∷ [])) r → IsBroken bytes line r
pointed_break bytes line r w true t s h = absurd h
pointed_break bytes line r w false t s h = ⊎_elim
    (λ (e : 10 ≡ r). subst (λ q. IsBroken bytes line q) e (rules_of_phase.no_dotted_word w s t))
    (λ (x : ⊥). absurd x) h

lexeme_break : (bytes : List ℕ) (line r : ℕ) (l : Lexeme) → Stands bytes line l → Member (rules_of l) r → IsBroken bytes line r
lexeme_break bytes line r (lexeme.Word w) s h = word_break bytes line r w (nat_lt 31 (length w)) refl s h
lexeme_break bytes line r (lexeme.Number None clings) s h = ⊎_elim
    (λ (e : 8 ≡ r). subst (λ q. IsBroken bytes line q) e (rules_of_phase.large_number clings s))
    (λ (k : Member (if_clings clings) r). clings_break bytes line r None clings s k) h
lexeme_break bytes line r (lexeme.Number (Some z) clings) s h = clings_break bytes line r (Some z) clings s h
lexeme_break bytes line r (lexeme.Pointed w) s h = pointed_break bytes line r w (is_dotted w) refl s h
lexeme_break bytes line r lexeme.Stray s h = ⊎_elim
    (λ (e : 2 ≡ r). subst (λ q. IsBroken bytes line q) e (rules_of_phase.stray s))
    (λ (x : ⊥). absurd x) h
lexeme_break bytes line r lexeme.Blank s h = absurd h
lexeme_break bytes line r lexeme.End s h = absurd h
lexeme_break bytes line r (lexeme.Text t) s h = absurd h
lexeme_break bytes line r lexeme.Unclosed s h = absurd h
lexeme_break bytes line r (lexeme.Symbol m) s h = absurd h

abbrev breaks_at : Placed → List Break
breaks_at p = map (broken_at p.line) (rules_of p.lexeme)

token_break_is : (bytes : List ℕ) (b : Break) → Member (token_breaks (lexemes_of bytes)) b → IsBroken bytes b.line b.rule
token_break_is bytes b h =
    let f = from_flat breaks_at b (lexemes_of bytes) h in
    let m = Member-from_map (broken_at f.source.line) (rules_of f.source.lexeme) b f.gives in
    subst (λ (x : Break). IsBroken bytes x.line x.rule) m.1.1
    (lexeme_break bytes f.source.line m.0 f.source.lexeme (stands_so bytes f.source.line f.source.lexeme f.has) m.1.0)

line_broken : (bytes : List ℕ) (lines : List StatementLine) (behind : Onward) (line rule : ℕ) → HasLines bytes lines behind
    → LineBreak lines behind line rule → IsBroken bytes line rule
line_broken bytes lines behind line rule r (of_line n k o) = rules_of_phase.in_line (lines, behind, o.which, r, o.has, o.breaks)
line_broken bytes lines behind line rule r (no_further inside from count e) =
    rules_of_phase.no_further_line (lines, inside, count, subst (λ x. HasLines bytes lines x) e r)

rule_not_three : (r : ℕ) → r ≡ 3 → (r ≡ 4) ⊎ ((r ≡ 5) ⊎ (r ≡ 6)) → ⊥
rule_not_three r e (inl f) = omega (arith, e, f)
rule_not_three r e (inr (inl f)) = omega (arith, e, f)
rule_not_three r e (inr (inr f)) = omega (arith, e, f)

-- a break by rule 3 is a long line
pub long_is : (bytes : List ℕ) (b : Break) → Member (line_breaks bytes) b → b.rule ≡ 3
    → IsLongLine (numbered_from 1 (text_lines bytes)) b
long_is bytes b h e = ⊎_elim
    (λ (x : IsContinuationBreak b). absurd (rule_not_three b.rule e x.rule))
    (λ (x : IsLongLine (numbered_from 1 (text_lines bytes)) b). x)
    (line_break_is bytes b h)

line_break_broken : (bytes : List ℕ) (b : Break) → Member (line_breaks bytes) b → IsBroken bytes b.line b.rule
line_break_broken bytes b h =
    let all = has_lines Ended 1 (text_lines bytes) in
    ⊎_elim
    (λ (e : b.rule
    ≡ 3). let x =
    long_is bytes b h e in subst (λ r. IsBroken bytes b.line r) (sym x.rule) (rules_of_phase.long_line x.text x.has x.long))
    (λ (x : LineBreak all.lines all.behind b.line b.rule). line_broken bytes all.lines all.behind b.line b.rule all.read x)
    (break_sound bytes all.lines all.behind b all.read h)

-- What the one list has is broken.
pub listed_is_broken : (bytes : List ℕ) (b : Break) → Member (breaks_of bytes) b → IsBroken bytes b.line b.rule
listed_is_broken bytes b h = ⊎_elim
    (λ (x : Member (line_breaks bytes) b). line_break_broken bytes b x)
    (λ (x : Member (token_breaks (lexemes_of bytes)) b). token_break_is bytes b x)
    (Member-append_cases (line_breaks bytes) (token_breaks (lexemes_of bytes)) b h)

-- What is broken is in the list, but for the length of the file.

in_tokens : (bytes : List ℕ) (line r : ℕ) (l : Lexeme) → Stands bytes line l → Member (rules_of l) r
    → Member (breaks_of bytes) (broken_at line r)
in_tokens bytes line r l s h =
    Member-append_right (line_breaks bytes) (token_breaks (lexemes_of bytes)) (broken_at line r)
    (into_flat breaks_at (broken_at line r) (record {
      line = line;
      lexeme = l;
    }) (lexemes_of bytes) (stands_in bytes line l s) (Member-map (broken_at line) (rules_of l) r h))

in_lines : (bytes : List ℕ) (line r : ℕ) → Member (line_breaks bytes) (broken_at line r)
    → Member (breaks_of bytes) (broken_at line r)
in_lines bytes line r h = Member-append_left (line_breaks bytes) (token_breaks (lexemes_of bytes)) (broken_at line r) h

long_rule : (w : List ℕ) → 31 < length w → Member (rules_of (lexeme.Word w)) 7
long_rule w long =
    let b : nat_lt 31 (length w) ≡ true = grind (arith, nat_tests) in
    subst (λ t. Member {A = ℕ} (cond t (7 ∷ []) []) 7) (sym b) (inl refl)

clings_rule : (value : Option ℤ) → Member (rules_of (lexeme.Number value true)) 9
clings_rule None = inr (inl refl)
clings_rule (Some z) = inl refl

in_line_listed : (bytes : List ℕ) (line rule : ℕ) → BreaksInLine bytes line rule → Member (line_breaks bytes) (broken_at line rule)
in_line_listed bytes line rule b =
    break_complete bytes b.0 b.1 line rule b.3 (of_line line rule (record { which = b.2; has = b.4; breaks = b.5 }))

no_line_listed : (bytes : List ℕ) (from : ℕ) → FindsNoLine bytes from → Member (line_breaks bytes) (broken_at from 6)
no_line_listed bytes from f = break_complete bytes f.0 (GoesOn f.1 from f.2) from 6 f.3 (no_further f.1 from f.2 refl)

pub broken_is_listed : (bytes : List ℕ) (line rule : ℕ) → length bytes ≤ 1048576 → IsBroken bytes line rule
    → Member (breaks_of bytes) (broken_at line rule)
broken_is_listed bytes line rule short (rules_of_phase.long_file long) = absurd (omega arith)
broken_is_listed bytes line rule short (rules_of_phase.stray s) = in_tokens bytes line 2 lexeme.Stray s (inl refl)
broken_is_listed bytes line rule short (rules_of_phase.long_line text s long) =
    in_lines bytes line 3 (long_line_broken bytes line text s long)
broken_is_listed bytes line rule short (rules_of_phase.in_line b) = in_lines bytes line rule (in_line_listed bytes line rule b)
broken_is_listed bytes line rule short (rules_of_phase.no_further_line f) = in_lines bytes line 6 (no_line_listed bytes line f)
broken_is_listed bytes line rule short (rules_of_phase.long_word w s long) =
    in_tokens bytes line 7 (lexeme.Word w) s (long_rule w long)
broken_is_listed bytes line rule short (rules_of_phase.large_number clings s) =
    in_tokens bytes line 8 (lexeme.Number None clings) s (inl refl)
broken_is_listed bytes line rule short (rules_of_phase.number_runs_on value s) =
    in_tokens bytes line 9 (lexeme.Number value true) s (clings_rule value)
broken_is_listed bytes line rule short (rules_of_phase.no_dotted_word w s not_one) =
    in_tokens bytes line 10 (lexeme.Pointed w) s (subst (λ t. Member {A = ℕ} (cond t [] (10 ∷ [])) 10) (sym not_one) (inl refl))

-- The first of them.

pub nothing_broken : (bytes : List ℕ) (line rule : ℕ) → length bytes ≤ 1048576 → breaks_of bytes ≡ [] → IsBroken bytes line rule → ⊥
nothing_broken bytes line rule short none h =
    subst (λ l. Member l (broken_at line rule)) none (broken_is_listed bytes line rule short h)

-- short bytes break exactly what is listed
are_listed : (bytes : List ℕ) → length bytes ≤ 1048576 → AreBroken (IsBroken bytes) (breaks_of bytes)
are_listed bytes short = record {
  sound = λ b. listed_is_broken bytes b;
  complete = λ line. λ rule. broken_is_listed bytes line rule short;
}

pub first_listed : (bytes : List ℕ) (line rule : ℕ) → length bytes ≤ 1048576
    → first_of (breaks_of bytes) ≡ Some (broken_at line rule) → IsLeast (IsBroken bytes) line rule
first_listed bytes line rule short e = first_is_least (IsBroken bytes) (breaks_of bytes) (broken_at line rule)
    (are_listed bytes short) e

record IsPlaced (p : Placed) : Type 0 where
  counted : 1 ≤ p.line

placed : (n : ℕ) (cs : List Character) → Every IsCounted cs → Every IsPlaced (lexemes_behind n cs)
placed n [] h = tt
placed (suc n) (c ∷ cs) h = placed n cs h.1
placed zero (c ∷ cs) h = (record { counted = h.0.counted }, placed (found_at c.byte (bytes_of cs)).further cs h.1)

stands_counted : (bytes : List ℕ) (line : ℕ) (l : Lexeme) → Stands bytes line l → 1 ≤ line
stands_counted bytes line l s =
    (each_has IsPlaced (lexemes_of bytes) (record {
      line = line;
      lexeme = l;
    }) (placed 0 (spliced bytes).text (text_counted bytes)) (stands_in bytes line l s)).counted

in_line_counted : (bytes : List ℕ) (b : Break) → Member (line_breaks bytes) b → 1 ≤ b.line
in_line_counted bytes b h = ⊎_elim
    (λ (x : IsContinuationBreak b). x.counted)
    (λ (x : IsLongLine (numbered_from 1 (text_lines bytes)) b). x.counted)
    (line_break_is bytes b h)

some_rule : (r : ℕ) → (r ≡ 4) ⊎ ((r ≡ 5) ⊎ (r ≡ 6)) → 1 ≤ r
some_rule r (inl e) = omega (arith, e)
some_rule r (inr (inl e)) = omega (arith, e)
some_rule r (inr (inr e)) = omega (arith, e)

in_line_rule : (bytes : List ℕ) (b : Break) → Member (line_breaks bytes) b → 1 ≤ b.rule
in_line_rule bytes b h = ⊎_elim
    (λ (x : IsContinuationBreak b). some_rule b.rule x.rule)
    (λ (x : IsLongLine (numbered_from 1 (text_lines bytes)) b). omega (arith, x.rule))
    (line_break_is bytes b h)

top : (line rule : ℕ) → 1 ≤ line → 1 ≤ rule → ComesFirst 1 1 line rule
top line rule h k = ⊎_elim
    (λ (x : 1 < line). inl x)
    (λ (x : line ≤ 1). let e : 1 ≡ line = omega arith in inr (e, k))
    (cases_lt 1 line)

-- no rule is broken on an earlier line than the first, nor is a lesser one than the first
first_of_all : (bytes : List ℕ) (line rule : ℕ) → IsBroken bytes line rule → ComesFirst 1 1 line rule
first_of_all bytes line rule (rules_of_phase.long_file long) = top 1 1 (omega arith) (omega arith)
first_of_all bytes line rule (rules_of_phase.stray s) = top line 2 (stands_counted bytes line lexeme.Stray s) (omega arith)
first_of_all bytes line rule (rules_of_phase.long_line text s long) =
    top line 3 (in_line_counted bytes (broken_at line 3) (long_line_broken bytes line text s long)) (omega arith)
first_of_all bytes line rule (rules_of_phase.in_line b) = let h =
    in_line_listed bytes line rule b in top line rule (in_line_counted bytes (broken_at line rule) h)
    (in_line_rule bytes (broken_at line rule) h)
first_of_all bytes line rule (rules_of_phase.no_further_line f) =
    top line 6 (in_line_counted bytes (broken_at line 6) (no_line_listed bytes line f)) (omega arith)
first_of_all bytes line rule (rules_of_phase.long_word w s long) =
    top line 7 (stands_counted bytes line (lexeme.Word w) s) (omega arith)
first_of_all bytes line rule (rules_of_phase.large_number clings s) =
    top line 8 (stands_counted bytes line (lexeme.Number None clings) s) (omega arith)
first_of_all bytes line rule (rules_of_phase.number_runs_on value s) =
    top line 9 (stands_counted bytes line (lexeme.Number value true) s) (omega arith)
first_of_all bytes line rule (rules_of_phase.no_dotted_word w s not_one) =
    top line 10 (stands_counted bytes line (lexeme.Pointed w) s) (omega arith)

pub long_is_least : (bytes : List ℕ) → 1048576 < length bytes → IsLeast (IsBroken bytes) 1 1
long_is_least bytes long = record { broken = rules_of_phase.long_file long; least = first_of_all bytes }

refuses : (bytes : List ℕ) (e : PhaseError) → length bytes ≤ 1048576 → RefusesBy (first_of (breaks_of bytes)) e → Refuses bytes e
refuses bytes Memory short h = tt
refuses bytes (Broken line rule) short h = first_listed bytes line.0 rule.0 short h

pub refused_by : {T : Type 0} (bytes : List ℕ) (r : Result T PhaseError) → length bytes ≤ 1048576
    → IfErr r (λ e. RefusesBy (first_of (breaks_of bytes)) e) → IfErr r (Refuses bytes)
refused_by bytes (Ok x) short h = tt
refused_by bytes (Err e) short h = refuses bytes e short h

pub unbroken_by : {T : Type 0} (bytes : List ℕ) (r : Result T PhaseError) → length bytes ≤ 1048576
    → IfOk r (λ x. breaks_of bytes ≡ []) → OnOk r ((line rule : ℕ) → IsBroken bytes line rule → ⊥)
unbroken_by bytes (Ok x) short h = λ line. λ rule. nothing_broken bytes line rule short h
unbroken_by bytes (Err e) short h = tt
