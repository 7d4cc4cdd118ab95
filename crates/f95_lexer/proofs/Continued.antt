-- Where no rule of lines is broken, the spliced characters are balanced.
use Rattle.std.proofs.Common.{◌≡◌, ℕ, ◌+◌, ◌-◌, Bool, true, false, ◌&&◌, ◌==◌, not, cond, List, [], ◌∷◌, ◌++◌, Option, Some, None}
use Rattle.std.proofs.Common.{refl, sym, ap, ◌∙◌, append_assoc, append-nil}
use Rattle.std.proofs.lemmas.List.{map-append}
use Rattle.a95_base.specs.Lists.{Every}
use Rattle.f95_lexer.specs.Continuation.{opened, kept}
use Rattle.f95_lexer.specs.declared.character.Character.{Character}
use Rattle.f95_lexer.specs.declared.splice.Mode.{Mode}
use Rattle.f95_lexer.specs.declared.splice.Mode.TheVariants.{Fresh, Goes, Inside}
use Rattle.f95_lexer.specs.Characters.{is_blank, from_blank, is_comment, is_empty, AllPass}
use Rattle.f95_lexer.specs.Lines.{onto, begins_with_feed, text_lines}
use Rattle.a95_base.specs.Breaks.{broken_at}
use Rattle.std.proofs.lemmas.Bool.{not-true}
use Rattle.f95_lexer.specs.Splicing.{Spliced, ends, put, breaks_rule, all_broken, fortieth, scan, begun, line_read}
use Rattle.f95_lexer.specs.Splicing.{too_long, splice, spliced, unfinished, line_breaks}
use Rattle.f95_lexer.specs.Lexeme.{bytes_of}
use Rattle.f95_lexer.specs.Spelling.{is_inside}
use Rattle.f95_lexer.proofs.Written.{skip}
use Rattle.f95_lexer.proofs.Balance.{balanced}

abbrev mode_context : Mode → Option ℕ
mode_context Fresh = None
mode_context (Goes line left) = None
mode_context (Inside d line left) = Some d

-- unless a rule is broken, what is spliced leads from the one context to that of the mode
record Leads (context : Option ℕ) (s : Spliced) : Type 0 where
  leads : s.breaks ≡ [] → (rest : List ℕ) → balanced (mode_context s.mode) rest ≡ true
      → balanced context (bytes_of s.text ++ rest) ≡ true

at_cond : (context : Option ℕ) (b : Bool) (x y : Spliced) → Leads context x → Leads context y → Leads context (cond b x y)
at_cond context true x y f g = f
at_cond context false x y f g = g

ends_leads : (m : Mode) → Leads (mode_context m) (ends m)
ends_leads m = record { leads = λ whole. λ rest. λ h. h }

breaks_leads : (context : Option ℕ) (line r : ℕ) (s : Spliced) → Leads context (breaks_rule line r s)
breaks_leads context line r s = record { leads = λ whole. λ rest. λ h. cc }

put_leads : (c line : ℕ) (s : Spliced) → Leads (opened c) s → Leads None (put c line s)
put_leads c line s f = record { leads = λ whole. λ rest. λ h. f.leads whole rest h }

kept_leads : (d c line : ℕ) (s : Spliced) → c == 10 ≡ false → Leads (kept d c) s → Leads (Some d) (put c line s)
kept_leads d c line s other f = record { leads = λ whole. λ rest. λ h. skip (c == 10) false _ _ other refl ∙ f.leads whole rest h }

counted_leads : (context : Option ℕ) (line left : ℕ) (s : Spliced) → Leads context s
    → Leads context (all_broken (fortieth line left) s)
counted_leads context line left s f = go (left == 1)
  where
    go : (b : Bool) → Leads context (all_broken (cond b (broken_at line 4 ∷ []) []) s)
    go true = record { leads = λ whole. λ rest. λ h. cc }
    go false = f

scan_leads : (inside : Option ℕ) (line left : ℕ) (cs : List ℕ) → AllPass is_inside cs → Leads inside (scan inside line left cs)
scan_leads None line left [] all = put_leads 10 line _ (ends_leads Fresh)
scan_leads (Some d) line left [] all = breaks_leads (Some d) line 5 _
scan_leads None line left (c ∷ cs) all =
    at_cond None (c == 33) _ _ (put_leads 10 line _ (ends_leads Fresh))
    (at_cond None (c == 59) _ _ (put_leads 10 line _ (scan_leads None line 40 cs all.1))
    (at_cond None (c == 38 && is_comment (from_blank cs)) _ _ (ends_leads (Goes line left))
    (put_leads c line _ (scan_leads (opened c) line left cs all.1))))
scan_leads (Some d) line left (c ∷ cs) all =
    at_cond (Some d) (c == 38 && is_empty (from_blank cs)) _ _ (ends_leads (Inside d line left))
    (kept_leads d c line _ (not-true (c == 10) all.0) (scan_leads (kept d c) line left cs all.1))

begun_leads : (m : Mode) (line c : ℕ) (cs : List ℕ) → AllPass is_inside (c ∷ cs) → Leads (mode_context m) (begun m line c cs)
begun_leads Fresh line c cs all = at_cond None (c == 38) _ _ (breaks_leads None line 6 _) (scan_leads None line 40 (c ∷ cs) all)
begun_leads (Goes from left) line c cs all = counted_leads None line left _ (
    at_cond None (c == 38) _ _
    (at_cond None (is_comment (from_blank cs)) _ _ (breaks_leads None line 6 _) (scan_leads None line (left - 1) cs all.1))
    (put_leads 32 line _ (scan_leads None line (left - 1) (c ∷ cs) all)))
begun_leads (Inside d from left) line c cs all = counted_leads (Some d) line left _ (
    at_cond (Some d) (c == 38) _ _
    (at_cond (Some d) (is_empty (from_blank cs)) _ _ (breaks_leads (Some d) line 6 _)
    (scan_leads (Some d) line (left - 1) cs all.1))
    (breaks_leads (Some d) from 6 _))

read_leads : (m : Mode) (line : ℕ) (cs : List ℕ) → AllPass is_inside cs → Leads (mode_context m) (line_read m line cs)
read_leads m line [] all = ends_leads m
read_leads m line (c ∷ cs) all = at_cond (mode_context m) (c == 33) _ _ (ends_leads m) (begun_leads m line c cs all)

from_blank_inside : (cs : List ℕ) → AllPass is_inside cs → AllPass is_inside (from_blank cs)
from_blank_inside [] all = tt
from_blank_inside (c ∷ cs) all = go (is_blank c) (from_blank_inside cs all.1)
  where
    go : (b : Bool) → AllPass is_inside (from_blank cs) → AllPass is_inside (cond b (from_blank cs) (c ∷ cs))
    go true more = more
    go false more = all

-- an empty list joined of two
pub left_empty : {A : Type 0} (xs ys : List A) → xs ++ ys ≡ [] → xs ≡ []
left_empty [] ys e = refl
left_empty (x ∷ xs) ys e = cc

pub right_empty : {A : Type 0} (xs ys : List A) → xs ++ ys ≡ [] → ys ≡ []
right_empty [] ys e = e
right_empty (x ∷ xs) ys e = cc

abbrev IsInsideLine : List ℕ → Type 0
IsInsideLine text = AllPass is_inside text

splice_leads : (m : Mode) (n : ℕ) (texts : List (List ℕ)) → Every IsInsideLine texts → Leads (mode_context m) (splice m n texts)
splice_leads m n [] all = ends_leads m
splice_leads m n (text ∷ texts) all =
    let first = line_read m n (from_blank text) in
    let rest = splice first.mode (n + 1) texts in
    let now = read_leads m n (from_blank text) (from_blank_inside text all.0) in
    let more = splice_leads first.mode (n + 1) texts all.1 in
    record {
      leads = λ whole. λ behind. λ h.
          let front = left_empty (too_long n text ++ first.breaks) rest.breaks whole in
          ap (balanced (mode_context m)) (ap (λ l. l ++ behind) (map-append (λ (x : Character). x.byte) first.text rest.text)
          ∙ append_assoc (bytes_of first.text) (bytes_of rest.text) behind)
          ∙ now.leads (right_empty (too_long n text) first.breaks front) (bytes_of rest.text ++ behind)
          (more.leads (right_empty (too_long n text ++ first.breaks) rest.breaks whole) behind h);
    }

-- no line has a line feed in it
onto_inside : (c : ℕ) (lines : List (List ℕ)) → is_inside c ≡ true → Every IsInsideLine lines → Every IsInsideLine (onto c lines)
onto_inside c [] e all = ((e, tt), tt)
onto_inside c (line ∷ lines) e all = ((e, all.0), all.1)

lines_inside : (bytes : List ℕ) → Every IsInsideLine (text_lines bytes)
lines_inside [] = tt
lines_inside (c ∷ cs) = go (c == 10) (c == 13 && begins_with_feed cs) refl (lines_inside cs)
  where
    go : (b r : Bool) → c == 10 ≡ b → Every IsInsideLine (text_lines cs)
        → Every IsInsideLine (cond b ([] ∷ text_lines cs) (cond r (text_lines cs) (onto c (text_lines cs))))
    go true r e more = (tt, more)
    go false true e more = more
    go false false e more = onto_inside c (text_lines cs) (ap not e) more

finished : (m : Mode) → unfinished m ≡ [] → balanced (mode_context m) [] ≡ true
finished Fresh e = refl
finished (Goes line left) e = refl
finished (Inside d line left) e = cc

pub whole_balanced : (bytes : List ℕ) → line_breaks bytes ≡ [] → balanced None (bytes_of (spliced bytes).text) ≡ true
whole_balanced bytes whole =
    let s = spliced bytes in
    ap (balanced None) (sym (append-nil (bytes_of s.text)))
    ∙ (splice_leads Fresh 1 (text_lines bytes) (lines_inside bytes)).leads (left_empty s.breaks (unfinished s.mode) whole) []
    (finished s.mode (right_empty s.breaks (unfinished s.mode) whole))
