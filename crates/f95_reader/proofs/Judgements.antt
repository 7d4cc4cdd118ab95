-- Statements judged one after another.
use Rattle.std.proofs.Common.{◌≡◌, ℕ, ◌≤◌, List, [], ◌∷◌, ◌++◌, Some, None, sym, ◌∙◌, ap, subst, refl, inl, inr}
use Rattle.std.proofs.Common.{append_assoc, append-nil, arith, length, ◌+◌}
use Rattle.a95_base.specs.Lists.{Member}
use Rattle.a95_base.specs.declared.breaks.Break.{Break}
use Rattle.a95_base.specs.Breaks.{IsLeast, AreBroken, broken_at, first_of}
use Rattle.a95_base.proofs.First.{first_is_least, no_break}
use Rattle.f95_lexer.specs.declared.token.Statement.{Statement}
use Rattle.f95_lexer.specs.declared.token.Token.{Token}
use Rattle.f95_tree.specs.declared.form.Form.{Form}
use Rattle.f95_parser.specs.Rules.{IsOfForm, Broken, no_form, left_out, too_many_open, most_open, most_brackets}
use Rattle.f95_nesting.specs.Nesting.{Lined}
use Rattle.f95_reader.specs.Reading.{IsFormOf, AreForms}
use Rattle.f95_reader.specs.Judging.{OneBreaks, Judged, Adds, form, broken, GoesOn}

-- what is of a form, with few brackets, breaks nothing
pub formed_breaks_none : (s : Statement) (f : Lined) (line rule : ℕ) → IsFormOf s f → Broken s.line.0 s.tokens line rule → ⊥
formed_breaks_none s f line rule h (no_form b) = b.0 f.1 h.form
formed_breaks_none s f line rule h (left_out b) = b.0 f.1 h.form
formed_breaks_none s f line rule h (too_many_open b) = absurd (omega (arith, h.few, b.2))

-- tokens break one rule at most
pub record Same (l r k q : ℕ) : Type 0 where
  pub line : l ≡ k
  pub rule : r ≡ q

pub one_rule : (n : ℕ) (ts : List Token) (l r k q : ℕ) → Broken n ts l r → Broken n ts k q → Same l r k q
one_rule n ts l r k q (no_form a) (no_form b) = record { line = refl; rule = refl }
one_rule n ts l r k q (no_form a) (left_out b) = let e = sym a.1 ∙ b.1 in absurd (cc)
one_rule n ts l r k q (no_form a) (too_many_open b) = absurd (a.0 b.0 b.1)
one_rule n ts l r k q (left_out a) (no_form b) = let e = sym a.1 ∙ b.1 in absurd (cc)
one_rule n ts l r k q (left_out a) (left_out b) = record { line = refl; rule = refl }
one_rule n ts l r k q (left_out a) (too_many_open b) = absurd (a.0 b.0 b.1)
one_rule n ts l r k q (too_many_open a) (no_form b) = absurd (b.0 a.0 a.1)
one_rule n ts l r k q (too_many_open a) (left_out b) = absurd (b.0 a.0 a.1)
one_rule n ts l r k q (too_many_open a) (too_many_open b) = record { line = refl; rule = refl }

-- one statement more

pub later : (s : Statement) (ss : List Statement) (line rule : ℕ) → OneBreaks ss line rule → OneBreaks (s ∷ ss) line rule
later s ss line rule o = record { statement = o.statement; among = inr o.among; broken = o.broken }

form_complete : (s : Statement) (f : Lined) (ss : List Statement) (bs : List Break) (line rule : ℕ) → IsFormOf s f →
    AreBroken (OneBreaks ss) bs →
    (t : Statement) → Member (s ∷ ss) t → Broken t.line.0 t.tokens line rule → Member bs (broken_at line rule)
form_complete s f ss bs line rule h are t (inl e) b = absurd
    (formed_breaks_none s f line rule h (subst (λ (x : Statement). Broken x.line.0 x.tokens line rule) (sym e) b))
form_complete s f ss bs line rule h are t (inr m) b = are.complete line rule (record { statement = t; among = m; broken = b })

with_form : (s : Statement) (f : Lined) (ss : List Statement) (fs : List Lined) (bs : List Break) → IsFormOf s f → Judged ss fs bs →
    Judged (s ∷ ss) (f ∷ fs) bs
with_form s f ss fs bs h j = record {
  broken = record {
    sound = λ b. λ m. later s ss b.line b.rule (j.broken.sound b m);
    complete = λ line. λ rule. λ o. form_complete s f ss bs line rule h j.broken o.statement o.among o.broken;
  };
  formed = λ e. (h, j.formed e);
}

break_sound : (s : Statement) (ss : List Statement) (bs : List Break) (l r : ℕ) (b : Break) → Broken s.line.0 s.tokens l r →
    AreBroken (OneBreaks ss) bs →
    Member (broken_at l r ∷ bs) b → OneBreaks (s ∷ ss) b.line b.rule
break_sound s ss bs l r b h are (inl e) = subst (λ (x : Break). OneBreaks (s ∷ ss) x.line x.rule) e
    (record { statement = s; among = inl refl; broken = h })
break_sound s ss bs l r b h are (inr m) = later s ss b.line b.rule (are.sound b m)

break_complete : (s : Statement) (ss : List Statement) (bs : List Break) (l r line rule : ℕ) → Broken s.line.0 s.tokens l r →
    AreBroken (OneBreaks ss) bs →
    (t : Statement) → Member (s ∷ ss) t → Broken t.line.0 t.tokens line rule → Member (broken_at l r ∷ bs) (broken_at line rule)
break_complete s ss bs l r line rule h are t (inl e) b =
    let same = one_rule s.line.0 s.tokens l r line rule h (subst (λ (x : Statement). Broken x.line.0 x.tokens line rule) (sym e) b)
    in
    inl (ap (λ n. broken_at n r) same.line ∙ ap (broken_at line) same.rule)
break_complete s ss bs l r line rule h are t (inr m) b = inr
    (are.complete line rule (record { statement = t; among = m; broken = b }))

with_break : (s : Statement) (ss : List Statement) (fs : List Lined) (bs : List Break) (l r : ℕ) → Broken s.line.0 s.tokens l r →
    Judged ss fs bs →
    Judged (s ∷ ss) fs (broken_at l r ∷ bs)
with_break s ss fs bs l r h j = record {
  broken = record {
    sound = λ b. break_sound s ss bs l r b h j.broken;
    complete = λ line. λ rule. λ o. break_complete s ss bs l r line rule h j.broken o.statement o.among o.broken;
  };
  formed = λ e. absurd (cc);
}

-- the loop

pub goes_on_first : (ss : List Statement) → GoesOn ss ss [] []
goes_on_first ss = record { on = λ more. λ others. λ j. j }

pub goes_on_added : (whole : List Statement) (s : Statement) (rest : List Statement) (fs gs : List Lined) (bs cs : List Break) →
    GoesOn whole (s ∷ rest) fs bs → Adds s fs bs gs cs → GoesOn whole rest gs cs
goes_on_added whole s rest fs _ bs _ g (form f h) = record {
  on = λ more. λ others. λ j. subst (λ z. Judged whole z (bs ++ others)) (sym (append_assoc fs (f ∷ []) more))
      (g.on (f ∷ more) others (with_form s f rest more others h j));
}
goes_on_added whole s rest fs _ bs _ g (broken l r h) = record {
  on = λ more. λ others. λ j. subst (λ z. Judged whole (fs ++ more) z) (sym (append_assoc bs (broken_at l r ∷ []) others))
      (g.on more (broken_at l r ∷ others) (with_break s rest more others l r h j));
}

none_judged : Judged [] [] []
none_judged = record {
  broken = record { sound = λ b. λ m. absurd m; complete = λ line. λ rule. λ o. absurd o.among };
  formed = λ e. tt;
}

at_end : (whole : List Statement) (fs : List Lined) (bs : List Break) → GoesOn whole [] fs bs → Judged whole fs bs
at_end whole fs bs g =
    subst (λ z. Judged whole fs z) (append-nil bs) (subst (λ z. Judged whole z (bs ++ [])) (append-nil fs) (g.on [] [] none_judged))

pub judged_at_end : (whole left : List Statement) (fs : List Lined) (bs : List Break) → GoesOn whole left fs bs →
    length left ≡ 0 → Judged whole fs bs
judged_at_end whole [] fs bs g none = at_end whole fs bs g
judged_at_end whole (s ∷ left) fs bs g none = absurd (omega arith)

pub least_judged : (whole : List Statement) (fs : List Lined) (bs : List Break) (line rule : ℕ) → Judged whole fs bs →
    first_of bs ≡ Some (broken_at line rule) →
    IsLeast (OneBreaks whole) line rule
least_judged whole fs bs line rule j e = first_is_least (OneBreaks whole) bs (broken_at line rule) j.broken e

pub form_added : (s : Statement) (ts : List Token) (f : Form) (fs gs : List Lined) (bs : List Break) → ts ≡ s.tokens →
    IsOfForm ts f → most_open 0 ts ≤ most_brackets →
    gs ≡ fs ++ (s.line, f) ∷ [] → Adds s fs bs gs bs
form_added s ts f fs gs bs same is few e = subst (λ z. Adds s fs bs z bs) (sym e)
    (form (s.line, f)
    (record {
      line = refl;
      form = subst (λ t. IsOfForm t f) same is;
      few =
          subst (λ t. most_open 0 t ≤ most_brackets) same few;
    }))

pub break_added : (s : Statement) (ts : List Token) (l r : ℕ) (fs : List Lined) (bs cs : List Break) → ts ≡ s.tokens →
    Broken s.line.0 ts l r →
    cs ≡ bs ++ broken_at l r ∷ [] → Adds s fs bs fs cs
break_added s ts l r fs bs cs same b e = subst (λ z. Adds s fs bs fs z) (sym e)
    (broken l r (subst (λ t. Broken s.line.0 t l r) same b))

pub formed_judged : (whole : List Statement) (fs : List Lined) (bs : List Break) → Judged whole fs bs → first_of bs ≡ None →
    AreForms whole fs
formed_judged whole fs bs j e = j.formed (no_break bs e)
