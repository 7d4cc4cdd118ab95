-- What the three phases find is what the bytes read as, or the least that they break.
use Rattle.std.proofs.Common.{◌≡◌, ℕ, ◌≤◌, ◌<◌, List, [], ◌∷◌, sym, ◌∙◌, ap, subst, refl, inl, inr, arith}
use Rattle.a95_base.specs.Lists.{Member}
use Rattle.a95_base.specs.Breaks as one
use Rattle.a95_base.specs.declared.source.PhaseError.{PhaseError}
use Rattle.a95_base.specs.declared.source.PhaseError.TheVariants as error
use Rattle.f95_lexer.specs.declared.token.Statement.{Statement}
use Rattle.f95_lexer.specs.Spelling.{Cuts}
use Rattle.f95_lexer.specs.Rules as text
use Rattle.f95_tree.specs.declared.source.Source.{Source}
use Rattle.f95_parser.specs.Rules.{Broken}
use Rattle.f95_nesting.specs.Nesting.{Lined, Nests}
use Rattle.f95_nesting.specs.Nesting as nesting
use Rattle.f95_reader.specs.Judging.{OneBreaks, RefusesForms}
use Rattle.f95_reader.specs.Phases.{in_phase}
use Rattle.f95_reader.specs.Reading.{AreForms, HasForms, BreaksInForm, IsBroken, in_text, in_form, in_nesting, ReadsSource}
use Rattle.f95_reader.specs.Reading.{ComesFirst, IsLeast, Refuses}
use Rattle.f95_reader.proofs.SourceLaws.{OneForm, OneCut, CutsUnbroken, has_one, forms_break_none}

pub reads : (bytes : List ℕ) (statements : List Statement) (feeds : ℕ) (forms : List Lined) (source : Source) →
    Cuts bytes statements feeds → AreForms statements forms →
    Nests forms source → ((line rule : ℕ) → nesting.IsBroken forms feeds line rule → ⊥) → ReadsSource bytes source
reads bytes statements feeds forms source cut are nests unbroken = record {
  forms = forms;
  feeds = feeds;
  has = record { statements = statements; cut = cut; are = are };
  nests = nests;
  unbroken = unbroken;
}

in_line : (phase line rule other_line other_rule : ℕ) → one.ComesFirst line rule other_line other_rule →
    ComesFirst phase line rule phase other_line other_rule
in_line phase line rule other_line other_rule c = inr (refl, c)

text_least : (bytes : List ℕ) (line rule : ℕ) → one.IsLeast (text.IsBroken bytes) line rule → (p l r : ℕ) → IsBroken bytes p l r →
    ComesFirst 1 line rule p l r
text_least bytes line rule h p l r (in_text b) = in_line 1 line rule l r (h.least l r b)
text_least bytes line rule h p l r (in_form b) = inl (omega arith)
text_least bytes line rule h p l r (in_nesting b) = inl (omega arith)

pub refused_in_text : (bytes : List ℕ) (e : PhaseError) → text.Refuses bytes e → Refuses bytes (in_phase 1 e)
refused_in_text bytes (error.Broken line rule) h = record { broken = in_text h.broken; least = text_least bytes line.0 rule.0 h }
refused_in_text bytes error.Memory h = tt

module _ (one_form : OneForm) (one_cut : OneCut) (whole : CutsUnbroken) where
  form_least : (bytes : List ℕ) (ss : List Statement) (feeds line rule : ℕ) → Cuts bytes ss feeds →
      one.IsLeast (OneBreaks ss) line rule → (p l r : ℕ) → IsBroken bytes p l r → ComesFirst 2 line rule p l r
  form_least bytes ss feeds line rule cut h p l r (in_text b) = absurd (whole bytes ss feeds l r cut b)
  form_least bytes ss feeds line rule cut h p l r (in_form b) =
      let same = one_cut bytes b.statements ss b.feeds feeds b.cut cut in
      in_line 2 line rule l r
      (h.least l r
      (record { statement = b.statement; among = subst (λ z. Member z b.statement) same.0 b.among; broken = b.broken }))
  form_least bytes ss feeds line rule cut h p l r (in_nesting b) = inl (omega arith)

  pub refused_in_form : (bytes : List ℕ) (ss : List Statement) (feeds : ℕ) (e : PhaseError) → Cuts bytes ss feeds →
      RefusesForms ss e → Refuses bytes (in_phase 2 e)
  refused_in_form bytes ss feeds (error.Broken line rule) cut h = record {
    broken = in_form
        (record {
          statements = ss;
          feeds = feeds;
          cut = cut;
          statement = h.broken.statement;
          among = h.broken.among;
          broken =
              h.broken.broken;
        });
    least = form_least bytes ss feeds line.0 rule.0 cut h;
  }
  refused_in_form bytes ss feeds error.Memory cut h = tt

  nesting_least : (bytes : List ℕ) (forms : List Lined) (feeds line rule : ℕ) → HasForms bytes forms feeds →
      one.IsLeast (nesting.IsBroken forms feeds) line rule → (p l r : ℕ) → IsBroken bytes p l r → ComesFirst 3 line rule p l r
  nesting_least bytes forms feeds line rule has h p l r (in_text b) = absurd (whole bytes has.statements feeds l r has.cut b)
  nesting_least bytes forms feeds line rule has h p l r (in_form b) =
      let same = one_cut bytes b.statements has.statements b.feeds feeds b.cut has.cut in
      absurd (forms_break_none has.statements forms b.statement l r has.are (subst (λ z. Member z b.statement) same.0 b.among)
      b.broken)
  nesting_least bytes forms feeds line rule has h p l r (in_nesting b) =
      let same = has_one one_form one_cut bytes b.forms forms b.feeds feeds b.has has in
      in_line 3 line rule l r
      (h.least l r
      (subst (λ n. nesting.IsBroken forms n l r) same.1 (subst (λ fs. nesting.IsBroken fs b.feeds l r) same.0 b.broken)))

  pub refused_in_nesting : (bytes : List ℕ) (ss : List Statement) (feeds : ℕ) (forms : List Lined) (e : PhaseError) →
      Cuts bytes ss feeds → AreForms ss forms → nesting.Refuses forms feeds e → Refuses bytes (in_phase 3 e)
  refused_in_nesting bytes ss feeds forms (error.Broken line rule) cut are h = record {
    broken = in_nesting
        (record { forms = forms; feeds = feeds; has = record { statements = ss; cut = cut; are = are }; broken = h.broken });
    least = nesting_least bytes forms feeds line.0 rule.0 (record { statements = ss; cut = cut; are = are }) h;
  }
  refused_in_nesting bytes ss feeds forms error.Memory cut are h = tt
