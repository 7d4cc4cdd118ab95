-- What is refused is the least that is broken.
use Rattle.std.proofs.Common.{◌≡◌, ℕ, ◌≤◌, ◌<◌, List, sym, ◌∙◌, ap, subst, refl, inl, inr, arith}
use Rattle.a95_base.specs.Breaks as one
use Rattle.a95_base.specs.declared.source.PhaseError.{PhaseError}
use Rattle.a95_base.specs.declared.source.PhaseError.TheVariants as error
use Rattle.f95_tree.specs.declared.source.Source.{Source}
use Rattle.f95_reader.specs.Phases.{in_phase}
use Rattle.f95_reader.specs.Reading.{ReadsSource, ComesFirst, IsLeast, in_text, in_form, in_nesting}
use Rattle.f95_reader.specs.Reading as reader
use Rattle.f95_reader.specs.declared.refusal.Refusal.{Refusal}
use Rattle.f95_reader.specs.declared.refusal.Refusal.TheVariants as refusal
use Rattle.rank_one.specs.Reading.{IsNotYet, IsUndeclared, IsBuilt, RefusesForm, RefusesNames}
use Rattle.f95_source.specs.Source.{IsBroken, before_names, not_built, in_names, IsRefusedFor}
use Rattle.f95_source.proofs.UnitLaws.{OneSource, NothingBroken}

module _ (one_source : OneSource) (none : NothingBroken) where
  -- where the reader refuses, nothing is read
  read_first : (bytes : List ℕ) (phase line rule : ℕ) → IsLeast (reader.IsBroken bytes) phase line rule → (p l r : ℕ) →
      IsBroken bytes p l r → ComesFirst phase line rule p l r
  read_first bytes phase line rule h p l r (before_names b) = h.least p l r b
  read_first bytes phase line rule h p l r (not_built s q n) = absurd (none bytes s phase line rule q h.broken)
  read_first bytes phase line rule h p l r (in_names s q built n) = absurd (none bytes s phase line rule q h.broken)

  pub refused_by_reader : (bytes : List ℕ) (e : Refusal) → reader.Refuses bytes e → IsRefusedFor e bytes
  refused_by_reader bytes (refusal.Refused phase line rule) h =
      record { broken = before_names h.broken; least = read_first bytes phase line.0 rule.0 h }
  refused_by_reader bytes refusal.Memory h = tt

  form_first : (bytes : List ℕ) (s : Source) (line rule : ℕ) → ReadsSource bytes s → one.IsLeast (IsNotYet s) line rule →
      (p l r : ℕ) → IsBroken bytes p l r → ComesFirst 3 line rule p l r
  form_first bytes s line rule q h p l r (before_names b) = absurd (none bytes s p l r q b)
  form_first bytes s line rule q h p l r (not_built z y n) =
      inr (refl, h.least l r (subst (λ x. IsNotYet x l r) (one_source bytes z s y q) n))
  form_first bytes s line rule q h p l r (in_names z y built n) = inl (omega arith)

  pub refused_for_form : (bytes : List ℕ) (s : Source) (e : PhaseError) → ReadsSource bytes s → RefusesForm s e →
      IsRefusedFor (in_phase 3 e) bytes
  refused_for_form bytes s (error.Broken line rule) q h = record
      { broken = not_built s q h.broken; least = form_first bytes s line.0 rule.0 q h }
  refused_for_form bytes s error.Memory q h = tt

  names_first : (bytes : List ℕ) (s : Source) (line rule : ℕ) → ReadsSource bytes s → IsBuilt s →
      one.IsLeast (IsUndeclared s) line rule → (p l r : ℕ) → IsBroken bytes p l r → ComesFirst 4 line rule p l r
  names_first bytes s line rule q built h p l r (before_names b) = absurd (none bytes s p l r q b)
  names_first bytes s line rule q built h p l r (not_built z y n) =
      absurd (built l r (subst (λ x. IsNotYet x l r) (one_source bytes z s y q) n))
  names_first bytes s line rule q built h p l r (in_names z y b n) =
      inr (refl, h.least l r (subst (λ x. IsUndeclared x l r) (one_source bytes z s y q) n))

  pub refused_for_names : (bytes : List ℕ) (s : Source) (e : PhaseError) → ReadsSource bytes s → RefusesNames s e →
      IsRefusedFor (in_phase 4 e) bytes
  refused_for_names bytes s (error.Broken line rule) q h = record
      { broken = in_names s q h.0 h.1.broken; least = names_first bytes s line.0 rule.0 q h.0 h.1 }
  refused_for_names bytes s error.Memory q h = tt
