-- What is told of a source holds of it.
use Rattle.std.proofs.Common.{◌≡◌, ◌≤◌, Option, Some, None, refl, sym, subst}
use Rattle.std.specs.Prelude.{Result, Ok, Err, IfOk, IfErr}
use Rattle.a95_base.specs.declared.breaks.Break.{Break}
use Rattle.a95_base.specs.declared.source.PhaseError.{PhaseError}
use Rattle.a95_base.specs.Breaks.{first_of}
use Rattle.f95_tree.specs.declared.source.Source.{Source}
use Rattle.rank_one.specs.declared.unit.Unit as unit
use Rattle.rank_one.specs.Noting.{not_yet_breaks, undeclared_breaks}
use Rattle.rank_one.specs.Reading.{unit_of, told, Fits, IsUnit, RefusesForm, RefusesNames}
use Rattle.rank_one.specs.Sizes.{terminals_in}
use Rattle.rank_one.specs.Typed.{IsTyped, size_of}
use Rattle.rank_one.proofs.Judged.{built_by, declared_by, form_refused, name_refused}
use Rattle.rank_one.proofs.Typing.{typed_unit, no_larger}

abbrev pub Told : Type 0
Told = Result (Result unit.Unit PhaseError) PhaseError

-- what the code tells of a source
abbrev pub Tells : Source → Told → Type 0
Tells s r = r ≡ told (first_of (not_yet_breaks s)) (first_of (undeclared_breaks s)) (unit_of s)

module _ (s : Source) (Q : Told → Type 0)
    (form : (b : Break) → first_of (not_yet_breaks s) ≡ Some b → Q (told (Some b) (first_of (undeclared_breaks s)) (unit_of s)))
    (names : (b : Break) → first_of (not_yet_breaks s) ≡ None → first_of (undeclared_breaks s) ≡ Some b →
    Q (told None (Some b) (unit_of s)))
    (whole : first_of (not_yet_breaks s) ≡ None → first_of (undeclared_breaks s) ≡ None → Q (told None None (unit_of s))) where
  by_names : (p : Option Break) → first_of (not_yet_breaks s) ≡ None → first_of (undeclared_breaks s) ≡ p →
      Q (told None p (unit_of s))
  by_names (Some b) h k = names b h k
  by_names None h k = whole h k

  by_form : (o : Option Break) → first_of (not_yet_breaks s) ≡ o → Q (told o (first_of (undeclared_breaks s)) (unit_of s))
  by_form (Some b) h = form b h
  by_form None h = by_names (first_of (undeclared_breaks s)) h refl

  by_told : (r : Told) → Tells s r → Q r
  by_told r is = subst Q (sym is) (by_form (first_of (not_yet_breaks s)) refl)

pub tells_unit : (s : Source) (r : Told) → Tells s r → IfOk r (λ named. IfOk named (λ u. IsUnit s u))
tells_unit s = by_told s (λ r. IfOk r (λ named. IfOk named (λ u. IsUnit s u)))
    (λ b h. tt) (λ b h k. tt) (λ h k. record { built = built_by s h; declared = declared_by s k; is = refl })

pub tells_typed : (s : Source) (r : Told) → Fits s → Tells s r → IfOk r (λ named. IfOk named (λ u. IsTyped u))
tells_typed s r fits = by_told s (λ r. IfOk r (λ named. IfOk named (λ u. IsTyped u)))
    (λ b h. tt) (λ b h k. tt) (λ h k. typed_unit s (built_by s h) (declared_by s k) fits) r

pub tells_size : (s : Source) (r : Told) → Tells s r → IfOk r (λ named. IfOk named (λ u. size_of u ≤ terminals_in s))
tells_size s = by_told s (λ r. IfOk r (λ named. IfOk named (λ u. size_of u ≤ terminals_in s)))
    (λ b h. tt) (λ b h k. tt) (λ h k. no_larger s)

pub tells_names : (s : Source) (r : Told) → Tells s r → IfOk r (λ named. IfErr named (λ e. RefusesNames s e))
tells_names s = by_told s (λ r. IfOk r (λ named. IfErr named (λ e. RefusesNames s e)))
    (λ b h. tt) (λ b h k. (built_by s h, name_refused s b k)) (λ h k. tt)

pub tells_form : (s : Source) (r : Told) → Tells s r → IfErr r (λ e. RefusesForm s e)
tells_form s = by_told s (λ r. IfErr r (λ e. RefusesForm s e))
    (λ b h. form_refused s b h) (λ b h k. tt) (λ h k. tt)
