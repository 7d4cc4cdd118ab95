use Rattle.std.proofs.Common.{◌≡◌, ◌≢◌, ℕ, ℤ, pos, suc, ◌-◌, ◌<ℤ◌, ◌≤ℤ◌, ◌+ℤ◌, sym, ap, ◌∙◌, subst, arith, FitsSigned, w64, rules}
use Rattle.std.specs.Prelude.{unsigned_abs}
use Rattle.std.proofs.lemmas.Int.{ints}
use Rattle.section_algebra.specs.Section.{Progression, IsProgression, term_of}
use Rattle.section_algebra.specs.Ascent.{IsAscent}
use Rattle.section_algebra.proofs.Readings.{read, read_back}
use Rattle.section_algebra.proofs.Crossings.{ascends_up, ascends_down, ascent_is}
use Rattle.section_algebra.proofs.triplet.Triplet.ascending.Goals as goal

-- the count as the code reads it
counted : (count : ℤ) (p : Progression) → FitsSigned w64 count → unsigned_abs count ≡ p.count → p.count ≡ unsigned_abs (read count)
counted count p wide e = omega (arith, ints)

pub returns-then-self-gt0-clause-ascends : goal.returns-then-self-gt0-clause-ascends
returns-then-self-gt0-clause-ascends c =
    let start_is : c.self.inside.start ≡ c.args.self.now.start = ap (λ p. p.start) c.self.view_is in
    let stride_is : c.self.inside.stride ≡ c.args.self.now.stride = ap (λ p. p.stride) c.self.view_is in
    let is = c.self.invariant.1 in
    let up : pos 0 <ℤ c.self.inside.stride = grind (arith, ints, is.stride_fits.0, is.stride_fits.1, c.if-self-gt0.true) in
    ascends_up c.args.self.now c.from_least.result _
    (omega (arith, ints, start_is, is.start_fits.0, is.start_fits.1, c.from_least.ensures.number))
    (omega (arith, ints, up, stride_is, is.stride_fits.0, is.stride_fits.1))

pub returns-then-self-gt0-clause-small : goal.returns-then-self-gt0-clause-small
returns-then-self-gt0-clause-small c =
    let is = c.self.invariant.1 in
    let wide : FitsSigned w64 c.self.inside.count = search rules in
    let up : pos 0 <ℤ c.self.inside.stride = grind (arith, ints, is.stride_fits.0, is.stride_fits.1, c.if-self-gt0.true) in
    let P : Progression → Type 0 = IsProgression in
    let Q : ℕ → Type 0 = IsAscent c.from_least.result (unsigned_abs (read c.self.inside.stride)) in
    subst Q (counted c.self.inside.count c.args.self.now wide (ap (λ p. p.count) c.self.view_is))
    (ascent_is c.args.self.now c.from_least.result (unsigned_abs (read c.self.inside.stride)) (subst P c.self.view_is is)
    c.requires (returns-then-self-gt0-clause-ascends c)
    (omega (arith, ints, up, is.stride_fits.0, is.stride_fits.1)) (omega (arith, ints, up, is.stride_fits.0, is.stride_fits.1)))

pub returns-clause-ascends : goal.returns-clause-ascends
returns-clause-ascends c =
    let is = c.self.invariant.1 in
    let last : ℕ = c.args.self.now.count - 1 in
    let some : c.args.self.now.count ≡ suc last = omega (arith, c.requires) in
    let wide : FitsSigned w64 c.self.inside.count = search rules in
    let stride_is : c.self.inside.stride ≡ c.args.self.now.stride = ap (λ p. p.stride) c.self.view_is in
    let down : c.self.inside.stride ≤ℤ pos 0 = grind (arith, ints, is.stride_fits.0, is.stride_fits.1, c.if-self-gt0.false) in
    let last_is : c.subscript.result ≡ term_of c.args.self.now last =
    c.subscript.ensures.subscript ∙ ap (term_of c.args.self.now)
    (omega (arith, ints, wide, some, ap (λ p. p.count) c.self.view_is, c.self.invariant.0)) in
    ascends_down c.args.self.now c.from_least-2.result c.unsigned_abs.result last some
    (ap (λ z. z +ℤ pos 2147483648) (sym (read_back c.subscript.result c.subscript.ensures.fits ∙ last_is))
    ∙ c.from_least-2.ensures.number)
    (omega (arith, ints, down, stride_is, is.stride_fits.0, is.stride_fits.1, c.unsigned_abs.ensures.value))

pub returns-clause-small : goal.returns-clause-small
returns-clause-small c =
    let is = c.self.invariant.1 in
    let wide : FitsSigned w64 c.self.inside.count = search rules in
    let down : c.self.inside.stride ≤ℤ pos 0 = grind (arith, ints, is.stride_fits.0, is.stride_fits.1, c.if-self-gt0.false) in
    let steps : c.self.inside.stride ≢ pos 0 = is.steps in
    let P : Progression → Type 0 = IsProgression in
    let Q : ℕ → Type 0 = IsAscent c.from_least-2.result c.unsigned_abs.result in
    subst Q (counted c.self.inside.count c.args.self.now wide (ap (λ p. p.count) c.self.view_is))
    (ascent_is c.args.self.now c.from_least-2.result c.unsigned_abs.result (subst P c.self.view_is is) c.requires
    (returns-clause-ascends c)
    (omega (arith, ints, down, steps, is.stride_fits.0, is.stride_fits.1, c.unsigned_abs.ensures.value))
    (omega (arith, ints, down, is.stride_fits.0, is.stride_fits.1, c.unsigned_abs.ensures.value)))
