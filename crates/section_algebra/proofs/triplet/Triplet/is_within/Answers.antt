use Rattle.std.proofs.Common.{◌≡◌, ℕ, suc, ◌-◌, ap, ◌∙◌, arith, FitsSigned, w64, rules}
use Rattle.std.proofs.lemmas.Int.{ints}
use Rattle.std.proofs.lemmas.Bool.{iff_false}
use Rattle.section_algebra.specs.Section.{term_of}
use Rattle.section_algebra.proofs.Loops.{never}
use Rattle.section_algebra.proofs.Bounds.{ends_within, within_ends}
use Rattle.section_algebra.proofs.Readings.{integer_wide, bounds_read}
use Rattle.section_algebra.proofs.triplet.Triplet.is_within.Goals as goal

pub returns-then-not-is_between : goal.returns-then-not-is_between
returns-then-not-is_between c =
    let last : ℕ = c.args.self.now.count - 1 in
    let first =
    bounds_read c.is_between.result c.args.lower c.args.upper c.self.inside.start c.args.self.now.start c.ranges.lower
    c.ranges.upper (integer_wide c.self.inside.start c.self.invariant.1.start_fits) (ap (λ p. p.start) c.self.view_is)
    c.is_between.ensures in
    never _ (λ all. iff_false first c.if-not-is_between.true
    (within_ends c.args.lower c.args.upper c.args.self.now last (omega (arith, c.requires)) all).0)

pub returns : goal.returns
returns c =
    let last : ℕ = c.args.self.now.count - 1 in
    let some : c.args.self.now.count ≡ suc last = omega (arith, c.requires) in
    let wide : FitsSigned w64 c.self.inside.count = search rules in
    let last_is : c.subscript-last.result ≡ term_of c.args.self.now last =
    c.subscript-last.ensures.subscript ∙ ap (term_of c.args.self.now)
    (omega (arith, ints, wide, some, ap (λ p. p.count) c.self.view_is, c.self.invariant.0)) in
    let first =
    bounds_read c.is_between.result c.args.lower c.args.upper c.self.inside.start c.args.self.now.start c.ranges.lower
    c.ranges.upper (integer_wide c.self.inside.start c.self.invariant.1.start_fits) (ap (λ p. p.start) c.self.view_is)
    c.is_between.ensures in
    let final =
    bounds_read c.is_between-2.result c.args.lower c.args.upper c.subscript-last.result (term_of c.args.self.now last)
    c.ranges.lower c.ranges.upper (integer_wide c.subscript-last.result c.subscript-last.ensures.fits) last_is
    c.is_between-2.ensures in (
      λ t. ends_within c.args.lower c.args.upper c.args.self.now last some (first.0 c.if-not-is_between.false) (final.0 t),
      λ all. final.1 (within_ends c.args.lower c.args.upper c.args.self.now last some all).1,
    )
