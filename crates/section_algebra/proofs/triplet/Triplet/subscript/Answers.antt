use Rattle.std.proofs.Common.{◌≡◌, ℤ, pos, ◌+ℤ◌, ◌*ℤ◌, subst, sym, ap, ◌∙◌, arith}
use Rattle.std.specs.Prelude.{unsigned_abs}
use Rattle.a95_base.specs.IntegerLaws.{IsInteger}
use Rattle.rank_shape.specs.Fields.{natural_is}
use Rattle.section_algebra.specs.Section.{term_of}
use Rattle.section_algebra.proofs.Readings.{read, term_read}
use Rattle.section_algebra.proofs.triplet.Triplet.subscript.Goals as goal

turn_is : (c : goal.After-result-2-1) → pos (unsigned_abs c.args.turn) ≡ c.args.turn
turn_is c = natural_is c.args.turn c.requires.natural

fits : (c : goal.After-result-2-1) → IsInteger (c.self.inside.start +ℤ c.args.turn *ℤ c.self.inside.stride)
fits c =
    let P : ℤ → Type 0 = λ n. IsInteger (c.self.inside.start +ℤ n *ℤ c.self.inside.stride) in
    subst P (turn_is c) (c.self.invariant.1.terms_fit (unsigned_abs c.args.turn)
    (omega (arith, c.requires.below, ap (λ p. p.count) c.self.view_is)))

is : (c : goal.After-result-2-1)
    → read (read c.self.inside.start +ℤ read (read c.args.turn *ℤ read c.self.inside.stride))
    ≡ c.self.inside.start +ℤ c.args.turn *ℤ c.self.inside.stride
is c =
    term_read c.self.inside.start c.self.inside.stride c.args.turn c.self.invariant.1.start_fits c.self.invariant.1.stride_fits
    c.ranges.turn (fits c)

pub returns-clause-subscript : goal.returns-clause-subscript
returns-clause-subscript c =
    is c ∙ ap (λ n. c.self.inside.start +ℤ n *ℤ c.self.inside.stride) (sym (turn_is c))
    ∙ ap (λ p. term_of p (unsigned_abs c.args.turn)) c.self.view_is

pub returns-clause-fits : goal.returns-clause-fits
returns-clause-fits c = let P : ℤ → Type 0 = IsInteger in subst P (sym (is c)) (fits c)
