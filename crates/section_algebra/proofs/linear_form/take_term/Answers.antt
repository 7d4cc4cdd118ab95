use Rattle.std.proofs.Common.{ℤ, ◌+◌, subst, sym, arith}
use Rattle.section_algebra.specs.Merging.{Takes}
use Rattle.section_algebra.proofs.Forms.{takes_one, takes_none, least_at, factor_read}
use Rattle.section_algebra.proofs.linear_form.take_term.Goals as goal

pub returns-then-first-atom : goal.returns-then-first-atom
returns-then-first-atom c =
    takes_none c.args.terms.now c.args.from _ c.args.atom.0 c.requires.sum (omega arith)
    (least_at c.args.terms.now c.args.from _ c.args.atom.0 (omega arith) c.requires.least) c.if-first-atom.true

pub returns : goal.returns
returns c =
    let P : ℤ → Type 0 = Takes c.args.terms.now c.args.from c.args.atom.0 (c.args.from + 1) in
    subst P (sym (factor_read c.args.terms.now c.args.from _ c.requires.sum (omega arith)))
    (takes_one c.args.terms.now c.args.from _ c.args.atom.0 c.requires.sum (omega arith) c.if-first-atom.false)
