use Rattle.std.proofs.Common.{arith}
use Rattle.section_algebra.proofs.Forms.{no_term, least_by_first, least_by_second, least_of_first, least_of_second}
use Rattle.section_algebra.proofs.linear_form.least_left.Goals as goal

pub returns-then-from_a-a : goal.returns-then-from_a-a
returns-then-from_a-a c =
    least_of_second c.args.a.now c.args.b.now c.args.from_a c.args.from_b _ c.requires.b (omega arith) (omega arith)

pub returns-then-from_b-b-2 : goal.returns-then-from_b-b-2
returns-then-from_b-b-2 c =
    least_of_first c.args.a.now c.args.b.now c.args.from_a c.args.from_b _ c.requires.a (omega arith) (omega arith)

pub returns-then-other-first : goal.returns-then-other-first
returns-then-other-first c =
    least_by_second c.args.a.now c.args.b.now c.args.from_a c.args.from_b no_term no_term c.requires.a c.requires.b
    (omega arith) (omega arith) (omega (arith, c.if-other-first.true))

pub returns : goal.returns
returns c =
    least_by_first c.args.a.now c.args.b.now c.args.from_a c.args.from_b no_term no_term c.requires.a c.requires.b (omega arith)
    (omega arith) (omega (arith, c.if-other-first.false))
