use Rattle.std.proofs.Common.{pos, ◌<ℤ◌, FitsSigned, w32, arith}
use Rattle.std.proofs.lemmas.Int.{to_z-of_z, ints}
use Rattle.a95_base.proofs.Moduli.{rest_by_code, modulo_by_code}
use Rattle.a95_base.proofs.integer.modulo.Goals as goal

pub returns-then-p-lt0 : goal.returns-then-p-lt0
returns-then-p-lt0 c =
    let fits : FitsSigned w32 c.args.p = c.ranges.p in
    let below : c.args.p <ℤ pos 0 = grind (arith, ints, to_z-of_z) in
    modulo_by_code c.args.a c.args.p c.rem_euclid.result fits below
    (rest_by_code c.args.a c.args.p c.from-wide.result c.from.result c.rem_euclid.result c.ranges.a fits c.from-wide.ensures
    c.from.ensures c.rem_euclid.ensures.value)
