use Rattle.std.proofs.Common.{arith, ◌<◌}
use Rattle.command_words.proofs.Digits.{room}
use Rattle.command_words.proofs.words.turns_of.Goals as goal

pub overflow_mul-turns : goal.overflow_mul-turns
overflow_mul-turns c =
    let few : c.loop-digit.digit-index < 38 = omega (arith, c.loop-digit-test.true, c.if-digits-gt-MOST_DIGITS.false) in
    omega (arith, room c.loop-digit.digit-index c.loop-digit.turns few c.loop-digit.invariant.small)

pub overflow_add-turns : goal.overflow_add-turns
overflow_add-turns c =
    let few : c.loop-digit.digit-index < 38 = omega (arith, c.loop-digit-test.true, c.if-digits-gt-MOST_DIGITS.false) in
    omega (arith, room c.loop-digit.digit-index c.loop-digit.turns few c.loop-digit.invariant.small, c.from.ensures)
