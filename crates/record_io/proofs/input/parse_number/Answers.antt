use Rattle.std.proofs.Common.{◌≡◌, ◌+◌, ◌^◌, true, min, sym, ap, ◌∙◌, arith, get_or, drop}
use Rattle.std.specs.Prelude.{fold, ◌&&◌}
use Rattle.std.specs.List.{list_all}
use Rattle.std.proofs.lemmas.List.{at_drop_more}
use Rattle.a95_base.specs.Input.{is_digit}
use Rattle.record_io.proofs.Numbers.{with_digit, alike_on}
use Rattle.record_io.proofs.input.parse_number.Goals as goal

pub loop-digit-preserved : goal.loop-digit-preserved
loop-digit-preserved c =
    let digits = c.args.digits.now in
    let at = c.loop-digit.digit-index in
    let number = c.loop-digit.number in
    let digit = get_or digits at 0 in
    let more = drop (at + 1) digits in
    let is : is_digit digit ≡ true = sym c.is_ascii_digit.ensures.value ∙ c.if-not-is_ascii_digit.false in
    record {
      digits =
          sym (at_drop_more (list_all is_digit) digits at 0 c.loop-digit-test.true
          ∙ ap (λ first. first && list_all is_digit more) is) ∙ c.loop-digit.invariant.digits;
      number =
          alike_on c.min-number.result (with_digit number digit) more (omega (arith, c.min-number.ensures, c.from.ensures))
          ∙ sym (at_drop_more (λ rest. min (fold with_digit number rest) (2 ^ 32)) digits at 0 c.loop-digit-test.true)
          ∙ c.loop-digit.invariant.number;
      small = omega (arith, c.min-number.ensures);
    }
