use Rattle.std.proofs.Common.{◌≡◌, ◌≤◌, ◌^◌, min, drop}
use Rattle.std.specs.Prelude.{fold}
use Rattle.std.specs.List.{list_all}
use Rattle.a95_base.specs.Input.{is_digit, number_of}
use Rattle.record_io.proofs.Numbers.{with_digit}
use Rattle.record_io.proofs.input.parse_number.Given as goal

-- the digits that are left decide whether all are digits, and their number from here on is that of all, up to the most
abbrev pub invariant-loop-digit : goal.invariant-loop-digit
invariant-loop-digit l = record {
  digits : list_all is_digit (drop l.digit-index l.digits) ≡ list_all is_digit l.digits;
  number : min (fold with_digit l.number (drop l.digit-index l.digits)) (2 ^ 32) ≡ min (number_of l.digits) (2 ^ 32);
  small : l.number ≤ 2 ^ 32;
}
