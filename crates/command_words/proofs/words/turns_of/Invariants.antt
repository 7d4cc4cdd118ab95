use Rattle.std.proofs.Common.{◌≡◌, ◌<◌, ◌^◌, drop}
use Rattle.std.specs.Prelude.{fold}
use Rattle.std.specs.List.{list_all}
use Rattle.a95_base.specs.Input.{is_digit, number_of}
use Rattle.command_words.proofs.Digits.{with_digit}
use Rattle.command_words.proofs.words.turns_of.Given as goal

-- the digits that are left decide whether all are digits, and their number from here on is that of all
abbrev pub invariant-loop-digit : goal.invariant-loop-digit
invariant-loop-digit l = record {
  digits : list_all is_digit (drop l.digit-index l.digits) ≡ list_all is_digit l.digits;
  number : fold with_digit l.turns (drop l.digit-index l.digits) ≡ number_of l.digits;
  small : l.turns < 10 ^ l.digit-index;
}
