-- The printed numbers of the stuck states.
use Rattle.std.specs.Prelude.{ℕ}
use Rattle.loop_tree.specs.declared.stuck.StuckState.{StuckState}
use Rattle.loop_tree.specs.declared.stuck.StuckState.TheVariants as stuck

abbrev pub stuck_number : StuckState → ℕ
stuck_number stuck.OutsideBlock = 1
stuck_number stuck.NoBlock = 2
stuck_number stuck.ZeroDivisor = 3
stuck_number stuck.WrongCall = 4
stuck_number stuck.BlockSize = 5
stuck_number stuck.OutsideText = 6
stuck_number stuck.NoByte = 7
stuck_number stuck.NoInteger = 8
stuck_number stuck.NegativeExponent = 9
