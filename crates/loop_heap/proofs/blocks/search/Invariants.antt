use Rattle.std.proofs.Common.{◌<◌, ◌≤◌, ◌-◌, ℕ, length, get_or}
use Rattle.loop_heap.specs.Slots.{Kept}
use Rattle.loop_heap.proofs.blocks.search.Given as goal

abbrev pub invariant-loop-low : goal.invariant-loop-low
invariant-loop-low l = record {
  ordered : l.low ≤ l.high;
  within : l.high ≤ length l.slots;
  less : (i : ℕ) (d : Kept) → i < l.low → (get_or l.slots i d).number < l.number;
  more : (i : ℕ) (d : Kept) → l.high ≤ i → i < length l.slots → l.number < (get_or l.slots i d).number;
}

abbrev pub decreases-loop-low : goal.decreases-loop-low
decreases-loop-low l = l.high - l.low
