use Rattle.std.proofs.Common.{refl}
use Rattle.std.proofs.lemmas.List.{take_at}
use Rattle.loop_heap.proofs.slot.add_texts.Goals as goal

pub returns-in_err-blanks-clause-prefix : goal.returns-in_err-blanks-clause-prefix
returns-in_err-blanks-clause-prefix c = rw c.loop.invariant (take_at _ _ _ refl)
