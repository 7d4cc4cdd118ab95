use Rattle.std.proofs.Common.{◌≡◌, length}
use Rattle.std.specs.Vec.Iter.{into_iter_items, into_iter_len}
use Rattle.f95_reader.specs.Judging.{GoesOn}
use Rattle.f95_reader.proofs.forms.judged.Given as goal

abbrev pub invariant-loop-statement : goal.invariant-loop-statement
invariant-loop-statement l =
    GoesOn l.fn.statements.items (into_iter_items l.statement-iterator) l.judgement.forms.items l.judgement.breaks.items
    × (into_iter_len l.statement-iterator ≡ length (into_iter_items l.statement-iterator))
