use Rattle.std.proofs.Common.{◌≡◌, fold, drop}
use Rattle.names_types.specs.Rules.{times}
use Rattle.well_typed.specs.Known.{size_known}
use Rattle.typed_facts.proofs.counts.size_known.Given as goal

abbrev pub invariant-loop-n : goal.invariant-loop-n
invariant-loop-n l = fold times l.size (drop l.n-index l.extents) ≡ size_known l.extents
