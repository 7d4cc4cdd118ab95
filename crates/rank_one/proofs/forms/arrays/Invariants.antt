use Rattle.std.proofs.Common.{◌≡◌, [], drop}
use Rattle.rank_one.specs.Forms.{arrays_from}
use Rattle.rank_one.proofs.forms.arrays.Given as goal

abbrev pub invariant-loop-entity : goal.invariant-loop-entity
invariant-loop-entity l = arrays_from l.arrays (drop l.entity-index l.entities) ≡ arrays_from [] l.entities
