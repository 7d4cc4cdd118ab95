use Rattle.std.proofs.Common.{◌≡◌, ◌++◌, map, drop}
use Rattle.rank_one.specs.Noting.{module_break}
use Rattle.rank_one.proofs.reading.note_modules.Given as goal

abbrev pub invariant-loop-module : goal.invariant-loop-module
invariant-loop-module l = l.breaks ++ map module_break (drop l.module-index l.modules) ≡ l.initial.breaks
    ++ map module_break l.modules
