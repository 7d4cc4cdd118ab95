use Rattle.std.proofs.Common.{◌≡◌, ◌++◌, length}
use Rattle.std.specs.Vec.Iter.{into_iter_items, into_iter_len}
use Rattle.f95_blocks.proofs.read.pass_all.Given as goal
use Rattle.f95_nesting.specs.Machine.{run, start}
use Rattle.f95_nesting.specs.Breaks.{passed}

abbrev pub invariant-loop-lined : goal.invariant-loop-lined
invariant-loop-lined l = record {
  ran : run l.state (into_iter_items l.lined-iterator) ≡ run start l.fn.forms.items;
  noted : l.breaks ++ passed l.state (into_iter_items l.lined-iterator) ≡ passed start l.fn.forms.items;
  left : into_iter_len l.lined-iterator ≡ length (into_iter_items l.lined-iterator);
}
