use Rattle.std.proofs.Common.{◌≡◌, ◌++◌, length}
use Rattle.std.specs.Vec.Iter.{into_iter_items, into_iter_len}
use Rattle.names_types.specs.Mentions.{mentions_on}
use Rattle.statement_names.proofs.lines.note_names.Given as goal

abbrev pub invariant-loop-name : goal.invariant-loop-name
invariant-loop-name l = record {
  same : l.mentions.items ++ mentions_on l.line.0 (into_iter_items l.name-iterator) ≡ l.initial.mentions.items
      ++ mentions_on l.line.0 l.fn.names.items;
  left : into_iter_len l.name-iterator ≡ length (into_iter_items l.name-iterator);
}
