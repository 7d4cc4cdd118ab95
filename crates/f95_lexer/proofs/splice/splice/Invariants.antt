use Rattle.std.proofs.Common.{◌≡◌, ◌+◌, ◌<◌, ◌^◌, length}
use Rattle.f95_lexer.specs.Splicing.{splice, spliced, behind}
use Rattle.f95_lexer.proofs.splice.splice.Given as goal

abbrev pub invariant-loop-text : goal.invariant-loop-text
invariant-loop-text l = record {
  can_next : (goal.iterator-loop-text).can_next l.text-iterator;
  is_finite : (goal.iterator-loop-text).is_finite l.text-iterator;
  few : l.line + length l.text-iterator < 2 ^ 32;
  read : behind l.splicer.text.items l.splicer.breaks.items (splice l.mode l.line l.text-iterator) ≡ spliced l.bytes;
}
