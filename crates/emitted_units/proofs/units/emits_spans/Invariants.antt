use Rattle.std.proofs.Common.{◌≡◌, drop}
use Rattle.std.specs.List.{list_all}
use Rattle.nest_emit.specs.Emits.{emits_span}
use Rattle.nest_tree.specs.View.{procedure_of}
use Rattle.emitted_units.proofs.units.emits_spans.Given as goal

abbrev pub invariant-loop-span : goal.invariant-loop-span
invariant-loop-span l =
    list_all (emits_span (procedure_of l.own)) (drop l.span-index l.spans) ≡ list_all (emits_span (procedure_of l.own)) l.spans
