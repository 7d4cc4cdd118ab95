use Rattle.std.proofs.Common.{◌≡◌, ◌++◌, ◌+◌, drop, codes, flat_map, string_bytes}
use Rattle.loop_tree.specs.Text.{parameters_text}
use Rattle.loop_writer.proofs.printer.put_others.Given as goal

abbrev pub invariant-loop-place : goal.invariant-loop-place
invariant-loop-place l =
    string_bytes l.out ++ flat_map (λ y. codes ", " ++ y) (parameters_text (l.place + 1) (drop l.place l.parameters))
    ≡ string_bytes l.fn.out ++ flat_map (λ y. codes ", " ++ y) (parameters_text 1 l.parameters)
