use Rattle.std.proofs.Common.{◌≡◌, ◌++◌, drop, string_bytes}
use Rattle.loop_tree.specs.Text.{functions_lines, with_line_feeds}
use Rattle.loop_writer.proofs.printer.put_functions.Given as goal

abbrev pub invariant-loop-number : goal.invariant-loop-number
invariant-loop-number l =
    string_bytes l.out ++ with_line_feeds (functions_lines l.number (drop l.number l.functions)) ≡ string_bytes l.fn.out
    ++ with_line_feeds (functions_lines 0 l.functions)
