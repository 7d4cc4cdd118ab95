use Rattle.std.proofs.Common.{◌≡◌, ◌++◌, map, drop, string_bytes}
use Rattle.loop_tree.specs.Lines.{flats}
use Rattle.loop_tree.specs.Text.{spell, with_line_feeds}
use Rattle.loop_writer.proofs.printer.+put.Given as goal

abbrev pub invariant-put_all-loop-statement : goal.invariant-put_all-loop-statement
invariant-put_all-loop-statement l =
    string_bytes l.out ++ with_line_feeds (map spell (flats (drop l.statement-index l.body))) ≡ string_bytes l.fn.out
    ++ with_line_feeds (map spell (flats l.body))
