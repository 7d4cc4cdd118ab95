use Rattle.std.proofs.Common.{◌≡◌, ◌++◌, drop}
use Rattle.loop_tree.specs.Lines.{flats}
use Rattle.loop_tree.proofs.flatten.+put.Given as goal

abbrev pub invariant-put_all-loop-statement : goal.invariant-put_all-loop-statement
invariant-put_all-loop-statement l = l.lines ++ flats (drop l.statement-index l.body) ≡ l.fn.lines ++ flats l.body
