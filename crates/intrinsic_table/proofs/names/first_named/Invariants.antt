use Rattle.std.proofs.Common.{◌≡◌, drop}
use Rattle.intrinsic_table.specs.Finding.{first_named}
use Rattle.intrinsic_table.proofs.names.first_named.Given as goal

abbrev pub invariant-loop-which : goal.invariant-loop-which
invariant-loop-which l = first_named (drop l.which-index l.among) l.text ≡ first_named l.among l.text
