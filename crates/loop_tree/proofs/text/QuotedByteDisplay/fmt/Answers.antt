use Rattle.std.proofs.Common.{ℕ, List, ◌<◌, ◌∙◌, sym, subst, arith}
use Rattle.std.specs.Fmt.{HasWritten}
use Rattle.loop_tree.proofs.Octal.{printed_octal}
use Rattle.loop_tree.proofs.text.QuotedByteDisplay.fmt.Goals as goal

pub returns-else-is_plain-clause-writes : goal.returns-else-is_plain-clause-writes
returns-else-is_plain-clause-writes g c = λ plain ok.
    let w = c.write-else-is_plain.ensures.writes plain ok in
    let small : c.args.self.now.0 < 256 = omega arith in
    let P : List ℕ → Type 0 = λ bs. HasWritten g.W.Write.write_str_gives c.args.f.now bs c.write-else-is_plain.new.self in
    subst P (printed_octal c.args.self.now.0 small (sym c.is_plain.ensures ∙ c.if-is_plain.false)) w
