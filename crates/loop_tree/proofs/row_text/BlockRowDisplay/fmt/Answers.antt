use Rattle.std.proofs.Common.{subst, sym}
use Rattle.std.specs.Fmt.{HasWritten}
use Rattle.loop_tree.specs.declared.row.BlockRow.{BlockRow}
use Rattle.loop_tree.specs.Text.{block_row_text}
use Rattle.loop_tree.proofs.row_text.BlockRowDisplay.fmt.Goals as goal

pub returns-in-CopyText-clause-writes : goal.returns-in-CopyText-clause-writes
returns-in-CopyText-clause-writes g c = λ plain ok.
    let P : BlockRow → Type 0 = λ r. HasWritten g.W.Write.write_str_gives c.args.f.now (block_row_text r) c.fmt-in-CopyText.new.f in
    subst P (sym c.in-CopyText.is) (c.fmt-in-CopyText.ensures.writes plain ok)
