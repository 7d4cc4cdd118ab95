use Rattle.emit_grammar.proofs.Whole.{is_loop_c}
use Rattle.emit_grammar.proofs.laws.program_is_loop_c.Goals as goal

-- src/laws.rt:6:1
pub returns : goal.returns
returns c = is_loop_c
