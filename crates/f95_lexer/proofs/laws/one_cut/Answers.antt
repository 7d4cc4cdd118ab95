use Rattle.f95_lexer.proofs.Cut as cut
use Rattle.f95_lexer.proofs.laws.one_cut.Goals as goal

pub returns : goal.returns
returns c = cut.one_cut
