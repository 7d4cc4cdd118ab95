use Rattle.f95_lexer.proofs.Cut as cut
use Rattle.f95_lexer.proofs.laws.cuts_unbroken.Goals as goal

pub returns : goal.returns
returns c = record { cuts = cut.cuts; only = cut.cut_unbroken }
