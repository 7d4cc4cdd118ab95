use Rattle.std.proofs.Common.{arith}
use Rattle.f95_lexer.proofs.Cut.{cut_by}
use Rattle.f95_lexer.proofs.Judging.{long_is_least, unbroken_by, refused_by}
use Rattle.f95_lexer.proofs.read.read_statements.Goals as goal

pub returns-then-bytes-gt-LONGEST_FILE-clause-refused :
    goal.returns-then-bytes-gt-LONGEST_FILE-clause-refused
returns-then-bytes-gt-LONGEST_FILE-clause-refused c = long_is_least c.args.bytes.now (omega arith)

pub returns-clause-cut : goal.returns-clause-cut
returns-clause-cut c =
    cut_by c.args.bytes.now c.read.result (omega arith) c.read.ensures.unbroken c.read.ensures.list c.read.ensures.feeds

pub returns-clause-unbroken : goal.returns-clause-unbroken
returns-clause-unbroken c = unbroken_by c.args.bytes.now c.read.result (omega arith) c.read.ensures.unbroken

pub returns-clause-refused : goal.returns-clause-refused
returns-clause-refused c = refused_by c.args.bytes.now c.read.result (omega arith) c.read.ensures.refused
