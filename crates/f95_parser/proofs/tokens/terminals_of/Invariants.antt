use Rattle.std.proofs.Common.{◌≡◌, ◌≤◌, ◌++◌, drop}
use Rattle.f95_parser.proofs.tokens.terminals_of.Given as goal
use Rattle.f95_parser.specs.Tokens.{terminals_from, terminals_of}

abbrev pub invariant-loop-token : goal.invariant-loop-token
invariant-loop-token l = record {
  read : l.terminals ++ terminals_from l.depth (drop l.token-index l.tokens) ≡ terminals_of l.tokens;
  few : l.depth ≤ l.token-index;
}
