use Rattle.std.proofs.Common.{◌≡◌, ◌≤◌, max, drop}
use Rattle.f95_parser.proofs.tokens.most_open.Given as goal
use Rattle.f95_parser.specs.Rules.{most_open}

abbrev pub invariant-loop-token : goal.invariant-loop-token
invariant-loop-token l = record {
  counted : max l.most (most_open l.depth (drop l.token-index l.tokens)) ≡ most_open 0 l.tokens;
  few : l.depth ≤ l.token-index;
}
