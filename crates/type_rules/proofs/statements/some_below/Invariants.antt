use Rattle.std.proofs.Common.{◌≡◌, nat_lt, drop}
use Rattle.std.specs.List.{list_any}
use Rattle.type_rules.proofs.statements.some_below.Given as goal

abbrev pub invariant-loop-k : goal.invariant-loop-k
invariant-loop-k l = list_any (λ k. nat_lt k l.indices) (drop l.k-index l.named) ≡ list_any (λ k. nat_lt k l.indices) l.named
