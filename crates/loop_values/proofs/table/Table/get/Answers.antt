use Rattle.std.proofs.Common.{◌≤◌, ◌∙◌, ap, length, arith}
use Rattle.std.specs.Prelude.{unwrap_or}
use Rattle.std.proofs.lemmas.Bool.Decides.{nat_tests}
use Rattle.loop_values.proofs.Spread.{read_high}
use Rattle.loop_values.proofs.table.Table.get.Goals as goal

pub returns-in-None : goal.returns-in-None
returns-in-None g c =
    let low = c.self.inside.low.items in
    let past : length low ≤ c.args.n = grind (arith, nat_tests, c.in-None.ensures.lookup.0, c.deref.ensures.value) in
    ap (λ o. unwrap_or o g.T.First.first) c.look_up.ensures
    ∙ read_high g.T.First.first low _ c.self.inside.high.entries c.args.n c.self.view_is c.self.invariant.0 c.self.invariant.1 past
