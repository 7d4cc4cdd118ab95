use Rattle.std.proofs.Common.{◌≡◌, ◌∙◌, ap, sym, [], length, arith}
use Rattle.rank_one.proofs.SymbolLaws.{no_extent, extent_there}
use Rattle.rank_one.proofs.symbols.Symbols.find.Goals as goal

pub index-requires : goal.index-requires
index-requires c =
    let there = extent_there c.args.self.now c.args.name.now c.in-Some.place
    (record { name = []; array = record { line = 0; extent = 0 } }) (sym c.in-Some.ensures) in
    omega (arith, there.0, ap length c.self.view_is)

pub returns-in-None-clause-extent : goal.returns-in-None-clause-extent
returns-in-None-clause-extent c = sym (no_extent c.args.self.now c.args.name.now (sym c.in-None.ensures))

pub returns-in-Some-clause-extent : goal.returns-in-Some-clause-extent
returns-in-Some-clause-extent c =
    let there = extent_there c.args.self.now c.args.name.now c.in-Some.place c.index.result.now (sym c.in-Some.ensures) in
    cc (there.1, c.index.ensures, c.self.view_is)
