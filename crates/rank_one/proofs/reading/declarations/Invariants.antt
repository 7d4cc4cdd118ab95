use Rattle.std.proofs.Common.{◌≡◌, ◌++◌, drop, fold}
use Rattle.a95_base.specs.Lists.{Every}
use Rattle.rank_one.specs.Noting.{declarations_breaks}
use Rattle.rank_one.specs.Reading.{with_symbol, declared_in, LineFits}
use Rattle.rank_one.proofs.reading.declarations.Given as goal

abbrev pub invariant-loop-declared : goal.invariant-loop-declared
invariant-loop-declared l = record {
  symbols : fold with_symbol l.symbols (declared_in (drop l.declared-index l.declarations))
      ≡ fold with_symbol l.initial.symbols (declared_in l.declarations);
  breaks : l.breaks ++ declarations_breaks l.symbols (drop l.declared-index l.declarations)
      ≡ l.initial.breaks ++ declarations_breaks l.initial.symbols l.declarations;
  lines : Every LineFits (drop l.declared-index l.declarations) → Every LineFits l.declarations;
}
