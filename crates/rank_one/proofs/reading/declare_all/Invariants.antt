use Rattle.std.proofs.Common.{◌≡◌, ◌++◌, map, drop, fold}
use Rattle.rank_one.specs.Noting.{symbols_breaks}
use Rattle.rank_one.specs.Reading.{symbol_on, with_symbol}
use Rattle.rank_one.proofs.reading.declare_all.Given as goal

abbrev pub invariant-loop-array : goal.invariant-loop-array
invariant-loop-array l = record {
  symbols : fold with_symbol l.symbols (map (symbol_on l.line) (drop l.array-index l.arrays))
      ≡ fold with_symbol l.initial.symbols (map (symbol_on l.line) l.arrays);
  breaks : l.breaks ++ symbols_breaks l.symbols (map (symbol_on l.line) (drop l.array-index l.arrays))
      ≡ l.initial.breaks ++ symbols_breaks l.initial.symbols (map (symbol_on l.line) l.arrays);
}
