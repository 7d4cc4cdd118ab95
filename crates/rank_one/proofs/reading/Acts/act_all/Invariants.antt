use Rattle.std.proofs.Common.{◌≡◌, ◌++◌, drop, length}
use Rattle.std.specs.List.{flat_map}
use Rattle.a95_base.specs.Lists.{Every}
use Rattle.rank_one.specs.Noting.{statement_breaks, names_breaks}
use Rattle.rank_one.specs.Reading.{statement_in, StatementFits}
use Rattle.rank_one.proofs.reading.Acts.act_all.Given as goal

abbrev pub invariant-loop-at : goal.invariant-loop-at
invariant-loop-at l = record {
  count : length l.left ≡ length l.initial.left;
  left : drop l.at l.left ≡ drop l.at l.initial.left;
  statements : l.self.statements ++ flat_map (statement_in l.symbols) (drop l.at l.initial.left)
      ≡ l.initial.self.statements ++ flat_map (statement_in l.symbols) l.initial.left;
  not_yet : l.self.not_yet ++ flat_map (statement_breaks l.symbols) (drop l.at l.initial.left)
      ≡ l.initial.self.not_yet ++ flat_map (statement_breaks l.symbols) l.initial.left;
  undeclared : l.self.undeclared ++ flat_map (names_breaks l.symbols) (drop l.at l.initial.left)
      ≡ l.initial.self.undeclared ++ flat_map (names_breaks l.symbols) l.initial.left;
  lines : Every StatementFits (drop l.at l.initial.left) → Every StatementFits l.initial.left;
}
