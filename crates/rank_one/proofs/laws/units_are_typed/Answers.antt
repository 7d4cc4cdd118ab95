use Rattle.std.proofs.Common.{◌≤◌, sym, subst}
use Rattle.rank_one.specs.Sizes.{terminals_in}
use Rattle.rank_one.specs.Typed.{IsTyped, size_of}
use Rattle.rank_one.proofs.Typing.{typed_unit, no_larger}
use Rattle.rank_one.proofs.laws.units_are_typed.Goals as goal

pub returns-clause-typed : goal.returns-clause-typed
returns-clause-typed c = λ s u fits is. subst IsTyped (sym is.is) (typed_unit s is.built is.declared fits)

pub returns-clause-size : goal.returns-clause-size
returns-clause-size c = λ s u is. subst (λ v. size_of v ≤ terminals_in s) (sym is.is) (no_larger s)
