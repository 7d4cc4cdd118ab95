use Rattle.std.proofs.Common.{◌∙◌, sym, refl}
use Rattle.rank_one.specs.Reading.{unit_of}
use Rattle.rank_one.proofs.laws.one_unit.Goals as goal

pub returns-clause-one : goal.returns-clause-one
returns-clause-one c = λ s a b is also. is.is ∙ sym also.is

pub returns-clause-some : goal.returns-clause-some
returns-clause-some c = λ s built declared. (unit_of s, record { built = built; declared = declared; is = refl })
