use Rattle.std.specs.Prelude.{IsTrue}
use Rattle.store_laws.proofs.FusionLaws.{loops_are_one}
use Rattle.store_laws.proofs.fusion.group_made_one.Goals as goal

pub returns : goal.returns
returns g c = λ bodies sound turns s keeps fuses is. loops_are_one (λ x. IsTrue (sound x)) bodies turns s keeps fuses is
