use Rattle.std.proofs.Common.{◌∙◌, ap, refl, codes}
use Rattle.std.proofs.lemmas.Result.{IfOk-weaker}
use Rattle.command_words.specs.Commands.{command_of}
use Rattle.f95a_core.proofs.round_trip.run_words.Goals as goal

pub returns : goal.returns
returns c = IfOk-weaker c.words.result _ _ (λ words is. ap command_of is ∙ c.usual_words.ensures.run (codes "file") refl)
    c.words.ensures
