-- What becomes of a source that is built, and whose text is run.
use Rattle.std.specs.Prelude.{◌≡◌, ℕ, ◌<◌, List, [], length, Some, ⊤}
use Rattle.a95_base.specs.Outcome.{Finished, Going, Ended, Faulted}
use Rattle.loop_tree.specs.State.{Comes, Stuck}
use Rattle.loop_text.specs.Refused.{IsRefusedLine}
use Rattle.f95a_core.specs.Source.{IsLeastBroken}
use Rattle.f95a_core.specs.declared.status.Status.{Status}
use Rattle.f95a_core.specs.declared.status.Status.TheVariants as status
use Rattle.command_words.specs.Commands.{default_turns}
use Rattle.f95a_core.specs.Intake.{input_limit}
use Rattle.f95a_core.specs.Building.{Builds}
use Rattle.f95a_core.specs.Running.{job, Executes}
use Rattle.f95a_core.specs.Headline.{DoesAsItsSource}

-- the build of a source in memory: no other status comes
abbrev pub Built : List ℕ → Status → List ℕ → Type 0
Built source status.Done text = Builds source text
Built source (status.Refused phase line rule) text = IsLeastBroken source phase line.0 rule.0
Built source status.Memory text = ⊤
Built source other text = ⊥

-- the run of a text in memory on an input in memory
abbrev pub Ran : List ℕ → List ℕ → Status → List ℕ → Type 0
Ran text input status.Done output = Executes (job (Some text) (Some input) default_turns) output (Finished (Comes Ended))
Ran text input (status.Fault kind line) output = Executes (job (Some text) (Some input) default_turns) output
    (Finished (Comes (Faulted kind line.0)))
Ran text input (status.Stuck why) output = Executes (job (Some text) (Some input) default_turns) output (Finished (Stuck why))
Ran text input status.TurnLimit output = Executes (job (Some text) (Some input) default_turns) output Going
Ran text input (status.TextRefused line) output = IsRefusedLine text line.0
Ran text input status.InputTooLong output = (input_limit < length input) × (output ≡ [])
Ran text input status.Memory output = ⊤
Ran text input other output = ⊥

-- both, one behind the other: no other status comes
abbrev pub EndsAs : List ℕ → List ℕ → Status → List ℕ → Type 0
EndsAs source input status.Done output = DoesAsItsSource source input default_turns output (Finished (Comes Ended))
EndsAs source input (status.Fault kind line) output = DoesAsItsSource source input default_turns output
    (Finished (Comes (Faulted kind line.0)))
EndsAs source input status.TurnLimit output = DoesAsItsSource source input default_turns output Going
EndsAs source input (status.Refused phase line rule) output = IsLeastBroken source phase line.0 rule.0 × (output ≡ [])
EndsAs source input status.InputTooLong output = (input_limit < length input) × (output ≡ [])
EndsAs source input status.Memory output = ⊤
EndsAs source input other output = ⊥
