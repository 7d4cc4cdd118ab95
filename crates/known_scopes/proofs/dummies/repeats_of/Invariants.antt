use Rattle.std.proofs.Common.{◌≡◌, ◌++◌, drop}
use Rattle.known_scopes.specs.Asked.{repeats_from, repeats_of}
use Rattle.known_scopes.proofs.dummies.repeats_of.Given as goal

abbrev pub invariant-loop-word : goal.invariant-loop-word
invariant-loop-word l = l.repeats ++ repeats_from l.before (drop l.word-index l.words) ≡ repeats_of l.words
