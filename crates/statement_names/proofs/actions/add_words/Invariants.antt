use Rattle.std.proofs.Common.{◌≡◌, ◌++◌, drop}
use Rattle.statement_names.proofs.actions.add_words.Given as goal

abbrev pub invariant-loop-word : goal.invariant-loop-word
invariant-loop-word l = l.names.items ++ drop l.word-index l.words ≡ l.initial.names.items ++ l.words
