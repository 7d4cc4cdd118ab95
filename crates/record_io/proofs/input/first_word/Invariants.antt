use Rattle.std.proofs.Common.{◌≡◌, ◌++◌, take, drop}
use Rattle.a95_base.specs.Input.{word_of}
use Rattle.record_io.proofs.input.first_word.Given as goal

-- the bytes so far begin the word
abbrev pub invariant-loop-end : goal.invariant-loop-end
invariant-loop-end l = word_of l.text ≡ take l.end l.text ++ word_of (drop l.end l.text)
