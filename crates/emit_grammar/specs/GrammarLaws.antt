-- What is emitted of nest units is LoopC by its grammar.
use Rattle.nest_tree.specs.Plain.{NestUnit}
use Rattle.nest_tree.specs.Sound.{FitsUnit}
use Rattle.loop_tree.specs.Program.{IsProgram}
use Rattle.nest_emit.specs.Statements.{program_of}
use Rattle.emit_grammar.specs.Written.{Written}

-- whether all of it has lines yet or not
abbrev pub ProgramIsLoopC : Type 0
ProgramIsLoopC = (unit : NestUnit) → FitsUnit unit → Written unit → IsProgram (program_of unit)
