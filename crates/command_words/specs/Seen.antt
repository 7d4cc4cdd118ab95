-- A command as contracts see it.
use Rattle.command_words.specs.declared.words.Command.TheVariants as asked
use Rattle.command_words.specs.declared.words.Command as declared
use Rattle.command_words.specs.Commands.{Command, BuildFile, RunFile}

abbrev pub seen : declared.Command → Command
seen (asked.BuildFile name) = BuildFile name.now
seen (asked.RunFile name turns) = RunFile name.now turns
