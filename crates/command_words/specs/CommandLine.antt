-- The command line, as a simple command of `clap`, and which words it takes.
use Rattle.std.specs.Prelude.{List, codes, Option, Some, None, true, if◌then◌else◌}
use Rattle.clap.specs.Words.{App, Row, Rule, Shape, Text, fault_of, matches_of, new_app, new_rule, with_rule}
use Rattle.clap.specs.Simple.{on_top}
use Rattle.clap.specs.Walk.{is_empty}

-- a positional of this name that has to be there
abbrev pub required : Text → Rule
required name = record (new_rule name) { required = true }

-- an option of this name, with one value
abbrev pub option : Text → Rule
option name = record (new_rule name) { long = Some name }

-- no flag asks for help or the version, and the words are those after the program's name
abbrev pub without_flags : Shape → Shape
without_flags s = record s { no_binary_name = true; disable_help_flag = true; disable_version_flag = true }

-- a command line without arguments
abbrev pub plain_line : App
plain_line = on_top without_flags (new_app (codes "f95a"))

-- COMMAND and OPERAND, and `--turns` with one value
abbrev pub command_line : App
command_line =
    with_rule (with_rule (with_rule plain_line (required (codes "COMMAND"))) (required (codes "OPERAND")))
    (option (codes "turns"))

-- the matches of the words; None where `clap` has a kind of error for them
abbrev pub matches : List Text → Option (List Row)
matches words = if is_empty (fault_of command_line words) then Some (matches_of command_line words) else None
