-- What the words of a command line ask for.
use Rattle.std.specs.Prelude.{ℕ, ◌^◌, ◌&&◌, nat_le, List, length, codes, Option, Some, None, if◌then◌else◌, option_map}
use Rattle.std.specs.Prelude.{option_and_then, ⊤}
use Rattle.std.specs.Str.{bytes_eq}
use Rattle.clap.specs.Words.{Row, Text, first_of}
use Rattle.a95_base.specs.Input.{is_number, number_of}
use Rattle.command_words.specs.CommandLine.{matches}

-- each has the name of a file
pub data Command : Type 0 where
  BuildFile : (name : Text) → Command
  RunFile : (name : Text) (turns : ℕ) → Command

-- the turns of a run where the words don't say them
abbrev pub default_turns : ℕ
default_turns = 10 ^ 12

-- 1 to 38 digits say them
abbrev pub turns_of : Text → Option ℕ
turns_of digits = if is_number digits && nat_le (length digits) 38 then Some (number_of digits) else None

-- `--turns` doesn't stand beside `build`
abbrev pub build_of : Text → Option Text → Option Command
build_of name None = Some (BuildFile name)
build_of name (Some digits) = None

abbrev pub run_of : Text → Option Text → Option Command
run_of name None = Some (RunFile name default_turns)
run_of name (Some digits) = option_map (RunFile name) (turns_of digits)

-- the command of this name, on this operand, with the value of `--turns`
abbrev pub command_named : Text → Text → Option Text → Option Command
command_named command operand turns =
    if bytes_eq command (codes "build") then build_of operand turns
    else (if bytes_eq command (codes "run") then run_of operand turns else None)

-- COMMAND and OPERAND are required, so words that have matches have both
abbrev pub asked : Option Text → Option Text → Option Text → Option Command
asked (Some command) (Some operand) turns = command_named command operand turns
asked command operand turns = None

abbrev pub asked_by : List Row → Option Command
asked_by rows = asked (first_of (codes "COMMAND") rows) (first_of (codes "OPERAND") rows) (first_of (codes "turns") rows)

-- the command that the words are; None where they are none
abbrev pub command_of : List Text → Option Command
command_of words = option_and_then asked_by (matches words)

-- what holds where the words are no command, and where they ask for each
abbrev pub OnNoCommand : Option Command → Type 0 → Type 0
OnNoCommand None P = P
OnNoCommand (Some command) P = ⊤

abbrev pub OnBuild : Option Command → (Text → Type 0) → Type 0
OnBuild (Some (BuildFile name)) P = P name
OnBuild other P = ⊤

abbrev pub OnRun : Option Command → (Text → ℕ → Type 0) → Type 0
OnRun (Some (RunFile name turns)) P = P name turns
OnRun other P = ⊤

-- what holds where they don't ask to run
abbrev pub UnlessRun : Option Command → Type 0 → Type 0
UnlessRun (Some (RunFile name turns)) P = ⊤
UnlessRun other P = P
