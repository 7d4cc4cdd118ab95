-- Where the open braces close, as places in the list of lines: what the table of a routine holds. No public clause cites it.
use Rattle.std.specs.Prelude.{ℕ, ◌+◌, List, [], ◌∷◌, length}
use Rattle.loop_tree.specs.declared.tree.CodeLine.{CodeLine}
use Rattle.loop_tree.specs.declared.tree.CodeLine.TheVariants as code
use Rattle.a95_base.specs.Lists.{rest_of}
use Rattle.loop_rows.specs.declared.routine.Exit.{Exit}

-- the place where the innermost of these braces closes, or that behind all lines
abbrev pub own_or : ℕ → List Exit → ℕ
own_or end [] = end
own_or end (exit ∷ exits) = exit.own

-- a brace that closes at a place, within these
abbrev pub opened : ℕ → ℕ → List Exit → List Exit
opened end at exits = record { own = at; outer = own_or end exits } ∷ exits

-- the braces that are open before a line which has the place `at`, innermost first, given those that are open behind it
abbrev pub passed : ℕ → ℕ → CodeLine → List Exit → List Exit
passed end at (code.Row r) exits = exits
passed end at (code.If test) exits = rest_of exits
passed end at code.Else exits = opened end at (rest_of exits)
passed end at (code.ForUp k bound) exits = rest_of exits
passed end at (code.ForDown k bound) exits = rest_of exits
passed end at code.Forever exits = rest_of exits
passed end at code.Close exits = opened end at exits

-- the same for the first of these lines
abbrev pub open_before : ℕ → ℕ → List CodeLine → List Exit
open_before end at [] = []
open_before end at (line ∷ lines) = passed end at line (open_before end (at + 1) lines)

abbrev pub first_exit_of : ℕ → List Exit → Exit
first_exit_of end [] = record { own = end; outer = end }
first_exit_of end (exit ∷ exits) = exit

-- one entry for each place from `at` to that behind the last line, which is `end`
abbrev pub table_from : ℕ → ℕ → List CodeLine → List Exit
table_from end at [] = first_exit_of end [] ∷ []
table_from end at (line ∷ lines) = first_exit_of end (open_before end at (line ∷ lines)) ∷ table_from end (at + 1) lines

abbrev pub table_of : List CodeLine → List Exit
table_of lines = table_from (length lines) 0 lines
