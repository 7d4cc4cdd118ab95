-- What the machine's own state stands for.
use Rattle.std.specs.Prelude.{ℕ, List, [], ◌∷◌, Bool, true, false, map, drop, slice_get, Option, None, Some}
use Rattle.loop_tree.specs.declared.tree.CodeLine.{CodeLine}
use Rattle.loop_tree.specs.declared.tree.CodeLine.TheVariants as code
use Rattle.loop_tree.specs.declared.tree.Function.{Function}
use Rattle.loop_tree.specs.Lines.{lines_of}
use Rattle.loop_tree.specs.State.{Brace, Choice, Upward, Downward, Forever, Frame, State}
use Rattle.loop_rows.specs.declared.state.OpenBrace.{OpenBrace}
use Rattle.loop_rows.specs.declared.state.OpenBrace.TheVariants as open_brace
use Rattle.loop_rows.specs.declared.state.Active.{Active}
use Rattle.loop_rows.specs.declared.state.Core.{Core}

abbrev pub lines_or_none : Option Function → List CodeLine
lines_or_none None = []
lines_or_none (Some function) = lines_of function

-- the lines of the function of a number
abbrev pub lines_in : List Function → ℕ → List CodeLine
lines_in functions routine = lines_or_none (slice_get functions routine)

abbrev pub brace : List CodeLine → OpenBrace → Brace
brace lines open_brace.Choice = Choice
brace lines (open_brace.Upward k bound body) = Upward k bound (drop body lines)
brace lines (open_brace.Downward k body) = Downward k (drop body lines)
brace lines (open_brace.Forever body) = Forever (drop body lines)

abbrev pub frame : List Function → Active → Frame
frame functions a = record {
  rest = drop a.place (lines_in functions a.routine);
  braces = map (brace (lines_in functions a.routine)) a.braces;
  ints = a.ints;
  indices = a.indices;
  texts = a.texts;
  int_blocks = a.int_blocks;
  text_blocks = a.text_blocks;
  line = a.line;
  mark = a.mark;
}

abbrev pub shown : List Function → Core → State
shown functions core = record {
  now = frame functions core.active;
  callers = map (frame functions) core.callers;
  blocks = core.blocks.blocks;
  made = core.blocks.made;
  pending = core.pending;
  input = drop core.taken core.input;
}

-- the next line begins the other branch of a choice
abbrev pub is_else : List CodeLine → Bool
is_else (code.Else ∷ lines) = true
is_else lines = false

-- the innermost brace is that of a choice
abbrev pub begins_choice : List OpenBrace → Bool
begins_choice (open_brace.Choice ∷ more) = true
begins_choice braces = false
