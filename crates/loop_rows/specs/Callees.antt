-- Calls of functions, on the machine's own state.
use Rattle.std.specs.Prelude.{ℕ, Bool, false, List, [], ◌∷◌, ◌++◌, map, Option, None, Some}
use Rattle.loop_tree.specs.declared.atom.Argument.{Argument}
use Rattle.loop_tree.specs.declared.tree.Function.{Function}
use Rattle.loop_tree.specs.State.{State}
use Rattle.loop_tree.specs.Machine.{match_letters, int_passed, text_passed, ints_passed, texts_passed}
use Rattle.loop_rows.specs.declared.state.Active.{Active}

-- the function takes the arguments
abbrev pub accepts : Option Function → List Argument → Bool
accepts None arguments = false
accepts (Some function) arguments = match_letters arguments function.parameters

abbrev pub with_argument : State → Active → Argument → Active
with_argument s callee argument = record callee {
  ints = callee.ints ++ int_passed s argument ∷ [];
  texts = callee.texts ++ text_passed s argument ∷ [];
  int_blocks = callee.int_blocks ++ ints_passed s argument ∷ [];
  text_blocks = callee.text_blocks ++ texts_passed s argument ∷ [];
}

-- a call of function n at its first line
abbrev pub entered : State → ℕ → List Argument → Active
entered s n arguments = record {
  routine = n;
  place = 0;
  braces = [];
  ints = map (int_passed s) arguments;
  indices = [];
  texts = map (text_passed s) arguments;
  int_blocks = map (ints_passed s) arguments;
  text_blocks = map (texts_passed s) arguments;
  line = 0;
  mark = s.made;
}
