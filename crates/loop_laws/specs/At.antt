-- A state of a LoopC program as its variables, the lines that come next and the open braces: what rows read and change
-- stands in the variables, and a step's law leaves the other two as they are.
use Rattle.std.specs.Prelude.{ℕ, ◌+◌, ℤ, pos, if◌then◌else◌, List, [], ◌∷◌, map, Option, Some, None, Result, Ok, Err}
use Rattle.std.specs.List.{list_all}
use Rattle.a95_base.specs.declared.scalar.Scalar.{Scalar}
use Rattle.loop_tree.specs.declared.stuck.StuckState.{StuckState}
use Rattle.loop_tree.specs.declared.stuck.StuckState.TheVariants as stuck
use Rattle.loop_tree.specs.declared.atom.Atom.{Atom}
use Rattle.loop_tree.specs.declared.atom.TextAtom.{TextAtom}
use Rattle.loop_tree.specs.declared.atom.Reference.{Reference}
use Rattle.loop_tree.specs.declared.atom.Argument.{Argument}
use Rattle.loop_tree.specs.declared.row.IntValue.{IntValue}
use Rattle.loop_tree.specs.declared.row.TextValue.{TextValue}
use Rattle.loop_tree.specs.declared.tree.CodeLine.{CodeLine}
use Rattle.loop_tree.specs.declared.tree.Function.{Function}
use Rattle.loop_tree.specs.State.{Brace, Cells, Block, Frame, State, with_at, made_before}
use Rattle.loop_tree.specs.Values.{atom_in, text_in, block_in, int_value, text_value}
use Rattle.loop_tree.specs.Machine.{callable, is_usable, match_letters, int_passed, text_passed, ints_passed, texts_passed}

-- a state, but for the lines that come next and the open braces
pub record Variables : Type 0 where
  pub ints : List ℤ
  pub indices : List ℤ
  pub texts : List (List ℕ)
  pub int_blocks : List (Option ℕ)
  pub text_blocks : List (Option ℕ)
  pub line : ℕ
  pub mark : ℕ
  pub callers : List Frame
  pub blocks : List Block
  pub made : ℕ
  pub pending : List Scalar
  pub input : List ℕ

abbrev pub frame_of : Variables → List CodeLine → List Brace → Frame
frame_of v lines braces = record {
  rest = lines;
  braces = braces;
  ints = v.ints;
  indices = v.indices;
  texts = v.texts;
  int_blocks = v.int_blocks;
  text_blocks = v.text_blocks;
  line = v.line;
  mark = v.mark;
}

-- the state with these variables before these lines, within these braces
abbrev pub at : Variables → List CodeLine → List Brace → State
at v lines braces = record {
  now = frame_of v lines braces;
  callers = v.callers;
  blocks = v.blocks;
  made = v.made;
  pending = v.pending;
  input = v.input;
}

-- ---- what is read. A right side looks neither at the lines nor at the braces

abbrev pub value_of : Variables → Atom → ℤ
value_of v a = atom_in v.ints v.indices a

abbrev pub bytes_of : Variables → TextAtom → List ℕ
bytes_of v t = text_in v.texts t

abbrev pub number_of : Variables → Reference → Option ℕ
number_of v r = block_in v.int_blocks v.text_blocks r

abbrev pub int_read : Variables → IntValue → Result ℤ StuckState
int_read v x = int_value (at v [] []) x

abbrev pub text_read : Variables → TextValue → Result (List ℕ) StuckState
text_read v x = text_value (at v [] []) x

-- ---- what is set

abbrev pub with_int : Variables → ℕ → ℤ → Variables
with_int v n z = record v { ints = with_at (pos 0) v.ints n z }

abbrev pub with_index : Variables → ℕ → ℤ → Variables
with_index v k z = record v { indices = with_at (pos 0) v.indices k z }

abbrev pub with_text : Variables → ℕ → List ℕ → Variables
with_text v n t = record v { texts = with_at [] v.texts n t }

abbrev pub with_blocks : Variables → List Block → Variables
with_blocks v blocks = record v { blocks = blocks }

-- a reference to the block of this number, or to none
abbrev pub with_ints_reference : Variables → ℕ → Option ℕ → Variables
with_ints_reference v n block = record v { int_blocks = with_at None v.int_blocks n block }

abbrev pub with_texts_reference : Variables → ℕ → Option ℕ → Variables
with_texts_reference v n block = record v { text_blocks = with_at None v.text_blocks n block }

-- a new block, which has the next number
abbrev pub with_new_block : Variables → Cells → Variables
with_new_block v cells = record v { blocks = record { number = v.made; cells = cells } ∷ v.blocks; made = v.made + 1 }

-- ---- calls

-- the function that a call enters
abbrev pub with_letters : Function → List Argument → Result Function StuckState
with_letters function arguments = if match_letters arguments function.parameters then Ok function else Err stuck.WrongCall

abbrev pub found : Option Function → List Argument → Result Function StuckState
found None arguments = Err stuck.WrongCall
found (Some function) arguments = with_letters function arguments

abbrev pub called : List Function → Variables → ℕ → List Argument → Result Function StuckState
called functions v n arguments = if list_all (is_usable (at v [] [])) arguments then found (callable functions n) arguments
    else Err stuck.NoBlock

-- the variables at its start, where the call stands before these lines within these braces
abbrev pub entered : Variables → List CodeLine → List Brace → List Argument → Variables
entered v lines braces arguments = record v {
  ints = map (int_passed (at v [] [])) arguments;
  indices = [];
  texts = map (text_passed (at v [] [])) arguments;
  int_blocks = map (ints_passed (at v [] [])) arguments;
  text_blocks = map (texts_passed (at v [] [])) arguments;
  line = 0;
  mark = v.made;
  callers = frame_of v lines braces ∷ v.callers;
}

-- the variables of the caller behind a call which left those of the function as w: the blocks that it made are freed
abbrev pub returned : Variables → Variables → Variables
returned v w = record v { blocks = made_before w.blocks w.mark; made = w.made; pending = w.pending; input = w.input }

-- the variables at the start of a program
abbrev pub at_start : List ℕ → Variables
at_start input = record {
  ints = [];
  indices = [];
  texts = [];
  int_blocks = [];
  text_blocks = [];
  line = 0;
  mark = 0;
  callers = [];
  blocks = [];
  made = 0;
  pending = [];
  input = input;
}
