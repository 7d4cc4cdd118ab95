-- One step of the machine for each row that is written, by the laws of LoopC.
use Rattle.std.proofs.Common.{◌≡◌, ℕ, ◌+◌, Bool, true, false, List, [], ◌∷◌, ◌++◌, Option, Some, None, Result, Ok, Err, ap, ◌∙◌, ℤ}
use Rattle.std.proofs.Common.{pos, nat_le}
use Rattle.std.specs.Prelude.{replicate, if◌then◌else◌, ◌+ℤ◌, ◌-ℤ◌, ◌*ℤ◌}
use Rattle.std.specs.Int.{w64, int_wrap}
use Rattle.a95_base.specs.declared.scalar.Scalar.{Scalar}
use Rattle.a95_base.specs.declared.scalar.Scalar.TheVariants as scalar
use Rattle.a95_base.specs.Integer.{wrapped}
use Rattle.a95_base.specs.Outcome.{Ended}
use Rattle.a95_base.specs.Record.{record_text}
use Rattle.loop_tree.specs.declared.stuck.StuckState.{StuckState}
use Rattle.loop_tree.specs.declared.stuck.StuckState.TheVariants as stuck
use Rattle.loop_tree.specs.declared.atom.Atom.{Atom}
use Rattle.loop_tree.specs.declared.atom.Atom.TheVariants as atom
use Rattle.loop_tree.specs.declared.atom.Operator.TheVariants as operator
use Rattle.loop_tree.specs.declared.atom.Reference.TheVariants as reference
use Rattle.loop_tree.specs.declared.row.Row.TheVariants as row
use Rattle.loop_tree.specs.declared.row.IntValue.TheVariants as int
use Rattle.loop_tree.specs.declared.row.BlockRow.TheVariants as block
use Rattle.loop_tree.specs.declared.row.ControlRow.TheVariants as control
use Rattle.loop_tree.specs.declared.row.RecordRow.TheVariants as record_row
use Rattle.loop_tree.specs.declared.tree.CodeLine.{CodeLine}
use Rattle.loop_tree.specs.declared.tree.CodeLine.TheVariants as code
use Rattle.loop_tree.specs.declared.tree.Function.{Function}
use Rattle.loop_tree.specs.State.{Brace, Cells, Ints, Block, State, Comes, Goes, Ends, with_at, cells_at, cells_numbered}
use Rattle.loop_tree.specs.State.{cells_or_stuck, without}
use Rattle.loop_tree.specs.Values.{block_at, atom_in, and_then, ints_at, int_cell, int_value, operation, largest}
use Rattle.loop_tree.specs.Machine.{step, freed, given, store_int, changed}
use Rattle.loop_laws.specs.At as layer
use Rattle.loop_laws.specs.At.{Variables}
use Rattle.loop_laws.proofs.Rows as laws

-- what changes in a run of a program of one function, but for the lines that come next and the open braces
pub record Vars : Type 0 where
  pub ints : List ℤ
  pub indices : List ℤ
  pub references : List (Option ℕ)
  pub line : ℕ
  pub blocks : List Block
  pub made : ℕ
  pub pending : List Scalar
  pub input : List ℕ

-- it has no texts, and no call is active
abbrev pub full : Vars → Variables
full v = record {
  ints = v.ints;
  indices = v.indices;
  texts = [];
  int_blocks = v.references;
  text_blocks = [];
  line = v.line;
  mark = 0;
  callers = [];
  blocks = v.blocks;
  made = v.made;
  pending = v.pending;
  input = v.input;
}

abbrev pub at : Vars → List CodeLine → List Brace → State
at v rest braces = layer.at (full v) rest braces

abbrev pub with_int : Vars → ℕ → ℤ → Vars
with_int v n z = record v { ints = with_at (pos 0) v.ints n z }

abbrev pub with_index : Vars → ℤ → Vars
with_index v z = record v { indices = with_at (pos 0) v.indices 1 z }

module _ (functions : List Function) (v : Vars) (rest : List CodeLine) (braces : List Brace) where
  pub step_atom : (n : ℕ) (a : Atom) → step functions (at v (code.Row (row.Int n (int.Atom a)) ∷ rest) braces)
      ≡ Goes false [] (at (with_int v n (atom_in v.ints v.indices a)) rest braces)
  unfolding int_value
  step_atom n a = (laws.step_int n (int.Atom a)).by functions (full v) rest braces

  pub step_wrap : (n : ℕ) (a : Atom) → step functions (at v (code.Row (row.Int n (int.Wrap a)) ∷ rest) braces)
      ≡ Goes false [] (at (with_int v n (wrapped (atom_in v.ints v.indices a))) rest braces)
  unfolding int_value
  step_wrap n a = (laws.step_int n (int.Wrap a)).by functions (full v) rest braces

  pub step_multiply : (n : ℕ) (a b : Atom) →
      step functions (at v (code.Row (row.Int n (int.Operation a operator.Multiply b)) ∷ rest) braces)
      ≡ Goes false [] (at (with_int v n (int_wrap w64 (atom_in v.ints v.indices a *ℤ atom_in v.ints v.indices b))) rest braces)
  unfolding int_value operation
  step_multiply n a b = (laws.step_int n (int.Operation a operator.Multiply b)).by functions (full v) rest braces

  pub step_add : (n : ℕ) (a b : Atom) → step functions (at v (code.Row (row.Int n (int.Operation a operator.Add b)) ∷ rest) braces)
      ≡ Goes false [] (at (with_int v n (int_wrap w64 (atom_in v.ints v.indices a +ℤ atom_in v.ints v.indices b))) rest braces)
  unfolding int_value operation
  step_add n a b = (laws.step_int n (int.Operation a operator.Add b)).by functions (full v) rest braces

  pub step_subtract : (n : ℕ) (a b : Atom) →
      step functions (at v (code.Row (row.Int n (int.Operation a operator.Subtract b)) ∷ rest) braces)
      ≡ Goes false [] (at (with_int v n (int_wrap w64 (atom_in v.ints v.indices a -ℤ atom_in v.ints v.indices b))) rest braces)
  unfolding int_value operation
  step_subtract n a b = (laws.step_int n (int.Operation a operator.Subtract b)).by functions (full v) rest braces

  -- the value of a cell
  pub step_cell : (n b : ℕ) (a : Atom) (cells : List ℤ) (z : ℤ) → ints_at v.blocks (block_at v.references b) ≡ Ok cells →
      int_cell cells (atom_in v.ints v.indices a) ≡ Ok z
      → step functions (at v (code.Row (row.Int n (int.Cell b a)) ∷ rest) braces) ≡ Goes false [] (at (with_int v n z) rest braces)
  unfolding int_value
  step_cell n b a cells z there value =
      (laws.step_int n (int.Cell b a)).by functions (full v) rest braces
      ∙ ap (λ (r : Result (List ℤ) StuckState). given (and_then r (λ c. int_cell c (atom_in v.ints v.indices a)))
      (λ x. at (with_int v n x) rest braces)) there
      ∙ ap (λ (r : Result ℤ StuckState). given r (λ x. at (with_int v n x) rest braces)) value

  pub step_line : (n : ℕ) → step functions (at v (code.Row (row.Control (control.At n)) ∷ rest) braces)
      ≡ Goes false [] (at (record v { line = n }) rest braces)
  step_line n = (laws.step_source_line n).by functions (full v) rest braces

  abbrev pub with_block : ℕ → ℕ → Vars
  with_block b n = record v {
    references = with_at None v.references b (Some v.made);
    blocks = record { number = v.made; cells = Ints (replicate n (pos 0)) } ∷ v.blocks;
    made = v.made + 1;
  }

  pub step_new : (b n : ℕ) → nat_le n largest ≡ true → step functions
      (at v (code.Row (row.Block (block.New b (atom.Number (pos n)))) ∷ rest) braces)
      ≡ Goes false [] (at (with_block b n) rest braces)
  step_new b n small = (laws.step_new b (atom.Number (pos n))).by functions (full v) rest braces
      ∙ ap (λ (t : Bool). given (and_then (if t then Ok n else Err stuck.BlockSize) (λ m. Ok (Ints (replicate m (pos 0)))))
      (λ cells. at
      (record v {
        references = with_at None v.references b (Some v.made);
        blocks = record { number = v.made; cells = cells } ∷ v.blocks;
        made = v.made + 1;
      }) rest braces)) small

  pub step_temp : (b n : ℕ) → nat_le n largest ≡ true → step functions
      (at v (code.Row (row.Block (block.Temp b (atom.Number (pos n)))) ∷ rest) braces)
      ≡ Goes false [] (at (with_block b n) rest braces)
  step_temp b n small = (laws.step_temp b (atom.Number (pos n))).by functions (full v) rest braces
      ∙ ap (λ (t : Bool). given (and_then (if t then Ok n else Err stuck.BlockSize) (λ m. Ok (Ints (replicate m (pos 0)))))
      (λ cells. at
      (record v {
        references = with_at None v.references b (Some v.made);
        blocks = record { number = v.made; cells = cells } ∷ v.blocks;
        made = v.made + 1;
      }) rest braces)) small

  -- a store into the block of a reference
  pub step_store : (b : ℕ) (i a : Atom) (blocks : List Block) →
      changed v.blocks (block_at v.references b) (store_int (atom_in v.ints v.indices i) (atom_in v.ints v.indices a)) ≡ Ok blocks
      → step functions (at v (code.Row (row.Block (block.StoreInt b i a)) ∷ rest) braces)
      ≡ Goes false [] (at (record v { blocks = blocks }) rest braces)
  step_store b i a blocks there = (laws.step_store_int b i a).by functions (full v) rest braces
      ∙ ap (λ (r : Result (List Block) StuckState). given r (λ bs. at (record v { blocks = bs }) rest braces)) there

  -- a living block is freed
  pub step_free : (b m : ℕ) (cells : Cells) → block_at v.references b ≡ Some m → cells_numbered v.blocks m ≡ Some cells
      → step functions (at v (code.Row (row.Block (block.Free (reference.Ints b))) ∷ rest) braces)
      ≡ Goes false [] (at (record v { blocks = without v.blocks m }) rest braces)
  step_free b m cells named there =
      (laws.step_free (reference.Ints b)).by functions (full v) rest braces
      ∙ ap (λ (r : Option ℕ). given (cells_at v.blocks r) (λ (c : Cells). at (record v { blocks = freed v.blocks r }) rest braces))
      named
      ∙ ap (λ (o : Option Cells). given (cells_or_stuck o)
      (λ (c : Cells). at (record v { blocks = without v.blocks m }) rest braces)) there

  pub step_put : (a : Atom) → step functions (at v (code.Row (row.Record (record_row.PutInt a)) ∷ rest) braces)
      ≡ Goes false [] (at (record v { pending = v.pending ++ scalar.Int (wrapped (atom_in v.ints v.indices a)) ∷ [] }) rest braces)
  step_put a = (laws.step_put_int a).by functions (full v) rest braces

  pub step_write : step functions (at v (code.Row (row.Record record_row.Write) ∷ rest) braces)
      ≡ Goes false (record_text v.pending ++ 10 ∷ []) (at (record v { pending = [] }) rest braces)
  step_write = laws.step_write functions (full v) rest braces

  -- the end of the program
  pub step_end : step functions (at v (code.Close ∷ rest) []) ≡ Ends (Comes Ended)
  step_end = laws.step_last_brace functions (full v) rest
