-- A turn of a loop that goes upward, from brace to brace.
use Rattle.std.proofs.Common.{◌≡◌, ℕ, ◌+◌, ℤ, pos, Bool, true, false, List, [], ◌∷◌, drop, ap, sym, ◌∙◌}
use Rattle.std.specs.Prelude.{◌+ℤ◌, map, slice_get, Some, Result, Ok, Err, int_lt}
use Rattle.std.specs.Int.{w64, int_wrap}
use Rattle.loop_tree.specs.declared.stuck.StuckState.{StuckState}
use Rattle.loop_tree.specs.declared.atom.Atom.{Atom}
use Rattle.loop_tree.specs.declared.atom.Atom.TheVariants as atom
use Rattle.loop_tree.specs.declared.atom.Operator.TheVariants as operator
use Rattle.loop_tree.specs.declared.row.IntValue.TheVariants as int
use Rattle.loop_tree.specs.declared.row.Row.{Row}
use Rattle.loop_tree.specs.declared.tree.CodeLine.{CodeLine}
use Rattle.loop_tree.specs.declared.tree.CodeLine.TheVariants as code
use Rattle.loop_tree.specs.declared.tree.Function.{Function}
use Rattle.loop_tree.specs.State.{Brace, Upward, State, Next, Goes, Ends, with_at, with_rest, with_blocks, set_int, set_index}
use Rattle.loop_tree.specs.Values.{number_at, block_at, atom_in, atom_of, int_value}
use Rattle.a95_base.specs.Lists.{rest_of}
use Rattle.loop_tree.specs.Machine.{again, up_again, close_line, given, changed, store_int, change_line, int_line}
use Rattle.loop_tree.specs.Machine.{block_line, at_line, control_line, row_line, do_line, step_at, step}
use Rattle.loop_rows.specs.declared.state.OpenBrace.TheVariants as open_brace
use Rattle.loop_rows.specs.declared.state.Core.{Core}
use Rattle.loop_machine.specs.declared.sweep.CellRow.TheVariants as cell
use Rattle.loop_machine.specs.declared.sweep.Frequent.TheVariants as frequent
use Rattle.loop_machine.specs.declared.sweep.Same.TheVariants as same
use Rattle.loop_machine.specs.declared.sweep.Value.TheVariants as value
use Rattle.loop_machine.specs.declared.sweep.Plain.TheVariants as plain
use Rattle.loop_machine.specs.declared.sweep.Planned.{Planned}
use Rattle.loop_machine.specs.declared.sweep.Planned.TheVariants as planned
use Rattle.loop_heap.specs.Heap.{Heap}
use Rattle.loop_rows.specs.Shown.{brace, lines_in, shown}
use Rattle.loop_machine.specs.Plans.{atom_of_index, atom_of_operand, row_of, placed, assembled}
use Rattle.loop_rows.proofs.Exits.{drop_some}
use Rattle.loop_machine.specs.Steps.{ReachesSilently}
use Rattle.loop_machine.proofs.Steps.{quiet_on}

-- what a closing brace does, where that of such a loop is the innermost
closes : (functions : List Function) (s : State) (rest : List CodeLine) (k : ℕ) (bound : Atom) (body : List CodeLine)
    (outer : List Brace) →
    s.now.rest ≡ code.Close ∷ rest → s.now.braces ≡ Upward k bound body ∷ outer →
    step functions s ≡ up_again (set_index (with_rest s rest) k (int_wrap w64 (number_at s.now.indices k +ℤ pos 1))) k bound body
    outer
unfolding step step_at do_line close_line
closes functions s rest k bound body outer e f = ap (step_at functions s) e ∙ ap (close_line (with_rest s rest)) f

pub begins_again : (functions : List Function) (core : Core) (k : ℕ) (bound : Atom) (body : ℕ) (next : ℤ) →
    slice_get (lines_in functions core.active.routine) core.active.place ≡ Some code.Close →
    core.active.braces ≡ open_brace.Upward k bound body ∷ rest_of core.active.braces →
    next ≡ int_wrap w64 (number_at core.active.indices k +ℤ pos 1) →
    int_lt (number_at (with_at (pos 0) core.active.indices k next) k)
    (atom_in core.active.ints (with_at (pos 0) core.active.indices k next) bound) ≡ true →
    step functions (shown functions core)
    ≡ Goes true [] (shown functions
    (record core { active = record core.active { place = body; indices = with_at (pos 0) core.active.indices k next } }))
begins_again functions core k bound body next line top e below =
    let lines = lines_in functions core.active.routine in
    let s = with_rest (shown functions core) (drop (core.active.place + 1) lines) in
    let outer = map (brace lines) (rest_of core.active.braces) in
    closes functions (shown functions core) (drop (core.active.place + 1) lines) k bound (drop body lines) outer
    (drop_some lines core.active.place code.Close line) (ap (map (brace lines)) top) ∙
    ap (λ (v : ℤ). up_again (set_index s k v) k bound (drop body lines) outer) (sym e) ∙
    ap (λ (goes : Bool). again (set_index s k next) goes (drop body lines) outer) below

-- ---- a row of the body

row_step : (functions : List Function) (core : Core) (place : ℕ) (r : Row) →
    slice_get (lines_in functions core.active.routine) place ≡ Some (code.Row r) →
    step functions (shown functions (placed core place)) ≡ row_line functions (shown functions (placed core (place + 1))) r
unfolding step step_at do_line
row_step functions core place r e =
    ap (step_at functions (shown functions (placed core place)))
    (drop_some (lines_in functions core.active.routine) place (code.Row r) e)

abbrev state_of : State → Next → State
state_of s (Goes turn wrote to) = to
state_of s (Ends how) = s

-- what is done with a value, in a state that differs in its rest
moved_given : {A : Type 0} (found : Result A StuckState) (next : A → State) (to : State) (rest : List CodeLine) →
    given found next ≡ Goes false [] to →
    given found (λ a. with_rest (next a) rest) ≡ Goes false [] (with_rest to rest)
moved_given (Ok a) next to rest e = ap (λ (s : State). Goes false [] (with_rest s rest)) (ap (state_of to) e)
moved_given (Err why) next to rest e = absurd cc

-- such a row does the same whatever the rest is
moved : (functions : List Function) (s to : State) (rest : List CodeLine) (k : ℕ) (p : Planned) →
    row_line functions s (row_of k p) ≡ Goes false [] to →
    row_line functions (with_rest s rest) (row_of k p) ≡ Goes false [] (with_rest to rest)
unfolding row_line int_line block_line change_line control_line at_line int_value
moved functions s to rest k (planned.Cell (cell.Load n m at link)) e =
    moved_given (int_value s (int.Cell m (atom_of_index k at))) (set_int s n) to rest e
moved functions s to rest k (planned.Cell (cell.Store m at from link)) e =
    moved_given (changed s.blocks (block_at s.now.int_blocks m)
    (store_int (atom_of s (atom_of_index k at)) (atom_of s (atom_of_operand from)))) (with_blocks s) to rest e
moved functions s to rest k (planned.Frequent (frequent.Load n m link)) e =
    moved_given (int_value s (int.Cell m (atom.Loop k))) (set_int s n) to rest e
moved functions s to rest k (planned.Frequent (frequent.Store m i link)) e =
    moved_given (changed s.blocks (block_at s.now.int_blocks m) (store_int (atom_of s (atom.Loop k)) (atom_of s (atom.Int i))))
    (with_blocks s) to rest e
moved functions s to rest k (planned.Frequent (frequent.Sum n x y)) e =
    moved_given (int_value s (int.Operation (atom.Int x) operator.Add (atom.Int y))) (set_int s n) to rest e
moved functions s to rest k (planned.Plain (plain.At n)) e =
    ap (λ (t : State). Goes false [] (with_rest t rest)) (ap (state_of to) e)
moved functions s to rest k (planned.Plain (plain.Set n (value.Same (same.Atom a)))) e =
    moved_given (int_value s (int.Atom (atom_of_operand a))) (set_int s n) to rest e
moved functions s to rest k (planned.Plain (plain.Set n (value.Same (same.Wrap a)))) e =
    moved_given (int_value s (int.Wrap (atom_of_operand a))) (set_int s n) to rest e
moved functions s to rest k (planned.Plain (plain.Set n (value.Operation a op b))) e =
    moved_given (int_value s (int.Operation (atom_of_operand a) op (atom_of_operand b))) (set_int s n) to rest e
moved functions s to rest k (planned.Plain (plain.Set n (value.Sum a b))) e =
    moved_given (int_value s (int.Operation (atom_of_operand a) operator.Add (atom_of_operand b))) (set_int s n) to rest e

-- and the way goes on with it
pub row_leads : (functions : List Function) (from : State) (core : Core) (ints more : List ℤ) (blocks changed : Heap)
    (turns place k : ℕ) (p : Planned) →
    ReachesSilently functions from turns (shown functions (placed (assembled core ints blocks) place)) →
    slice_get (lines_in functions core.active.routine) place ≡ Some (code.Row (row_of k p)) →
    row_line functions (shown functions (assembled core ints blocks)) (row_of k p)
    ≡ Goes false [] (shown functions (assembled core more changed)) →
    ReachesSilently functions from turns (shown functions (placed (assembled core more changed) (place + 1)))
row_leads functions from core ints more blocks changed turns place k p led line e =
    let before = assembled core ints blocks in
    let behind = assembled core more changed in
    quiet_on functions from (shown functions (placed before place)) (shown functions (placed behind (place + 1))) turns led
    (row_step functions before place (row_of k p) line ∙
    moved functions (shown functions before) (shown functions behind)
    (drop (place + 1) (lines_in functions core.active.routine)) k p e)
