-- Steps of statements that look at no variable of the machine: tests, turns, entries, output.
use Rattle.std.proofs.Common.{◌≡◌, ℕ, zero, suc, ◌<◌, Bool, true, false, List, [], ◌∷◌, ◌++◌, refl, arith, ◌+◌}
use Rattle.std.specs.Prelude.{Err}
use Rattle.a95_base.specs.declared.fault.FaultKind.{FaultKind}
use Rattle.a95_base.specs.declared.scalar.Scalar.{Scalar}
use Rattle.a95_base.specs.Steps.{Ran, pure, stop, behind, ◌>>=◌, ◌>>◌}
use Rattle.array_meaning.specs.State as source
use Rattle.array_meaning.specs.InputOutput.{record_of}
use Rattle.nest_tree.specs.State.{NestState, with_written, Halt, By, Step, pick, within, enter, turns_left, joins, writes, lifted}
use Rattle.loop_tree.specs.declared.row.ControlRow.TheVariants as control
use Rattle.loop_tree.specs.declared.tree.CodeLine.{CodeLine}
use Rattle.loop_tree.specs.declared.tree.Stmt.{Stmt}
use Rattle.loop_tree.specs.declared.tree.Function.{Function}
use Rattle.loop_tree.specs.Lines.{flats}
use Rattle.loop_tree.specs.State.{Brace}
use Rattle.loop_laws.specs.At.{Variables}
use Rattle.loop_laws.proofs.Rows.{step_source_line}
use Rattle.loop_laws.proofs.Meets.{passes}
use Rattle.loop_laws.proofs.Statements.{stops}
use Rattle.nest_emit.specs.Statements.{at_line, control_row}
use Rattle.nest_emit.specs.Meets.{spot, Does, DoesAt}
use Rattle.nest_emit.proofs.Runs.{row_leaves}

-- ---- equations

pub plus_one : (n : ℕ) → n + 1 ≡ suc n
plus_one n = omega arith

pub unless_true : (b : Bool) (kind : FaultKind) (line : ℕ) (go : Unit {0} → Step (Unit {0})) (n : NestState) → b ≡ true →
    (within (source.unless b kind line) >>= go) n ≡ go tt n
unfolding within source.unless pure ◌>>=◌ behind
unless_true b kind line go n e = rw e refl

pub unless_false : (b : Bool) (kind : FaultKind) (line : ℕ) (go : Unit {0} → Step (Unit {0})) (n : NestState) → b ≡ false →
    (within (source.unless b kind line) >>= go) n ≡ record { came = Err (By (source.Faults kind line)); after = n }
unfolding within source.unless stop ◌>>=◌ behind
unless_false b kind line go n e = rw e refl

pub pick_true : {A : Type 0} (b : Bool) (m k : Step A) (go : A → Step (Unit {0})) (n : NestState) → b ≡ true →
    (pick b m k >>= go) n ≡ (m >>= go) n
unfolding pick ◌>>=◌
pick_true b m k go n e = rw e refl

pub pick_false : {A : Type 0} (b : Bool) (m k : Step A) (go : A → Step (Unit {0})) (n : NestState) → b ≡ false →
    (pick b m k >>= go) n ≡ (k >>= go) n
unfolding pick ◌>>=◌
pick_false b m k go n e = rw e refl

abbrev pub with_pending : NestState → List Scalar → NestState
with_pending n new = record n { pending = new }

pub joins_is : (x : Scalar) (go : Unit {0} → Step (Unit {0})) (n : NestState) →
    (joins x >>= go) n ≡ go tt (with_pending n (n.pending ++ x ∷ []))
unfolding joins ◌>>=◌ behind
joins_is x go n = refl

pub writes_is : (go : Unit {0} → Step (Unit {0})) (n : NestState) →
    (writes >>= go) n ≡ go tt (record n { cells = with_written n.cells (record_of n.pending); pending = [] })
unfolding writes ◌>>=◌ behind
writes_is go n = refl

pub stop_is : {A : Type 0} (h : Halt) (go : A → Step (Unit {0})) (n : NestState) →
    (stop h >>= go) n ≡ record { came = Err h; after = n }
unfolding stop ◌>>=◌ behind
stop_is h go n = refl

abbrev pub with_entry : NestState → NestState
with_entry n = record n { entries = suc n.entries }

pub enter_is : (go : Unit {0} → Step (Unit {0})) (n : NestState) → (enter >>= go) n ≡ go tt (with_entry n)
unfolding enter ◌>>=◌ behind
enter_is go n = refl

pub entry_first : {A : Type 0} (x : Step A) (go : A → Step (Unit {0})) (n : NestState) →
    ((enter >> x) >>= go) n ≡ (x >>= go) (with_entry n)
unfolding enter ◌>>=◌ ◌>>◌ behind
entry_first x go n = refl

pub turns_left_is : {A : Type 0} (f : ℕ → Step A) (go : A → Step (Unit {0})) (n : NestState) →
    (turns_left f >>= go) n ≡ (f n.cells.plain.left >>= go) n
unfolding turns_left ◌>>=◌
turns_left_is f go n = refl

abbrev pub with_left : NestState → ℕ → NestState
with_left n left = record n { cells = record n.cells { plain = record n.cells.plain { left = left } } }

-- a turn begins, if one is left
abbrev pub turn_goes : ℕ → (Unit {0} → Step (Unit {0})) → NestState → Ran Halt NestState (Unit {0})
turn_goes zero go n = record { came = Err (By source.OutOfTurns); after = n }
turn_goes (suc left) go n = go tt (with_left n left)

turn_from_is : (left : ℕ) (go : Unit {0} → Step (Unit {0})) (n : NestState) →
    behind go (lifted n (source.turn_from left n.cells.plain)).came (lifted n (source.turn_from left n.cells.plain)).after
    ≡ turn_goes left go n
unfolding source.turn_from pure stop behind
turn_from_is zero go n = refl
turn_from_is (suc left) go n = refl

pub turn_is : (go : Unit {0} → Step (Unit {0})) (n : NestState) → (within source.turn >>= go) n ≡ turn_goes n.cells.plain.left go n
unfolding within source.turn ◌>>=◌
turn_is go n = turn_from_is n.cells.plain.left go n

-- ---- rows

pub line_does : {functions : List Function} {limit turns : ℕ} {written : List ℕ} {v : Variables} {braces : List Brace}
    {r : Ran Halt NestState (Unit {0})} (line : ℕ) (more : List Stmt) (lines : List CodeLine) →
    Does (spot functions limit turns written (record v { line = line }) (flats more ++ lines) braces) r →
    Does (spot functions limit turns written v (flats (at_line line ∷ more) ++ lines) braces) r
line_does line more lines d = row_leaves (step_source_line line) more lines d

module _ {functions : List Function} {limit : ℕ} {v : Variables} {braces : List Brace} where
  pub stop_does : (n : NestState) (more : List Stmt) (lines : List CodeLine) →
      DoesAt functions limit n v (flats (control_row control.Stop ∷ more) ++ lines) braces
      (record { came = Err (By source.Stopped); after = n })
  stop_does n more lines = record { by = stops more lines refl (omega arith) }

  -- more turns are begun than there are
  pub out_of_turns : (n : NestState) (lines : List CodeLine) → limit < n.entries →
      DoesAt functions limit n v lines braces (record { came = Err (By source.OutOfTurns); after = n })
  out_of_turns n lines past = record { by = passes refl past (omega arith) }
