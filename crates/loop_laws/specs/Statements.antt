-- What a run comes to from before a statement, where it is known what it comes to from where the statement leads.
use Rattle.std.specs.Prelude.{◌≡◌, ℕ, zero, suc, ◌+◌, ◌<◌, ◌^◌, ℤ, pos, negsuc, true, false, List, ◌∷◌, ◌++◌, Result, Ok, Some}
use Rattle.std.specs.Prelude.{◌≤◌, [], int_lt, int_le, ◌-ℤ◌}
use Rattle.a95_base.specs.declared.fault.FaultKind.{FaultKind}
use Rattle.a95_base.specs.Outcome.{Ended, Faulted, Finished}
use Rattle.a95_base.specs.Record.{record_text}
use Rattle.std.specs.Int.{w64, int_wrap}
use Rattle.loop_tree.specs.declared.stuck.StuckState.{StuckState}
use Rattle.loop_tree.specs.declared.atom.Atom.{Atom}
use Rattle.loop_tree.specs.declared.atom.Argument.{Argument}
use Rattle.loop_tree.specs.declared.row.ControlRow.TheVariants as control
use Rattle.loop_tree.specs.declared.row.RecordRow.TheVariants as record_row
use Rattle.loop_tree.specs.declared.row.Row.{Row}
use Rattle.loop_tree.specs.declared.row.Row.TheVariants as row
use Rattle.loop_tree.specs.declared.tree.CodeLine.{CodeLine}
use Rattle.loop_tree.specs.declared.tree.CodeLine.TheVariants as code
use Rattle.loop_tree.specs.declared.tree.Stmt.{Stmt}
use Rattle.loop_tree.specs.declared.tree.Stmt.TheVariants as stmt
use Rattle.loop_tree.specs.declared.tree.Function.{Function}
use Rattle.loop_tree.specs.Lines.{flats}
use Rattle.loop_tree.specs.State.{Brace, Choice, Upward, Downward, Forever, Comes}
use Rattle.loop_tree.specs.Values.{number_at, holds}
use Rattle.a95_base.specs.Lists.{rest_of}
use Rattle.loop_tree.specs.Machine.{Place}
use Rattle.loop_tree.specs.Run.{configuration}
use Rattle.loop_laws.specs.At.{Variables, frame_of, at, value_of, with_index, called, entered, returned}
use Rattle.loop_laws.specs.Rows.{Gives, Leaves}
use Rattle.loop_laws.specs.Braces.{ClosesAt}
use Rattle.loop_laws.specs.Meets.{Expected, Meets}

-- the run that has begun so many turns and written this, with these variables before these lines within these braces
abbrev pub MeetsAt : List Function → ℕ → List ℕ → Variables → List CodeLine → List Brace → Expected → Type 0
MeetsAt functions turns written v lines braces e = Meets functions (configuration turns written (at v lines braces)) e

-- a row that gives a value, and one that leaves the variables changed
pub record RowLaws (A : Type 0) (functions : List Function) (turns : ℕ) (written : List ℕ) (v : Variables) (lines : List CodeLine)
    (braces : List Brace) (e : Expected) : Type 0 where
  pub gives : (r : Row) (value : Variables → Result A StuckState) (change : Variables → A → Variables) (a : A) →
      Gives r value change → (more : List Stmt) → value v ≡ Ok a →
      MeetsAt functions turns written (change v a) (flats more ++ lines) braces e →
      MeetsAt functions turns written v (flats (stmt.Row r ∷ more) ++ lines) braces e
  pub leaves : (r : Row) (change : Variables → Variables) →
      Leaves r change → (more : List Stmt) →
      MeetsAt functions turns written (change v) (flats more ++ lines) braces e →
      MeetsAt functions turns written v (flats (stmt.Row r ∷ more) ++ lines) braces e

-- from before lines and statements, where so many turns were begun and this was written, with these variables
pub record StatementLaws (functions : List Function) (turns : ℕ) (written : List ℕ) (v : Variables) (lines : List CodeLine)
    (braces : List Brace) (e : Expected) : Type 0 where
  -- the lines of two lists of statements, and of a row in front of others
  pub both : (first second : List Stmt) →
      MeetsAt functions turns written v (flats first ++ (flats second ++ lines)) braces e →
      MeetsAt functions turns written v (flats (first ++ second) ++ lines) braces e
  pub first : (r : Row) (more : List Stmt) →
      MeetsAt functions turns written v (code.Row r ∷ (flats more ++ lines)) braces e →
      MeetsAt functions turns written v (flats (stmt.Row r ∷ more) ++ lines) braces e
  -- a choice
  pub chooses : (test : Atom) (body more : List Stmt) →
      (holds (value_of v test) ≡ true → MeetsAt functions turns written v (flats body ++ code.Close ∷ (flats more ++ lines))
      (Choice ∷ braces) e) →
      (holds (value_of v test) ≡ false → MeetsAt functions turns written v (flats more ++ lines) braces e) →
      MeetsAt functions turns written v (flats (stmt.If test body ∷ more) ++ lines) braces e
  pub chooses_either : (test : Atom) (body other more : List Stmt) →
      (holds (value_of v test) ≡ true → MeetsAt functions turns written v
      (flats body ++ code.Else ∷ (flats other ++ code.Close ∷ (flats more ++ lines))) (Choice ∷ braces) e) →
      (holds (value_of v test) ≡ false → MeetsAt functions turns written v (flats other ++ code.Close ∷ (flats more ++ lines))
      (Choice ∷ braces) e) →
      MeetsAt functions turns written v (flats (stmt.IfElse test body other ∷ more) ++ lines) braces e
  -- the end of its first branch, and of its last
  pub past_else : (other : List Stmt) →
      MeetsAt functions turns written v lines braces e →
      MeetsAt functions turns written v (code.Else ∷ (flats other ++ code.Close ∷ lines)) (Choice ∷ braces) e
  pub past_close :
      MeetsAt functions turns written v lines braces e → MeetsAt functions turns written v (code.Close ∷ lines) (Choice ∷ braces) e
  -- a loop that has no round, as one with a negative bound
  pub skips_upward : (k : ℕ) (bound : Atom) (body more : List Stmt) → int_lt (pos 0) (value_of (with_index v k (pos 0)) bound)
      ≡ false →
      MeetsAt functions turns written (with_index v k (pos 0)) (flats more ++ lines) braces e →
      MeetsAt functions turns written v (flats (stmt.ForUp k bound body ∷ more) ++ lines) braces e
  pub skips_downward : (k : ℕ) (bound : Atom) (body more : List Stmt) (z : ℤ) → z ≡ int_wrap w64 (value_of v bound -ℤ pos 1) →
      int_le (pos 0) z ≡ false →
      MeetsAt functions turns written (with_index v k z) (flats more ++ lines) braces e →
      MeetsAt functions turns written v (flats (stmt.ForDown k bound body ∷ more) ++ lines) braces e
  -- break and continue
  pub breaks : (place : Place) (more : List Stmt) →
      ClosesAt lines braces place → MeetsAt functions turns written v (rest_of place.lines) (rest_of place.braces) e →
      MeetsAt functions turns written v (flats (stmt.Row (row.Control control.Break) ∷ more) ++ lines) braces e
  pub continues : (place : Place) (more : List Stmt) →
      ClosesAt lines braces place → MeetsAt functions turns written v place.lines place.braces e →
      MeetsAt functions turns written v (flats (stmt.Row (row.Control control.Continue) ∷ more) ++ lines) braces e
  -- what is written, a call of a function that is there, and where it is left
  pub writes_record : (more : List Stmt) →
      MeetsAt functions turns (written ++ (record_text v.pending ++ 10 ∷ [])) (record v { pending = [] })
      (flats more ++ lines) braces e →
      MeetsAt functions turns written v (flats (stmt.Row (row.Record record_row.Write) ∷ more) ++ lines) braces e
  pub calls : (n : ℕ) (arguments : List Argument) (f : Function) (more : List Stmt) →
      called functions v n arguments ≡ Ok f →
      MeetsAt functions (turns + 1) written (entered v (flats more ++ lines) braces arguments)
      (flats f.body ++ code.Close ∷ []) [] e →
      MeetsAt functions turns written v (flats (stmt.Row (row.Control (control.Call n arguments)) ∷ more) ++ lines) braces e
  pub returns_early : (w : Variables) (inner : List Brace) (more : List Stmt) (behind : List CodeLine) →
      w.callers ≡ frame_of v lines braces ∷ v.callers → MeetsAt functions turns written (returned v w) lines braces e →
      MeetsAt functions turns written w (flats (stmt.Row (row.Control control.Return) ∷ more) ++ behind) inner e
  pub returns_last : (w : Variables) (behind : List CodeLine) →
      w.callers ≡ frame_of v lines braces ∷ v.callers → MeetsAt functions turns written (returned v w) lines braces e →
      MeetsAt functions turns written w (code.Close ∷ behind) [] e
  -- the end of the program, and a fault at the line that was set
  pub stops : (more : List Stmt) →
      e.run ≡ Some (record { written = written; outcome = Finished (Comes Ended) }) → turns ≤ e.turns →
      MeetsAt functions turns written v (flats (stmt.Row (row.Control control.Stop) ∷ more) ++ lines) braces e
  pub faults : (kind : FaultKind) (more : List Stmt) →
      e.run ≡ Some (record { written = written; outcome = Finished (Comes (Faulted kind v.line)) }) → turns ≤ e.turns →
      MeetsAt functions turns written v (flats (stmt.Row (row.Control (control.Fault kind)) ∷ more) ++ lines) braces e
  pub ends_last : (behind : List CodeLine) → v.callers ≡ [] →
      e.run ≡ Some (record { written = written; outcome = Finished (Comes Ended) }) → turns ≤ e.turns →
      MeetsAt functions turns written v (code.Close ∷ behind) [] e

-- ---- loops

-- The points at which a round of a loop begins or the loop is left: the number that tells how many rounds came before or
-- are left, the variables there, the turns that were begun and all that was written before, and what is expected from there on.
-- A point may be any type: what is known at each is a part of it.
pub record Points (P : Type 0) : Type 0 where
  pub number : P → ℕ
  pub variables : P → Variables
  pub turns : P → ℕ
  pub written : P → List ℕ
  pub expected : P → Expected

-- from a point on, with these lines to come; and with variables w on the way to it
abbrev pub MeetsFrom : {P : Type 0} → List Function → Points P → P → Variables → List CodeLine → List Brace → Type 0
MeetsFrom functions points p w lines braces = MeetsAt functions (points.turns p) (points.written p) w lines braces
    (points.expected p)

-- from a point on, when the turn of its round was begun
abbrev pub MeetsInRound : {P : Type 0} → List Function → Points P → P → List CodeLine → List Brace → Type 0
MeetsInRound functions points p lines braces = MeetsAt functions (points.turns p + 1) (points.written p)
    (points.variables p) lines braces (points.expected p)

-- the lines from a loop's body on, where the loop stands before these lines
abbrev pub body_lines : List Stmt → List CodeLine → List CodeLine
body_lines body lines = flats body ++ code.Close ∷ lines

-- A loop over 0, 1, .., count - 1, whose bound is the count at each test. Points are numbered by the rounds before them.
-- A round goes to any next point, or where it leads otherwise: out of the loop by a break, out of the call, or to an end.
pub record UpwardRounds (P : Type 0) (points : Points P) (functions : List Function) (k : ℕ) (bound : Atom) (body : List Stmt)
    (count : ℕ) (lines : List CodeLine) (braces : List Brace) : Type 0 where
  pub bounded : (p : P) → number_at (points.variables p).indices k ≡ pos (points.number p) →
      value_of (points.variables p) bound ≡ pos count
  pub round : (p : P) → points.number p < count → number_at (points.variables p).indices k ≡ pos (points.number p) →
      ((q : P) (w : Variables) → points.number q ≡ points.number p + 1 → number_at w.indices k ≡ pos (points.number p) →
      points.variables q ≡ with_index w k (pos (points.number q)) →
      MeetsFrom functions points q w (code.Close ∷ lines) (Upward k bound (body_lines body lines) ∷ braces)) →
      MeetsInRound functions points p (body_lines body lines) (Upward k bound (body_lines body lines) ∷ braces)
  pub left : (p : P) → points.number p ≡ count → MeetsFrom functions points p (points.variables p) lines braces

abbrev pub UpwardLoop : (P : Type 0) → Type 0
UpwardLoop P = (points : Points P) (functions : List Function) (k : ℕ) (bound : Atom) (body more : List Stmt) (count : ℕ)
    (lines : List CodeLine) (braces : List Brace) →
    count < 2 ^ 63 → UpwardRounds P points functions k bound body count (flats more ++ lines) braces →
    (p : P) (v : Variables) → points.number p ≡ 0 → points.variables p ≡ with_index v k (pos 0) →
    MeetsFrom functions points p v (flats (stmt.ForUp k bound body ∷ more) ++ lines) braces

-- A loop over count - 1, .., 1, 0. Points are numbered by the rounds that are left; where none is, the variable is -1.
abbrev pub index_below : ℕ → ℤ
index_below zero = negsuc 0
index_below (suc j) = pos j

pub record DownwardRounds (P : Type 0) (points : Points P) (functions : List Function) (k : ℕ) (body : List Stmt) (count : ℕ)
    (lines : List CodeLine) (braces : List Brace) : Type 0 where
  pub round : (p : P) (j : ℕ) → j < count → points.number p ≡ j + 1 → number_at (points.variables p).indices k ≡ pos j →
      ((q : P) (w : Variables) → points.number q ≡ j → number_at w.indices k ≡ pos j →
      points.variables q ≡ with_index w k (index_below j) →
      MeetsFrom functions points q w (code.Close ∷ lines) (Downward k (body_lines body lines) ∷ braces)) →
      MeetsInRound functions points p (body_lines body lines) (Downward k (body_lines body lines) ∷ braces)
  pub left : (p : P) → points.number p ≡ 0 → MeetsFrom functions points p (points.variables p) lines braces

abbrev pub DownwardLoop : (P : Type 0) → Type 0
DownwardLoop P = (points : Points P) (functions : List Function) (k : ℕ) (bound : Atom) (body more : List Stmt) (count : ℕ)
    (lines : List CodeLine) (braces : List Brace) →
    count < 2 ^ 63 → DownwardRounds P points functions k body count (flats more ++ lines) braces →
    (p : P) (v : Variables) → value_of v bound ≡ pos count → points.number p ≡ count →
    points.variables p ≡ with_index v k (index_below count) →
    MeetsFrom functions points p v (flats (stmt.ForDown k bound body ∷ more) ++ lines) braces

-- A loop that only its body leaves. Points are numbered by anything that falls from round to round, as the turns that are
-- left: at a point from which no round may lead to another, the body comes to what is expected in another way.
pub record EndlessRounds (P : Type 0) (points : Points P) (functions : List Function) (body : List Stmt) (lines : List CodeLine)
    (braces : List Brace) : Type 0 where
  pub round : (p : P) →
      ((q : P) (w : Variables) → points.number q < points.number p → points.variables q ≡ w →
      MeetsFrom functions points q w (code.Close ∷ lines) (Forever (body_lines body lines) ∷ braces)) →
      MeetsInRound functions points p (body_lines body lines) (Forever (body_lines body lines) ∷ braces)

abbrev pub EndlessLoop : (P : Type 0) → Type 0
EndlessLoop P = (points : Points P) (functions : List Function) (body more : List Stmt) (lines : List CodeLine)
    (braces : List Brace) →
    EndlessRounds P points functions body (flats more ++ lines) braces →
    (p : P) → MeetsFrom functions points p (points.variables p) (flats (stmt.Forever body ∷ more) ++ lines) braces
