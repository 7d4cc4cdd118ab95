-- Statements in front of what the rest of a run comes to. The rounds of loops are gone through here, once.
use Rattle.std.proofs.Common.{◌≡◌, ℕ, zero, suc, ◌+◌, ◌<◌, ◌≤◌, ◌^◌, Bool, true, false, List, ◌∷◌, ◌++◌, Result, Ok, [], Some}
use Rattle.std.proofs.Common.{refl, ap, ◌∙◌, sym, subst, arith, pos, nat_lt, nat_le, if◌then◌else◌, ℤ}
use Rattle.std.specs.Prelude.{negsuc, ◌+ℤ◌, ◌-ℤ◌, int_lt, int_le}
use Rattle.std.specs.Int.{w64, int_wrap}
use Rattle.std.proofs.Math.IntN.{ -ℤ_one}
use Rattle.std.proofs.lemmas.Int.{int_wrap_fits}
use Rattle.std.proofs.lemmas.Bool.Decides.{nat_tests}
use Rattle.a95_base.specs.declared.fault.FaultKind.{FaultKind}
use Rattle.a95_base.specs.Outcome.{Ended, Faulted, Finished}
use Rattle.a95_base.specs.Record.{record_text}
use Rattle.loop_tree.specs.declared.stuck.StuckState.{StuckState}
use Rattle.loop_tree.specs.declared.atom.Atom.{Atom}
use Rattle.loop_tree.specs.declared.atom.Argument.{Argument}
use Rattle.loop_tree.specs.declared.row.ControlRow.TheVariants as control
use Rattle.loop_tree.specs.declared.row.RecordRow.TheVariants as record_row
use Rattle.loop_tree.specs.declared.row.Row.{Row}
use Rattle.loop_tree.specs.declared.row.Row.TheVariants as row
use Rattle.loop_tree.specs.declared.tree.CodeLine.{CodeLine}
use Rattle.loop_tree.specs.declared.tree.CodeLine.TheVariants as code
use Rattle.loop_tree.specs.declared.tree.Stmt.{Stmt}
use Rattle.loop_tree.specs.declared.tree.Stmt.TheVariants as stmt
use Rattle.loop_tree.specs.declared.tree.Function.{Function}
use Rattle.loop_tree.specs.Lines.{flats, lines_of}
use Rattle.loop_tree.specs.State.{Brace, Choice, Upward, Downward, Forever, State, Comes}
use Rattle.loop_tree.specs.Values.{number_at, holds}
use Rattle.a95_base.specs.Lists.{rest_of}
use Rattle.loop_tree.specs.Machine.{step, Place, quiet, turn}
use Rattle.loop_tree.specs.Run.{configuration}
use Rattle.loop_laws.specs.At.{Variables, frame_of, at, value_of, with_index, called, entered, returned}
use Rattle.loop_laws.specs.Rows.{Gives, Leaves, begins}
use Rattle.loop_laws.specs.Braces.{ClosesAt}
use Rattle.loop_laws.specs.Meets.{Expected, Meets}
use Rattle.loop_laws.specs.Statements.{MeetsAt, RowLaws, StatementLaws, Points, MeetsFrom, body_lines, UpwardRounds, UpwardLoop}
use Rattle.loop_laws.specs.Statements.{index_below, DownwardRounds, DownwardLoop, EndlessRounds, EndlessLoop}
use Rattle.loop_laws.proofs.Numbered.{with_at_same}
use Rattle.loop_laws.proofs.Braces.{split, first_row, first_if, first_if_else, first_up, first_down, first_forever, step_if}
use Rattle.loop_laws.proofs.Braces.{step_if_else, step_else, step_choice_end, step_up, step_up_end, step_down, step_down_end}
use Rattle.loop_laws.proofs.Braces.{step_forever, step_forever_end, step_break, step_continue, end_behind}
use Rattle.loop_laws.proofs.Rows.{step_write, step_call, step_return, step_last_brace, step_stop, step_fault}
use Rattle.loop_laws.proofs.Meets.{silent, turned, gives, writes, returns, ends, leaves}

-- other lines that are the same
pub with_lines : {functions : List Function} {turns : ℕ} {written : List ℕ} {v : Variables} {lines new : List CodeLine}
    {braces : List Brace} {e : Expected} → lines ≡ new →
    MeetsAt functions turns written v new braces e → MeetsAt functions turns written v lines braces e
with_lines {functions} {turns} {written} {v} {lines} {new} {braces} {e} is m =
    subst (λ (ls : List CodeLine). MeetsAt functions turns written v ls braces e) (sym is) m

pub both : {functions : List Function} {turns : ℕ} {written : List ℕ} {v : Variables} {braces : List Brace} {e : Expected}
    (first second : List Stmt) (lines : List CodeLine) →
    MeetsAt functions turns written v (flats first ++ (flats second ++ lines)) braces e →
    MeetsAt functions turns written v (flats (first ++ second) ++ lines) braces e
both a b lines m = with_lines (split a b lines) m

pub first : {functions : List Function} {turns : ℕ} {written : List ℕ} {v : Variables} {braces : List Brace} {e : Expected}
    (r : Row) (more : List Stmt) (lines : List CodeLine) →
    MeetsAt functions turns written v (code.Row r ∷ (flats more ++ lines)) braces e →
    MeetsAt functions turns written v (flats (stmt.Row r ∷ more) ++ lines) braces e
first r more lines m = with_lines (first_row r more lines) m

-- a row that gives a value, and one that leaves the variables so
pub gives_row : {A : Type 0} {functions : List Function} {turns : ℕ} {written : List ℕ} {v : Variables} {braces : List Brace}
    {e : Expected} {r : Row} {value : Variables → Result A StuckState} {change : Variables → A → Variables} {a : A} →
    Gives r value change → (more : List Stmt) (lines : List CodeLine) → value v ≡ Ok a →
    MeetsAt functions turns written (change v a) (flats more ++ lines) braces e →
    MeetsAt functions turns written v (flats (stmt.Row r ∷ more) ++ lines) braces e
gives_row {functions = functions} {v = v} {braces = braces} {r = r} is more lines read m =
    first r more lines (gives _ (is.by functions v (flats more ++ lines) braces) read m)

pub leaves_row : {functions : List Function} {turns : ℕ} {written : List ℕ} {v : Variables} {braces : List Brace} {e : Expected}
    {r : Row} {change : Variables → Variables} →
    Leaves r change → (more : List Stmt) (lines : List CodeLine) →
    MeetsAt functions turns written (change v) (flats more ++ lines) braces e →
    MeetsAt functions turns written v (flats (stmt.Row r ∷ more) ++ lines) braces e
leaves_row {functions = functions} {v = v} {braces = braces} {r = r} is more lines m =
    first r more lines (silent (is.by functions v (flats more ++ lines) braces) m)

pub row_laws : (A : Type 0) (functions : List Function) (turns : ℕ) (written : List ℕ) (v : Variables) (lines : List CodeLine)
    (braces : List Brace) (e : Expected) → RowLaws A functions turns written v lines braces e
row_laws A functions turns written v lines braces e = record {
  gives = λ r value change a is more read m. gives_row is more lines read m;
  leaves = λ r change is more m. leaves_row is more lines m;
}

-- ---- choice

-- either of two steps, neither of which begins a turn
either : {functions : List Function} {turns : ℕ} {written : List ℕ} {s yes_state no_state : State} {e : Expected} (b : Bool) →
    step functions s ≡ (if b then quiet yes_state else quiet no_state) →
    (b ≡ true → Meets functions (configuration turns written yes_state) e) →
    (b ≡ false → Meets functions (configuration turns written no_state) e) → Meets functions (configuration turns written s) e
either true is m n = silent is (m refl)
either false is m n = silent is (n refl)

pub chooses : {functions : List Function} {turns : ℕ} {written : List ℕ} {v : Variables} {braces : List Brace} {e : Expected}
    (test : Atom) (body more : List Stmt) (lines : List CodeLine) →
    (holds (value_of v test) ≡ true → MeetsAt functions turns written v (flats body ++ code.Close ∷ (flats more ++ lines))
    (Choice ∷ braces) e) →
    (holds (value_of v test) ≡ false → MeetsAt functions turns written v (flats more ++ lines) braces e) →
    MeetsAt functions turns written v (flats (stmt.If test body ∷ more) ++ lines) braces e
chooses {functions} {turns} {written} {v} {braces} {e} test body more lines m n =
    with_lines (first_if test body more lines) (either (holds (value_of v test))
    (step_if test body (flats more ++ lines) braces functions v) m n)

pub chooses_either : {functions : List Function} {turns : ℕ} {written : List ℕ} {v : Variables} {braces : List Brace}
    {e : Expected} (test : Atom) (body other more : List Stmt) (lines : List CodeLine) →
    (holds (value_of v test) ≡ true → MeetsAt functions turns written v
    (flats body ++ code.Else ∷ (flats other ++ code.Close ∷ (flats more ++ lines))) (Choice ∷ braces) e) →
    (holds (value_of v test) ≡ false → MeetsAt functions turns written v (flats other ++ code.Close ∷ (flats more ++ lines))
    (Choice ∷ braces) e) →
    MeetsAt functions turns written v (flats (stmt.IfElse test body other ∷ more) ++ lines) braces e
chooses_either {functions} {turns} {written} {v} {braces} {e} test body other more lines m n =
    with_lines (first_if_else test body other more lines)
    (either (holds (value_of v test)) (step_if_else test body
    (flats other ++ code.Close ∷ (flats more ++ lines)) braces functions v) m n)

pub past_else : {functions : List Function} {turns : ℕ} {written : List ℕ} {v : Variables} {lines : List CodeLine}
    {braces : List Brace} {e : Expected} (other : List Stmt) →
    MeetsAt functions turns written v lines braces e → MeetsAt functions turns written v
    (code.Else ∷ (flats other ++ code.Close ∷ lines)) (Choice ∷ braces) e
past_else {functions} {turns} {written} {v} {lines} {braces} other m = silent (step_else other lines braces functions v) m

pub past_close : {functions : List Function} {turns : ℕ} {written : List ℕ} {v : Variables} {lines : List CodeLine}
    {braces : List Brace} {e : Expected} →
    MeetsAt functions turns written v lines braces e → MeetsAt functions turns written v (code.Close ∷ lines) (Choice ∷ braces) e
past_close {functions} {turns} {written} {v} {lines} {braces} m = silent (step_choice_end lines braces functions v) m

-- ---- loops that have no round

pub skips_upward : {functions : List Function} {turns : ℕ} {written : List ℕ} {v : Variables} {braces : List Brace}
    {e : Expected} (k : ℕ) (bound : Atom) (body more : List Stmt) (lines : List CodeLine) →
    int_lt (pos 0) (value_of (with_index v k (pos 0)) bound) ≡ false →
    MeetsAt functions turns written (with_index v k (pos 0)) (flats more ++ lines) braces e →
    MeetsAt functions turns written v (flats (stmt.ForUp k bound body ∷ more) ++ lines) braces e
skips_upward {functions} {turns} {written} {v} {braces} {e} k bound body more lines none m =
    with_lines (first_up k bound body more lines)
    (silent (step_up k bound body (flats more ++ lines) braces functions v
    ∙ ap (λ (t : Bool). if t then turn
    (at (with_index v k (pos 0)) (body_lines body (flats more ++ lines))
    (Upward k bound (body_lines body (flats more ++ lines)) ∷ braces))
    else quiet (at (with_index v k (pos 0)) (flats more ++ lines) braces)) none) m)

pub skips_downward : {functions : List Function} {turns : ℕ} {written : List ℕ} {v : Variables} {braces : List Brace}
    {e : Expected} (k : ℕ) (bound : Atom) (body more : List Stmt) (lines : List CodeLine) (z : ℤ) →
    z ≡ int_wrap w64 (value_of v bound -ℤ pos 1) → int_le (pos 0) z ≡ false →
    MeetsAt functions turns written (with_index v k z) (flats more ++ lines) braces e →
    MeetsAt functions turns written v (flats (stmt.ForDown k bound body ∷ more) ++ lines) braces e
skips_downward {functions} {turns} {written} {v} {braces} {e} k bound body more lines z is none m =
    with_lines (first_down k bound body more lines)
    (silent (step_down k bound body (flats more ++ lines) braces functions v
    ∙ ap (λ (y : ℤ). if int_le (pos 0) y then turn
    (at (with_index v k y) (body_lines body (flats more ++ lines))
    (Downward k (body_lines body (flats more ++ lines)) ∷ braces))
    else quiet (at (with_index v k y) (flats more ++ lines) braces)) (sym is)
    ∙ ap (λ (t : Bool). if t then turn
    (at (with_index v k z) (body_lines body (flats more ++ lines))
    (Downward k (body_lines body (flats more ++ lines)) ∷ braces))
    else quiet (at (with_index v k z) (flats more ++ lines) braces)) none) m)

-- ---- break and continue

pub breaks : {functions : List Function} {turns : ℕ} {written : List ℕ} {v : Variables} {lines : List CodeLine}
    {braces : List Brace} {e : Expected} {place : Place} (more : List Stmt) →
    ClosesAt lines braces place → MeetsAt functions turns written v (rest_of place.lines) (rest_of place.braces) e →
    MeetsAt functions turns written v (flats (stmt.Row (row.Control control.Break) ∷ more) ++ lines) braces e
breaks {functions} {turns} {written} {v} {lines} {braces} {e} {place} more closes m =
    first (row.Control control.Break) more lines (silent
    (step_break (flats more ++ lines) braces place (end_behind more closes) functions v) m)

pub continues : {functions : List Function} {turns : ℕ} {written : List ℕ} {v : Variables} {lines : List CodeLine}
    {braces : List Brace} {e : Expected} {place : Place} (more : List Stmt) →
    ClosesAt lines braces place → MeetsAt functions turns written v place.lines place.braces e →
    MeetsAt functions turns written v (flats (stmt.Row (row.Control control.Continue) ∷ more) ++ lines) braces e
continues {functions} {turns} {written} {v} {lines} {braces} {e} {place} more closes m =
    first (row.Control control.Continue) more lines (silent
    (step_continue (flats more ++ lines) braces place (end_behind more closes) functions v) m)

-- ---- what is written, calls, and ends

pub writes_record : {functions : List Function} {turns : ℕ} {written : List ℕ} {v : Variables} {braces : List Brace} {e : Expected}
    (more : List Stmt) (lines : List CodeLine) →
    MeetsAt functions turns (written ++ (record_text v.pending ++ 10 ∷ [])) (record v { pending = [] })
    (flats more ++ lines) braces e →
    MeetsAt functions turns written v (flats (stmt.Row (row.Record record_row.Write) ∷ more) ++ lines) braces e
writes_record {functions} {turns} {written} {v} {braces} more lines m =
    first (row.Record record_row.Write) more lines (writes (step_write functions v (flats more ++ lines) braces) m)

pub calls : {functions : List Function} {turns : ℕ} {written : List ℕ} {v : Variables} {braces : List Brace} {e : Expected} (n : ℕ)
    (arguments : List Argument) (f : Function) (more : List Stmt) (lines : List CodeLine) →
    called functions v n arguments ≡ Ok f →
    MeetsAt functions (turns + 1) written (entered v (flats more ++ lines) braces arguments)
    (flats f.body ++ code.Close ∷ []) [] e →
    MeetsAt functions turns written v (flats (stmt.Row (row.Control (control.Call n arguments)) ∷ more) ++ lines) braces e
calls {functions} {turns} {written} {v} {braces} n arguments f more lines there m =
    first (row.Control (control.Call n arguments)) more lines
    (turned (step_call n arguments functions v (flats more ++ lines) braces
    ∙ ap (λ (r : Result Function StuckState). begins r
    (λ g. at (entered v (flats more ++ lines) braces arguments) (lines_of g) [])) there) m)

pub returns_early : {functions : List Function} {turns : ℕ} {written : List ℕ} {e : Expected} {inner : List Brace}
    (v w : Variables) (lines : List CodeLine) (braces : List Brace) (more : List Stmt) (behind : List CodeLine) →
    w.callers ≡ frame_of v lines braces ∷ v.callers → MeetsAt functions turns written (returned v w) lines braces e →
    MeetsAt functions turns written w (flats (stmt.Row (row.Control control.Return) ∷ more) ++ behind) inner e
returns_early {functions} {inner = inner} v w lines braces more behind callers m =
    first (row.Control control.Return) more behind (returns v w lines braces
    (step_return functions w (flats more ++ behind) inner) callers m)

pub returns_last : {functions : List Function} {turns : ℕ} {written : List ℕ} {e : Expected} (v w : Variables)
    (lines : List CodeLine) (braces : List Brace) (behind : List CodeLine) →
    w.callers ≡ frame_of v lines braces ∷ v.callers → MeetsAt functions turns written (returned v w) lines braces e →
    MeetsAt functions turns written w (code.Close ∷ behind) [] e
returns_last {functions} v w lines braces behind callers m =
    returns v w lines braces (step_last_brace functions w behind) callers m

pub stops : {functions : List Function} {turns : ℕ} {written : List ℕ} {v : Variables} {braces : List Brace} {e : Expected}
    (more : List Stmt) (lines : List CodeLine) →
    e.run ≡ Some (record { written = written; outcome = Finished (Comes Ended) }) → turns ≤ e.turns →
    MeetsAt functions turns written v (flats (stmt.Row (row.Control control.Stop) ∷ more) ++ lines) braces e
stops {functions} {turns} {written} {v} {braces} more lines is within =
    first (row.Control control.Stop) more lines (ends (step_stop functions v (flats more ++ lines) braces) is within)

pub faults : {functions : List Function} {turns : ℕ} {written : List ℕ} {v : Variables} {braces : List Brace} {e : Expected}
    (kind : FaultKind) (more : List Stmt) (lines : List CodeLine) →
    e.run ≡ Some (record { written = written; outcome = Finished (Comes (Faulted kind v.line)) }) → turns ≤ e.turns →
    MeetsAt functions turns written v (flats (stmt.Row (row.Control (control.Fault kind)) ∷ more) ++ lines) braces e
faults {functions} {turns} {written} {v} {braces} kind more lines is within =
    first (row.Control (control.Fault kind)) more lines (ends (step_fault kind functions v (flats more ++ lines) braces) is within)

pub ends_last : {functions : List Function} {turns : ℕ} {written : List ℕ} {v : Variables} {e : Expected}
    (behind : List CodeLine) → v.callers ≡ [] →
    e.run ≡ Some (record { written = written; outcome = Finished (Comes Ended) }) → turns ≤ e.turns →
    MeetsAt functions turns written v (code.Close ∷ behind) [] e
ends_last {functions} {v = v} behind callers is within = leaves v (step_last_brace functions v behind) callers is within

pub statement_laws : (functions : List Function) (turns : ℕ) (written : List ℕ) (v : Variables) (lines : List CodeLine)
    (braces : List Brace) (e : Expected) → StatementLaws functions turns written v lines braces e
statement_laws functions turns written v lines braces e = record {
  both = λ a b m. both a b lines m;
  first = λ r more m. first r more lines m;
  chooses = λ test body more m n. chooses test body more lines m n;
  chooses_either = λ test body other more m n. chooses_either test body other more lines m n;
  past_else = λ other m. past_else other m;
  past_close = λ m. past_close m;
  skips_upward = λ k bound body more none m. skips_upward k bound body more lines none m;
  skips_downward = λ k bound body more z is none m. skips_downward k bound body more lines z is none m;
  breaks = λ place more closes m. breaks more closes m;
  continues = λ place more closes m. continues more closes m;
  writes_record = λ more m. writes_record more lines m;
  calls = λ n arguments f more there m. calls n arguments f more lines there m;
  returns_early = λ w inner more behind callers m. returns_early v w lines braces more behind callers m;
  returns_last = λ w behind callers m. returns_last v w lines braces behind callers m;
  stops = λ more is within. stops more lines is within;
  faults = λ kind more is within. faults kind more lines is within;
  ends_last = λ behind callers is within. ends_last behind callers is within;
}

-- ---- loops

-- what a loop variable goes through
next_index : (i : ℕ) → i + 1 < 2 ^ 63 → int_wrap w64 (pos i +ℤ pos 1) ≡ pos (i + 1)
next_index i h = int_wrap_fits w64 (pos (i + 1)) (omega arith)

index_before : (j : ℕ) → j < 2 ^ 63 → int_wrap w64 (pos j -ℤ pos 1) ≡ index_below j
index_before zero h = int_wrap_fits w64 (negsuc 0) (omega arith)
index_before (suc j) h = ap (int_wrap w64) (-ℤ_one (pos (suc j))) ∙ int_wrap_fits w64 (pos j) (omega arith)

not_negative : (j : ℕ) → int_le (pos 0) (pos j) ≡ true
not_negative j = let h : nat_le 0 j ≡ true = grind (arith, nat_tests) in h

module _ {P : Type 0} (points : Points P) (functions : List Function) (k : ℕ) (bound : Atom) (body : List Stmt) (count : ℕ)
    (lines : List CodeLine) (braces : List Brace) where
  -- from the test of a round on, wherever it stands
  up_rounds : count < 2 ^ 63 → UpwardRounds P points functions k bound body count lines braces →
      (left : ℕ) (p : P) (v : Variables) → points.number p + left ≡ count → points.variables p ≡ v →
      number_at v.indices k ≡ pos (points.number p) → (s : State) →
      step functions s ≡ (if int_lt (pos (points.number p)) (value_of v bound)
      then turn (at v (body_lines body lines) (Upward k bound (body_lines body lines) ∷ braces))
      else quiet (at v lines braces)) →
      Meets functions (configuration (points.turns p) (points.written p) s) (points.expected p)
  up_rounds small r zero p v e is index s next =
      let now : number_at (points.variables p).indices k ≡ pos (points.number p) = ap (λ (x : Variables). number_at x.indices k) is
      ∙ index in
      let top : value_of v bound ≡ pos count = ap (λ (x : Variables). value_of x bound) (sym is) ∙ r.bounded p now in
      let over : nat_lt (points.number p) count ≡ false = grind (arith, nat_tests) in
      let none : int_lt (pos (points.number p)) (value_of v bound) ≡ false = ap (int_lt (pos (points.number p))) top ∙ over in
      silent (next ∙ rw none) (subst (λ (x : Variables). MeetsFrom functions points p x lines braces) is (r.left p (omega arith)))
  up_rounds small r (suc left) p v e is index s next =
      let now : number_at (points.variables p).indices k ≡ pos (points.number p) = ap (λ (x : Variables). number_at x.indices k) is
      ∙ index in
      let top : value_of v bound ≡ pos count = ap (λ (x : Variables). value_of x bound) (sym is) ∙ r.bounded p now in
      let within : points.number p < count = omega arith in
      let below : nat_lt (points.number p) count ≡ true = grind (arith, nat_tests) in
      let some : int_lt (pos (points.number p)) (value_of v bound) ≡ true = ap (int_lt (pos (points.number p))) top ∙ below in
      let small_number : points.number p + 1 < 2 ^ 63 = omega arith in
      turned (next ∙ rw some) (subst (λ (x : Variables). MeetsAt functions (points.turns p + 1) (points.written p) x
      (body_lines body lines) (Upward k bound (body_lines body lines) ∷ braces) (points.expected p)) is
      (r.round p within now (λ q w number there variables.
      let z = int_wrap w64 (number_at w.indices k +ℤ pos 1) in
      let one : z ≡ pos (points.number q) = ap (λ i. int_wrap w64 (i +ℤ pos 1)) there ∙ next_index (points.number p) small_number
      ∙ ap pos (sym number) in
      let same : with_index w k (pos (points.number q)) ≡ with_index w k z = ap (with_index w k) (sym one) in
      up_rounds small r left q (with_index w k z) (omega (arith, number)) (variables ∙ same)
      (with_at_same (pos 0) w.indices k z ∙ one) (at w (code.Close ∷ lines) (Upward k bound (body_lines body lines) ∷ braces))
      (step_up_end k bound (body_lines body lines) lines braces functions w
      ∙ ap (λ i. if int_lt i (value_of (with_index w k z) bound)
      then turn (at (with_index w k z) (body_lines body lines) (Upward k bound (body_lines body lines) ∷ braces))
      else quiet (at (with_index w k z) lines braces)) one))))

pub upward_loop : {P : Type 0} → UpwardLoop P
upward_loop points functions k bound body more count lines braces small r p v number variables =
    with_lines (first_up k bound body more lines)
    (up_rounds points functions k bound body count (flats more ++ lines) braces small r count p (with_index v k (pos 0))
    (omega (arith, number)) variables
    (with_at_same (pos 0) v.indices k (pos 0) ∙ ap pos (sym number))
    (at v (code.ForUp k bound ∷ (flats body ++ code.Close ∷ (flats more ++ lines))) braces)
    (step_up k bound body (flats more ++ lines) braces functions v
    ∙ ap (λ i. if int_lt (pos i) (value_of (with_index v k (pos 0)) bound)
    then turn (at (with_index v k (pos 0)) (body_lines body (flats more ++ lines))
    (Upward k bound (body_lines body (flats more ++ lines)) ∷ braces))
    else quiet (at (with_index v k (pos 0)) (flats more ++ lines) braces)) (sym number)))

module _ {P : Type 0} (points : Points P) (functions : List Function) (k : ℕ) (body : List Stmt) (count : ℕ)
    (lines : List CodeLine) (braces : List Brace) where
  down_rounds : count < 2 ^ 63 → DownwardRounds P points functions k body count lines braces → (left : ℕ) (p : P) (v : Variables) →
      points.number p ≡ left → left ≤ count → points.variables p ≡ v →
      number_at v.indices k ≡ index_below left → (s : State) →
      step functions s ≡ (if int_le (pos 0) (index_below left)
      then turn (at v (body_lines body lines) (Downward k (body_lines body lines) ∷ braces)) else quiet (at v lines braces)) →
      Meets functions (configuration (points.turns p) (points.written p) s) (points.expected p)
  down_rounds small r zero p v number within is index s next =
      silent next (subst (λ (x : Variables). MeetsFrom functions points p x lines braces) is (r.left p number))
  down_rounds small r (suc j) p v number within is index s next =
      let now : number_at (points.variables p).indices k ≡ pos j = ap (λ (x : Variables). number_at x.indices k) is ∙ index in
      let small_number : j < 2 ^ 63 = omega arith in
      turned (next ∙ rw (not_negative j)) (subst (λ (x : Variables). MeetsAt functions (points.turns p + 1) (points.written p) x
      (body_lines body lines) (Downward k (body_lines body lines) ∷ braces) (points.expected p)) is
      (r.round p j (omega arith) (omega (arith, number)) now (λ q w fewer there variables.
      let z = int_wrap w64 (number_at w.indices k -ℤ pos 1) in
      let one : z ≡ index_below j = ap (λ i. int_wrap w64 (i -ℤ pos 1)) there ∙ index_before j small_number in
      let same : with_index w k (index_below j) ≡ with_index w k z = ap (with_index w k) (sym one) in
      down_rounds small r j q (with_index w k z) fewer (omega arith) (variables ∙ same) (with_at_same (pos 0) w.indices k z ∙ one)
      (at w (code.Close ∷ lines) (Downward k (body_lines body lines) ∷ braces))
      (step_down_end k (body_lines body lines) lines braces functions w
      ∙ ap (λ i. if int_le (pos 0) i then turn (at (with_index w k z) (body_lines body lines)
      (Downward k (body_lines body lines) ∷ braces)) else quiet (at (with_index w k z) lines braces)) one))))

pub downward_loop : {P : Type 0} → DownwardLoop P
downward_loop points functions k bound body more count lines braces small r p v top number variables =
    let z = int_wrap w64 (value_of v bound -ℤ pos 1) in
    let one : z ≡ index_below count = ap (λ i. int_wrap w64 (i -ℤ pos 1)) top ∙ index_before count small in
    let same : with_index v k (index_below count) ≡ with_index v k z = ap (with_index v k) (sym one) in
    with_lines (first_down k bound body more lines)
    (down_rounds points functions k body count (flats more ++ lines) braces small r count p (with_index v k z) number (omega arith)
    (variables ∙ same)
    (with_at_same (pos 0) v.indices k z ∙ one) (at v (code.ForDown k bound ∷
    (flats body ++ code.Close ∷ (flats more ++ lines))) braces)
    (step_down k bound body (flats more ++ lines) braces functions v
    ∙ ap (λ i. if int_le (pos 0) i then turn (at (with_index v k z) (body_lines body (flats more ++ lines))
    (Downward k (body_lines body (flats more ++ lines)) ∷ braces))
    else quiet (at (with_index v k z) (flats more ++ lines) braces)) one))

module _ {P : Type 0} (points : Points P) (functions : List Function) (body : List Stmt) (lines : List CodeLine)
    (braces : List Brace) where
  endless_rounds : EndlessRounds P points functions body lines braces → (most : ℕ) (p : P) (v : Variables) →
      points.number p < most → points.variables p ≡ v → (s : State) →
      step functions s ≡ turn (at v (body_lines body lines) (Forever (body_lines body lines) ∷ braces)) →
      Meets functions (configuration (points.turns p) (points.written p) s) (points.expected p)
  endless_rounds r zero p v h is s next = absurd (omega arith)
  endless_rounds r (suc most) p v h is s next =
      turned next (subst (λ (x : Variables). MeetsAt functions (points.turns p + 1) (points.written p) x (body_lines body lines)
      (Forever (body_lines body lines) ∷ braces) (points.expected p)) is
      (r.round p (λ q w fewer variables.
      endless_rounds r most q w (omega arith) variables (at w (code.Close ∷ lines) (Forever (body_lines body lines) ∷ braces))
      (step_forever_end (body_lines body lines) lines braces functions w))))

pub endless_loop : {P : Type 0} → EndlessLoop P
endless_loop points functions body more lines braces r p =
    with_lines (first_forever body more lines)
    (endless_rounds points functions body (flats more ++ lines) braces r (suc (points.number p)) p (points.variables p)
    (omega arith) refl (at (points.variables p) (code.Forever ∷ (flats body ++ code.Close ∷ (flats more ++ lines))) braces)
    (step_forever (body_lines body (flats more ++ lines)) braces functions (points.variables p)))
