-- The lines of READ: an integer of the input, or its fault, and the rest of a record.
use Rattle.std.proofs.Common.{◌≡◌, ℕ, suc, ◌-◌, ◌+◌, ◌<◌, ◌≤◌, ◌^◌, Bool, true, false, not, ◌&&◌, ◌||◌, nat_le, nat_lt, nat_eq, List, [], ◌∷◌, ◌++◌, Option, Some, None, refl, sym, ap, ◌∙◌, subst, arith, ℤ, pos, length, if◌then◌else◌}
use Rattle.std.specs.Prelude.{Ok, Err, drop, neg_ℤ, FitsSigned, slice_get}
use Rattle.std.specs.Int.{w32}
use Rattle.std.specs.Ordering.{int_eq}
use Rattle.std.proofs.lemmas.Int.{ints}
use Rattle.std.proofs.lemmas.Bool.Decides.{nat_tests}
use Rattle.a95_base.specs.declared.fault.FaultKind.TheVariants as fault
use Rattle.a95_base.specs.Input.{Reading, Integer, NoMore, NoInteger, next_value, reading_at, reading_of, past_gap, word_of, is_number, number_of, negative_of, positive_of, integer_of as written_integer, record_length}
use Rattle.a95_base.specs.Integer.{wrapped}
use Rattle.a95_base.specs.Steps.{Ran, pure, stop, behind, ◌>>=◌, ◌>>◌}
use Rattle.a95_base.proofs.Wrapping.{wrapped_fits}
use Rattle.std.proofs.lemmas.Bool.{and_parts}
use Rattle.a95_base.proofs.Tests.{clash}
use Rattle.array_meaning.specs.Values.{truth_of}
use Rattle.array_meaning.specs.State as source
use Rattle.array_meaning.specs.InputOutput.{taken as taken_step, next_integer, skip_record}
use Rattle.array_meaning.specs.Control.{Flow, Next}
use Rattle.nest_tree.specs.declared.unit.Sort.{Sort}
use Rattle.nest_tree.specs.declared.unit.Sort.TheVariants as sort
use Rattle.nest_tree.specs.Plain.{Procedure, Take, Skip}
use Rattle.nest_tree.specs.State.{NestState, Memory, memory_of, with_memory, Halt, By, Step, within, changes, lifted, with_kept}
use Rattle.nest_tree.specs.Elements.{int}
use Rattle.nest_tree.specs.Statements.{Caller, take_acts, kept_truth}
use Rattle.nest_tree.specs.Sound.{Scope, is_sort, serves, served_by}
use Rattle.loop_tree.specs.declared.atom.Atom.{Atom}
use Rattle.loop_tree.specs.declared.atom.Atom.TheVariants as atom
use Rattle.loop_tree.specs.declared.atom.Operator.TheVariants as operator
use Rattle.loop_tree.specs.declared.row.IntValue.TheVariants as int_row
use Rattle.loop_tree.specs.declared.row.RecordRow.TheVariants as record_row
use Rattle.loop_tree.specs.declared.row.Row.TheVariants as row
use Rattle.loop_tree.specs.declared.tree.CodeLine.{CodeLine}
use Rattle.loop_tree.specs.declared.tree.Stmt.TheVariants as stmt
use Rattle.loop_tree.specs.declared.tree.Function.{Function}
use Rattle.loop_tree.specs.Lines.{flats}
use Rattle.loop_tree.specs.State.{Brace}
use Rattle.loop_tree.specs.Values.{number_at, text_at, truth, holds, int_value, look_of, taken, is_left}
use Rattle.loop_laws.specs.At.{Variables, value_of, int_read, with_int}
use Rattle.loop_laws.specs.Rows.{bytes_taken}
use Rattle.loop_laws.proofs.Numbered.{with_at_same}
use Rattle.loop_laws.proofs.Rows.{step_int, step_skip}
use Rattle.loop_laws.proofs.Within.{truth_holds}
use Rattle.nest_emit.specs.Numbers.{first_free, scalar_number}
use Rattle.nest_emit.specs.Trees.{set, compute, unless_fault}
use Rattle.nest_emit.specs.Statements.{at_line, take_lines, skip_lines}
use Rattle.nest_emit.specs.Meets.{DoesAt}
use Rattle.nest_emit.specs.Kin.{Shows, Around, Kin, Keeps, Stays}
use Rattle.nest_emit.proofs.Runs.{told, regroup, regroup_next, pured, sees_it, changed, row_gives, row_leaves, guard_does}
use Rattle.nest_emit.proofs.Values.{some_is, wide, truth_shown, scalar_below}
use Rattle.nest_emit.proofs.Acts.{line_does}
use Rattle.nest_emit.proofs.Binary.{or_rows, by_truths}
use Rattle.nest_emit.proofs.Rows.{is_unequal, set_does, compute_does}
use Rattle.nest_emit.proofs.Performs.{Performs, line_stays, stays_int}
use Rattle.nest_emit.proofs.Kin.{keeps_then, keeps_less, stays_then, stays_kept, kin_line, kin_kept, but_int}

-- ---- what is read is an INTEGER

few_below : (b : Bool) (n : ℕ) (z : ℤ) → (b && nat_le n (2 ^ 31)) ≡ true → neg_ℤ (pos n) ≡ z → FitsSigned w32 z
few_below true n z h e = let few : n ≤ 2147483648 = grind (arith, nat_tests, h) in by n z few e
  where
    by : (n : ℕ) (z : ℤ) → n ≤ 2147483648 → neg_ℤ (pos n) ≡ z → FitsSigned w32 z
    by n z few e' = omega (arith, ints, few, e')
few_below false n z h e = cc

few_above : (b : Bool) (n : ℕ) (z : ℤ) → (b && nat_lt n (2 ^ 31)) ≡ true → pos n ≡ z → FitsSigned w32 z
few_above true n z h e = let few : n < 2147483648 = grind (arith, nat_tests, h) in omega (arith, ints, few, e)
few_above false n z h e = cc

chosen_some : (b : Bool) (y z : ℤ) → (if b then Some y else None) ≡ Some z → (b ≡ true) × (y ≡ z)
chosen_some true y z h = (refl, some_is h)
chosen_some false y z h = cc

negative_fits : (digits : List ℕ) (z : ℤ) → negative_of digits ≡ Some z → FitsSigned w32 z
negative_fits digits z h =
    let two = chosen_some (is_number digits && nat_le (number_of digits) (2 ^ 31)) (neg_ℤ (pos (number_of digits))) z h in
    few_below (is_number digits) (number_of digits) z two.0 two.1

positive_fits : (digits : List ℕ) (z : ℤ) → positive_of digits ≡ Some z → FitsSigned w32 z
positive_fits digits z h =
    let two = chosen_some (is_number digits && nat_lt (number_of digits) (2 ^ 31)) (pos (number_of digits)) z h in
    few_above (is_number digits) (number_of digits) z two.0 two.1

of_either : (b : Bool) (o p : Option ℤ) (z : ℤ) → (o ≡ Some z → FitsSigned w32 z) → (p ≡ Some z → FitsSigned w32 z) →
    (if b then o else p) ≡ Some z → FitsSigned w32 z
of_either true o p z f g h = f h
of_either false o p z f g h = g h

word_fits : (word : List ℕ) (z : ℤ) → written_integer word ≡ Some z → FitsSigned w32 z
word_fits [] z h = cc
word_fits (c ∷ cs) z h = of_either (nat_eq c 45) (negative_of cs) (if nat_eq c 43 then positive_of cs else positive_of (c ∷ cs)) z
    (negative_fits cs z)
    (of_either (nat_eq c 43) (positive_of cs) (positive_of (c ∷ cs)) z (positive_fits cs z) (positive_fits (c ∷ cs) z)) h

reading_fits : (o : Option ℤ) (used : ℕ) (z : ℤ) (taken_bytes : ℕ) → reading_of o used ≡ Integer z taken_bytes → o ≡ Some z
reading_fits None used z taken_bytes h = cc
reading_fits (Some y) used z taken_bytes h = cc

at_fits : (before : ℕ) (text : List ℕ) (z : ℤ) (used : ℕ) → reading_at before text ≡ Integer z used → FitsSigned w32 z
at_fits before [] z used h = cc
at_fits before (c ∷ cs) z used h = word_fits (word_of (c ∷ cs)) z
    (reading_fits (written_integer (word_of (c ∷ cs))) (before + length (word_of (c ∷ cs))) z used h)

read_fits : (comma : Bool) (rest : List ℕ) (z : ℤ) (used : ℕ) → next_value comma rest ≡ Integer z used → wrapped z ≡ z
read_fits comma rest z used h =
    wrapped_fits z (at_fits (length rest - length (past_gap comma rest)) (past_gap comma rest) z used h)

-- ---- the steps of the run

abbrev with_input : NestState → List ℕ → NestState
with_input n input = record n { cells = record n.cells { plain = record n.cells.plain { input = input } } }

abbrev faulted_at : NestState → source.Halt → Ran Halt NestState (Unit {0})
faulted_at n halt = record { came = Err (By halt); after = n }

abbrev take_goes : ℕ → Reading → (ℤ → Step (Unit {0})) → NestState → Ran Halt NestState (Unit {0})
take_goes line (Integer z used) go n = go z (with_input n (drop used n.cells.plain.input))
take_goes line NoMore go n = faulted_at n (source.Faults fault.EndOfInput line)
take_goes line NoInteger go n = faulted_at n (source.Faults fault.BadInput line)

taken_from : (line : ℕ) (reading : Reading) (go : ℤ → Step (Unit {0})) (n : NestState) →
    behind go (lifted n (taken_step line reading n.cells.plain)).came (lifted n (taken_step line reading n.cells.plain)).after
    ≡ take_goes line reading go n
unfolding source.fault_at source.pass pure stop behind ◌>>=◌ ◌>>◌
taken_from line (Integer z used) go n = refl
taken_from line NoMore go n = refl
taken_from line NoInteger go n = refl

take_is : (line : ℕ) (b : Bool) (go : ℤ → Step (Unit {0})) (n : NestState) →
    (within (next_integer line b) >>= go) n ≡ take_goes line (next_value b n.cells.plain.input) go n
unfolding within source.unread source.fault_at source.pass pure stop behind ◌>>=◌ ◌>>◌
take_is line b go n = taken_from line (next_value b n.cells.plain.input) go n

abbrev skip_goes : ℕ → Bool → (Unit {0} → Step (Unit {0})) → NestState → Ran Halt NestState (Unit {0})
skip_goes line true go n = go tt (with_input n (drop (record_length n.cells.plain.input) n.cells.plain.input))
skip_goes line false go n = faulted_at n (source.Faults fault.EndOfInput line)

skipped_from : (line : ℕ) (b : Bool) (go : Unit {0} → Step (Unit {0})) (n : NestState) → (some : Bool) →
    (behind go (lifted n (((source.unless some fault.EndOfInput line >> source.pass (record_length n.cells.plain.input)))
    n.cells.plain)).came (lifted n ((source.unless some fault.EndOfInput line >> source.pass (record_length n.cells.plain.input))
    n.cells.plain)).after) ≡ skip_goes line some go n
unfolding source.unless source.pass pure stop behind ◌>>=◌ ◌>>◌
skipped_from line b go n true = refl
skipped_from line b go n false = refl

skip_is : (line : ℕ) (b : Bool) (go : Unit {0} → Step (Unit {0})) (n : NestState) →
    (within (skip_record line b) >>= go) n ≡ skip_goes line (b || not (nat_eq (length n.cells.plain.input) 0)) go n
unfolding within source.unread source.unless source.pass pure stop behind ◌>>=◌ ◌>>◌
skip_is line b go n = skipped_from line b go n (b || not (nat_eq (length n.cells.plain.input) 0))

-- ---- the rows

kin_input : {q : Procedure} {around : Around} {n : NestState} {v : Variables} (input : List ℕ) → Kin q around n v →
    Kin q around (with_input n input) (record v { input = input })
kin_input input k = record {
  scalars = k.scalars;
  arrays = record {
    many = k.arrays.many;
    plain = k.arrays.plain;
    seen = k.arrays.seen;
    whole = k.arrays.whole;
    fitted = k.arrays.fitted;
    grows = k.arrays.grows;
    apart = k.arrays.apart;
    below = k.arrays.below;
  };
  pending = k.pending;
  input = refl;
  callers = k.callers;
  few = k.few;
  budget = k.budget;
}

read_look : (v : Variables) (a : Atom) → int_read v (int_row.Look a) ≡ Ok (look_of (next_value (holds (value_of v a)) v.input))
unfolding int_value
read_look v a = refl

read_take : (v : Variables) (a : Atom) → int_read v (int_row.Take a) ≡ taken (next_value (holds (value_of v a)) v.input)
unfolding int_value
read_take v a = refl

read_more : (v : Variables) → int_read v int_row.More ≡ Ok (truth (is_left v.input))
unfolding int_value
read_more v = refl

left_is : (input : List ℕ) → is_left input ≡ not (nat_eq (length input) 0)
left_is [] = refl
left_is (c ∷ cs) = sym (some_left (length cs))
  where
    some_left : (n : ℕ) → not (nat_eq (suc n) 0) ≡ true
    some_left n = let other : nat_eq (suc n) 0 ≡ false = grind (arith, nat_tests) in ap not other

-- a scalar of the lowering that is a LOGICAL, and one that takes an INTEGER
log_there : (o : Option Sort) → is_sort o sort.Log ≡ true → o ≡ Some sort.Log
log_there None h = cc
log_there (Some sort.Exact) h = cc
log_there (Some sort.Int) h = cc
log_there (Some sort.Log) h = refl
log_there (Some sort.Text) h = cc

takes_int : (o : Option Sort) → served_by o (Some sort.Int) ≡ true → (s : Sort) × (o ≡ Some s) × (serves sort.Int s ≡ true)
takes_int None h = cc
takes_int (Some s) h = (s, refl, h)

int_shows : (s : Sort) → serves sort.Int s ≡ true → (z y : ℤ) (bytes : List ℕ) → wrapped z ≡ z → y ≡ z → Shows s y bytes (int z)
int_shows sort.Exact h z y bytes fits e = record { of = (refl, wide z fits); value = e }
int_shows sort.Int h z y bytes fits e = record { of = (refl, fits); value = e }
int_shows sort.Log h z y bytes fits e = cc
int_shows sort.Text h z y bytes fits e = cc

-- where the tests of a reading fail is its fault
end_told : (line : ℕ) (reading : Reading) (go : ℤ → Step (Unit {0})) (n : NestState) (y : ℤ) →
    y ≡ truth (not (int_eq (look_of reading) (pos 1))) → holds y ≡ false →
    take_goes line reading go n ≡ faulted_at n (source.Faults fault.EndOfInput line)
end_told line (Integer z used) go n y e h = absurd (clash (holds y) (ap holds e) h)
end_told line NoMore go n y e h = refl
end_told line NoInteger go n y e h = absurd (clash (holds y) (ap holds e) h)

bad_told : (line : ℕ) (reading : Reading) (go : ℤ → Step (Unit {0})) (n : NestState) (x y : ℤ) →
    x ≡ truth (not (int_eq (look_of reading) (pos 1))) → holds x ≡ true →
    y ≡ truth (not (int_eq (look_of reading) (pos 2))) → holds y ≡ false →
    take_goes line reading go n ≡ faulted_at n (source.Faults fault.BadInput line)
bad_told line (Integer z used) go n x y d g e h = absurd (clash (holds y) (ap holds e) h)
bad_told line NoMore go n x y d g e h = absurd (clash (holds x) g (ap holds d))
bad_told line NoInteger go n x y d g e h = refl

-- an integer was found
record Found (reading : Reading) : Type 0 where
  value : ℤ
  used : ℕ
  is : reading ≡ Integer value used

found_there : (reading : Reading) (x y : ℤ) → x ≡ truth (not (int_eq (look_of reading) (pos 1))) → holds x ≡ true →
    y ≡ truth (not (int_eq (look_of reading) (pos 2))) → holds y ≡ true → Found reading
found_there (Integer z used) x y d g e h = record { value = z; used = used; is = refl }
found_there NoMore x y d g e h = absurd (clash (holds x) g (ap holds d))
found_there NoInteger x y d g e h = absurd (clash (holds y) h (ap holds e))

module _ (functions : List Function) (limit : ℕ) (c : Scope) (nests : ℕ) (calls : Caller) (turn : List ℕ) (depth : Option ℕ)
    (line k read : ℕ) (s : Sort) (is : slice_get c.own.scalars k ≡ Some s) (serves_it : serves sort.Int s ≡ true)
    (log : slice_get c.own.scalars read ≡ Some sort.Log) where
  abbrev keeps_it : ℤ → Step (Unit {0})
  keeps_it z = changes (λ m. Some (with_kept m k (int z)))

  abbrev asked : Atom
  asked = atom.Int (scalar_number c.own read)

  -- an integer is taken, and kept
  took : (t : ℕ) → {around : Around} {n : NestState} {u : Variables} → Kin c.own around n u →
      (lines : List CodeLine) (braces : List Brace) (go : Flow → Step (Unit {0})) (b : Bool) → holds (value_of u asked) ≡ b →
      (z : ℤ) (used : ℕ) → next_value b n.cells.plain.input ≡ Integer z used →
      ((m : NestState) (v : Variables) → Kin c.own around m v → Stays c.own nests t u v →
      DoesAt functions limit m v lines braces (go Next m)) →
      DoesAt functions limit n u (flats (set (scalar_number c.own k) (int_row.Take asked) ∷ []) ++ lines) braces
      ((keeps_it z >>= (λ done. pure Next >>= go)) (with_input n (drop used n.cells.plain.input)))
  took t {around} {n} {u} kin lines braces go b asked_it z used found next =
      let number = scalar_number c.own k in
      let input = drop used n.cells.plain.input in
      let m = with_input n input in
      let reading : next_value (holds (value_of u asked)) u.input ≡ Integer z used =
      ap (λ e. next_value e u.input) asked_it ∙ ap (next_value b) kin.input ∙ found in
      let left : drop (bytes_taken (next_value (holds (value_of u asked)) u.input)) u.input ≡ input =
      ap (λ r. drop (bytes_taken r) u.input) reading ∙ ap (drop used) kin.input in
      row_gives (step_int number (int_row.Take asked)) [] lines (read_take u asked ∙ ap taken reading)
      (subst (λ (i : List ℕ). DoesAt functions limit n (with_int (record u { input = i }) number z) lines braces
      ((keeps_it z >>= (λ done. pure Next >>= go)) m)) (sym left)
      (changed (λ mem. Some (with_kept mem k (int z))) (λ done. pure Next >>= go) m (λ new e.
      subst (λ (nm : Memory). DoesAt functions limit n (with_int (record u { input = input }) number z) lines braces
      ((pure Next >>= go) (with_memory m nm))) (some_is e)
      (pured Next go (with_memory m (with_kept (memory_of m.cells) k (int z)))
      (next (with_memory m (with_kept (memory_of m.cells) k (int z))) (with_int (record u { input = input }) number z)
      (kin_kept k s (int z) is (but_int c.own k (record u { input = input }) z)
      (int_shows s serves_it z (number_at (with_int (record u { input = input }) number z).ints number)
      (text_at u.texts number) (read_fits b n.cells.plain.input z used found) (with_at_same (pos 0) u.ints number z))
      (kin_input input kin))
      (let stay = stays_int c.own nests t u k s is z in record { ints = stay.ints; indices = stay.indices }))))))

  looked_for : (t : ℕ) → first_free c.own ≤ t → {around : Around} {n : NestState} {u : Variables} → Kin c.own around n u →
      u.line ≡ line → (lines : List CodeLine) (braces : List Brace) (go : Flow → Step (Unit {0})) (b : Bool) →
      holds (value_of u asked) ≡ b →
      ((m : NestState) (v : Variables) → Kin c.own around m v → Stays c.own nests t u v →
      DoesAt functions limit m v lines braces (go Next m)) →
      DoesAt functions limit n u (flats (take_lines t (scalar_number c.own k) asked) ++ lines) braces
      (take_goes line (next_value b n.cells.plain.input) (λ z. keeps_it z >>= (λ done. pure Next >>= go)) n)
  looked_for t free {around} {n} {u} kin at lines braces go b asked_it next =
      let test = suc t in
      let reading = next_value b n.cells.plain.input in
      let more = λ (z : ℤ). keeps_it z >>= (λ done. pure Next >>= go) in
      let last = set (scalar_number c.own k) (int_row.Take asked) ∷ [] in
      let bad = unless_fault (atom.Int test) fault.BadInput ∷ last in
      let second = compute test (atom.Int t) operator.NotEqual (atom.Number (pos 2)) ∷ bad in
      let ended = unless_fault (atom.Int test) fault.EndOfInput ∷ second in
      let first = compute test (atom.Int t) operator.NotEqual (atom.Number (pos 1)) ∷ ended in
      let result = take_goes line reading more n in
      let further : first_free c.own ≤ test = omega (arith, free) in
      let below : scalar_number c.own read < t = let within = scalar_below c.own read sort.Log log in omega (arith, within, free) in
      set_does t u first lines free kin (int_row.Look asked) (look_of reading) refl
      (read_look u asked ∙ ap (λ e. Ok (look_of (next_value e u.input))) asked_it
      ∙ ap (λ i. Ok (look_of (next_value b i))) kin.input) (λ v k1 keep1 is1.
      compute_does test v ended lines further k1 (atom.Int t) operator.NotEqual (atom.Number (pos 1)) _
      (is_unequal (number_at v.ints t) (pos 1)) (λ v2 k2 keep2 is2.
      let one : number_at v2.ints test ≡ truth (not (int_eq (look_of reading) (pos 1))) =
      is2 ∙ ap (λ z. truth (not (int_eq z (pos 1)))) is1 in
      guard_does line fault.EndOfInput n result (atom.Int test) second lines (keep2.line ∙ keep1.line ∙ at)
      (λ h. compute_does test v2 bad lines further k2 (atom.Int t) operator.NotEqual (atom.Number (pos 2)) _
      (is_unequal (number_at v2.ints t) (pos 2)) (λ v3 k3 keep3 is3.
      let two : number_at v3.ints test ≡ truth (not (int_eq (look_of reading) (pos 2))) =
      is3 ∙ ap (λ z. truth (not (int_eq z (pos 2)))) (keep2.ints t (omega arith) ∙ is1) in
      let kept : Keeps t u v3 = keeps_then keep1 (keeps_then (keeps_less (omega arith) keep2) (keeps_less (omega arith) keep3)) in
      guard_does line fault.BadInput n result (atom.Int test) last lines (kept.line ∙ at)
      (λ h'. let f = found_there reading (number_at v2.ints test) (number_at v3.ints test) one h two h' in
      told (ap (λ r. take_goes line r more n) f.is)
      (took t k3 lines braces go b (ap holds (kept.ints (scalar_number c.own read) below) ∙ asked_it) f.value f.used f.is
      (λ m w k4 stay. next m w k4 (stays_then (stays_kept kept) stay))))
      (λ h'. bad_told line reading more n (number_at v2.ints test) (number_at v3.ints test) one h two h')))
      (λ h. end_told line reading more n (number_at v2.ints test) one h)))

  take_does : Performs functions limit c nests calls turn depth (Take line k read)
  take_does = record {
    does = λ t free {around} {n} {w} enough kin turned {lines} {braces} go out next.
        let u = record w { line = line } in
        let kin' = kin_line line kin in
        let last = λ (done : Unit {0}). pure Next >>= go in
        let b = truth_of (n.cells.temps.setting.kept read) in
        let asked_it : holds (value_of u asked) ≡ b = ap holds (truth_shown (kin'.scalars read sort.Log log)) ∙ truth_holds b in
        let rest = λ (b' : Bool). within (next_integer line b') >>= keeps_it in
        regroup_next (take_acts c.unit.constants calls line k read) (pure Next) go n
        (regroup (kept_truth c.unit.constants calls read) rest last n
        (sees_it (λ m. Some (truth_of (m.temps.setting.kept read))) (λ b'. rest b' >>= last) n (λ b' e.
        subst (λ x. DoesAt functions limit n w (flats (at_line line ∷ take_lines t (scalar_number c.own k) asked) ++ lines) braces
        ((rest x >>= last) n)) (some_is e)
        (regroup (within (next_integer line b)) keeps_it last n
        (told (take_is line b (λ z. keeps_it z >>= last) n)
        (line_does line (take_lines t (scalar_number c.own k) asked) lines
        (looked_for t free kin' refl lines braces go b asked_it (λ m v kin'' stay. next m v kin'' (line_stays line stay)))))))));
  }

module _ (functions : List Function) (limit : ℕ) (c : Scope) (nests : ℕ) (calls : Caller) (turn : List ℕ) (depth : Option ℕ) where
  pub take_law : (line k read : ℕ) →
      (served_by (slice_get c.own.scalars k) (Some sort.Int) && is_sort (slice_get c.own.scalars read) sort.Log) ≡ true →
      Performs functions limit c nests calls turn depth (Take line k read)
  take_law line k read fits =
      let two = and_parts (served_by (slice_get c.own.scalars k) (Some sort.Int)) (is_sort (slice_get c.own.scalars read) sort.Log)
      fits in
      let s = takes_int (slice_get c.own.scalars k) two.0 in
      take_does functions limit c nests calls turn depth line k read s.0 s.1 s.2 (log_there (slice_get c.own.scalars read) two.1)

  pub skip_law : (line read : ℕ) → is_sort (slice_get c.own.scalars read) sort.Log ≡ true →
      Performs functions limit c nests calls turn depth (Skip line read)
  skip_law line read fits = record {
    does = λ t free {around} {n} {w} enough kin turned {lines} {braces} go out next.
        let log = log_there (slice_get c.own.scalars read) fits in
        let u = record w { line = line } in
        let kin' = kin_line line kin in
        let a = atom.Int (scalar_number c.own read) in
        let b = truth_of (n.cells.temps.setting.kept read) in
        let below : scalar_number c.own read < t = let within = scalar_below c.own read sort.Log log in omega (arith, within, free) in
        let some = is_left n.cells.plain.input in
        let after = drop (record_length n.cells.plain.input) n.cells.plain.input in
        let last = stmt.Row (row.Record record_row.Skip) ∷ [] in
        let test = unless_fault (atom.Int t) fault.EndOfInput ∷ last in
        let rest = λ (b' : Bool). within (skip_record line b') >> pure Next in
        let more = λ (done : Unit {0}). pure Next >>= go in
        regroup (kept_truth c.unit.constants calls read) rest go n
        (sees_it (λ m. Some (truth_of (m.temps.setting.kept read))) (λ b'. rest b' >>= go) n (λ b' e.
        subst (λ x. DoesAt functions limit n w (flats (at_line line ∷ skip_lines t a) ++ lines) braces
        ((rest x >>= go) n)) (some_is e)
        (regroup_next (within (skip_record line b)) (pure Next) go n
        (told (skip_is line b more n ∙ ap (λ x. skip_goes line (b || x) more n) (sym (left_is n.cells.plain.input)))
        (line_does line (skip_lines t a) lines
        (set_does t u (compute t a operator.Or (atom.Int t) ∷ test) lines free kin' int_row.More (truth (is_left u.input)) refl
        (read_more u) (λ v k1 keep1 is1.
        compute_does t v test lines free k1 a operator.Or (atom.Int t) (truth (b || some))
        (by_truths operator.Or (value_of v a) (number_at v.ints t) b some (b || some)
        (keep1.ints (scalar_number c.own read) below ∙ truth_shown (kin'.scalars read sort.Log log))
        (is1 ∙ ap (λ i. truth (is_left i)) kin'.input) (or_rows b some)) (λ v2 k2 keep2 is2.
        let known : (e : Bool) → holds (number_at v2.ints t) ≡ e → (b || some) ≡ e =
        λ e' h. sym (truth_holds (b || some)) ∙ ap holds (sym is2) ∙ h in
        guard_does line fault.EndOfInput n (skip_goes line (b || some) more n) (atom.Int t) last lines (keep2.line ∙ keep1.line)
        (λ h. told (ap (λ x. skip_goes line x more n) (known true h))
        (row_leaves step_skip [] lines
        (subst (λ (i : List ℕ). DoesAt functions limit n (record v2 { input = drop (record_length i) i }) lines braces
        (more tt (with_input n after))) (sym k2.input)
        (pured Next go (with_input n after)
        (next (with_input n after) (record v2 { input = after }) (kin_input after k2)
        (let stay : Stays c.own nests t u v2 = stays_kept (keeps_then keep1 keep2) in
        record { ints = stay.ints; indices = stay.indices }))))))
        (λ h. ap (λ x. skip_goes line x more n) (known false h))))))))));
  }
