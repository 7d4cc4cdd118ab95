-- The run of a nest unit and the machine side by side: a step of the one, a row of the other, in front of what both still do.
use Rattle.std.proofs.Common.{◌≡◌, ℕ, suc, Bool, true, false, List, [], ◌∷◌, ◌++◌, Option, Some, None, refl, sym, ap, ◌∙◌, subst, arith}
use Rattle.std.specs.Prelude.{Result, Ok, Err}
use Rattle.a95_base.specs.declared.fault.FaultKind.{FaultKind}
use Rattle.a95_base.specs.Outcome.{Faulted, Finished}
use Rattle.a95_base.specs.Steps.{Ran, pure, stop, behind, ◌>>=◌, ◌>>◌}
use Rattle.a95_base.proofs.Steps.{assoc, left_unit, stop_ends, value_unread, instead}
use Rattle.array_meaning.specs.State as source
use Rattle.nest_tree.specs.State.{Memory, memory_of, NestState, cells_of, with_memory, changed_to, Halt, By, Stray, Step, found, given, sees, pick, changes, enter}
use Rattle.loop_tree.specs.declared.stuck.StuckState.{StuckState}
use Rattle.loop_tree.specs.declared.atom.Atom.{Atom}
use Rattle.loop_tree.specs.declared.row.Row.{Row}
use Rattle.loop_tree.specs.declared.tree.CodeLine.{CodeLine}
use Rattle.loop_tree.specs.declared.tree.CodeLine.TheVariants as code
use Rattle.loop_tree.specs.declared.tree.Stmt.{Stmt}
use Rattle.loop_tree.specs.declared.tree.Stmt.TheVariants as stmt
use Rattle.loop_tree.specs.declared.tree.Function.{Function}
use Rattle.loop_tree.specs.declared.row.ControlRow.TheVariants as control
use Rattle.loop_tree.specs.declared.row.Row.TheVariants as row
use Rattle.loop_tree.specs.Lines.{flats}
use Rattle.loop_tree.specs.State.{Brace, Choice, Comes}
use Rattle.loop_tree.specs.Values.{holds}
use Rattle.loop_laws.specs.At.{Variables, value_of}
use Rattle.loop_laws.specs.Rows.{Gives, Leaves}
use Rattle.loop_laws.proofs.Meets.{anything}
use Rattle.loop_laws.proofs.Statements.{both, gives_row, leaves_row, chooses, chooses_either, past_else, past_close, faults}
use Rattle.nest_emit.specs.Meets.{ending, Spot, spot, Does, DoesAt}
use Rattle.nest_emit.specs.Trees.{unless_fault}

-- ---- the meaning

pub told : {p : Spot} {r q : Ran Halt NestState (Unit {0})} → r ≡ q → Does p q → Does p r
told {p} {r} {q} e d = subst (λ (x : Ran Halt NestState (Unit {0})). Does p x) (sym e) d

pub regroup : {p : Spot} {A B : Type 0} (m : Step A) (f : A → Step B) (go : B → Step (Unit {0})) (x : NestState) →
    Does p ((m >>= (λ a. f a >>= go)) x) → Does p (((m >>= f) >>= go) x)
regroup m f go x d = told (assoc m f go x) d

pub regroup_next : {p : Spot} {A B : Type 0} (m : Step A) (k : Step B) (go : B → Step (Unit {0})) (x : NestState) →
    Does p ((m >>= (λ a. k >>= go)) x) → Does p (((m >> k) >>= go) x)
regroup_next m k go x d = told (instead (m >> k) (m >>= (λ a. k)) go x (value_unread m k x) ∙ assoc m (λ a. k) go x) d

pub strays : {p : Spot} (x : NestState) → Does p (record { came = Err Stray; after = x })
strays x = record { by = anything refl }

pub pured : {p : Spot} {A : Type 0} (a : A) (go : A → Step (Unit {0})) (x : NestState) → Does p (go a x) →
    Does p ((pure a >>= go) x)
pured a go x d = told (left_unit a go x) d

pub stopped : {p : Spot} {A : Type 0} (h : Halt) (go : A → Step (Unit {0})) (x : NestState) →
    Does p (record { came = Err h; after = x }) → Does p ((stop h >>= go) x)
unfolding stop
stopped h go x d = told (stop_ends h go x) d

pub looked : {p : Spot} {A : Type 0} (o : Option A) (go : A → Step (Unit {0})) (x : NestState) →
    ((a : A) → o ≡ Some a → Does p (go a x)) → Does p ((found o >>= go) x)
unfolding found ◌>>=◌ behind
looked None go x next = strays x
looked (Some a) go x next = next a refl

pub sees_it : {p : Spot} {A : Type 0} (f : Memory → Option A) (go : A → Step (Unit {0})) (x : NestState) →
    ((a : A) → f (memory_of x.cells) ≡ Some a → Does p (go a x)) → Does p ((sees cells_of f >>= go) x)
unfolding sees found ◌>>=◌
sees_it f go x next = looked (f (memory_of x.cells)) go x next

pub gave : {p : Spot} {A : Type 0} (line : ℕ) (r : Result A FaultKind) (go : A → Step (Unit {0})) (x : NestState) →
    ((a : A) → r ≡ Ok a → Does p (go a x)) →
    ((kind : FaultKind) → r ≡ Err kind → Does p (record { came = Err (By (source.Faults kind line)); after = x })) →
    Does p ((given line r >>= go) x)
unfolding given ◌>>=◌ behind
gave line (Ok a) go x next fault = next a refl
gave line (Err kind) go x next fault = fault kind refl

changed_by : {p : Spot} (o : Option Memory) (go : Unit {0} → Step (Unit {0})) (x : NestState) →
    ((m : Memory) → o ≡ Some m → Does p (go tt (with_memory x m))) →
    Does p (behind go (changed_to o x).came (changed_to o x).after)
unfolding behind
changed_by None go x next = strays x
changed_by (Some m) go x next = next m refl

pub changed : {p : Spot} (f : Memory → Option Memory) (go : Unit {0} → Step (Unit {0})) (x : NestState) →
    ((m : Memory) → f (memory_of x.cells) ≡ Some m → Does p (go tt (with_memory x m))) → Does p ((changes f >>= go) x)
unfolding changes ◌>>=◌
changed f go x next = changed_by (f (memory_of x.cells)) go x next

pub picked : {p : Spot} {A : Type 0} (b : Bool) (m k : Step A) (go : A → Step (Unit {0})) (x : NestState) →
    (b ≡ true → Does p ((m >>= go) x)) → (b ≡ false → Does p ((k >>= go) x)) → Does p ((pick b m k >>= go) x)
unfolding pick ◌>>=◌
picked true m k go x yes_part no_part = yes_part refl
picked false m k go x yes_part no_part = no_part refl

pub entered : {p : Spot} (go : Unit {0} → Step (Unit {0})) (x : NestState) →
    Does p (go tt (record x { entries = suc x.entries })) →
    Does p ((enter >>= go) x)
unfolding enter ◌>>=◌ behind
entered go x d = d

-- ---- the lines

pub parts : {functions : List Function} {limit turns : ℕ} {written : List ℕ} {v : Variables} {braces : List Brace}
    {r : Ran Halt NestState (Unit {0})} (first second : List Stmt) (lines : List CodeLine) →
    Does (spot functions limit turns written v (flats first ++ (flats second ++ lines)) braces) r →
    Does (spot functions limit turns written v (flats (first ++ second) ++ lines) braces) r
parts first second lines d = record { by = both first second lines d.by }

pub row_gives : {functions : List Function} {limit turns : ℕ} {written : List ℕ} {v : Variables} {braces : List Brace}
    {r : Ran Halt NestState (Unit {0})} {A : Type 0} {line : Row} {value : Variables → Result A StuckState}
    {change : Variables → A → Variables} {a : A} → Gives line value change → (more : List Stmt) (lines : List CodeLine) →
    value v ≡ Ok a →
    Does (spot functions limit turns written (change v a) (flats more ++ lines) braces) r →
    Does (spot functions limit turns written v (flats (stmt.Row line ∷ more) ++ lines) braces) r
row_gives is more lines value d = record { by = gives_row is more lines value d.by }

pub row_leaves : {functions : List Function} {limit turns : ℕ} {written : List ℕ} {v : Variables} {braces : List Brace}
    {r : Ran Halt NestState (Unit {0})} {line : Row} {change : Variables → Variables} → Leaves line change →
    (more : List Stmt) (lines : List CodeLine) →
    Does (spot functions limit turns written (change v) (flats more ++ lines) braces) r →
    Does (spot functions limit turns written v (flats (stmt.Row line ∷ more) ++ lines) braces) r
row_leaves is more lines d = record { by = leaves_row is more lines d.by }

-- a choice of two lists of statements, behind each of which the lines go on
pub either_does : {functions : List Function} {limit turns : ℕ} {written : List ℕ} {v : Variables} {braces : List Brace}
    {r : Ran Halt NestState (Unit {0})} (a : Atom) (body other more : List Stmt) (lines : List CodeLine) →
    (holds (value_of v a) ≡ true → Does (spot functions limit turns written v
    (flats body ++ code.Else ∷ (flats other ++ code.Close ∷ (flats more ++ lines))) (Choice ∷ braces)) r) →
    (holds (value_of v a) ≡ false → Does (spot functions limit turns written v
    (flats other ++ code.Close ∷ (flats more ++ lines)) (Choice ∷ braces)) r) →
    Does (spot functions limit turns written v (flats (stmt.IfElse a body other ∷ more) ++ lines) braces) r
either_does a body other more lines d e =
    record { by = chooses_either a body other more lines (λ h. (d h).by) (λ h. (e h).by) }

pub if_does : {functions : List Function} {limit turns : ℕ} {written : List ℕ} {v : Variables} {braces : List Brace}
    {r : Ran Halt NestState (Unit {0})} (a : Atom) (body more : List Stmt) (lines : List CodeLine) →
    (holds (value_of v a) ≡ true → Does (spot functions limit turns written v
    (flats body ++ code.Close ∷ (flats more ++ lines)) (Choice ∷ braces)) r) →
    (holds (value_of v a) ≡ false → Does (spot functions limit turns written v (flats more ++ lines) braces) r) →
    Does (spot functions limit turns written v (flats (stmt.If a body ∷ more) ++ lines) braces) r
if_does a body more lines d e = record { by = chooses a body more lines (λ h. (d h).by) (λ h. (e h).by) }

pub behind_else : {functions : List Function} {limit turns : ℕ} {written : List ℕ} {v : Variables} {braces : List Brace}
    {r : Ran Halt NestState (Unit {0})} (other : List Stmt) (lines : List CodeLine) →
    Does (spot functions limit turns written v lines braces) r →
    Does (spot functions limit turns written v (code.Else ∷ (flats other ++ code.Close ∷ lines)) (Choice ∷ braces)) r
behind_else other lines d = record { by = past_else other d.by }

pub behind_close : {functions : List Function} {limit turns : ℕ} {written : List ℕ} {v : Variables} {braces : List Brace}
    {r : Ran Halt NestState (Unit {0})} (lines : List CodeLine) →
    Does (spot functions limit turns written v lines braces) r →
    Does (spot functions limit turns written v (code.Close ∷ lines) (Choice ∷ braces)) r
behind_close lines d = record { by = past_close d.by }

-- ---- faults

fault_told : (limit line : ℕ) (kind : FaultKind) (x : NestState) (v : Variables) → v.line ≡ line →
    (ending limit (record { came = Err (By (source.Faults kind line)); after = x })).run
    ≡ Some (record { written = x.cells.plain.written; outcome = Finished (Comes (Faulted kind v.line)) })
fault_told limit line kind x v is = ap (λ (n : ℕ). Some (record {
  written = x.cells.plain.written;
  outcome = Finished (Comes (Faulted kind n));
})) (sym is)

pub faulted : {functions : List Function} {limit : ℕ} {v : Variables} {braces : List Brace} (line : ℕ) (kind : FaultKind)
    (x : NestState) (more : List Stmt) (lines : List CodeLine) → v.line ≡ line →
    DoesAt functions limit x v (flats (stmt.Row (row.Control (control.Fault kind)) ∷ more) ++ lines) braces
    (record { came = Err (By (source.Faults kind line)); after = x })
faulted {limit = limit} {v = v} line kind x more lines is =
    record { by = faults kind more lines (fault_told limit line kind x v is) (omega arith) }

-- a fault unless the atom holds
pub guard_does : {functions : List Function} {limit : ℕ} {v : Variables} {braces : List Brace} (line : ℕ) (kind : FaultKind)
    (x : NestState) (r : Ran Halt NestState (Unit {0})) (a : Atom) (more : List Stmt) (lines : List CodeLine) → v.line ≡ line →
    (holds (value_of v a) ≡ true → DoesAt functions limit x v (flats more ++ lines) braces r) →
    (holds (value_of v a) ≡ false → r ≡ record { came = Err (By (source.Faults kind line)); after = x }) →
    DoesAt functions limit x v (flats (unless_fault a kind ∷ more) ++ lines) braces r
guard_does line kind x r a more lines is d fault =
    either_does a [] (stmt.Row (row.Control (control.Fault kind)) ∷ []) more lines
    (λ h. behind_else (stmt.Row (row.Control (control.Fault kind)) ∷ []) (flats more ++ lines) (d h))
    (λ h. told (fault h) (faulted line kind x [] (code.Close ∷ (flats more ++ lines)) is))
