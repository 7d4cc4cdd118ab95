-- The lines of single statements do what the statements do.
use Rattle.std.proofs.Common.{◌≡◌, ◌≢◌, ℕ, zero, suc, ◌*◌, ◌<◌, ◌≤◌, true, ◌||◌, List, [], ◌∷◌, ◌++◌, Some, refl, sym, ap, ◌∙◌, subst, arith, ℤ, pos, Option}
use Rattle.std.specs.Prelude.{slice_get}
use Rattle.a95_base.specs.declared.scalar.Scalar.{Scalar}
use Rattle.a95_base.specs.declared.scalar.Scalar.TheVariants as scalar
use Rattle.a95_base.specs.Integer.{wrapped}
use Rattle.a95_base.specs.Steps.{Ran, ◌>>=◌}
use Rattle.array_meaning.specs.Values.{truth_of}
use Rattle.array_meaning.specs.Control.{Flow, Next}
use Rattle.nest_tree.specs.declared.unit.Sort.{Sort}
use Rattle.nest_tree.specs.declared.unit.Sort.TheVariants as sort
use Rattle.nest_tree.specs.Plain.{Tree, Procedure, Statement, Statements}
use Rattle.nest_tree.specs.State.{NestState, memory_of, with_memory, Halt, Step, with_kept}
use Rattle.nest_tree.specs.Statements.{Caller, value, acts, all_act}
use Rattle.nest_tree.specs.Sound.{Scope, some_serves, gives, has_rank}
use Rattle.nest_tree.specs.declared.access.Name.{Name}
use Rattle.loop_tree.specs.declared.atom.Atom.{Atom}
use Rattle.loop_tree.specs.declared.atom.TextAtom.{TextAtom}
use Rattle.loop_tree.specs.declared.row.IntValue.TheVariants as int_row
use Rattle.loop_tree.specs.declared.row.TextValue.TheVariants as words
use Rattle.loop_tree.specs.declared.tree.CodeLine.{CodeLine}
use Rattle.loop_tree.specs.declared.tree.Stmt.{Stmt}
use Rattle.loop_tree.specs.declared.tree.Function.{Function}
use Rattle.loop_tree.specs.Lines.{flats}
use Rattle.loop_tree.specs.State.{Brace}
use Rattle.loop_tree.specs.Values.{holds}
use Rattle.loop_laws.specs.At.{Variables, value_of, bytes_of, with_int, with_text}
use Rattle.loop_laws.proofs.Numbered.{with_at_same, with_at_other}
use Rattle.loop_laws.proofs.Rows.{step_int, step_text, step_put_int, step_put_log, step_put_text}
use Rattle.loop_laws.proofs.Within.{truth_holds}
use Rattle.nest_emit.specs.Numbers.{first_free, scalar_number, loop_number}
use Rattle.nest_emit.specs.Trees.{keep, atom_of, words_of, tree_lines}
use Rattle.nest_emit.specs.Statements.{at_line, put, lines_of, all_lines}
use Rattle.nest_emit.specs.Emits.{emits_tree}
use Rattle.nest_emit.specs.Meets.{DoesAt}
use Rattle.nest_emit.specs.Kin.{Shows, Around, Kin, AtTurn, Stays}
use Rattle.nest_emit.proofs.Runs.{parts, row_gives, row_leaves}
use Rattle.nest_emit.proofs.Values.{truth_shown, int_shown, text_shown, scalar_below}
use Rattle.nest_emit.proofs.Rows.{read_atom, read_words}
use Rattle.nest_emit.proofs.Evaluates.{gives_served}
use Rattle.nest_emit.proofs.Trees.{tree_does}
use Rattle.nest_emit.proofs.Acts.{line_does}
use Rattle.nest_emit.proofs.Leaving.{Out}
use Rattle.nest_emit.proofs.Kin.{turn_kept, stays_kept, kin_line, kin_kept, kin_pending, but_int, but_text}

-- ---- what a law of statements says

-- Before its lines the machine does what the statement does with what goes on behind it, if behind the lines it does what goes on.
pub record Performs (functions : List Function) (limit : ℕ) (c : Scope) (nests : ℕ) (calls : Caller) (turn : List ℕ)
    (depth : Option ℕ) (s : Statement) : Type 0 where
  pub does : (t : ℕ) → first_free c.own ≤ t → {around : Around} {n : NestState} {w : Variables} → limit ≤ around.limit →
      Kin c.own around n w → AtTurn nests c.loops turn w → {lines : List CodeLine} {braces : List Brace} →
      (go : Flow → Step (Unit {0})) →
      Out depth functions limit c around nests t w lines braces go →
      ((m : NestState) (u : Variables) → Kin c.own around m u → Stays c.own nests t w u →
      DoesAt functions limit m u lines braces (go Next m)) →
      DoesAt functions limit n w (flats (lines_of c nests t s) ++ lines) braces ((acts c.unit.constants calls turn s >>= go) n)

pub record PerformsAll (functions : List Function) (limit : ℕ) (c : Scope) (nests : ℕ) (calls : Caller) (turn : List ℕ)
    (depth : Option ℕ) (body : Statements) : Type 0 where
  pub does : (t : ℕ) → first_free c.own ≤ t → {around : Around} {n : NestState} {w : Variables} → limit ≤ around.limit →
      Kin c.own around n w → AtTurn nests c.loops turn w → {lines : List CodeLine} {braces : List Brace} →
      (go : Flow → Step (Unit {0})) →
      Out depth functions limit c around nests t w lines braces go →
      ((m : NestState) (u : Variables) → Kin c.own around m u → Stays c.own nests t w u →
      DoesAt functions limit m u lines braces (go Next m)) →
      DoesAt functions limit n w (flats (all_lines c nests t body) ++ lines) braces
      ((all_act c.unit.constants calls turn body >>= go) n)

-- where a statement stands: in a nest of at most seven loops, or in none, and where no array has more dimensions
pub record Placed (c : Scope) (nests : ℕ) : Type 0 where
  pub few : c.loops ≤ 7
  pub nested : c.loops ≤ 7 * nests
  pub ranks : (n : Name) (rank : ℕ) → has_rank c.own n rank ≡ true → rank ≤ 7

loop_of_nest : (nests loops loop : ℕ) → loops ≤ 7 → loops ≤ 7 * nests → 1 ≤ loop → loop ≤ loops →
    loop_number nests loop < 16 * nests
loop_of_nest zero loops loop few nested first last = absurd (omega (arith, nested, first, last))
loop_of_nest (suc nests) loops loop few nested first last = omega (arith, few, first, last)

pub turn_stays : {c : Scope} {nests t : ℕ} {turn : List ℕ} {v w : Variables} → Placed c nests → Stays c.own nests t v w →
    AtTurn nests c.loops turn v → AtTurn nests c.loops turn w
turn_stays {c} {nests} placed stays a = record {
  small = a.small;
  each = λ loop first last. stays.indices (loop_number nests loop)
      (loop_of_nest nests c.loops loop placed.few placed.nested first last)
      ∙ a.each loop first last;
}

pub line_stays : {q : Procedure} {nests t : ℕ} {v w : Variables} (line : ℕ) → Stays q nests t (record v { line = line }) w →
    Stays q nests t v w
line_stays line s = record { ints = s.ints; indices = s.indices }

pub turn_at_line : {nests loops : ℕ} {turn : List ℕ} {v : Variables} (line : ℕ) → AtTurn nests loops turn v →
    AtTurn nests loops turn (record v { line = line })
turn_at_line line a = record { small = a.small; each = a.each }

-- ---- a value, at the line of its statement

module _ (functions : List Function) (limit : ℕ) (c : Scope) (nests : ℕ) (calls : Caller) (turn : List ℕ) where
  abbrev pub evaluated : ℕ → Tree → Step Scalar
  evaluated line x = value c.unit.constants calls line turn x

  -- the lines of a tree, its line in front of them
  pub value_does : (line : ℕ) (x : Tree) → emits_tree x ≡ true → (asked : Sort) → gives c x asked ≡ true →
      (t : ℕ) → first_free c.own ≤ t →
      {around : Around} {n : NestState} {w : Variables} → Kin c.own around n w → AtTurn nests c.loops turn w →
      (more : List Stmt) (lines : List CodeLine) {braces : List Brace} (go : Scalar → Step (Unit {0})) →
      ((m : NestState) (u : Variables) (z : Scalar) → Kin c.own around m u → Stays c.own nests t w u → u.line ≡ line →
      AtTurn nests c.loops turn u →
      Shows asked (value_of u (atom_of c nests t x)) (bytes_of u (words_of c nests t x)) z →
      DoesAt functions limit m u (flats more ++ lines) braces (go z m)) →
      DoesAt functions limit n w (flats (at_line line ∷ (tree_lines c nests t x ++ more)) ++ lines) braces
      ((evaluated line x >>= go) n)
  value_does line x emits asked fits t free {around} {n} {w} kin turned more lines {braces} go next =
      line_does line (tree_lines c nests t x ++ more) lines (parts (tree_lines c nests t x) more lines
      (gives_served (tree_does functions limit c nests calls line turn x emits) asked fits t free (kin_line line kin)
      (turn_at_line line turned) refl
      go (λ m u z k keep sh. next m u z k (line_stays line (stays_kept keep)) keep.line (turn_kept keep.indices turned) sh)))

-- ---- a value by its sort

pub stays_int : (q : Procedure) (nests t : ℕ) (w : Variables) (k : ℕ) (s : Sort) → slice_get q.scalars k ≡ Some s → (z : ℤ) →
    Stays q nests t w (with_int w (scalar_number q k) z)
stays_int q nests t w k s is z = record {
  ints = λ x below free. let within = scalar_below q k s is in
      let ne : scalar_number q k ≢ x = omega (arith, within, free) in with_at_other (pos 0) w.ints (scalar_number q k) x z ne;
  indices = λ x h. refl;
}

module _ {functions : List Function} {limit : ℕ} {q : Procedure} {around : Around} {n : NestState} {w : Variables}
    {braces : List Brace}
    {r : Ran Halt NestState (Unit {0})} (nests t : ℕ) (lines : List CodeLine) (kin : Kin q around n w) where
  -- a scalar of the lowering takes a value
  pub keep_does : (k : ℕ) (s : Sort) → slice_get q.scalars k ≡ Some s → (a : Atom) (d : TextAtom) (x : Scalar) →
      Shows s (value_of w a) (bytes_of w d) x →
      ((u : Variables) → Kin q around (with_memory n (with_kept (memory_of n.cells) k x)) u → Stays q nests t w u →
      DoesAt functions limit n u lines braces r) →
      DoesAt functions limit n w (flats (keep (Some s) (scalar_number q k) a d ∷ []) ++ lines) braces r
  keep_does k sort.Exact is a d x sh next =
      let z = value_of w a in
      row_gives (step_int (scalar_number q k) (int_row.Atom a)) [] lines (read_atom w a)
      (next (with_int w (scalar_number q k) z) (kin_kept k sort.Exact x is (but_int q k w z)
      (record { of = sh.of; value = with_at_same (pos 0) w.ints (scalar_number q k) z ∙ sh.value }) kin)
      (stays_int q nests t w k sort.Exact is z))
  keep_does k sort.Int is a d x sh next =
      let z = value_of w a in
      row_gives (step_int (scalar_number q k) (int_row.Atom a)) [] lines (read_atom w a)
      (next (with_int w (scalar_number q k) z) (kin_kept k sort.Int x is (but_int q k w z)
      (record { of = sh.of; value = with_at_same (pos 0) w.ints (scalar_number q k) z ∙ sh.value }) kin)
      (stays_int q nests t w k sort.Int is z))
  keep_does k sort.Log is a d x sh next =
      let z = value_of w a in
      row_gives (step_int (scalar_number q k) (int_row.Atom a)) [] lines (read_atom w a)
      (next (with_int w (scalar_number q k) z) (kin_kept k sort.Log x is (but_int q k w z)
      (record { of = sh.of; value = with_at_same (pos 0) w.ints (scalar_number q k) z ∙ sh.value }) kin)
      (stays_int q nests t w k sort.Log is z))
  keep_does k sort.Text is a d x sh next =
      let bytes = bytes_of w d in
      row_gives (step_text (scalar_number q k) (words.Atom d)) [] lines (read_words w d)
      (next (with_text w (scalar_number q k) bytes) (kin_kept k sort.Text x is (but_text q k w bytes)
      (record { of = sh.of; value = with_at_same [] w.texts (scalar_number q k) bytes ∙ sh.value }) kin)
      (record { ints = λ y h g. refl; indices = λ y h. refl }))

  -- a value joins the record
  pub put_does : (s : Sort) (a : Atom) (d : TextAtom) (x : Scalar) →
      ((some_serves (Some s) sort.Int || some_serves (Some s) sort.Log) || some_serves (Some s) sort.Text) ≡ true →
      Shows s (value_of w a) (bytes_of w d) x →
      ((u : Variables) → Kin q around (record n { pending = n.pending ++ x ∷ [] }) u → Stays q nests t w u →
      DoesAt functions limit n u lines braces r) →
      DoesAt functions limit n w (flats (put (Some s) a d ∷ []) ++ lines) braces r
  put_does s a d x fits sh next = by s fits sh
    where
      joined : (y : Scalar) → y ≡ x → DoesAt functions limit n (record w { pending = w.pending ++ y ∷ [] }) lines braces r
      joined y e =
          let same : w.pending ++ y ∷ [] ≡ n.pending ++ x ∷ [] = ap (λ (p : List Scalar). p ++ y ∷ []) kin.pending
          ∙ ap (λ (z : Scalar). n.pending ++ z ∷ []) e in
          subst (λ (p : List Scalar). DoesAt functions limit n (record w { pending = p }) lines braces r) (sym same)
          (next (record w { pending = n.pending ++ x ∷ [] }) (kin_pending (n.pending ++ x ∷ []) kin)
          (record { ints = λ i h g. refl; indices = λ i h. refl }))

      by : (s : Sort) → ((some_serves (Some s) sort.Int || some_serves (Some s) sort.Log) || some_serves (Some s) sort.Text) ≡
          true →
          Shows s (value_of w a) (bytes_of w d) x →
          DoesAt functions limit n w (flats (put (Some s) a d ∷ []) ++ lines) braces r
      by sort.Exact h sh' = cc
      by sort.Int h sh' = row_leaves (step_put_int a) [] lines
          (joined (scalar.Int (wrapped (value_of w a)))
          (ap (λ z. scalar.Int (wrapped z)) (int_shown sh') ∙ ap scalar.Int sh'.of.1 ∙ sym sh'.of.0))
      by sort.Log h sh' = row_leaves (step_put_log a) [] lines
          (joined (scalar.Log (holds (value_of w a)))
          (ap (λ z. scalar.Log (holds z)) (truth_shown sh') ∙ ap scalar.Log (truth_holds (truth_of x)) ∙ sym sh'.of))
      by sort.Text h sh' = row_leaves (step_put_text d) [] lines
          (joined (scalar.Text (bytes_of w d)) (ap scalar.Text (text_shown sh') ∙ sym sh'.of))
