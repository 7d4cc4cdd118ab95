-- What the lines of each action do is what the action means.
use Rattle.std.proofs.Common.{◌≡◌, ◌≢◌, ℕ, ◌+◌, ◌<◌, ◌≤◌, ◌^◌, true, List, [], ◌∷◌, ◌++◌, Some, None, refl, ap, ◌∙◌, sym, subst}
use Rattle.std.proofs.Common.{arith, ℤ, pos, length, nat_le, take, append-nil, append_assoc}
use Rattle.std.specs.Prelude.{set, map, replicate}
use Rattle.std.specs.List.{flat_map}
use Rattle.std.proofs.lemmas.List.{set-get_or, take_all}
use Rattle.std.proofs.Math.ListN.{length-set, length-replicate}
use Rattle.std.proofs.lemmas.Bool.Decides.{nat_tests}
use Rattle.a95_base.specs.declared.scalar.Scalar.{Scalar}
use Rattle.a95_base.specs.declared.scalar.Scalar.TheVariants as scalar
use Rattle.a95_base.specs.Record.{record_text}
use Rattle.a95_base.specs.Lists.{Every}
use Rattle.rank_one.specs.declared.unit.Array.{Array}
use Rattle.rank_one.specs.declared.unit.Sum.{Sum}
use Rattle.rank_one.specs.Meaning.{array_at, sum_value, elements}
use Rattle.loop_tree.specs.declared.atom.Atom.TheVariants as atom
use Rattle.loop_tree.specs.declared.row.BlockRow.TheVariants as block
use Rattle.loop_tree.specs.declared.row.ControlRow.TheVariants as control
use Rattle.loop_tree.specs.declared.row.RecordRow.TheVariants as record_row
use Rattle.loop_tree.specs.declared.row.Row.TheVariants as row
use Rattle.loop_tree.specs.declared.tree.CodeLine.{CodeLine}
use Rattle.loop_tree.specs.declared.tree.CodeLine.TheVariants as code
use Rattle.loop_tree.specs.declared.tree.Stmt.{Stmt}
use Rattle.loop_tree.specs.declared.tree.Stmt.TheVariants as stmt
use Rattle.loop_tree.specs.declared.tree.Function.{Function}
use Rattle.loop_tree.specs.Lines.{flats}
use Rattle.loop_tree.specs.State.{Brace, Ints, with_at}
use Rattle.loop_tree.specs.Values.{number_at, largest}
use Rattle.f95a_core.specs.Lowered.{extent_of, assignment_code, printing_code, at_line, fill, move, free, show}
use Rattle.loop_laws.proofs.Braces.{first_row}
use Rattle.f95a_core.proofs.Reaching.{Good, writes, cheaper}
use Rattle.f95a_core.proofs.Rows.{Vars, at, step_line, step_temp, step_write}
use Rattle.loop_laws.proofs.Numbered.{with_at_same, with_at_other, made_here, made_elsewhere}
use Rattle.f95a_core.proofs.Sums.{Holds}
use Rattle.f95a_core.proofs.Elements.{SumFits, sum_shows, IsInt}
use Rattle.f95a_core.proofs.Loops.{row_before, HasTemporary, all_filled, fill_does, move_does, free_does, show_does}

-- ---- blocks that are made

-- a new block, beside all that hold arrays
holds_more : (arrays : List (List ℤ)) (v : Vars) (n : ℕ) → Holds arrays v.blocks v.references v.made
    → Holds arrays (record { number = v.made; cells = Ints (replicate n (pos 0)) } ∷ v.blocks)
    (with_at None v.references (length arrays) (Some v.made)) (v.made + 1)
holds_more arrays v n h = record {
  cells = λ p here. let ne : v.made ≢ p = omega (arith, h.fewer) in made_elsewhere v.blocks v.made p (Ints (replicate n (pos 0))) ne
      ∙ h.cells p here;
  named = λ p here. let ne : length arrays ≢ p = omega arith in with_at_other None v.references (length arrays) p (Some v.made) ne
      ∙ h.named p here;
  fewer = omega (arith, h.fewer);
}

-- the turns of the loops over some arrays
abbrev pub shown_cost : List Array → List ℕ → ℕ
shown_cost decls [] = 0
shown_cost decls (p ∷ ps) = shown_cost decls ps + extent_of decls p

-- the array at a place is there, with its extent, and its elements are INTEGERs
pub record IsThere (decls : List Array) (arrays : List (List ℤ)) (p : ℕ) : Type 0 where
  pub here : p < length arrays
  pub size : length (array_at arrays p) ≡ extent_of decls p
  pub small : extent_of decls p ≤ 2 ^ 24
  pub ints : (i : ℕ) → IsInt (number_at (array_at arrays p) i)

-- the values of the record
abbrev pub shown_values : List (List ℤ) → List ℕ → List Scalar
shown_values arrays places = flat_map (λ p. map scalar.Int (array_at arrays p)) places

-- ---- assignment

module _ (functions : List Function) (final written : List ℕ) (decls : List Array) (arrays : List (List ℤ))
    (counted : length arrays ≡ length decls) where
  small_enough : (n : ℕ) → n ≤ 2 ^ 24 → nat_le n largest ≡ true
  small_enough n h = grind (arith, nat_tests)

  -- the variable holds the whole right side afterwards, and nothing else has changed
  pub assignment_does : (line t n : ℕ) (sum : Sum) → t < length arrays → extent_of decls t ≡ n → length (array_at arrays t) ≡ n →
      n ≤ 2 ^ 24 → SumFits arrays n sum
      → (cost : ℕ) (more : List Stmt) (rest : List CodeLine) (braces : List Brace) (v : Vars) →
      Holds arrays v.blocks v.references v.made → v.pending ≡ []
      → ((w : Vars) → Holds (set arrays t (elements n (sum_value arrays sum))) w.blocks w.references w.made → w.pending ≡ [] →
      Good functions final cost written (at w (flats more ++ rest) braces))
      → Good functions final (cost + n + n) written (at v (flats (assignment_code decls line t sum ++ more) ++ rest) braces)
  assignment_does line t n sum here extent size small fits cost more rest braces v holds clean go =
      let whole = elements n (sum_value arrays sum) in
      let u : Vars = record v { line = line } in
      let x : Vars = record u {
        references = with_at None v.references (length arrays) (Some v.made);
        blocks = record { number = v.made; cells = Ints (replicate n (pos 0)) } ∷ v.blocks;
        made = v.made + 1;
      } in
      let make = stmt.Row (row.Block (block.Temp (length arrays) (atom.Number (pos n)))) in
      let filling = fill line n (length arrays) sum in
      let moving = move line n (length arrays) t in
      let after = free (length arrays) ∷ more in
      subst (λ (k : ℕ). Good functions final (cost + n + n) written
      (at v (flats
      (at_line line ∷ stmt.Row (row.Block (block.Temp k (atom.Number (pos (extent_of decls t)))))
      ∷ fill line (extent_of decls t) k sum ∷ move line (extent_of decls t) k t ∷ free k ∷ more) ++ rest) braces)) counted
      (subst (λ (e : ℕ). Good functions final (cost + n + n) written
      (at v (flats
      (at_line line ∷ stmt.Row (row.Block (block.Temp (length arrays) (atom.Number (pos e)))) ∷ fill line e (length arrays) sum
      ∷ move line e (length arrays) t ∷ free (length arrays) ∷ more) ++ rest) braces)) (sym extent)
      (row_before functions final written (cost + n + n) v u (row.Control (control.At line)) (make ∷ filling ∷ moving ∷ after) rest
      braces
      (step_line functions v (flats (make ∷ filling ∷ moving ∷ after) ++ rest) braces line)
      (row_before functions final written (cost + n + n) u x (row.Block (block.Temp (length arrays) (atom.Number (pos n))))
      (filling ∷ moving ∷ after) rest braces
      (step_temp functions u (flats (filling ∷ moving ∷ after) ++ rest) braces (length arrays) n (small_enough n small))
      (fill_does functions final written arrays line n v.made sum fits small (cost + n) (moving ∷ after) rest braces x
      (record {
        cells = replicate n (pos 0);
        holds = holds_more arrays u n holds;
        temporary = record {
          beside = holds.fewer;
          named = with_at_same None v.references (length arrays) (Some v.made);
          there = made_here v.blocks v.made (Ints (replicate n (pos 0)));
        };
        filled = record { size = length-replicate n (pos 0); done = λ j h. absurd (omega arith) };
        clean = clean;
      })
      (λ w inv.
      let full = all_filled whole n inv.cells (sum_shows arrays n sum fits).size inv.filled in
      move_does functions final written arrays whole line n v.made t (sum_shows arrays n sum fits).size here small cost after rest
      braces w
      (record {
        cells = array_at arrays t;
        holds = subst (λ (all : List (List ℤ)). Holds all w.blocks w.references w.made) (sym (set-get_or arrays t [])) inv.holds;
        temporary = subst (λ (c : List ℤ). HasTemporary arrays w.references w.blocks v.made c) full inv.temporary;
        filled = record { size = size; done = λ j h. absurd (omega arith) };
        clean = inv.clean;
      })
      (λ y moved.
      let all = all_filled whole n moved.cells (sum_shows arrays n sum fits).size moved.filled in
      let far : length (set arrays t whole) ≤ v.made = omega (arith, length-set arrays t whole, holds.fewer) in
      free_does functions final written (set arrays t whole) (length arrays) v.made whole far cost more rest braces y
      moved.temporary.named moved.temporary.there
      (subst (λ (c : List ℤ). Holds (set arrays t c) y.blocks y.references y.made) all moved.holds)
      (λ z kept same. go z kept (same ∙ moved.clean))))))))

  -- ---- output

  abbrev shows : ℕ → List ℕ → List Stmt
  shows line places = map (λ place. show line (extent_of decls place) place) places

  whole_front : (xs : List ℤ) (n : ℕ) → length xs ≡ n → take n xs ≡ xs
  whole_front xs n e = take_all n xs (omega arith)

  shows_go : (line : ℕ) (places : List ℕ) → Every (IsThere decls arrays) places →
      (cost : ℕ) (before : List Scalar) (more : List Stmt) (rest : List CodeLine) (braces : List Brace) (v : Vars)
      → Holds arrays v.blocks v.references v.made → v.pending ≡ before
      → ((w : Vars) → Holds arrays w.blocks w.references w.made → w.pending ≡ before ++ shown_values arrays places →
      Good functions final cost written (at w (flats more ++ rest) braces))
      → Good functions final (cost + shown_cost decls places) written (at v (flats (shows line places ++ more) ++ rest) braces)
  shows_go line [] there cost before more rest braces v holds pending go =
      cheaper functions final cost (cost + 0) written (at v (flats more ++ rest) braces) (omega arith)
      (go v holds (pending ∙ sym (append-nil before)))
  shows_go line (p ∷ ps) there cost before more rest braces v holds pending go =
      let n = extent_of decls p in
      let xs = array_at arrays p in
      let values = map scalar.Int xs in
      cheaper functions final (cost + shown_cost decls ps + n) (cost + shown_cost decls (p ∷ ps)) written
      (at v (flats (show line n p ∷ (shows line ps ++ more)) ++ rest) braces) (omega arith)
      (show_does functions final written arrays before line n p there.0.size there.0.here there.0.ints there.0.small
      (cost + shown_cost decls ps) (shows line ps ++ more) rest braces v
      (record { holds = holds; shown = pending ∙ sym (append-nil before) })
      (λ w inv. shows_go line ps there.1 cost (before ++ values) more rest braces w inv.holds
      (inv.shown ∙ ap (λ (ys : List ℤ). before ++ map scalar.Int ys) (whole_front xs n there.0.size))
      (λ y kept full. go y kept (full ∙ append_assoc before values (shown_values arrays ps)))))

  pub printing_does : (line : ℕ) (places : List ℕ) → Every (IsThere decls arrays) places
      → (cost : ℕ) (more : List Stmt) (rest : List CodeLine) (braces : List Brace) (v : Vars) →
      Holds arrays v.blocks v.references v.made → v.pending ≡ []
      → ((w : Vars) → Holds arrays w.blocks w.references w.made → w.pending ≡ []
      → Good functions final cost (written ++ (record_text (shown_values arrays places) ++ 10 ∷ []))
      (at w (flats more ++ rest) braces))
      → Good functions final (cost + shown_cost decls places) written
      (at v (flats (printing_code decls line places ++ more) ++ rest) braces)
  printing_does line places there cost more rest braces v holds clean go =
      let last = stmt.Row (row.Record record_row.Write) in
      let u : Vars = record v { line = line } in
      subst (λ (ss : List Stmt). Good functions final (cost + shown_cost decls places) written
      (at v (flats (at_line line ∷ ss) ++ rest) braces)) (sym (append_assoc (shows line places) (last ∷ []) more))
      (row_before functions final written (cost + shown_cost decls places) v u (row.Control (control.At line))
      (shows line places ++ last ∷ more) rest braces
      (step_line functions v (flats (shows line places ++ last ∷ more) ++ rest) braces line)
      (shows_go line places there cost [] (last ∷ more) rest braces u holds clean (λ w kept full.
      subst (λ (ls : List CodeLine). Good functions final cost written (at w ls braces))
      (sym (first_row (row.Record record_row.Write) more rest))
      (writes functions final cost written (record_text w.pending ++ 10 ∷ [])
      (at w (code.Row (row.Record record_row.Write) ∷ (flats more ++ rest)) braces)
      (at (record w { pending = [] }) (flats more ++ rest) braces)
      (step_write functions w (flats more ++ rest) braces)
      (subst (λ (values : List Scalar). Good functions final cost (written ++ (record_text values ++ 10 ∷ []))
      (at (record w { pending = [] }) (flats more ++ rest) braces)) (sym full)
      (go (record w { pending = [] }) kept refl))))))
