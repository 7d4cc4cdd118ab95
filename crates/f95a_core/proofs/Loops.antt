-- The three loops that are written: a right side into the temporary, the temporary into its variable, a variable into the record.
use Rattle.std.proofs.Common.{◌≡◌, ◌≢◌, ◌⊎◌, inl, inr, ℕ, suc, ◌+◌, ◌<◌, ◌≤◌, ◌^◌, Bool, true, false, List, [], ◌∷◌, ◌++◌, Option}
use Rattle.std.proofs.Common.{Some, Ok, Err, refl, ap, ◌∙◌, sym, subst, arith, ℤ, pos, length, nat_lt, take, append_assoc}
use Rattle.std.specs.Prelude.{set, map, if◌then◌else◌}
use Rattle.std.proofs.lemmas.List.{get_or-set_same, get_or-set_other, ext_get_or, map-append}
use Rattle.std.proofs.Math.ListN.{length-set}
use Rattle.std.proofs.Math.Seq.{take-suc}
use Rattle.std.proofs.lemmas.Bool.Decides.{nat_tests}
use Rattle.a95_base.specs.declared.scalar.Scalar.{Scalar}
use Rattle.a95_base.specs.declared.scalar.Scalar.TheVariants as scalar
use Rattle.a95_base.specs.Integer.{wrapped}
use Rattle.rank_one.specs.declared.unit.Sum.{Sum}
use Rattle.rank_one.specs.Meaning.{array_at, sum_value, elements}
use Rattle.loop_tree.specs.declared.stuck.StuckState.TheVariants as stuck
use Rattle.loop_tree.specs.declared.atom.Atom.TheVariants as atom
use Rattle.loop_tree.specs.declared.atom.Reference.TheVariants as reference
use Rattle.loop_tree.specs.declared.row.IntValue.TheVariants as int
use Rattle.loop_tree.specs.declared.row.BlockRow.TheVariants as block
use Rattle.loop_tree.specs.declared.row.ControlRow.TheVariants as control
use Rattle.loop_tree.specs.declared.row.RecordRow.TheVariants as record_row
use Rattle.loop_tree.specs.declared.row.Row.{Row}
use Rattle.loop_tree.specs.declared.row.Row.TheVariants as row
use Rattle.loop_tree.specs.declared.tree.CodeLine.{CodeLine}
use Rattle.loop_tree.specs.declared.tree.CodeLine.TheVariants as code
use Rattle.loop_tree.specs.declared.tree.Stmt.{Stmt}
use Rattle.loop_tree.specs.declared.tree.Stmt.TheVariants as stmt
use Rattle.loop_tree.specs.declared.tree.Function.{Function}
use Rattle.loop_tree.specs.Lines.{flats}
use Rattle.loop_tree.specs.State.{Brace, Cells, Ints, Block, Goes, cells_numbered, cells_or_stuck, with_cells, without}
use Rattle.loop_tree.specs.Values.{number_at, block_at, atom_in, and_then, place_in}
use Rattle.loop_tree.specs.Machine.{step, changed, store_int}
use Rattle.f95a_core.specs.Lowered.{set_row, value_code, value_atom, at_line, fill, move, free, show}
use Rattle.loop_laws.proofs.Braces.{first_row, split}
use Rattle.f95a_core.proofs.Reaching.{Good, silent}
use Rattle.f95a_core.proofs.Rows.{Vars, at, with_int, step_line, step_cell, step_store, step_free, step_put}
use Rattle.loop_laws.proofs.Numbered.{with_at_same, changed_here, changed_elsewhere, freed_elsewhere}
use Rattle.f95a_core.proofs.Turns.{Round, loop_does}
use Rattle.f95a_core.proofs.Sums.{Holds, ints_there, cell_there, value_goes}
use Rattle.f95a_core.proofs.Elements.{SumFits, sum_has, sum_shows, stored_is, IsInt}

-- any row in front
pub row_before : (functions : List Function) (final written : List ℕ) (cost : ℕ) (v w : Vars) (r : Row) (more : List Stmt)
    (rest : List CodeLine) (braces : List Brace)
    → step functions (at v (code.Row r ∷ (flats more ++ rest)) braces) ≡ Goes false [] (at w (flats more ++ rest) braces)
    → Good functions final cost written (at w (flats more ++ rest) braces) →
    Good functions final cost written (at v (flats (stmt.Row r ∷ more) ++ rest) braces)
row_before functions final written cost v w r more rest braces e g =
    subst (λ (ls : List CodeLine). Good functions final cost written (at v ls braces)) (sym (first_row r more rest))
    (silent functions final cost written (at v (code.Row r ∷ (flats more ++ rest)) braces) (at w (flats more ++ rest) braces) e g)

-- ---- stores

-- a store within the block of a reference
store_there : (blocks : List Block) (references : List (Option ℕ)) (b n i : ℕ) (cells : List ℤ) (z x : ℤ) → block_at references b
    ≡ Some n → cells_numbered blocks n ≡ Some (Ints cells)
    → z ≡ pos i → i < length cells → changed blocks (block_at references b) (store_int z x)
    ≡ Ok (with_cells blocks n (Ints (set cells i x)))
store_there blocks references b n i cells z x named there e h =
    let within : nat_lt i (length cells) ≡ true = grind (arith, nat_tests) in
    ap (λ (r : Option ℕ). changed blocks r (store_int z x)) named
    ∙ ap (λ (o : Option Cells). and_then (cells_or_stuck o) (λ c. and_then (store_int z x c) (λ new. Ok (with_cells blocks n new))))
    there
    ∙ ap (λ (k : ℤ). and_then (and_then (and_then (place_in k (length cells)) (λ p. Ok (set cells p x))) (λ new. Ok (Ints new)))
    (λ new. Ok (with_cells blocks n new))) e
    ∙ ap (λ (t : Bool). and_then
    (and_then (and_then (if t then Ok i else Err stuck.OutsideBlock) (λ p. Ok (set cells p x))) (λ new. Ok (Ints new)))
    (λ new. Ok (with_cells blocks n new))) within

-- a block that holds no array may change
holds_beside : (arrays : List (List ℤ)) (blocks : List Block) (references : List (Option ℕ)) (made n : ℕ) (c : Cells) →
    length arrays ≤ n
    → Holds arrays blocks references made → Holds arrays (with_cells blocks n c) references made
holds_beside arrays blocks references made n c far h = record {
  cells = λ p within. let ne : n ≢ p = omega arith in changed_elsewhere blocks n p c ne ∙ h.cells p within;
  named = h.named;
  fewer = h.fewer;
}

-- the block of an array changes with the array
holds_changed : (arrays : List (List ℤ)) (blocks : List Block) (references : List (Option ℕ)) (made t : ℕ) (old new : List ℤ) →
    t < length arrays
    → Holds (set arrays t old) blocks references made → Holds (set arrays t new) (with_cells blocks t (Ints new)) references made
holds_changed arrays blocks references made t old new within h = record {
  cells = λ p here. by p (subst (λ m. p < m) (length-set arrays t new) here) (grind arith);
  named = λ p here. h.named p (subst (λ m. p < m) (length-set arrays t new ∙ sym (length-set arrays t old)) here);
  fewer = subst (λ m. m ≤ made) (length-set arrays t old ∙ sym (length-set arrays t new)) h.fewer;
}
  where
    by : (p : ℕ) → p < length arrays → (p ≡ t) ⊎ (p ≢ t) → cells_numbered (with_cells blocks t (Ints new)) p
        ≡ Some (Ints (array_at (set arrays t new) p))
    by p here (inl e) =
        subst (λ q. cells_numbered (with_cells blocks t (Ints new)) q ≡ Some (Ints (array_at (set arrays t new) q))) (sym e)
        (changed_here blocks t (Ints (array_at (set arrays t old) t)) (Ints new)
        (h.cells t (subst (λ m. t < m) (sym (length-set arrays t old)) within))
        ∙ ap (λ (c : List ℤ). Some (Ints c)) (sym (get_or-set_same arrays t new [] within)))
    by p here (inr e) =
        changed_elsewhere blocks t p (Ints new) (λ x. e (sym x))
        ∙ h.cells p (subst (λ m. p < m) (sym (length-set arrays t old)) here)
        ∙ ap (λ (c : List ℤ). Some (Ints c)) (get_or-set_other arrays t p old [] e ∙ sym (get_or-set_other arrays t p new [] e))

-- the first i cells are the first i elements of xs, and there are n cells
pub record Filled (xs : List ℤ) (n i : ℕ) (cells : List ℤ) : Type 0 where
  pub size : length cells ≡ n
  pub done : (j : ℕ) → j < i → number_at cells j ≡ number_at xs j

filled_more : (xs : List ℤ) (n i : ℕ) (cells : List ℤ) (x : ℤ) → i < n → x ≡ number_at xs i → Filled xs n i cells →
    Filled xs n (suc i) (set cells i x)
filled_more xs n i cells x within e f = record {
  size = length-set cells i x ∙ f.size;
  done = λ j h. by j h (grind arith);
}
  where
    by : (j : ℕ) → j < suc i → (j ≡ i) ⊎ (j ≢ i) → number_at (set cells i x) j ≡ number_at xs j
    by j h (inl same) =
        subst (λ k. number_at (set cells i x) k ≡ number_at xs k) (sym same)
        (get_or-set_same cells i x (pos 0) (subst (λ m. i < m) (sym f.size) within) ∙ e)
    by j h (inr ne) = get_or-set_other cells i j x (pos 0) ne ∙ f.done j (let below : j < i = omega arith in below)

pub all_filled : (xs : List ℤ) (n : ℕ) (cells : List ℤ) → length xs ≡ n → Filled xs n n cells → cells ≡ xs
all_filled xs n cells size f = ext_get_or (pos 0) cells xs (f.size ∙ sym size) (λ j h. f.done j (subst (λ m. j < m) f.size h))

-- ---- a right side into the temporary

-- block m, which the reference behind the arrays leads to, has these cells, and is no array's
pub record HasTemporary (arrays : List (List ℤ)) (references : List (Option ℕ)) (blocks : List Block) (m : ℕ)
    (cells : List ℤ) : Type 0 where
  pub beside : length arrays ≤ m
  pub named : block_at references (length arrays) ≡ Some m
  pub there : cells_numbered blocks m ≡ Some (Ints cells)

pub record Filling (arrays : List (List ℤ)) (xs : List ℤ) (n m i : ℕ) (v : Vars) : Type 0 where
  pub cells : List ℤ
  pub holds : Holds arrays v.blocks v.references v.made
  pub temporary : HasTemporary arrays v.references v.blocks m cells
  pub filled : Filled xs n i cells
  pub clean : v.pending ≡ []

module _ (functions : List Function) (final written : List ℕ) (arrays : List (List ℤ)) (line n m : ℕ) (sum : Sum)
    (fits : SumFits arrays n sum) where
  abbrev whole : List ℤ
  whole = elements n (sum_value arrays sum)

  abbrev store_row : ℕ → Stmt
  store_row b = stmt.Row (row.Block (block.StoreInt b (atom.Loop 1) (value_atom sum)))

  abbrev fill_body : List Stmt
  fill_body = at_line line ∷ (value_code sum ++ (store_row (length arrays) ∷ []))

  fill_round : Round functions final written n fill_body (λ i v. Filling arrays whole n m i v)
  fill_round = record {
    does = λ cost i v rest braces within is inv go.
        let put = store_row (length arrays) ∷ [] in
        let u : Vars = record v { line = line } in
        row_before functions final written cost v u (row.Control (control.At line)) (value_code sum ++ put) rest braces
        (step_line functions v (flats (value_code sum ++ put) ++ rest) braces line)
        (subst (λ (ls : List CodeLine). Good functions final cost written (at u ls braces)) (sym (split (value_code sum) put rest))
        (value_goes functions final written cost arrays i u inv.holds is braces sum (sum_has arrays n i within sum fits) v.ints
        (flats put ++ rest) (λ after e.
        let x = atom_in after v.indices (value_atom sum) in
        let value : x ≡ number_at whole i = e ∙ stored_is arrays i sum ∙ sym ((sum_shows arrays n sum fits).each i within) in
        let blocks = with_cells v.blocks m (Ints (set inv.cells i x)) in
        let w : Vars = record u { ints = after; blocks = blocks } in
        row_before functions final written cost (record u { ints = after }) w
        (row.Block (block.StoreInt (length arrays) (atom.Loop 1) (value_atom sum))) [] rest braces
        (step_store functions (record u { ints = after }) rest braces (length arrays) (atom.Loop 1) (value_atom sum) blocks
        (store_there v.blocks v.references (length arrays) m i inv.cells (number_at v.indices 1) x inv.temporary.named
        inv.temporary.there is
        (subst (λ k. i < k) (sym inv.filled.size) within)))
        (go w is (record {
          cells = set inv.cells i x;
          holds = holds_beside arrays v.blocks v.references v.made m (Ints (set inv.cells i x)) inv.temporary.beside inv.holds;
          temporary = record {
            beside = inv.temporary.beside;
            named = inv.temporary.named;
            there = changed_here v.blocks m (Ints inv.cells) (Ints (set inv.cells i x)) inv.temporary.there;
          };
          filled = filled_more whole n i inv.cells x within value inv.filled;
          clean = inv.clean;
        })))));
    moves = λ i v z inv. record
        { cells = inv.cells; holds = inv.holds; temporary = inv.temporary; filled = inv.filled; clean = inv.clean };
  }

  -- from an empty temporary to the whole right side in it
  pub fill_does : n ≤ 2 ^ 24 → (cost : ℕ) (more : List Stmt) (rest : List CodeLine) (braces : List Brace) (v : Vars) →
      Filling arrays whole n m 0 v
      → ((w : Vars) → Filling arrays whole n m n w → Good functions final cost written (at w (flats more ++ rest) braces))
      → Good functions final (cost + n) written (at v (flats (fill line n (length arrays) sum ∷ more) ++ rest) braces)
  fill_does small cost more rest braces v inv go =
      loop_does functions final written n fill_body (λ i w. Filling arrays whole n m i w) fill_round small cost more rest braces v
      inv go

-- ---- the temporary into its variable

pub record Moving (arrays : List (List ℤ)) (xs : List ℤ) (n m t i : ℕ) (v : Vars) : Type 0 where
  pub cells : List ℤ
  pub holds : Holds (set arrays t cells) v.blocks v.references v.made
  pub temporary : HasTemporary arrays v.references v.blocks m xs
  pub filled : Filled xs n i cells
  pub clean : v.pending ≡ []

module _ (functions : List Function) (final written : List ℕ) (arrays : List (List ℤ)) (xs : List ℤ) (line n m t : ℕ)
    (size : length xs ≡ n) (target : t < length arrays) where
  abbrev move_body : List Stmt
  move_body = at_line line ∷ set_row 0 (int.Cell (length arrays) (atom.Loop 1))
      ∷ stmt.Row (row.Block (block.StoreInt t (atom.Loop 1) (atom.Int 0))) ∷ []

  move_round : Round functions final written n move_body (λ i v. Moving arrays xs n m t i v)
  move_round = record {
    does = λ cost i v rest braces within is inv go.
        let put = stmt.Row (row.Block (block.StoreInt t (atom.Loop 1) (atom.Int 0))) ∷ [] in
        let u : Vars = record v { line = line } in
        let x = number_at xs i in
        let w : Vars = with_int u 0 x in
        let y = number_at w.ints 0 in
        let same : y ≡ x = with_at_same (pos 0) v.ints 0 x in
        let cells' = set inv.cells i y in
        let blocks = with_cells v.blocks t (Ints cells') in
        let here : t < length (set arrays t inv.cells) = subst (λ k. t < k) (sym (length-set arrays t inv.cells)) target in
        row_before functions final written cost v u (row.Control (control.At line))
        (set_row 0 (int.Cell (length arrays) (atom.Loop 1)) ∷ put) rest braces
        (step_line functions v (flats (set_row 0 (int.Cell (length arrays) (atom.Loop 1)) ∷ put) ++ rest) braces line)
        (row_before functions final written cost u w (row.Int 0 (int.Cell (length arrays) (atom.Loop 1))) put rest braces
        (step_cell functions u (flats put ++ rest) braces 0 (length arrays) (atom.Loop 1) xs x
        (ints_there v.blocks v.references (length arrays) m xs inv.temporary.named inv.temporary.there)
        (cell_there xs (number_at v.indices 1) i is (subst (λ k. i < k) (sym size) within)))
        (row_before functions final written cost w (record w { blocks = blocks })
        (row.Block (block.StoreInt t (atom.Loop 1) (atom.Int 0))) [] rest braces
        (step_store functions w rest braces t (atom.Loop 1) (atom.Int 0) blocks
        (store_there v.blocks v.references t t i inv.cells (number_at v.indices 1) y (inv.holds.named t here)
        (inv.holds.cells t here ∙ ap (λ (c : List ℤ). Some (Ints c)) (get_or-set_same arrays t inv.cells [] target)) is
        (subst (λ k. i < k) (sym inv.filled.size) within)))
        (go (record w { blocks = blocks }) is (record {
          cells = cells';
          holds = holds_changed arrays v.blocks v.references v.made t inv.cells cells' target inv.holds;
          temporary = record {
            beside = inv.temporary.beside;
            named = inv.temporary.named;
            there = changed_elsewhere v.blocks t m (Ints cells') (let apart : t ≢ m = omega (arith, inv.temporary.beside) in apart)
                ∙ inv.temporary.there;
          };
          filled = filled_more xs n i inv.cells y within same inv.filled;
          clean = inv.clean;
        }))));
    moves = λ i v z inv. record
        { cells = inv.cells; holds = inv.holds; temporary = inv.temporary; filled = inv.filled; clean = inv.clean };
  }

  pub move_does : n ≤ 2 ^ 24 → (cost : ℕ) (more : List Stmt) (rest : List CodeLine) (braces : List Brace) (v : Vars) →
      Moving arrays xs n m t 0 v
      → ((w : Vars) → Moving arrays xs n m t n w → Good functions final cost written (at w (flats more ++ rest) braces))
      → Good functions final (cost + n) written (at v (flats (move line n (length arrays) t ∷ more) ++ rest) braces)
  move_does small cost more rest braces v inv go =
      loop_does functions final written n move_body (λ i w. Moving arrays xs n m t i w) move_round small cost more rest braces v inv
      go

-- ---- the temporary is freed

-- the blocks of the arrays live on
holds_without : (arrays : List (List ℤ)) (blocks : List Block) (references : List (Option ℕ)) (made m : ℕ) → length arrays ≤ m
    → Holds arrays blocks references made → Holds arrays (without blocks m) references made
holds_without arrays blocks references made m far h = record {
  cells = λ p within. let ne : m ≢ p = omega arith in freed_elsewhere blocks m p ne ∙ h.cells p within;
  named = h.named;
  fewer = h.fewer;
}

pub free_does : (functions : List Function) (final written : List ℕ) (all : List (List ℤ)) (b m : ℕ) (xs : List ℤ) →
    length all ≤ m → (cost : ℕ) (more : List Stmt) (rest : List CodeLine) (braces : List Brace) (v : Vars)
    → block_at v.references b ≡ Some m → cells_numbered v.blocks m ≡ Some (Ints xs) → Holds all v.blocks v.references v.made
    → ((w : Vars) → Holds all w.blocks w.references w.made → w.pending ≡ v.pending →
    Good functions final cost written (at w (flats more ++ rest) braces))
    → Good functions final cost written (at v (flats (free b ∷ more) ++ rest) braces)
free_does functions final written all b m xs far cost more rest braces v named there holds go =
    let w : Vars = record v { blocks = without v.blocks m } in
    row_before functions final written cost v w (row.Block (block.Free (reference.Ints b))) more rest braces
    (step_free functions v (flats more ++ rest) braces b m (Ints xs) named there)
    (go w (holds_without all v.blocks v.references v.made m far holds) refl)

-- ---- a variable into the record

pub record Showing (arrays : List (List ℤ)) (before : List Scalar) (p i : ℕ) (v : Vars) : Type 0 where
  pub holds : Holds arrays v.blocks v.references v.made
  pub shown : v.pending ≡ before ++ map scalar.Int (take i (array_at arrays p))

module _ (functions : List Function) (final written : List ℕ) (arrays : List (List ℤ)) (before : List Scalar) (line n p : ℕ)
    (size : length (array_at arrays p) ≡ n) (here : p < length arrays)
    (ints : (i : ℕ) → IsInt (number_at (array_at arrays p) i)) where
  abbrev show_body : List Stmt
  show_body = at_line line ∷ set_row 0 (int.Cell p (atom.Loop 1)) ∷ stmt.Row (row.Record (record_row.PutInt (atom.Int 0))) ∷ []

  one_more : (xs : List ℤ) (i : ℕ) → i < length xs → map scalar.Int (take (suc i) xs) ≡ map scalar.Int (take i xs)
      ++ scalar.Int (number_at xs i) ∷ []
  one_more xs i h = ap (λ (ys : List ℤ). map scalar.Int ys) (take-suc xs i (pos 0) h)
      ∙ map-append scalar.Int (take i xs) (number_at xs i ∷ [])

  show_round : Round functions final written n show_body (λ i v. Showing arrays before p i v)
  show_round = record {
    does = λ cost i v rest braces within is inv go.
        let put = stmt.Row (row.Record (record_row.PutInt (atom.Int 0))) ∷ [] in
        let u : Vars = record v { line = line } in
        let x = number_at (array_at arrays p) i in
        let w : Vars = with_int u 0 x in
        let y = number_at w.ints 0 in
        let same : wrapped y ≡ x = ap wrapped (with_at_same (pos 0) v.ints 0 x) ∙ (ints i).kept in
        let pending = v.pending ++ scalar.Int (wrapped y) ∷ [] in
        let inside : i < length (array_at arrays p) = subst (λ k. i < k) (sym size) within in
        row_before functions final written cost v u (row.Control (control.At line)) (set_row 0 (int.Cell p (atom.Loop 1)) ∷ put)
        rest braces
        (step_line functions v (flats (set_row 0 (int.Cell p (atom.Loop 1)) ∷ put) ++ rest) braces line)
        (row_before functions final written cost u w (row.Int 0 (int.Cell p (atom.Loop 1))) put rest braces
        (step_cell functions u (flats put ++ rest) braces 0 p (atom.Loop 1) (array_at arrays p) x
        (ints_there v.blocks v.references p p (array_at arrays p) (inv.holds.named p here) (inv.holds.cells p here))
        (cell_there (array_at arrays p) (number_at v.indices 1) i is inside))
        (row_before functions final written cost w (record w { pending = pending }) (row.Record (record_row.PutInt (atom.Int 0))) []
        rest braces
        (step_put functions w rest braces (atom.Int 0))
        (go (record w { pending = pending }) is (record {
          holds = inv.holds;
          shown = ap (λ (s : List Scalar). s ++ scalar.Int (wrapped y) ∷ []) inv.shown
              ∙ append_assoc before (map scalar.Int (take i (array_at arrays p))) (scalar.Int (wrapped y) ∷ [])
              ∙ ap (λ (z : ℤ). before ++ (map scalar.Int (take i (array_at arrays p)) ++ scalar.Int z ∷ [])) same
              ∙ ap (λ (s : List Scalar). before ++ s) (sym (one_more (array_at arrays p) i inside));
        }))));
    moves = λ i v z inv. record { holds = inv.holds; shown = inv.shown };
  }

  pub show_does : n ≤ 2 ^ 24 → (cost : ℕ) (more : List Stmt) (rest : List CodeLine) (braces : List Brace) (v : Vars) →
      Showing arrays before p 0 v
      → ((w : Vars) → Showing arrays before p n w → Good functions final cost written (at w (flats more ++ rest) braces))
      → Good functions final (cost + n) written (at v (flats (show line n p ∷ more) ++ rest) braces)
  show_does small cost more rest braces v inv go =
      loop_does functions final written n show_body (λ i w. Showing arrays before p i w) show_round small cost more rest braces v
      inv go
