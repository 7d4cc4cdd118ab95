-- The lines of statements are as the grammar asks.
use Rattle.std.proofs.Common.{◌≡◌, ℕ, zero, suc, ◌+◌, ◌-◌, ◌<◌, ◌≤◌, ◌^◌, Bool, true, false, ◌&&◌, List, [], ◌∷◌, Option, Some, None, refl, arith, ℤ, pos, length}
use Rattle.std.specs.Prelude.{FitsSigned}
use Rattle.std.specs.Int.{w64}
use Rattle.std.specs.List.{list_all}
use Rattle.std.proofs.lemmas.Bool.Decides.{nat_tests}
use Rattle.a95_base.specs.declared.fault.FaultKind.TheVariants as fault
use Rattle.a95_base.specs.Lists.{Every}
use Rattle.std.proofs.lemmas.Bool.{and_parts}
use Rattle.rank_shape.specs.Order.{Level, loops_of}
use Rattle.nest_tree.specs.declared.access.Amount.{Amount}
use Rattle.nest_tree.specs.declared.access.Name.{Name}
use Rattle.nest_tree.specs.declared.access.Portion.{Portion}
use Rattle.nest_tree.specs.declared.statement.Made.{Made}
use Rattle.nest_tree.specs.declared.statement.Made.TheVariants as made
use Rattle.nest_tree.specs.declared.statement.Span.{Span}
use Rattle.nest_tree.specs.declared.tree.Blank.{Blank}
use Rattle.nest_tree.specs.declared.tree.Blank.TheVariants as blank
use Rattle.nest_tree.specs.declared.unit.Sort.{Sort}
use Rattle.nest_tree.specs.declared.unit.Sort.TheVariants as sort
use Rattle.nest_tree.specs.Plain.{Procedure}
use Rattle.nest_tree.specs.Sound.{Scope, sort_of_name, is_own_text, fits_amount, fits_portion}
use Rattle.loop_tree.specs.declared.atom.Atom.{Atom}
use Rattle.loop_tree.specs.declared.atom.Atom.TheVariants as atom
use Rattle.loop_tree.specs.declared.atom.TextAtom.{TextAtom}
use Rattle.loop_tree.specs.declared.atom.TextAtom.TheVariants as text
use Rattle.loop_tree.specs.declared.atom.Operator.TheVariants as operator
use Rattle.loop_tree.specs.declared.row.IntValue.TheVariants as int
use Rattle.loop_tree.specs.declared.row.TextValue.TheVariants as words
use Rattle.loop_tree.specs.declared.row.BlockRow.TheVariants as block
use Rattle.loop_tree.specs.declared.row.ControlRow.TheVariants as control
use Rattle.loop_tree.specs.declared.row.RecordRow.TheVariants as record_row
use Rattle.loop_tree.specs.declared.row.Row.TheVariants as row
use Rattle.loop_tree.specs.declared.tree.Stmt.{Stmt}
use Rattle.loop_tree.specs.Program.{FitsAtom, FitsText}
use Rattle.nest_emit.specs.Numbers.{array_number, array_count, lower_number, extent_number, length_number, leaving_number, loop_number}
use Rattle.nest_emit.specs.Trees.{amount_atom}
use Rattle.nest_emit.specs.Statements.{control_row, at_line, store, put, stored_lines, bounds_lines, make_ints, make_texts, make_lines, take_lines, skip_lines, extent_lines, where_elements, loop_line, loop_lines, leave_lines, further_lines}
use Rattle.nest_emit.proofs.Values.{array_below}
use Rattle.emit_grammar.specs.Written.{is_line}
use Rattle.emit_grammar.proofs.Bodies.{Good, good_none, good_both, good_row, good_leave, good_set, good_say, good_compute, good_else, good_if, good_up, good_down, good_wider, good_fault}
use Rattle.emit_grammar.proofs.Trees.{Known, small, amount_fits, below}

-- ---- rows

pub good_line : {room : ℕ} {loop : Bool} (line : ℕ) (more : List Stmt) → is_line line ≡ true → Good room loop more →
    Good room loop (at_line line ∷ more)
good_line line more h g = good_row (row.Control (control.At line)) more (grind (arith, nat_tests, h)) refl g

module _ {room : ℕ} {loop : Bool} (top : room ≤ 999) where
  pub store_good : (o : Option Sort) (array : ℕ) (at a : Atom) (w : TextAtom) → array < 2 ^ 32 → FitsAtom at → FitsAtom a →
      FitsText w → Good room loop (store o array at a w ∷ [])
  store_good (Some sort.Text) array at a w n f g h = good_row (row.Block (block.StoreText array at w)) [] (n, f, h) refl
      (good_none top)
  store_good (Some sort.Exact) array at a w n f g h = good_row (row.Block (block.StoreInt array at a)) [] (n, f, g) refl
      (good_none top)
  store_good (Some sort.Int) array at a w n f g h = good_row (row.Block (block.StoreInt array at a)) [] (n, f, g) refl
      (good_none top)
  store_good (Some sort.Log) array at a w n f g h = good_row (row.Block (block.StoreInt array at a)) [] (n, f, g) refl
      (good_none top)
  store_good None array at a w n f g h = good_row (row.Block (block.StoreInt array at a)) [] (n, f, g) refl (good_none top)

  pub put_good : (o : Option Sort) (a : Atom) (w : TextAtom) → FitsAtom a → FitsText w → Good room loop (put o a w ∷ [])
  put_good (Some sort.Text) a w f g = good_row (row.Record (record_row.PutText w)) [] g refl (good_none top)
  put_good (Some sort.Log) a w f g = good_row (row.Record (record_row.PutLog a)) [] f refl (good_none top)
  put_good (Some sort.Exact) a w f g = good_row (row.Record (record_row.PutInt a)) [] f refl (good_none top)
  put_good (Some sort.Int) a w f g = good_row (row.Record (record_row.PutInt a)) [] f refl (good_none top)
  put_good None a w f g = good_row (row.Record (record_row.PutInt a)) [] f refl (good_none top)

  ints_good : (k : Made) (array t : ℕ) → array < 2 ^ 32 → t < 2 ^ 32 → Good room loop (make_ints k array t ∷ [])
  ints_good made.New array t n low = good_row (row.Block (block.New array (atom.Int t))) [] (n, low) refl (good_none top)
  ints_good made.Temporary array t n low = good_row (row.Block (block.Temp array (atom.Int t))) [] (n, low) refl (good_none top)
  ints_good made.Copy array t n low = good_row (row.Block (block.Copy array (atom.Int t))) [] (n, low) refl (good_none top)
  ints_good made.Mark array t n low = good_row (row.Block (block.Mark array (atom.Int t))) [] (n, low) refl (good_none top)

  texts_good : (k : Made) (array t : ℕ) → length_number array < 2 ^ 32 → t < 2 ^ 32 → Good room loop (make_texts k array t ∷ [])
  texts_good made.New array t n low = good_row (row.Block (block.NewText array (atom.Int t) (atom.Int (length_number array)))) []
      (omega (arith, n), low, n) refl (good_none top)
  texts_good made.Temporary array t n low = good_row (row.Block (block.TempText array (atom.Int t))) [] (omega (arith, n), low) refl
      (good_none top)
  texts_good made.Copy array t n low = good_row (row.Block (block.CopyText array (atom.Int t))) [] (omega (arith, n), low) refl
      (good_none top)
  texts_good made.Mark array t n low = good_row (row.Block (block.CopyText array (atom.Int t))) [] (omega (arith, n), low) refl
      (good_none top)

-- how a loop was left is a small number, or the grammar has no such
pub leave_good : {room : ℕ} {loop : Bool} → room ≤ 999 → loop ≡ true → (q : Procedure) (z : ℤ) → leaving_number q < 2 ^ 32 →
    FitsSigned w64 z → Good room loop (leave_lines q z)
leave_good top inside q z n f = good_set (leaving_number q) (int.Atom (atom.Number z)) _ n f
    (good_leave control.Break [] tt inside (good_none top))

pub further_good : {room : ℕ} {loop : Bool} → 3 ≤ room → room ≤ 999 → loop ≡ true → (q : Procedure) (t : ℕ) → leaving_number q < 2 ^ 32 →
    t < 2 ^ 32 → Good room loop (further_lines q t)
further_good {room} {loop} deep top inside q t n low =
    good_if 2 (atom.Int (leaving_number q)) _ [] (omega (arith, deep)) n
    (good_compute t (atom.Int (leaving_number q)) operator.Less (atom.Number (pos 0)) _ low n (small 0 (omega arith))
    (good_else 1 (atom.Int t) _ _ [] (omega arith) low
    (good_compute (leaving_number q) (atom.Int (leaving_number q)) operator.Add (atom.Number (pos 1)) _ n n (small 1 (omega arith))
    (good_else 0 (atom.Int (leaving_number q)) (control_row control.Break ∷ []) (control_row control.Continue ∷ []) [] (omega arith) n
    (good_leave control.Break [] tt inside (good_none (omega arith)))
    (good_leave control.Continue [] tt inside (good_none (omega arith))) (good_none (omega arith))))
    (good_compute (leaving_number q) (atom.Int (leaving_number q)) operator.Subtract (atom.Number (pos 1)) _ n n (small 1 (omega arith))
    (good_leave control.Break [] tt inside (good_none (omega arith)))) (good_none (omega arith)))) (good_none top)

pub leaving_low : (c : Scope) (nests : ℕ) → Known c nests → leaving_number c.own < 2 ^ 32
leaving_low c nests known = let few = known.numbers in omega (arith, few)

module _ (c : Scope) (nests : ℕ) (known : Known c nests) {room : ℕ} {loop : Bool} (deep : 2 ≤ room) (top : room ≤ 999) where
  pub stored_good : (n : Name) (s : Sort) → sort_of_name c.own n ≡ Some s → (t : ℕ) → suc (suc t) < 2 ^ 32 → (at a : Atom) (w : TextAtom) →
      FitsAtom at → FitsAtom a → FitsText w → (own : Bool) (p : Option Portion) → fits_portion c.own n p ≡ true →
      Good room loop (stored_lines c.own n t at own p a w)
  stored_good n s is t low at a w f g h own p fits = by own p fits
    where
      there : array_number c.own n < array_count c.own
      there = array_below c.own n s is

      number : array_number c.own n < 4294967296
      number = omega (arith, there, known.numbers)

      len : length_number (array_number c.own n) < 4294967296
      len = omega (arith, there, known.numbers)

      here : t < 4294967296
      here = omega (arith, low)

      next : suc t < 4294967296
      next = omega (arith, low)

      by : (own : Bool) (p : Option Portion) → fits_portion c.own n p ≡ true → Good room loop (stored_lines c.own n t at own p a w)
      by false p' e = store_good top (sort_of_name c.own n) (array_number c.own n) at a w number f g h
      by true None e = good_say t (words.Fit w (atom.Int (length_number (array_number c.own n)))) _ here (h, len)
          (store_good top (Some sort.Text) (array_number c.own n) at a (text.Variable t) number f g here)
      by true (Some p') e =
          let two = and_parts (is_own_text c.own n && fits_amount c.own p'.first) (fits_amount c.own p'.last) e in
          let one = and_parts (is_own_text c.own n) (fits_amount c.own p'.first) two.0 in
          let first = amount_fits c nests known p'.first one.1 in
          let last = amount_fits c nests known p'.last two.1 in
          good_say (suc t) (words.Cell (array_number c.own n) at) _ next (number, f)
          (good_say (suc (suc t)) (words.Part (text.Variable (suc t)) (amount_atom c.own p'.first) (amount_atom c.own p'.last)) _ low
          (next, first, last)
          (good_set (suc (suc t)) (int.Length (text.Variable (suc (suc t)))) _ low low
          (good_say t (words.Fit w (atom.Int (suc (suc t)))) _ here (h, low)
          (good_say t (words.Over (text.Variable (suc t)) (amount_atom c.own p'.first) (text.Variable t)) _ here (next, first, here)
          (store_good top (Some sort.Text) (array_number c.own n) at a (text.Variable t) number f g here)))))

  pub bounds_good : (array t dim : ℕ) (spans : List Span) → array < array_count c.own → suc t < 2 ^ 32 → dim + length spans ≤ 7 →
      list_all (λ s. fits_amount c.own s.lower && fits_amount c.own s.upper) spans ≡ true →
      Good room loop (bounds_lines c.own array t dim spans)
  bounds_good array t dim [] there low few fits = good_set t (int.Atom (atom.Number (pos 1))) [] (below t low) (small 1 (omega arith))
      (good_none top)
  bounds_good array t dim (s ∷ spans) there low few fits =
      let two = and_parts (fits_amount c.own s.lower && fits_amount c.own s.upper)
      (list_all (λ s'. fits_amount c.own s'.lower && fits_amount c.own s'.upper) spans) fits in
      let one = and_parts (fits_amount c.own s.lower) (fits_amount c.own s.upper) two.0 in
      let lower = amount_fits c nests known s.lower one.0 in
      let upper = amount_fits c nests known s.upper one.1 in
      let number : lower_number array dim < 4294967296 = omega (arith, there, few, known.numbers) in
      let extent : extent_number array dim < 4294967296 = omega (arith, there, few, known.numbers) in
      good_set (lower_number array dim) (int.Atom (amount_atom c.own s.lower)) _ number lower
      (good_compute (suc t) (amount_atom c.own s.upper) operator.Less (amount_atom c.own s.lower) _ low upper lower
      (good_else 0 (atom.Int (suc t)) _ _ _ (omega (arith, deep)) low
      (good_set (extent_number array dim) (int.Atom (atom.Number (pos 0))) [] extent (small 0 (omega arith)) (good_none (omega arith)))
      (good_compute (extent_number array dim) (amount_atom c.own s.upper) operator.Subtract (amount_atom c.own s.lower) _ extent upper
      lower (good_compute (extent_number array dim) (atom.Int (extent_number array dim)) operator.Add (atom.Number (pos 1)) [] extent
      extent (small 1 (omega arith)) (good_none (omega arith))))
      (good_both (bounds_lines c.own array t (suc dim) spans) _ (bounds_good array t (suc dim) spans there low (omega (arith, few)) two.1)
      (good_compute t (atom.Int (extent_number array dim)) operator.Multiply (atom.Int t) [] (below t low) extent (below t low)
      (good_none top)))))

  pub make_good : (k : Made) (b : Blank) (array t : ℕ) → array < array_count c.own → suc t < 2 ^ 32 →
      ((a : Amount) → b ≡ blank.Text a → fits_amount c.own a ≡ true) → Good room loop (make_lines c.own k b array t)
  make_good k blank.Int array t there low fits = ints_good top k array t (omega (arith, there, known.numbers)) (below t low)
  make_good k blank.Log array t there low fits = ints_good top k array t (omega (arith, there, known.numbers)) (below t low)
  make_good k (blank.Text a) array t there low fits =
      let number : length_number array < 4294967296 = omega (arith, there, known.numbers) in
      good_set (length_number array) (int.Atom (amount_atom c.own a)) _ number (amount_fits c nests known a (fits a refl))
      (good_compute (suc t) (atom.Int (length_number array)) operator.Less (atom.Number (pos 0)) _ low number (small 0 (omega arith))
      (good_if 0 (atom.Int (suc t)) _ _ (omega (arith, deep)) low
      (good_set (length_number array) (int.Atom (atom.Number (pos 0))) [] number (small 0 (omega arith)) (good_none (omega arith)))
      (texts_good top k array t number (below t low))))

  pub take_good : (t n k : ℕ) → suc t < 2 ^ 32 → n < 2 ^ 32 → k < 2 ^ 32 → Good room loop (take_lines t n (atom.Int k))
  take_good t n k low f g =
      good_set t (int.Look (atom.Int k)) _ (below t low) g
      (good_compute (suc t) (atom.Int t) operator.NotEqual (atom.Number (pos 1)) _ low (below t low) (small 1 (omega arith))
      (good_fault (atom.Int (suc t)) fault.EndOfInput _ (omega (arith, deep)) low
      (good_compute (suc t) (atom.Int t) operator.NotEqual (atom.Number (pos 2)) _ low (below t low) (small 2 (omega arith))
      (good_fault (atom.Int (suc t)) fault.BadInput _ (omega (arith, deep)) low
      (good_set n (int.Take (atom.Int k)) [] f g (good_none top))))))

  pub skip_good : (t k : ℕ) → t < 2 ^ 32 → k < 2 ^ 32 → Good room loop (skip_lines t (atom.Int k))
  skip_good t k low g =
      good_set t int.More _ low tt (good_compute t (atom.Int k) operator.Or (atom.Int t) _ low g low
      (good_fault (atom.Int t) fault.EndOfInput _ (omega (arith, deep)) low
      (good_row (row.Record record_row.Skip) [] tt refl (good_none top))))

  pub extents_good : (t : ℕ) (extents : List Amount) → t + length extents < 2 ^ 32 → list_all (fits_amount c.own) extents ≡ true →
      Good room loop (extent_lines c.own t extents)
  extents_good t [] low fits = good_none top
  extents_good t (a ∷ extents) low fits =
      let two = and_parts (fits_amount c.own a) (list_all (fits_amount c.own) extents) fits in
      good_set t (int.Atom (amount_atom c.own a)) _ (omega (arith, low)) (amount_fits c nests known a two.0)
      (extents_good (suc t) extents (omega (arith, low)) two.1)

-- loops over elements, under a test of each extent
pub where_good : (test t rank : ℕ) (inner : List Stmt) (room : ℕ) (loop : Bool) → room + rank ≤ 999 → test < 2 ^ 32 →
    t + rank < 2 ^ 32 → Good room loop inner → Good (room + rank) loop (where_elements test t rank inner)
where_good test t zero inner room loop top low few g = good_wider inner (omega arith) top g
where_good test t (suc rank) inner room loop top low few g =
    good_compute test (atom.Number (pos 0)) operator.Less (atom.Int t) _ low (small 0 (omega arith)) (omega (arith, few))
    (good_if (room + rank) (atom.Int test) (where_elements test (suc t) rank inner) [] (omega arith) low
    (where_good test (suc t) rank inner room loop (omega (arith, top)) low (omega (arith, few)) g) (good_none top))

loop_good : {room : ℕ} {loop : Bool} (inner : ℕ) (down : Bool) (k : ℕ) (bound : Atom) (body : List Stmt) → inner < room →
    room ≤ 999 → k < 2 ^ 32 → FitsAtom bound → Good inner true body → Good room loop (loop_line down k bound body ∷ [])
loop_good inner false k bound body less top number fits g = good_up inner k bound body [] less number fits g (good_none top)
loop_good inner true k bound body less top number fits g = good_down inner k bound body [] less number fits g (good_none top)

module _ (nests t rank : ℕ) (few : nests ≤ 1000) (ranked : rank ≤ 7) (low : t + rank < 2 ^ 32) where
  loop_there : (n : ℕ) → n ≤ rank → (loop_number (suc nests) n < 2 ^ 32) × (t + (n - 1) < 2 ^ 32)
  loop_there n within = (omega (arith, few, ranked, within), omega (arith, low, within))

  loops_inside : (order : List Level) (inner : List Stmt) (room : ℕ) → room + length order ≤ 999 →
      Every (λ n. (1 ≤ n) × (n ≤ rank)) (loops_of order) → Good room true inner →
      Good (room + length order) true (loop_lines (suc nests) t order inner)
  loops_inside [] inner room top range g = good_wider inner (omega arith) top g
  loops_inside (level ∷ order) inner room top range g =
      let there = loop_there level.number range.0.1 in
      loop_good (room + length order) level.down (loop_number (suc nests) level.number) (atom.Int (t + (level.number - 1)))
      (loop_lines (suc nests) t order inner) (omega arith) top there.0 there.1
      (loops_inside order inner room (omega (arith, top)) range.1 g)

  pub loops_good : (order : List Level) (inner : List Stmt) (room : ℕ) (loop : Bool) → room + length order ≤ 999 → 1 ≤ length order →
      Every (λ n. (1 ≤ n) × (n ≤ rank)) (loops_of order) → Good room true inner →
      Good (room + length order) loop (loop_lines (suc nests) t order inner)
  loops_good [] inner room loop top some range g = absurd (omega (arith, some))
  loops_good (level ∷ order) inner room loop top some range g =
      let there = loop_there level.number range.0.1 in
      loop_good (room + length order) level.down (loop_number (suc nests) level.number) (atom.Int (t + (level.number - 1)))
      (loop_lines (suc nests) t order inner) (omega arith) top there.0 there.1
      (loops_inside order inner room (omega (arith, top)) range.1 g)
