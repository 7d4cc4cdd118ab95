-- The program of a unit is one by the grammar.
use Rattle.std.proofs.Common.{◌≡◌, ℕ, zero, suc, ◌+◌, ◌<◌, ◌≤◌, ◌^◌, max, Bool, true, false, ◌&&◌, ◌||◌, nat_le, nat_eq, List, [], ◌∷◌, Option, Some, None, refl, sym, ap, ◌∙◌, arith, pos, length}
use Rattle.std.specs.Prelude.{FitsSigned, negsuc, slice_get, map}
use Rattle.std.specs.Int.{w64}
use Rattle.std.specs.List.{list_all, AllByRecursion}
use Rattle.std.proofs.lemmas.Bool.Decides.{nat_tests}
use Rattle.std.proofs.lemmas.List.{length-map}
use Rattle.a95_base.specs.Lists.{Every}
use Rattle.a95_base.proofs.Permuted.{Permuted-length, length-down_to_one}
use Rattle.std.proofs.lemmas.Bool.{or_cases, false_from_ne_true, false≢true, and_parts}
use Rattle.std.proofs.Common.{⊎_elim}
use Rattle.rank_shape.specs.Order.{Level}
use Rattle.rank_shape.proofs.Orders.{loops_in_range}
use Rattle.nest_tree.specs.declared.access.Access.{Access}
use Rattle.nest_tree.specs.declared.access.Amount.{Amount}
use Rattle.nest_tree.specs.declared.access.Name.{Name}
use Rattle.nest_tree.specs.declared.access.Name.TheVariants as name
use Rattle.nest_tree.specs.declared.tree.Blank.{Blank}
use Rattle.nest_tree.specs.declared.tree.Blank.TheVariants as blank
use Rattle.nest_tree.specs.declared.unit.Declared.{Declared}
use Rattle.nest_tree.specs.declared.unit.Sort.{Sort}
use Rattle.nest_tree.specs.declared.unit.Sort.TheVariants as sort
use Rattle.nest_tree.specs.Plain.{Tree, Guard, Statement, Set, Test, Store, StoreCell, Make, Grow, Rebound, Free, MakeList, StoreEntry, FreeList, Nest, If, While, Call, Put, Write, Take, Skip, Exit, Cycle, Return, Stop, Statements, no_statement, statement, Procedure, NestUnit}
use Rattle.nest_tree.specs.Sound.{Scope, in_nest, some_serves, served_by, is_sort, gives, sets, sort_of, sort_of_name, sort_of_blank, is_block, is_block_role, is_own_role, is_result_role, is_own_text, may_make, may_grow, may_store, stores_in, fits_amount, fits_blank, fits_spans, fits_access, fits_guard, fits_along, fits_portion, has_rank, has_dimension, declared_at, of_declared, one_deeper, is_left, FitsStatement, FitsAll, braces_of, all_braces, nodes_of, all_nodes, tree_nodes, guard_nodes, FitsProcedure}
use Rattle.loop_tree.specs.declared.atom.Atom.TheVariants as atom
use Rattle.loop_tree.specs.declared.row.BlockRow.TheVariants as block
use Rattle.loop_tree.specs.declared.row.ControlRow.TheVariants as control
use Rattle.loop_tree.specs.declared.row.IntValue.TheVariants as int
use Rattle.loop_tree.specs.declared.row.RecordRow.TheVariants as record_row
use Rattle.loop_tree.specs.declared.row.Row.TheVariants as row
use Rattle.loop_tree.specs.declared.tree.Stmt.TheVariants as stmt
use Rattle.loop_tree.specs.Program.{some_leaves, IsFunction}
use Rattle.nest_emit.specs.Numbers.{array_number, lower_number, extent_number, scalar_number, first_free}
use Rattle.nest_emit.specs.Trees.{amount_atom, atom_of, words_of, place_atom, place_lines, tree_lines, reference_to}
use Rattle.nest_emit.specs.Statements.{store_lines, piece_lines, bounds_lines, row_lines, extent_lines, loop_lines, leave_lines, behind_loop, leaves_more, all_leave_more, lines_of, all_lines, scope_of, function_of}
use Rattle.nest_emit.proofs.Values.{served, array_below, scalar_below}
use Rattle.nest_emit.proofs.Whole.{ranks_known}
use Rattle.nest_emit.proofs.Pieces.{named_sort}
use Rattle.emit_grammar.specs.Written.{is_bytes, written_tree, is_line, written_guard, written_statement, written_all}
use Rattle.emit_grammar.specs.GrammarLaws.{ProgramIsLoopC}
use Rattle.emit_grammar.proofs.Bodies.{Good, good_none, good_both, good_row, good_leave, good_set, good_else, good_if, good_fault, good_forever, good_wider}
use Rattle.emit_grammar.proofs.Trees.{Known, small, amount_fits, keep_good, place_good, place_atom_fits, reference_fits, GoodTree, tree_good, some_nodes}
use Rattle.emit_grammar.proofs.Statements.{good_line, put_good, leave_good, further_good, leaving_low, stored_good, bounds_good, make_good, take_good, skip_good, extents_good, where_good, loops_good}

-- ---- loops around

-- a statement that leaves loops stands in one
abbrev InLoop : Option ℕ → Bool → Type 0
InLoop None loop = Unit {0}
InLoop (Some zero) loop = Unit {0}
InLoop (Some (suc depth)) loop = loop ≡ true

-- few loops are around
abbrev Shallow : Option ℕ → ℕ → Type 0
Shallow None braces = Unit {0}
Shallow (Some depth) braces = depth + braces ≤ 1000

abbrev Reaches : Option ℕ → ℕ → Type 0
Reaches None k = ⊥
Reaches (Some depth) k = k < depth

shallow_less : (depth : Option ℕ) (a b : ℕ) → b ≤ a → Shallow depth a → Shallow depth b
shallow_less None a b less h = tt
shallow_less (Some d) a b less h = omega (arith, less, h)

shallow_inside : (depth : Option ℕ) (a b : ℕ) → suc b ≤ a → Shallow depth a → Shallow (one_deeper depth) b
shallow_inside None a b less h = tt
shallow_inside (Some d) a b less h = omega (arith, less, h)

in_it : (depth : Option ℕ) → InLoop (one_deeper depth) true
in_it None = tt
in_it (Some d) = refl

reach_one : (depth : Option ℕ) (k out : ℕ) → nat_le k out ≡ true → is_left depth out ≡ true → Reaches depth k
reach_one None k out h f = cc
reach_one (Some d) k out h f =
    let low : k ≤ out = grind (arith, nat_tests, h) in
    let less : out < d = grind (arith, nat_tests, f) in omega (arith, low, less)

reach_out : (depth : Option ℕ) (k : ℕ) → Reaches (one_deeper depth) (suc k) → Reaches depth k
reach_out None k h = absurd h
reach_out (Some d) k h = omega (arith, h)

mutual
  statement_reaches : (s : Statement) (c : Scope) (k : ℕ) (depth : Option ℕ) → leaves_more k s ≡ true → FitsStatement c depth s →
      Reaches depth k
  statement_reaches (Set line i x) c k depth h f = cc
  statement_reaches (Test line kind x) c k depth h f = cc
  statement_reaches (Store p) c k depth h f = cc
  statement_reaches (StoreCell line n x y) c k depth h f = cc
  statement_reaches (Make line b) c k depth h f = cc
  statement_reaches (Grow line n a) c k depth h f = cc
  statement_reaches (Rebound line n spans) c k depth h f = cc
  statement_reaches (Free line n) c k depth h f = cc
  statement_reaches (MakeList line l a) c k depth h f = cc
  statement_reaches (StoreEntry line l x y) c k depth h f = cc
  statement_reaches (FreeList line l) c k depth h f = cc
  statement_reaches (Nest own frame headers checks body) c k depth h f = cc
  statement_reaches (If line test yes_part no_part) c k depth h f =
      ⊎_elim (λ e. all_reach yes_part c k depth e f.1) (λ e. all_reach no_part c k depth e f.2)
      (or_cases (all_leave_more k yes_part) (all_leave_more k no_part) h)
  statement_reaches (While line head test body) c k depth h f = reach_out depth k (all_reach body c (suc k) (one_deeper depth) h f.2)
  statement_reaches (Call line p passed) c k depth h f = cc
  statement_reaches (Put line x) c k depth h f = cc
  statement_reaches Write c k depth h f = cc
  statement_reaches (Take line i b) c k depth h f = cc
  statement_reaches (Skip line b) c k depth h f = cc
  statement_reaches (Exit out) c k depth h f = reach_one depth k out h f
  statement_reaches (Cycle out) c k depth h f = reach_one depth k out h f
  statement_reaches Return c k depth h f = cc
  statement_reaches Stop c k depth h f = cc

  all_reach : (body : Statements) (c : Scope) (k : ℕ) (depth : Option ℕ) → all_leave_more k body ≡ true → FitsAll c depth body →
      Reaches depth k
  all_reach no_statement c k depth h f = cc
  all_reach (statement s more) c k depth h f =
      ⊎_elim (λ e. statement_reaches s c k depth e f.0) (λ e. all_reach more c k depth e f.1)
      (or_cases (leaves_more k s) (all_leave_more k more) h)

behind_in : (depth : Option ℕ) (loop : Bool) → Reaches (one_deeper depth) 1 → InLoop depth loop → loop ≡ true
behind_in None loop h inside = absurd h
behind_in (Some zero) loop h inside = absurd (omega (arith, h))
behind_in (Some (suc d)) loop h inside = inside

leaving_in : (depth : Option ℕ) (loop : Bool) (out : ℕ) → is_left depth out ≡ true → InLoop depth loop → loop ≡ true
leaving_in None loop out h inside = cc
leaving_in (Some zero) loop out h inside =
    let less : out < 0 = grind (arith, nat_tests, h) in absurd (omega (arith, less))
leaving_in (Some (suc d)) loop out h inside = inside

few_out : (depth : Option ℕ) (out braces : ℕ) → is_left depth out ≡ true → Shallow depth braces → out < 1000
few_out None out braces h few = cc
few_out (Some d) out braces h few = let less : out < d = grind (arith, nat_tests, h) in omega (arith, less, few)

-- ---- sorts that are there

two_there : (o p : Option Sort) → served_by o p ≡ true → ((s : Sort) × (o ≡ Some s)) × ((r : Sort) × (p ≡ Some r))
two_there None p h = cc
two_there (Some s) None h = cc
two_there (Some s) (Some r) h = ((s, refl), (r, refl))

sort_there : (o : Option Sort) (s : Sort) → is_sort o s ≡ true → (r : Sort) × (o ≡ Some r)
sort_there None s h = cc
sort_there (Some r) s h = (r, refl)

one_there : (o : Option Sort) → ((some_serves o sort.Int || some_serves o sort.Log) || some_serves o sort.Text) ≡ true →
    (r : Sort) × (o ≡ Some r)
one_there None h = cc
one_there (Some r) h = (r, refl)

-- ---- statements

module _ (c : Scope) (nests : ℕ) (known : Known c nests) where
  abbrev tree_here : (room : ℕ) (loop : Bool) (deep : 2 ≤ room) (top : room ≤ 999) (x : Tree) (s : Sort) → sort_of c x ≡ Some s →
      written_tree x ≡ true → (t : ℕ) → t + tree_nodes x + 4 ≤ 2 ^ 32 → GoodTree c nests known room loop deep top t x
  tree_here room loop deep top = tree_good c nests known room loop deep top

  scalar_low : (k : ℕ) (s : Sort) → slice_get c.own.scalars k ≡ Some s → scalar_number c.own k < 2 ^ 32
  scalar_low k s h = let within = scalar_below c.own k s h in omega (arith, within, known.numbers)

  given_sort : (x : Tree) (asked : Sort) → gives c x asked ≡ true → (s : Sort) × (sort_of c x ≡ Some s)
  given_sort x asked h = let s = served (sort_of c x) asked h in (s.sort, s.is)

  store_in : {room : ℕ} {loop : Bool} (deep : 2 ≤ room) (top : room ≤ 999) (t : ℕ) (target : Access) (x : Tree) →
      fits_access c target ≡ true → stores_in c target.name x ≡ true → written_tree x ≡ true →
      t + tree_nodes x + 8 ≤ 2 ^ 32 → Good room loop (store_lines c nests t target x)
  store_in {room} {loop} deep top t target x access stores w low =
      let two = and_parts (may_store c.own target.name) (served_by (sort_of_name c.own target.name) (sort_of c x)) stores in
      let sorts = two_there (sort_of_name c.own target.name) (sort_of c x) two.1 in
      let both = and_parts (has_rank c.own target.name (length target.dimensions)
      && list_all (λ d. fits_along c d.along) target.dimensions) (fits_portion c.own target.name target.portion) access in
      let alongs = and_parts (has_rank c.own target.name (length target.dimensions))
      (list_all (λ d. fits_along c d.along) target.dimensions) both.0 in
      let g = tree_here room loop deep top x sorts.1.0 sorts.1.1 w t (omega (arith, low)) in
      let next : suc t < 4294967296 = omega (arith, low) in
      good_both (tree_lines c nests t x) _ g.lines
      (good_both (place_lines c.own nests (suc t) (array_number c.own target.name) 0 target.dimensions) _
      (place_good c nests known top (suc t) (array_number c.own target.name) 0 target.dimensions (omega (arith, low))
      (array_below c.own target.name sorts.0.0 sorts.0.1)
      (omega (arith, known.ranks target.name (length target.dimensions) alongs.0)) alongs.1)
      (stored_good c nests known deep top target.name sorts.0.0 sorts.0.1 t (omega (arith, low))
      (place_atom c.own nests (suc t) target.dimensions) (atom_of c nests t x) (words_of c nests t x)
      (place_atom_fits c nests known (suc t) target.dimensions next) g.atom_in g.words_in (is_own_text c.own target.name)
      target.portion both.1))

  piece_good : {room : ℕ} {loop : Bool} → 5 ≤ room → room ≤ 999 → (t : ℕ) (target : Access) (guard : Option Guard) (line : ℕ)
      (x : Tree) → fits_access c target ≡ true → fits_guard c guard ≡ true → stores_in c target.name x ≡ true →
      is_line line ≡ true → written_guard guard ≡ true → written_tree x ≡ true →
      t + (guard_nodes guard + tree_nodes x) + 8 ≤ 2 ^ 32 → Good room loop (piece_lines c nests t target guard line x)
  piece_good deep top t target None line x access fits stores l w v low =
      good_line line _ l (store_in (omega (arith, deep)) top t target x access stores v (omega (arith, low)))
  piece_good {room} {loop} deep top t target (Some guard) line x access fits stores l w v low =
      let two = and_parts (is_line guard.line) (written_tree guard.test) w in
      let s = given_sort guard.test sort.Log fits in
      let g = tree_here room loop (omega (arith, deep)) top guard.test s.0 s.1 two.1 t (omega (arith, low)) in
      good_line guard.line _ two.0 (good_both (tree_lines c nests t guard.test) _ g.lines
      (good_if 4 (atom_of c nests t guard.test) _ [] (omega (arith, deep)) g.atom_in
      (good_line line _ l (store_in (omega arith) (omega arith) t target x access stores v (omega (arith, low)))) (good_none top)))

inside_nest : (c : Scope) (nests : ℕ) → Known c nests → (rank : ℕ) → rank ≤ 7 → suc nests ≤ 1000 → Known (in_nest c rank) (suc nests)
inside_nest c nests known rank few more = record {
  numbers = known.numbers;
  ranks = known.ranks;
  dimensions = known.dimensions;
  loops = few;
  nests_few = more;
  constants = known.constants;
}

text_amount : (q : Procedure) (b : Blank) → fits_blank q b ≡ true → (a : Amount) → b ≡ blank.Text a → fits_amount q a ≡ true
text_amount q b h a e = ap (fits_blank q) (sym e) ∙ h

small_out : (n : ℕ) → n < 1000 → FitsSigned w64 (pos n)
small_out n h = omega (arith, h)

small_further : (n : ℕ) → suc n < 1000 → FitsSigned w64 (negsuc n)
small_further n h = omega (arith, h)

module _ (c : Scope) (nests : ℕ) (known : Known c nests) where
  behind_good : {room : ℕ} {loop : Bool} → 3 ≤ room → room ≤ 999 → (b : Bool) → (b ≡ true → loop ≡ true) → (t : ℕ) → t < 2 ^ 32 →
      Good room loop (behind_loop c.own t b)
  behind_good deep top true inside t low = further_good deep top (inside refl) c.own t (leaving_low c nests known) low
  behind_good deep top false inside t low = good_none top

  cycle_good : {room : ℕ} {loop : Bool} → room ≤ 999 → (out : ℕ) → out < 1000 → loop ≡ true → (t : ℕ) →
      Good room loop (lines_of c nests t (Cycle out))
  cycle_good top zero few inside t = good_leave control.Continue [] tt inside (good_none top)
  cycle_good top (suc out) few inside t = leave_good top inside c.own (negsuc out) (leaving_low c nests known) (small_further out few)

  grow_good : {room : ℕ} {loop : Bool} → room ≤ 999 → (n : Name) (s : Sort) → sort_of_name c.own n ≡ Some s → (a : Amount) →
      fits_amount c.own a ≡ true → Good room loop (stmt.Row (row.Block (block.Grow (reference_to (sort_of_name c.own n)
      (array_number c.own n)) (amount_atom c.own a))) ∷ row_lines (reference_to (sort_of_name c.own n) (array_number c.own n))
      (array_number c.own n))
  grow_good top n s is a fits =
      let there = array_below c.own n s is in
      let r = reference_to (sort_of_name c.own n) (array_number c.own n) in
      let f = reference_fits c nests known (sort_of_name c.own n) (array_number c.own n) there in
      good_row (row.Block (block.Grow r (amount_atom c.own a))) _ (f, amount_fits c nests known a fits) refl
      (good_set (lower_number (array_number c.own n) 0) (int.Atom (atom.Number (pos 1))) _ (omega (arith, there, known.numbers))
      (small 1 (omega arith))
      (good_set (extent_number (array_number c.own n) 0) (int.Size r) [] (omega (arith, there, known.numbers)) f (good_none top)))

  module _ {room : ℕ} {loop : Bool} (deep : 5 ≤ room) (top : room ≤ 999) (t : ℕ) where
    set_good : (line k : ℕ) (x : Tree) → sets c k x ≡ true → (is_line line && written_tree x) ≡ true →
        t + tree_nodes x + 8 ≤ 2 ^ 32 → Good room loop (lines_of c nests t (Set line k x))
    set_good line k x f w low =
        let two = and_parts (is_line line) (written_tree x) w in
        let sorts = two_there (slice_get c.own.scalars k) (sort_of c x) f in
        let g = tree_here c nests known room loop (omega (arith, deep)) top x sorts.1.0 sorts.1.1 two.1 t (omega (arith, low)) in
        good_line line _ two.0 (good_both (tree_lines c nests t x) _ g.lines
        (keep_good top (slice_get c.own.scalars k) (scalar_number c.own k) (atom_of c nests t x) (words_of c nests t x)
        (scalar_low c nests known k sorts.0.0 sorts.0.1) g.atom_in g.words_in))

    test_good : (line : ℕ) (kind : _) (x : Tree) → gives c x sort.Log ≡ true → (is_line line && written_tree x) ≡ true →
        t + tree_nodes x + 8 ≤ 2 ^ 32 → Good room loop (lines_of c nests t (Test line kind x))
    test_good line kind x f w low =
        let two = and_parts (is_line line) (written_tree x) w in
        let s = given_sort c nests known x sort.Log f in
        let g = tree_here c nests known room loop (omega (arith, deep)) top x s.0 s.1 two.1 t (omega (arith, low)) in
        good_line line _ two.0 (good_both (tree_lines c nests t x) _ g.lines
        (good_fault (atom_of c nests t x) kind [] (omega (arith, deep)) g.atom_in (good_none top)))

    cell_store_good : (line : ℕ) (n : Name) (x y : Tree) → (gives c x sort.Exact && stores_in c n y) ≡ true →
        (is_line line && written_tree x && written_tree y) ≡ true → t + (tree_nodes x + tree_nodes y) + 8 ≤ 2 ^ 32 →
        Good room loop (lines_of c nests t (StoreCell line n x y))
    cell_store_good line n x y f w low =
        let fit = and_parts (gives c x sort.Exact) (stores_in c n y) f in
        let into = and_parts (may_store c.own n) (served_by (sort_of_name c.own n) (sort_of c y)) fit.1 in
        let sorts = two_there (sort_of_name c.own n) (sort_of c y) into.1 in
        let s = given_sort c nests known x sort.Exact fit.0 in
        let three = and_parts (is_line line && written_tree x) (written_tree y) w in
        let two = and_parts (is_line line) (written_tree x) three.0 in
        let g = tree_here c nests known room loop (omega (arith, deep)) top x s.0 s.1 two.1 t (omega (arith, low)) in
        let k = tree_here c nests known room loop (omega (arith, deep)) top y sorts.1.0 sorts.1.1 three.1 (suc t)
        (omega (arith, low, some_nodes x)) in
        good_line line _ two.0 (good_both (tree_lines c nests t x) _ g.lines
        (good_both (tree_lines c nests (suc t) y) _ k.lines
        (stored_good c nests known (omega (arith, deep)) top n sorts.0.0 sorts.0.1 (suc t) (omega (arith, low, some_nodes x, some_nodes y))
        (atom_of c nests t x) (atom_of c nests (suc t) y) (words_of c nests (suc t) y) g.atom_in k.atom_in k.words_in
        (is_own_text c.own n) None refl)))

    put_statement_good : (line : ℕ) (x : Tree) →
        ((some_serves (sort_of c x) sort.Int || some_serves (sort_of c x) sort.Log) || some_serves (sort_of c x) sort.Text) ≡ true →
        (is_line line && written_tree x) ≡ true → t + tree_nodes x + 8 ≤ 2 ^ 32 → Good room loop (lines_of c nests t (Put line x))
    put_statement_good line x f w low =
        let two = and_parts (is_line line) (written_tree x) w in
        let s = one_there (sort_of c x) f in
        let g = tree_here c nests known room loop (omega (arith, deep)) top x s.0 s.1 two.1 t (omega (arith, low)) in
        good_line line _ two.0 (good_both (tree_lines c nests t x) _ g.lines
        (put_good top (sort_of c x) (atom_of c nests t x) (words_of c nests t x) g.atom_in g.words_in))

mutual
  statement_good : (s : Statement) (c : Scope) (nests : ℕ) → Known c nests → (depth : Option ℕ) → FitsStatement c depth s →
      written_statement s ≡ true → (t : ℕ) → t + nodes_of s + braces_of s + 16 ≤ 2 ^ 32 → nests + braces_of s ≤ 1000 →
      Shallow depth (braces_of s) → (room : ℕ) (loop : Bool) → braces_of s + 2 ≤ room → room ≤ 999 → InLoop depth loop →
      Good room loop (lines_of c nests t s)
  statement_good (Set line k x) c nests known depth f w t low few sh room loop deep top inside =
      set_good c nests known (omega (arith, deep)) top t line k x f w (omega (arith, low))
  statement_good (Test line kind x) c nests known depth f w t low few sh room loop deep top inside =
      test_good c nests known (omega (arith, deep)) top t line kind x f w (omega (arith, low))
  statement_good (Store p) c nests known depth f w t low few sh room loop deep top inside =
      let two = and_parts (fits_access c p.target && fits_guard c p.guard) (stores_in c p.target.name p.value) f in
      let one = and_parts (fits_access c p.target) (fits_guard c p.guard) two.0 in
      let three = and_parts (is_line p.line && written_guard p.guard) (written_tree p.value) w in
      let both = and_parts (is_line p.line) (written_guard p.guard) three.0 in
      piece_good c nests known (omega (arith, deep)) top t p.target p.guard p.line p.value one.0 one.1 two.1 both.0 both.1 three.1
      (omega (arith, low))
  statement_good (StoreCell line n x y) c nests known depth f w t low few sh room loop deep top inside =
      cell_store_good c nests known (omega (arith, deep)) top t line n x y f w (omega (arith, low))
  statement_good (Make line b) c nests known depth f w t low few sh room loop deep top inside =
      let q = c.own in
      let three = and_parts
      (may_make b.made q b.name && served_by (sort_of_name q b.name) (Some (sort_of_blank b.blank)) && fits_blank q b.blank)
      (fits_spans q b.name b.bounds) f in
      let two = and_parts (may_make b.made q b.name && served_by (sort_of_name q b.name) (Some (sort_of_blank b.blank)))
      (fits_blank q b.blank) three.0 in
      let one = and_parts (may_make b.made q b.name) (served_by (sort_of_name q b.name) (Some (sort_of_blank b.blank))) two.0 in
      let spans = and_parts (has_rank q b.name (length b.bounds))
      (list_all (λ s. fits_amount q s.lower && fits_amount q s.upper) b.bounds) three.1 in
      let s = (two_there (sort_of_name q b.name) (Some (sort_of_blank b.blank)) one.1).0 in
      let there = array_below q b.name s.0 s.1 in
      let rank = known.ranks b.name (length b.bounds) spans.0 in
      good_line line _ w (good_both (bounds_lines q (array_number q b.name) t 0 b.bounds) _
      (bounds_good c nests known (omega (arith, deep)) top (array_number q b.name) t 0 b.bounds there (omega (arith, low))
      (omega (arith, rank)) spans.1)
      (make_good c nests known (omega (arith, deep)) top b.made b.blank (array_number q b.name) t there (omega (arith, low))
      (text_amount q b.blank two.1)))
  statement_good (Grow line n a) c nests known depth f w t low few sh room loop deep top inside =
      let two = and_parts (may_grow c.own n) (fits_amount c.own a) f in
      let s = named_sort is_result_role c.own n two.0 in
      good_line line _ w (grow_good c nests known top n s.0 s.1 a two.1)
  statement_good (Rebound line n spans) c nests known depth f w t low few sh room loop deep top inside =
      let two = and_parts (is_block c.own n) (fits_spans c.own n spans) f in
      let s = named_sort is_block_role c.own n two.0 in
      let fit = and_parts (has_rank c.own n (length spans))
      (list_all (λ s'. fits_amount c.own s'.lower && fits_amount c.own s'.upper) spans) two.1 in
      let rank = known.ranks n (length spans) fit.0 in
      good_line line _ w (bounds_good c nests known (omega (arith, deep)) top (array_number c.own n) t 0 spans
      (array_below c.own n s.0 s.1) (omega (arith, low)) (omega (arith, rank)) fit.1)
  statement_good (Free line n) c nests known depth f w t low few sh room loop deep top inside =
      let s = named_sort is_own_role c.own n f in
      good_line line _ w (good_row _ [] (reference_fits c nests known (sort_of_name c.own n) (array_number c.own n)
      (array_below c.own n s.0 s.1)) refl (good_none top))
  statement_good (MakeList line l a) c nests known depth f w t low few sh room loop deep top inside = good_none top
  statement_good (StoreEntry line l x y) c nests known depth f w t low few sh room loop deep top inside = good_none top
  statement_good (FreeList line l) c nests known depth f w t low few sh room loop deep top inside = good_none top
  statement_good (Nest own frame headers checks body) c nests known depth f w t low few sh room loop deep top inside =
      let two = and_parts (written_all checks) (written_all body) w in
      let rank = length frame.extents in
      let ranked = and_parts (nat_le 1 rank) (nat_le rank 7) f.0.ranked in
      let some : 1 ≤ rank = grind (arith, nat_tests, ranked.0) in
      let seven : rank ≤ 7 = grind (arith, nat_tests, ranked.1) in
      let long : length frame.order ≡ rank = sym (length-map frame.order (λ (l : Level). l.number))
      ∙ Permuted-length f.0.ordered ∙ length-down_to_one rank in
      let most = all_braces body in
      let inner = all_lines (in_nest c rank) (suc nests) (t + rank) body in
      let within = inside_nest c nests known rank seven (omega (arith, few, some)) in
      let g = all_good body (in_nest c rank) (suc nests) within None f.2 two.1 (t + rank) (omega (arith, low)) (omega (arith, few, some))
      tt (most + 2) true (omega arith) (omega (arith, deep, top)) tt in
      good_both (all_lines c nests t checks) _
      (all_good checks c nests known None f.1 two.0 t (omega (arith, low)) (omega (arith, few)) tt room loop (omega (arith, deep)) top tt)
      (good_both (extent_lines c.own t frame.extents) _
      (extents_good c nests known (omega (arith, deep)) top t frame.extents (omega (arith, low, seven)) f.0.amounts)
      (good_wider _ (omega (arith, deep, long)) top
      (where_good (t + rank) t rank (loop_lines (suc nests) t frame.order inner) (most + 2 + length frame.order) loop
      (omega (arith, deep, top, long)) (omega (arith, low, seven)) (omega (arith, low, seven))
      (loops_good nests t rank (omega (arith, few)) seven (omega (arith, low, seven)) frame.order inner (most + 2) loop
      (omega (arith, deep, top, long)) (omega (arith, some, long)) (loops_in_range rank frame.order f.0.ordered) g))))
  statement_good (If line test yes_part no_part) c nests known depth f w t low few sh room loop deep top inside =
      let four = and_parts (is_line line && written_tree test && written_all yes_part) (written_all no_part) w in
      let three = and_parts (is_line line && written_tree test) (written_all yes_part) four.0 in
      let two = and_parts (is_line line) (written_tree test) three.0 in
      let s = given_sort c nests known test sort.Log f.0 in
      let most = max (all_braces yes_part) (all_braces no_part) in
      let g = tree_here c nests known room loop (omega (arith, deep)) top test s.0 s.1 two.1 t (omega (arith, low)) in
      let one = all_good yes_part c nests known depth f.1 three.1 t (omega (arith, low)) (omega (arith, few))
      (shallow_less depth (suc most) (all_braces yes_part) (omega arith) sh) (most + 2) loop (omega arith) (omega (arith, deep, top))
      inside in
      let other = all_good no_part c nests known depth f.2 four.1 t (omega (arith, low)) (omega (arith, few))
      (shallow_less depth (suc most) (all_braces no_part) (omega arith) sh) (most + 2) loop (omega arith) (omega (arith, deep, top))
      inside in
      good_line line _ two.0 (good_both (tree_lines c nests t test) _ g.lines
      (good_else (most + 2) (atom_of c nests t test) (all_lines c nests t yes_part) (all_lines c nests t no_part) []
      (omega (arith, deep)) g.atom_in one other (good_none top)))
  statement_good (While line head test body) c nests known depth f w t low few sh room loop deep top inside =
      let four = and_parts (is_line line && written_all head && written_tree test) (written_all body) w in
      let three = and_parts (is_line line && written_all head) (written_tree test) four.0 in
      let two = and_parts (is_line line) (written_all head) three.0 in
      let s = given_sort c nests known test sort.Log f.1 in
      let most = max (all_braces head) (all_braces body) in
      let inner = most + 4 in
      let small_room : inner ≤ 999 = omega (arith, deep, top) in
      let g = tree_here c nests known inner true (omega arith) small_room test s.0 s.1 three.1 t (omega (arith, low)) in
      let first = all_good head c nests known None f.0 two.1 t (omega (arith, low)) (omega (arith, few)) tt inner true (omega arith)
      small_room tt in
      let last = all_good body c nests known (one_deeper depth) f.2 four.1 t (omega (arith, low)) (omega (arith, few))
      (shallow_inside depth (3 + most) (all_braces body) (omega arith) sh) inner true (omega arith) small_room (in_it depth) in
      good_forever inner _ _ (omega (arith, deep))
      (good_both (all_lines c nests t head) _ first (good_line line _ two.0 (good_both (tree_lines c nests t test) _ g.lines
      (good_else 0 (atom_of c nests t test) [] (leave_lines c.own (pos 0)) (all_lines c nests t body) (omega arith) g.atom_in
      (good_none (omega arith)) (leave_good (omega arith) refl c.own (pos 0) (leaving_low c nests known) (small_out 0 (omega arith)))
      last))))
      (behind_good c nests known (omega (arith, deep)) top (all_leave_more 1 body)
      (λ e. behind_in depth loop (all_reach body c 1 (one_deeper depth) e f.2) inside) t (omega (arith, low)))
  statement_good (Call line p passed) c nests known depth f w t low few sh room loop deep top inside = good_none top
  statement_good (Put line x) c nests known depth f w t low few sh room loop deep top inside =
      put_statement_good c nests known (omega (arith, deep)) top t line x f w (omega (arith, low))
  statement_good Write c nests known depth f w t low few sh room loop deep top inside =
      good_row (row.Record record_row.Write) [] tt refl (good_none top)
  statement_good (Take line k b) c nests known depth f w t low few sh room loop deep top inside =
      let two = and_parts (served_by (slice_get c.own.scalars k) (Some sort.Int)) (is_sort (slice_get c.own.scalars b) sort.Log) f in
      let s = (two_there (slice_get c.own.scalars k) (Some sort.Int) two.0).0 in
      let r = sort_there (slice_get c.own.scalars b) sort.Log two.1 in
      good_line line _ w (take_good c nests known (omega (arith, deep)) top t (scalar_number c.own k) (scalar_number c.own b)
      (omega (arith, low)) (scalar_low c nests known k s.0 s.1) (scalar_low c nests known b r.0 r.1))
  statement_good (Skip line b) c nests known depth f w t low few sh room loop deep top inside =
      let r = sort_there (slice_get c.own.scalars b) sort.Log f in
      good_line line _ w (skip_good c nests known (omega (arith, deep)) top t (scalar_number c.own b) (omega (arith, low))
      (scalar_low c nests known b r.0 r.1))
  statement_good (Exit out) c nests known depth f w t low few sh room loop deep top inside =
      leave_good top (leaving_in depth loop out f inside) c.own (pos out) (leaving_low c nests known)
      (small_out out (few_out depth out (braces_of (Exit out)) f sh))
  statement_good (Cycle out) c nests known depth f w t low few sh room loop deep top inside =
      cycle_good c nests known top out (few_out depth out (braces_of (Cycle out)) f sh) (leaving_in depth loop out f inside) t
  statement_good Return c nests known depth f w t low few sh room loop deep top inside =
      good_row (row.Control control.Return) [] tt refl (good_none top)
  statement_good Stop c nests known depth f w t low few sh room loop deep top inside =
      good_row (row.Control control.Stop) [] tt refl (good_none top)

  all_good : (body : Statements) (c : Scope) (nests : ℕ) → Known c nests → (depth : Option ℕ) → FitsAll c depth body →
      written_all body ≡ true → (t : ℕ) → t + all_nodes body + all_braces body + 16 ≤ 2 ^ 32 → nests + all_braces body ≤ 1000 →
      Shallow depth (all_braces body) → (room : ℕ) (loop : Bool) → all_braces body + 2 ≤ room → room ≤ 999 → InLoop depth loop →
      Good room loop (all_lines c nests t body)
  all_good no_statement c nests known depth f w t low few sh room loop deep top inside = good_none top
  all_good (statement s more) c nests known depth f w t low few sh room loop deep top inside =
      let two = and_parts (written_statement s) (written_all more) w in
      good_both (lines_of c nests t s) (all_lines c nests t more)
      (statement_good s c nests known depth f.0 two.0 t (omega (arith, low)) (omega (arith, few))
      (shallow_less depth (max (braces_of s) (all_braces more)) (braces_of s) (omega arith) sh) room loop (omega (arith, deep)) top
      inside)
      (all_good more c nests known depth f.1 two.1 t (omega (arith, low)) (omega (arith, few))
      (shallow_less depth (max (braces_of s) (all_braces more)) (all_braces more) (omega arith) sh) room loop (omega (arith, deep)) top
      inside)

-- ---- the whole

dimension_few : (q : Procedure) → ((n : Name) (rank : ℕ) → has_rank q n rank ≡ true → rank ≤ 7) → (n : Name) (dim : ℕ) →
    has_dimension q n dim ≡ true → dim ≤ 7
dimension_few q ranks (name.Own i) dim h = by (declared_at q i) refl h
  where
    itself : (n : ℕ) → nat_eq n n ≡ true
    itself n = grind (arith, nat_tests)

    by : (o : Option Declared) → declared_at q i ≡ o → of_declared false (λ d. nat_le 1 dim && nat_le dim d.rank) o ≡ true → dim ≤ 7
    by None e g = cc
    by (Some d) e g =
        let two = and_parts (nat_le 1 dim) (nat_le dim d.rank) g in
        let less : dim ≤ d.rank = grind (arith, nat_tests, two.1) in
        let few = ranks (name.Own i) d.rank (ap (of_declared false (λ d'. nat_eq d'.rank d.rank)) e ∙ itself d.rank) in
        omega (arith, less, few)
dimension_few q ranks (name.Temp i) dim h =
    let two = and_parts (nat_le 1 dim && nat_le dim 7) _ h in
    let one = and_parts (nat_le 1 dim) (nat_le dim 7) two.0 in
    grind (arith, nat_tests, one.1)

function_good : (unit : NestUnit) (q : Procedure) → list_all is_bytes unit.constants ≡ true → FitsProcedure unit q →
    written_all q.body ≡ true → IsFunction (function_of unit q)
function_good unit q constants fits w =
    let c = scope_of unit q in
    let ranks = ranks_known q fits.declared in
    let known : Known c 0 = record {
      numbers = omega (arith, fits.small_numbers);
      ranks = ranks;
      dimensions = dimension_few q ranks;
      loops = omega arith;
      nests_few = omega arith;
      constants = constants;
    } in
    let g = all_good q.body c 0 known (Some 0) fits.body w (first_free q) (omega (arith, fits.small_numbers, fits.few_braces))
    (omega (arith, fits.few_braces)) (omega (arith, fits.few_braces)) 999 false (omega (arith, fits.few_braces)) (omega arith) tt in
    record {
      parameters = omega arith;
      numbers = g.numbers;
      loops = false_from_ne_true (some_leaves (all_lines c 0 (first_free q) q.body)) (λ e. false≢true (g.loops e));
      braces = omega (arith, g.braces);
    }

functions_good : (unit : NestUnit) (qs : List Procedure) → list_all is_bytes unit.constants ≡ true → Every (FitsProcedure unit) qs →
    list_all (λ q. written_all q.body) qs ≡ true → AllByRecursion IsFunction (map (function_of unit) qs)
functions_good unit [] constants fits w = tt
functions_good unit (q ∷ qs) constants fits w =
    let two = and_parts (written_all q.body) (list_all (λ p. written_all p.body) qs) w in
    (function_good unit q constants fits.0 two.0, functions_good unit qs constants fits.1 two.1)

pub is_loop_c : ProgramIsLoopC
is_loop_c unit fits written = record {
  some = omega arith;
  count = omega (arith, fits.few, length-map unit.procedures (function_of unit));
  main = refl;
  each = (
    function_good unit unit.main written.constants fits.main written.main,
    functions_good unit unit.procedures written.constants fits.procedures written.procedures,
  );
}
