-- The program of a unit is one of the grammar.
use Rattle.std.proofs.Common.{◌≡◌, ℕ, suc, ◌+◌, ◌<◌, ◌≤◌, ◌^◌, Bool, true, false, ◌||◌, List, [], ◌∷◌, ◌++◌, refl, ap, ◌∙◌, sym}
use Rattle.std.proofs.Common.{subst, arith, pos, length, nat_le, nat_lt}
use Rattle.std.specs.Prelude.{map, if◌then◌else◌}
use Rattle.std.specs.List.{list_all, flat_map, AllByRecursion}
use Rattle.std.proofs.lemmas.Bool.{leb-true, and_parts, or_parts}
use Rattle.a95_base.proofs.Lists.{list_all_parts}
use Rattle.loop_tree.proofs.Bodies.{fit_both}
use Rattle.rank_one.specs.declared.unit.Unit.{Unit}
use Rattle.rank_one.specs.declared.unit.Array.{Array}
use Rattle.rank_one.specs.declared.unit.Statement.{Statement}
use Rattle.rank_one.specs.declared.unit.Action.{Action}
use Rattle.rank_one.specs.declared.unit.Action.TheVariants.{Assign, Print}
use Rattle.rank_one.specs.declared.unit.Sum.{Sum}
use Rattle.rank_one.specs.declared.unit.Addend.{Addend}
use Rattle.rank_one.specs.declared.unit.Term.{Term}
use Rattle.rank_one.specs.declared.unit.Factor.{Factor}
use Rattle.rank_one.specs.declared.unit.Factor.TheVariants as factor
use Rattle.rank_one.specs.Typed.{IsTyped, factors_of, factors_of_term, has_extent, is_typed_factor, extent_at, is_typed_action}
use Rattle.loop_tree.specs.declared.atom.Atom.{Atom}
use Rattle.loop_tree.specs.declared.atom.Atom.TheVariants as atom
use Rattle.loop_tree.specs.declared.row.IntValue.TheVariants as value
use Rattle.loop_tree.specs.declared.row.Row.{Row}
use Rattle.loop_tree.specs.declared.tree.CodeLine.{CodeLine}
use Rattle.loop_tree.specs.declared.tree.CodeLine.TheVariants as code
use Rattle.loop_tree.specs.declared.tree.Stmt.{Stmt}
use Rattle.loop_tree.specs.declared.tree.Stmt.TheVariants as stmt
use Rattle.loop_tree.specs.declared.tree.Stmt.TheOpen as layer
use Rattle.loop_tree.specs.Lines.{flat, flats}
use Rattle.loop_tree.specs.Program.{FitsAtom, FitsRow, FitsLine, leaves_row, leaves, some_leaves, depth}
use Rattle.loop_tree.specs.Program.{depths, IsProgram}
use Rattle.f95a_core.specs.Lowered.{set_row, load, factor_atom, times, product_code, product_atom, term_code, term_atom, plus}
use Rattle.f95a_core.specs.Lowered.{addends_code, addends_atom, sum_code, sum_atom, is_factor, value_code, value_atom, at_line}
use Rattle.f95a_core.specs.Lowered.{show, extent_of, assignment_code, action_code, statements_code, declared_code, program_of}
use Rattle.loop_tree.proofs.Trees.{flat-Row, flat-ForUp, leaves-Row, depth-Row, leaves-ForUp, depth-ForUp}
use Rattle.f95a_core.proofs.Statements.{small_extent, extent_is, extent_there}

-- ---- what each statement keeps, and so what a list of them does

-- its lines are in range, it leaves no loop, and so many braces are open in it at once
pub record Fine (n : ℕ) (body : List Stmt) : Type 0 where
  pub numbers : AllByRecursion FitsLine (flats body)
  pub loops : some_leaves body ≡ false
  pub braces : depths body ≤ n

fine_none : (n : ℕ) → Fine n []
fine_none n = record { numbers = tt; loops = refl; braces = omega arith }

-- one statement in front
fine_front : (n : ℕ) (s : Stmt) (more : List Stmt) → AllByRecursion FitsLine (flat s) → leaves s ≡ false → depth s ≤ n →
    Fine n more → Fine n (s ∷ more)
fine_front n s more fits stays shallow f = record {
  numbers = fit_both (flat s) (flats more) fits f.numbers;
  loops = ap (λ b. b || some_leaves more) stays ∙ f.loops;
  braces = omega (arith, f.braces);
}

fine_row : (n : ℕ) (r : Row) (more : List Stmt) → FitsRow r → leaves_row r ≡ false → Fine n more → Fine n (stmt.Row r ∷ more)
fine_row n r more fits stays f =
    let level : depth (stmt.Row r) ≤ n = omega (arith, depth-Row r) in
    fine_front n (stmt.Row r) more (subst (λ (ls : List CodeLine). AllByRecursion FitsLine ls) (sym (flat-Row r)) (fits, tt))
    (leaves-Row r ∙ stays) level f

fine_up : (n k : ℕ) (bound : Atom) (body more : List Stmt) → k < 2 ^ 32 → FitsAtom bound → Fine n body → Fine (n + 1) more →
    Fine (n + 1) (stmt.ForUp k bound body ∷ more)
fine_up n k bound body more small fits inner f =
    let level : depth (stmt.ForUp k bound body) ≤ n + 1 = omega (arith, depth-ForUp k bound body, inner.braces) in
    fine_front (n + 1) (stmt.ForUp k bound body) more
    (subst (λ (ls : List CodeLine). AllByRecursion FitsLine ls) (sym (flat-ForUp k bound body))
    ((small, fits), fit_both (flats body) (code.Close ∷ []) inner.numbers (tt, tt)))
    (leaves-ForUp k bound body) level f

all_parts : (xs ys : List CodeLine) → AllByRecursion FitsLine (xs ++ ys) → AllByRecursion FitsLine xs × AllByRecursion FitsLine ys
all_parts [] ys h = (tt, h)
all_parts (x ∷ xs) ys h = let more = all_parts xs ys h.1 in ((h.0, more.0), more.1)

fine_both : (n : ℕ) (a b : List Stmt) → Fine n a → Fine n b → Fine n (a ++ b)
fine_both n [] b f g = g
fine_both n (s ∷ a) b f g =
    let numbers = all_parts (flat s) (flats a) f.numbers in
    let loops = or_parts (leaves s) (some_leaves a) f.loops in
    let front : depth s ≤ n = omega (arith, f.braces) in
    fine_front n s (a ++ b) numbers.0 loops.0 front
    (fine_both n a b (record { numbers = numbers.1; loops = loops.1; braces = omega (arith, f.braces) }) g)

-- ---- the rows of a right side

module _ (decls : List Array) (count : length decls < 2 ^ 32) (n : ℕ) where
  place_small : (m p : ℕ) → has_extent decls m p ≡ true → p < 2 ^ 32
  place_small m p h = let there = (extent_there decls m p h).0 in omega arith

  atom_fits : (m : ℕ) → m < 2 ^ 32 → (f : Factor) → is_typed_factor decls n f ≡ true → FitsAtom (factor_atom m f)
  atom_fits m small (factor.Number z) h = let most = leb-true z 2147483647 h in omega arith
  atom_fits m small (factor.Array p) h = small

  fine_load : (m : ℕ) → m < 2 ^ 32 → (f : Factor) → is_typed_factor decls n f ≡ true → Fine 0 (load m f)
  fine_load m small (factor.Number z) h = fine_none 0
  fine_load m small (factor.Array p) h = fine_row 0 _ _ (small, (place_small n p h, omega arith)) refl (fine_none 0)

  fine_product : (m : ℕ) → m < 2 ^ 32 → (left : Atom) → FitsAtom left → (fs : List Factor) → list_all (is_typed_factor decls n) fs
      ≡ true → Fine 0 (product_code m left fs)
  fine_product m small left fits [] h = fine_none 0
  fine_product m small left fits (f ∷ fs) h =
      let parts = and_parts (is_typed_factor decls n f) (list_all (is_typed_factor decls n) fs) h in
      fine_both 0 (times m left f) (product_code m (atom.Int m) fs)
      (fine_both 0 (load 2 f) _ (fine_load 2 (omega arith) f parts.0)
      (fine_row 0 _ _ (small, (fits, atom_fits 2 (omega arith) f parts.0)) refl (fine_none 0)))
      (fine_product m small (atom.Int m) small fs parts.1)

  product_fits : (m : ℕ) → m < 2 ^ 32 → (left : Atom) → FitsAtom left → (fs : List Factor) → FitsAtom (product_atom m left fs)
  product_fits m small left fits [] = fits
  product_fits m small left fits (f ∷ fs) = product_fits m small (atom.Int m) small fs

  fine_term : (m : ℕ) → m < 2 ^ 32 → (t : Term) → list_all (is_typed_factor decls n) (factors_of_term t) ≡ true →
      Fine 0 (term_code m t)
  fine_term m small t h =
      let parts = and_parts (is_typed_factor decls n t.first) (list_all (is_typed_factor decls n) t.rest) h in
      fine_both 0 (load m t.first) _ (fine_load m small t.first parts.0)
      (fine_product m small (factor_atom m t.first) (atom_fits m small t.first parts.0) t.rest parts.1)

  term_fits : (m : ℕ) → m < 2 ^ 32 → (t : Term) → list_all (is_typed_factor decls n) (factors_of_term t) ≡ true →
      FitsAtom (term_atom m t)
  term_fits m small t h =
      let parts = and_parts (is_typed_factor decls n t.first) (list_all (is_typed_factor decls n) t.rest) h in
      product_fits m small (factor_atom m t.first) (atom_fits m small t.first parts.0) t.rest

  fine_addends : (left : Atom) → FitsAtom left → (more : List Addend) →
      list_all (is_typed_factor decls n) (flat_map (λ (a : Addend). factors_of_term a.term) more) ≡ true →
      Fine 0 (addends_code left more)
  fine_addends left fits [] h = fine_none 0
  fine_addends left fits (a ∷ more) h =
      let parts = list_all_parts (is_typed_factor decls n) (factors_of_term a.term)
      (flat_map (λ (a : Addend). factors_of_term a.term) more) h in
      fine_both 0 (plus left a) (addends_code (atom.Int 0) more)
      (fine_both 0 (term_code 1 a.term) _ (fine_term 1 (omega arith) a.term parts.0)
      (fine_row 0 _ _ (omega arith, (fits, term_fits 1 (omega arith) a.term parts.0)) refl (fine_none 0)))
      (fine_addends (atom.Int 0) (omega arith) more parts.1)

  addends_fit : (left : Atom) → FitsAtom left → (more : List Addend) → FitsAtom (addends_atom left more)
  addends_fit left fits [] = fits
  addends_fit left fits (a ∷ more) = addends_fit (atom.Int 0) (omega arith) more

  module _ (s : Sum) (h : list_all (is_typed_factor decls n) (factors_of s) ≡ true) where
    abbrev parts : (list_all (is_typed_factor decls n) (factors_of_term s.first) ≡ true)
        × (list_all (is_typed_factor decls n) (flat_map (λ (a : Addend). factors_of_term a.term) s.rest) ≡ true)
    parts = list_all_parts (is_typed_factor decls n) (factors_of_term s.first) (flat_map (λ (a : Addend). factors_of_term a.term) s.rest)
        h

    sum_fits : FitsAtom (sum_atom s)
    sum_fits = addends_fit (term_atom 0 s.first) (term_fits 0 (omega arith) s.first parts.0) s.rest

    fine_value : Fine 0 (value_code s)
    fine_value =
        fine_both 0 (sum_code s) _
        (fine_both 0 (term_code 0 s.first) _ (fine_term 0 (omega arith) s.first parts.0)
        (fine_addends (term_atom 0 s.first) (term_fits 0 (omega arith) s.first parts.0) s.rest parts.1))
        (by (is_factor s))
      where
        by : (alone : Bool) → Fine 0 (if alone then [] else set_row 0 (value.Wrap (sum_atom s)) ∷ [])
        by true = fine_none 0
        by false = fine_row 0 _ _ (omega arith, sum_fits) refl (fine_none 0)

    value_fits : FitsAtom (value_atom s)
    value_fits = by (is_factor s)
      where
        by : (alone : Bool) → FitsAtom (if alone then sum_atom s else atom.Int 0)
        by true = sum_fits
        by false = omega arith

-- ---- statements

module _ (decls : List Array) (count : length decls < 2 ^ 32)
    (small : list_all (λ (a : Array). nat_le a.extent (2 ^ 24)) decls ≡ true) where
  bound_fits : (n : ℕ) → n ≤ 2 ^ 24 → FitsAtom (atom.Number (pos n))
  bound_fits n h = omega arith

  -- the body of a loop that begins with its line
  fine_loop : (line n : ℕ) (body more : List Stmt) → line < 2 ^ 32 → n ≤ 2 ^ 24 → Fine 0 body → Fine 1 more →
      Fine 1 (stmt.ForUp 1 (atom.Number (pos n)) (at_line line ∷ body) ∷ more)
  fine_loop line n body more fits extent f g = fine_up 0 1 (atom.Number (pos n)) (at_line line ∷ body) more (omega arith)
      (bound_fits n extent) (fine_row 0 _ _ fits refl f) g

  fine_assignment : (line t : ℕ) (sum : Sum) → line < 2 ^ 32 → t < length decls →
      list_all (is_typed_factor decls (extent_of decls t)) (factors_of sum) ≡ true → Fine 1 (assignment_code decls line t sum)
  fine_assignment line t sum fits here typed =
      let n = extent_of decls t in
      let extent = small_extent decls t small in
      let target : t < 2 ^ 32 = omega arith in
      fine_row 1 _ _ fits refl (fine_row 1 _ _ (count, bound_fits n extent) refl
      (fine_loop line n (value_code sum ++ (_ ∷ [])) _ fits extent
      (fine_both 0 (value_code sum) _ (fine_value decls count n sum typed)
      (fine_row 0 _ _ (count, omega arith, value_fits decls count n sum typed) refl (fine_none 0)))
      (fine_loop line n _ _ fits extent
      (fine_row 0 _ _ (omega arith, (count, omega arith)) refl
      (fine_row 0 _ _ (target, omega arith, omega arith) refl (fine_none 0)))
      (fine_row 1 _ _ count refl (fine_none 1)))))

  fine_shows : (line : ℕ) (ps : List ℕ) → line < 2 ^ 32 → list_all (λ p. nat_lt p (length decls)) ps ≡ true →
      Fine 1 (map (λ place. show line (extent_of decls place) place) ps)
  fine_shows line [] fits h = fine_none 1
  fine_shows line (p ∷ ps) fits h =
      let parts = and_parts (nat_lt p (length decls)) (list_all (λ q. nat_lt q (length decls)) ps) h in
      let below : p < length decls = leb-true (suc p) (length decls) parts.0 in
      let place : p < 2 ^ 32 = omega arith in
      fine_loop line (extent_of decls p) _ _ fits (small_extent decls p small)
      (fine_row 0 _ _ (omega arith, (place, omega arith)) refl (fine_row 0 _ _ (omega arith) refl (fine_none 0)))
      (fine_shows line ps fits parts.1)

  fine_action : (line : ℕ) (a : Action) → line < 2 ^ 32 → is_typed_action decls a ≡ true → Fine 1 (action_code decls line a)
  fine_action line (Assign t sum) fits typed =
      let parts = and_parts (nat_lt t (length decls)) (list_all (is_typed_factor decls (extent_at decls t)) (factors_of sum)) typed in
      fine_assignment line t sum fits (leb-true (suc t) (length decls) parts.0)
      (subst (λ m. list_all (is_typed_factor decls m) (factors_of sum) ≡ true) (extent_is decls t) parts.1)
  fine_action line (Print places) fits typed =
      let parts = and_parts (nat_lt 0 (length places)) (list_all (λ p. nat_lt p (length decls)) places) typed in
      fine_row 1 _ _ fits refl
      (fine_both 1 (map (λ place. show line (extent_of decls place) place) places) _ (fine_shows line places fits parts.1)
      (fine_row 1 _ _ tt refl (fine_none 1)))

  fine_statements : (ss : List Statement) → list_all (λ (s : Statement). nat_lt s.line (2 ^ 32)) ss ≡ true →
      list_all (λ (s : Statement). is_typed_action decls s.action) ss ≡ true → Fine 1 (statements_code decls ss)
  fine_statements [] lines typed = fine_none 1
  fine_statements (s ∷ ss) lines typed =
      let line = and_parts (nat_lt s.line (2 ^ 32)) (list_all (λ (x : Statement). nat_lt x.line (2 ^ 32)) ss) lines in
      let type = and_parts (is_typed_action decls s.action) (list_all (λ (x : Statement). is_typed_action decls x.action) ss) typed in
      fine_both 1 (action_code decls s.line s.action) (statements_code decls ss)
      (fine_action s.line s.action (leb-true (suc s.line) (2 ^ 32) line.0) type.0) (fine_statements ss line.1 type.1)

fine_declared : (number : ℕ) (decls : List Array) → number + length decls < 2 ^ 32 →
    list_all (λ (a : Array). nat_le a.extent (2 ^ 24)) decls ≡ true
    → list_all (λ (a : Array). nat_lt a.line (2 ^ 32)) decls ≡ true → Fine 1 (declared_code number decls)
fine_declared number [] count small lines = fine_none 1
fine_declared number (a ∷ decls) count small lines =
    let extent = and_parts (nat_le a.extent (2 ^ 24)) (list_all (λ (b : Array). nat_le b.extent (2 ^ 24)) decls) small in
    let line = and_parts (nat_lt a.line (2 ^ 32)) (list_all (λ (b : Array). nat_lt b.line (2 ^ 32)) decls) lines in
    let here : number < 2 ^ 32 = omega arith in
    let size : a.extent ≤ 2 ^ 24 = leb-true a.extent (2 ^ 24) extent.0 in
    fine_row 1 _ _ (leb-true (suc a.line) (2 ^ 32) line.0) refl
    (fine_row 1 _ _ (here, omega arith) refl (fine_declared (number + 1) decls (omega arith) extent.1 line.1))

pub program_fits : (unit : Unit) → IsTyped unit → IsProgram (program_of unit)
program_fits unit typed =
    let fine = fine_both 1 (declared_code 0 unit.arrays) (statements_code unit.arrays unit.statements)
    (fine_declared 0 unit.arrays (omega (arith, typed.count)) typed.extents typed.array_lines)
    (fine_statements unit.arrays typed.count typed.extents unit.statements typed.statement_lines typed.statements) in
    record {
      some = omega arith;
      count = omega arith;
      main = refl;
      each = (
        record { parameters = omega arith; numbers = fine.numbers; loops = fine.loops; braces = omega (arith, fine.braces) },
        tt,
      );
    }
