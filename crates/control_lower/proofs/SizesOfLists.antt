-- What the lowering of statements adds: the scalars taken before stay, and the nodes, scalars and braces are few.
use Rattle.std.proofs.Common.{◌≡◌, refl, ℕ, suc, ◌+◌, ◌*◌, ◌≤◌, arith, true, false, List, [], ◌∷◌, ◌++◌}
use Rattle.std.specs.Prelude.{Option, Some, None, length, max}
use Rattle.std.proofs.Math.Nat.{le-max_left, le-max_right, max-le}
use Rattle.a95_base.specs.declared.fault.FaultKind.TheVariants as fault
use Rattle.a95_base.specs.declared.scalar.Scalar.TheVariants as scalar
use Rattle.f95_unit.specs.declared.operation.BinaryOp.TheVariants as binary
use Rattle.f95_unit.specs.declared.stmt.Range.{Range}
use Rattle.f95_unit.specs.declared.stmt.Range.TheVariants as range
use Rattle.f95_unit.specs.Plain.{Expr, Designator, at, Whole, AllOf, Bound, Absent, Given, Stmt, Assigns, Masks, ForAll, Calls}
use Rattle.f95_unit.specs.Plain.{Allocate, Deallocate}
use Rattle.f95_unit.specs.Plain.{Print, Read, If, Select, Do, While, Forever, Exit, Cycle, Return, Stop, Stmts, no_stmt, stmt}
use Rattle.f95_unit.specs.Plain.{Branches}
use Rattle.f95_unit.specs.Plain.{no_branch, branch, Cases, no_case, case, Entity}
use Rattle.nest_tree.specs.declared.unit.Sort.{Sort}
use Rattle.nest_tree.specs.declared.unit.Sort.TheVariants as sort
use Rattle.nest_tree.specs.Plain as nest
use Rattle.nest_tree.specs.Plain.{Tree, Statement, Statements, no_statement, statement, joined, Literal, Fixed, Number, Binary, Set}
use Rattle.nest_tree.specs.Plain.{Test, Put}
use Rattle.nest_tree.specs.Sound.{tree_nodes, nodes_of, all_nodes, braces_of, all_braces}
use Rattle.control_lower.specs.Trees.{sort_of_expr, Lowered, held, lowered}
use Rattle.control_lower.specs.Units.{LoweredList, listed, store, items, stored, nonzero, step_of, count_tree, counting, first_then}
use Rattle.control_lower.specs.Units.{same_tree, in_range}
use Rattle.control_lower.specs.Units.{in_ranges, not_taken, taking, with_flag, lowered_stmt, lowered_all, branches, cases, makes}
use Rattle.control_lower.specs.Units.{initial, initials}
use Rattle.control_lower.specs.Limits.{expr_nodes, bound_nodes, exprs_nodes, stmt_nodes, stmts_nodes, branches_nodes, cases_nodes}
use Rattle.control_lower.specs.Limits.{initial_nodes, entities_nodes, blocks_in, stmts_blocks, branches_blocks, cases_blocks}
use Rattle.control_lower.proofs.Parts.{taken_more}
use Rattle.control_lower.proofs.Sizes.{Extends, extends_self, extends_then, extends_more, joined_nodes, joined_braces}
use Rattle.control_lower.proofs.Sizes.{grows_held, expr_grows}

pub record GrowsList (taken : List Sort) (n b : ℕ) (l : LoweredList) : Type 0 where
  pub kept : Extends taken l.scalars
  pub nodes : all_nodes l.list + length l.scalars ≤ length taken + 64 * n
  pub braces : all_braces l.list ≤ 3 * b + 3

none_grows : (taken : List Sort) (n b : ℕ) → GrowsList taken n b (listed no_statement taken)
none_grows taken n b = record { kept = extends_self taken; nodes = omega arith; braces = omega arith }

one_grows : (taken : List Sort) (s : Statement) → nodes_of s ≡ 1 → braces_of s ≡ 3
    → GrowsList taken 1 0 (listed (statement s no_statement) taken)
one_grows taken s h g = record {
  kept = extends_self taken;
  nodes = omega (arith, h);
  braces = max-le (omega (arith, g)) (omega arith);
}

-- ---- stores and records

pub stored_grows : (line : ℕ) (d : Designator) (e : Expr) (taken : List Sort)
    → GrowsList taken (expr_nodes e) 0 (stored line d (lowered line taken e))
stored_grows line (at j access part) e taken =
    let h = expr_grows line e taken in
    let one : Statements = statement (store line j (lowered line taken e).tree) no_statement in
    record {
      kept = h.kept;
      nodes = omega (arith, h.nodes, joined_nodes (lowered line taken e).parts one);
      braces = joined_braces (lowered line taken e).parts one 3 h.braces (omega arith);
    }

pub record GrowsItems (taken : List Sort) (n : ℕ) (l : LoweredList) : Type 0 where
  pub kept : Extends taken l.scalars
  pub nodes : all_nodes l.list + length l.scalars ≤ length taken + (1 + 64 * n)
  pub braces : all_braces l.list ≤ 3

pub items_grow : (line : ℕ) (es : List Expr) (taken : List Sort) → GrowsItems taken (exprs_nodes es) (items line taken es)
unfolding items
items_grow line [] taken = record { kept = extends_self taken; nodes = omega arith; braces = omega arith }
items_grow line (e ∷ es) taken =
    let h = expr_grows line e taken in
    let k = items_grow line es (lowered line taken e).scalars in
    let rest : Statements = statement (Put line (lowered line taken e).tree) (items line (lowered line taken e).scalars es).list in
    record {
      kept = extends_then taken (lowered line taken e).scalars (items line (lowered line taken e).scalars es).scalars h.kept k.kept;
      nodes = omega (arith, h.nodes, k.nodes, joined_nodes (lowered line taken e).parts rest);
      braces = joined_braces (lowered line taken e).parts rest 3 h.braces (max-le (omega arith) k.braces);
    }

-- ---- ranges

same_nodes : (s : Sort) (x c : ℕ) → tree_nodes (same_tree s (Fixed x) (nest.Constant c)) ≡ 3
same_nodes sort.Exact x c = refl
same_nodes sort.Int x c = refl
same_nodes sort.Log x c = refl
same_nodes sort.Text x c = refl

range_nodes : (s : Sort) (x : ℕ) (r : Range) → tree_nodes (in_range s (Fixed x) r) ≤ 7
range_nodes s x (range.One c) = omega (arith, same_nodes s x c)
range_nodes s x (range.From c) = omega arith
range_nodes s x (range.UpTo c) = omega arith
range_nodes s x (range.Between c d) = omega arith

ranges_nodes : (s : Sort) (x : ℕ) (rs : List Range) → tree_nodes (in_ranges s (Fixed x) rs) ≤ 1 + 8 * length rs
ranges_nodes s x [] = omega arith
ranges_nodes s x (r ∷ rs) = omega (arith, range_nodes s x r, ranges_nodes s x rs)

-- ---- the step of a DO

pub record GrowsStep (taken : List Sort) (n : ℕ) (l : Lowered) : Type 0 where
  pub kept : Extends taken l.scalars
  pub nodes : all_nodes l.parts + length l.scalars ≤ length taken + (8 + 8 * n)
  pub braces : all_braces l.parts ≤ 3
  pub single : tree_nodes l.tree ≡ 1

pub step_grows : (line : ℕ) (b : Bound) (taken : List Sort) → GrowsStep taken (bound_nodes b) (step_of line taken b)
step_grows line Absent taken = record { kept = extends_self taken; nodes = omega arith; braces = omega arith; single = refl }
step_grows line (Given e) taken =
    let h = grows_held line sort.Int taken (expr_nodes e) (lowered line taken e) (expr_grows line e taken) in
    let one : Statements = statement (Test line fault.ZeroStep (nonzero (Fixed (length (lowered line taken e).scalars))))
    no_statement in
    record {
      kept = h.kept;
      nodes = omega (arith, h.nodes, joined_nodes (held line sort.Int (lowered line taken e)).parts one);
      braces = joined_braces (held line sort.Int (lowered line taken e)).parts one 3 h.braces (omega arith);
      single = refl;
    }

-- ---- what stands around bodies

list_then_grows : (taken : List Sort) (n m b c d : ℕ) (first second : LoweredList) → b ≤ d → c ≤ d → GrowsList taken n b first
    → GrowsList first.scalars m c second → GrowsList taken (n + m) d (listed (joined first.list second.list) second.scalars)
list_then_grows taken n m b c d first second up up' h k = record {
  kept = extends_then taken first.scalars second.scalars h.kept k.kept;
  nodes = omega (arith, h.nodes, k.nodes, joined_nodes first.list second.list);
  braces = joined_braces first.list second.list (3 * d + 3) (omega (arith, h.braces, up)) (omega (arith, k.braces, up'));
}

-- braces around
nested : (p k : ℕ) → p ≤ k → max p 0 ≤ k
nested p k h = max-le h (omega arith)

in_if : (p q k : ℕ) → p ≤ k → q ≤ k → max (suc (max p q)) 0 ≤ suc k
in_if p q k h g =
    let one : max p q ≤ k = max-le h g in
    nested (suc (max p q)) (suc k) (omega (arith, one))

in_while : (p q k : ℕ) → p ≤ k → q ≤ k → max (3 + max p q) 0 ≤ 3 + k
in_while p q k h g =
    let one : max p q ≤ k = max-le h g in
    nested (3 + max p q) (3 + k) (omega (arith, one))

times_up : (b k : ℕ) → b ≤ k → 3 * b + 3 ≤ 3 * k + 3
times_up b k h = omega (arith, h)

-- branches one behind the other, whose bodies have so many blocks inside one another at most
pub record GrowsChain (taken : List Sort) (n k : ℕ) (l : LoweredList) : Type 0 where
  pub kept : Extends taken l.scalars
  pub nodes : all_nodes l.list + length l.scalars ≤ length taken + (60 + 64 * n)
  pub braces : all_braces l.list ≤ 3 * k + 6

end_grows : (line flag : ℕ) (taken : List Sort) (n b k : ℕ) (l : LoweredList) → b ≤ k → GrowsList taken n b l
    → GrowsChain taken n k (listed (statement (nest.If line (not_taken flag) l.list no_statement) no_statement) l.scalars)
end_grows line flag taken n b k l up h = record {
  kept = h.kept;
  nodes = omega (arith, h.nodes);
  braces =
      let one = in_if (all_braces l.list) 0 (3 * k + 3) (omega (arith, h.braces, times_up b k up)) (omega arith) in
      omega (arith, one);
}

branch_grows : (line around flag : ℕ) (e : Expr) (taken : List Sort) (n m b k : ℕ) (inner rest : LoweredList) → b ≤ k
    → GrowsList (lowered line taken e).scalars n b inner → GrowsChain inner.scalars m k rest
    → GrowsChain taken (suc (expr_nodes e + (n + m))) k
    (listed (statement (nest.If around (not_taken flag) (joined (lowered line taken e).parts
    (statement (nest.If line (lowered line taken e).tree (taking line flag inner) no_statement) no_statement)) no_statement)
    rest.list) rest.scalars)
branch_grows line around flag e taken n m b k inner rest up h g =
    let x = expr_grows line e taken in
    let act : Statements = statement (nest.If line (lowered line taken e).tree (taking line flag inner) no_statement) no_statement
    in
    let low : all_braces inner.list ≤ 3 * k + 3 = omega (arith, h.braces, times_up b k up) in
    let one : all_braces act ≤ suc (3 * k + 3) = in_if (max 3 (all_braces inner.list)) 0 (3 * k + 3) (max-le (omega arith) low)
    (omega arith) in
    let two : all_braces (joined (lowered line taken e).parts act) ≤ suc (3 * k + 3) =
    joined_braces (lowered line taken e).parts act (suc (3 * k + 3)) (omega (arith, x.braces)) one in
    let here : max (all_braces (joined (lowered line taken e).parts act)) 0 ≤ suc (3 * k + 3) = nested
    (all_braces (joined (lowered line taken e).parts act)) (suc (3 * k + 3)) two in
    record {
      kept = extends_then taken (lowered line taken e).scalars rest.scalars x.kept
          (extends_then (lowered line taken e).scalars inner.scalars rest.scalars h.kept g.kept);
      nodes = omega (arith, x.nodes, h.nodes, g.nodes, joined_nodes (lowered line taken e).parts act);
      braces = max-le (omega (arith, here)) g.braces;
    }

case_grows : (line flag sel : ℕ) (s : Sort) (rs : List Range) (taken : List Sort) (n m b k : ℕ) (inner rest : LoweredList) → b ≤ k
    → GrowsList taken n b inner → GrowsChain inner.scalars m k rest
    → GrowsChain taken (suc (length rs + (n + m))) k
    (listed (statement (nest.If line (Binary binary.And (not_taken flag) (in_ranges s (Fixed sel) rs)) (taking line flag inner)
    no_statement) rest.list) rest.scalars)
case_grows line flag sel s rs taken n m b k inner rest up h g =
    let low : all_braces inner.list ≤ 3 * k + 3 = omega (arith, h.braces, times_up b k up) in
    let here : max (max 3 (all_braces inner.list)) 0 ≤ 3 * k + 3 = nested (max 3 (all_braces inner.list)) (3 * k + 3)
    (max-le (omega arith) low) in
    record {
      kept = extends_then taken inner.scalars rest.scalars h.kept g.kept;
      nodes = omega (arith, h.nodes, g.nodes, ranges_nodes s sel rs);
      braces = max-le (omega (arith, here)) g.braces;
    }

if_grows : (line : ℕ) (e : Expr) (taken : List Sort) (n m b c : ℕ) (inner other : LoweredList)
    → GrowsList (lowered line taken e).scalars n b inner → GrowsList inner.scalars m c other
    → GrowsList taken (suc (suc (expr_nodes e + (n + 0)) + m)) (suc (max (max b 0) c))
    (listed (joined (lowered line taken e).parts (statement (nest.If line (lowered line taken e).tree inner.list other.list)
    no_statement)) other.scalars)
if_grows line e taken n m b c inner other h g =
    let x = expr_grows line e taken in
    let k : ℕ = max (max b 0) c in
    let act : Statements = statement (nest.If line (lowered line taken e).tree inner.list other.list) no_statement in
    let left : max b 0 ≤ k = le-max_left (max b 0) c in
    let here : b ≤ k = omega (arith, le-max_left b 0, left) in
    let one : all_braces act ≤ suc (3 * k + 3) = in_if (all_braces inner.list) (all_braces other.list) (3 * k + 3)
    (omega (arith, h.braces, times_up b k here)) (omega (arith, g.braces, times_up c k (le-max_right (max b 0) c))) in
    record {
      kept = extends_then taken (lowered line taken e).scalars other.scalars x.kept
          (extends_then (lowered line taken e).scalars inner.scalars other.scalars h.kept g.kept);
      nodes = omega (arith, x.nodes, h.nodes, g.nodes, joined_nodes (lowered line taken e).parts act);
      braces = joined_braces (lowered line taken e).parts act (3 * suc k + 3) (omega (arith, x.braces)) (omega (arith, one));
    }

while_grows : (line : ℕ) (e : Expr) (taken : List Sort) (n b : ℕ) (body : LoweredList)
    → GrowsList (lowered line taken e).scalars n b body
    → GrowsList taken (suc (expr_nodes e + n)) (suc b)
    (listed (statement (nest.While line (lowered line taken e).parts (lowered line taken e).tree body.list) no_statement)
    body.scalars)
while_grows line e taken n b body h =
    let x = expr_grows line e taken in
    let one = in_while (all_braces (lowered line taken e).parts) (all_braces body.list) (3 * b + 3) (omega (arith, x.braces))
    h.braces in
    record {
      kept = extends_then taken (lowered line taken e).scalars body.scalars x.kept h.kept;
      nodes = omega (arith, x.nodes, h.nodes);
      braces = omega (arith, one);
    }

forever_grows : (line : ℕ) (taken : List Sort) (n b : ℕ) (body : LoweredList) → GrowsList taken n b body
    → GrowsList taken (suc n) (suc b) (listed (statement (nest.While line no_statement (Literal (scalar.Log true)) body.list)
    no_statement) body.scalars)
forever_grows line taken n b body h =
    let one = in_while 0 (all_braces body.list) (3 * b + 3) (omega arith) h.braces in
    record { kept = h.kept; nodes = omega (arith, h.nodes); braces = omega (arith, one) }

-- the turns of a DO
counting_nodes : (line j value count : ℕ) (step : Tree) (body : Statements) → tree_nodes step ≡ 1
    → nodes_of (counting line j value count step body) ≡ 15 + all_nodes body
counting_nodes line j value count step body h = omega (arith, h)

counting_braces : (line j value count k : ℕ) (step : Tree) (body : Statements) → all_braces body ≤ 3 * k + 3
    → braces_of (counting line j value count step body) ≤ 3 * k + 6
counting_braces line j value count k step body h =
    let one : max 3 (max 3 (all_braces body)) ≤ 3 * k + 3 = max-le (omega arith) (max-le (omega arith) h) in
    let two : max (max 3 0) (max 3 (max 3 (all_braces body))) ≤ 3 * k + 3 = max-le (nested 3 (3 * k + 3) (omega arith)) one in
    omega (arith, two)

count_nodes : (a b : ℕ) (step : Tree) → tree_nodes step ≡ 1 → tree_nodes (count_tree (Fixed a) (Fixed b) step) ≡ 9
count_nodes a b step h = omega (arith, h)

do_grows : (line j : ℕ) (first last : Expr) (step : Bound) (taken : List Sort) (n b : ℕ) (body : List Sort → LoweredList)
    → ((more : List Sort) → GrowsList more n b (body more))
    → GrowsList taken (suc (expr_nodes first + (expr_nodes last + (bound_nodes step + n)))) (suc b)
    (first_then line j (lowered line taken first) (λ more. held line sort.Int (lowered line more last))
    (λ more. step_of line more step) body)
do_grows line j first last step taken n b body grows =
    let f : Lowered = held line sort.Exact (lowered line taken first) in
    let l : Lowered = held line sort.Int (lowered line f.scalars last) in
    let s : Lowered = step_of line l.scalars step in
    let inner : LoweredList = body (s.scalars ++ sort.Exact ∷ []) in
    let hf = grows_held line sort.Exact taken (expr_nodes first) (lowered line taken first) (expr_grows line first taken) in
    let hl = grows_held line sort.Int f.scalars (expr_nodes last) (lowered line f.scalars last) (expr_grows line last f.scalars) in
    let hs = step_grows line step l.scalars in
    let h = grows (s.scalars ++ sort.Exact ∷ []) in
    let turns : Statement = counting line j (length (lowered line taken first).scalars) (length s.scalars) s.tree inner.list in
    let tail : Statements = statement (Set line (length s.scalars)
    (count_tree (Fixed (length (lowered line taken first).scalars)) l.tree s.tree)) (statement turns no_statement) in
    let count : tree_nodes (count_tree (Fixed (length (lowered line taken first).scalars)) l.tree s.tree) ≡ 9 =
    count_nodes (length (lowered line taken first).scalars) (length (lowered line f.scalars last).scalars) s.tree hs.single in
    let turned : nodes_of turns ≡ 15 + all_nodes inner.list =
    counting_nodes line j (length (lowered line taken first).scalars) (length s.scalars) s.tree inner.list hs.single in
    let low : all_braces tail ≤ 3 * b + 6 = max-le (omega arith) (nested (braces_of turns) (3 * b + 6)
    (counting_braces line j (length (lowered line taken first).scalars) (length s.scalars) b s.tree inner.list h.braces)) in
    record {
      kept = extends_then taken f.scalars inner.scalars hf.kept (extends_then f.scalars l.scalars inner.scalars hl.kept
          (extends_then l.scalars s.scalars inner.scalars hs.kept
          (extends_then s.scalars (s.scalars ++ sort.Exact ∷ []) inner.scalars
          (extends_more s.scalars sort.Exact) h.kept)));
      nodes = omega (
        arith,
        hf.nodes,
        hl.nodes,
        hs.nodes,
        h.nodes,
        count,
        turned,
        taken_more s.scalars sort.Exact,
        joined_nodes f.parts (joined l.parts (joined s.parts tail)),
        joined_nodes l.parts (joined s.parts tail),
        joined_nodes
            s.parts tail,
      );
      braces = joined_braces f.parts (joined l.parts (joined s.parts tail)) (3 * suc b + 3) (omega (arith, hf.braces))
          (joined_braces l.parts (joined s.parts tail) (3 * suc b + 3) (omega (arith, hl.braces))
          (joined_braces s.parts tail (3 * suc b + 3) (omega (arith, hs.braces)) (omega (arith, low))));
    }

flag_grows : (line : ℕ) (taken : List Sort) (n k : ℕ) (l : LoweredList) → GrowsChain (taken ++ sort.Log ∷ []) n k l
    → GrowsList taken (suc n) (suc k) (listed (statement (Set line (length taken) (Literal (scalar.Log false))) l.list) l.scalars)
flag_grows line taken n k l h = record {
  kept = extends_then taken (taken ++ sort.Log ∷ []) l.scalars (extends_more taken sort.Log) h.kept;
  nodes = omega (arith, h.nodes, taken_more taken sort.Log);
  braces = max-le (omega arith) (omega (arith, h.braces));
}

select_grows : (line : ℕ) (e : Expr) (taken : List Sort) (n k : ℕ) (l : LoweredList)
    → GrowsList (held line (sort_of_expr e) (lowered line taken e)).scalars (suc n) (suc k) l
    → GrowsList taken (suc (expr_nodes e + n)) (suc k) (listed
    (joined (held line (sort_of_expr e) (lowered line taken e)).parts l.list) l.scalars)
select_grows line e taken n k l h =
    let x : Lowered = held line (sort_of_expr e) (lowered line taken e) in
    let g = grows_held line (sort_of_expr e) taken (expr_nodes e) (lowered line taken e) (expr_grows line e taken) in
    record {
      kept = extends_then taken x.scalars l.scalars g.kept h.kept;
      nodes = omega (arith, g.nodes, h.nodes, joined_nodes x.parts l.list);
      braces = joined_braces x.parts l.list (3 * suc k + 3) (omega (arith, g.braces)) h.braces;
    }

mutual
  pub stmt_grows : (s : Stmt) (taken : List Sort) → GrowsList taken (stmt_nodes s) (blocks_in s) (lowered_stmt taken s)
  stmt_grows (Assigns a) taken =
      let h = stored_grows a.line a.target.designator a.value taken in
      record { kept = h.kept; nodes = omega (arith, h.nodes); braces = h.braces }
  stmt_grows (Masks w) taken = none_grows taken 1 0
  stmt_grows (ForAll f) taken = none_grows taken 1 0
  stmt_grows (Calls line c) taken = none_grows taken 1 0
  stmt_grows (Allocate line objects) taken = none_grows taken 1 0
  stmt_grows (Deallocate line names) taken = none_grows taken 1 0
  stmt_grows (Print line es) taken =
      let h = items_grow line es taken in
      record { kept = h.kept; nodes = omega (arith, h.nodes); braces = omega (arith, h.braces) }
  stmt_grows (Read line targets) taken = none_grows taken 1 0
  stmt_grows (If no_branch otherwise) taken =
      let h = all_grow otherwise taken in
      let up : stmts_blocks otherwise ≤ max 0 (stmts_blocks otherwise) = le-max_right 0 (stmts_blocks otherwise) in
      record { kept = h.kept; nodes = omega (arith, h.nodes); braces = omega (arith, h.braces, up) }
  stmt_grows (If (branch line e body no_branch) otherwise) taken =
      if_grows line e taken (stmts_nodes body) (stmts_nodes otherwise) (stmts_blocks body) (stmts_blocks otherwise)
      (lowered_all (lowered line taken e).scalars body) (lowered_all (lowered_all (lowered line taken e).scalars body).scalars
      otherwise)
      (all_grow body (lowered line taken e).scalars) (all_grow otherwise (lowered_all (lowered line taken e).scalars body).scalars)
  stmt_grows (If (branch line e body (branch line' e' body' rest)) otherwise) taken =
      flag_grows line taken (branches_nodes (branch line e body (branch line' e' body' rest)) + stmts_nodes otherwise)
      (max (branches_blocks (branch line e body (branch line' e' body' rest))) (stmts_blocks otherwise))
      (branches line (length taken) (taken ++ sort.Log ∷ []) (branch line e body (branch line' e' body' rest))
      (λ later. lowered_all later otherwise))
      (branches_grow line (length taken) (branch line e body (branch line' e' body' rest)) (λ later. lowered_all later otherwise)
      (stmts_nodes otherwise) (stmts_blocks otherwise) (max (branches_blocks (branch line e body (branch line' e' body' rest)))
      (stmts_blocks otherwise))
      (le-max_left (branches_blocks (branch line e body (branch line' e' body' rest))) (stmts_blocks otherwise))
      (le-max_right (branches_blocks (branch line e body (branch line' e' body' rest))) (stmts_blocks otherwise))
      (λ later. all_grow otherwise later) (taken ++ sort.Log ∷ []))
  stmt_grows (Select line e choices otherwise) taken =
      let x : Lowered = held line (sort_of_expr e) (lowered line taken e) in
      let k : ℕ = max (cases_blocks choices) (stmts_blocks otherwise) in
      select_grows line e taken (cases_nodes choices + stmts_nodes otherwise) k
      (with_flag line x.scalars (λ more. cases line (sort_of_expr e) x.tree (length x.scalars) more choices
      (λ later. lowered_all later otherwise)))
      (flag_grows line x.scalars (cases_nodes choices + stmts_nodes otherwise) k
      (cases line (sort_of_expr e) x.tree (length x.scalars) (x.scalars ++ sort.Log ∷ []) choices
      (λ later. lowered_all later otherwise))
      (cases_grow line (sort_of_expr e) (length (lowered line taken e).scalars) (length x.scalars) choices
      (λ later. lowered_all later otherwise)
      (stmts_nodes otherwise) (stmts_blocks otherwise) k (le-max_left (cases_blocks choices) (stmts_blocks otherwise))
      (le-max_right (cases_blocks choices) (stmts_blocks otherwise)) (λ later. all_grow otherwise later)
      (x.scalars ++ sort.Log ∷ [])))
  stmt_grows (Do line j first last step body) taken =
      do_grows line j first last step taken (stmts_nodes body) (stmts_blocks body) (λ more. lowered_all more body)
      (λ more. all_grow body more)
  stmt_grows (While line e body) taken =
      while_grows line e taken (stmts_nodes body) (stmts_blocks body) (lowered_all (lowered line taken e).scalars body)
      (all_grow body (lowered line taken e).scalars)
  stmt_grows (Forever line body) taken = forever_grows line taken (stmts_nodes body) (stmts_blocks body) (lowered_all taken body)
      (all_grow body taken)
  stmt_grows (Exit line out) taken = one_grows taken (nest.Exit out) refl refl
  stmt_grows (Cycle line out) taken = one_grows taken (nest.Cycle out) refl refl
  stmt_grows (Return line) taken = one_grows taken nest.Return refl refl
  stmt_grows (Stop line) taken = one_grows taken nest.Stop refl refl

  pub all_grow : (ss : Stmts) (taken : List Sort) → GrowsList taken (stmts_nodes ss) (stmts_blocks ss) (lowered_all taken ss)
  all_grow no_stmt taken = none_grows taken 0 0
  all_grow (stmt s more) taken = list_then_grows taken (stmt_nodes s) (stmts_nodes more) (blocks_in s) (stmts_blocks more)
      (max (blocks_in s) (stmts_blocks more)) (lowered_stmt taken s) (lowered_all (lowered_stmt taken s).scalars more)
      (le-max_left (blocks_in s) (stmts_blocks more)) (le-max_right (blocks_in s) (stmts_blocks more))
      (stmt_grows s taken) (all_grow more (lowered_stmt taken s).scalars)

  pub branches_grow : (around flag : ℕ) (bs : Branches) (otherwise : List Sort → LoweredList) (n b k : ℕ) → branches_blocks bs ≤ k
      → b ≤ k
      → ((later : List Sort) → GrowsList later n b (otherwise later))
      → (taken : List Sort) → GrowsChain taken (branches_nodes bs + n) k (branches around flag taken bs otherwise)
  branches_grow around flag no_branch otherwise n b k up up' h taken =
      let g = end_grows around flag taken n b k (otherwise taken) up' (h taken) in
      record { kept = g.kept; nodes = omega (arith, g.nodes); braces = g.braces }
  branches_grow around flag (branch line e body rest) otherwise n b k up up' h taken =
      let inner : LoweredList = lowered_all (lowered line taken e).scalars body in
      let here : stmts_blocks body ≤ k = omega (arith, up, le-max_left (stmts_blocks body) (branches_blocks rest)) in
      let after : branches_blocks rest ≤ k = omega (arith, up, le-max_right (stmts_blocks body) (branches_blocks rest)) in
      let g = branch_grows line around flag e taken (stmts_nodes body) (branches_nodes rest + n) (stmts_blocks body) k inner
      (branches around flag inner.scalars rest otherwise) here (all_grow body (lowered line taken e).scalars)
      (branches_grow around flag rest otherwise n b k after up' h inner.scalars) in
      record { kept = g.kept; nodes = omega (arith, g.nodes); braces = g.braces }

  pub cases_grow : (line : ℕ) (s : Sort) (sel flag : ℕ) (cs : Cases) (otherwise : List Sort → LoweredList) (n b k : ℕ)
      → cases_blocks cs ≤ k → b ≤ k
      → ((later : List Sort) → GrowsList later n b (otherwise later))
      → (taken : List Sort) → GrowsChain taken (cases_nodes cs + n) k (cases line s (Fixed sel) flag taken cs otherwise)
  cases_grow line s sel flag no_case otherwise n b k up up' h taken =
      let g = end_grows line flag taken n b k (otherwise taken) up' (h taken) in
      record { kept = g.kept; nodes = omega (arith, g.nodes); braces = g.braces }
  cases_grow line s sel flag (case ranges body rest) otherwise n b k up up' h taken =
      let inner : LoweredList = lowered_all taken body in
      let here : stmts_blocks body ≤ k = omega (arith, up, le-max_left (stmts_blocks body) (cases_blocks rest)) in
      let after : cases_blocks rest ≤ k = omega (arith, up, le-max_right (stmts_blocks body) (cases_blocks rest)) in
      let g = case_grows line flag sel s ranges taken (stmts_nodes body) (cases_nodes rest + n) (stmts_blocks body) k inner
      (cases line s (Fixed sel) flag inner.scalars rest otherwise) here (all_grow body taken)
      (cases_grow line s sel flag rest otherwise n b k after up' h inner.scalars) in
      record { kept = g.kept; nodes = omega (arith, g.nodes); braces = g.braces }

-- ---- declarations

pub makes_nodes : (j : ℕ) (es : List Entity) → all_nodes (makes j es) ≡ length es
unfolding makes
makes_nodes j [] = refl
makes_nodes j (e ∷ es) = omega (arith, makes_nodes (suc j) es)

pub makes_braces : (j : ℕ) (es : List Entity) → all_braces (makes j es) ≤ 3
unfolding makes
makes_braces j [] = omega arith
makes_braces j (e ∷ es) = max-le (omega arith) (makes_braces (suc j) es)

initial_grows : (line j : ℕ) (e : Option Expr) (taken : List Sort) → GrowsList taken (initial_nodes e) 0 (initial line j e taken)
initial_grows line j None taken = none_grows taken 0 0
initial_grows line j (Some e) taken = stored_grows line (at j Whole AllOf) e taken

pub initials_grow : (j : ℕ) (es : List Entity) (taken : List Sort) → GrowsList taken (entities_nodes es) 0 (initials j taken es)
unfolding initials
initials_grow j [] taken = none_grows taken 0 0
initials_grow j (e ∷ es) taken =
    let g = list_then_grows taken (initial_nodes e.initial) (entities_nodes es) 0 0 0 (initial e.line j e.initial taken)
    (initials (suc j) (initial e.line j e.initial taken).scalars es) (omega arith) (omega arith)
    (initial_grows e.line j e.initial taken) (initials_grow (suc j) es (initial e.line j e.initial taken).scalars) in
    record { kept = g.kept; nodes = omega (arith, g.nodes); braces = g.braces }
