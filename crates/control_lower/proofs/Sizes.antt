-- What lowering adds: the scalars taken before stay, and the nodes, scalars and braces are few, counted by the nodes and blocks of
-- the source.
use Rattle.std.proofs.Common.{◌≡◌, refl, ℕ, zero, suc, ◌+◌, ◌*◌, ◌≤◌, arith, List, [], ◌∷◌, ◌++◌}
use Rattle.std.specs.Prelude.{Some, length, slice_get, pos}
use Rattle.std.proofs.Math.Nat.{le-max_left, le-max_right, max-le}
use Rattle.std.proofs.lemmas.Option.{none-some}
use Rattle.f95_unit.specs.Plain.{Expr, typed, Literal, Constant, Index, Named, Brackets, Unary, Binary, Constructor, Elementwise}
use Rattle.f95_unit.specs.Plain.{Trim}
use Rattle.f95_unit.specs.Plain.{Asked, Reduced, Rearranged, Called, Name, Of, Arguments, no_argument, argument}
use Rattle.nest_tree.specs.declared.unit.Sort.{Sort}
use Rattle.nest_tree.specs.declared.unit.Sort.TheVariants as sort
use Rattle.nest_tree.specs.Plain as nest
use Rattle.nest_tree.specs.Plain.{Tree, Trees, no_tree, tree, Statement, Statements, no_statement, statement, joined}
use Rattle.nest_tree.specs.Sound.{tree_nodes, trees_nodes, all_nodes, braces_of, all_braces}
use Rattle.control_lower.specs.Trees.{sort_of, sort_of_expr, Lowered, LoweredAll, held, lowered, arguments}
use Rattle.control_lower.specs.Units.{items}
use Rattle.control_lower.specs.Limits.{expr_nodes, arguments_nodes}
use Rattle.control_lower.proofs.Parts.{taken_more}

-- ---- the scalars that were taken stay

pub record Extends (xs ys : List Sort) : Type 0 where
  pub there : (k : ℕ) (s : Sort) → slice_get xs k ≡ Some s → slice_get ys k ≡ Some s

pub extends_self : (xs : List Sort) → Extends xs xs
extends_self xs = record { there = λ k s h. h }

pub extends_then : (xs ys zs : List Sort) → Extends xs ys → Extends ys zs → Extends xs zs
extends_then xs ys zs h g = record { there = λ k s e. g.there k s (h.there k s e) }

more_there : (xs more : List Sort) (k : ℕ) (s : Sort) → slice_get xs k ≡ Some s → slice_get (xs ++ more) k ≡ Some s
more_there [] more k s h = absurd (none-some s h)
more_there (x ∷ xs) more zero s h = h
more_there (x ∷ xs) more (suc k) s h = more_there xs more k s h

pub extends_more : (xs : List Sort) (s : Sort) → Extends xs (xs ++ s ∷ [])
extends_more xs s = record { there = λ k t h. more_there xs (s ∷ []) k t h }

pub last_there : (xs : List Sort) (s : Sort) → slice_get (xs ++ s ∷ []) (length xs) ≡ Some s
last_there [] s = refl
last_there (x ∷ xs) s = last_there xs s

-- ---- lists behind one another

pub joined_nodes : (p q : Statements) → all_nodes (joined p q) ≡ all_nodes p + all_nodes q
joined_nodes no_statement q = omega arith
joined_nodes (statement s more) q =
    let rest : all_nodes (joined more q) ≡ all_nodes more + all_nodes q = joined_nodes more q in
    omega (arith, rest)

pub joined_braces : (p q : Statements) (k : ℕ) → all_braces p ≤ k → all_braces q ≤ k → all_braces (joined p q) ≤ k
joined_braces no_statement q k h g = g
joined_braces (statement s more) q k h g =
    let one : braces_of s ≤ k = omega (arith, h, le-max_left (braces_of s) (all_braces more)) in
    let rest : all_braces more ≤ k = omega (arith, h, le-max_right (braces_of s) (all_braces more)) in
    max-le one (joined_braces more q k rest g)

-- ---- expressions

pub record Grows (taken : List Sort) (n : ℕ) (l : Lowered) : Type 0 where
  pub kept : Extends taken l.scalars
  pub nodes : 4 + (all_nodes l.parts + (tree_nodes l.tree + length l.scalars)) ≤ length taken + 8 * n
  pub braces : all_braces l.parts ≤ 3

-- the same with one scalar more
pub record GrowsHeld (taken : List Sort) (n : ℕ) (l : Lowered) : Type 0 where
  pub kept : Extends taken l.scalars
  pub nodes : 1 + (all_nodes l.parts + (tree_nodes l.tree + length l.scalars)) ≤ length taken + 8 * n
  pub braces : all_braces l.parts ≤ 3

pub record GrowsAll (taken : List Sort) (n : ℕ) (l : LoweredAll) : Type 0 where
  pub kept : Extends taken l.scalars
  pub nodes : all_nodes l.parts + (trees_nodes l.trees + length l.scalars) ≤ length taken + 8 * n
  pub braces : all_braces l.parts ≤ 3

pub grows_held : (line : ℕ) (s : Sort) (taken : List Sort) (n : ℕ) (l : Lowered) → Grows taken n l
    → GrowsHeld taken n (held line s l)
grows_held line s taken n l h = record {
  kept = extends_then taken l.scalars (l.scalars ++ s ∷ []) h.kept (extends_more l.scalars s);
  nodes = omega (
    arith,
    h.nodes,
    taken_more l.scalars s,
    joined_nodes l.parts
        (statement (nest.Set line (length l.scalars) l.tree) no_statement),
  );
  braces = joined_braces l.parts (statement (nest.Set line (length l.scalars) l.tree) no_statement) 3 h.braces (omega arith);
}

leaf_grows : (taken : List Sort) (t : Tree) → tree_nodes t ≤ 4
    → Grows taken 1 (record { parts = no_statement; tree = t; scalars = taken })
leaf_grows taken t h = record { kept = extends_self taken; nodes = omega (arith, h); braces = omega arith }

mutual
  pub expr_grows : (line : ℕ) (e : Expr) (taken : List Sort) → Grows taken (expr_nodes e) (lowered line taken e)
  expr_grows line (typed f (Literal x)) taken = leaf_grows taken (nest.Literal x) (omega arith)
  expr_grows line (typed f (Constant n)) taken = leaf_grows taken (nest.Constant n) (omega arith)
  expr_grows line (typed f (Index k)) taken = leaf_grows taken (nest.Number (pos 0)) (omega arith)
  expr_grows line (typed f (Named d)) taken = leaf_grows taken (lowered line taken (typed f (Named d))).tree (omega arith)
  expr_grows line (typed f (Brackets e)) taken =
      let h = expr_grows line e taken in
      record { kept = h.kept; nodes = omega (arith, h.nodes); braces = h.braces }
  expr_grows line (typed f (Unary op e)) taken =
      let h = expr_grows line e taken in
      record { kept = h.kept; nodes = omega (arith, h.nodes); braces = h.braces }
  expr_grows line (typed f (Binary op e g)) taken =
      let h = expr_grows line e taken in
      let k = expr_grows line g (lowered line taken e).scalars in
      record {
        kept = extends_then taken (lowered line taken e).scalars (lowered line (lowered line taken e).scalars g).scalars h.kept
            k.kept;
        nodes = omega (
          arith,
          h.nodes,
          k.nodes,
          joined_nodes (lowered line taken e).parts
              (lowered line (lowered line taken e).scalars g).parts,
        );
        braces = joined_braces (lowered line taken e).parts (lowered line (lowered line taken e).scalars g).parts 3 h.braces
            k.braces;
      }
  expr_grows line (typed f (Constructor items)) taken = leaf_grows taken (nest.Number (pos 0)) (omega arith)
  expr_grows line (typed f (Elementwise which es)) taken =
      let h = arguments_grow line es taken in
      let set : Statements = statement (nest.Set line (length (arguments line taken es).scalars)
      (nest.Each which (arguments line taken es).trees)) no_statement in
      record {
        kept = extends_then taken (arguments line taken es).scalars ((arguments line taken es).scalars ++ sort_of f ∷ []) h.kept
            (extends_more (arguments line taken es).scalars (sort_of f));
        nodes = omega (
          arith,
          h.nodes,
          taken_more (arguments line taken es).scalars (sort_of f),
          joined_nodes
              (arguments line taken es).parts set,
        );
        braces = joined_braces (arguments line taken es).parts set 3 h.braces (omega arith);
      }
  expr_grows line (typed f (Trim e)) taken =
      let h = expr_grows line e taken in
      let set : Statements = statement (nest.Set line (length (lowered line taken e).scalars)
      (nest.Trim (lowered line taken e).tree)) no_statement in
      record {
        kept = extends_then taken (lowered line taken e).scalars ((lowered line taken e).scalars ++ sort.Text ∷ []) h.kept
            (extends_more (lowered line taken e).scalars sort.Text);
        nodes = omega (
          arith,
          h.nodes,
          taken_more (lowered line taken e).scalars sort.Text,
          joined_nodes
              (lowered line taken e).parts set,
        );
        braces = joined_braces (lowered line taken e).parts set 3 h.braces (omega arith);
      }
  expr_grows line (typed f (Asked which dim (Name n))) taken =
      leaf_grows taken (lowered line taken (typed f (Asked which dim (Name n)))).tree (omega arith)
  expr_grows line (typed f (Asked which dim (Of e))) taken = leaf_grows taken (nest.Number (pos 0)) (omega arith)
  expr_grows line (typed f (Reduced which dim es)) taken = leaf_grows taken (nest.Number (pos 0)) (omega arith)
  expr_grows line (typed f (Rearranged which dim es)) taken = leaf_grows taken (nest.Number (pos 0)) (omega arith)
  expr_grows line (typed f (Called c)) taken = leaf_grows taken (nest.Number (pos 0)) (omega arith)

  pub arguments_grow : (line : ℕ) (es : Arguments) (taken : List Sort)
      → GrowsAll taken (arguments_nodes es) (arguments line taken es)
  arguments_grow line no_argument taken = record { kept = extends_self taken; nodes = omega arith; braces = omega arith }
  arguments_grow line (argument place e es) taken =
      let h = grows_held line (sort_of_expr e) taken (expr_nodes e) (lowered line taken e) (expr_grows line e taken) in
      let k = arguments_grow line es (held line (sort_of_expr e) (lowered line taken e)).scalars in
      record {
        kept = extends_then taken (held line (sort_of_expr e) (lowered line taken e)).scalars
            (arguments line (held line (sort_of_expr e) (lowered line taken e)).scalars es).scalars h.kept k.kept;
        nodes = omega (
          arith,
          h.nodes,
          k.nodes,
          joined_nodes (held line (sort_of_expr e) (lowered line taken e)).parts
              (arguments line (held line (sort_of_expr e) (lowered line taken e)).scalars es).parts,
        );
        braces = joined_braces (held line (sort_of_expr e) (lowered line taken e)).parts
            (arguments line (held line (sort_of_expr e) (lowered line taken e)).scalars es).parts 3 h.braces k.braces;
      }
