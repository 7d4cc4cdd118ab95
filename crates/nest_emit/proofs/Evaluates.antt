-- What the law of an element tree says.
use Rattle.std.proofs.Common.{◌≡◌, ℕ, ◌≤◌, true, List, ◌++◌, Some}
use Rattle.a95_base.specs.declared.scalar.Scalar.{Scalar}
use Rattle.a95_base.specs.Steps.{◌>>=◌}
use Rattle.nest_tree.specs.declared.unit.Sort.{Sort}
use Rattle.nest_tree.specs.Plain.{Tree}
use Rattle.nest_tree.specs.State.{NestState, cells_of, Step}
use Rattle.nest_tree.specs.Elements.{element}
use Rattle.nest_tree.specs.Sound.{Scope, some_serves, sort_of}
use Rattle.loop_tree.specs.declared.tree.CodeLine.{CodeLine}
use Rattle.loop_tree.specs.declared.tree.Function.{Function}
use Rattle.loop_tree.specs.Lines.{flats}
use Rattle.loop_tree.specs.State.{Brace}
use Rattle.loop_laws.specs.At.{Variables, value_of, bytes_of}
use Rattle.nest_emit.specs.Numbers.{first_free}
use Rattle.nest_emit.specs.Trees.{atom_of, words_of, tree_lines}
use Rattle.nest_emit.specs.Meets.{DoesAt}
use Rattle.nest_emit.specs.Kin.{Shows, Around, Kin, AtTurn, Keeps}
use Rattle.nest_emit.proofs.Values.{served, shows_serves}
use Rattle.nest_tree.specs.Statements.{Caller, applied}

-- Before its lines the machine does what the evaluation of the tree does with what goes on behind it, if behind the lines it
-- does what goes on with the value.
pub record Evaluates (functions : List Function) (limit : ℕ) (c : Scope) (nests : ℕ) (calls : Caller) (line : ℕ) (turn : List ℕ)
    (x : Tree) : Type 0 where
  pub does : (s : Sort) → sort_of c x ≡ Some s →
      (t : ℕ) → first_free c.own ≤ t → {around : Around} {n : NestState} {w : Variables} →
      Kin c.own around n w → AtTurn nests c.loops turn w → w.line ≡ line → {lines : List CodeLine} {braces : List Brace} →
      (go : Scalar → Step (Unit {0})) →
      ((m : NestState) (u : Variables) (z : Scalar) → Kin c.own around m u → Keeps t w u →
      Shows s (value_of u (atom_of c nests t x)) (bytes_of u (words_of c nests t x)) z →
      DoesAt functions limit m u lines braces (go z m)) →
      DoesAt functions limit n w (flats (tree_lines c nests t x) ++ lines) braces
      ((element cells_of c.unit.constants (applied calls) line turn x >>= go) n)

-- the same for any sort that the tree's serves
pub gives_served : {functions : List Function} {limit : ℕ} {c : Scope} {nests : ℕ} {calls : Caller} {line : ℕ} {turn : List ℕ}
    {x : Tree} →
    Evaluates functions limit c nests calls line turn x → (asked : Sort) → some_serves (sort_of c x) asked ≡ true →
    (t : ℕ) → first_free c.own ≤ t →
    {around : Around} {n : NestState} {w : Variables} →
    Kin c.own around n w → AtTurn nests c.loops turn w → w.line ≡ line → {lines : List CodeLine} {braces : List Brace} →
    (go : Scalar → Step (Unit {0})) →
    ((m : NestState) (u : Variables) (z : Scalar) → Kin c.own around m u → Keeps t w u →
    Shows asked (value_of u (atom_of c nests t x)) (bytes_of u (words_of c nests t x)) z →
    DoesAt functions limit m u lines braces (go z m)) →
    DoesAt functions limit n w (flats (tree_lines c nests t x) ++ lines) braces
    ((element cells_of c.unit.constants (applied calls) line turn x >>= go) n)
gives_served {c = c} {nests = nests} {x = x} law asked fits t free kin turned at go next =
    let s = served (sort_of c x) asked fits in
    law.does s.sort s.is t free kin turned at go (λ m u z k keep sh.
    next m u z k keep (shows_serves s.sort asked s.serves_it (value_of u (atom_of c nests t x))
    (bytes_of u (words_of c nests t x)) z sh))
