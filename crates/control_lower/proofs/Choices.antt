-- The CASEs of a SELECT, of which at most one is taken: a scalar holds the selector, and one tells whether a branch was taken.
use Rattle.std.proofs.Common.{◌≡◌, refl, ap, ◌∙◌, ℕ, ◌<◌, ◌≤◌, arith, Bool, true, false, List, []}
use Rattle.std.specs.Prelude.{Ok, length, not, ◌&&◌}
use Rattle.std.specs.List.{list_any}
use Rattle.a95_base.specs.declared.scalar.Scalar.{Scalar}
use Rattle.a95_base.specs.declared.scalar.Scalar.TheVariants as scalar
use Rattle.a95_base.specs.Lists.{Every}
use Rattle.a95_base.specs.Steps.{pure, ◌>>=◌}
use Rattle.nest_tree.proofs.Stays.{set_other}
use Rattle.f95_unit.specs.declared.operation.BinaryOp.TheVariants as binary
use Rattle.f95_unit.specs.declared.stmt.Range.{Range}
use Rattle.f95_unit.specs.Plain.{Program, Entity, Expr}
use Rattle.array_meaning.specs.Values.{only}
use Rattle.array_meaning.specs.State as source
use Rattle.array_meaning.specs.Trees as trees
use Rattle.array_meaning.specs.Expressions.{evaluate}
use Rattle.array_meaning.specs.Control.{Flow, Next, is_in}
use Rattle.nest_tree.specs.declared.unit.Sort.{Sort}
use Rattle.nest_tree.specs.Plain.{Tree, Statements, no_statement, statement, joined, Literal, Fixed, Binary, Set, If}
use Rattle.nest_tree.specs.State.{NestState, given}
use Rattle.nest_tree.specs.Statements.{Caller}
use Rattle.control_lower.specs.Trees.{sort_of_expr, lowered, held}
use Rattle.control_lower.specs.Units.{not_taken, in_ranges}
use Rattle.control_lower.proofs.Agree.{Agrees, run, parts_then, run_next}
use Rattle.control_lower.proofs.Stands.{HasSort, Holds, from_kept, kept_in, kept_at, set_here, value}
use Rattle.control_lower.proofs.Operators.{only_is, set_ok}
use Rattle.control_lower.proofs.Parts.{Valued, held_as, prepared, holds_from, literal_value}
use Rattle.control_lower.proofs.Tests.{if_ok}
use Rattle.control_lower.proofs.Runs.{FlowR, Runs, goes_here, goes_from, flow_then}
use Rattle.control_lower.proofs.Chains.{Flagged, flagged_end, instead_at, not_value, picked_true, picked_false, set_taken}
use Rattle.control_lower.proofs.Chains.{taken_then, goes_taken}
use Rattle.control_lower.proofs.Ranges.{told_in, binary_value, ranges_told, told_is_asked}
use Rattle.control_lower.proofs.Premises.{IsRange, IsScalar}

module _ (unit : Program) (entities : List Entity) (calls : Caller) (scalls : trees.Caller) where
  -- a list that does what a step does where the flag is false and the selector has this value, and nothing where the flag is true
  pub record Chosen (k flag sel : ℕ) (x : Scalar) (list : Statements) (q : source.Step Flow) : Type 0 where
    pub runs : (n : NestState) → Holds entities n.cells.plain.variables → n.pending ≡ [] → kept_in n flag ≡ scalar.Log false
        → kept_in n sel ≡ x
        → Agrees (FlowR unit entities calls k n) (run unit.constants calls list n) (q n.cells.plain)
    pub skips : (n : NestState) → kept_in n flag ≡ scalar.Log true → run unit.constants calls list n ≡ pure Next n

  -- CASE DEFAULT
  pub chosen_end : (line k flag sel k' : ℕ) (x : Scalar) (a : Statements) (q : source.Step Flow) → k ≤ k'
      → Runs unit entities calls k' a q
      → Chosen k flag sel x (statement (If line (not_taken flag) a no_statement) no_statement) q
  chosen_end line k flag sel k' x a q up h =
      let last : Flagged unit entities calls scalls k flag (statement (If line (not_taken flag) a no_statement) no_statement) q =
      flagged_end unit entities calls scalls line k flag k' a q up h in
      record { runs = λ n holds pending open' is. last.runs n holds pending open'; skips = last.skips }

  module _ (k flag sel kb : ℕ) (up : k ≤ kb) (below : flag < kb) (over : k ≤ flag) (x : Scalar) (rest : Statements)
      (q : source.Step Flow)
      (later : Chosen k flag sel x rest q) (line : ℕ) (s : Sort) (typed : HasSort s x) (ranges : List Range)
      (sorted : Every (IsRange unit.constants s) ranges) (a : Statements) (f : source.Step Flow)
      (body : Runs unit entities calls kb a f) where
    abbrev test : Tree
    test = Binary binary.And (not_taken flag) (in_ranges s (Fixed sel) ranges)

    abbrev act : Statements
    act = statement (Set line flag (Literal (scalar.Log true))) a

    test_value : (b : Bool) (n : NestState) → kept_in n flag ≡ scalar.Log b
        → value unit.constants calls scalls line [] test n
        ≡ given line (Ok (scalar.Log (not b && told_in unit.constants s (kept_in n sel) ranges))) n
    test_value b n h = binary_value unit calls scalls line binary.And (not_taken flag) (in_ranges s (Fixed sel) ranges)
        (scalar.Log (not b))
        (scalar.Log (told_in unit.constants s (kept_in n sel) ranges)) n (not_value unit entities calls scalls line flag b n h)
        (ranges_told unit calls scalls line s sel ranges n)

    told_by : (n : NestState) → kept_in n sel ≡ x → told_in unit.constants s (kept_in n sel) ranges ≡ list_any
        (is_in unit.constants x) ranges
    told_by n is = ap (λ y. told_in unit.constants s y ranges) is ∙ told_is_asked unit calls scalls line s x ranges typed sorted

    choose_case : (n : NestState) → Holds entities n.cells.plain.variables → n.pending ≡ [] → kept_in n flag ≡ scalar.Log false
        → kept_in n sel ≡ x
        → (t : Bool) → list_any (is_in unit.constants x) ranges ≡ t
        → Agrees (FlowR unit entities calls k n) (run unit.constants calls (statement (If line test act no_statement) rest) n)
        (source.choose t f q n.cells.plain)
    unfolding source.choose
    choose_case n holds pending open' is true e =
        rw (instead_at unit entities calls scalls (If line test act no_statement) a rest n (kept_at n flag (scalar.Log true))
        (if_ok unit calls scalls line test (scalar.Log (told_in unit.constants s (kept_in n sel) ranges)) act no_statement n
        (test_value false n open')
        ∙ picked_true unit entities calls scalls (told_in unit.constants s (kept_in n sel) ranges) (told_by n is ∙ e) act n
        ∙ set_taken unit entities calls scalls line flag a n))
        (taken_then unit entities calls scalls k flag kb up below rest later.skips a f body n (kept_at n flag (scalar.Log true))
        (goes_taken unit entities calls scalls k flag kb up below rest later.skips over n n
        (goes_here unit entities calls k n holds pending))
        (set_here n.cells.temps.setting.kept flag (scalar.Log true)))
    choose_case n holds pending open' is false e =
        rw (run_next unit.constants calls (If line test act no_statement) rest n n
        (if_ok unit calls scalls line test (scalar.Log (told_in unit.constants s (kept_in n sel) ranges)) act no_statement n
        (test_value false n open')
        ∙ picked_false unit entities calls scalls (told_in unit.constants s (kept_in n sel) ranges) (told_by n is ∙ e) act n))
        (later.runs n holds pending open' is)

    pub chosen_case : Chosen k flag sel x (statement (If line test act no_statement) rest)
        (source.choose (list_any (is_in unit.constants x) ranges) f q)
    chosen_case = record {
      runs = λ n holds pending open' is. choose_case n holds pending open' is (list_any (is_in unit.constants x) ranges) refl;
      skips = λ n shut. run_next unit.constants calls (If line test act no_statement) rest n n
          (if_ok unit calls scalls line test (scalar.Log false) act no_statement n (test_value true n shut)
          ∙ picked_false unit entities calls scalls false refl act n) ∙ later.skips n shut;
    }

  -- the flag is set where the selector stands already
  chosen_set : (line k flag sel : ℕ) (x : Scalar) (list : Statements) (q : source.Step Flow) → k ≤ flag → (sel ≡ flag → ⊥)
      → Chosen k flag sel x list q → (n : NestState) → Holds entities n.cells.plain.variables → n.pending ≡ [] → kept_in n sel ≡ x
      → Agrees (FlowR unit entities calls k n) (run unit.constants calls
      (statement (Set line flag (Literal (scalar.Log false))) list) n) (q n.cells.plain)
  chosen_set line k flag sel x list q up other h n holds pending is =
      rw (run_next unit.constants calls (Set line flag (Literal (scalar.Log false))) list n (kept_at n flag (scalar.Log false))
      (set_ok unit.constants calls scalls line flag (Literal (scalar.Log false)) (scalar.Log false) n
      (literal_value unit calls scalls line (scalar.Log false) [] n)))
      (flow_then unit entities calls k k n (kept_at n flag (scalar.Log false))
      (run unit.constants calls list (kept_at n flag (scalar.Log false)))
      (q n.cells.plain) (omega arith) (goes_from unit entities calls k n (kept_at n flag (scalar.Log false)) holds pending
      (from_kept k flag n (scalar.Log false) up))
      (h.runs (kept_at n flag (scalar.Log false)) holds pending (set_here n.cells.temps.setting.kept flag (scalar.Log false))
      (set_other n.cells.temps.setting.kept flag sel (scalar.Log false) other ∙ is)))

  pub runs_select : (line : ℕ) (e : Expr) (taken : List Sort) (k flag : ℕ) (list : Statements) (q : Scalar → source.Step Flow)
      → IsScalar unit.constants entities e → length taken ≤ k → k ≤ flag → length (lowered line taken e).scalars < k
      → ((x : Scalar) → HasSort (sort_of_expr e) x → Chosen k flag (length (lowered line taken e).scalars) x list (q x))
      → Runs unit entities calls (length taken)
      (joined (held line (sort_of_expr e) (lowered line taken e)).parts
      (statement (Set line flag (Literal (scalar.Log false))) list))
      (evaluate unit scalls line [] e >>= (λ v. q (only v)))
  runs_select line e taken k flag list q h up over below cases = record {
    runs = λ n holds pending.
        parts_then unit.constants calls (Valued unit calls scalls line (length taken) (length (lowered line taken e).scalars)
        (sort_of_expr e) n)
        (FlowR unit entities calls (length taken) n) (held line (sort_of_expr e) (lowered line taken e)).parts
        (statement (Set line flag (Literal (scalar.Log false))) list) (evaluate unit scalls line [] e) (λ v. q (only v)) n
        n.cells.plain
        (held_as unit entities calls scalls line e taken n (prepared unit entities calls scalls line e h taken n holds))
        (λ v n' r.
        let x : Scalar = kept_in n' (length (lowered line taken e).scalars) in
        rw (only_is unit.constants calls scalls line v x r.alone)
        (flow_then unit entities calls (length taken) k n n'
        (run unit.constants calls (statement (Set line flag (Literal (scalar.Log false))) list) n') (q x n'.cells.plain) up
        (goes_from unit entities calls (length taken) n n' holds pending r.from)
        (chosen_set line k flag (length (lowered line taken e).scalars) x list (q x) over
        (λ same. absurd (omega (arith, same, over, below))) (cases x r.typed) n'
        (holds_from entities (length taken) n n' r.from holds) (r.from.pending ∙ pending) refl)));
  }
