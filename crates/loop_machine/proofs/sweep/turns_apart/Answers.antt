use Rattle.std.proofs.Common.{◌≡◌, ℕ, ◌+◌, ◌-◌, List, ◌∷◌, drop, length, Option, Some, true, refl, ap, sym, ◌∙◌, subst, arith}
use Rattle.std.proofs.Common.{rules}
use Rattle.std.specs.Prelude.{slice_get}
use Rattle.loop_tree.specs.declared.tree.CodeLine.{CodeLine}
use Rattle.loop_tree.specs.declared.tree.CodeLine.TheVariants as code
use Rattle.loop_tree.specs.Values.{number_at}
use Rattle.loop_rows.specs.declared.state.Core.{Core}
use Rattle.loop_rows.specs.Shown.{shown, lines_in}
use Rattle.loop_machine.specs.Steps.{ReachesSilently}
use Rattle.loop_machine.specs.Plans.{IsSettled, assembled, placed, row_of}
use Rattle.loop_machine.proofs.Variables.{set_same}
use Rattle.loop_rows.proofs.Exits.{drop_next}
use Rattle.loop_machine.proofs.Steps.{reaches_itself, step_on}
use Rattle.loop_machine.proofs.Plans.{first_at}
use Rattle.loop_machine.proofs.Turns.{row_leads}
use Rattle.loop_machine.proofs.sweep.turns_apart.Goals as goal

pub loop-row-init : goal.loop-row-init
loop-row-init c =
    let fs = c.args.routines.now in
    let core = assembled c.args.core.now c.args.ints.now c.args.blocks.now in
    let plan = c.args.plan.now in
    let none : core.active.place ≡ core.active.place + (length plan - length plan) = omega arith in
    let all : length plan - length plan ≡ 0 = omega arith in
    record {
      within = omega arith;
      led = subst (λ (i : ℕ). ReachesSilently fs (shown fs core) 0 (shown fs (placed core i))) none
          (reaches_itself fs (shown fs core));
      rows = omega arith;
      behind = ap (λ (i : ℕ). drop i plan) all;
      routine = refl;
      braces = refl;
      line = refl;
      int_blocks = refl;
      own = search rules;
    }

pub obey-requires-clause-settled : goal.obey-requires-clause-settled
obey-requires-clause-settled c =
    let there = c.loop-row.invariant in
    let plan = c.args.plan.now in
    subst (λ (line : ℕ). IsSettled c.loop-row.core.active.int_blocks line c.in-Some.row.now) (sym there.line)
    (subst (λ (references : List (Option ℕ)). IsSettled references c.args.core.now.active.line c.in-Some.row.now)
    (sym there.int_blocks)
    (first_at c.args.core.now.active.int_blocks c.args.core.now.active.line c.args.k c.args.lines.now
    c.args.core.now.active.place plan (length plan - length c.loop-row.rest.now) c.in-Some.row.now c.in-Some.more.now
    c.requires.planned
    (there.behind ∙ c.in-Some.ensures.cases.0)).1)

pub loop-row-preserved-in-Some : goal.loop-row-preserved-in-Some
loop-row-preserved-in-Some c =
    let fs = c.args.routines.now in
    let from = c.args.core.now.active.place in
    let start = shown fs (assembled c.args.core.now c.args.ints.now c.args.blocks.now) in
    let plan = c.args.plan.now in
    let p = c.in-Some.row.now in
    let more = c.in-Some.more.now in
    let there = c.loop-row.invariant in
    let at = length plan - length c.loop-row.rest.now in
    let one : length more + 1 ≡ length c.loop-row.rest.now = c.in-Some.ensures.cases.1 in
    let rows = there.rows in
    let here : drop at plan ≡ p ∷ more = there.behind ∙ c.in-Some.ensures.cases.0 in
    let planned = first_at c.args.core.now.active.int_blocks c.args.core.now.active.line c.args.k c.args.lines.now from plan at p
    more c.requires.planned here in
    let line = subst (λ (lines : List CodeLine). slice_get lines (from + at) ≡ Some (code.Row (row_of c.args.k p)))
    (c.requires.here ∙ ap (lines_in fs) (sym there.routine)) planned.0 in
    let next : from + (length plan - length c.loop-row.rest.now) + 1 ≡ from + (length plan - length more) = omega arith in
    let later : length plan - length more ≡ length plan - length c.loop-row.rest.now + 1 = omega arith in
    record {
      within = there.within;
      led = subst (λ (i : ℕ). ReachesSilently fs start c.loop-row.used
          (shown fs (placed (assembled c.loop-row.core c.obey.new.ints c.obey.new.blocks) i))) next
          (row_leads fs start c.loop-row.core c.loop-row.ints c.obey.new.ints c.loop-row.blocks c.obey.new.blocks c.loop-row.used
          (from + at) c.args.k p there.led line
          (c.obey.ensures.led c.if-not-obey.false));
      rows = omega arith;
      behind = ap (λ (i : ℕ). drop i plan) later ∙ drop_next plan at p more here;
      routine = there.routine;
      braces = there.braces;
      line = there.line;
      int_blocks = there.int_blocks;
      own = there.own;
    }

pub returns-then-not-begin_again-clause-led : goal.returns-then-not-begin_again-clause-led
returns-then-not-begin_again-clause-led c =
    let fs = c.args.routines.now in
    let from = c.args.core.now.active.place in
    let start = shown fs (assembled c.args.core.now c.args.ints.now c.args.blocks.now) in
    let plan = c.args.plan.now in
    let none : length c.loop-row.rest.now ≡ 0 = c.in_default.ensures.cases in
    let close : from + (length plan - length c.loop-row.rest.now) ≡ from + length plan = omega arith in
    let there = subst (λ (i : ℕ). ReachesSilently fs start c.loop-row.used
    (shown fs (placed (assembled c.loop-row.core c.loop-row.ints c.loop-row.blocks) i))) close c.loop-row.invariant.led in
    subst (λ (core : Core). ReachesSilently fs start c.loop-row.used
    (shown fs (placed (assembled core c.loop-row.ints c.loop-row.blocks) (from + length plan))))
    (sym (c.begin_again.ensures.stays c.if-not-begin_again.true)) there

pub loop-row-preserved : goal.loop-row-preserved
loop-row-preserved c =
    let fs = c.args.routines.now in
    let from = c.args.core.now.active.place in
    let start = shown fs (assembled c.args.core.now c.args.ints.now c.args.blocks.now) in
    let plan = c.args.plan.now in
    let there = c.loop-row.invariant in
    let begun = c.begin_again.ensures.begun c.if-not-begin_again.false in
    let empty : length c.loop-row.rest.now ≡ 0 = c.in_default.ensures.cases in
    let close : from + (length plan - length c.loop-row.rest.now) ≡ from + length plan = omega arith in
    let led = subst (λ (i : ℕ). ReachesSilently fs start c.loop-row.used
    (shown fs (placed (assembled c.loop-row.core c.loop-row.ints c.loop-row.blocks) i))) close there.led in
    let none : from ≡ from + (length plan - length plan) = omega arith in
    let all : length plan - length plan ≡ 0 = omega arith in
    record {
      within = search rules;
      led = subst (λ (i : ℕ). ReachesSilently fs start (c.loop-row.used + 1)
          (shown fs (placed (assembled c.begin_again.new.core c.loop-row.ints c.loop-row.blocks) i))) none
          (step_on fs start (shown fs
          (placed (assembled c.loop-row.core c.loop-row.ints c.loop-row.blocks) (from + length plan)))
          (shown fs (placed (assembled c.begin_again.new.core c.loop-row.ints c.loop-row.blocks) from)) c.loop-row.used true
          led
          (c.begin_again.ensures.led c.if-not-begin_again.false));
      rows = omega arith;
      behind = ap (λ (i : ℕ). drop i plan) all;
      routine = ap (λ (core : Core). core.active.routine) begun ∙ there.routine;
      braces = ap (λ (core : Core). core.active.braces) begun ∙ there.braces;
      line = ap (λ (core : Core). core.active.line) begun ∙ there.line;
      int_blocks = ap (λ (core : Core). core.active.int_blocks) begun ∙ there.int_blocks;
      own = sym (set_same c.loop-row.core.active.indices c.args.k _) ∙
          sym (ap (λ (core : Core). number_at core.active.indices c.args.k) begun);
    }
