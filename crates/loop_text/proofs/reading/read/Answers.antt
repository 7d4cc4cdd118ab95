use Rattle.std.proofs.Common.{subst, sym}
use Rattle.loop_tree.specs.Program.{ReadsText}
use Rattle.loop_text.proofs.Progress.{step_on, step_refused, tail_refused, short_refused, whole_found}
use Rattle.loop_text.proofs.reading.read.Goals as goal

pub returns-then-not-branch-clause-refused : goal.returns-then-not-branch-clause-refused
returns-then-not-branch-clause-refused c =
    step_refused _ _ _ _ _ _ _ _ _ c.loop-end.invariant c.in-Some.ensures c.prefix.ensures c.in_ok-take.ensures c.if-not-branch.true
    c.refused_behind.ensures

pub loop-end-preserved : goal.loop-end-preserved
loop-end-preserved c =
    step_on _ _ _ _ _ _ _ _ _ c.loop-end.invariant c.in-Some.ensures c.prefix.ensures c.in_ok-take.ensures c.if-not-branch.false
    c.skip-rest.ensures

pub returns-then-not-is_empty-clause-refused : goal.returns-then-not-is_empty-clause-refused
returns-then-not-is_empty-clause-refused c =
    tail_refused _ _ _ _ _ _ c.loop-end.invariant c.in_default.ensures c.is_empty.ensures c.if-not-is_empty.true
    c.refused_behind-then-not-is_empty.ensures

pub returns-then-not-is_text-clause-refused : goal.returns-then-not-is_text-clause-refused
returns-then-not-is_text-clause-refused c =
    short_refused _ _ _ _ _ _ c.loop-end.invariant c.in_default.ensures c.is_text.ensures c.if-not-is_text.true
    c.refused_behind-then-not-is_text.ensures

pub returns-clause-found : goal.returns-clause-found
returns-clause-found c =
    subst (ReadsText c.args.bytes.now) (sym c.new.ensures)
    (whole_found _ _ _ _ _ _ _ c.loop-end.invariant c.in_default.ensures c.is_empty.ensures c.if-not-is_empty.false
    c.is_text.ensures c.if-not-is_text.false c.into_functions.ensures)

pub new-requires : goal.new-requires
new-requires c =
    let found : ReadsText c.args.bytes.now c.into_functions.result =
    whole_found _ _ _ _ _ _ _ c.loop-end.invariant c.in_default.ensures c.is_empty.ensures c.if-not-is_empty.false c.is_text.ensures
    c.if-not-is_text.false c.into_functions.ensures in
    found.program
