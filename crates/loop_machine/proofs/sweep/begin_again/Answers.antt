use Rattle.std.proofs.Common.{◌≡◌, ◌∙◌, ap, sym, subst, ℤ, pos, List, [], Some, true}
use Rattle.std.specs.Prelude.{slice_get, int_lt}
use Rattle.std.specs.Int.{w64}
use Rattle.std.proofs.lemmas.Int.{to_z-of_z}
use Rattle.loop_tree.specs.declared.tree.CodeLine.{CodeLine}
use Rattle.loop_tree.specs.declared.tree.CodeLine.TheVariants as code
use Rattle.loop_tree.specs.State.{Goes, with_at}
use Rattle.loop_tree.specs.Values.{number_at, atom_in}
use Rattle.loop_rows.specs.Shown.{shown}
use Rattle.loop_machine.specs.Plans.{assembled, placed}
use Rattle.loop_machine.proofs.Turns.{begins_again}
use Rattle.loop_machine.proofs.sweep.begin_again.Goals as goal

pub returns-clause-led : goal.returns-clause-led
returns-clause-led c = λ e.
    let fs = c.args.routines.now in
    let core = placed (assembled c.args.core.now c.args.ints.now c.args.blocks.now) c.args.close in
    let line = subst (λ (lines : List CodeLine). slice_get lines core.active.place ≡ Some code.Close) c.requires.here
    c.requires.closes in
    let same = to_z-of_z w64 c.args.next c.ranges.next in
    let below = subst (λ (v : ℤ). int_lt (number_at (with_at (pos 0) core.active.indices c.args.k v) c.args.k)
    (atom_in core.active.ints (with_at (pos 0) core.active.indices c.args.k v) c.args.bound) ≡ true) same
    (c.is_below.ensures c.if-not-is_below.false) in
    let set = c.set_dense.ensures.set e ∙ ap (λ (v : ℤ). with_at (pos 0) core.active.indices c.args.k v) same in
    begins_again fs core c.args.k c.args.bound c.args.body c.args.next line c.requires.innermost c.requires.next below ∙
    ap (λ (indices : List ℤ). Goes true []
    (shown fs (record core { active = record core.active { place = c.args.body; indices = indices } }))) (sym set)
