-- What each statement names, with what stands in it.
use Rattle.std.proofs.Common.{Some, None, sym, ap, ◌∙◌}
use Rattle.f95_tree.specs.declared.source.Statement.TheVariants as statement
use Rattle.f95_tree.specs.declared.source.Statement.TheOpen as layer
use Rattle.f95_tree.specs.declared.source.Statement.TheFolds.{fold-roll-Statement}
use Rattle.names_types.specs.View.{Mentions, statement_at, branch_at, case_at, otherwise_at, statement_mentions}
use Rattle.names_types.specs.StatementNodes.{Actions, Ifs, IfBlocks, Selects, Loops, Wheres, Foralls}

pub actions : Actions
actions l a = ap statement_mentions (sym (statement.rolls-Action l a))
    ∙ fold-roll-Statement Mentions Mentions Mentions Mentions statement_at branch_at case_at otherwise_at
    (layer.Action l a)

pub ifs : Ifs
ifs l e a = ap statement_mentions (sym (statement.rolls-If l e a))
    ∙ fold-roll-Statement Mentions Mentions Mentions Mentions statement_at branch_at case_at otherwise_at
    (layer.If l e a)

pub if_blocks : IfBlocks
if_blocks l n e body branches None end = ap statement_mentions (sym (statement.rolls-IfBlock l n e body branches None end))
    ∙ fold-roll-Statement Mentions Mentions Mentions Mentions statement_at branch_at case_at otherwise_at
    (layer.IfBlock l n e body branches None end)
if_blocks l n e body branches (Some other) end =
    ap statement_mentions (sym (statement.rolls-IfBlock l n e body branches (Some other) end))
    ∙ fold-roll-Statement Mentions Mentions Mentions Mentions statement_at branch_at case_at otherwise_at
    (layer.IfBlock l n e body branches (Some other) end)

pub selects : Selects
selects l n e cases end = ap statement_mentions (sym (statement.rolls-Select l n e cases end))
    ∙ fold-roll-Statement Mentions Mentions Mentions Mentions statement_at branch_at case_at otherwise_at
    (layer.Select l n e cases end)

pub loops : Loops
loops l n control body end = ap statement_mentions (sym (statement.rolls-Do l n control body end))
    ∙ fold-roll-Statement Mentions Mentions Mentions Mentions statement_at branch_at case_at otherwise_at
    (layer.Do l n control body end)

pub wheres : Wheres
wheres b = ap statement_mentions (sym (statement.rolls-Where b))
    ∙ fold-roll-Statement Mentions Mentions Mentions Mentions statement_at branch_at case_at otherwise_at
    (layer.Where b)

pub foralls : Foralls
foralls l h xs end = ap statement_mentions (sym (statement.rolls-Forall l h xs end))
    ∙ fold-roll-Statement Mentions Mentions Mentions Mentions statement_at branch_at case_at otherwise_at
    (layer.Forall l h xs end)
