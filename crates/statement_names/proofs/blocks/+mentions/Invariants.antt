use Rattle.std.proofs.Common.{◌≡◌, ◌++◌, map, drop}
use Rattle.names_types.specs.View.{together, statement_mentions, branch_mentions, case_mentions}
use Rattle.statement_names.proofs.blocks.+mentions.Given as goal

abbrev pub invariant-statements_mentions-loop-statement : goal.invariant-statements_mentions-loop-statement
invariant-statements_mentions-loop-statement l =
    l.mentions.items ++ together (map statement_mentions (drop l.statement-index l.statements))
    ≡ l.initial.mentions.items ++ together (map statement_mentions l.statements)

abbrev pub invariant-branches_mentions-loop-branch : goal.invariant-branches_mentions-loop-branch
invariant-branches_mentions-loop-branch l =
    l.mentions.items ++ together (map branch_mentions (drop l.branch-index l.branches))
    ≡ l.initial.mentions.items ++ together (map branch_mentions l.branches)

abbrev pub invariant-cases_mentions-loop-case : goal.invariant-cases_mentions-loop-case
invariant-cases_mentions-loop-case l =
    l.mentions.items ++ together (map case_mentions (drop l.case-index l.cases))
    ≡ l.initial.mentions.items ++ together (map case_mentions l.cases)
