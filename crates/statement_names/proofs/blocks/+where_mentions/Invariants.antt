use Rattle.std.proofs.Common.{◌≡◌, ◌++◌, map, drop}
use Rattle.names_types.specs.View.{together, where_statement_mentions, elsewhere_mentions}
use Rattle.statement_names.proofs.blocks.+where_mentions.Given as goal

abbrev pub invariant-where_statements_mentions-loop-statement : goal.invariant-where_statements_mentions-loop-statement
invariant-where_statements_mentions-loop-statement l =
    l.mentions.items ++ together (map where_statement_mentions (drop l.statement-index l.statements))
    ≡ l.initial.mentions.items ++ together (map where_statement_mentions l.statements)

abbrev pub invariant-elsewheres_mentions-loop-other : goal.invariant-elsewheres_mentions-loop-other
invariant-elsewheres_mentions-loop-other l =
    l.mentions.items ++ together (map elsewhere_mentions (drop l.other-index l.others))
    ≡ l.initial.mentions.items ++ together (map elsewhere_mentions l.others)
