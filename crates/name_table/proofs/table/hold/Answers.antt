use Rattle.std.proofs.Common.{◌≡◌, nat_eq, None, rules}
use Rattle.std.specs.Map.{lookup}
use Rattle.std.specs.Cmp.Lexicographic.{pointwise}
use Rattle.name_table.specs.Places.{word_of}
use Rattle.name_table.proofs.Held.{held_inserted}
use Rattle.name_table.proofs.table.hold.Goals as goal

pub returns-in_ok-insert-clause-held : goal.returns-in_ok-insert-clause-held
returns-in_ok-insert-clause-held c =
    let absent : lookup (λ k. pointwise nat_eq c.args.name.now (word_of k)) c.args.places.now.entries ≡ None = search rules in
    held_inserted word_of c.args.places.now c.insert.new.self.entries c.args.names.now c.in_ok-key.key c.args.name.now
    c.requires absent c.in_ok-key.ensures.items c.in_ok-insert.ensures.entries
