use Rattle.std.proofs.Common.{arith, ◌≡◌, subst, sym, length, take}
use Rattle.std.proofs.lemmas.List.{same_lists, places}
use Rattle.std.proofs.lemmas.Grind.{common_steps}
use Rattle.std.specs.Io.{appended_bytes}
use Rattle.std.specs.Io.KnownBytes.{Consumes}
use Rattle.io_edge.proofs.files.append_piece.Goals as goal

pub returns-in-Ok-clause-taken : goal.returns-in-Ok-clause-taken
returns-in-Ok-clause-taken g c =
    let remaining = g.R.Read.remaining in
    let old = c.args.into.now.items in
    let new = c.truncate.new.self.items in
    let front = take c.in-Ok.count c.read.new.buf in
    let as_long : length (appended_bytes old new) ≡ length front = grind (arith, common_steps, places) in
    let same : front ≡ appended_bytes old new =
    same_lists front (appended_bytes old new) (sym as_long) (λ k d h. grind (arith, places, common_steps)) in
    subst (Consumes (remaining c.args.reader.now) (remaining c.read.new.self)) same c.in-Ok.ensures.bytes.0
