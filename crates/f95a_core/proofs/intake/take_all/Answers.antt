use Rattle.std.proofs.Common.{◌<◌, ◌^◌, length, arith}
use Rattle.std.proofs.lemmas.List.{length-take}
use Rattle.f95a_core.proofs.Taking.{taken_after, too_long}
use Rattle.f95a_core.proofs.intake.take_all.Goals as goal

pub returns-then-is_err-clause-front : goal.returns-then-is_err-clause-front
returns-then-is_err-clause-front g c =
    taken_after _ c.in-Ok.count _ _ _ c.loop-piece.bytes.items c.take.new.into c.loop-piece.invariant.taken c.in-Ok.ensures.taken
    (omega (
      arith,
      c.in-Ok.ensures.bound,
      length-take c.min-room.result c.loop-piece.piece,
      c.min-room.ensures,
      c.len-in-loop-piece.ensures,
      c.loop-piece.invariant.within,
    ))

pub returns-clause-taken : goal.returns-clause-taken
returns-clause-taken g c =
    let past : 2 ^ 24 < length c.loop-piece.bytes.items = omega (arith, c.loop-piece-test.false, c.len.ensures) in (
      too_long _ _ c.loop-piece.bytes.items c.loop-piece.invariant.taken past,
      record {
        bytes = c.loop-piece.bytes.items;
        taken = c.loop-piece.invariant.taken;
        counted =
            omega (arith, past, c.loop-piece.invariant.within);
      },
    )
