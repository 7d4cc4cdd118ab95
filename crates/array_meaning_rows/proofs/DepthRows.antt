-- The depth of calls. Each row holds by computation.
use Rattle.std.proofs.Common.{refl}
use Rattle.array_meaning.proofs.Running.{running}
use Rattle.array_meaning_rows.specs.Depth.{calls_too_deep, calls_too_deep_before_a_turn, turns_run_out_before_depth}
use Rattle.array_meaning_rows.specs.Depth.{overlap_before_depth, CallsTooDeep, CallsTooDeepBeforeATurn, TurnsRunOutBeforeDepth}
use Rattle.array_meaning_rows.specs.Depth.{OverlapBeforeDepth}

pub calls_too_deep_row : CallsTooDeep
unfolding running calls_too_deep
calls_too_deep_row = record { is = refl }

pub calls_too_deep_before_a_turn_row : CallsTooDeepBeforeATurn
unfolding running calls_too_deep_before_a_turn
calls_too_deep_before_a_turn_row = record { is = refl }

pub turns_run_out_before_depth_row : TurnsRunOutBeforeDepth
unfolding running turns_run_out_before_depth
turns_run_out_before_depth_row = record { is = refl }

pub overlap_before_depth_row : OverlapBeforeDepth
unfolding running overlap_before_depth
overlap_before_depth_row = record { is = refl }
