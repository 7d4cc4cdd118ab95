use Rattle.loop_laws.proofs.Numbered.{made_here, made_elsewhere, changed_here, changed_elsewhere, freed_here, freed_elsewhere}
use Rattle.loop_laws.proofs.Numbered.{made_in_call, made_before_call}
use Rattle.loop_laws.proofs.numbers.blocks_by_number.Goals as goal

pub returns : goal.returns
returns c = record {
  made = made_here;
  made_elsewhere = made_elsewhere;
  changed = changed_here;
  changed_elsewhere = changed_elsewhere;
  freed = freed_here;
  freed_elsewhere = freed_elsewhere;
  made_in_call = made_in_call;
  made_before_call = made_before_call;
}
