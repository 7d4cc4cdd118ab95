use Rattle.loop_laws.proofs.Within.{cells_there, ints_there, texts_there, change_there, freed_there}
use Rattle.loop_laws.proofs.numbers.living_blocks.Goals as goal

pub returns : goal.returns
returns c = record {
  cells = cells_there;
  ints = ints_there;
  texts = texts_there;
  change = change_there;
  free = freed_there;
}
