use Rattle.loop_laws.proofs.Rows.{step_store_int, step_store_text, step_grow, step_free, step_same_ints, step_same_texts}
use Rattle.loop_laws.proofs.steps.stores_and_references.Goals as goal

pub returns : goal.returns
returns c = record {
  store_int = step_store_int;
  store_text = step_store_text;
  grow = step_grow;
  free = step_free;
  same_ints = step_same_ints;
  same_texts = step_same_texts;
}
