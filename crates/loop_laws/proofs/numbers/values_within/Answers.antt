use Rattle.loop_laws.proofs.Within.{int_within, text_within, store_int_within, store_text_within, zeros_within, texts_within}
use Rattle.loop_laws.proofs.Within.{grown_within, truth_holds, positive_holds}
use Rattle.loop_laws.proofs.numbers.values_within.Goals as goal

pub returns : goal.returns
returns c = record {
  int = int_within;
  text = text_within;
  store_int = store_int_within;
  store_text = store_text_within;
  zeros = zeros_within;
  texts = texts_within;
  grown = grown_within;
  truth = truth_holds;
  positive = positive_holds;
}
