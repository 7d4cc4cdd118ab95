use Rattle.names_types.proofs.Seeing.{literals, references, brackets, constructors, signs, operations, whole_names, applied_names}
use Rattle.names_types.proofs.Seeing.{substrings}
use Rattle.names_types.proofs.laws.expressions_as_written.Goals as goal

pub returns : goal.returns
returns c = record {
  literals = literals;
  references = references;
  brackets = brackets;
  constructors = constructors;
  signs = signs;
  operations = operations;
  whole = whole_names;
  applied = applied_names;
  substrings = substrings;
}
