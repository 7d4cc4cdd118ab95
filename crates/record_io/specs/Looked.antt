-- What `look` answers, in the words of the input rule.
use Rattle.a95_base.specs.Input.{Reading, Integer, NoMore, NoInteger}
use Rattle.record_io.specs.declared.input.Looked.{Looked}
use Rattle.record_io.specs.declared.input.Looked.TheVariants as looked

abbrev pub reading : Looked → Reading
reading (looked.Value value used) = Integer value used
reading looked.End = NoMore
reading looked.Bad = NoInteger
