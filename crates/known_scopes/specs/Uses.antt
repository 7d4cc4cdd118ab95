-- Names that USE brings, and what they mean.
use Rattle.std.specs.Prelude.{Option, Some, None}
use Rattle.f95_tree.specs.Forms.{Word}
use Rattle.names_types.specs.declared.meaning.Meaning.{Meaning}
use Rattle.names_types.specs.Scopes.{Entry, Form, Brings, Declares, Types, Begins}

abbrev pub name_brought : Word → Form → Option Word
name_brought name (Brings place m) = Some name
name_brought name (Declares o) = None
name_brought name (Types t) = None
name_brought name Begins = None

abbrev pub value_brought : Form → Option Meaning
value_brought (Brings place m) = Some m
value_brought (Declares o) = None
value_brought (Types t) = None
value_brought Begins = None

abbrev pub brought_name : Entry → Option Word
brought_name e = name_brought e.name e.form

abbrev pub brought_value : Entry → Option Meaning
brought_value e = value_brought e.form
