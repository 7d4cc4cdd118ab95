-- What the grammar of LoopC demands beyond the shape of the tree.
use Rattle.std.specs.Prelude.{◌≡◌, ℕ, ◌+◌, ◌<◌, ◌≤◌, ◌^◌, max, Bool, true, false, ◌||◌, List, [], ◌∷◌, map, length, FitsSigned}
use Rattle.std.specs.List.{AllByRecursion}
use Rattle.std.specs.Int.{w64}
use Rattle.loop_tree.specs.declared.atom.Letter.{Letter}
use Rattle.loop_tree.specs.declared.atom.Atom.{Atom}
use Rattle.loop_tree.specs.declared.atom.Atom.TheVariants as atom
use Rattle.loop_tree.specs.declared.atom.TextAtom.{TextAtom}
use Rattle.loop_tree.specs.declared.atom.TextAtom.TheVariants as text
use Rattle.loop_tree.specs.declared.atom.Reference.{Reference}
use Rattle.loop_tree.specs.declared.atom.Reference.TheVariants as reference
use Rattle.loop_tree.specs.declared.atom.Argument.{Argument}
use Rattle.loop_tree.specs.declared.atom.Argument.TheVariants as argument
use Rattle.loop_tree.specs.declared.row.IntValue.{IntValue}
use Rattle.loop_tree.specs.declared.row.IntValue.TheVariants as int
use Rattle.loop_tree.specs.declared.row.TextValue.{TextValue}
use Rattle.loop_tree.specs.declared.row.TextValue.TheVariants as words
use Rattle.loop_tree.specs.declared.row.BlockRow.{BlockRow}
use Rattle.loop_tree.specs.declared.row.BlockRow.TheVariants as block
use Rattle.loop_tree.specs.declared.row.ControlRow.{ControlRow}
use Rattle.loop_tree.specs.declared.row.ControlRow.TheVariants as control
use Rattle.loop_tree.specs.declared.row.RecordRow.{RecordRow}
use Rattle.loop_tree.specs.declared.row.RecordRow.TheVariants as record_row
use Rattle.loop_tree.specs.declared.row.Row.{Row}
use Rattle.loop_tree.specs.declared.row.Row.TheVariants as row
use Rattle.loop_tree.specs.declared.tree.CodeLine.{CodeLine}
use Rattle.loop_tree.specs.declared.tree.CodeLine.TheVariants as code
use Rattle.loop_tree.specs.declared.tree.Stmt.{Stmt}
use Rattle.loop_tree.specs.declared.tree.Stmt.TheOpen.{Stmt-F}
use Rattle.loop_tree.specs.declared.tree.Stmt.TheOpen as layer
use Rattle.loop_tree.specs.declared.tree.Stmt.TheFolds.{fold-Stmt}
use Rattle.loop_tree.specs.declared.tree.Function.{Function}
use Rattle.loop_tree.specs.Lines.{flats}
use Rattle.loop_tree.specs.Text.{text_of_program}

-- ---- numbers in range

-- the number of a variable, of a function or of a line
abbrev pub FitsNumber : ℕ → Type 0
FitsNumber n = n < 2 ^ 32

abbrev pub FitsAtom : Atom → Type 0
FitsAtom (atom.Int n) = FitsNumber n
FitsAtom (atom.Loop k) = FitsNumber k
FitsAtom (atom.Number z) = FitsSigned w64 z

abbrev pub FitsByte : ℕ → Type 0
FitsByte c = c < 256

abbrev pub AreBytes : List ℕ → Type 0
AreBytes bytes = AllByRecursion FitsByte bytes

abbrev pub FitsText : TextAtom → Type 0
FitsText (text.Variable n) = FitsNumber n
FitsText (text.Literal bytes) = AreBytes bytes

abbrev pub FitsReference : Reference → Type 0
FitsReference (reference.Ints n) = FitsNumber n
FitsReference (reference.Texts n) = FitsNumber n

abbrev pub FitsArgument : Argument → Type 0
FitsArgument (argument.Int a) = FitsAtom a
FitsArgument (argument.Text t) = FitsText t
FitsArgument (argument.Block r) = FitsReference r

abbrev pub FitsInt : IntValue → Type 0
FitsInt (int.Atom a) = FitsAtom a
FitsInt (int.Operation a op b) = FitsAtom a × FitsAtom b
FitsInt (int.Cell n a) = FitsNumber n × FitsAtom a
FitsInt (int.Wrap a) = FitsAtom a
FitsInt (int.Power a b) = FitsAtom a × FitsAtom b
FitsInt (int.Xor a b) = FitsAtom a × FitsAtom b
FitsInt (int.Length t) = FitsText t
FitsInt (int.Index t u) = FitsText t × FitsText u
FitsInt (int.Code t) = FitsText t
FitsInt (int.Compare t u) = FitsText t × FitsText u
FitsInt (int.Size r) = FitsReference r
FitsInt (int.Live r) = FitsReference r
FitsInt int.Depth = Unit {0}
FitsInt int.More = Unit {0}
FitsInt (int.Look a) = FitsAtom a
FitsInt (int.Take a) = FitsAtom a

abbrev pub FitsWords : TextValue → Type 0
FitsWords (words.Atom t) = FitsText t
FitsWords (words.Cell n a) = FitsNumber n × FitsAtom a
FitsWords (words.Join t u) = FitsText t × FitsText u
FitsWords (words.Part t a b) = FitsText t × FitsAtom a × FitsAtom b
FitsWords (words.Over t a u) = FitsText t × FitsAtom a × FitsText u
FitsWords (words.Fit t a) = FitsText t × FitsAtom a
FitsWords (words.Trim t) = FitsText t
FitsWords (words.Left t) = FitsText t
FitsWords (words.Right t) = FitsText t
FitsWords (words.Char a) = FitsAtom a

abbrev pub FitsBlock : BlockRow → Type 0
FitsBlock (block.StoreInt n i a) = FitsNumber n × FitsAtom i × FitsAtom a
FitsBlock (block.StoreText n i t) = FitsNumber n × FitsAtom i × FitsText t
FitsBlock (block.New n a) = FitsNumber n × FitsAtom a
FitsBlock (block.Temp n a) = FitsNumber n × FitsAtom a
FitsBlock (block.Copy n a) = FitsNumber n × FitsAtom a
FitsBlock (block.Mark n a) = FitsNumber n × FitsAtom a
FitsBlock (block.NewText n a b) = FitsNumber n × FitsAtom a × FitsAtom b
FitsBlock (block.TempText n a) = FitsNumber n × FitsAtom a
FitsBlock (block.CopyText n a) = FitsNumber n × FitsAtom a
FitsBlock (block.SameInts n m) = FitsNumber n × FitsNumber m
FitsBlock (block.SameTexts n m) = FitsNumber n × FitsNumber m
FitsBlock (block.Grow r a) = FitsReference r × FitsAtom a
FitsBlock (block.Free r) = FitsReference r

abbrev pub FitsArguments : List Argument → Type 0
FitsArguments arguments = AllByRecursion FitsArgument arguments

abbrev pub FitsControl : ControlRow → Type 0
FitsControl (control.Call n arguments) = FitsNumber n × FitsArguments arguments
FitsControl (control.At n) = FitsNumber n
FitsControl other = Unit {0}

abbrev pub FitsRecord : RecordRow → Type 0
FitsRecord (record_row.PutInt a) = FitsAtom a
FitsRecord (record_row.PutLog a) = FitsAtom a
FitsRecord (record_row.PutText t) = FitsText t
FitsRecord other = Unit {0}

abbrev pub FitsRow : Row → Type 0
FitsRow (row.Int n value) = FitsNumber n × FitsInt value
FitsRow (row.Text n value) = FitsNumber n × FitsWords value
FitsRow (row.Block r) = FitsBlock r
FitsRow (row.Control r) = FitsControl r
FitsRow (row.Record r) = FitsRecord r

abbrev pub FitsLine : CodeLine → Type 0
FitsLine (code.Row r) = FitsRow r
FitsLine (code.If test) = FitsAtom test
FitsLine code.Else = Unit {0}
FitsLine (code.ForUp k bound) = FitsNumber k × FitsAtom bound
FitsLine (code.ForDown k bound) = FitsNumber k × FitsAtom bound
FitsLine code.Forever = Unit {0}
FitsLine code.Close = Unit {0}

-- ---- braces and loops

abbrev pub greatest : List ℕ → ℕ
greatest [] = 0
greatest (n ∷ ns) = max n (greatest ns)

-- how many braces of a statement are open at once, given the same of the statements inside it
abbrev pub depth_at : Stmt-F ℕ → ℕ
depth_at (layer.Row row) = 0
depth_at (layer.If test body) = greatest body + 1
depth_at (layer.IfElse test body other) = max (greatest body) (greatest other) + 1
depth_at (layer.ForUp k bound body) = greatest body + 1
depth_at (layer.ForDown k bound body) = greatest body + 1
depth_at (layer.Forever body) = greatest body + 1

abbrev pub depth : Stmt → ℕ
depth = fold-Stmt ℕ depth_at

abbrev pub depths : List Stmt → ℕ
depths body = greatest (map depth body)

abbrev pub some_of : List Bool → Bool
some_of [] = false
some_of (b ∷ bs) = b || some_of bs

abbrev pub is_leaving : ControlRow → Bool
is_leaving control.Break = true
is_leaving control.Continue = true
is_leaving other = false

abbrev pub leaves_row : Row → Bool
leaves_row (row.Control r) = is_leaving r
leaves_row other = false

-- a break or a continue stands in no loop of the statement
abbrev pub leaves_at : Stmt-F Bool → Bool
leaves_at (layer.Row row) = leaves_row row
leaves_at (layer.If test body) = some_of body
leaves_at (layer.IfElse test body other) = some_of body || some_of other
leaves_at (layer.ForUp k bound body) = false
leaves_at (layer.ForDown k bound body) = false
leaves_at (layer.Forever body) = false

abbrev pub leaves : Stmt → Bool
leaves = fold-Stmt Bool leaves_at

abbrev pub some_leaves : List Stmt → Bool
some_leaves body = some_of (map leaves body)

-- ---- programs

-- at most 1,000 braces are open, the function's own among them
pub record IsFunction (function : Function) : Type 0 where
  pub parameters : length function.parameters ≤ 2 ^ 32
  pub numbers : AllByRecursion FitsLine (flats function.body)
  pub loops : some_leaves function.body ≡ false
  pub braces : depths function.body + 1 ≤ 1000

abbrev pub main_parameters : List Function → List Letter
main_parameters [] = []
main_parameters (main ∷ functions) = main.parameters

pub record IsProgram (functions : List Function) : Type 0 where
  pub some : 0 < length functions
  pub count : length functions ≤ 2 ^ 32
  pub main : main_parameters functions ≡ []
  pub each : AllByRecursion IsFunction functions

-- the bytes are the text of the program
pub record ReadsText (bytes : List ℕ) (functions : List Function) : Type 0 where
  pub text : bytes ≡ text_of_program functions
  pub program : IsProgram functions
