-- The LoopC program of a typed unit: array p is block bp, and each right side goes into a temporary and then into its variable.
use Rattle.std.specs.Prelude.{◌≡◌, ℕ, pos, Bool, true, false, if◌then◌else◌, List, [], ◌∷◌, ◌++◌, map, length, ◌+◌}
use Rattle.std.specs.List.{flat_map, slice_index_or}
use Rattle.rank_one.specs.declared.unit.Unit.{Unit}
use Rattle.rank_one.specs.declared.unit.Array.{Array}
use Rattle.rank_one.specs.declared.unit.Statement.{Statement}
use Rattle.rank_one.specs.declared.unit.Action.{Action}
use Rattle.rank_one.specs.declared.unit.Action.TheVariants.{Assign, Print}
use Rattle.rank_one.specs.declared.unit.Sum.{Sum}
use Rattle.rank_one.specs.declared.unit.Addend.{Addend}
use Rattle.rank_one.specs.declared.unit.Term.{Term}
use Rattle.rank_one.specs.declared.unit.Factor.{Factor}
use Rattle.rank_one.specs.declared.unit.Factor.TheVariants as factor
use Rattle.loop_tree.specs.Body.{Body}
use Rattle.loop_writer.specs.declared.pieces.Piece.{Piece}
use Rattle.loop_writer.specs.declared.pieces.Piece.TheVariants as piece
use Rattle.f95a_core.specs.declared.lower.Lowering.{Lowering}
use Rattle.loop_tree.specs.declared.atom.Atom.{Atom}
use Rattle.loop_tree.specs.declared.atom.Atom.TheVariants as atom
use Rattle.loop_tree.specs.declared.atom.Operator.{Operator}
use Rattle.loop_tree.specs.declared.atom.Reference.TheVariants as reference
use Rattle.loop_tree.specs.declared.atom.Operator.TheVariants as operator
use Rattle.loop_tree.specs.declared.row.IntValue.{IntValue}
use Rattle.loop_tree.specs.declared.row.IntValue.TheVariants as value
use Rattle.loop_tree.specs.declared.row.BlockRow.TheVariants as block
use Rattle.loop_tree.specs.declared.row.ControlRow.TheVariants as control
use Rattle.loop_tree.specs.declared.row.RecordRow.TheVariants as record_row
use Rattle.loop_tree.specs.declared.row.Row.TheVariants as row
use Rattle.loop_tree.specs.declared.tree.Stmt.{Stmt}
use Rattle.loop_tree.specs.declared.tree.Stmt.TheVariants as stmt
use Rattle.loop_tree.specs.declared.tree.Function.{Function}

-- i0 holds the sum so far, i1 a further term so far, i2 the next factor. A number stands in its operation as it is, and
-- an array's element is loaded first.
abbrev pub set_row : ℕ → IntValue → Stmt
set_row n v = stmt.Row (row.Int n v)

abbrev pub load : ℕ → Factor → List Stmt
load n (factor.Number z) = []
load n (factor.Array place) = set_row n (value.Cell place (atom.Loop 1)) ∷ []

abbrev pub factor_atom : ℕ → Factor → Atom
factor_atom n (factor.Number z) = atom.Number (pos z)
factor_atom n (factor.Array place) = atom.Int n

-- an atom times further factors, in variable n
abbrev pub times : ℕ → Atom → Factor → List Stmt
times n left more = load 2 more ++ set_row n (value.Operation left operator.Multiply (factor_atom 2 more)) ∷ []

abbrev pub product_code : ℕ → Atom → List Factor → List Stmt
product_code n left [] = []
product_code n left (more ∷ factors) = times n left more ++ product_code n (atom.Int n) factors

abbrev pub product_atom : ℕ → Atom → List Factor → Atom
product_atom n left [] = left
product_atom n left (more ∷ factors) = product_atom n (atom.Int n) factors

abbrev pub term_code : ℕ → Term → List Stmt
term_code n term = load n term.first ++ product_code n (factor_atom n term.first) term.rest

abbrev pub term_atom : ℕ → Term → Atom
term_atom n term = product_atom n (factor_atom n term.first) term.rest

-- an atom, and further terms added to it or subtracted from it
abbrev pub sign : Bool → Operator
sign true = operator.Subtract
sign false = operator.Add

abbrev pub plus : Atom → Addend → List Stmt
plus left more = term_code 1 more.term ++ set_row 0 (value.Operation left (sign more.minus) (term_atom 1 more.term)) ∷ []

abbrev pub addends_code : Atom → List Addend → List Stmt
addends_code left [] = []
addends_code left (more ∷ addends) = plus left more ++ addends_code (atom.Int 0) addends

abbrev pub addends_atom : Atom → List Addend → Atom
addends_atom left [] = left
addends_atom left (more ∷ addends) = addends_atom (atom.Int 0) addends

abbrev pub sum_code : Sum → List Stmt
sum_code sum = term_code 0 sum.first ++ addends_code (term_atom 0 sum.first) sum.rest

abbrev pub sum_atom : Sum → Atom
sum_atom sum = addends_atom (term_atom 0 sum.first) sum.rest

-- The operations wrap at 64 bits, so what they leave is wrapped once more. One factor is an INTEGER as it is.
abbrev pub none_follow : List Factor → List Addend → Bool
none_follow [] [] = true
none_follow factors addends = false

abbrev pub is_factor : Sum → Bool
is_factor sum = none_follow sum.first.rest sum.rest

abbrev pub value_code : Sum → List Stmt
value_code sum = sum_code sum ++ (if is_factor sum then [] else set_row 0 (value.Wrap (sum_atom sum)) ∷ [])

abbrev pub value_atom : Sum → Atom
value_atom sum = if is_factor sum then sum_atom sum else atom.Int 0

abbrev pub at_line : ℕ → Stmt
at_line line = stmt.Row (row.Control (control.At line))

-- the elements of an array, the first one first
abbrev pub loop : ℕ → List Stmt → Stmt
loop extent body = stmt.ForUp 1 (atom.Number (pos extent)) body

abbrev pub fill : ℕ → ℕ → ℕ → Sum → Stmt
fill line extent temporary sum =
    loop extent
    (at_line line ∷ (value_code sum ++ (stmt.Row (row.Block (block.StoreInt temporary (atom.Loop 1) (value_atom sum))) ∷ [])))

abbrev pub move : ℕ → ℕ → ℕ → ℕ → Stmt
move line extent temporary target = loop extent
    (at_line line ∷ set_row 0 (value.Cell temporary (atom.Loop 1))
    ∷ stmt.Row (row.Block (block.StoreInt target (atom.Loop 1) (atom.Int 0))) ∷ [])

-- the temporary is needed no more
abbrev pub free : ℕ → Stmt
free temporary = stmt.Row (row.Block (block.Free (reference.Ints temporary)))

abbrev pub show : ℕ → ℕ → ℕ → Stmt
show line extent place = loop extent
    (at_line line ∷ set_row 0 (value.Cell place (atom.Loop 1)) ∷ stmt.Row (row.Record (record_row.PutInt (atom.Int 0))) ∷ [])

-- the statements of an action, with the line of the source and the first number that no array has
abbrev pub extent_of : List Array → ℕ → ℕ
extent_of arrays place = (slice_index_or arrays place (record { line = 0; extent = 0 })).extent

abbrev pub assignment_code : List Array → ℕ → ℕ → Sum → List Stmt
assignment_code arrays line target sum =
    let extent = extent_of arrays target in
    let temporary = length arrays in
    at_line line ∷ stmt.Row (row.Block (block.Temp temporary (atom.Number (pos extent)))) ∷ fill line extent temporary sum
    ∷ move line extent temporary target ∷ free temporary ∷ []

abbrev pub printing_code : List Array → ℕ → List ℕ → List Stmt
printing_code arrays line places =
    at_line line ∷ (map (λ place. show line (extent_of arrays place) place) places ++ stmt.Row (row.Record record_row.Write) ∷ [])

abbrev pub action_code : List Array → ℕ → Action → List Stmt
action_code arrays line (Assign target sum) = assignment_code arrays line target sum
action_code arrays line (Print places) = printing_code arrays line places

abbrev pub statements_code : List Array → List Statement → List Stmt
statements_code arrays statements = flat_map (λ statement. action_code arrays statement.line statement.action) statements

-- the block of an array
abbrev pub array_code : ℕ → Array → List Stmt
array_code number array = at_line array.line ∷ stmt.Row (row.Block (block.New number (atom.Number (pos array.extent)))) ∷ []

-- the blocks of the arrays, numbered from the first number on
abbrev pub declared_code : ℕ → List Array → List Stmt
declared_code number [] = []
declared_code number (array ∷ arrays) = array_code number array ++ declared_code (number + 1) arrays

abbrev pub unit_code : Unit → List Stmt
unit_code unit = declared_code 0 unit.arrays ++ statements_code unit.arrays unit.statements

-- one function, without parameters
abbrev pub program_of : Unit → List Function
program_of unit = record { parameters = []; body = unit_code unit } ∷ []

-- ---- the pieces of the program

-- statements of a function's own body
abbrev pub body_with : List Stmt → Body
body_with code = record { statements = code; room = 999; in_loop = false }

-- where statements were added, the others stay what they are
abbrev pub IsSameBody : Body → Body → Type 0
IsSameBody old new = (new.room ≡ old.room) × (new.in_loop ≡ old.in_loop)

abbrev pub array_pieces : ℕ → List Array → List Piece
array_pieces number [] = []
array_pieces number (array ∷ arrays) = piece.Code (body_with (array_code number array)) ∷ array_pieces (number + 1) arrays

abbrev pub statement_pieces : List Array → List Statement → List Piece
statement_pieces arrays statements = map (λ (s : Statement). piece.Code (body_with (action_code arrays s.line s.action))) statements

abbrev pub pieces_of : Unit → List Piece
pieces_of unit = piece.Begin [] ∷ (array_pieces 0 unit.arrays ++ statement_pieces unit.arrays unit.statements)

-- those that a lowering has still to give
abbrev pub begun_or : Bool → List Piece → List Piece
begun_or true pieces = pieces
begun_or false pieces = piece.Begin [] ∷ pieces

abbrev pub left_of : Lowering → List Piece
left_of l = begun_or l.begun (array_pieces l.number l.undeclared.now ++ statement_pieces l.arrays.now l.statements.now)
