-- The program whose pieces are given one after another.
use Rattle.std.specs.Prelude.{◌≡◌, ℕ, false, List, [], ◌∷◌, ◌++◌, Option, Some, None}
use Rattle.io_edge.specs.Known.{AppendsPrefix}
use Rattle.loop_tree.specs.declared.tree.Stmt.{Stmt}
use Rattle.loop_tree.specs.declared.tree.Function.{Function}
use Rattle.loop_tree.specs.Text.{text_of_program}
use Rattle.loop_tree.specs.Program.{IsProgram}
use Rattle.loop_writer.specs.declared.pieces.Piece.{Piece}
use Rattle.loop_writer.specs.declared.pieces.Piece.TheVariants.{Begin, Code}

-- the statements before the next function
abbrev pub body_of : List Piece → List Stmt
body_of [] = []
body_of (Begin parameters ∷ pieces) = []
body_of (Code code ∷ pieces) = code.statements ++ body_of pieces

-- statements of a function's own body
abbrev pub own_code : List Stmt → Piece
own_code statements = Code (record { statements = statements; room = 999; in_loop = false })

-- each function has the statements up to the next one
abbrev pub functions_of : List Piece → List Function
functions_of [] = []
functions_of (Begin parameters ∷ pieces) = record { parameters = parameters; body = body_of pieces } ∷ functions_of pieces
functions_of (Code code ∷ pieces) = functions_of pieces

-- the text of the program
abbrev pub text_of : List Piece → List ℕ
text_of pieces = text_of_program (functions_of pieces)

-- the main function begins first, and has no parameters
abbrev pub BeginsMain : List Piece → Type 0
BeginsMain [] = ⊥
BeginsMain (Begin parameters ∷ pieces) = parameters ≡ []
BeginsMain (Code code ∷ pieces) = ⊥

-- what is given of the pieces that were to come, and leaves the others
abbrev pub IsNext : List Piece → List Piece → Option Piece → Type 0
IsNext old new None = (old ≡ []) × (new ≡ [])
IsNext old new (Some piece) = old ≡ piece ∷ new

-- the statements of a piece stand in no loop
abbrev pub IsOutside : Option Piece → Type 0
IsOutside None = Unit {0}
IsOutside (Some (Begin parameters)) = Unit {0}
IsOutside (Some (Code code)) = code.in_loop ≡ false

-- what was written where the writing stopped early: a prefix of the text of the pieces that were given, which are a program
pub record IsCutOff (old new : Option (List ℕ)) (pieces : List Piece) : Type 0 where
  pub given : List Piece
  pub later : List Piece
  pub is : pieces ≡ given ++ later
  pub program : IsProgram (functions_of given)
  pub prefix : AppendsPrefix old new (text_of given)
