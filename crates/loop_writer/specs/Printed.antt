-- The text of a program while it is written. No public clause cites this file: it says how the private functions work.
use Rattle.std.specs.Prelude.{◌≡◌, ℕ, ◌+◌, ◌≤◌, ◌^◌, List, [], ◌∷◌, ◌++◌, map, length, codes, Option, false}
use Rattle.std.specs.List.{flat_map}
use Rattle.std.specs.Io.KnownBytes.{Appends}
use Rattle.io_edge.specs.Known.{AppendsPrefix}
use Rattle.loop_tree.specs.declared.atom.Letter.{Letter}
use Rattle.loop_tree.specs.declared.tree.Stmt.{Stmt}
use Rattle.loop_tree.specs.declared.tree.CodeLine.{CodeLine}
use Rattle.loop_tree.specs.declared.tree.CodeLine.TheVariants as line
use Rattle.loop_tree.specs.Lines.{flats}
use Rattle.loop_tree.specs.Text.{spell, parameters_text, function_head, with_line_feeds}
use Rattle.loop_tree.specs.Body.{IsBody}
use Rattle.loop_writer.specs.declared.pieces.Piece.{Piece}
use Rattle.loop_writer.specs.declared.pieces.Piece.TheVariants.{Begin, Code}

abbrev pub lines_text : List CodeLine → List ℕ
lines_text lines = with_line_feeds (map spell lines)

abbrev pub statements_text : List Stmt → List ℕ
statements_text body = lines_text (flats body)

-- the parameters from number 1 on
abbrev pub others_text : List Letter → List ℕ
others_text parameters = flat_map (λ y. codes ", " ++ y) (parameters_text 1 parameters)

-- the line that begins function n
abbrev pub head_text : ℕ → List Letter → List ℕ
head_text n parameters = with_line_feeds (function_head n parameters ∷ [])

-- what every text begins with
abbrev pub begun_text : List ℕ
begun_text = with_line_feeds (codes "/* LoopC 1 */" ∷ function_head 0 [] ∷ [])

-- the line that closes a function
abbrev pub end_text : List ℕ
end_text = with_line_feeds (spell line.Close ∷ [])

-- the text of a piece behind n functions
abbrev pub piece_text : ℕ → Piece → List ℕ
piece_text n (Begin parameters) = end_text ++ head_text n parameters
piece_text n (Code code) = statements_text code.statements

abbrev pub count_behind : ℕ → Piece → ℕ
count_behind n (Begin parameters) = n + 1
count_behind n (Code code) = n

-- the text behind n functions, of which the last is open
abbrev pub pieces_text : ℕ → List Piece → List ℕ
pieces_text n [] = end_text
pieces_text n (piece ∷ pieces) = piece_text n piece ++ pieces_text (count_behind n piece) pieces

-- the text of pieces that were given, the last function still open
abbrev pub given_text : ℕ → List Piece → List ℕ
given_text n [] = []
given_text n (piece ∷ pieces) = piece_text n piece ++ given_text (count_behind n piece) pieces

-- what the grammar demands of a piece
abbrev pub FitsPiece : Piece → Type 0
FitsPiece (Begin parameters) = length parameters ≤ 2 ^ 32
FitsPiece (Code code) = IsBody code × (code.in_loop ≡ false)

abbrev pub FitPieces : List Piece → Type 0
FitPieces [] = Unit {0}
FitPieces (piece ∷ pieces) = FitsPiece piece × FitPieces pieces

-- ---- what was put of a text

-- a prefix of the whole was appended, and this is left of it
pub record Leaves (old new : Option (List ℕ)) (left whole : List ℕ) : Type 0 where
  pub put : List ℕ
  pub appended : Appends old new put
  pub is : put ++ left ≡ whole

-- a prefix of the text was appended
pub record BreaksOff (old new : Option (List ℕ)) (text : List ℕ) : Type 0 where
  pub prefix : AppendsPrefix old new text
