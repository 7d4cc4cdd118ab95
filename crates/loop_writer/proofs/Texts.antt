-- The texts of pieces, one behind the other, are the text of their program.
use Rattle.std.proofs.Common.{◌≡◌, ℕ, ◌+◌, List, [], ◌∷◌, ◌++◌, map, length, codes, refl, ap, ◌∙◌, sym, arith, append_assoc}
use Rattle.std.proofs.Common.{append-nil}
use Rattle.std.proofs.lemmas.List.{map-append}
use Rattle.std.proofs.lemmas.Grind.{flat_map-append}
use Rattle.loop_tree.specs.declared.tree.Stmt.{Stmt}
use Rattle.loop_tree.specs.declared.tree.CodeLine.{CodeLine}
use Rattle.loop_tree.specs.declared.tree.CodeLine.TheVariants as line
use Rattle.loop_tree.specs.Lines.{flats}
use Rattle.loop_tree.specs.Text.{spell, function_head, functions_lines, with_line_feeds, text_of_program}
use Rattle.loop_tree.proofs.Bodies.{flats-append}
use Rattle.loop_writer.specs.declared.pieces.Piece.{Piece}
use Rattle.loop_writer.specs.declared.pieces.Piece.TheVariants.{Begin, Code}
use Rattle.loop_writer.specs.Pieces.{body_of, functions_of}
use Rattle.loop_writer.specs.Printed.{statements_text, begun_text, head_text, end_text, piece_text, count_behind, pieces_text}
use Rattle.loop_writer.specs.Printed.{given_text}

with_line_feeds-append : (a b : List (List ℕ)) → with_line_feeds (a ++ b) ≡ with_line_feeds a ++ with_line_feeds b
with_line_feeds-append a b = flat_map-append (λ (l : List ℕ). l ++ 10 ∷ []) a b

-- the lines behind n functions, of which the last is open
abbrev lines_behind : ℕ → List Piece → List (List ℕ)
lines_behind n left = map spell (flats (body_of left) ++ line.Close ∷ []) ++ functions_lines n (functions_of left)

code_lines : (n : ℕ) (code : List Stmt) (more : List Piece)
    → map spell (flats (code ++ body_of more) ++ line.Close ∷ []) ++ functions_lines n (functions_of more) ≡ map spell (flats code)
    ++ lines_behind n more
code_lines n code more =
    let end : List CodeLine = line.Close ∷ [] in
    ap (λ (l : List (List ℕ)). l ++ functions_lines n (functions_of more))
    (ap (λ (l : List CodeLine). map spell (l ++ end)) (flats-append code (body_of more))
    ∙ (ap (map spell) (append_assoc (flats code) (flats (body_of more)) end)
    ∙ map-append spell (flats code) (flats (body_of more) ++ end)))
    ∙ append_assoc (map spell (flats code)) (map spell (flats (body_of more) ++ end)) (functions_lines n (functions_of more))

text_behind : (n : ℕ) (left : List Piece) → with_line_feeds (lines_behind n left) ≡ pieces_text n left
text_behind n [] = refl
text_behind n (Begin parameters ∷ more) =
    let rest = lines_behind (n + 1) more in
    ap (λ (l : List ℕ). end_text ++ l)
    (with_line_feeds-append (function_head n parameters ∷ []) rest
    ∙ ap (λ (l : List ℕ). head_text n parameters ++ l) (text_behind (n + 1) more))
    ∙ sym (append_assoc end_text (head_text n parameters) (pieces_text (n + 1) more))
text_behind n (Code code ∷ more) =
    ap with_line_feeds (code_lines n code.statements more)
    ∙ (with_line_feeds-append (map spell (flats code.statements)) (lines_behind n more)
    ∙ ap (λ (l : List ℕ). statements_text code.statements ++ l) (text_behind n more))

whole_text : (left : List Piece) → text_of_program (functions_of (Begin [] ∷ left)) ≡ begun_text ++ pieces_text 1 left
whole_text left =
    with_line_feeds-append (codes "/* LoopC 1 */" ∷ function_head 0 [] ∷ []) (lines_behind 1 left)
    ∙ ap (λ (l : List ℕ). begun_text ++ l) (text_behind 1 left)

-- ---- pieces that were given, and others behind them

counted : (m : ℕ) (piece : Piece) (given : List Piece)
    → count_behind m piece + length (functions_of given) ≡ m + length (functions_of (piece ∷ given))
counted m (Begin parameters) given = omega arith
counted m (Code code) given = refl

behind_given : (m n : ℕ) (given left : List Piece) → n ≡ m + length (functions_of given)
    → pieces_text m (given ++ left) ≡ given_text m given ++ pieces_text n left
behind_given m n [] left e = let same : m ≡ n = omega (arith, e) in ap (λ (k : ℕ). pieces_text k left) same
behind_given m n (piece ∷ given) left e =
    ap (λ (l : List ℕ). piece_text m piece ++ l)
    (behind_given (count_behind m piece) n given left (e ∙ sym (counted m piece given)))
    ∙ sym (append_assoc (piece_text m piece) (given_text (count_behind m piece) given) (pieces_text n left))

-- the text of what was given, and what comes behind it
abbrev pub text_before : List Piece → List ℕ
text_before given = begun_text ++ given_text 1 given

pub text_parts : (n : ℕ) (given left : List Piece) → n ≡ 1 + length (functions_of given)
    → text_of_program (functions_of (Begin [] ∷ (given ++ left))) ≡ text_before given ++ pieces_text n left
text_parts n given left e =
    whole_text (given ++ left)
    ∙ (ap (λ (l : List ℕ). begun_text ++ l) (behind_given 1 n given left e)
    ∙ sym (append_assoc begun_text (given_text 1 given) (pieces_text n left)))

given_more : (m n : ℕ) (given : List Piece) (piece : Piece) → n ≡ m + length (functions_of given)
    → given_text m (given ++ piece ∷ []) ≡ given_text m given ++ piece_text n piece
given_more m n [] piece e = let same : m ≡ n = omega (arith, e) in append-nil (piece_text m piece)
    ∙ ap (λ (k : ℕ). piece_text k piece) same
given_more m n (p ∷ given) piece e =
    ap (λ (l : List ℕ). piece_text m p ++ l) (given_more (count_behind m p) n given piece (e ∙ sym (counted m p given)))
    ∙ sym (append_assoc (piece_text m p) (given_text (count_behind m p) given) (piece_text n piece))

pub before_more : (n : ℕ) (given : List Piece) (piece : Piece) → n ≡ 1 + length (functions_of given)
    → text_before given ++ piece_text n piece ≡ text_before (given ++ piece ∷ [])
before_more n given piece e =
    append_assoc begun_text (given_text 1 given) (piece_text n piece)
    ∙ ap (λ (l : List ℕ). begun_text ++ l) (sym (given_more 1 n given piece e))
