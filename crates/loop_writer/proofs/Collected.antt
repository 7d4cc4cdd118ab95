-- Pieces that are collected one after another.
use Rattle.std.proofs.Common.{◌≡◌, List, [], ◌∷◌, ◌++◌, ap, ◌∙◌, sym, append_assoc, append-nil}
use Rattle.loop_tree.specs.declared.tree.Stmt.{Stmt}
use Rattle.loop_tree.specs.declared.tree.Function.{Function}
use Rattle.loop_writer.specs.declared.pieces.Piece.{Piece}
use Rattle.loop_writer.specs.declared.pieces.Piece.TheVariants.{Begin, Code}
use Rattle.loop_writer.specs.declared.collecting.Begun.{Begun}
use Rattle.loop_writer.specs.Pieces.{body_of, functions_of}
use Rattle.loop_writer.specs.Collected.{closed, with_piece}

-- the functions, where these pieces follow
abbrev pub whole : Begun → List Piece → List Function
whole begun left = begun.functions ++ record { parameters = begun.parameters; body = begun.body ++ body_of left }
    ∷ functions_of left

same_whole : (begun : Begun) (piece : Piece) (next : List Piece) → whole (with_piece begun piece) next ≡ whole begun (piece ∷ next)
same_whole begun (Begin parameters) next =
    append_assoc begun.functions (record { parameters = begun.parameters; body = begun.body } ∷ [])
    (record { parameters = parameters; body = body_of next } ∷ functions_of next)
    ∙ ap (λ (b : List Stmt). begun.functions ++ record { parameters = begun.parameters; body = b }
    ∷ (record { parameters = parameters; body = body_of next } ∷ functions_of next))
    (sym (append-nil begun.body))
same_whole begun (Code code) next =
    ap (λ (b : List Stmt). begun.functions ++ record { parameters = begun.parameters; body = b } ∷ functions_of next)
    (append_assoc begun.body code.statements (body_of next))

pub goes_on : (begun after : Begun) (piece : Piece) (left next : List Piece) (all : List Function) → whole begun left ≡ all
    → left ≡ piece ∷ next → after ≡ with_piece begun piece → whole after next ≡ all
goes_on begun after piece left next all is first e =
    ap (λ (b : Begun). whole b next) e ∙ (same_whole begun piece next ∙ (ap (λ (l : List Piece). whole begun l) (sym first) ∙ is))

pub all_closed : (begun : Begun) (left : List Piece) (all : List Function) → whole begun left ≡ all → left ≡ []
    → closed begun ≡ all
all_closed begun left all is none =
    ap (λ (b : List Stmt). begun.functions ++ record { parameters = begun.parameters; body = b } ∷ []) (sym (append-nil begun.body))
    ∙ (ap (λ (l : List Piece). whole begun l) (sym none) ∙ is)
