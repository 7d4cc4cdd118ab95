-- The pieces that a lowering gives are those of its program.
use Rattle.std.proofs.Common.{◌≡◌, ℕ, ◌+◌, List, [], ◌∷◌, ◌++◌, refl, ap, ◌∙◌, sym, append_assoc}
use Rattle.rank_one.specs.declared.unit.Unit.{Unit}
use Rattle.rank_one.specs.declared.unit.Array.{Array}
use Rattle.rank_one.specs.declared.unit.Statement.{Statement}
use Rattle.loop_tree.specs.declared.tree.Stmt.{Stmt}
use Rattle.loop_tree.specs.declared.tree.Function.{Function}
use Rattle.loop_writer.specs.Pieces.{body_of, functions_of}
use Rattle.f95a_core.specs.Lowered.{array_code, declared_code, action_code, statements_code, program_of, array_pieces}
use Rattle.f95a_core.specs.Lowered.{statement_pieces, pieces_of}

statements_body : (arrays : List Array) (statements : List Statement) → body_of (statement_pieces arrays statements)
    ≡ statements_code arrays statements
statements_body arrays [] = refl
statements_body arrays (s ∷ statements) = ap (λ (more : List Stmt). action_code arrays s.line s.action ++ more)
    (statements_body arrays statements)

arrays_body : (arrays : List Array) (statements : List Statement) (number : ℕ) (left : List Array) →
    body_of (array_pieces number left ++ statement_pieces arrays statements) ≡ declared_code number left
    ++ statements_code arrays statements
arrays_body arrays statements number [] = statements_body arrays statements
arrays_body arrays statements number (a ∷ left) =
    ap (λ (more : List Stmt). array_code number a ++ more) (arrays_body arrays statements (number + 1) left)
    ∙ sym (append_assoc (array_code number a) (declared_code (number + 1) left) (statements_code arrays statements))

-- no further function begins
statements_alone : (arrays : List Array) (statements : List Statement) → functions_of (statement_pieces arrays statements) ≡ []
statements_alone arrays [] = refl
statements_alone arrays (s ∷ statements) = statements_alone arrays statements

arrays_alone : (arrays : List Array) (statements : List Statement) (number : ℕ) (left : List Array) →
    functions_of (array_pieces number left ++ statement_pieces arrays statements) ≡ []
arrays_alone arrays statements number [] = statements_alone arrays statements
arrays_alone arrays statements number (a ∷ left) = arrays_alone arrays statements (number + 1) left

pub pieces_are : (unit : Unit) → functions_of (pieces_of unit) ≡ program_of unit
pieces_are unit =
    ap (λ (body : List Stmt). record { parameters = []; body = body }
    ∷ functions_of (array_pieces 0 unit.arrays ++ statement_pieces unit.arrays unit.statements))
    (arrays_body unit.arrays unit.statements 0 unit.arrays)
    ∙ ap (λ (others : List Function). record
    { parameters = []; body = declared_code 0 unit.arrays ++ statements_code unit.arrays unit.statements } ∷ others)
    (arrays_alone unit.arrays unit.statements 0 unit.arrays)
