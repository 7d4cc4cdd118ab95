-- Pieces that are given one after another make a program of the grammar.
use Rattle.std.proofs.Common.{◌≡◌, ℕ, ◌+◌, ◌≤◌, ◌^◌, Bool, true, false, List, [], ◌∷◌, ◌++◌, length, refl, ap, ◌∙◌, sym, subst}
use Rattle.std.proofs.Common.{arith, append_assoc, append-nil}
use Rattle.std.specs.Prelude.{Option, Some, None}
use Rattle.std.specs.List.{AllByRecursion}
use Rattle.loop_tree.specs.declared.tree.Stmt.{Stmt}
use Rattle.loop_tree.specs.Program.{some_leaves, IsFunction, IsProgram}
use Rattle.loop_tree.specs.Body.{Body, IsBody}
use Rattle.loop_tree.proofs.Bodies.{both_bodies}
use Rattle.loop_writer.specs.declared.pieces.Piece.{Piece}
use Rattle.loop_writer.specs.declared.pieces.Piece.TheVariants.{Begin, Code}
use Rattle.loop_writer.specs.Pieces.{body_of, functions_of, IsNext}
use Rattle.loop_writer.specs.Printed.{count_behind, FitsPiece, FitPieces}

-- what was given of all pieces, with so many functions, and these pieces are left
pub record Progress (all left : List Piece) (n : ℕ) : Type 0 where
  pub given : List Piece
  pub is : all ≡ Begin [] ∷ (given ++ left)
  pub fits : FitPieces given
  pub count : n ≡ 1 + length (functions_of given)
  pub few : n ≤ 2 ^ 32

abbrev pub at_first : (all left : List Piece) → all ≡ Begin [] ∷ left → Progress all left 1
at_first all left is = record { given = []; is = is; fits = tt; count = refl; few = omega arith }

-- ---- the next piece

pub is_next : (old new : List Piece) (next : Option Piece) (piece : Piece) → IsNext old new next → next ≡ Some piece
    → old ≡ piece ∷ new
is_next old new next piece h e = subst (λ (n : Option Piece). IsNext old new n) e h

pub is_last : (old new : List Piece) (next : Option Piece) → IsNext old new next → ((piece : Piece) → next ≡ Some piece → ⊥)
    → (old ≡ []) × (new ≡ [])
is_last old new None h none = h
is_last old new (Some piece) h none = absurd (none piece refl)

pub fit_more : (given : List Piece) (piece : Piece) → FitPieces given → FitsPiece piece → FitPieces (given ++ piece ∷ [])
fit_more [] piece f h = (h, tt)
fit_more (p ∷ given) piece f h = (f.0, fit_more given piece f.1 h)

pub count_more : (m n : ℕ) (given : List Piece) (piece : Piece) → n ≡ m + length (functions_of given)
    → count_behind n piece ≡ m + length (functions_of (given ++ piece ∷ []))
count_more m n [] (Begin parameters) e = omega (arith, e)
count_more m n [] (Code code) e = e
count_more m n (Begin ps ∷ given) piece e =
    let before : n ≡ (m + 1) + length (functions_of given) = omega (arith, e) in
    omega (arith, count_more (m + 1) n given piece before)
count_more m n (Code code ∷ given) piece e = count_more m n given piece e

abbrev pub one_more : (all left next : List Piece) (n m : ℕ) (piece : Piece) → Progress all left n → left ≡ piece ∷ next
    → FitsPiece piece → m ≡ count_behind n piece → (n ≤ 2 ^ 32 → m ≤ 2 ^ 32) → Progress all next m
one_more all left next n m piece p is fits e few = record {
  given = p.given ++ piece ∷ [];
  is = p.is
      ∙ ap (λ (l : List Piece). Begin [] ∷ l)
      (ap (λ (l : List Piece). p.given ++ l) is ∙ sym (append_assoc p.given (piece ∷ []) next));
  fits = fit_more p.given piece p.fits fits;
  count = e ∙ count_more 1 n p.given piece p.count;
  few = few p.few;
}

-- ---- the program

-- a body that stands in no loop, with all the room that a function's body has
lifted : (body : Body) → IsBody body → body.in_loop ≡ false
    → IsBody (record { statements = body.statements; room = 999; in_loop = false })
lifted body is out =
    record {
      numbers = is.numbers;
      loops = λ e. sym out ∙ is.loops e;
      braces = omega (arith, is.braces, is.room);
      room =
          omega arith;
    }

abbrev outer : List Stmt → Body
outer body = record { statements = body; room = 999; in_loop = false }

no_statements : IsBody (outer [])
no_statements = record { numbers = tt; loops = λ e. absurd cc; braces = omega arith; room = omega arith }

body_is : (given : List Piece) → FitPieces given → IsBody (outer (body_of given))
body_is [] f = no_statements
body_is (Begin parameters ∷ given) f = no_statements
body_is (Code code ∷ given) f = both_bodies 999 false code.statements (body_of given) (lifted code f.0.0 f.0.1) (body_is given f.1)

is_false : (b : Bool) → (b ≡ true → false ≡ true) → b ≡ false
is_false true h = sym (h refl)
is_false false h = refl

each_is : (given : List Piece) → FitPieces given → AllByRecursion IsFunction (functions_of given)
each_is [] f = tt
each_is (Begin parameters ∷ given) f =
    let body = body_is given f.1 in (
      record {
        parameters = f.0;
        numbers = body.numbers;
        loops = is_false (some_leaves (body_of given)) body.loops;
        braces =
            omega (arith, body.braces);
      },
      each_is given f.1,
    )
each_is (Code code ∷ given) f = each_is given f.1

given_program : (given : List Piece) → FitPieces given → 1 + length (functions_of given) ≤ 2 ^ 32
    → IsProgram (functions_of (Begin [] ∷ given))
given_program given f few =
    record { some = omega arith; count = omega (arith, few); main = refl; each = each_is (Begin [] ∷ given) (omega arith, f) }

-- what was given is a program
pub so_far : (all left : List Piece) (n : ℕ) → (p : Progress all left n) → IsProgram (functions_of (Begin [] ∷ p.given))
so_far all left n p = given_program p.given p.fits (omega (arith, p.count, p.few))

pub all_given : (all left : List Piece) (n : ℕ) → (p : Progress all left n) → left ≡ [] → all ≡ Begin [] ∷ p.given
all_given all left n p none = p.is ∙ ap (λ (l : List Piece). Begin [] ∷ l)
    (ap (λ (l : List Piece). p.given ++ l) none ∙ append-nil p.given)

pub is_program : (all left : List Piece) (n : ℕ) → Progress all left n → left ≡ [] → IsProgram (functions_of all)
is_program all left n p none = subst (λ (l : List Piece). IsProgram (functions_of l)) (sym (all_given all left n p none))
    (so_far all left n p)
