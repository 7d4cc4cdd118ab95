-- Lists one behind the other.
use Rattle.std.proofs.Common.{◌≡◌, refl, ap, ◌∙◌, ℕ, List, [], ◌∷◌, ◌++◌, map}
use Rattle.std.proofs.lemmas.List.{map-append}
use Rattle.f95_unit.specs.Plain.{Expr, Arguments, no_argument, argument}
use Rattle.nest_tree.specs.declared.statement.Statement.{Statement}
use Rattle.nest_tree.specs.declared.tree.Operand.{Operand}
use Rattle.nest_tree.specs.declared.unit.Sort.{Sort}
use Rattle.nest_tree.specs.Plain.{Statements, no_statement, statement, Trees, no_tree, tree, joined}
use Rattle.nest_tree.specs.View.{AddTree, joined_trees, statement_of, statements_of}
use Rattle.control_lower.specs.Trees.{sort_of_expr, Lowered, LoweredAll, held, lowered, arguments}
use Rattle.control_lower.proofs.Chains.{joined_assoc}
use Rattle.control_nests.specs.View.{operand_of, onto, then_all}

pub statements_append : (xs ys : List Statement) → statements_of (xs ++ ys) ≡ joined (statements_of xs) (statements_of ys)
statements_append [] ys = refl
statements_append (x ∷ xs) ys = ap (λ rest. statement (statement_of x) rest) (statements_append xs ys)

pub operands_more : (xs : List Operand) (x : Operand) → map operand_of (xs ++ x ∷ []) ≡ map operand_of xs ++ operand_of x ∷ []
operands_more xs x = map-append operand_of xs (x ∷ [])

pub joined_none : (p : Statements) → joined p no_statement ≡ p
joined_none no_statement = refl
joined_none (statement s more) = ap (λ rest. statement s rest) (joined_none more)

onto_more : (adds : List AddTree) (add : AddTree) (ts : Trees) → onto (adds ++ add ∷ []) ts ≡ onto adds (add ts)
onto_more [] add ts = refl
onto_more (a ∷ adds) add ts = ap a (onto_more adds add ts)

onto_none : (adds : List AddTree) → onto adds no_tree ≡ joined_trees adds
onto_none [] = refl
onto_none (a ∷ adds) = ap a (onto_none adds)

-- one argument more, and the rest
pub argument_step : (line : ℕ) (parts : Statements) (adds : List AddTree) (taken : List Sort) (place : ℕ) (e : Expr)
    (es : Arguments)
    → then_all (joined parts (held line (sort_of_expr e) (lowered line taken e)).parts)
    (adds ++ tree place (held line (sort_of_expr e) (lowered line taken e)).tree ∷ [])
    (arguments line (held line (sort_of_expr e) (lowered line taken e)).scalars es)
    ≡ then_all parts adds (arguments line taken (argument place e es))
argument_step line parts adds taken place e es =
    let h : Lowered = held line (sort_of_expr e) (lowered line taken e) in
    let next : LoweredAll = arguments line h.scalars es in
    rw (joined_assoc parts h.parts next.parts, onto_more adds (tree place h.tree) next.trees) refl

pub argument_made : (line : ℕ) (parts : Statements) (adds : List AddTree) (taken : List Sort) (place : ℕ) (e : Expr) (s : Sort)
    (l : Lowered)
    (parts' : Statements) (adds' : List AddTree) (taken' : List Sort) → s ≡ sort_of_expr e → l ≡ lowered line taken e
    → (parts' ≡ joined parts (held line s l).parts) × (adds' ≡ adds ++ tree place (held line s l).tree ∷ []) ×
    (taken' ≡ (held line s l).scalars)
    → (more : Arguments) → then_all parts' adds' (arguments line taken' more) ≡ then_all parts adds
    (arguments line taken (argument place e more))
argument_made line parts adds taken place e s l parts' adds' taken' is same h more =
    ap (λ p. then_all p adds' (arguments line taken' more)) h.0
    ∙ ap (λ a. then_all (joined parts (held line s l).parts) a (arguments line taken' more)) h.1
    ∙ ap (λ t. then_all (joined parts (held line s l).parts) (adds ++ tree place (held line s l).tree ∷ [])
    (arguments line t more)) h.2
    ∙ ap (λ w. then_all (joined parts (held line w l).parts) (adds ++ tree place (held line w l).tree ∷ [])
    (arguments line (held line w l).scalars more)) is
    ∙ ap (λ w. then_all (joined parts (held line (sort_of_expr e) w).parts)
    (adds ++ tree place (held line (sort_of_expr e) w).tree ∷ [])
    (arguments line (held line (sort_of_expr e) w).scalars more)) same
    ∙ argument_step line parts adds taken place e more

pub arguments_end : (line : ℕ) (parts : Statements) (adds : List AddTree) (taken : List Sort)
    → then_all parts adds (arguments line taken no_argument) ≡ record { parts = parts; trees = joined_trees adds; scalars = taken }
arguments_end line parts adds taken = rw (joined_none parts, onto_none adds) refl
