-- Short words to write the statements of small sources down, beside those of `names_types_rows` for expressions and declarations.
use Rattle.std.specs.Prelude.{ℕ, true, false, List, [], ◌∷◌, Option, None, codes}
use Prim.Native.String.{String}
use Rattle.f95_tree.specs.declared.terminal.Operator.TheVariants as operator
use Rattle.f95_tree.specs.declared.terminal.Relation.{Relation}
use Rattle.f95_tree.specs.declared.terminal.Sign.TheVariants as sign
use Rattle.names_types.specs.Plain.{Expr, Named, Signed, Binary, Reference, Whole, Applied, Substring, Items, triplet, Absent}
use Rattle.names_types.specs.Plain.{Given, Declaration, Procedure as Declared}
use Rattle.names_types_rows.specs.Build.{part}
use Rattle.shape_check.specs.Statements.{Assignment, Actual, Span, Index, Header, Sited, Assign, CallOf, Allocate, Deallocate}
use Rattle.shape_check.specs.Statements.{Print, Read, Masked, no_masked, assigning, Stmt, Act, If, Stmts, no_stmt, stmt, no_branch}
use Rattle.shape_check.specs.Statements.{branch, Procedure, Source}

-- ---- expressions

abbrev pub minus : Expr → Expr → Expr
minus e f = Binary operator.Subtract e f

abbrev pub power : Expr → Expr → Expr
power e f = Binary operator.Power e f

abbrev pub joined : Expr → Expr → Expr
joined e f = Binary operator.Concat e f

abbrev pub compared : Relation → Expr → Expr → Expr
compared r e f = Binary (operator.Relation r) e f

abbrev pub and : Expr → Expr → Expr
and e f = Binary operator.And e f

abbrev pub negative : Expr → Expr
negative e = Signed sign.Minus e

abbrev pub not_so : Expr → Expr
not_so e = Signed sign.Not e

-- `first : last` and `first : last : stride`
abbrev pub from_to : Expr → Expr → Items → Items
from_to f l more = triplet (Given f) (Given l) Absent more

abbrev pub from_to_by : Expr → Expr → Expr → Items → Items
from_to_by f l s more = triplet (Given f) (Given l) (Given s) more

-- `:`
abbrev pub each : Items → Items
each more = triplet Absent Absent Absent more

abbrev pub refer : String → Items → Expr
refer n items = Named (Applied (codes n) items)

abbrev pub cut : String → Items → Expr → Expr → Expr
cut n items f l = Named (Substring (codes n) items (Given f) (Given l))

-- ---- statements

abbrev pub to : String → Reference
to n = Whole (codes n)

abbrev pub at : String → Items → Reference
at n items = Applied (codes n) items

abbrev pub assignment : Reference → Expr → Assignment
assignment r e = record { to = r; value = e }

abbrev pub sets : ℕ → Reference → Expr → Stmt
sets line r e = Act line (Assign (assignment r e))

abbrev pub sited : ℕ → Reference → Expr → Sited
sited line r e = record { line = line; of = assignment r e }

abbrev pub prints : ℕ → List Expr → Stmt
prints line es = Act line (Print es)

abbrev pub reads : ℕ → List Reference → Stmt
reads line rs = Act line (Read rs)

abbrev pub actuals : List Expr → List Actual
actuals [] = []
actuals (e ∷ more) = record { keyword = None; value = e } ∷ actuals more

abbrev pub calls : ℕ → String → List Expr → Stmt
calls line n es = Act line (CallOf (codes n) (actuals es))

abbrev pub spans : List Expr → List Span
spans [] = []
spans (e ∷ more) = record { lower = Absent; upper = e } ∷ spans more

abbrev pub allocates : ℕ → String → List Expr → Stmt
allocates line n es = Act line (Allocate (record { name = codes n; spans = spans es } ∷ []))

abbrev pub frees : ℕ → String → Stmt
frees line n = Act line (Deallocate (codes n ∷ []))

abbrev pub block : List Stmt → Stmts
block [] = no_stmt
block (s ∷ more) = stmt s (block more)

abbrev pub when : ℕ → Expr → List Stmt → Stmt
when line e body = If (branch line e (block body) no_branch) no_stmt

abbrev pub masked : List Sited → Masked
masked [] = no_masked
masked (s ∷ more) = assigning s (masked more)

abbrev pub index : String → Expr → Expr → Index
index n f l = record { name = codes n; first = f; last = l; stride = Absent }

abbrev pub header : List Index → Option Expr → Header
header indices mask = record { indices = indices; mask = mask }

-- ---- units

abbrev pub subprogram : Declared → List Stmt → Procedure
subprogram p body = record { declared = p; recursive = false; pure = false; elemental = false; body = block body }

abbrev pub elemental_one : Declared → List Stmt → Procedure
elemental_one p body = record { declared = p; recursive = false; pure = false; elemental = true; body = block body }

abbrev pub main_with : List Declaration → List Stmt → List Procedure → Source
main_with declared body procedures =
    record { modules = []; line = 1; part = part [] declared []; body = block body; procedures = procedures }

abbrev pub main : List Declaration → List Stmt → Source
main declared body = main_with declared body []
