-- Short words to write small sources down: each stands for a piece of a source as plain data.
use Rattle.std.specs.Prelude.{ℕ, pos, Bool, List, [], ◌∷◌, Option, Some, None, codes}
use Prim.Native.String.{String}
use Rattle.a95_base.specs.declared.scalar.Scalar.TheVariants as scalar
use Rattle.f95_tree.specs.Forms.{Word}
use Rattle.f95_tree.specs.declared.terminal.Operator.TheVariants as operator
use Rattle.f95_tree.specs.declared.declaration.Intent.TheVariants as intent
use Rattle.names_types.specs.declared.mention.Mention.{Mention}
use Rattle.names_types.specs.Plain.{Expr, Literal, Named, Constructor, Binary, Whole, Applied, Items, no_item, plain, keyword, Values, no_value, value, TypeSpec, Dim, Attribute, Intended, Entity, Declaration, Use, Part, Procedure, Host, Module, Source}

-- ---- expressions

abbrev pub number : ℕ → Expr
number n = Literal (scalar.Int (pos n))

abbrev pub truth : Bool → Expr
truth b = Literal (scalar.Log b)

abbrev pub text : String → Expr
text s = Literal (scalar.Text (codes s))

abbrev pub name : String → Expr
name n = Named (Whole (codes n))

abbrev pub plus : Expr → Expr → Expr
plus e f = Binary operator.Add e f

abbrev pub times : Expr → Expr → Expr
times e f = Binary operator.Multiply e f

abbrev pub over : Expr → Expr → Expr
over e f = Binary operator.Divide e f

abbrev pub items : List Expr → Items
items [] = no_item
items (e ∷ more) = plain e (items more)

abbrev pub call : String → List Expr → Expr
call n es = Named (Applied (codes n) (items es))

-- arguments with keywords
abbrev pub keyed_items : List (String × Expr) → Items
keyed_items [] = no_item
keyed_items (a ∷ more) = keyword (codes a.0) a.1 (keyed_items more)

abbrev pub keyed_call : String → List (String × Expr) → Expr
keyed_call n args = Named (Applied (codes n) (keyed_items args))

abbrev pub listed : List Expr → Values
listed [] = no_value
listed (e ∷ more) = value e (listed more)

abbrev pub constructor : List Expr → Expr
constructor es = Constructor (listed es)

-- ---- declarations

abbrev pub scalar_entity : String → Entity
scalar_entity n = record { name = codes n; dims = None; initial = None }

abbrev pub array_entity : String → List Dim → Entity
array_entity n dims = record { name = codes n; dims = Some dims; initial = None }

abbrev pub initial_entity : String → Expr → Entity
initial_entity n e = record { name = codes n; dims = None; initial = Some e }

abbrev pub initial_array : String → List Dim → Expr → Entity
initial_array n dims e = record { name = codes n; dims = Some dims; initial = Some e }

abbrev pub declares : ℕ → TypeSpec → List Attribute → List Entity → Declaration
declares line of attributes entities = record { line = line; of = of; attributes = attributes; entities = entities }

-- INTENT(IN), INTENT(OUT)
abbrev pub taken : Attribute
taken = Intended intent.In

abbrev pub given : Attribute
given = Intended intent.Out

-- ---- units

abbrev pub words : List String → List Word
words [] = []
words (s ∷ more) = codes s ∷ words more

abbrev pub uses : ℕ → String → Use
uses line n = record { line = line; «module» = codes n; only = None }

abbrev pub uses_only : ℕ → String → List String → Use
uses_only line n only = record { line = line; «module» = codes n; only = Some (words only) }

-- a statement that names these
abbrev pub mentions : ℕ → List String → List Mention
mentions line [] = []
mentions line (n ∷ more) = record { line = line; name = codes n } ∷ mentions line more

abbrev pub part : List Use → List Declaration → List Mention → Part
part used declared named = record { uses = used; declarations = declared; mentions = named }

abbrev pub subroutine : ℕ → String → List String → Part → Procedure
subroutine line n dummies p = record { line = line; name = codes n; dummies = words dummies; function = None; part = p }

abbrev pub function : ℕ → Option TypeSpec → String → List String → String → Part → Procedure
function line of n dummies result p =
    record {
      line = line;
      name = codes n;
      dummies = words dummies;
      function = Some (record { of = of; result = codes result });
      part = p;
    }

abbrev pub host : Part → List Procedure → Host
host p procedures = record { part = p; procedures = procedures }

abbrev pub a_module : String → Part → List Procedure → Module
a_module n p procedures = record { name = codes n; host = host p procedures }

abbrev pub source : List Module → Part → List Procedure → Source
source modules p procedures = record { modules = modules; main = host p procedures }

-- a main program alone
abbrev pub main : List Declaration → List Mention → Source
main declared named = source [] (part [] declared named) []

-- a main program with one procedure
abbrev pub with_one : List Declaration → Procedure → Source
with_one declared p = source [] (part [] declared []) (p ∷ [])
