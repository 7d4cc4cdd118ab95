-- Which nested forms are of the first form, which unit they are, and the rules that others break.
use Rattle.std.specs.Prelude.{◌≡◌, ℕ, ◌<◌, ◌^◌, length, Bool, true, false, List, [], ◌∷◌, ◌++◌, map, fold, if◌then◌else◌, Option}
use Rattle.std.specs.Prelude.{Some, None, is_some, unwrap_or, Result, Ok, Err}
use Rattle.std.specs.List.{flat_map}
use Rattle.a95_base.specs.Lists.{Every, Member}
use Rattle.a95_base.specs.Breaks.{IsLeast}
use Rattle.a95_base.specs.Limits.{most_elements}
use Rattle.a95_base.specs.Rules.{not_yet, undeclared}
use Rattle.a95_base.specs.declared.breaks.Break.{Break}
use Rattle.a95_base.specs.declared.source.Line.{Line}
use Rattle.a95_base.specs.declared.source.PhaseError.{PhaseError}
use Rattle.a95_base.specs.declared.source.PhaseError.TheVariants.{Memory, Broken}
use Rattle.f95_tree.specs.Forms.{Word}
use Rattle.f95_tree.specs.declared.declaration.Declaration.{Declaration}
use Rattle.f95_tree.specs.declared.source.Module.{Module}
use Rattle.f95_tree.specs.declared.source.Source.{Source}
use Rattle.f95_tree.specs.declared.source.Statement.{Statement}
use Rattle.f95_tree.specs.declared.source.Subprogram.{Subprogram}
use Rattle.rank_one.specs.declared.unit.Unit as unit
use Rattle.rank_one.specs.declared.unit.Statement as typed
use Rattle.rank_one.specs.declared.form.NamedAction.{NamedAction}
use Rattle.rank_one.specs.declared.form.NamedArray.{NamedArray}
use Rattle.rank_one.specs.declared.symbols.Symbol.{Symbol}
use Rattle.rank_one.specs.Conditions.{place_of, is_conforming, is_declared}
use Rattle.rank_one.specs.Forms.{arrays_in, named_in, statement_line}
use Rattle.rank_one.specs.Placing.{placed_action}

-- What is declared.

abbrev pub symbol_on : ℕ → NamedArray → Symbol
symbol_on line a = record { name = a.name; array = record { line = line; extent = a.extent } }

-- the arrays of a declaration of the first form
abbrev pub symbols_in : Line × Declaration → List Symbol
symbols_in d = map (symbol_on d.0.0) (unwrap_or (arrays_in d.1) [])

abbrev pub declared_in : List (Line × Declaration) → List Symbol
declared_in declarations = flat_map symbols_in declarations

-- a name that is declared again names the first array
abbrev pub with_symbol : List Symbol → Symbol → List Symbol
with_symbol symbols x = if is_some (place_of symbols x.name) then symbols else symbols ++ x ∷ []

abbrev pub symbols_of : Source → List Symbol
symbols_of s = fold with_symbol [] (declared_in s.main.section.declarations)

-- Which unit a source is.

abbrev pub acted : List Symbol → ℕ → Option NamedAction → List typed.Statement
acted symbols line None = []
acted symbols line (Some a) = record { line = line; action = placed_action symbols a } ∷ []

-- what a statement of the first form does
abbrev pub statement_in : List Symbol → Statement → List typed.Statement
statement_in symbols x = acted symbols (statement_line x) (named_in x)

abbrev pub unit_of : Source → unit.Unit
unit_of s = record {
  arrays = map (λ x. x.array) (symbols_of s);
  statements = flat_map (statement_in (symbols_of s)) s.main.body;
}

-- What isn't built yet, at the first line of each statement that has it. What stands inside a module, a block or a procedure
-- stands behind the first line of that.
pub data IsNotYet (s : Source) : ℕ → ℕ → Type 0 where
  has_module : (m : Module) → Member s.modules m → IsNotYet s m.line.0 not_yet
  has_use : (u : Line × Word × Option (List Word)) → Member s.main.section.uses u → IsNotYet s u.0.0 not_yet
  has_implicit : (l : Line) → s.main.section.implicit ≡ Some l → IsNotYet s l.0 not_yet
  -- a declaration of another form
  other_declaration : (d : Line × Declaration) → Member s.main.section.declarations d → arrays_in d.1 ≡ None →
      IsNotYet s d.0.0 not_yet
  large_extent : (x : Symbol) → Member (declared_in s.main.section.declarations) x → most_elements < x.array.extent
      → IsNotYet s x.array.line not_yet
  -- an array whose name was declared before
  declared_twice : (before : List Symbol) (x : Symbol) (behind : List Symbol) → declared_in s.main.section.declarations ≡ before
      ++ x ∷ behind
      → is_some (place_of before x.name) ≡ true → IsNotYet s x.array.line not_yet
  -- a statement or a block of another form
  other_statement : (x : Statement) → Member s.main.body x → named_in x ≡ None → IsNotYet s (statement_line x) not_yet
  -- declared names of an assignment with unequal extents
  unequal_extents : (x : Statement) → Member s.main.body x → (a : NamedAction) → named_in x ≡ Some a →
      is_conforming (symbols_of s) a ≡ false
      → IsNotYet s (statement_line x) not_yet
  has_procedures : (c : Line × List Subprogram) → s.main.procedures ≡ Some c → IsNotYet s c.0.0 not_yet

-- a statement has a name that isn't declared
pub data IsUndeclared (s : Source) : ℕ → ℕ → Type 0 where
  unknown_name : (x : Statement) → Member s.main.body x → (a : NamedAction) → named_in x ≡ Some a → is_declared (symbols_of s) a
      ≡ false
      → IsUndeclared s (statement_line x) undeclared

-- all that the source has is built
abbrev pub IsBuilt : Source → Type 0
IsBuilt s = (line rule : ℕ) → IsNotYet s line rule → ⊥

-- all its names are declared
abbrev pub AreDeclared : Source → Type 0
AreDeclared s = (line rule : ℕ) → IsUndeclared s line rule → ⊥

-- the source is of the first form, and is this unit
pub record IsUnit (s : Source) (u : unit.Unit) : Type 0 where
  pub built : IsBuilt s
  pub declared : AreDeclared s
  pub is : u ≡ unit_of s

-- the line and the rule that are told
abbrev pub refusal_of : Break → PhaseError
refusal_of b = Broken (record { 0 = b.line }) (record { 0 = b.rule })

-- what is told of what isn't built, of names that aren't declared, and of the unit
abbrev pub told : Option Break → Option Break → unit.Unit → Result (Result unit.Unit PhaseError) PhaseError
told (Some b) names u = Err (refusal_of b)
told None (Some b) u = Ok (Err (refusal_of b))
told None None u = Ok (Ok u)

-- what a refusal says of what isn't built yet
abbrev pub RefusesForm : Source → PhaseError → Type 0
RefusesForm s Memory = Unit {0}
RefusesForm s (Broken line rule) = IsLeast (IsNotYet s) line.0 rule.0

-- what a refusal says of names, where all is built
abbrev pub RefusesNames : Source → PhaseError → Type 0
RefusesNames s Memory = Unit {0}
RefusesNames s (Broken line rule) = IsBuilt s × IsLeast (IsUndeclared s) line.0 rule.0

-- its line is a number of the machine
abbrev pub LineFits : Line × Declaration → Type 0
LineFits d = d.0.0 < 2 ^ 32

abbrev pub StatementFits : Statement → Type 0
StatementFits x = statement_line x < 2 ^ 32

-- its lines, and the number of its arrays, are numbers of the machine
pub record Fits (s : Source) : Type 0 where
  pub count : length (symbols_of s) < 2 ^ 32
  pub declarations : Every LineFits s.main.section.declarations
  pub statements : Every StatementFits s.main.body
