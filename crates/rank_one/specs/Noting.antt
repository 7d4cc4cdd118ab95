-- The rules that a source breaks, noted one statement after another, and the arrays and statements that it has.
use Rattle.std.specs.Prelude.{ℕ, Bool, not, ◌||◌, nat_lt, List, [], ◌∷◌, ◌++◌, map, fold, Option, Some}
use Rattle.std.specs.Prelude.{None, is_some}
use Rattle.std.specs.List.{flat_map}
use Rattle.a95_base.specs.declared.source.Line.{Line}
use Rattle.a95_base.specs.declared.breaks.Break.{Break}
use Rattle.a95_base.specs.Breaks.{broken_at, noted}
use Rattle.a95_base.specs.Limits.{most_elements}
use Rattle.a95_base.specs.Rules.{not_yet, undeclared}
use Rattle.f95_tree.specs.Forms.{Word}
use Rattle.f95_tree.specs.declared.declaration.Declaration.{Declaration}
use Rattle.f95_tree.specs.declared.source.Module.{Module}
use Rattle.f95_tree.specs.declared.source.Source.{Source}
use Rattle.f95_tree.specs.declared.source.Statement.{Statement}
use Rattle.f95_tree.specs.declared.source.Subprogram.{Subprogram}
use Rattle.rank_one.specs.declared.form.NamedAction.{NamedAction}
use Rattle.rank_one.specs.declared.form.NamedArray.{NamedArray}
use Rattle.rank_one.specs.declared.symbols.Symbol.{Symbol}
use Rattle.rank_one.specs.Conditions.{place_of, is_conforming, is_declared}
use Rattle.rank_one.specs.Forms.{arrays_in, named_in, statement_line}
use Rattle.rank_one.specs.Reading.{symbol_on, with_symbol, symbols_in, symbols_of}

abbrev pub not_yet_at : ℕ → Break
not_yet_at line = broken_at line not_yet

abbrev pub undeclared_at : ℕ → Break
undeclared_at line = broken_at line undeclared

abbrev pub is_refused : List Symbol → Symbol → Bool
is_refused symbols x = is_some (place_of symbols x.name) || nat_lt most_elements x.array.extent

abbrev pub symbols_breaks : List Symbol → List Symbol → List Break
symbols_breaks symbols [] = []
symbols_breaks symbols (x ∷ xs) = noted (is_refused symbols x) (not_yet_at x.array.line)
    ++ symbols_breaks (with_symbol symbols x) xs

abbrev pub arrays_breaks : List Symbol → ℕ → Option (List NamedArray) → List Break
arrays_breaks symbols line None = not_yet_at line ∷ []
arrays_breaks symbols line (Some arrays) = symbols_breaks symbols (map (symbol_on line) arrays)

abbrev pub declarations_breaks : List Symbol → List (Line × Declaration) → List Break
declarations_breaks symbols [] = []
declarations_breaks symbols (d ∷ ds) =
    arrays_breaks symbols d.0.0 (arrays_in d.1) ++ declarations_breaks (fold with_symbol symbols (symbols_in d)) ds

abbrev pub action_breaks : List Symbol → ℕ → Option NamedAction → List Break
action_breaks symbols line None = not_yet_at line ∷ []
action_breaks symbols line (Some a) = noted (not (is_conforming symbols a)) (not_yet_at line)

abbrev pub statement_breaks : List Symbol → Statement → List Break
statement_breaks symbols x = action_breaks symbols (statement_line x) (named_in x)

abbrev pub implicit_breaks : Option Line → List Break
implicit_breaks None = []
implicit_breaks (Some l) = not_yet_at l.0 ∷ []

abbrev pub procedures_breaks : Option (Line × List Subprogram) → List Break
procedures_breaks None = []
procedures_breaks (Some c) = not_yet_at c.0.0 ∷ []

abbrev pub module_break : Module → Break
module_break m = not_yet_at m.line.0

abbrev pub use_break : Line × Word × Option (List Word) → Break
use_break u = not_yet_at u.0.0

-- what stands around the declarations and the statements
abbrev pub around_breaks : Source → List Break
around_breaks s = map module_break s.modules ++ (map use_break s.main.section.uses
    ++ (implicit_breaks s.main.section.implicit ++ procedures_breaks s.main.procedures))

abbrev pub not_yet_breaks : Source → List Break
not_yet_breaks s = around_breaks s ++ (declarations_breaks [] s.main.section.declarations
    ++ flat_map (statement_breaks (symbols_of s)) s.main.body)

abbrev pub name_breaks : List Symbol → ℕ → Option NamedAction → List Break
name_breaks symbols line None = []
name_breaks symbols line (Some a) = noted (not (is_declared symbols a)) (undeclared_at line)

abbrev pub names_breaks : List Symbol → Statement → List Break
names_breaks symbols x = name_breaks symbols (statement_line x) (named_in x)

abbrev pub undeclared_breaks : Source → List Break
undeclared_breaks s = flat_map (names_breaks (symbols_of s)) s.main.body
