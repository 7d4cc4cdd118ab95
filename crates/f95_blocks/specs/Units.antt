-- One statement more by what it is in a unit, and what is noted of a statement.
use Rattle.std.specs.Prelude.{ℕ, suc, Bool, true, false, List, [], ◌∷◌, ◌++◌, Option, Some, None}
use Rattle.a95_base.specs.declared.source.Line.{Line}
use Rattle.a95_base.specs.declared.breaks.Break.{Break}
use Rattle.a95_base.specs.Breaks.{broken_at, noted}
use Rattle.a95_base.specs.Rules.{wrong_nesting, wrong_construct_name, too_many_blocks}
use Rattle.f95_tree.specs.Forms.{Word}
use Rattle.f95_tree.specs.declared.form.Form.{Form}
use Rattle.f95_tree.specs.declared.form.Form.TheVariants as of
use Rattle.f95_tree.specs.declared.form.UnitForm.{UnitForm}
use Rattle.f95_tree.specs.declared.form.UnitForm.TheVariants as unit_of
use Rattle.f95_tree.specs.declared.form.BlockForm.{BlockForm}
use Rattle.f95_tree.specs.declared.form.BlockForm.TheVariants as block_of
use Rattle.f95_tree.specs.declared.form.Procedure.{Procedure}
use Rattle.f95_tree.specs.declared.source.Module.{Module}
use Rattle.f95_tree.specs.declared.source.Section.{Section}
use Rattle.f95_nesting.specs.declared.open.Body.{Body}
use Rattle.f95_nesting.specs.declared.open.Host.{Host}
use Rattle.f95_nesting.specs.declared.open.Host.TheVariants as host
use Rattle.f95_nesting.specs.declared.open.Place.{Place}
use Rattle.f95_nesting.specs.declared.open.Place.TheVariants as place
use Rattle.f95_nesting.specs.declared.open.State.{State}
use Rattle.f95_nesting.specs.declared.open.State.TheVariants as state
use Rattle.f95_nesting.specs.Placed.{in_main, in_procedure}
use Rattle.f95_nesting.specs.Machine.{
  body_move,
  no_section,
  no_body,
  done_of,
  section_move,
  into,
  before_body,
  ending,
  end_module,
  end_main,
  end_host,
  end_procedure,
}
use Rattle.f95_blocks.specs.declared.roles.Beginning.{Beginning}
use Rattle.f95_blocks.specs.declared.roles.Beginning.TheVariants as beginning
use Rattle.f95_blocks.specs.declared.roles.SectionForm.{SectionForm}
use Rattle.f95_blocks.specs.declared.roles.SectionForm.TheVariants as section
use Rattle.f95_blocks.specs.declared.roles.Role.{Role}
use Rattle.f95_blocks.specs.declared.roles.Role.TheVariants as role

-- What a statement is in a unit.

abbrev pub unit_role : Line → UnitForm → Role
unit_role l (unit_of.Program n) = role.Begins (beginning.Program n)
unit_role l (unit_of.«Module» n) = role.Begins (beginning.«Module» n)
unit_role l (unit_of.Procedure p) = role.Begins (beginning.Procedure p)
unit_role l (unit_of.Use n only) = role.Section (section.Use n only)
unit_role l unit_of.ImplicitNone = role.Section section.ImplicitNone
unit_role l unit_of.Contains = role.Contains
unit_role l unit_of.End = role.Ends (ending l None None)
unit_role l (unit_of.EndUnit w n) = role.Ends (ending l (Some w) n)

abbrev pub role_of : Line → Form → Role
role_of l (of.Unit u) = unit_role l u
role_of l (of.Declaration d) = role.Section (section.Declaration d)
role_of l (of.Block b) = role.Within (of.Block b)
role_of l (of.Action a) = role.Within (of.Action a)
role_of l (of.If e a) = role.Within (of.If e a)

-- the form of a statement that stands before the others
abbrev pub section_form : SectionForm → Form
section_form (section.Use n only) = of.Unit (unit_of.Use n only)
section_form section.ImplicitNone = of.Unit unit_of.ImplicitNone
section_form (section.Declaration d) = of.Declaration d

-- One statement more, by what it is.

abbrev pub module_by : List Module → Line → Word → Section → Line → Role → State
module_by ms k n s l role.Contains = state.Goes ms (place.Contains (host.«Module» k n s l []))
module_by ms k n s l (role.Ends e) = end_module ms k n s None e
module_by ms k n s l (role.Section x) = into (λ s. state.Goes ms (place.«Module» k n s)) (section_move s l (section_form x))
module_by ms k n s l (role.Begins _) = state.Stops
module_by ms k n s l (role.Within _) = state.Stops

abbrev pub main_by : List Module → Option (Line × Word) → Section → Body → Line → Role → State
main_by ms o s b l role.Contains = into (λ xs. state.Goes ms (place.Contains (host.Main o s xs l []))) (done_of b)
main_by ms o s b l (role.Ends e) = into (end_main ms o s None e) (done_of b)
main_by ms o s b l (role.Section x) = before_body b (λ s. state.Goes ms (place.Main o s b)) (section_move s l (section_form x))
main_by ms o s b l (role.Within f) = into (λ b. state.Goes ms (place.Main o s b)) (body_move in_main b l f)
main_by ms o s b l (role.Begins _) = state.Stops

abbrev pub start_begin : List Module → Line → Beginning → State
start_begin ms l (beginning.«Module» n) = state.Goes ms (place.«Module» l n no_section)
start_begin ms l (beginning.Program n) = state.Goes ms (place.Main (Some (l, n)) no_section no_body)
start_begin ms l (beginning.Procedure _) = state.Stops

-- what doesn't begin a unit belongs to a main program without PROGRAM
abbrev pub start_by : List Module → Line → Role → State
start_by ms l (role.Begins x) = start_begin ms l x
start_by ms l role.Contains = main_by ms None no_section no_body l role.Contains
start_by ms l (role.Ends e) = main_by ms None no_section no_body l (role.Ends e)
start_by ms l (role.Section x) = main_by ms None no_section no_body l (role.Section x)
start_by ms l (role.Within f) = main_by ms None no_section no_body l (role.Within f)

abbrev pub contains_begin : List Module → Host → Line → Beginning → State
contains_begin ms h l (beginning.Procedure p) = state.Goes ms (place.Procedure h l p no_section no_body)
contains_begin ms h l (beginning.«Module» _) = state.Stops
contains_begin ms h l (beginning.Program _) = state.Stops

abbrev pub contains_by : List Module → Host → Line → Role → State
contains_by ms h l (role.Begins x) = contains_begin ms h l x
contains_by ms h l (role.Ends e) = end_host ms h e
contains_by ms h l role.Contains = state.Stops
contains_by ms h l (role.Section _) = state.Stops
contains_by ms h l (role.Within _) = state.Stops

abbrev pub procedure_by : List Module → Host → Line → Procedure → Section → Body → Line → Role → State
procedure_by ms h k p s b l (role.Ends e) = into (end_procedure ms h k p s e) (done_of b)
procedure_by ms h k p s b l (role.Section x) = before_body b (λ s. state.Goes ms (place.Procedure h k p s b))
    (section_move s l (section_form x))
procedure_by ms h k p s b l (role.Within f) = into (λ b. state.Goes ms (place.Procedure h k p s b)) (body_move in_procedure b l f)
procedure_by ms h k p s b l role.Contains = state.Stops
procedure_by ms h k p s b l (role.Begins _) = state.Stops

abbrev pub place_by : List Module → Place → Line → Role → State
place_by ms place.Start l r = start_by ms l r
place_by ms (place.«Module» k n s) l r = module_by ms k n s l r
place_by ms (place.Main o s b) l r = main_by ms o s b l r
place_by ms (place.Contains h) l r = contains_by ms h l r
place_by ms (place.Procedure h k p s b) l r = procedure_by ms h k p s b l r

-- The blocks that a statement stands in.

abbrev pub opens : BlockForm → Bool
opens (block_of.If _ _) = true
opens (block_of.Select _ _) = true
opens (block_of.Do _ _) = true
opens (block_of.Where _) = true
opens (block_of.Forall _) = true
opens _ = false

abbrev pub opens_block : Form → Bool
opens_block (of.Block b) = opens b
opens_block _ = false

-- so many blocks around it, and the one that it opens
abbrev pub with_opened : Bool → ℕ → ℕ
with_opened true d = suc d
with_opened false d = d

-- What is noted of a statement.

-- on this line, with a name that differs or in too many blocks
abbrev pub noted_in_place : Line → Bool → Bool → List Break
noted_in_place l misnamed deep = noted misnamed (broken_at l.0 wrong_construct_name) ++ noted deep (broken_at l.0 too_many_blocks)

-- the same, by what the machine then is
abbrev pub noted_of : Line → Bool → Bool → State → List Break
noted_of l misnamed deep state.Stops = broken_at l.0 wrong_nesting ∷ []
noted_of l misnamed deep (state.Goes _ _) = noted_in_place l misnamed deep
noted_of l misnamed deep (state.Ended _) = noted_in_place l misnamed deep
