-- One statement more is one more by what it is in the unit, and the blocks that it stands in.
use Rattle.std.proofs.Common.{◌≡◌, ℕ, Bool, true, false, List, Option, Some, None, refl}
use Rattle.std.specs.Prelude.{if◌then◌else◌}
use Rattle.a95_base.specs.declared.source.Line.{Line}
use Rattle.f95_tree.specs.Forms.{Word}
use Rattle.f95_tree.specs.declared.form.Form.{Form}
use Rattle.f95_tree.specs.declared.form.Form.TheVariants as of
use Rattle.f95_tree.specs.declared.form.UnitForm.TheVariants as unit_of
use Rattle.f95_tree.specs.declared.form.BlockForm.{BlockForm}
use Rattle.f95_tree.specs.declared.form.BlockForm.TheVariants as block_of
use Rattle.f95_tree.specs.declared.form.Procedure.{Procedure}
use Rattle.f95_tree.specs.declared.source.Module.{Module}
use Rattle.f95_tree.specs.declared.source.Section.{Section}
use Rattle.f95_tree.specs.declared.source.Statement.{Statement}
use Rattle.f95_nesting.specs.declared.open.Body.{Body}
use Rattle.f95_nesting.specs.declared.open.Host.{Host}
use Rattle.f95_nesting.specs.declared.open.Place.{Place}
use Rattle.f95_nesting.specs.declared.open.Place.TheVariants as place
use Rattle.f95_nesting.specs.declared.open.State.{State}
use Rattle.f95_nesting.specs.declared.open.State.TheVariants as state
use Rattle.f95_nesting.specs.Machine.{
  no_section,
  no_body,
  is_empty,
  done_of,
  into,
  ending,
  end_procedure,
  module_move,
  main_move,
  start_move,
  contains_move,
  procedure_move,
  place_move,
  depth_at,
}
use Rattle.f95_blocks.specs.Units.{role_of, module_by, main_by, start_by, contains_by, procedure_by, place_by, opens_block}
use Rattle.f95_blocks.specs.Units.{with_opened}

stops_either : (t : Bool) → (if t then state.Stops else state.Stops) ≡ state.Stops
stops_either true = refl
stops_either false = refl

module_role : (ms : List Module) (k : Line) (n : Word) (s : Section) (l : Line) (f : Form) → module_move ms k n s l f
    ≡ module_by ms k n s l (role_of l f)
module_role ms k n s l (of.Unit (unit_of.Program _)) = refl
module_role ms k n s l (of.Unit (unit_of.«Module» _)) = refl
module_role ms k n s l (of.Unit (unit_of.Procedure _)) = refl
module_role ms k n s l (of.Unit (unit_of.Use _ _)) = refl
module_role ms k n s l (of.Unit unit_of.ImplicitNone) = refl
module_role ms k n s l (of.Unit unit_of.Contains) = refl
module_role ms k n s l (of.Unit unit_of.End) = refl
module_role ms k n s l (of.Unit (unit_of.EndUnit _ _)) = refl
module_role ms k n s l (of.Declaration _) = refl
module_role ms k n s l (of.Block _) = refl
module_role ms k n s l (of.Action _) = refl
module_role ms k n s l (of.If _ _) = refl

main_role : (ms : List Module) (o : Option (Line × Word)) (s : Section) (b : Body) (l : Line) (f : Form)
    → main_move ms o s b l f ≡ main_by ms o s b l (role_of l f)
main_role ms o s b l (of.Unit (unit_of.Program _)) = stops_either (is_empty b)
main_role ms o s b l (of.Unit (unit_of.«Module» _)) = stops_either (is_empty b)
main_role ms o s b l (of.Unit (unit_of.Procedure _)) = stops_either (is_empty b)
main_role ms o s b l (of.Unit (unit_of.Use _ _)) = refl
main_role ms o s b l (of.Unit unit_of.ImplicitNone) = refl
main_role ms o s b l (of.Unit unit_of.Contains) = refl
main_role ms o s b l (of.Unit unit_of.End) = refl
main_role ms o s b l (of.Unit (unit_of.EndUnit _ _)) = refl
main_role ms o s b l (of.Declaration _) = refl
main_role ms o s b l (of.Block _) = refl
main_role ms o s b l (of.Action _) = refl
main_role ms o s b l (of.If _ _) = refl

start_role : (ms : List Module) (l : Line) (f : Form) → start_move ms l f ≡ start_by ms l (role_of l f)
start_role ms l (of.Unit (unit_of.Program _)) = refl
start_role ms l (of.Unit (unit_of.«Module» _)) = refl
start_role ms l (of.Unit (unit_of.Procedure _)) = refl
start_role ms l (of.Unit (unit_of.Use _ _)) = refl
start_role ms l (of.Unit unit_of.ImplicitNone) = refl
start_role ms l (of.Unit unit_of.Contains) = refl
start_role ms l (of.Unit unit_of.End) = refl
start_role ms l (of.Unit (unit_of.EndUnit _ _)) = refl
start_role ms l (of.Declaration _) = refl
start_role ms l (of.Block _) = refl
start_role ms l (of.Action _) = refl
start_role ms l (of.If _ _) = refl

contains_role : (ms : List Module) (h : Host) (l : Line) (f : Form) → contains_move ms h l f ≡ contains_by ms h l (role_of l f)
contains_role ms h l (of.Unit (unit_of.Program _)) = refl
contains_role ms h l (of.Unit (unit_of.«Module» _)) = refl
contains_role ms h l (of.Unit (unit_of.Procedure _)) = refl
contains_role ms h l (of.Unit (unit_of.Use _ _)) = refl
contains_role ms h l (of.Unit unit_of.ImplicitNone) = refl
contains_role ms h l (of.Unit unit_of.Contains) = refl
contains_role ms h l (of.Unit unit_of.End) = refl
contains_role ms h l (of.Unit (unit_of.EndUnit _ _)) = refl
contains_role ms h l (of.Declaration _) = refl
contains_role ms h l (of.Block _) = refl
contains_role ms h l (of.Action _) = refl
contains_role ms h l (of.If _ _) = refl

-- END alone ends no procedure
no_end : (ms : List Module) (h : Host) (k : Line) (p : Procedure) (s : Section) (l : Line) (xs : Option (List Statement))
    → state.Stops ≡ into (end_procedure ms h k p s (ending l None None)) xs
no_end ms h k p s l None = refl
no_end ms h k p s l (Some _) = refl

alone : (t : Bool) (r : State) → state.Stops ≡ r → (if t then state.Stops else state.Stops) ≡ r
alone true r e = e
alone false r e = e

procedure_role : (ms : List Module) (h : Host) (k : Line) (p : Procedure) (s : Section) (b : Body) (l : Line) (f : Form)
    → procedure_move ms h k p s b l f ≡ procedure_by ms h k p s b l (role_of l f)
procedure_role ms h k p s b l (of.Unit (unit_of.Program _)) = stops_either (is_empty b)
procedure_role ms h k p s b l (of.Unit (unit_of.«Module» _)) = stops_either (is_empty b)
procedure_role ms h k p s b l (of.Unit (unit_of.Procedure _)) = stops_either (is_empty b)
procedure_role ms h k p s b l (of.Unit (unit_of.Use _ _)) = refl
procedure_role ms h k p s b l (of.Unit unit_of.ImplicitNone) = refl
procedure_role ms h k p s b l (of.Unit unit_of.Contains) = stops_either (is_empty b)
procedure_role ms h k p s b l (of.Unit unit_of.End) = alone (is_empty b)
    (into (end_procedure ms h k p s (ending l None None)) (done_of b)) (no_end ms h k p s l (done_of b))
procedure_role ms h k p s b l (of.Unit (unit_of.EndUnit _ _)) = refl
procedure_role ms h k p s b l (of.Declaration _) = refl
procedure_role ms h k p s b l (of.Block _) = refl
procedure_role ms h k p s b l (of.Action _) = refl
procedure_role ms h k p s b l (of.If _ _) = refl

pub place_role : (ms : List Module) (p : Place) (l : Line) (f : Form) → place_move ms p l f ≡ place_by ms p l (role_of l f)
place_role ms place.Start l f = start_role ms l f
place_role ms (place.«Module» k n s) l f = module_role ms k n s l f
place_role ms (place.Main o s b) l f = main_role ms o s b l f
place_role ms (place.Contains h) l f = contains_role ms h l f
place_role ms (place.Procedure h k p s b) l f = procedure_role ms h k p s b l f

pub depth_opened : (f : Form) (d : ℕ) → depth_at f d ≡ with_opened (opens_block f) d
depth_opened (of.Unit _) d = refl
depth_opened (of.Declaration _) d = refl
depth_opened (of.Action _) d = refl
depth_opened (of.If _ _) d = refl
depth_opened (of.Block (block_of.If _ _)) d = refl
depth_opened (of.Block (block_of.ElseIf _ _)) d = refl
depth_opened (of.Block (block_of.Else _)) d = refl
depth_opened (of.Block (block_of.EndIf _)) d = refl
depth_opened (of.Block (block_of.Select _ _)) d = refl
depth_opened (of.Block (block_of.Case _ _)) d = refl
depth_opened (of.Block (block_of.CaseDefault _)) d = refl
depth_opened (of.Block (block_of.EndSelect _)) d = refl
depth_opened (of.Block (block_of.Do _ _)) d = refl
depth_opened (of.Block (block_of.EndDo _)) d = refl
depth_opened (of.Block (block_of.Where _)) d = refl
depth_opened (of.Block (block_of.ElseWhere _)) d = refl
depth_opened (of.Block block_of.EndWhere) d = refl
depth_opened (of.Block (block_of.Forall _)) d = refl
depth_opened (of.Block block_of.EndForall) d = refl
