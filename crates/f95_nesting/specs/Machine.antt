-- The machine that nests forms: one statement a step, with what is open and what stands before it.
use Rattle.std.specs.Prelude.{ℕ, suc, Bool, true, false, not, ◌&&◌, ◌||◌, List, [], ◌∷◌, ◌++◌, map, Option, Some, None}
use Rattle.std.specs.Prelude.{if◌then◌else◌}
use Rattle.a95_base.specs.declared.source.Line.{Line}
use Rattle.f95_tree.specs.Forms.{Word}
use Rattle.f95_tree.specs.declared.terminal.UnitWord.{UnitWord}
use Rattle.f95_tree.specs.declared.terminal.UnitWord.TheVariants as word
use Rattle.f95_tree.specs.declared.action.Action.{Action}
use Rattle.f95_tree.specs.declared.action.Action.TheVariants as act
use Rattle.f95_tree.specs.declared.action.Header.{Header}
use Rattle.f95_tree.specs.declared.action.Assignment.{Assignment}
use Rattle.f95_tree.specs.declared.expression.Expression.{Expression}
use Rattle.f95_tree.specs.declared.form.Form.{Form}
use Rattle.f95_tree.specs.declared.form.Form.TheVariants as of
use Rattle.f95_tree.specs.declared.form.UnitForm.{UnitForm}
use Rattle.f95_tree.specs.declared.form.UnitForm.TheVariants as unit_of
use Rattle.f95_tree.specs.declared.form.BlockForm.{BlockForm}
use Rattle.f95_tree.specs.declared.form.BlockForm.TheVariants as block_of
use Rattle.f95_tree.specs.declared.form.CaseRange.{CaseRange}
use Rattle.f95_tree.specs.declared.form.Procedure.{Procedure}
use Rattle.f95_tree.specs.declared.source.Module.{Module}
use Rattle.f95_tree.specs.declared.source.Subprogram.{Subprogram}
use Rattle.f95_tree.specs.declared.source.Section.{Section}
use Rattle.f95_tree.specs.declared.source.Ending.{Ending}
use Rattle.f95_tree.specs.declared.source.Statement.{Statement}
use Rattle.f95_tree.specs.declared.source.Statement.TheVariants as statement
use Rattle.f95_tree.specs.declared.source.Branch.{Branch, roll-Branch}
use Rattle.f95_tree.specs.declared.source.Case.{Case, roll-Case}
use Rattle.f95_tree.specs.declared.source.Otherwise.{Otherwise, roll-Otherwise}
use Rattle.f95_tree.specs.declared.source.WhereStatement.{WhereStatement}
use Rattle.f95_tree.specs.declared.source.WhereStatement.TheVariants as where_statement
use Rattle.f95_tree.specs.declared.source.WhereBlock.{WhereBlock, roll-WhereBlock}
use Rattle.f95_tree.specs.declared.source.ElseWhere.{ElseWhere, roll-ElseWhere}
use Rattle.f95_nesting.specs.declared.open.Block.{Block}
use Rattle.f95_nesting.specs.declared.open.Block.TheVariants as block
use Rattle.f95_nesting.specs.declared.open.IfHead.{IfHead}
use Rattle.f95_nesting.specs.declared.open.BranchHead.{BranchHead}
use Rattle.f95_nesting.specs.declared.open.SelectHead.{SelectHead}
use Rattle.f95_nesting.specs.declared.open.CaseHead.{CaseHead}
use Rattle.f95_nesting.specs.declared.open.DoHead.{DoHead}
use Rattle.f95_nesting.specs.declared.open.Frame.{Frame}
use Rattle.f95_nesting.specs.declared.open.WherePart.{WherePart}
use Rattle.f95_nesting.specs.declared.open.WherePart.TheVariants as part
use Rattle.f95_nesting.specs.declared.open.WhereFrame.{WhereFrame}
use Rattle.f95_nesting.specs.declared.open.Inner.{Inner}
use Rattle.f95_nesting.specs.declared.open.Inner.TheVariants as inner
use Rattle.f95_nesting.specs.declared.open.Body.{Body}
use Rattle.f95_nesting.specs.declared.open.Host.{Host}
use Rattle.f95_nesting.specs.declared.open.Host.TheVariants as host
use Rattle.f95_nesting.specs.declared.open.Place.{Place}
use Rattle.f95_nesting.specs.declared.open.Place.TheVariants as place
use Rattle.f95_nesting.specs.declared.open.State.{State}
use Rattle.f95_nesting.specs.declared.open.State.TheVariants as state
use Rattle.f95_nesting.specs.Lists.{some, is_absent}
use Rattle.f95_nesting.specs.Placed.{Placed, placed, outside, differs, Context, deeper, inside_do, action_stands, Range, case_range}
use Rattle.f95_nesting.specs.Placed.{in_main, in_procedure, may_end, is_filled, heading_word, heading_name, program_name}
use Rattle.f95_nesting.specs.Nesting.{Lined}

-- What is open.

-- what the statements of a block stand in
abbrev pub inside : Block → Context → Context
inside (block.Do h) c = inside_do h.name c
inside (block.If _) c = deeper c
inside (block.ElseIf _ _ _ _) c = deeper c
inside (block.Else _ _ _ _ _) c = deeper c
inside (block.Case _ _ _) c = deeper c

abbrev pub context : Context → List Frame → Context
context c [] = c
context c (f ∷ fs) = inside f.block (context c fs)

-- so many blocks around, and these WHERE blocks
abbrev pub deep : ℕ → List WhereFrame → ℕ
deep d [] = d
deep d (w ∷ ws) = suc (deep d ws)

abbrev pub block_name : Block → Option Word
block_name (block.If h) = h.name
block_name (block.ElseIf h _ _ _) = h.name
block_name (block.Else h _ _ _ _) = h.name
block_name (block.Case h _ _) = h.name
block_name (block.Do h) = h.name

-- the name of the innermost block, or of the unit where none is open
abbrev pub frames_name : List Frame → Option Word → Option Word
frames_name [] unit = unit
frames_name (f ∷ _) unit = block_name f.block

abbrev pub inner_name : Inner → Option Word → Option Word
inner_name (inner.Statements _) around = around
inner_name (inner.Select _ h) around = h.name
inner_name (inner.Where _ _ _) around = None
inner_name (inner.Forall _ _ _ _) around = None

abbrev pub body_name : Body → Option Word → Option Word
body_name b unit = inner_name b.inner (frames_name b.outer unit)

abbrev pub inner_depth : Inner → ℕ → ℕ
inner_depth (inner.Statements _) d = d
inner_depth (inner.Select _ _) d = suc d
inner_depth (inner.Where _ outer _) d = suc (deep d outer)
inner_depth (inner.Forall _ _ _ _) d = suc d

abbrev pub body_depth : Context → Body → ℕ
body_depth c b = inner_depth b.inner (context c b.outer).blocks

-- The statement that is read.

-- the name at an end, ELSE or CASE
abbrev pub block_end_name : BlockForm → Option Word
block_end_name (block_of.ElseIf _ n) = n
block_end_name (block_of.Else n) = n
block_end_name (block_of.EndIf n) = n
block_end_name (block_of.Case _ n) = n
block_end_name (block_of.CaseDefault n) = n
block_end_name (block_of.EndSelect n) = n
block_end_name (block_of.EndDo n) = n
block_end_name _ = None

abbrev pub unit_end_name : UnitForm → Option Word
unit_end_name (unit_of.EndUnit _ n) = n
unit_end_name _ = None

abbrev pub end_name : Form → Option Word
end_name (of.Block b) = block_end_name b
end_name (of.Unit u) = unit_end_name u
end_name _ = None

-- the blocks that a form stands in where so many are open before it
abbrev pub block_depth : BlockForm → ℕ → ℕ
block_depth (block_of.If _ _) d = suc d
block_depth (block_of.Select _ _) d = suc d
block_depth (block_of.Do _ _) d = suc d
block_depth (block_of.Where _) d = suc d
block_depth (block_of.Forall _) d = suc d
block_depth _ d = d

abbrev pub depth_at : Form → ℕ → ℕ
depth_at (of.Block b) d = block_depth b d
depth_at _ d = d

-- a form in its place, where it may stand there
abbrev pub marked : Line → Form → Option Word → ℕ → Placed
marked l f n d = placed l f (differs (end_name f) n) (depth_at f d) true

-- Statements and blocks.

abbrev pub only_if : {A : Type 0} → Bool → A → Option A
only_if true a = Some a
only_if false a = None

abbrev pub body : List Frame → Inner → Body
body outer i = record { outer = outer; inner = i }

abbrev pub open_block : List Frame → List Statement → Block → Body
open_block outer before b = body (record { before = before; block = b } ∷ outer) (inner.Statements [])

abbrev pub more : List Frame → List Statement → Statement → Body
more outer done x = body outer (inner.Statements (done ++ x ∷ []))

abbrev pub ending : Line → Option UnitWord → Option Word → Ending
ending l w n = record { line = l; word = w; name = n }

abbrev pub if_head : Line → Option Word → Expression → IfHead
if_head l n e = record { line = l; name = n; condition = e }

abbrev pub branch_head : Line → Expression → Option Word → BranchHead
branch_head l e n = record { line = l; condition = e; name = n }

abbrev pub select_head : Line → Option Word → Expression → SelectHead
select_head l n e = record { line = l; name = n; selector = e }

abbrev pub case_head : Line → Option (List CaseRange) → Option Word → CaseHead
case_head l ranges n = record { line = l; ranges = ranges; name = n }

abbrev pub branch_of : BranchHead → List Statement → Branch
branch_of b done = roll-Branch (record { line = b.line; condition = b.condition; name = b.name; body = done })

abbrev pub otherwise_of : Line → Option Word → List Statement → Otherwise
otherwise_of l n done = roll-Otherwise (record { line = l; name = n; body = done })

abbrev pub case_of : CaseHead → List Statement → Case
case_of k done = roll-Case (record { line = k.line; ranges = k.ranges; name = k.name; body = done })

abbrev pub if_block : IfHead → List Statement → List Branch → Option Otherwise → Line → Option Word → Statement
if_block h body branches other l n = statement.IfBlock h.line h.name h.condition body branches other (ending l None n)

abbrev pub select_block : SelectHead → List Case → Line → Option Word → Statement
select_block h cases l n = statement.Select h.line h.name h.selector cases (ending l None n)

abbrev pub seen_after : Bool → List Range → Bool
seen_after seen [] = seen
seen_after seen (r ∷ rs) = seen_after (seen || r.default) rs

-- whether one of them is CASE DEFAULT
abbrev pub has_default : List Case → Bool
has_default cases = seen_after false (map case_range cases)

-- a CASE behind these
abbrev pub next_case : List Frame → List Statement → SelectHead → List Case → CaseHead → Option Body
next_case outer before h cases k = only_if (not (is_absent k.ranges && has_default cases))
    (open_block outer before (block.Case h cases k))

abbrev pub in_if : List Frame → List Statement → IfHead → List Statement → Line → BlockForm → Option Body
in_if outer before h done l (block_of.ElseIf e n) = Some (open_block outer before (block.ElseIf h done [] (branch_head l e n)))
in_if outer before h done l (block_of.Else n) = Some (open_block outer before (block.Else h done [] l n))
in_if outer before h done l (block_of.EndIf n) = Some (more outer before (if_block h done [] None l n))
in_if outer before h done l _ = None

abbrev pub in_else_if : List Frame → List Statement → IfHead → List Statement → List Branch → Line → BlockForm → Option Body
in_else_if outer before h first branches l (block_of.ElseIf e n) =
    Some (open_block outer before (block.ElseIf h first branches (branch_head l e n)))
in_else_if outer before h first branches l (block_of.Else n) = Some (open_block outer before (block.Else h first branches l n))
in_else_if outer before h first branches l (block_of.EndIf n) = Some (more outer before (if_block h first branches None l n))
in_else_if outer before h first branches l _ = None

abbrev pub in_else : List Frame → List Statement → IfHead → List Statement → List Branch → Otherwise → Line → BlockForm →
    Option Body
in_else outer before h first branches other l (block_of.EndIf n) =
    Some (more outer before (if_block h first branches (Some other) l n))
in_else outer before h first branches other l _ = None

abbrev pub in_select : List Frame → List Statement → SelectHead → List Case → Line → BlockForm → Option Body
in_select outer before h cases l (block_of.Case ranges n) = next_case outer before h cases (case_head l (Some ranges) n)
in_select outer before h cases l (block_of.CaseDefault n) = next_case outer before h cases (case_head l None n)
in_select outer before h cases l (block_of.EndSelect n) = Some (more outer before (select_block h cases l n))
in_select outer before h cases l _ = None

abbrev pub in_do : List Frame → List Statement → DoHead → List Statement → Line → BlockForm → Option Body
in_do outer before h done l (block_of.EndDo n) =
    Some (more outer before (statement.Do h.line h.name h.control done (ending l None n)))
in_do outer before h done l _ = None

-- a statement that parts or ends the innermost block
abbrev pub in_block : List Frame → List Statement → Block → List Statement → Line → BlockForm → Option Body
in_block outer before (block.If h) done l b = in_if outer before h done l b
in_block outer before (block.ElseIf h first branches k) done l b =
    in_else_if outer before h first (branches ++ branch_of k done ∷ []) l b
in_block outer before (block.Else h first branches m n) done l b = in_else outer before h first branches (otherwise_of m n done) l b
in_block outer before (block.Case h cases k) done l b = in_select outer before h (cases ++ case_of k done ∷ []) l b
in_block outer before (block.Do h) done l b = in_do outer before h done l b

abbrev pub in_frames : List Frame → List Statement → Line → BlockForm → Option Body
in_frames [] done l b = None
in_frames (f ∷ outer) done l b = in_block outer f.before f.block done l b

abbrev pub where_frame : Line → Expression → WherePart → List WhereStatement → WhereFrame
where_frame l m p done = record { line = l; mask = m; part = p; done = done }

abbrev pub block_move : List Frame → List Statement → Line → BlockForm → Option Body
block_move outer done l (block_of.If n e) = Some (open_block outer done (block.If (if_head l n e)))
block_move outer done l (block_of.Select n e) = Some (body outer (inner.Select done (select_head l n e)))
block_move outer done l (block_of.Do n control) =
    Some (open_block outer done (block.Do (record { line = l; name = n; control = control })))
block_move outer done l (block_of.Where m) = Some (body outer (inner.Where done [] (where_frame l m part.First [])))
block_move outer done l (block_of.Forall h) = Some (body outer (inner.Forall done l h []))
block_move outer done l b = in_frames outer done l b

abbrev pub statements_move : Context → List Frame → List Statement → Line → Form → Option Body
statements_move c outer done l (of.Action a) = only_if (action_stands c a) (more outer done (statement.Action l a))
statements_move c outer done l (of.If e a) = only_if (action_stands c a) (more outer done (statement.If l e a))
statements_move c outer done l (of.Block b) = block_move outer done l b
statements_move c outer done l _ = None

abbrev pub select_move : List Frame → List Statement → SelectHead → Line → Form → Option Body
select_move outer before h l (of.Block b) = in_select outer before h [] l b
select_move outer before h l _ = None

-- WHERE blocks.

abbrev pub elsewhere_of : Line → Option Expression → List WhereStatement → ElseWhere
elsewhere_of l m done = roll-ElseWhere (record { line = l; mask = m; body = done })

abbrev pub where_block : Line → Expression → List WhereStatement → List ElseWhere → Line → WhereBlock
where_block l m first others end = roll-WhereBlock (record { line = l; mask = m; body = first; others = others; end = end })

abbrev pub closed_part : Line → Expression → WherePart → List WhereStatement → Line → WhereBlock
closed_part k mask part.First done end = where_block k mask done [] end
closed_part k mask (part.Behind first others l m) done end = where_block k mask first (others ++ elsewhere_of l m done ∷ []) end

abbrev pub closed_where : WhereFrame → Line → WhereBlock
closed_where w end = closed_part w.line w.mask w.part w.done end

abbrev pub more_where : WhereFrame → WhereStatement → WhereFrame
more_where w x = where_frame w.line w.mask w.part (w.done ++ x ∷ [])

-- an ELSEWHERE, which may not stand behind one without mask
abbrev pub next_part : WherePart → List WhereStatement → Line → Option Expression → Option WherePart
next_part part.First done l m = Some (part.Behind done [] l m)
next_part (part.Behind first others k n) done l m = only_if (not (is_absent n))
    (part.Behind first (others ++ elsewhere_of k n done ∷ []) l m)

abbrev pub in_where : List Frame → List Statement → List WhereFrame → WhereFrame → Body
in_where outer before wheres w = body outer (inner.Where before wheres w)

abbrev pub parted_where : List Frame → List Statement → List WhereFrame → WhereFrame → Option WherePart → Option Body
parted_where outer before wheres w None = None
parted_where outer before wheres w (Some p) = Some (in_where outer before wheres (where_frame w.line w.mask p []))

abbrev pub end_where : List Frame → List Statement → List WhereFrame → WhereBlock → Body
end_where outer before [] b = more outer before (statement.Where b)
end_where outer before (w ∷ wheres) b = in_where outer before wheres (more_where w (where_statement.Block b))

abbrev pub where_block_move : List Frame → List Statement → List WhereFrame → WhereFrame → Line → BlockForm → Option Body
where_block_move outer before wheres w l (block_of.Where m) =
    Some (in_where outer before (w ∷ wheres) (where_frame l m part.First []))
where_block_move outer before wheres w l (block_of.ElseWhere m) = parted_where outer before wheres w (next_part w.part w.done l m)
where_block_move outer before wheres w l block_of.EndWhere = Some (end_where outer before wheres (closed_where w l))
where_block_move outer before wheres w l _ = None

abbrev pub where_action_move : List Frame → List Statement → List WhereFrame → WhereFrame → Line → Action → Option Body
where_action_move outer before wheres w l (act.Assignment a) =
    Some (in_where outer before wheres (more_where w (where_statement.Assignment l a)))
where_action_move outer before wheres w l (act.Where m a) = Some
    (in_where outer before wheres (more_where w (where_statement.Where l m a)))
where_action_move outer before wheres w l _ = None

abbrev pub where_move : List Frame → List Statement → List WhereFrame → WhereFrame → Line → Form → Option Body
where_move outer before wheres w l (of.Action a) = where_action_move outer before wheres w l a
where_move outer before wheres w l (of.Block b) = where_block_move outer before wheres w l b
where_move outer before wheres w l _ = None

-- FORALL blocks.

abbrev pub forall_action_move : List Frame → List Statement → Line → Header → List (Line × Assignment) → Line → Action → Option Body
forall_action_move outer before k h done l (act.Assignment a) = Some (body outer (inner.Forall before k h (done ++ (l, a) ∷ [])))
forall_action_move outer before k h done l _ = None

abbrev pub forall_block_move : List Frame → List Statement → Line → Header → List (Line × Assignment) → Line → BlockForm →
    Option Body
forall_block_move outer before k h done l block_of.EndForall = Some (more outer before (statement.Forall k h done l))
forall_block_move outer before k h done l _ = None

abbrev pub forall_move : List Frame → List Statement → Line → Header → List (Line × Assignment) → Line → Form → Option Body
forall_move outer before k h done l (of.Action a) = forall_action_move outer before k h done l a
forall_move outer before k h done l (of.Block b) = forall_block_move outer before k h done l b
forall_move outer before k h done l _ = None

-- one statement more in a body
abbrev pub inner_move : Context → List Frame → Inner → Line → Form → Option Body
inner_move c outer (inner.Statements done) l f = statements_move (context c outer) outer done l f
inner_move c outer (inner.Select before h) l f = select_move outer before h l f
inner_move c outer (inner.Where before wheres w) l f = where_move outer before wheres w l f
inner_move c outer (inner.Forall before k h done) l f = forall_move outer before k h done l f

abbrev pub body_move : Context → Body → Line → Form → Option Body
body_move c b l f = inner_move c b.outer b.inner l f

-- Units.

abbrev pub no_section : Section
no_section = record { uses = []; implicit = None; declarations = [] }

abbrev pub no_body : Body
no_body = body [] (inner.Statements [])

-- whether nothing stands in it
abbrev pub is_empty_at : List Frame → Inner → Bool
is_empty_at [] (inner.Statements []) = true
is_empty_at [] (inner.Statements (_ ∷ _)) = false
is_empty_at [] (inner.Select _ _) = false
is_empty_at [] (inner.Where _ _ _) = false
is_empty_at [] (inner.Forall _ _ _ _) = false
is_empty_at (_ ∷ _) _ = false

abbrev pub is_empty : Body → Bool
is_empty b = is_empty_at b.outer b.inner

-- the statements, where no block is open
abbrev pub done_at : List Frame → Inner → Option (List Statement)
done_at [] (inner.Statements done) = Some done
done_at [] _ = None
done_at (_ ∷ _) _ = None

abbrev pub done_of : Body → Option (List Statement)
done_of b = done_at b.outer b.inner

-- USE and IMPLICIT NONE stand before IMPLICIT NONE and declarations
abbrev pub has_uses_alone : Section → Bool
has_uses_alone s = is_absent s.implicit && not (some s.declarations)

abbrev pub section_unit_move : Section → Line → UnitForm → Option Section
section_unit_move s l (unit_of.Use n only) =
    only_if (has_uses_alone s) (record { uses = s.uses ++ (l, n, only) ∷ []; implicit = s.implicit; declarations = s.declarations })
section_unit_move s l unit_of.ImplicitNone =
    only_if (has_uses_alone s) (record { uses = s.uses; implicit = Some l; declarations = s.declarations })
section_unit_move s l _ = None

abbrev pub section_move : Section → Line → Form → Option Section
section_move s l (of.Unit u) = section_unit_move s l u
section_move s l (of.Declaration d) =
    Some (record { uses = s.uses; implicit = s.implicit; declarations = s.declarations ++ (l, d) ∷ [] })
section_move s l _ = None

-- the state with what was found, if anything was
abbrev pub into : {A : Type 0} → (A → State) → Option A → State
into k None = state.Stops
into k (Some a) = k a

abbrev pub end_module : List Module → Line → Word → Section → Option (Line × List Subprogram) → Ending → State
end_module ms l n s ps e = if may_end word.«Module» true e.word e.name && is_filled ps
    then state.Goes (ms ++ record { line = l; name = n; section = s; procedures = ps; end = e } ∷ []) place.Start else state.Stops

abbrev pub end_main : List Module → Option (Line × Word) → Section → Option (Line × List Subprogram) → Ending → List Statement →
    State
end_main ms o s ps e xs = if may_end word.Program true e.word e.name && is_filled ps
    then state.Ended (record { modules = ms; main = record { opening = o; section = s; body = xs; procedures = ps; end = e } }) else
    state.Stops

abbrev pub end_host : List Module → Host → Ending → State
end_host ms (host.«Module» l n s k ps) e = end_module ms l n s (Some (k, ps)) e
end_host ms (host.Main o s xs k ps) e = end_main ms o s (Some (k, ps)) e xs

abbrev pub more_procedures : Host → Subprogram → Host
more_procedures (host.«Module» l n s k ps) p = host.«Module» l n s k (ps ++ p ∷ [])
more_procedures (host.Main o s xs k ps) p = host.Main o s xs k (ps ++ p ∷ [])

abbrev pub end_procedure : List Module → Host → Line → Procedure → Section → Ending → List Statement → State
end_procedure ms h l p s e xs = if may_end (heading_word p.heading) false e.word e.name
    then state.Goes ms (place.Contains (more_procedures h (record { line = l; procedure = p; section = s; body = xs; end = e })))
    else state.Stops

abbrev pub module_unit_move : List Module → Line → Word → Section → Line → UnitForm → State
module_unit_move ms k n s l unit_of.Contains = state.Goes ms (place.Contains (host.«Module» k n s l []))
module_unit_move ms k n s l unit_of.End = end_module ms k n s None (ending l None None)
module_unit_move ms k n s l (unit_of.EndUnit w m) = end_module ms k n s None (ending l (Some w) m)
module_unit_move ms k n s l u = into (λ s. state.Goes ms (place.«Module» k n s)) (section_unit_move s l u)

abbrev pub module_move : List Module → Line → Word → Section → Line → Form → State
module_move ms k n s l (of.Unit u) = module_unit_move ms k n s l u
module_move ms k n s l f = into (λ s. state.Goes ms (place.«Module» k n s)) (section_move s l f)

-- what stands before the statements of a unit
abbrev pub before_body : Body → (Section → State) → Option Section → State
before_body b k s = if is_empty b then into k s else state.Stops

abbrev pub main_unit_move : List Module → Option (Line × Word) → Section → Body → Line → UnitForm → State
main_unit_move ms o s b l unit_of.Contains = into (λ xs. state.Goes ms (place.Contains (host.Main o s xs l []))) (done_of b)
main_unit_move ms o s b l unit_of.End = into (end_main ms o s None (ending l None None)) (done_of b)
main_unit_move ms o s b l (unit_of.EndUnit w n) = into (end_main ms o s None (ending l (Some w) n)) (done_of b)
main_unit_move ms o s b l u = before_body b (λ s. state.Goes ms (place.Main o s b)) (section_unit_move s l u)

abbrev pub main_move : List Module → Option (Line × Word) → Section → Body → Line → Form → State
main_move ms o s b l (of.Unit u) = main_unit_move ms o s b l u
main_move ms o s b l (of.Declaration d) = before_body b (λ s. state.Goes ms (place.Main o s b))
    (section_move s l (of.Declaration d))
main_move ms o s b l f = into (λ b. state.Goes ms (place.Main o s b)) (body_move in_main b l f)

abbrev pub start_unit_move : List Module → Line → UnitForm → State
start_unit_move ms l (unit_of.«Module» n) = state.Goes ms (place.«Module» l n no_section)
start_unit_move ms l (unit_of.Program n) = state.Goes ms (place.Main (Some (l, n)) no_section no_body)
start_unit_move ms l u = main_unit_move ms None no_section no_body l u

abbrev pub start_move : List Module → Line → Form → State
start_move ms l (of.Unit u) = start_unit_move ms l u
start_move ms l f = main_move ms None no_section no_body l f

abbrev pub contains_unit_move : List Module → Host → Line → UnitForm → State
contains_unit_move ms h l (unit_of.Procedure p) = state.Goes ms (place.Procedure h l p no_section no_body)
contains_unit_move ms h l unit_of.End = end_host ms h (ending l None None)
contains_unit_move ms h l (unit_of.EndUnit w n) = end_host ms h (ending l (Some w) n)
contains_unit_move ms h l _ = state.Stops

abbrev pub contains_move : List Module → Host → Line → Form → State
contains_move ms h l (of.Unit u) = contains_unit_move ms h l u
contains_move ms h l _ = state.Stops

abbrev pub procedure_unit_move : List Module → Host → Line → Procedure → Section → Body → Line → UnitForm → State
procedure_unit_move ms h k p s b l (unit_of.EndUnit w n) = into (end_procedure ms h k p s (ending l (Some w) n)) (done_of b)
procedure_unit_move ms h k p s b l u = before_body b (λ s. state.Goes ms (place.Procedure h k p s b)) (section_unit_move s l u)

abbrev pub procedure_move : List Module → Host → Line → Procedure → Section → Body → Line → Form → State
procedure_move ms h k p s b l (of.Unit u) = procedure_unit_move ms h k p s b l u
procedure_move ms h k p s b l (of.Declaration d) = before_body b (λ s. state.Goes ms (place.Procedure h k p s b))
    (section_move s l (of.Declaration d))
procedure_move ms h k p s b l f = into (λ b. state.Goes ms (place.Procedure h k p s b)) (body_move in_procedure b l f)

abbrev pub place_move : List Module → Place → Line → Form → State
place_move ms place.Start l f = start_move ms l f
place_move ms (place.«Module» k n s) l f = module_move ms k n s l f
place_move ms (place.Main o s b) l f = main_move ms o s b l f
place_move ms (place.Contains h) l f = contains_move ms h l f
place_move ms (place.Procedure h k p s b) l f = procedure_move ms h k p s b l f

-- one statement more
abbrev pub move : State → Line → Form → State
move (state.Goes ms p) l f = place_move ms p l f
move (state.Ended _) l f = state.Stops
move state.Stops l f = state.Stops

abbrev pub run : State → List Lined → State
run st [] = st
run st (f ∷ fs) = run (move st f.0 f.1) fs

abbrev pub start : State
start = state.Goes [] place.Start

-- The place of the next statement.

abbrev pub host_name : Host → Option Word
host_name (host.«Module» _ n _ _ _) = Some n
host_name (host.Main o _ _ _ _) = program_name o

abbrev pub place_name : Place → Option Word
place_name place.Start = None
place_name (place.«Module» _ n _) = Some n
place_name (place.Main o _ b) = body_name b (program_name o)
place_name (place.Contains h) = host_name h
place_name (place.Procedure _ _ p _ b) = body_name b (Some (heading_name p.heading))

abbrev pub place_depth : Place → ℕ
place_depth place.Start = 0
place_depth (place.«Module» _ _ _) = 0
place_depth (place.Main _ _ b) = body_depth in_main b
place_depth (place.Contains _) = 0
place_depth (place.Procedure _ _ _ _ b) = body_depth in_procedure b

abbrev pub mark : Place → Line → Form → Placed
mark p l f = marked l f (place_name p) (place_depth p)

-- the place of the next statement
abbrev pub mark_of : State → Line → Form → Placed
mark_of (state.Goes ms p) l f = mark p l f
mark_of (state.Ended s) l f = outside l f
mark_of state.Stops l f = outside l f
