-- A statement more in a body: the text of what is then open has that statement behind the text before.
use Rattle.std.proofs.Common.{◌≡◌, ℕ, suc, Bool, true, false, List, [], ◌∷◌, ◌++◌, map, Option, Some, None, sym, ◌∙◌, ap, subst}
use Rattle.std.proofs.Common.{refl, append_assoc, append-nil}
use Rattle.std.specs.Prelude.{not, ◌&&◌}
use Rattle.a95_base.specs.declared.source.Line.{Line}
use Rattle.a95_base.proofs.Tests.{by_test}
use Rattle.f95_tree.specs.Forms.{Word}
use Rattle.f95_tree.specs.declared.action.Action.{Action}
use Rattle.f95_tree.specs.declared.action.Action.TheVariants as act
use Rattle.f95_tree.specs.declared.action.Header.{Header}
use Rattle.f95_tree.specs.declared.action.Assignment.{Assignment}
use Rattle.f95_tree.specs.declared.expression.Expression.{Expression}
use Rattle.f95_tree.specs.declared.form.Form.{Form}
use Rattle.f95_tree.specs.declared.form.Form.TheVariants as of
use Rattle.f95_tree.specs.declared.form.BlockForm.{BlockForm}
use Rattle.f95_tree.specs.declared.form.BlockForm.TheVariants as block_of
use Rattle.f95_tree.specs.declared.source.Statement.{Statement}
use Rattle.f95_tree.specs.declared.source.Statement.TheVariants as statement
use Rattle.f95_tree.specs.declared.source.Branch.{Branch}
use Rattle.f95_tree.specs.declared.source.Case.{Case}
use Rattle.f95_tree.specs.declared.source.WhereStatement.{WhereStatement}
use Rattle.f95_tree.specs.declared.source.WhereStatement.TheVariants as where_statement
use Rattle.f95_nesting.specs.declared.open.Block.{Block}
use Rattle.f95_nesting.specs.declared.open.Block.TheVariants as block
use Rattle.f95_nesting.specs.declared.open.IfHead.{IfHead}
use Rattle.f95_nesting.specs.declared.open.SelectHead.{SelectHead}
use Rattle.f95_nesting.specs.declared.open.CaseHead.{CaseHead}
use Rattle.f95_nesting.specs.declared.open.DoHead.{DoHead}
use Rattle.f95_nesting.specs.declared.open.Frame.{Frame}
use Rattle.f95_nesting.specs.declared.open.WherePart.{WherePart}
use Rattle.f95_nesting.specs.declared.open.WherePart.TheVariants as part
use Rattle.f95_nesting.specs.declared.open.WhereFrame.{WhereFrame}
use Rattle.f95_nesting.specs.declared.open.Inner.{Inner}
use Rattle.f95_nesting.specs.declared.open.Inner.TheVariants as inner
use Rattle.f95_nesting.specs.declared.open.Body.{Body}
use Rattle.f95_nesting.specs.Lists.{is_absent}
use Rattle.f95_nesting.specs.Placed.{Placed, placed, Text, Context, deeper, inside_do, action_stands, ordinary, parts_text}
use Rattle.f95_nesting.specs.Placed.{ranges_text, opening, parting, case_form, statement_text, statements_text, branch_text}
use Rattle.f95_nesting.specs.Placed.{case_range, where_block_text, where_statement_text, elsewhere_other, others_text}
use Rattle.f95_nesting.specs.Placed.{assignments_text}
use Rattle.f95_nesting.specs.Machine.{inside, context, deep, block_name, body_name, inner_name, frames_name, body_depth}
use Rattle.f95_nesting.specs.Machine.{inner_depth, marked, only_if, body, open_block, more, ending, if_head, branch_head, case_head}
use Rattle.f95_nesting.specs.Machine.{branch_of, otherwise_of, case_of, if_block, select_block, has_default, next_case, in_if}
use Rattle.f95_nesting.specs.Machine.{in_else_if, in_else, in_select, in_do, in_block, in_frames, where_frame, block_move}
use Rattle.f95_nesting.specs.Machine.{statements_move, select_move, elsewhere_of, closed_part, closed_where, more_where, next_part}
use Rattle.f95_nesting.specs.Machine.{in_where, parted_where, end_where, where_block_move, where_action_move, where_move}
use Rattle.f95_nesting.specs.Machine.{forall_action_move, forall_block_move, forall_move, inner_move, body_move}
use Rattle.f95_nesting.proofs.Texts.{statements_snoc, branches_snoc, cases_snoc, case_placed, elsewhere_placed, elsewheres_snoc}
use Rattle.f95_nesting.proofs.Texts.{elsewheres_last, where_statements_snoc, where_statements_text, assignments_snoc, text-Action}
use Rattle.f95_nesting.proofs.Texts.{text-If, text-IfBlock, text-Select, text-Do, text-Where, text-Forall, text-Otherwise}
use Rattle.f95_nesting.proofs.Texts.{text-WhereBlock, where_text-Assignment, where_text-Where, where_text-Block}
use Rattle.f95_nesting.proofs.Opened.{block_text, frames_text, part_text, where_frame_text, wheres_text, body_text, frames_append}
use Rattle.f95_nesting.proofs.Opened.{wheres_append}

-- what is then open, if the statement may stand there, has the text with it
abbrev pub Adds : Context → Text → Placed → Option Body → Type 0
Adds c t p None = Unit {0}
Adds c t p (Some b) = body_text c b ≡ t ++ p ∷ []

-- a statement more in the innermost list
pub more_adds : (c : Context) (fs : List Frame) (before : List Statement) (x : Statement) (last : Text) (p : Placed) →
    statement_text x (context c fs) ≡ last ++ p ∷ [] →
    body_text c (more fs before x) ≡ frames_text c fs (statements_text before (context c fs) ++ last) ++ p ∷ []
more_adds c fs before x last p h =
    let t = statements_text before (context c fs) in
    ap (frames_text c fs) (statements_snoc before x (context c fs) ∙ ap (λ z. t ++ z) h ∙ sym (append_assoc t last (p ∷ [])))
    ∙ frames_append c fs (t ++ last) (p ∷ [])

pub one_adds : (c : Context) (fs : List Frame) (done : List Statement) (x : Statement) (p : Placed) →
    statement_text x (context c fs) ≡ p ∷ [] → body_text c (more fs done x) ≡ frames_text c fs (statements_text done (context c fs))
    ++ p ∷ []
one_adds c fs done x p h = more_adds c fs done x [] p h ∙ ap (λ z. frames_text c fs z ++ p ∷ [])
    (append-nil (statements_text done (context c fs)))

-- a block that opens behind statements
pub opens : (c : Context) (fs : List Frame) (done : List Statement) (b : Block) (p : Placed) → block_text b (context c fs) ≡ p ∷ []
    →
    body_text c (open_block fs done b) ≡ frames_text c fs (statements_text done (context c fs)) ++ p ∷ []
opens c fs done b p h =
    let t = statements_text done (context c fs) in
    ap (λ z. frames_text c fs (t ++ z)) (append-nil (block_text b (context c fs)) ∙ h) ∙ frames_append c fs t (p ∷ [])

-- a block whose next part opens
pub parts : (c : Context) (fs : List Frame) (before : List Statement) (b : Block) (last : Text) (p : Placed) →
    block_text b (context c fs) ≡ last ++ p ∷ [] →
    body_text c (open_block fs before b) ≡ frames_text c fs (statements_text before (context c fs) ++ last) ++ p ∷ []
parts c fs before b last p h =
    let t = statements_text before (context c fs) in
    ap (λ z. frames_text c fs (t ++ z)) (append-nil (block_text b (context c fs)) ∙ h)
    ∙ ap (frames_text c fs) (sym (append_assoc t last (p ∷ []))) ∙ frames_append c fs (t ++ last) (p ∷ [])

-- ---- parts of a text, regrouped

joined_part : (a m : Text) (q : Placed) (t : Text) → a ++ (m ++ q ∷ t) ≡ (a ++ (m ++ q ∷ [])) ++ t
joined_part a m q t = ap (λ z. a ++ z) (sym (append_assoc m (q ∷ []) t)) ∙ sym (append_assoc a (m ++ q ∷ []) t)

joined_tail : (a o t u : Text) → a ++ (o ++ (t ++ u)) ≡ (a ++ (o ++ t)) ++ u
joined_tail a o t u = ap (λ z. a ++ z) (sym (append_assoc o t u)) ∙ sym (append_assoc a (o ++ t) u)

joined_where : (a o t e : Text) → a ++ ((o ++ t) ++ e) ≡ (a ++ (o ++ t)) ++ e
joined_where a o t e = sym (append_assoc a (o ++ t) e)

joined_else : (a m : Text) (q : Placed) (t e : Text) → a ++ (m ++ (q ∷ t ++ e)) ≡ ((a ++ (m ++ q ∷ [])) ++ t) ++ e
joined_else a m q t e = joined_part a m q (t ++ e) ∙ sym (append_assoc (a ++ (m ++ q ∷ [])) t e)

-- ---- IF

-- what is open in a body, before a block's statements, with these
abbrev before_text : Context → List Frame → List Statement → Text → Text
before_text c fs before last = frames_text c fs (statements_text before (context c fs) ++ last)

-- a statement of a block: its place, by the name and the number of blocks
abbrev at : Line → BlockForm → Option Word → ℕ → Placed
at l b n d = marked l (of.Block b) n d

in_if_adds : (c : Context) (fs : List Frame) (before : List Statement) (h : IfHead) (done : List Statement) (l : Line)
    (b : BlockForm) →
    Adds c (before_text c fs before (block_text (block.If h) (context c fs) ++ statements_text done (deeper (context c fs))))
    (at l b h.name (suc (context c fs).blocks)) (in_if fs before h done l b)
in_if_adds c fs before h done l (block_of.ElseIf e n) = parts c fs before (block.ElseIf h done [] (branch_head l e n)) _ _ refl
in_if_adds c fs before h done l (block_of.Else n) = parts c fs before (block.Else h done [] l n) _ _ refl
in_if_adds c fs before h done l (block_of.EndIf n) =
    more_adds c fs before (if_block h done [] None l n) _ _
    (ap (λ (t : Context → Text). t (context c fs)) (text-IfBlock h.line h.name h.condition done [] None (ending l None n)))
in_if_adds c fs before h done l _ = tt

-- the text of an IF block up to the part that is read
abbrev if_text : IfHead → List Statement → Text → Context → Text
if_text h first rest c = opening h.line (block_of.If h.name h.condition) c ∷ (statements_text first (deeper c) ++ rest)

in_else_if_adds : (c : Context) (fs : List Frame) (before : List Statement) (h : IfHead) (first : List Statement) (bs : List Branch)
    (l : Line) (b : BlockForm) →
    Adds c (before_text c fs before
    (if_text h first (parts_text (map branch_text bs) h.name (deeper (context c fs))) (context c fs)))
    (at l b h.name (suc (context c fs).blocks)) (in_else_if fs before h first bs l b)
in_else_if_adds c fs before h first bs l (block_of.ElseIf e n) = parts c fs before (block.ElseIf h first bs (branch_head l e n)) _ _
    (ap (λ t. opening h.line (block_of.If h.name h.condition) (context c fs) ∷ t)
    (sym (append_assoc (statements_text first (deeper (context c fs)))
    (parts_text (map branch_text bs) h.name (deeper (context c fs)))
    (at l (block_of.ElseIf e n) h.name (suc (context c fs).blocks) ∷ []))))
in_else_if_adds c fs before h first bs l (block_of.Else n) = parts c fs before (block.Else h first bs l n) _ _
    (ap (λ t. opening h.line (block_of.If h.name h.condition) (context c fs) ∷ t)
    (sym (append_assoc (statements_text first (deeper (context c fs)))
    (parts_text (map branch_text bs) h.name (deeper (context c fs)))
    (at l (block_of.Else n) h.name (suc (context c fs).blocks) ∷ []))))
in_else_if_adds c fs before h first bs l (block_of.EndIf n) = more_adds c fs before (if_block h first bs None l n) _ _
    (ap (λ (t : Context → Text). t (context c fs)) (text-IfBlock h.line h.name h.condition first bs None (ending l None n))
    ∙ ap (λ t. opening h.line (block_of.If h.name h.condition) (context c fs) ∷ t)
    (sym (append_assoc (statements_text first (deeper (context c fs)))
    (parts_text (map branch_text bs) h.name (deeper (context c fs)))
    (at l (block_of.EndIf n) h.name (suc (context c fs).blocks) ∷ []))))
in_else_if_adds c fs before h first bs l _ = tt

in_else_adds : (c : Context) (fs : List Frame) (before : List Statement) (h : IfHead) (first : List Statement) (bs : List Branch)
    (k : Line) (own : Option Word) (done : List Statement) (l : Line) (b : BlockForm) →
    Adds c (before_text c fs before
    (block_text (block.Else h first bs k own) (context c fs) ++ statements_text done (deeper (context c fs))))
    (at l b h.name (suc (context c fs).blocks)) (in_else fs before h first bs (otherwise_of k own done) l b)
in_else_adds c fs before h first bs k own done l (block_of.EndIf n) =
    let d = context c fs in let e = at l (block_of.EndIf n) h.name (suc d.blocks) in
    let a = statements_text first (deeper d) in let m = parts_text (map branch_text bs) h.name (deeper d) in
    let q = parting k (block_of.Else own) own h.name (deeper d) true in let t = statements_text done (deeper d) in
    more_adds c fs before (if_block h first bs (Some (otherwise_of k own done)) l n) _ e
    (ap (λ (x : Context → Text). x d)
    (text-IfBlock h.line h.name h.condition first bs (Some (otherwise_of k own done)) (ending l None n))
    ∙ ap (λ x. opening h.line (block_of.If h.name h.condition) d ∷ (a ++ (m ++ (x ++ e ∷ []))))
    (text-Otherwise k own done h.name (deeper d))
    ∙ ap (λ x. opening h.line (block_of.If h.name h.condition) d ∷ x) (joined_else a m q t (e ∷ [])))
in_else_adds c fs before h first bs k own done l _ = tt

-- ---- SELECT CASE

-- the text of a SELECT block with these CASEs
abbrev select_text : SelectHead → List Case → Context → Text
select_text h ks c = opening h.line (block_of.Select h.name h.selector) c ∷ ranges_text (map case_range ks) h.name false (deeper c)

next_case_adds : (c : Context) (fs : List Frame) (before : List Statement) (h : SelectHead) (ks : List Case) (k : CaseHead) →
    Adds c (before_text c fs before (select_text h ks (context c fs)))
    (parting k.line (case_form k.ranges k.name) k.name h.name (deeper (context c fs)) true) (next_case fs before h ks k)
next_case_adds c fs before h ks k =
    let d = context c fs in let t = before_text c fs before (select_text h ks d) in
    let q = λ (b : Bool). parting k.line (case_form k.ranges k.name) k.name h.name (deeper d) b in
    let s = not (is_absent k.ranges && has_default ks) in
    by_test (λ b. s ≡ b → Adds c t (q true) (only_if b (open_block fs before (block.Case h ks k)))) s
    (λ is same. subst (λ b. body_text c (open_block fs before (block.Case h ks k)) ≡ t ++ q b ∷ []) is
    (parts c fs before (block.Case h ks k) (select_text h ks d) (q s) refl))
    (λ _ _. tt) refl

in_select_adds : (c : Context) (fs : List Frame) (before : List Statement) (h : SelectHead) (ks : List Case) (l : Line)
    (b : BlockForm) →
    Adds c (before_text c fs before (select_text h ks (context c fs))) (at l b h.name (suc (context c fs).blocks))
    (in_select fs before h ks l b)
in_select_adds c fs before h ks l (block_of.Case ranges n) = next_case_adds c fs before h ks (case_head l (Some ranges) n)
in_select_adds c fs before h ks l (block_of.CaseDefault n) = next_case_adds c fs before h ks (case_head l None n)
in_select_adds c fs before h ks l (block_of.EndSelect n) = more_adds c fs before (select_block h ks l n) _ _
    (ap (λ (t : Context → Text). t (context c fs)) (text-Select h.line h.name h.selector ks (ending l None n)))
in_select_adds c fs before h ks l _ = tt

-- ---- DO, and all blocks

in_do_adds : (c : Context) (fs : List Frame) (before : List Statement) (h : DoHead) (done : List Statement) (l : Line)
    (b : BlockForm) →
    Adds c (before_text c fs before
    (block_text (block.Do h) (context c fs) ++ statements_text done (inside_do h.name (context c fs))))
    (at l b h.name (suc (context c fs).blocks)) (in_do fs before h done l b)
in_do_adds c fs before h done l (block_of.EndDo n) = more_adds c fs before
    (statement.Do h.line h.name h.control done (ending l None n)) _ _
    (ap (λ (t : Context → Text). t (context c fs)) (text-Do h.line h.name h.control done (ending l None n)))
in_do_adds c fs before h done l _ = tt

-- the same text, written otherwise
adds_at : (c : Context) (t u : Text) (p : Placed) (b : Option Body) → t ≡ u → Adds c t p b → Adds c u p b
adds_at c t u p b same a = subst (λ t. Adds c t p b) same a

in_block_adds : (c : Context) (fs : List Frame) (before : List Statement) (k : Block) (done : List Statement) (l : Line)
    (b : BlockForm) →
    Adds c (before_text c fs before (block_text k (context c fs) ++ statements_text done (inside k (context c fs))))
    (at l b (block_name k) (suc (context c fs).blocks)) (in_block fs before k done l b)
in_block_adds c fs before (block.If h) done l b = in_if_adds c fs before h done l b
in_block_adds c fs before (block.ElseIf h first bs k) done l b =
    let d = context c fs in let a = statements_text first (deeper d) in let m = parts_text (map branch_text bs) h.name (deeper d) in
    let q = parting k.line (block_of.ElseIf k.condition k.name) k.name h.name (deeper d) true in
    adds_at c _ _ _ _
    (ap (λ t. before_text c fs before (opening h.line (block_of.If h.name h.condition) d ∷ (a ++ t)))
    (branches_snoc bs k done h.name (deeper d))
    ∙ ap (λ t. before_text c fs before (opening h.line (block_of.If h.name h.condition) d ∷ t))
    (joined_part a m q (statements_text done (deeper d))))
    (in_else_if_adds c fs before h first (bs ++ branch_of k done ∷ []) l b)
in_block_adds c fs before (block.Else h first bs k n) done l b = in_else_adds c fs before h first bs k n done l b
in_block_adds c fs before (block.Case h ks k) done l b =
    let d = context c fs in let m = ranges_text (map case_range ks) h.name false (deeper d) in
    adds_at c _ _ _ _
    (ap (λ t. before_text c fs before (opening h.line (block_of.Select h.name h.selector) d ∷ t))
    (cases_snoc ks k done h.name (deeper d)
    ∙ sym (append_assoc m (case_placed ks k h.name (deeper d) ∷ []) (statements_text done (deeper d)))))
    (in_select_adds c fs before h (ks ++ case_of k done ∷ []) l b)
in_block_adds c fs before (block.Do h) done l b = in_do_adds c fs before h done l b

pub blocks_in : (k : Block) (c : Context) → (inside k c).blocks ≡ suc c.blocks
blocks_in (block.If h) c = refl
blocks_in (block.ElseIf h first bs k) c = refl
blocks_in (block.Else h first bs k n) c = refl
blocks_in (block.Case h ks k) c = refl
blocks_in (block.Do h) c = refl

in_frames_adds : (c : Context) (fs : List Frame) (done : List Statement) (l : Line) (b : BlockForm) (unit : Option Word) →
    Adds c (frames_text c fs (statements_text done (context c fs))) (at l b (frames_name fs unit) (context c fs).blocks)
    (in_frames fs done l b)
in_frames_adds c [] done l b unit = tt
in_frames_adds c (f ∷ fs) done l b unit =
    let p = in_block_adds c fs f.before f.block done l b in
    subst (λ (n : ℕ). Adds c (frames_text c (f ∷ fs) (statements_text done (context c (f ∷ fs)))) (at l b (block_name f.block) n)
    (in_block fs f.before f.block done l b))
    (sym (blocks_in f.block (context c fs))) p

block_adds : (c : Context) (fs : List Frame) (done : List Statement) (l : Line) (b : BlockForm) (unit : Option Word) →
    Adds c (frames_text c fs (statements_text done (context c fs))) (at l b (frames_name fs unit) (context c fs).blocks)
    (block_move fs done l b)
block_adds c fs done l (block_of.If n e) unit = opens c fs done (block.If (if_head l n e)) _ refl
block_adds c fs done l (block_of.Select n e) unit = frames_append c fs (statements_text done (context c fs)) _
block_adds c fs done l (block_of.Do n control) unit = opens c fs done (block.Do (record { line = l; name = n; control = control }))
    _ refl
block_adds c fs done l (block_of.Where m) unit = frames_append c fs (statements_text done (context c fs)) _
block_adds c fs done l (block_of.Forall h) unit = frames_append c fs (statements_text done (context c fs)) _
block_adds c fs done l (block_of.ElseIf e n) unit = in_frames_adds c fs done l (block_of.ElseIf e n) unit
block_adds c fs done l (block_of.Else n) unit = in_frames_adds c fs done l (block_of.Else n) unit
block_adds c fs done l (block_of.EndIf n) unit = in_frames_adds c fs done l (block_of.EndIf n) unit
block_adds c fs done l (block_of.Case rs n) unit = in_frames_adds c fs done l (block_of.Case rs n) unit
block_adds c fs done l (block_of.CaseDefault n) unit = in_frames_adds c fs done l (block_of.CaseDefault n) unit
block_adds c fs done l (block_of.EndSelect n) unit = in_frames_adds c fs done l (block_of.EndSelect n) unit
block_adds c fs done l (block_of.EndDo n) unit = in_frames_adds c fs done l (block_of.EndDo n) unit
block_adds c fs done l (block_of.ElseWhere m) unit = in_frames_adds c fs done l (block_of.ElseWhere m) unit
block_adds c fs done l block_of.EndWhere unit = in_frames_adds c fs done l block_of.EndWhere unit
block_adds c fs done l block_of.EndForall unit = in_frames_adds c fs done l block_of.EndForall unit

-- a statement that may stand, or not
stands_adds : (c : Context) (fs : List Frame) (done : List Statement) (x : Statement) (l : Line) (f : Form) (a : Action) →
    statement_text x (context c fs) ≡ ordinary (context c fs) l f a ∷ [] →
    Adds c (frames_text c fs (statements_text done (context c fs))) (placed l f false (context c fs).blocks true)
    (only_if (action_stands (context c fs) a) (more fs done x))
stands_adds c fs done x l f a h =
    let d = context c fs in let s = action_stands d a in let t = frames_text c fs (statements_text done d) in
    by_test (λ b. s ≡ b → Adds c t (placed l f false d.blocks true) (only_if b (more fs done x))) s
    (λ is same. subst (λ b. body_text c (more fs done x) ≡ t ++ placed l f false d.blocks b ∷ []) is
    (one_adds c fs done x (ordinary d l f a) h))
    (λ _ _. tt) refl

statements_adds : (c : Context) (fs : List Frame) (done : List Statement) (l : Line) (f : Form) (unit : Option Word) →
    Adds c (frames_text c fs (statements_text done (context c fs))) (marked l f (frames_name fs unit) (context c fs).blocks)
    (statements_move (context c fs) fs done l f)
statements_adds c fs done l (of.Action a) unit = stands_adds c fs done (statement.Action l a) l (of.Action a) a
    (ap (λ (t : Context → Text). t (context c fs)) (text-Action l a))
statements_adds c fs done l (of.If e a) unit = stands_adds c fs done (statement.If l e a) l (of.If e a) a
    (ap (λ (t : Context → Text). t (context c fs)) (text-If l e a))
statements_adds c fs done l (of.Block b) unit = block_adds c fs done l b unit
statements_adds c fs done l (of.Unit u) unit = tt
statements_adds c fs done l (of.Declaration d) unit = tt

select_adds : (c : Context) (fs : List Frame) (before : List Statement) (h : SelectHead) (l : Line) (f : Form) →
    Adds c (before_text c fs before (opening h.line (block_of.Select h.name h.selector) (context c fs) ∷ []))
    (marked l f h.name (suc (context c fs).blocks)) (select_move fs before h l f)
select_adds c fs before h l (of.Block b) = in_select_adds c fs before h [] l b
select_adds c fs before h l (of.Action a) = tt
select_adds c fs before h l (of.If e a) = tt
select_adds c fs before h l (of.Unit u) = tt
select_adds c fs before h l (of.Declaration d) = tt

-- ---- WHERE

part_snoc : (p : WherePart) (done : List WhereStatement) (x : WhereStatement) (d : ℕ) → part_text p (done ++ x ∷ []) d
    ≡ part_text p done d ++ where_statement_text x d
part_snoc part.First done x d = where_statements_snoc done x d
part_snoc (part.Behind first os l m) done x d =
    let a = where_statements_text first d in let o = others_text false (map elsewhere_other os) d in let q =
    elsewhere_placed os l m d in
    ap (λ t. a ++ (o ++ q ∷ t)) (where_statements_snoc done x d)
    ∙ joined_tail a o (q ∷ where_statements_text done d) (where_statement_text x d)

-- the whole text of a WHERE whose parts are these
closed_text : (k : Line) (mask : Expression) (p : WherePart) (done : List WhereStatement) (end : Line) (d : ℕ) →
    where_block_text (closed_part k mask p done end) d ≡ where_frame_text (where_frame k mask p done) d
    ++ placed end (of.Block block_of.EndWhere) false (suc d) true ∷ []
closed_text k mask part.First done end d = ap (λ (t : ℕ → Text). t d) (text-WhereBlock k mask done [] end)
closed_text k mask (part.Behind first os l m) done end d =
    let a = where_statements_text first (suc d) in let o = others_text false (map elsewhere_other os) (suc d) in
    let q = elsewhere_placed os l m (suc d) in let t = where_statements_text done (suc d) in
    let e = placed end (of.Block block_of.EndWhere) false (suc d) true ∷ [] in
    let open_where = placed k (of.Block (block_of.Where mask)) false (suc d) true in
    ap (λ (t : ℕ → Text). t d) (text-WhereBlock k mask first (os ++ elsewhere_of l m done ∷ []) end)
    ∙ ap (λ z. open_where ∷ (a ++ (z ++ e))) (elsewheres_snoc os l m done (suc d))
    ∙ ap (λ z. open_where ∷ z) (joined_where a o (q ∷ t) e)

-- what the innermost WHERE gets
where_adds : (c : Context) (fs : List Frame) (before : List Statement) (ws : List WhereFrame) (t u : Text) (p : Placed) →
    u ≡ t ++ p ∷ [] →
    frames_text c fs (statements_text before (context c fs) ++ wheres_text (context c fs).blocks ws u)
    ≡ frames_text c fs (statements_text before (context c fs) ++ wheres_text (context c fs).blocks ws t) ++ p ∷ []
where_adds c fs before ws t u p h =
    let b = statements_text before (context c fs) in let d = (context c fs).blocks in
    ap (λ z. frames_text c fs (b ++ wheres_text d ws z)) h
    ∙ ap (λ z. frames_text c fs (b ++ z)) (wheres_append d ws t (p ∷ []))
    ∙ ap (frames_text c fs) (sym (append_assoc b (wheres_text d ws t) (p ∷ [])))
    ∙ frames_append c fs (b ++ wheres_text d ws t) (p ∷ [])

more_where_text : (w : WhereFrame) (x : WhereStatement) (d : ℕ) (t : Text) → where_statement_text x (suc d) ≡ t →
    where_frame_text (more_where w x) d ≡ where_frame_text w d ++ t
more_where_text w x d t h = ap (λ z. placed w.line (of.Block (block_of.Where w.mask)) false (suc d) true ∷ z)
    (part_snoc w.part w.done x (suc d) ∙ ap (λ z. part_text w.part w.done (suc d) ++ z) h)

-- the place of a statement inside a WHERE
abbrev in_where_at : Line → Form → Context → List WhereFrame → Placed
in_where_at l f c ws = marked l f None (suc (deep c.blocks ws))

abbrev where_text : Context → List Frame → List Statement → List WhereFrame → WhereFrame → Text
where_text c fs before ws w = body_text c (in_where fs before ws w)

next_part_adds : (c : Context) (fs : List Frame) (before : List Statement) (ws : List WhereFrame) (w : WhereFrame) (p : WherePart)
    (l : Line) (m : Option Expression) →
    w.part ≡ p →
    Adds c (where_text c fs before ws (where_frame w.line w.mask p w.done))
    (in_where_at l (of.Block (block_of.ElseWhere m)) (context c fs) ws) (parted_where fs before ws w (next_part p w.done l m))
next_part_adds c fs before ws w part.First l m is = where_adds c fs before ws _ _ _ refl
next_part_adds c fs before ws w (part.Behind first os k n) l m is =
    let d = suc (deep (context c fs).blocks ws) in let done = w.done in
    let a = where_statements_text first d in let o = others_text false (map elsewhere_other os) d in
    let q = elsewhere_placed os k n d in let t = where_statements_text done d in
    let open_where = placed w.line (of.Block (block_of.Where w.mask)) false d true in
    let p = λ (b : Bool). placed l (of.Block (block_of.ElseWhere m)) false d b in
    let new = part.Behind first (os ++ elsewhere_of k n done ∷ []) l m in
    by_test (λ b. not (is_absent n) ≡ b →
    Adds c (where_text c fs before ws (where_frame w.line w.mask (part.Behind first os k n) done)) (p true)
    (parted_where fs before ws w (only_if b new))) (not (is_absent n))
    (λ yes _. where_adds c fs before ws (open_where ∷ (a ++ (o ++ q ∷ t))) _ (p true)
    (ap (λ z. open_where ∷ (a ++ (z ++ elsewhere_placed (os ++ elsewhere_of k n done ∷ []) l m d ∷ [])))
    (elsewheres_snoc os k n done d)
    ∙ ap (λ b. open_where ∷ (a ++ ((o ++ q ∷ t) ++ p b ∷ []))) (ap not (elsewheres_last os k n done) ∙ yes)
    ∙ ap (λ z. open_where ∷ z) (sym (append_assoc a (o ++ q ∷ t) (p true ∷ [])))))
    (λ _ _. tt) refl

end_where_adds : (c : Context) (fs : List Frame) (before : List Statement) (ws : List WhereFrame) (w : WhereFrame) (l : Line) →
    body_text c (end_where fs before ws (closed_where w l)) ≡ where_text c fs before ws w
    ++ in_where_at l (of.Block block_of.EndWhere) (context c fs) ws ∷ []
end_where_adds c fs before [] w l = more_adds c fs before (statement.Where (closed_where w l)) _ _
    (ap (λ (t : Context → Text). t (context c fs)) (text-Where (closed_where w l))
    ∙ closed_text w.line w.mask w.part w.done l (context c fs).blocks)
end_where_adds c fs before (v ∷ ws) w l =
    let d = deep (context c fs).blocks ws in
    where_adds c fs before ws (where_frame_text v d ++ where_frame_text w (suc d)) _ _
    (more_where_text v (where_statement.Block (closed_where w l)) d _
    (ap (λ (t : ℕ → Text). t (suc d)) (where_text-Block (closed_where w l)) ∙ closed_text w.line w.mask w.part w.done l (suc d))
    ∙ sym (append_assoc (where_frame_text v d) (where_frame_text w (suc d)) _))

where_block_adds : (c : Context) (fs : List Frame) (before : List Statement) (ws : List WhereFrame) (w : WhereFrame) (l : Line)
    (b : BlockForm) →
    Adds c (where_text c fs before ws w) (in_where_at l (of.Block b) (context c fs) ws) (where_block_move fs before ws w l b)
where_block_adds c fs before ws w l (block_of.Where m) = where_adds c fs before ws _ _ _ refl
where_block_adds c fs before ws w l (block_of.ElseWhere m) = next_part_adds c fs before ws w w.part l m refl
where_block_adds c fs before ws w l block_of.EndWhere = end_where_adds c fs before ws w l
where_block_adds c fs before ws w l _ = tt

where_action_adds : (c : Context) (fs : List Frame) (before : List Statement) (ws : List WhereFrame) (w : WhereFrame) (l : Line)
    (a : Action) →
    Adds c (where_text c fs before ws w) (in_where_at l (of.Action a) (context c fs) ws) (where_action_move fs before ws w l a)
where_action_adds c fs before ws w l (act.Assignment a) = where_adds c fs before ws _ _ _
    (more_where_text w (where_statement.Assignment l a) (deep (context c fs).blocks ws) _
    (ap (λ (t : ℕ → Text). t (suc (deep (context c fs).blocks ws))) (where_text-Assignment l a)))
where_action_adds c fs before ws w l (act.Where m a) = where_adds c fs before ws _ _ _
    (more_where_text w (where_statement.Where l m a) (deep (context c fs).blocks ws) _
    (ap (λ (t : ℕ → Text). t (suc (deep (context c fs).blocks ws))) (where_text-Where l m a)))
where_action_adds c fs before ws w l _ = tt

where_move_adds : (c : Context) (fs : List Frame) (before : List Statement) (ws : List WhereFrame) (w : WhereFrame) (l : Line)
    (f : Form) →
    Adds c (where_text c fs before ws w) (in_where_at l f (context c fs) ws) (where_move fs before ws w l f)
where_move_adds c fs before ws w l (of.Action a) = where_action_adds c fs before ws w l a
where_move_adds c fs before ws w l (of.Block b) = where_block_adds c fs before ws w l b
where_move_adds c fs before ws w l (of.If e a) = tt
where_move_adds c fs before ws w l (of.Unit u) = tt
where_move_adds c fs before ws w l (of.Declaration d) = tt

-- ---- FORALL

abbrev forall_text : Context → List Frame → List Statement → Line → Header → List (Line × Assignment) → Text
forall_text c fs before k h done = body_text c (body fs (inner.Forall before k h done))

forall_action_adds : (c : Context) (fs : List Frame) (before : List Statement) (k : Line) (h : Header)
    (done : List (Line × Assignment)) (l : Line) (a : Action) →
    Adds c (forall_text c fs before k h done) (marked l (of.Action a) None (suc (context c fs).blocks))
    (forall_action_move fs before k h done l a)
forall_action_adds c fs before k h done l (act.Assignment a) =
    let d = context c fs in let b = statements_text before d in let o = opening k (block_of.Forall h) d in let p =
    placed l (of.Action (act.Assignment a)) false (suc d.blocks) true in
    ap (λ t. frames_text c fs (b ++ o ∷ t)) (assignments_snoc done (l, a) (suc d.blocks))
    ∙ ap (frames_text c fs) (sym (append_assoc b (o ∷ assignments_text done (suc d.blocks)) (p ∷ [])))
    ∙ frames_append c fs (b ++ o ∷ assignments_text done (suc d.blocks)) (p ∷ [])
forall_action_adds c fs before k h done l _ = tt

forall_block_adds : (c : Context) (fs : List Frame) (before : List Statement) (k : Line) (h : Header)
    (done : List (Line × Assignment)) (l : Line) (b : BlockForm) →
    Adds c (forall_text c fs before k h done) (marked l (of.Block b) None (suc (context c fs).blocks))
    (forall_block_move fs before k h done l b)
forall_block_adds c fs before k h done l block_of.EndForall = more_adds c fs before (statement.Forall k h done l) _ _
    (ap (λ (t : Context → Text). t (context c fs)) (text-Forall k h done l))
forall_block_adds c fs before k h done l _ = tt

forall_adds : (c : Context) (fs : List Frame) (before : List Statement) (k : Line) (h : Header) (done : List (Line × Assignment))
    (l : Line) (f : Form) →
    Adds c (forall_text c fs before k h done) (marked l f None (suc (context c fs).blocks)) (forall_move fs before k h done l f)
forall_adds c fs before k h done l (of.Action a) = forall_action_adds c fs before k h done l a
forall_adds c fs before k h done l (of.Block b) = forall_block_adds c fs before k h done l b
forall_adds c fs before k h done l (of.If e a) = tt
forall_adds c fs before k h done l (of.Unit u) = tt
forall_adds c fs before k h done l (of.Declaration d) = tt

-- ---- a body

inner_adds : (c : Context) (fs : List Frame) (i : Inner) (l : Line) (f : Form) (unit : Option Word) →
    Adds c (body_text c (body fs i)) (marked l f (inner_name i (frames_name fs unit)) (inner_depth i (context c fs).blocks))
    (inner_move c fs i l f)
inner_adds c fs (inner.Statements done) l f unit = statements_adds c fs done l f unit
inner_adds c fs (inner.Select before h) l f unit = select_adds c fs before h l f
inner_adds c fs (inner.Where before ws w) l f unit = where_move_adds c fs before ws w l f
inner_adds c fs (inner.Forall before k h done) l f unit = forall_adds c fs before k h done l f

-- one statement more in a body
pub body_adds : (c : Context) (b : Body) (l : Line) (f : Form) (unit : Option Word) →
    Adds c (body_text c b) (marked l f (body_name b unit) (body_depth c b)) (body_move c b l f)
body_adds c b l f unit = inner_adds c b.outer b.inner l f unit
