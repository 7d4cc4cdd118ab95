-- The text of what is open.
use Rattle.std.proofs.Common.{◌≡◌, ℕ, suc, true, false, List, [], ◌∷◌, ◌++◌, map, sym, ◌∙◌, ap, refl, append_assoc}
use Rattle.f95_tree.specs.declared.form.Form.TheVariants as of
use Rattle.f95_tree.specs.declared.form.UnitForm.TheVariants as unit_of
use Rattle.f95_tree.specs.declared.form.BlockForm.TheVariants as block_of
use Rattle.f95_tree.specs.declared.source.WhereStatement.{WhereStatement}
use Rattle.f95_nesting.specs.declared.open.Block.{Block}
use Rattle.f95_nesting.specs.declared.open.Block.TheVariants as block
use Rattle.f95_nesting.specs.declared.open.Frame.{Frame}
use Rattle.f95_nesting.specs.declared.open.WherePart.{WherePart}
use Rattle.f95_nesting.specs.declared.open.WherePart.TheVariants as part
use Rattle.f95_nesting.specs.declared.open.WhereFrame.{WhereFrame}
use Rattle.f95_nesting.specs.declared.open.Inner.{Inner}
use Rattle.f95_nesting.specs.declared.open.Inner.TheVariants as inner
use Rattle.f95_nesting.specs.declared.open.Body.{Body}
use Rattle.f95_nesting.specs.declared.open.Host.{Host}
use Rattle.f95_nesting.specs.declared.open.Host.TheVariants as host
use Rattle.f95_nesting.specs.declared.open.Place.{Place}
use Rattle.f95_nesting.specs.declared.open.Place.TheVariants as place
use Rattle.f95_nesting.specs.declared.open.State.{State}
use Rattle.f95_nesting.specs.declared.open.State.TheVariants as state
use Rattle.f95_nesting.specs.Placed.{placed, outside, Text, Context, deeper, parts_text, ranges_text, others_text, assignments_text}
use Rattle.f95_nesting.specs.Placed.{opening, parting, statements_text, branch_text, case_range, elsewhere_other, section_text}
use Rattle.f95_nesting.specs.Placed.{subprograms_text, modules_text, program_text, in_main, in_procedure, source_text}
use Rattle.f95_nesting.specs.Machine.{context, deep}
use Rattle.f95_nesting.proofs.Texts.{case_placed, elsewhere_placed, where_statements_text}

-- what stands in an open block before its statements
abbrev pub block_text : Block → Context → Text
block_text (block.If h) c = opening h.line (block_of.If h.name h.condition) c ∷ []
block_text (block.ElseIf h first bs k) c = opening h.line (block_of.If h.name h.condition) c
    ∷ (statements_text first (deeper c) ++ (parts_text (map branch_text bs) h.name (deeper c)
    ++ parting k.line (block_of.ElseIf k.condition k.name) k.name h.name (deeper c) true ∷ []))
block_text (block.Else h first bs l n) c = opening h.line (block_of.If h.name h.condition) c
    ∷ (statements_text first (deeper c) ++ (parts_text (map branch_text bs) h.name (deeper c)
    ++ parting l (block_of.Else n) n h.name (deeper c) true ∷ []))
block_text (block.Case h ks k) c = opening h.line (block_of.Select h.name h.selector) c
    ∷ (ranges_text (map case_range ks) h.name false (deeper c) ++ case_placed ks k h.name (deeper c) ∷ [])
block_text (block.Do h) c = opening h.line (block_of.Do h.name h.control) c ∷ []

abbrev pub frames_text : Context → List Frame → Text → Text
frames_text c [] last = last
frames_text c (f ∷ fs) last =
    frames_text c fs (statements_text f.before (context c fs) ++ (block_text f.block (context c fs) ++ last))

-- by the number of blocks that its statements stand in
abbrev pub part_text : WherePart → List WhereStatement → ℕ → Text
part_text part.First done d = where_statements_text done d
part_text (part.Behind first os l m) done d =
    where_statements_text first d
    ++ (others_text false (map elsewhere_other os) d ++ elsewhere_placed os l m d ∷ where_statements_text done d)

-- by the number of blocks around
abbrev pub where_frame_text : WhereFrame → ℕ → Text
where_frame_text w d = placed w.line (of.Block (block_of.Where w.mask)) false (suc d) true ∷ part_text w.part w.done (suc d)

abbrev pub wheres_text : ℕ → List WhereFrame → Text → Text
wheres_text d [] last = last
wheres_text d (w ∷ ws) last = wheres_text d ws (where_frame_text w (deep d ws) ++ last)

abbrev pub inner_text : Inner → Context → Text
inner_text (inner.Statements done) c = statements_text done c
inner_text (inner.Select before h) c = statements_text before c ++ opening h.line (block_of.Select h.name h.selector) c ∷ []
inner_text (inner.Where before wheres w) c = statements_text before c
    ++ wheres_text c.blocks wheres (where_frame_text w (deep c.blocks wheres))
inner_text (inner.Forall before l h xs) c = statements_text before c ++ opening l (block_of.Forall h) c
    ∷ assignments_text xs (suc c.blocks)

abbrev pub body_text : Context → Body → Text
body_text c b = frames_text c b.outer (inner_text b.inner (context c b.outer))

abbrev pub host_text : Host → Text
host_text (host.«Module» l n s k ps) = outside l (of.Unit (unit_of.«Module» n))
    ∷ (section_text s ++ outside k (of.Unit unit_of.Contains) ∷ subprograms_text ps)
host_text (host.Main o s xs k ps) =
    program_text o ++ (section_text s ++ (statements_text xs in_main ++ outside k (of.Unit unit_of.Contains) ∷ subprograms_text ps))

abbrev pub place_text : Place → Text
place_text place.Start = []
place_text (place.«Module» l n s) = outside l (of.Unit (unit_of.«Module» n)) ∷ section_text s
place_text (place.Main o s b) = program_text o ++ (section_text s ++ body_text in_main b)
place_text (place.Contains h) = host_text h
place_text (place.Procedure h l p s b) = host_text h ++ outside l (of.Unit (unit_of.Procedure p))
    ∷ (section_text s ++ body_text in_procedure b)

abbrev pub state_text : State → Text
state_text (state.Goes ms p) = modules_text ms ++ place_text p
state_text (state.Ended s) = source_text s
state_text state.Stops = []

pub frames_append : (c : Context) (fs : List Frame) (a b : Text) → frames_text c fs (a ++ b) ≡ frames_text c fs a ++ b
frames_append c [] a b = refl
frames_append c (f ∷ fs) a b =
    let before = statements_text f.before (context c fs) in let t = block_text f.block (context c fs) in
    ap (frames_text c fs) (ap (λ z. before ++ z) (sym (append_assoc t a b)) ∙ sym (append_assoc before (t ++ a) b))
    ∙ frames_append c fs (before ++ (t ++ a)) b

pub wheres_append : (d : ℕ) (ws : List WhereFrame) (a b : Text) → wheres_text d ws (a ++ b) ≡ wheres_text d ws a ++ b
wheres_append d [] a b = refl
wheres_append d (w ∷ ws) a b =
    ap (wheres_text d ws) (sym (append_assoc (where_frame_text w (deep d ws)) a b))
    ∙ wheres_append d ws (where_frame_text w (deep d ws) ++ a) b
