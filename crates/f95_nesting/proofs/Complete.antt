-- Runs over the statements of a body, and what is open can be ended.
use Rattle.std.proofs.Common.{◌≡◌, true, List, [], ◌∷◌, ◌++◌, Option, Some, None, sym, ◌∙◌, ap, refl}
use Rattle.std.specs.Prelude.{if◌then◌else◌}
use Rattle.a95_base.specs.declared.source.Line.{Line}
use Rattle.f95_tree.specs.Forms.{Word}
use Rattle.f95_tree.specs.declared.declaration.Declaration.{Declaration}
use Rattle.f95_tree.specs.declared.form.Form.{Form}
use Rattle.f95_tree.specs.declared.form.Form.TheVariants as of
use Rattle.f95_tree.specs.declared.form.UnitForm.{UnitForm}
use Rattle.f95_tree.specs.declared.form.UnitForm.TheVariants as unit_of
use Rattle.f95_tree.specs.declared.form.BlockForm.TheVariants as block_of
use Rattle.f95_tree.specs.declared.form.Procedure.{Procedure}
use Rattle.f95_tree.specs.declared.form.Heading.{Heading}
use Rattle.f95_tree.specs.declared.form.Heading.TheVariants as heading_of
use Rattle.f95_tree.specs.declared.source.Source.{Source}
use Rattle.f95_tree.specs.declared.source.Module.{Module}
use Rattle.f95_tree.specs.declared.source.Subprogram.{Subprogram}
use Rattle.f95_tree.specs.declared.source.Section.{Section}
use Rattle.f95_tree.specs.declared.source.Statement.{Statement}
use Rattle.f95_tree.specs.declared.source.Statement.TheVariants as statement
use Rattle.f95_tree.specs.declared.source.WhereStatement.TheVariants as where_statement
use Rattle.f95_nesting.specs.declared.open.Block.{Block}
use Rattle.f95_nesting.specs.declared.open.Block.TheVariants as block
use Rattle.f95_nesting.specs.declared.open.Frame.{Frame}
use Rattle.f95_nesting.specs.declared.open.WhereFrame.{WhereFrame}
use Rattle.f95_nesting.specs.declared.open.Inner.{Inner}
use Rattle.f95_nesting.specs.declared.open.Inner.TheVariants as inner
use Rattle.f95_nesting.specs.declared.open.Body.{Body}
use Rattle.f95_nesting.specs.declared.open.Host.{Host}
use Rattle.f95_nesting.specs.declared.open.Host.TheVariants as host
use Rattle.f95_nesting.specs.declared.open.Place.{Place}
use Rattle.f95_nesting.specs.declared.open.Place.TheVariants as place
use Rattle.f95_nesting.specs.declared.open.State.{State}
use Rattle.f95_nesting.specs.declared.open.State.TheVariants as state
use Rattle.f95_nesting.specs.Lists.{some}
use Rattle.f95_nesting.specs.Placed.{Context, in_main, in_procedure, heading_word, same_unit}
use Rattle.f95_nesting.specs.Nesting.{Lined}
use Rattle.f95_nesting.specs.Machine.{body, more, body_move, inner_move, ending, if_block, select_block, branch_of, otherwise_of}
use Rattle.f95_nesting.specs.Machine.{case_of, in_where, closed_where, more_where, no_section, no_body, into, more_procedures, move}
use Rattle.f95_nesting.specs.Machine.{run}

-- ---- runs over a body

abbrev pub body_after : Context → Option Body → Lined → Option Body
body_after c None f = None
body_after c (Some b) f = body_move c b f.0 f.1

abbrev pub run_body : Context → Option Body → List Lined → Option Body
run_body c o [] = o
run_body c o (f ∷ fs) = run_body c (body_after c o f) fs

none_stays : (c : Context) (fs : List Lined) → run_body c None fs ≡ None
none_stays c [] = refl
none_stays c (f ∷ fs) = none_stays c fs

-- a unit whose statements a body reads
abbrev pub Lifts : Context → (Body → State) → Type 0
Lifts c k = (b : Body) (l : Line) (f : Form) (r : Body) → body_move c b l f ≡ Some r → move (k b) l f ≡ k r

lift_after : (c : Context) (k : Body → State) (b : Body) (f : Lined) (fs rest : List Lined) (r : Body) (o : Option Body) →
    Lifts c k → body_move c b f.0 f.1 ≡ o →
    ((q : Body) → run_body c (Some q) fs ≡ Some r → run (k q) (fs ++ rest) ≡ run (k r) rest) →
    run_body c o fs ≡ Some r → run (move (k b) f.0 f.1) (fs ++ rest) ≡ run (k r) rest
lift_after c k b f fs rest r None h is more h2 = let n : None ≡ Some r = sym (none_stays c fs) ∙ h2 in absurd (cc)
lift_after c k b f fs rest r (Some q) h is more h2 = ap (λ s. run s (fs ++ rest)) (h b f.0 f.1 q is) ∙ more q h2

pub lift : (c : Context) (k : Body → State) → Lifts c k → (fs : List Lined) (b r : Body) (rest : List Lined) →
    run_body c (Some b) fs ≡ Some r → run (k b) (fs ++ rest) ≡ run (k r) rest
lift c k h [] b r rest is = let e : b ≡ r = cc in ap (λ z. run (k z) rest) e
lift c k h (f ∷ fs) b r rest is = lift_after c k b f fs rest r (body_move c b f.0 f.1) h refl (λ q e. lift c k h fs q r rest e) is

no_unit : (c : Context) (fs : List Frame) (i : Inner) (l : Line) (u : UnitForm) → inner_move c fs i l (of.Unit u) ≡ None
no_unit c fs (inner.Statements done) l u = refl
no_unit c fs (inner.Select b h) l u = refl
no_unit c fs (inner.Where b ws w) l u = refl
no_unit c fs (inner.Forall b k h xs) l u = refl

no_declaration : (c : Context) (fs : List Frame) (i : Inner) (l : Line) (d : Declaration) → inner_move c fs i l (of.Declaration d)
    ≡ None
no_declaration c fs (inner.Statements done) l d = refl
no_declaration c fs (inner.Select b h) l d = refl
no_declaration c fs (inner.Where b ws w) l d = refl
no_declaration c fs (inner.Forall b k h xs) l d = refl

pub main_lifts : (ms : List Module) (o : Option (Line × Word)) (s : Section) → Lifts in_main (λ b. state.Goes ms (place.Main o s b))
main_lifts ms o s b l (of.Unit u) r is = let n : None ≡ Some r = sym (no_unit in_main b.outer b.inner l u) ∙ is in absurd (cc)
main_lifts ms o s b l (of.Declaration d) r is = let n : None ≡ Some r = sym (no_declaration in_main b.outer b.inner l d) ∙ is in
    absurd (cc)
main_lifts ms o s b l (of.Block x) r is = ap (into (λ b. state.Goes ms (place.Main o s b))) is
main_lifts ms o s b l (of.Action x) r is = ap (into (λ b. state.Goes ms (place.Main o s b))) is
main_lifts ms o s b l (of.If e x) r is = ap (into (λ b. state.Goes ms (place.Main o s b))) is

pub procedure_lifts : (ms : List Module) (h : Host) (k : Line) (p : Procedure) (s : Section) →
    Lifts in_procedure (λ b. state.Goes ms (place.Procedure h k p s b))
procedure_lifts ms h k p s b l (of.Unit u) r is = let n : None ≡ Some r = sym (no_unit in_procedure b.outer b.inner l u) ∙ is in
    absurd (cc)
procedure_lifts ms h k p s b l (of.Declaration d) r is = let n : None ≡ Some r =
    sym (no_declaration in_procedure b.outer b.inner l d) ∙ is in absurd (cc)
procedure_lifts ms h k p s b l (of.Block x) r is = ap (into (λ b. state.Goes ms (place.Procedure h k p s b))) is
procedure_lifts ms h k p s b l (of.Action x) r is = ap (into (λ b. state.Goes ms (place.Procedure h k p s b))) is
procedure_lifts ms h k p s b l (of.If e x) r is = ap (into (λ b. state.Goes ms (place.Procedure h k p s b))) is

-- ---- what is open in a body can be ended

record Closes (c : Context) (b : Body) : Type 0 where
  pub forms : List Lined
  pub done : List Statement
  pub runs : run_body c (Some b) forms ≡ Some (body [] (inner.Statements done))

first_line : Line
first_line = record { 0 = 1 }

by_form : (c : Context) (b : Body) (f : Form) (r : Body) → body_move c b first_line f ≡ Some r → Closes c r → Closes c b
by_form c b f r is k =
    record { forms = (first_line, f) ∷ k.forms; done = k.done; runs = ap (λ o. run_body c o k.forms) is ∙ k.runs }

block_closes : (c : Context) (fs : List Frame) (before : List Statement) (k : Block) (done : List Statement) →
    ((d : List Statement) → Closes c (body fs (inner.Statements d))) →
    Closes c (body (record { before = before; block = k } ∷ fs) (inner.Statements done))
block_closes c fs before (block.If h) done closes = by_form c _ (of.Block (block_of.EndIf None))
    (more fs before (if_block h done [] None first_line None)) refl (closes _)
block_closes c fs before (block.ElseIf h first bs k) done closes =
    by_form c _ (of.Block (block_of.EndIf None))
    (more fs before (if_block h first (bs ++ branch_of k done ∷ []) None first_line None)) refl (closes _)
block_closes c fs before (block.Else h first bs k n) done closes =
    by_form c _ (of.Block (block_of.EndIf None))
    (more fs before (if_block h first bs (Some (otherwise_of k n done)) first_line None)) refl (closes _)
block_closes c fs before (block.Case h ks k) done closes =
    by_form c _ (of.Block (block_of.EndSelect None)) (more fs before (select_block h (ks ++ case_of k done ∷ []) first_line None))
    refl (closes _)
block_closes c fs before (block.Do h) done closes =
    by_form c _ (of.Block (block_of.EndDo None))
    (more fs before (statement.Do h.line h.name h.control done (ending first_line None None))) refl (closes _)

frames_close : (c : Context) (fs : List Frame) (done : List Statement) → Closes c (body fs (inner.Statements done))
frames_close c [] done = record { forms = []; done = done; runs = refl }
frames_close c (f ∷ fs) done = block_closes c fs f.before f.block done (frames_close c fs)

wheres_close : (c : Context) (fs : List Frame) (before : List Statement) (ws : List WhereFrame) (w : WhereFrame) →
    Closes c (in_where fs before ws w)
wheres_close c fs before [] w = by_form c (in_where fs before [] w) (of.Block block_of.EndWhere)
    (more fs before (statement.Where (closed_where w first_line))) refl (frames_close c fs _)
wheres_close c fs before (v ∷ ws) w = by_form c (in_where fs before (v ∷ ws) w) (of.Block block_of.EndWhere)
    (in_where fs before ws (more_where v (where_statement.Block (closed_where w first_line)))) refl (wheres_close c fs before ws _)

inner_closes : (c : Context) (fs : List Frame) (i : Inner) → Closes c (body fs i)
inner_closes c fs (inner.Statements done) = frames_close c fs done
inner_closes c fs (inner.Select before h) = by_form c _ (of.Block (block_of.EndSelect None))
    (more fs before (select_block h [] first_line None)) refl (frames_close c fs _)
inner_closes c fs (inner.Where before ws w) = wheres_close c fs before ws w
inner_closes c fs (inner.Forall before k h xs) = by_form c _ (of.Block block_of.EndForall)
    (more fs before (statement.Forall k h xs first_line)) refl (frames_close c fs _)

-- ---- and so can a source

pub record Completes (s : State) : Type 0 where
  pub forms : List Lined
  pub source : Source
  pub runs : run s forms ≡ state.Ended source

by_unit : (s : State) (u : UnitForm) (r : State) → move s first_line (of.Unit u) ≡ r → Completes r → Completes s
by_unit s u r is k =
    record { forms = (first_line, of.Unit u) ∷ k.forms; source = k.source; runs = ap (λ z. run z k.forms) is ∙ k.runs }

-- a program at its end
abbrev ended : List Module → Option (Line × Word) → Section → List Statement → Option (Line × List Subprogram) → Source
ended ms o s xs ps =
    record {
      modules = ms;
      main = record { opening = o; section = s; body = xs; procedures = ps; end = ending first_line None None };
    }

start_completes : (ms : List Module) → Completes (state.Goes ms place.Start)
start_completes ms =
    record { forms = (first_line, of.Unit unit_of.End) ∷ []; source = ended ms None no_section [] None; runs = refl }

module_completes : (ms : List Module) (l : Line) (n : Word) (s : Section) → Completes (state.Goes ms (place.«Module» l n s))
module_completes ms l n s = by_unit (state.Goes ms (place.«Module» l n s)) unit_of.End _ refl (start_completes _)

some_snoc : {A : Type 0} (xs : List A) (x : A) → some (xs ++ x ∷ []) ≡ true
some_snoc [] x = refl
some_snoc (y ∷ xs) x = refl

host_completes : (ms : List Module) (h : Host) (p : Subprogram) → Completes (state.Goes ms (place.Contains (more_procedures h p)))
host_completes ms (host.«Module» l n s k ps) p = by_unit _ unit_of.End
    (state.Goes
    (ms ++ record { line = l; name = n; section = s; procedures = Some (k, ps ++ p ∷ []); end = ending first_line None None }
    ∷ []) place.Start)
    (ap (λ b. if b then state.Goes
    (ms ++ record { line = l; name = n; section = s; procedures = Some (k, ps ++ p ∷ []); end = ending first_line None None }
    ∷ []) place.Start else state.Stops) (some_snoc ps p))
    (start_completes _)
host_completes ms (host.Main o s xs k ps) p = record {
  forms = (first_line, of.Unit unit_of.End) ∷ [];
  source = ended ms o s xs (Some (k, ps ++ p ∷ []));
  runs = ap (λ b. if b then state.Ended (ended ms o s xs (Some (k, ps ++ p ∷ []))) else state.Stops) (some_snoc ps p);
}

same_heading : (h : Heading) → same_unit (heading_word h) (heading_word h) ≡ true
same_heading (heading_of.Subroutine n ds) = refl
same_heading (heading_of.Function n ds r) = refl

-- runs of two parts
pub run_append : (fs gs : List Lined) (s : State) → run s (fs ++ gs) ≡ run (run s fs) gs
run_append [] gs s = refl
run_append (f ∷ fs) gs s = run_append fs gs (move s f.0 f.1)

by_forms : (s : State) (fs : List Lined) (r : State) → ((rest : List Lined) → run s (fs ++ rest) ≡ run r rest) → Completes r →
    Completes s
by_forms s fs r is k = record { forms = fs ++ k.forms; source = k.source; runs = is k.forms ∙ k.runs }

-- the end of a procedure without open blocks
closed_procedure : (ms : List Module) (h : Host) (k : Line) (p : Procedure) (s : Section) (xs : List Statement) →
    Completes (state.Goes ms (place.Procedure h k p s (body [] (inner.Statements xs))))
closed_procedure ms h k p s xs =
    let e = ending first_line (Some (heading_word p.heading)) None in
    let r = state.Goes ms (place.Contains (more_procedures h (record { line = k; procedure = p; section = s; body = xs; end = e })))
    in
    by_unit (state.Goes ms (place.Procedure h k p s (body [] (inner.Statements xs))))
    (unit_of.EndUnit (heading_word p.heading) None) r
    (ap (λ b. if b then r else state.Stops) (same_heading p.heading)) (host_completes ms h _)

place_completes : (ms : List Module) (p : Place) → Completes (state.Goes ms p)
place_completes ms place.Start = start_completes ms
place_completes ms (place.«Module» l n s) = module_completes ms l n s
place_completes ms (place.Main o s b) =
    let k = inner_closes in_main b.outer b.inner in
    by_forms (state.Goes ms (place.Main o s b)) k.forms (state.Goes ms (place.Main o s (body [] (inner.Statements k.done))))
    (λ rest. lift in_main (λ b. state.Goes ms (place.Main o s b)) (main_lifts ms o s) k.forms b (body [] (inner.Statements k.done))
    rest k.runs)
    (record { forms = (first_line, of.Unit unit_of.End) ∷ []; source = ended ms o s k.done None; runs = refl })
place_completes ms (place.Contains h) =
    let p : Procedure = record { prefixes = []; heading = heading_of.Subroutine [] None } in
    by_unit (state.Goes ms (place.Contains h)) (unit_of.Procedure p)
    (state.Goes ms (place.Procedure h first_line p no_section no_body)) refl (closed_procedure ms h first_line p no_section [])
place_completes ms (place.Procedure h l p s b) =
    let k = inner_closes in_procedure b.outer b.inner in
    by_forms (state.Goes ms (place.Procedure h l p s b)) k.forms
    (state.Goes ms (place.Procedure h l p s (body [] (inner.Statements k.done))))
    (λ rest. lift in_procedure (λ b. state.Goes ms (place.Procedure h l p s b)) (procedure_lifts ms h l p s) k.forms b
    (body [] (inner.Statements k.done)) rest k.runs)
    (closed_procedure ms h l p s k.done)

pub completes : (ms : List Module) (p : Place) → Completes (state.Goes ms p)
completes = place_completes
