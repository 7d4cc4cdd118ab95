-- What is printed of a source is read again.
use Rattle.std.proofs.Common.{◌≡◌, Bool, true, false, List, [], ◌∷◌, ◌++◌, map, Option, Some, None, sym, ◌∙◌, ap, subst, refl}
use Rattle.std.proofs.Common.{append_assoc, append-nil}
use Rattle.std.specs.Prelude.{◌&&◌, if◌then◌else◌}
use Rattle.a95_base.specs.declared.source.Line.{Line}
use Rattle.std.proofs.lemmas.Bool.{and_parts}
use Rattle.f95_tree.specs.Forms.{Word}
use Rattle.f95_tree.specs.declared.terminal.UnitWord.{UnitWord}
use Rattle.f95_tree.specs.declared.terminal.UnitWord.TheVariants as word
use Rattle.f95_tree.specs.declared.declaration.Declaration.{Declaration}
use Rattle.f95_tree.specs.declared.form.Form.{Form}
use Rattle.f95_tree.specs.declared.form.Form.TheVariants as of
use Rattle.f95_tree.specs.declared.form.UnitForm.TheVariants as unit_of
use Rattle.f95_tree.specs.declared.form.Procedure.{Procedure}
use Rattle.f95_tree.specs.declared.source.Source.{Source}
use Rattle.f95_tree.specs.declared.source.Module.{Module}
use Rattle.f95_tree.specs.declared.source.Main.{Main}
use Rattle.f95_tree.specs.declared.source.Subprogram.{Subprogram}
use Rattle.f95_tree.specs.declared.source.Section.{Section}
use Rattle.f95_tree.specs.declared.source.Ending.{Ending}
use Rattle.f95_tree.specs.declared.source.Statement.{Statement}
use Rattle.f95_nesting.specs.declared.open.Inner.TheVariants as inner
use Rattle.f95_nesting.specs.declared.open.Body.{Body}
use Rattle.f95_nesting.specs.declared.open.Host.{Host}
use Rattle.f95_nesting.specs.declared.open.Host.TheVariants as host
use Rattle.f95_nesting.specs.declared.open.Place.TheVariants as place
use Rattle.f95_nesting.specs.declared.open.State.{State}
use Rattle.f95_nesting.specs.declared.open.State.TheVariants as state
use Rattle.f95_nesting.specs.Lists.{some}
use Rattle.f95_nesting.specs.Placed.{Placed, outside, Text, in_main, in_procedure, use_placed, implicit_text, declared}
use Rattle.f95_nesting.specs.Placed.{section_text, statements_text, unit_end, unit_end_form, may_end, is_filled, heading_word}
use Rattle.f95_nesting.specs.Placed.{heading_name, contains_text, subprogram_text, subprograms_text, module_text, modules_text}
use Rattle.f95_nesting.specs.Placed.{program_text, program_name, main_text, source_text}
use Rattle.f95_nesting.specs.Nesting.{Lined, forms_of, all_stand}
use Rattle.f95_nesting.specs.Machine.{body, ending, no_section, no_body, section_move, into, end_main, end_module, more_procedures}
use Rattle.f95_nesting.specs.Machine.{move, run, start}
use Rattle.f95_nesting.proofs.Complete.{run_body, lift, main_lifts, procedure_lifts}
use Rattle.f95_nesting.proofs.Again.{forms_append, all_both}
use Rattle.f95_nesting.proofs.Parts.{read_statements}

pub record Leads (s : State) (t : Text) (r : State) : Type 0 where
  pub goes : (rest : List Lined) → run s (forms_of t ++ rest) ≡ run r rest

still : (s : State) → Leads s [] s
still s = record { goes = λ rest. refl }

step : (s : State) (p : Placed) (r : State) → move s p.line p.form ≡ r → Leads s (p ∷ []) r
step s p r is = record { goes = λ rest. ap (λ z. run z rest) is }

follow : (s : State) (q r : State) (t u : Text) → Leads s t q → Leads q u r → Leads s (t ++ u) r
follow s q r t u h g = record {
  goes = λ rest.
      ap (run s) (ap (λ z. z ++ rest) (forms_append t u) ∙ append_assoc (forms_of t) (forms_of u) rest)
      ∙ h.goes (forms_of u ++ rest) ∙ g.goes rest;
}

onto : (s q r : State) (t : Text) → q ≡ r → Leads s t q → Leads s t r
onto s q r t is h = subst (λ z. Leads s t z) is h

-- ---- what stands before the statements of a unit

-- a unit that takes it
abbrev Takes : (Section → State) → Type 0
Takes k = (s : Section) (l : Line) (f : Form) (r : Section) → section_move s l f ≡ Some r → move (k s) l f ≡ k r

abbrev section_of : List (Line × Word × Option (List Word)) → Option Line → List (Line × Declaration) → Section
section_of us i ds = record { uses = us; implicit = i; declarations = ds }

lead_uses : (k : Section → State) → Takes k → (xs us : List (Line × Word × Option (List Word))) →
    Leads (k (section_of us None [])) (map use_placed xs) (k (section_of (us ++ xs) None []))
lead_uses k takes [] us = onto _ _ _ [] (ap (λ z. k (section_of z None [])) (sym (append-nil us)))
    (still (k (section_of us None [])))
lead_uses k takes (x ∷ xs) us =
    follow _ (k (section_of (us ++ x ∷ []) None [])) _ (use_placed x ∷ []) (map use_placed xs)
    (step (k (section_of us None [])) (use_placed x) _
    (takes (section_of us None []) x.0 (of.Unit (unit_of.Use x.1 x.2)) (section_of (us ++ x ∷ []) None []) refl))
    (onto _ _ _ (map use_placed xs) (ap (λ z. k (section_of z None [])) (append_assoc us (x ∷ []) xs))
    (lead_uses k takes xs (us ++ x ∷ [])))

lead_implicit : (k : Section → State) → Takes k → (us : List (Line × Word × Option (List Word))) (i : Option Line) →
    Leads (k (section_of us None [])) (implicit_text i) (k (section_of us i []))
lead_implicit k takes us None = still (k (section_of us None []))
lead_implicit k takes us (Some l) =
    step (k (section_of us None [])) (outside l (of.Unit unit_of.ImplicitNone)) _
    (takes (section_of us None []) l (of.Unit unit_of.ImplicitNone) (section_of us (Some l) []) refl)

lead_declarations : (k : Section → State) → Takes k → (us : List (Line × Word × Option (List Word))) (i : Option Line)
    (xs ds : List (Line × Declaration)) →
    Leads (k (section_of us i ds)) (map declared xs) (k (section_of us i (ds ++ xs)))
lead_declarations k takes us i [] ds = onto _ _ _ [] (ap (λ z. k (section_of us i z)) (sym (append-nil ds)))
    (still (k (section_of us i ds)))
lead_declarations k takes us i (x ∷ xs) ds =
    follow _ (k (section_of us i (ds ++ x ∷ []))) _ (declared x ∷ []) (map declared xs)
    (step (k (section_of us i ds)) (declared x) _
    (takes (section_of us i ds) x.0 (of.Declaration x.1) (section_of us i (ds ++ x ∷ [])) refl))
    (onto _ _ _ (map declared xs) (ap (λ z. k (section_of us i z)) (append_assoc ds (x ∷ []) xs))
    (lead_declarations k takes us i xs (ds ++ x ∷ [])))

lead_section : (k : Section → State) → Takes k → (s : Section) → Leads (k no_section) (section_text s) (k s)
lead_section k takes s =
    follow _ (k (section_of s.uses None [])) _ (map use_placed s.uses) (implicit_text s.implicit ++ map declared s.declarations)
    (lead_uses k takes s.uses [])
    (follow _ (k (section_of s.uses s.implicit [])) _ (implicit_text s.implicit) (map declared s.declarations)
    (lead_implicit k takes s.uses s.implicit)
    (lead_declarations k takes s.uses s.implicit s.declarations []))

module_takes : (ms : List Module) (l : Line) (n : Word) → Takes (λ s. state.Goes ms (place.«Module» l n s))
module_takes ms k n s l (of.Unit (unit_of.Use m only)) r is = ap (into (λ s. state.Goes ms (place.«Module» k n s))) is
module_takes ms k n s l (of.Unit unit_of.ImplicitNone) r is = ap (into (λ s. state.Goes ms (place.«Module» k n s))) is
module_takes ms k n s l (of.Unit unit_of.Contains) r is = absurd (cc)
module_takes ms k n s l (of.Unit unit_of.End) r is = absurd (cc)
module_takes ms k n s l (of.Unit (unit_of.EndUnit w m)) r is = absurd (cc)
module_takes ms k n s l (of.Unit (unit_of.Program m)) r is = absurd (cc)
module_takes ms k n s l (of.Unit (unit_of.«Module» m)) r is = absurd (cc)
module_takes ms k n s l (of.Unit (unit_of.Procedure m)) r is = absurd (cc)
module_takes ms k n s l (of.Declaration d) r is = ap (into (λ s. state.Goes ms (place.«Module» k n s))) is
module_takes ms k n s l (of.Block d) r is = absurd (cc)
module_takes ms k n s l (of.Action d) r is = absurd (cc)
module_takes ms k n s l (of.If e d) r is = absurd (cc)

main_takes : (ms : List Module) (o : Option (Line × Word)) → Takes (λ s. state.Goes ms (place.Main o s no_body))
main_takes ms o s l (of.Unit (unit_of.Use m only)) r is = ap (into (λ s. state.Goes ms (place.Main o s no_body))) is
main_takes ms o s l (of.Unit unit_of.ImplicitNone) r is = ap (into (λ s. state.Goes ms (place.Main o s no_body))) is
main_takes ms o s l (of.Unit unit_of.Contains) r is = absurd (cc)
main_takes ms o s l (of.Unit unit_of.End) r is = absurd (cc)
main_takes ms o s l (of.Unit (unit_of.EndUnit w m)) r is = absurd (cc)
main_takes ms o s l (of.Unit (unit_of.Program m)) r is = absurd (cc)
main_takes ms o s l (of.Unit (unit_of.«Module» m)) r is = absurd (cc)
main_takes ms o s l (of.Unit (unit_of.Procedure m)) r is = absurd (cc)
main_takes ms o s l (of.Declaration d) r is = ap (into (λ s. state.Goes ms (place.Main o s no_body))) is
main_takes ms o s l (of.Block d) r is = absurd (cc)
main_takes ms o s l (of.Action d) r is = absurd (cc)
main_takes ms o s l (of.If e d) r is = absurd (cc)

procedure_takes : (ms : List Module) (h : Host) (k : Line) (p : Procedure) →
    Takes (λ s. state.Goes ms (place.Procedure h k p s no_body))
procedure_takes ms h k p s l (of.Unit (unit_of.Use m only)) r is =
    ap (into (λ s. state.Goes ms (place.Procedure h k p s no_body))) is
procedure_takes ms h k p s l (of.Unit unit_of.ImplicitNone) r is =
    ap (into (λ s. state.Goes ms (place.Procedure h k p s no_body))) is
procedure_takes ms h k p s l (of.Unit unit_of.Contains) r is = absurd (cc)
procedure_takes ms h k p s l (of.Unit unit_of.End) r is = absurd (cc)
procedure_takes ms h k p s l (of.Unit (unit_of.EndUnit w m)) r is = absurd (cc)
procedure_takes ms h k p s l (of.Unit (unit_of.Program m)) r is = absurd (cc)
procedure_takes ms h k p s l (of.Unit (unit_of.«Module» m)) r is = absurd (cc)
procedure_takes ms h k p s l (of.Unit (unit_of.Procedure m)) r is = absurd (cc)
procedure_takes ms h k p s l (of.Declaration d) r is = ap (into (λ s. state.Goes ms (place.Procedure h k p s no_body))) is
procedure_takes ms h k p s l (of.Block d) r is = absurd (cc)
procedure_takes ms h k p s l (of.Action d) r is = absurd (cc)
procedure_takes ms h k p s l (of.If e d) r is = absurd (cc)

-- ---- the statements of a unit

abbrev of_statements : List Statement → Body
of_statements xs = body [] (inner.Statements xs)

lead_main_body : (ms : List Module) (o : Option (Line × Word)) (s : Section) (xs : List Statement) →
    all_stand (statements_text xs in_main) ≡ true →
    Leads (state.Goes ms (place.Main o s no_body)) (statements_text xs in_main) (state.Goes ms (place.Main o s (of_statements xs)))
lead_main_body ms o s xs h =
    let t = statements_text xs in_main in record {
      goes = λ rest.
          lift in_main (λ b. state.Goes ms (place.Main o s b)) (main_lifts ms o s) (forms_of t) no_body (of_statements xs) rest
          (ap (run_body in_main (Some no_body)) (sym (append-nil (forms_of t))) ∙ (read_statements xs in_main [] [] h).goes []);
    }

lead_procedure_body : (ms : List Module) (h : Host) (k : Line) (p : Procedure) (s : Section) (xs : List Statement) →
    all_stand (statements_text xs in_procedure) ≡ true →
    Leads (state.Goes ms (place.Procedure h k p s no_body)) (statements_text xs in_procedure)
    (state.Goes ms (place.Procedure h k p s (of_statements xs)))
lead_procedure_body ms h k p s xs st =
    let t = statements_text xs in_procedure in record {
      goes = λ rest.
          lift in_procedure (λ b. state.Goes ms (place.Procedure h k p s b)) (procedure_lifts ms h k p s) (forms_of t) no_body
          (of_statements xs) rest
          (ap (run_body in_procedure (Some no_body)) (sym (append-nil (forms_of t)))
          ∙ (read_statements xs in_procedure [] [] st).goes []);
    }

-- ---- ends

-- an END in a state that ends a unit so
end_as : (s : State) (k : Ending → State) (w : UnitWord) → ((l : Line) → move s l (of.Unit unit_of.End) ≡ k (ending l None None)) →
    ((l : Line) (v : UnitWord) (n : Option Word) → move s l (of.Unit (unit_of.EndUnit v n)) ≡ k (ending l (Some v) n)) →
    (l : Line) (v : Option UnitWord) (n : Option Word) → may_end w true v n ≡ true → move s l (of.Unit (unit_end_form v n))
    ≡ k (ending l v n)
end_as s k w here named l None None h = here l
end_as s k w here named l None (Some n) h = absurd (cc)
end_as s k w here named l (Some v) n h = named l v n

lead_end : (s : State) (k : Ending → State) (r : State) (w : UnitWord) (n : Option Word) (filled : Bool) (e : Ending) →
    ((l : Line) → move s l (of.Unit unit_of.End) ≡ k (ending l None None)) →
    ((l : Line) (v : UnitWord) (m : Option Word) → move s l (of.Unit (unit_of.EndUnit v m)) ≡ k (ending l (Some v) m)) →
    k e ≡ (if may_end w true e.word e.name && filled then r else state.Stops) →
    all_stand (unit_end w true n filled e ∷ []) ≡ true → Leads s (unit_end w true n filled e ∷ []) r
lead_end s k r w n filled e here named is st =
    let a = and_parts (may_end w true e.word e.name && filled) true st in let b = and_parts (may_end w true e.word e.name) filled a.0 in
    step s (unit_end w true n filled e) r
    (end_as s k w here named e.line e.word e.name b.0 ∙ is ∙ ap (λ z. if z then r else state.Stops) a.0)

-- ---- procedures

end_procedure_as : (ms : List Module) (h : Host) (k : Line) (p : Procedure) (s : Section) (xs : List Statement) (l : Line)
    (v : Option UnitWord) (n : Option Word) →
    may_end (heading_word p.heading) false v n ≡ true →
    move (state.Goes ms (place.Procedure h k p s (of_statements xs))) l (of.Unit (unit_end_form v n))
    ≡ state.Goes ms
    (place.Contains (more_procedures h (record { line = k; procedure = p; section = s; body = xs; end = ending l v n })))
end_procedure_as ms h k p s xs l None None e = absurd (cc)
end_procedure_as ms h k p s xs l None (Some n) e = absurd (cc)
end_procedure_as ms h k p s xs l (Some v) n e =
    ap (λ z. if z then state.Goes ms
    (place.Contains (more_procedures h (record { line = k; procedure = p; section = s; body = xs; end = ending l (Some v) n })))
    else state.Stops) e

lead_subprogram : (ms : List Module) (h : Host) (x : Subprogram) → all_stand (subprogram_text x) ≡ true →
    Leads (state.Goes ms (place.Contains h)) (subprogram_text x) (state.Goes ms (place.Contains (more_procedures h x)))
lead_subprogram ms h x st =
    let p = x.procedure in let t = statements_text x.body in_procedure in
    let q = unit_end (heading_word p.heading) false (Some (heading_name p.heading)) true x.end in
    let a = all_both (section_text x.section) (t ++ q ∷ []) st in let b = all_both t (q ∷ []) a.1 in
    let c = and_parts (may_end (heading_word p.heading) false x.end.word x.end.name && true) true b.1 in
    let d = and_parts (may_end (heading_word p.heading) false x.end.word x.end.name) true c.0 in
    follow (state.Goes ms (place.Contains h)) (state.Goes ms (place.Procedure h x.line p no_section no_body)) _
    (outside x.line (of.Unit (unit_of.Procedure p)) ∷ []) (section_text x.section ++ (t ++ q ∷ []))
    (step (state.Goes ms (place.Contains h)) (outside x.line (of.Unit (unit_of.Procedure p))) _ refl)
    (follow _ (state.Goes ms (place.Procedure h x.line p x.section no_body)) _ (section_text x.section) (t ++ q ∷ [])
    (lead_section (λ s. state.Goes ms (place.Procedure h x.line p s no_body)) (procedure_takes ms h x.line p) x.section)
    (follow _ (state.Goes ms (place.Procedure h x.line p x.section (of_statements x.body))) _ t (q ∷ [])
    (lead_procedure_body ms h x.line p x.section x.body b.0)
    (step _ q _ (end_procedure_as ms h x.line p x.section x.body x.end.line x.end.word x.end.name d.0))))

abbrev with_procedures : Host → List Subprogram → Host
with_procedures h [] = h
with_procedures h (p ∷ ps) = with_procedures (more_procedures h p) ps

lead_subprograms : (ms : List Module) (ps : List Subprogram) (h : Host) → all_stand (subprograms_text ps) ≡ true →
    Leads (state.Goes ms (place.Contains h)) (subprograms_text ps) (state.Goes ms (place.Contains (with_procedures h ps)))
lead_subprograms ms [] h st = still (state.Goes ms (place.Contains h))
lead_subprograms ms (p ∷ ps) h st =
    let a = all_both (subprogram_text p) (subprograms_text ps) st in
    follow _ (state.Goes ms (place.Contains (more_procedures h p))) _ (subprogram_text p) (subprograms_text ps)
    (lead_subprogram ms h p a.0) (lead_subprograms ms ps (more_procedures h p) a.1)

all_module : (l : Line) (n : Word) (s : Section) (k : Line) (ps qs : List Subprogram) →
    with_procedures (host.«Module» l n s k qs) ps ≡ host.«Module» l n s k (qs ++ ps)
all_module l n s k [] qs = ap (host.«Module» l n s k) (sym (append-nil qs))
all_module l n s k (p ∷ ps) qs = all_module l n s k ps (qs ++ p ∷ []) ∙ ap (host.«Module» l n s k) (append_assoc qs (p ∷ []) ps)

all_main : (o : Option (Line × Word)) (s : Section) (xs : List Statement) (k : Line) (ps qs : List Subprogram) →
    with_procedures (host.Main o s xs k qs) ps ≡ host.Main o s xs k (qs ++ ps)
all_main o s xs k [] qs = ap (host.Main o s xs k) (sym (append-nil qs))
all_main o s xs k (p ∷ ps) qs = all_main o s xs k ps (qs ++ p ∷ []) ∙ ap (host.Main o s xs k) (append_assoc qs (p ∷ []) ps)

-- ---- modules

-- CONTAINS, if there is one, and the end
module_tail : (ms : List Module) (l : Line) (n : Word) (s : Section) (ps : Option (Line × List Subprogram)) (e : Ending) →
    all_stand (contains_text ps ++ unit_end word.«Module» true (Some n) (is_filled ps) e ∷ []) ≡ true →
    Leads (state.Goes ms (place.«Module» l n s)) (contains_text ps ++ unit_end word.«Module» true (Some n) (is_filled ps) e ∷ [])
    (state.Goes (ms ++ record { line = l; name = n; section = s; procedures = ps; end = e } ∷ []) place.Start)
module_tail ms l n s None e st =
    lead_end (state.Goes ms (place.«Module» l n s)) (end_module ms l n s None) _ word.«Module» (Some n) true e (λ k. refl)
    (λ k v m. refl) refl st
module_tail ms l n s (Some c) e st =
    let q = unit_end word.«Module» true (Some n) (some c.1) e in
    let a = all_both (subprograms_text c.1) (q ∷ []) st in
    let h = host.«Module» l n s c.0 c.1 in
    follow _ (state.Goes ms (place.Contains (host.«Module» l n s c.0 []))) _ (outside c.0 (of.Unit unit_of.Contains) ∷ [])
    (subprograms_text c.1 ++ q ∷ [])
    (step (state.Goes ms (place.«Module» l n s)) (outside c.0 (of.Unit unit_of.Contains)) _ refl)
    (follow _ (state.Goes ms (place.Contains h)) _ (subprograms_text c.1) (q ∷ [])
    (onto _ _ _ (subprograms_text c.1) (ap (λ z. state.Goes ms (place.Contains z)) (all_module l n s c.0 c.1 []))
    (lead_subprograms ms c.1 (host.«Module» l n s c.0 []) a.0))
    (lead_end (state.Goes ms (place.Contains h)) (end_module ms l n s (Some c)) _ word.«Module» (Some n) (some c.1) e (λ k. refl)
    (λ k v m. refl) refl a.1))

lead_module : (ms : List Module) (m : Module) → all_stand (module_text m) ≡ true →
    Leads (state.Goes ms place.Start) (module_text m) (state.Goes (ms ++ m ∷ []) place.Start)
lead_module ms m st =
    let t = contains_text m.procedures ++ unit_end word.«Module» true (Some m.name) (is_filled m.procedures) m.end ∷ [] in
    let a = all_both (section_text m.section) t st in
    follow _ (state.Goes ms (place.«Module» m.line m.name no_section)) _ (outside m.line (of.Unit (unit_of.«Module» m.name)) ∷ [])
    (section_text m.section ++ t)
    (step (state.Goes ms place.Start) (outside m.line (of.Unit (unit_of.«Module» m.name))) _ refl)
    (follow _ (state.Goes ms (place.«Module» m.line m.name m.section)) _ (section_text m.section) t
    (lead_section (λ s. state.Goes ms (place.«Module» m.line m.name s)) (module_takes ms m.line m.name) m.section)
    (module_tail ms m.line m.name m.section m.procedures m.end a.1))

lead_modules : (xs ms : List Module) → all_stand (modules_text xs) ≡ true →
    Leads (state.Goes ms place.Start) (modules_text xs) (state.Goes (ms ++ xs) place.Start)
lead_modules [] ms st = onto _ _ _ [] (ap (λ z. state.Goes z place.Start) (sym (append-nil ms))) (still (state.Goes ms place.Start))
lead_modules (x ∷ xs) ms st =
    let a = all_both (module_text x) (modules_text xs) st in
    follow _ (state.Goes (ms ++ x ∷ []) place.Start) _ (module_text x) (modules_text xs) (lead_module ms x a.0)
    (onto _ _ _ (modules_text xs) (ap (λ z. state.Goes z place.Start) (append_assoc ms (x ∷ []) xs))
    (lead_modules xs (ms ++ x ∷ []) a.1))

-- ---- the main program

main_tail : (ms : List Module) (o : Option (Line × Word)) (s : Section) (xs : List Statement) (ps : Option (Line × List Subprogram))
    (e : Ending) →
    all_stand (contains_text ps ++ unit_end word.Program true (program_name o) (is_filled ps) e ∷ []) ≡ true →
    Leads (state.Goes ms (place.Main o s (of_statements xs)))
    (contains_text ps ++ unit_end word.Program true (program_name o) (is_filled ps) e ∷ [])
    (state.Ended (record { modules = ms; main = record { opening = o; section = s; body = xs; procedures = ps; end = e } }))
main_tail ms o s xs None e st =
    lead_end (state.Goes ms (place.Main o s (of_statements xs))) (λ e. end_main ms o s None e xs) _ word.Program (program_name o)
    true e (λ k. refl) (λ k v m. refl) refl st
main_tail ms o s xs (Some c) e st =
    let q = unit_end word.Program true (program_name o) (some c.1) e in
    let a = all_both (subprograms_text c.1) (q ∷ []) st in
    let h = host.Main o s xs c.0 c.1 in
    follow _ (state.Goes ms (place.Contains (host.Main o s xs c.0 []))) _ (outside c.0 (of.Unit unit_of.Contains) ∷ [])
    (subprograms_text c.1 ++ q ∷ [])
    (step (state.Goes ms (place.Main o s (of_statements xs))) (outside c.0 (of.Unit unit_of.Contains)) _ refl)
    (follow _ (state.Goes ms (place.Contains h)) _ (subprograms_text c.1) (q ∷ [])
    (onto _ _ _ (subprograms_text c.1) (ap (λ z. state.Goes ms (place.Contains z)) (all_main o s xs c.0 c.1 []))
    (lead_subprograms ms c.1 (host.Main o s xs c.0 []) a.0))
    (lead_end (state.Goes ms (place.Contains h)) (λ e. end_main ms o s (Some c) e xs) _ word.Program (program_name o) (some c.1) e
    (λ k. refl) (λ k v m. refl) refl a.1))

-- behind its PROGRAM statement
lead_main : (ms : List Module) (m : Main) →
    all_stand
    (section_text m.section
    ++ (statements_text m.body in_main
    ++ (contains_text m.procedures ++ unit_end word.Program true (program_name m.opening) (is_filled m.procedures) m.end ∷ [])))
    ≡ true →
    Leads (state.Goes ms (place.Main m.opening no_section no_body))
    (section_text m.section
    ++ (statements_text m.body in_main
    ++ (contains_text m.procedures ++ unit_end word.Program true (program_name m.opening) (is_filled m.procedures) m.end ∷ [])))
    (state.Ended (record { modules = ms; main = m }))
lead_main ms m st =
    let t = contains_text m.procedures ++ unit_end word.Program true (program_name m.opening) (is_filled m.procedures) m.end ∷ [] in
    let x = statements_text m.body in_main in
    let a = all_both (section_text m.section) (x ++ t) st in let b = all_both x t a.1 in
    follow _ (state.Goes ms (place.Main m.opening m.section no_body)) _ (section_text m.section) (x ++ t)
    (lead_section (λ s. state.Goes ms (place.Main m.opening s no_body)) (main_takes ms m.opening) m.section)
    (follow _ (state.Goes ms (place.Main m.opening m.section (of_statements m.body))) _ x t
    (lead_main_body ms m.opening m.section m.body b.0)
    (main_tail ms m.opening m.section m.body m.procedures m.end b.1))

pub stops_stay : (fs : List Lined) → run state.Stops fs ≡ state.Stops
stops_stay [] = refl
stops_stay (f ∷ fs) = stops_stay fs

-- without a PROGRAM statement
unnamed_at : (ms : List Module) (l : Line) (f : Form) (fs : List Lined) (s : Source) →
    run (move (state.Goes ms (place.Main None no_section no_body)) l f) fs ≡ state.Ended s →
    run (move (state.Goes ms place.Start) l f) fs ≡ state.Ended s
unnamed_at ms l (of.Unit (unit_of.Program n)) fs s h = let e : state.Stops ≡ state.Ended s = sym (stops_stay fs) ∙ h in absurd (cc)
unnamed_at ms l (of.Unit (unit_of.«Module» n)) fs s h = let e : state.Stops ≡ state.Ended s = sym (stops_stay fs) ∙ h in absurd (cc)
unnamed_at ms l (of.Unit (unit_of.Procedure p)) fs s h = h
unnamed_at ms l (of.Unit (unit_of.Use n only)) fs s h = h
unnamed_at ms l (of.Unit unit_of.ImplicitNone) fs s h = h
unnamed_at ms l (of.Unit unit_of.Contains) fs s h = h
unnamed_at ms l (of.Unit unit_of.End) fs s h = h
unnamed_at ms l (of.Unit (unit_of.EndUnit w n)) fs s h = h
unnamed_at ms l (of.Declaration d) fs s h = h
unnamed_at ms l (of.Block b) fs s h = h
unnamed_at ms l (of.Action a) fs s h = h
unnamed_at ms l (of.If e a) fs s h = h

unnamed : (ms : List Module) (fs : List Lined) (s : Source) → run (state.Goes ms (place.Main None no_section no_body)) fs
    ≡ state.Ended s → run (state.Goes ms place.Start) fs ≡ state.Ended s
unnamed ms [] s h = absurd (cc)
unnamed ms (f ∷ fs) s h = unnamed_at ms f.0 f.1 fs s h

main_again : (ms : List Module) (o : Option (Line × Word)) (m : Main) → m.opening ≡ o → all_stand (main_text m) ≡ true →
    run (state.Goes ms place.Start) (forms_of (main_text m)) ≡ state.Ended (record { modules = ms; main = m })
main_again ms None m is st =
    let t = section_text m.section
    ++ (statements_text m.body in_main
    ++ (contains_text m.procedures ++ unit_end word.Program true (program_name m.opening) (is_filled m.procedures) m.end ∷ []))
    in
    let same : main_text m ≡ t = ap (λ z. program_text z ++ t) is in
    ap (λ z. run (state.Goes ms place.Start) (forms_of z)) same ∙ unnamed ms (forms_of t) (record { modules = ms; main = m })
    (ap (λ z. run (state.Goes ms (place.Main z no_section no_body)) (forms_of t)) (sym is)
    ∙ ap (run (state.Goes ms (place.Main m.opening no_section no_body))) (sym (append-nil (forms_of t)))
    ∙ (lead_main ms m (sym (ap all_stand same) ∙ st)).goes [])
main_again ms (Some o) m is st =
    let t = section_text m.section
    ++ (statements_text m.body in_main
    ++ (contains_text m.procedures ++ unit_end word.Program true (program_name m.opening) (is_filled m.procedures) m.end ∷ []))
    in
    let same : main_text m ≡ outside o.0 (of.Unit (unit_of.Program o.1)) ∷ t = ap (λ z. program_text z ++ t) is in
    ap (λ z. run (state.Goes ms place.Start) (forms_of z)) same
    ∙ ap (λ z. run (state.Goes ms (place.Main z no_section no_body)) (forms_of t)) (sym is)
    ∙ ap (run (state.Goes ms (place.Main m.opening no_section no_body))) (sym (append-nil (forms_of t)))
    ∙ (lead_main ms m (sym (ap all_stand same) ∙ st)).goes []

-- what is printed of a source whose statements may all stand is read as that source
pub again : (s : Source) → all_stand (source_text s) ≡ true → run start (forms_of (source_text s)) ≡ state.Ended s
again s st =
    let a = all_both (modules_text s.modules) (main_text s.main) st in
    ap (run start) (forms_append (modules_text s.modules) (main_text s.main))
    ∙ (lead_modules s.modules [] a.0).goes (forms_of (main_text s.main))
    ∙ main_again s.modules s.main.opening s.main refl a.1
