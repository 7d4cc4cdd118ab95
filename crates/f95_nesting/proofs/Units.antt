-- A statement more in a source: the text of what is then open has that statement behind the text before.
use Rattle.std.proofs.Common.{◌≡◌, ℕ, Bool, true, false, List, [], ◌∷◌, ◌++◌, map, Option, Some, None, sym, ◌∙◌, ap, subst, refl}
use Rattle.std.proofs.Common.{append_assoc, append-nil}
use Rattle.std.specs.Prelude.{◌&&◌, if◌then◌else◌}
use Rattle.a95_base.specs.declared.source.Line.{Line}
use Rattle.a95_base.proofs.Tests.{by_test, and-true}
use Rattle.f95_tree.specs.Forms.{Word}
use Rattle.f95_tree.specs.declared.terminal.UnitWord.{UnitWord}
use Rattle.f95_tree.specs.declared.terminal.UnitWord.TheVariants as word
use Rattle.f95_tree.specs.declared.declaration.Declaration.{Declaration}
use Rattle.f95_tree.specs.declared.form.Form.{Form}
use Rattle.f95_tree.specs.declared.form.Form.TheVariants as of
use Rattle.f95_tree.specs.declared.form.UnitForm.{UnitForm}
use Rattle.f95_tree.specs.declared.form.UnitForm.TheVariants as unit_of
use Rattle.f95_tree.specs.declared.form.Procedure.{Procedure}
use Rattle.f95_tree.specs.declared.source.Module.{Module}
use Rattle.f95_tree.specs.declared.source.Subprogram.{Subprogram}
use Rattle.f95_tree.specs.declared.source.Section.{Section}
use Rattle.f95_tree.specs.declared.source.Ending.{Ending}
use Rattle.f95_tree.specs.declared.source.Statement.{Statement}
use Rattle.f95_nesting.specs.declared.open.Frame.{Frame}
use Rattle.f95_nesting.specs.declared.open.Inner.{Inner}
use Rattle.f95_nesting.specs.declared.open.Inner.TheVariants as inner
use Rattle.f95_nesting.specs.declared.open.Body.{Body}
use Rattle.f95_nesting.specs.declared.open.Host.{Host}
use Rattle.f95_nesting.specs.declared.open.Host.TheVariants as host
use Rattle.f95_nesting.specs.declared.open.Place.{Place}
use Rattle.f95_nesting.specs.declared.open.Place.TheVariants as place
use Rattle.f95_nesting.specs.declared.open.State.{State}
use Rattle.f95_nesting.specs.declared.open.State.TheVariants as state
use Rattle.f95_nesting.specs.Placed.{Placed, placed, outside, differs, Text, Context, in_main, in_procedure, use_placed}
use Rattle.f95_nesting.specs.Placed.{implicit_text, declared, section_text, unit_end_form, may_end, is_filled, contains_text}
use Rattle.f95_nesting.specs.Placed.{subprograms_text, subprogram_text, modules_text, program_text, program_name, heading_word}
use Rattle.f95_nesting.specs.Placed.{heading_name, source_text, statements_text}
use Rattle.f95_nesting.specs.Machine.{body, no_section, no_body, body_name, inner_name, frames_name, inner_depth, context}
use Rattle.f95_nesting.specs.Machine.{body_depth, body_move, marked, unit_end_name, ending, done_of, done_at, section_unit_move}
use Rattle.f95_nesting.specs.Machine.{section_move, into, before_body, end_module, end_main, end_host, end_procedure}
use Rattle.f95_nesting.specs.Machine.{more_procedures, module_unit_move, module_move, main_unit_move, main_move, start_unit_move}
use Rattle.f95_nesting.specs.Machine.{start_move, contains_unit_move, contains_move, procedure_unit_move, procedure_move, move}
use Rattle.f95_nesting.specs.Machine.{host_name, mark}
use Rattle.f95_nesting.proofs.Texts.{map_snoc, subprograms_snoc, modules_snoc}
use Rattle.f95_nesting.proofs.Opened.{body_text, host_text, state_text}
use Rattle.f95_nesting.proofs.Sound.{Adds, body_adds}

-- the state has the text with this statement, unless the machine stops
abbrev pub Extends : Text → Placed → State → Type 0
Extends t p (state.Goes ms q) = state_text (state.Goes ms q) ≡ t ++ p ∷ []
Extends t p (state.Ended s) = source_text s ≡ t ++ p ∷ []
Extends t p state.Stops = Unit {0}

into_extends : {A : Type 0} (k : A → State) (o : Option A) (t : Text) (p : Placed) → ((a : A) → o ≡ Some a → Extends t p (k a)) →
    Extends t p (into k o)
into_extends k None t p h = tt
into_extends k (Some a) t p h = h a refl

-- ---- what stands before the statements of a unit

abbrev SectionAdds : Section → Placed → Option Section → Type 0
SectionAdds s p None = Unit {0}
SectionAdds s p (Some r) = section_text r ≡ section_text s ++ p ∷ []

abbrev section_of : List (Line × Word × Option (List Word)) → Option Line → List (Line × Declaration) → Section
section_of us i ds = record { uses = us; implicit = i; declarations = ds }

use_adds : (us : List (Line × Word × Option (List Word))) (i : Option Line) (ds : List (Line × Declaration)) (l : Line) (n : Word)
    (only : Option (List Word)) →
    SectionAdds (section_of us i ds) (outside l (of.Unit (unit_of.Use n only)))
    (section_unit_move (section_of us i ds) l (unit_of.Use n only))
use_adds us None [] l n only = ap (λ t. t ++ []) (map_snoc use_placed us (l, n, only)) ∙ append-nil _
    ∙ sym (ap (λ t. t ++ outside l (of.Unit (unit_of.Use n only)) ∷ []) (append-nil (map use_placed us)))
use_adds us None (d ∷ ds) l n only = tt
use_adds us (Some k) ds l n only = tt

implicit_adds : (us : List (Line × Word × Option (List Word))) (i : Option Line) (ds : List (Line × Declaration)) (l : Line) →
    SectionAdds (section_of us i ds) (outside l (of.Unit unit_of.ImplicitNone))
    (section_unit_move (section_of us i ds) l unit_of.ImplicitNone)
implicit_adds us None [] l = sym (ap (λ t. t ++ outside l (of.Unit unit_of.ImplicitNone) ∷ []) (append-nil (map use_placed us)))
implicit_adds us None (d ∷ ds) l = tt
implicit_adds us (Some k) ds l = tt

section_unit_adds : (s : Section) (l : Line) (u : UnitForm) → SectionAdds s (outside l (of.Unit u)) (section_unit_move s l u)
section_unit_adds s l (unit_of.Use n only) = use_adds s.uses s.implicit s.declarations l n only
section_unit_adds s l unit_of.ImplicitNone = implicit_adds s.uses s.implicit s.declarations l
section_unit_adds s l _ = tt

declaration_adds : (s : Section) (l : Line) (d : Declaration) →
    SectionAdds s (outside l (of.Declaration d)) (section_move s l (of.Declaration d))
declaration_adds s l d =
    let u = map use_placed s.uses in let i = implicit_text s.implicit in let ds = map declared s.declarations in let p =
    outside l (of.Declaration d) in
    ap (λ t. u ++ (i ++ t)) (map_snoc declared s.declarations (l, d))
    ∙ ap (λ t. u ++ t) (sym (append_assoc i ds (p ∷ []))) ∙ sym (append_assoc u (i ++ ds) (p ∷ []))

-- a section more, somewhere in a text
section_extends : (k : Section → State) (s : Section) (o : Option Section) (t : Text) (p : Placed) →
    ((r : Section) → section_text r ≡ section_text s ++ p ∷ [] → Extends t p (k r)) → SectionAdds s p o → Extends t p (into k o)
section_extends k s None t p h a = tt
section_extends k s (Some r) t p h a = h r a

-- ---- the statements of a unit

-- where nothing stands in a body yet
at_empty : (c : Context) (fs : List Frame) (i : Inner) (k : Body → Section → State) (r : Option Section) (t : Text → Text)
    (q : ℕ → Placed) →
    Extends (t []) (q c.blocks) (into (k no_body) r) →
    Extends (t (body_text c (body fs i))) (q (inner_depth i (context c fs).blocks)) (before_body (body fs i) (k (body fs i)) r)
at_empty c [] (inner.Statements []) k r t q h = h
at_empty c [] (inner.Statements (x ∷ xs)) k r t q h = tt
at_empty c [] (inner.Select b m) k r t q h = tt
at_empty c [] (inner.Where b ws w) k r t q h = tt
at_empty c [] (inner.Forall b l m xs) k r t q h = tt
at_empty c (f ∷ fs) i k r t q h = tt

-- where no block is open
at_done : (c : Context) (fs : List Frame) (i : Inner) (unit : Option Word) (k : List Statement → State) (t : Text → Text)
    (q : Option Word → ℕ → Placed) →
    ((xs : List Statement) → Extends (t (statements_text xs c)) (q unit c.blocks) (k xs)) →
    Extends (t (body_text c (body fs i))) (q (inner_name i (frames_name fs unit)) (inner_depth i (context c fs).blocks))
    (into k (done_at fs i))
at_done c [] (inner.Statements done) unit k t q h = h done
at_done c [] (inner.Select b m) unit k t q h = tt
at_done c [] (inner.Where b ws w) unit k t q h = tt
at_done c [] (inner.Forall b l m xs) unit k t q h = tt
at_done c (f ∷ fs) i unit k t q h = tt

body_extends : (c : Context) (k : Body → State) (b : Body) (o : Option Body) (t : Text) (p : Placed) →
    ((r : Body) → body_text c r ≡ body_text c b ++ p ∷ [] → Extends t p (k r)) → Adds c (body_text c b) p o → Extends t p (into k o)
body_extends c k b None t p h a = tt
body_extends c k b (Some r) t p h a = h r a

-- ---- modules

abbrev module_start : Line → Word → Placed
module_start k n = outside k (of.Unit (unit_of.«Module» n))

-- an end in its place
abbrev end_at : Ending → Option Word → Bool → Placed
end_at e n s = placed e.line (of.Unit (unit_end_form e.word e.name)) (differs e.name n) 0 s

end_module_extends : (ms : List Module) (k : Line) (n : Word) (s : Section) (ps : Option (Line × List Subprogram)) (e : Ending) →
    Extends (modules_text ms ++ module_start k n ∷ (section_text s ++ contains_text ps)) (end_at e (Some n) true)
    (end_module ms k n s ps e)
end_module_extends ms k n s ps e =
    let b = may_end word.«Module» true e.word e.name && is_filled ps in
    let t = modules_text ms ++ module_start k n ∷ (section_text s ++ contains_text ps) in
    let m : Module = record { line = k; name = n; section = s; procedures = ps; end = e } in
    by_test (λ x. b ≡ x → Extends t (end_at e (Some n) true) (if x then state.Goes (ms ++ m ∷ []) place.Start else state.Stops)) b
    (λ is _. append-nil (modules_text (ms ++ m ∷ [])) ∙ modules_snoc ms m
    ∙ ap (λ z. modules_text ms ++ module_start k n ∷ z)
    (sym (append_assoc (section_text s) (contains_text ps) (end_at e (Some n) b ∷ [])))
    ∙ sym (append_assoc (modules_text ms) (module_start k n ∷ (section_text s ++ contains_text ps)) (end_at e (Some n) b ∷ []))
    ∙ ap (λ x. t ++ end_at e (Some n) x ∷ []) is)
    (λ _ _. tt) refl

-- without CONTAINS
end_module_here : (ms : List Module) (k : Line) (n : Word) (s : Section) (e : Ending) →
    Extends (modules_text ms ++ module_start k n ∷ section_text s) (end_at e (Some n) true) (end_module ms k n s None e)
end_module_here ms k n s e =
    subst (λ z. Extends (modules_text ms ++ module_start k n ∷ z) (end_at e (Some n) true) (end_module ms k n s None e))
    (append-nil (section_text s)) (end_module_extends ms k n s None e)

module_section : (ms : List Module) (k : Line) (n : Word) (s : Section) (o : Option Section) (p : Placed) → SectionAdds s p o →
    Extends (modules_text ms ++ module_start k n ∷ section_text s) p (into (λ s. state.Goes ms (place.«Module» k n s)) o)
module_section ms k n s o p a = section_extends (λ s. state.Goes ms (place.«Module» k n s)) s o _ p
    (λ r h. ap (λ z. modules_text ms ++ module_start k n ∷ z) h
    ∙ sym (append_assoc (modules_text ms) (module_start k n ∷ section_text s) (p ∷ []))) a

module_unit_extends : (ms : List Module) (k : Line) (n : Word) (s : Section) (l : Line) (u : UnitForm) →
    Extends (modules_text ms ++ module_start k n ∷ section_text s) (marked l (of.Unit u) (Some n) 0) (module_unit_move ms k n s l u)
module_unit_extends ms k n s l unit_of.Contains =
    sym (append_assoc (modules_text ms) (module_start k n ∷ section_text s) (outside l (of.Unit unit_of.Contains) ∷ []))
module_unit_extends ms k n s l unit_of.End = end_module_here ms k n s (ending l None None)
module_unit_extends ms k n s l (unit_of.EndUnit w m) = end_module_here ms k n s (ending l (Some w) m)
module_unit_extends ms k n s l (unit_of.Use m only) = module_section ms k n s (section_unit_move s l (unit_of.Use m only))
    (outside l (of.Unit (unit_of.Use m only))) (section_unit_adds s l (unit_of.Use m only))
module_unit_extends ms k n s l unit_of.ImplicitNone = module_section ms k n s (section_unit_move s l unit_of.ImplicitNone)
    (outside l (of.Unit unit_of.ImplicitNone)) (section_unit_adds s l unit_of.ImplicitNone)
module_unit_extends ms k n s l (unit_of.Program _) = tt
module_unit_extends ms k n s l (unit_of.«Module» _) = tt
module_unit_extends ms k n s l (unit_of.Procedure _) = tt

module_extends : (ms : List Module) (k : Line) (n : Word) (s : Section) (l : Line) (f : Form) →
    Extends (modules_text ms ++ module_start k n ∷ section_text s) (marked l f (Some n) 0) (module_move ms k n s l f)
module_extends ms k n s l (of.Unit u) = module_unit_extends ms k n s l u
module_extends ms k n s l (of.Declaration d) = module_section ms k n s (section_move s l (of.Declaration d))
    (outside l (of.Declaration d)) (declaration_adds s l d)
module_extends ms k n s l (of.Block b) = tt
module_extends ms k n s l (of.Action a) = tt
module_extends ms k n s l (of.If e a) = tt

-- ---- the main program

-- the text of a main program up to its statements, and these
abbrev main_so_far : List Module → Option (Line × Word) → Section → Text → Text
main_so_far ms o s t = modules_text ms ++ (program_text o ++ (section_text s ++ t))

-- a statement behind all of it
main_behind : (ms : List Module) (o : Option (Line × Word)) (s : Section) (t : Text) (p : Placed) →
    main_so_far ms o s (t ++ p ∷ []) ≡ main_so_far ms o s t ++ p ∷ []
main_behind ms o s t p =
    ap (λ z. modules_text ms ++ (program_text o ++ z)) (sym (append_assoc (section_text s) t (p ∷ [])))
    ∙ ap (λ z. modules_text ms ++ z) (sym (append_assoc (program_text o) (section_text s ++ t) (p ∷ [])))
    ∙ sym (append_assoc (modules_text ms) (program_text o ++ (section_text s ++ t)) (p ∷ []))

end_main_extends : (ms : List Module) (o : Option (Line × Word)) (s : Section) (ps : Option (Line × List Subprogram)) (e : Ending)
    (xs : List Statement) →
    Extends (main_so_far ms o s (statements_text xs in_main ++ contains_text ps)) (end_at e (program_name o) true)
    (end_main ms o s ps e xs)
end_main_extends ms o s ps e xs =
    let b = may_end word.Program true e.word e.name && is_filled ps in
    let t = statements_text xs in_main ++ contains_text ps in
    by_test (λ x. b ≡ x → Extends (main_so_far ms o s t) (end_at e (program_name o) true)
    (if x then state.Ended
    (record { modules = ms; main = record { opening = o; section = s; body = xs; procedures = ps; end = e } }) else
    state.Stops)) b
    (λ is _. ap (λ z. main_so_far ms o s z)
    (sym (append_assoc (statements_text xs in_main) (contains_text ps) (end_at e (program_name o) b ∷ [])))
    ∙ main_behind ms o s t (end_at e (program_name o) b)
    ∙ ap (λ x. main_so_far ms o s t ++ end_at e (program_name o) x ∷ []) is)
    (λ _ _. tt) refl

-- an END that closes the program, without CONTAINS
end_main_here : (ms : List Module) (o : Option (Line × Word)) (s : Section) (b : Body) (l : Line) (w : Option UnitWord)
    (m : Option Word) (u : UnitForm) →
    unit_end_form w m ≡ u → unit_end_name u ≡ m →
    Extends (main_so_far ms o s (body_text in_main b)) (marked l (of.Unit u) (body_name b (program_name o)) (body_depth in_main b))
    (into (end_main ms o s None (ending l w m)) (done_of b))
end_main_here ms o s b l w m u is named = at_done in_main b.outer b.inner (program_name o) (end_main ms o s None (ending l w m))
    (main_so_far ms o s)
    (λ n d. marked l (of.Unit u) n d) (λ xs.
    subst (λ z. Extends (main_so_far ms o s z) (marked l (of.Unit u) (program_name o) 0) (end_main ms o s None (ending l w m) xs))
    (append-nil (statements_text xs in_main))
    (subst (λ p. Extends (main_so_far ms o s (statements_text xs in_main ++ [])) p (end_main ms o s None (ending l w m) xs))
    (ap (λ v. placed l (of.Unit v) (differs m (program_name o)) 0 true) is
    ∙ ap (λ v. placed l (of.Unit u) (differs v (program_name o)) 0 true) (sym named))
    (end_main_extends ms o s None (ending l w m) xs)))

main_section : (ms : List Module) (o : Option (Line × Word)) (s : Section) (b : Body) (r : Option Section) (l : Line) (f : Form) →
    SectionAdds s (outside l f) r → (q : ℕ → Placed) → q 0 ≡ outside l f →
    Extends (main_so_far ms o s (body_text in_main b)) (q (body_depth in_main b))
    (before_body b (λ s. state.Goes ms (place.Main o s b)) r)
main_section ms o s b r l f a q is = at_empty in_main b.outer b.inner (λ b s. state.Goes ms (place.Main o s b)) r
    (main_so_far ms o s) q
    (subst (λ p. Extends (main_so_far ms o s []) p (into (λ s. state.Goes ms (place.Main o s no_body)) r)) (sym is)
    (section_extends (λ s. state.Goes ms (place.Main o s no_body)) s r _ (outside l f)
    (λ x h. ap (λ z. modules_text ms ++ (program_text o ++ z)) (append-nil (section_text x) ∙ h)
    ∙ main_behind ms o s [] (outside l f)) a))

main_body : (ms : List Module) (o : Option (Line × Word)) (s : Section) (b : Body) (l : Line) (f : Form) →
    Extends (main_so_far ms o s (body_text in_main b)) (marked l f (body_name b (program_name o)) (body_depth in_main b))
    (into (λ b. state.Goes ms (place.Main o s b)) (body_move in_main b l f))
main_body ms o s b l f = body_extends in_main (λ b. state.Goes ms (place.Main o s b)) b (body_move in_main b l f) _ _
    (λ r h. ap (main_so_far ms o s) h ∙ main_behind ms o s (body_text in_main b) _) (body_adds in_main b l f (program_name o))

main_unit_extends : (ms : List Module) (o : Option (Line × Word)) (s : Section) (b : Body) (l : Line) (u : UnitForm) →
    Extends (main_so_far ms o s (body_text in_main b)) (marked l (of.Unit u) (body_name b (program_name o)) (body_depth in_main b))
    (main_unit_move ms o s b l u)
main_unit_extends ms o s b l unit_of.Contains = at_done in_main b.outer b.inner (program_name o) _ (main_so_far ms o s)
    (λ n d. marked l (of.Unit unit_of.Contains) n d)
    (λ xs. main_behind ms o s (statements_text xs in_main) (outside l (of.Unit unit_of.Contains)))
main_unit_extends ms o s b l unit_of.End = end_main_here ms o s b l None None unit_of.End refl refl
main_unit_extends ms o s b l (unit_of.EndUnit w m) = end_main_here ms o s b l (Some w) m (unit_of.EndUnit w m) refl refl
main_unit_extends ms o s b l (unit_of.Use m only) = main_section ms o s b (section_unit_move s l (unit_of.Use m only)) l
    (of.Unit (unit_of.Use m only)) (section_unit_adds s l (unit_of.Use m only))
    (λ d. placed l (of.Unit (unit_of.Use m only)) false d true) refl
main_unit_extends ms o s b l unit_of.ImplicitNone = main_section ms o s b (section_unit_move s l unit_of.ImplicitNone) l
    (of.Unit unit_of.ImplicitNone) (section_unit_adds s l unit_of.ImplicitNone)
    (λ d. placed l (of.Unit unit_of.ImplicitNone) false d true) refl
main_unit_extends ms o s b l (unit_of.Program n) = main_section ms o s b None l (of.Unit (unit_of.Program n)) tt
    (λ d. placed l (of.Unit (unit_of.Program n)) false d true) refl
main_unit_extends ms o s b l (unit_of.«Module» n) = main_section ms o s b None l (of.Unit (unit_of.«Module» n)) tt
    (λ d. placed l (of.Unit (unit_of.«Module» n)) false d true) refl
main_unit_extends ms o s b l (unit_of.Procedure n) = main_section ms o s b None l (of.Unit (unit_of.Procedure n)) tt
    (λ d. placed l (of.Unit (unit_of.Procedure n)) false d true) refl

main_extends : (ms : List Module) (o : Option (Line × Word)) (s : Section) (b : Body) (l : Line) (f : Form) →
    Extends (main_so_far ms o s (body_text in_main b)) (marked l f (body_name b (program_name o)) (body_depth in_main b))
    (main_move ms o s b l f)
main_extends ms o s b l (of.Unit u) = main_unit_extends ms o s b l u
main_extends ms o s b l (of.Declaration d) = main_section ms o s b (section_move s l (of.Declaration d)) l (of.Declaration d)
    (declaration_adds s l d) (λ n. placed l (of.Declaration d) false n true) refl
main_extends ms o s b l (of.Block k) = main_body ms o s b l (of.Block k)
main_extends ms o s b l (of.Action a) = main_body ms o s b l (of.Action a)
main_extends ms o s b l (of.If e a) = main_body ms o s b l (of.If e a)

-- ---- the start

start_unit_extends : (ms : List Module) (l : Line) (u : UnitForm) →
    Extends (modules_text ms ++ []) (marked l (of.Unit u) None 0) (start_unit_move ms l u)
start_unit_extends ms l (unit_of.«Module» n) = sym (append_assoc (modules_text ms) [] _)
start_unit_extends ms l (unit_of.Program n) = sym (append_assoc (modules_text ms) [] _)
start_unit_extends ms l unit_of.Contains = main_unit_extends ms None no_section no_body l unit_of.Contains
start_unit_extends ms l unit_of.End = main_unit_extends ms None no_section no_body l unit_of.End
start_unit_extends ms l (unit_of.EndUnit w m) = main_unit_extends ms None no_section no_body l (unit_of.EndUnit w m)
start_unit_extends ms l (unit_of.Use m only) = main_unit_extends ms None no_section no_body l (unit_of.Use m only)
start_unit_extends ms l unit_of.ImplicitNone = main_unit_extends ms None no_section no_body l unit_of.ImplicitNone
start_unit_extends ms l (unit_of.Procedure p) = tt

start_extends : (ms : List Module) (l : Line) (f : Form) → Extends (modules_text ms ++ []) (marked l f None 0) (start_move ms l f)
start_extends ms l (of.Unit u) = start_unit_extends ms l u
start_extends ms l (of.Declaration d) = main_extends ms None no_section no_body l (of.Declaration d)
start_extends ms l (of.Block k) = main_body ms None no_section no_body l (of.Block k)
start_extends ms l (of.Action a) = main_body ms None no_section no_body l (of.Action a)
start_extends ms l (of.If e a) = main_body ms None no_section no_body l (of.If e a)

-- ---- procedures

end_host_extends : (ms : List Module) (h : Host) (e : Ending) →
    Extends (modules_text ms ++ host_text h) (end_at e (host_name h) true) (end_host ms h e)
end_host_extends ms (host.«Module» l n s k ps) e = end_module_extends ms l n s (Some (k, ps)) e
end_host_extends ms (host.Main o s xs k ps) e = end_main_extends ms o s (Some (k, ps)) e xs

contains_unit_extends : (ms : List Module) (h : Host) (l : Line) (u : UnitForm) →
    Extends (modules_text ms ++ host_text h) (marked l (of.Unit u) (host_name h) 0) (contains_unit_move ms h l u)
contains_unit_extends ms h l (unit_of.Procedure p) =
    sym (append_assoc (modules_text ms) (host_text h) (outside l (of.Unit (unit_of.Procedure p)) ∷ []))
contains_unit_extends ms h l unit_of.End = end_host_extends ms h (ending l None None)
contains_unit_extends ms h l (unit_of.EndUnit w m) = end_host_extends ms h (ending l (Some w) m)
contains_unit_extends ms h l _ = tt

contains_extends : (ms : List Module) (h : Host) (l : Line) (f : Form) →
    Extends (modules_text ms ++ host_text h) (marked l f (host_name h) 0) (contains_move ms h l f)
contains_extends ms h l (of.Unit u) = contains_unit_extends ms h l u
contains_extends ms h l (of.Declaration d) = tt
contains_extends ms h l (of.Block k) = tt
contains_extends ms h l (of.Action a) = tt
contains_extends ms h l (of.If e a) = tt

abbrev procedure_so_far : List Module → Host → Line → Procedure → Section → Text → Text
procedure_so_far ms h k p s t =
    modules_text ms ++ (host_text h ++ outside k (of.Unit (unit_of.Procedure p)) ∷ (section_text s ++ t))

procedure_behind : (ms : List Module) (h : Host) (k : Line) (p : Procedure) (s : Section) (t : Text) (q : Placed) →
    procedure_so_far ms h k p s (t ++ q ∷ []) ≡ procedure_so_far ms h k p s t ++ q ∷ []
procedure_behind ms h k p s t q =
    let o = outside k (of.Unit (unit_of.Procedure p)) in
    ap (λ z. modules_text ms ++ (host_text h ++ o ∷ z)) (sym (append_assoc (section_text s) t (q ∷ [])))
    ∙ ap (λ z. modules_text ms ++ z) (sym (append_assoc (host_text h) (o ∷ (section_text s ++ t)) (q ∷ [])))
    ∙ sym (append_assoc (modules_text ms) (host_text h ++ o ∷ (section_text s ++ t)) (q ∷ []))

-- a procedure more behind CONTAINS
more_procedures_text : (h : Host) (p : Subprogram) → host_text (more_procedures h p) ≡ host_text h ++ subprogram_text p
more_procedures_text (host.«Module» l n s k ps) p =
    let c = outside k (of.Unit unit_of.Contains) in
    ap (λ z. module_start l n ∷ (section_text s ++ c ∷ z)) (subprograms_snoc ps p)
    ∙ ap (λ z. module_start l n ∷ z) (sym (append_assoc (section_text s) (c ∷ subprograms_text ps) (subprogram_text p)))
more_procedures_text (host.Main o s xs k ps) p =
    let c = outside k (of.Unit unit_of.Contains) in let x = statements_text xs in_main in
    ap (λ z. program_text o ++ (section_text s ++ (x ++ c ∷ z))) (subprograms_snoc ps p)
    ∙ ap (λ z. program_text o ++ (section_text s ++ z)) (sym (append_assoc x (c ∷ subprograms_text ps) (subprogram_text p)))
    ∙ ap (λ z. program_text o ++ z) (sym (append_assoc (section_text s) (x ++ c ∷ subprograms_text ps) (subprogram_text p)))
    ∙ sym (append_assoc (program_text o) (section_text s ++ (x ++ c ∷ subprograms_text ps)) (subprogram_text p))

end_procedure_extends : (ms : List Module) (h : Host) (k : Line) (p : Procedure) (s : Section) (e : Ending) (xs : List Statement) →
    Extends (procedure_so_far ms h k p s (statements_text xs in_procedure)) (end_at e (Some (heading_name p.heading)) true)
    (end_procedure ms h k p s e xs)
end_procedure_extends ms h k p s e xs =
    let b = may_end (heading_word p.heading) false e.word e.name in
    let t = statements_text xs in_procedure in let n = Some (heading_name p.heading) in
    let x : Subprogram = record { line = k; procedure = p; section = s; body = xs; end = e } in
    by_test (λ y. b ≡ y → Extends (procedure_so_far ms h k p s t) (end_at e n true)
    (if y then state.Goes ms (place.Contains (more_procedures h x)) else state.Stops)) b
    (λ is _. ap (λ z. modules_text ms ++ z) (more_procedures_text h x)
    ∙ procedure_behind ms h k p s t (end_at e n (b && true))
    ∙ ap (λ y. procedure_so_far ms h k p s t ++ end_at e n y ∷ []) (and-true b ∙ is))
    (λ _ _. tt) refl

procedure_section : (ms : List Module) (h : Host) (k : Line) (p : Procedure) (s : Section) (b : Body) (r : Option Section)
    (l : Line) (f : Form) →
    SectionAdds s (outside l f) r → (q : ℕ → Placed) → q 0 ≡ outside l f →
    Extends (procedure_so_far ms h k p s (body_text in_procedure b)) (q (body_depth in_procedure b))
    (before_body b (λ s. state.Goes ms (place.Procedure h k p s b)) r)
procedure_section ms h k p s b r l f a q is = at_empty in_procedure b.outer b.inner
    (λ b s. state.Goes ms (place.Procedure h k p s b)) r (procedure_so_far ms h k p s) q
    (subst (λ z. Extends (procedure_so_far ms h k p s []) z (into (λ s. state.Goes ms (place.Procedure h k p s no_body)) r))
    (sym is)
    (section_extends (λ s. state.Goes ms (place.Procedure h k p s no_body)) s r _ (outside l f)
    (λ x e. ap (λ z. modules_text ms ++ (host_text h ++ outside k (of.Unit (unit_of.Procedure p)) ∷ z))
    (append-nil (section_text x) ∙ e)
    ∙ procedure_behind ms h k p s [] (outside l f)) a))

procedure_body : (ms : List Module) (h : Host) (k : Line) (p : Procedure) (s : Section) (b : Body) (l : Line) (f : Form) →
    Extends (procedure_so_far ms h k p s (body_text in_procedure b))
    (marked l f (body_name b (Some (heading_name p.heading))) (body_depth in_procedure b))
    (into (λ b. state.Goes ms (place.Procedure h k p s b)) (body_move in_procedure b l f))
procedure_body ms h k p s b l f = body_extends in_procedure (λ b. state.Goes ms (place.Procedure h k p s b)) b
    (body_move in_procedure b l f) _ _
    (λ r e. ap (procedure_so_far ms h k p s) e ∙ procedure_behind ms h k p s (body_text in_procedure b) _)
    (body_adds in_procedure b l f (Some (heading_name p.heading)))

procedure_unit_extends : (ms : List Module) (h : Host) (k : Line) (p : Procedure) (s : Section) (b : Body) (l : Line) (u : UnitForm)
    →
    Extends (procedure_so_far ms h k p s (body_text in_procedure b))
    (marked l (of.Unit u) (body_name b (Some (heading_name p.heading))) (body_depth in_procedure b))
    (procedure_unit_move ms h k p s b l u)
procedure_unit_extends ms h k p s b l (unit_of.EndUnit w m) =
    at_done in_procedure b.outer b.inner (Some (heading_name p.heading)) (end_procedure ms h k p s (ending l (Some w) m))
    (procedure_so_far ms h k p s) (λ n d. marked l (of.Unit (unit_of.EndUnit w m)) n d)
    (λ xs. end_procedure_extends ms h k p s (ending l (Some w) m) xs)
procedure_unit_extends ms h k p s b l (unit_of.Use m only) =
    procedure_section ms h k p s b (section_unit_move s l (unit_of.Use m only)) l (of.Unit (unit_of.Use m only))
    (section_unit_adds s l (unit_of.Use m only)) (λ d. placed l (of.Unit (unit_of.Use m only)) false d true) refl
procedure_unit_extends ms h k p s b l unit_of.ImplicitNone =
    procedure_section ms h k p s b (section_unit_move s l unit_of.ImplicitNone) l (of.Unit unit_of.ImplicitNone)
    (section_unit_adds s l unit_of.ImplicitNone) (λ d. placed l (of.Unit unit_of.ImplicitNone) false d true) refl
procedure_unit_extends ms h k p s b l unit_of.Contains = procedure_section ms h k p s b None l (of.Unit unit_of.Contains) tt
    (λ d. placed l (of.Unit unit_of.Contains) false d true) refl
procedure_unit_extends ms h k p s b l unit_of.End = procedure_section ms h k p s b None l (of.Unit unit_of.End) tt
    (λ d. placed l (of.Unit unit_of.End) false d true) refl
procedure_unit_extends ms h k p s b l (unit_of.Program n) = procedure_section ms h k p s b None l (of.Unit (unit_of.Program n)) tt
    (λ d. placed l (of.Unit (unit_of.Program n)) false d true) refl
procedure_unit_extends ms h k p s b l (unit_of.«Module» n) =
    procedure_section ms h k p s b None l (of.Unit (unit_of.«Module» n)) tt
    (λ d. placed l (of.Unit (unit_of.«Module» n)) false d true) refl
procedure_unit_extends ms h k p s b l (unit_of.Procedure n) =
    procedure_section ms h k p s b None l (of.Unit (unit_of.Procedure n)) tt
    (λ d. placed l (of.Unit (unit_of.Procedure n)) false d true) refl

procedure_extends : (ms : List Module) (h : Host) (k : Line) (p : Procedure) (s : Section) (b : Body) (l : Line) (f : Form) →
    Extends (procedure_so_far ms h k p s (body_text in_procedure b))
    (marked l f (body_name b (Some (heading_name p.heading))) (body_depth in_procedure b)) (procedure_move ms h k p s b l f)
procedure_extends ms h k p s b l (of.Unit u) = procedure_unit_extends ms h k p s b l u
procedure_extends ms h k p s b l (of.Declaration d) = procedure_section ms h k p s b (section_move s l (of.Declaration d)) l
    (of.Declaration d) (declaration_adds s l d) (λ n. placed l (of.Declaration d) false n true) refl
procedure_extends ms h k p s b l (of.Block x) = procedure_body ms h k p s b l (of.Block x)
procedure_extends ms h k p s b l (of.Action a) = procedure_body ms h k p s b l (of.Action a)
procedure_extends ms h k p s b l (of.If e a) = procedure_body ms h k p s b l (of.If e a)

-- one statement more in a source
pub extends : (ms : List Module) (q : Place) (l : Line) (f : Form) →
    Extends (state_text (state.Goes ms q)) (mark q l f) (move (state.Goes ms q) l f)
extends ms place.Start l f = start_extends ms l f
extends ms (place.«Module» k n s) l f = module_extends ms k n s l f
extends ms (place.Main o s b) l f = main_extends ms o s b l f
extends ms (place.Contains h) l f = contains_extends ms h l f
extends ms (place.Procedure h k p s b) l f = procedure_extends ms h k p s b l f
