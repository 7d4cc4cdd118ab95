-- The machine nests exactly what nests, and stops exactly where no nesting begins.
use Rattle.std.proofs.Common.{◌≡◌, true, List, [], ◌∷◌, ◌++◌, sym, ◌∙◌, ap, subst, refl, append_assoc, append-nil}
use Rattle.std.specs.Prelude.{◌&&◌}
use Rattle.a95_base.specs.declared.source.Line.{Line}
use Rattle.f95_tree.specs.declared.form.Form.{Form}
use Rattle.f95_tree.specs.declared.source.Source.{Source}
use Rattle.f95_tree.specs.declared.source.Module.{Module}
use Rattle.f95_nesting.specs.declared.open.Place.{Place}
use Rattle.f95_nesting.specs.declared.open.State.{State}
use Rattle.f95_nesting.specs.declared.open.State.TheVariants as state
use Rattle.f95_nesting.specs.Placed.{Placed, Text, source_text}
use Rattle.f95_nesting.specs.Nesting.{Lined, bare, forms_of, all_stand, Nests, Begins}
use Rattle.f95_nesting.specs.Machine.{move, run, start, mark, mark_of}
use Rattle.f95_nesting.proofs.Opened.{state_text}
use Rattle.f95_nesting.proofs.Units.{Extends, extends}
use Rattle.f95_nesting.proofs.Complete.{completes, run_append}
use Rattle.f95_nesting.proofs.Sources.{again, stops_stay}

-- the places of the statements along a run
abbrev pub marks : State → List Lined → Text
marks s [] = []
marks s (f ∷ fs) = mark_of s f.0 f.1 ∷ marks (move s f.0 f.1) fs

pub bare_mark : (s : State) (l : Line) (f : Form) → bare (mark_of s l f) ≡ (l, f)
bare_mark (state.Goes ms p) l f = refl
bare_mark (state.Ended s) l f = refl
bare_mark state.Stops l f = refl

mark_stands : (s : State) (l : Line) (f : Form) → (mark_of s l f).stands ≡ true
mark_stands (state.Goes ms p) l f = refl
mark_stands (state.Ended s) l f = refl
mark_stands state.Stops l f = refl

pub forms_marks : (fs : List Lined) (s : State) → forms_of (marks s fs) ≡ fs
forms_marks [] s = refl
forms_marks (f ∷ fs) s = ap (λ z. z ∷ forms_of (marks (move s f.0 f.1) fs)) (bare_mark s f.0 f.1)
    ∙ ap (λ z. f ∷ z) (forms_marks fs (move s f.0 f.1))

pub marks_stand : (fs : List Lined) (s : State) → all_stand (marks s fs) ≡ true
marks_stand [] s = refl
marks_stand (f ∷ fs) s = ap (λ z. z && all_stand (marks (move s f.0 f.1) fs)) (mark_stands s f.0 f.1)
    ∙ marks_stand fs (move s f.0 f.1)

-- the state has this text, unless the machine stopped
abbrev pub Has : State → Text → Type 0
Has (state.Goes ms p) t = state_text (state.Goes ms p) ≡ t
Has (state.Ended s) t = source_text s ≡ t
Has state.Stops t = Unit {0}

has_stopped : (fs : List Lined) (t : Text) → Has (run state.Stops fs) t
has_stopped fs t = subst (λ z. Has z t) (sym (stops_stay fs)) tt

has_now : (s : State) → Has s (state_text s ++ [])
has_now (state.Goes ms p) = sym (append-nil (state_text (state.Goes ms p)))
has_now (state.Ended s) = sym (append-nil (source_text s))
has_now state.Stops = tt

-- a statement more, and the rest
has_more : (r : State) (t : Text) (p : Placed) (fs : List Lined) → Extends t p r → Has (run r fs) (state_text r ++ marks r fs) →
    Has (run r fs) (t ++ p ∷ marks r fs)
has_more (state.Goes ms q) t p fs e h = subst (λ z. Has (run (state.Goes ms q) fs) z)
    (ap (λ z. z ++ marks (state.Goes ms q) fs) e ∙ append_assoc t (p ∷ []) (marks (state.Goes ms q) fs)) h
has_more (state.Ended s) t p fs e h = subst (λ z. Has (run (state.Ended s) fs) z)
    (ap (λ z. z ++ marks (state.Ended s) fs) e ∙ append_assoc t (p ∷ []) (marks (state.Ended s) fs)) h
has_more state.Stops t p fs e h = has_stopped fs (t ++ p ∷ marks state.Stops fs)

has_run : (fs : List Lined) (s : State) → Has (run s fs) (state_text s ++ marks s fs)
has_run [] s = has_now s
has_run (f ∷ fs) (state.Goes ms p) = has_more (move (state.Goes ms p) f.0 f.1) (state_text (state.Goes ms p)) (mark p f.0 f.1) fs
    (extends ms p f.0 f.1) (has_run fs (move (state.Goes ms p) f.0 f.1))
has_run (f ∷ fs) (state.Ended s) = has_stopped fs _
has_run (f ∷ fs) state.Stops = has_stopped fs _

-- the text of a source that was read is that of the places along the run
pub text_read : (fs : List Lined) (s : Source) → run start fs ≡ state.Ended s → source_text s ≡ marks start fs
text_read fs s is = subst (λ r. Has r (marks start fs)) is (has_run fs start)

-- what was read nests
pub read_nests : (fs : List Lined) (s : Source) → run start fs ≡ state.Ended s → Nests fs s
read_nests fs s is = let t = text_read fs s is in
    record { printed = ap forms_of t ∙ forms_marks fs start; stand = ap all_stand t ∙ marks_stand fs start }

-- what nests is read
pub nests_read : (fs : List Lined) (s : Source) → Nests fs s → run start fs ≡ state.Ended s
nests_read fs s n = ap (run start) (sym n.printed) ∙ again s n.stand

-- a list of forms nests to at most one source
pub one_nesting : (fs : List Lined) (a b : Source) → Nests fs a → Nests fs b → a ≡ b
one_nesting fs a b m n = let e : state.Ended a ≡ state.Ended b = sym (nests_read fs a m) ∙ nests_read fs b n in cc

-- where the machine goes on, a nesting begins
pub going_begins : (fs : List Lined) (ms : List Module) (p : Place) → run start fs ≡ state.Goes ms p → Begins fs
going_begins fs ms p is = let k = completes ms p in record {
  more = k.forms;
  source = k.source;
  nests = read_nests (fs ++ k.forms) k.source (run_append fs k.forms start ∙ ap (λ z. run z k.forms) is ∙ k.runs);
}

pub ended_begins : (fs : List Lined) (s : Source) → run start fs ≡ state.Ended s → Begins fs
ended_begins fs s is = record { more = []; source = s; nests = read_nests (fs ++ []) s (ap (run start) (append-nil fs) ∙ is) }

-- where it stops, none begins
pub stopped_begins_none : (fs : List Lined) → run start fs ≡ state.Stops → Begins fs → ⊥
stopped_begins_none fs is b =
    let e : state.Stops ≡ state.Ended b.source = sym (stops_stay b.more) ∙ ap (λ z. run z b.more) (sym is)
    ∙ sym (run_append fs b.more start) ∙ nests_read (fs ++ b.more) b.source b.nests in
    absurd (cc)

-- the same, by what the machine has reached
begins_at : (fs : List Lined) (s : State) → run start fs ≡ s → (s ≡ state.Stops → ⊥) → Begins fs
begins_at fs (state.Goes ms p) is goes = going_begins fs ms p is
begins_at fs (state.Ended s) is goes = ended_begins fs s is
begins_at fs state.Stops is goes = absurd (goes refl)

pub unstopped_begins : (fs : List Lined) → (run start fs ≡ state.Stops → ⊥) → Begins fs
unstopped_begins fs goes = begins_at fs (run start fs) refl goes
