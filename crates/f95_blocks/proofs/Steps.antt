-- What is noted at a step, along a run and at the end, and what it says of the whole.
use Rattle.std.proofs.Common.{◌≡◌, ℕ, Bool, nat_lt, List, [], ◌∷◌, ◌++◌, Some, None, ◌∙◌, ap, refl, sym}
use Rattle.std.proofs.Common.{subst, length, append_assoc, append-nil, arith}
use Rattle.a95_base.specs.declared.source.Line.{Line}
use Rattle.a95_base.specs.declared.source.Rule.{Rule}
use Rattle.a95_base.specs.declared.source.PhaseError.TheVariants.{Broken}
use Rattle.a95_base.specs.declared.breaks.Break.{Break}
use Rattle.a95_base.specs.Breaks.{broken_at, first_of, IsLeast, noted}
use Rattle.a95_base.specs.Rules.{wrong_construct_name, too_many_blocks}
use Rattle.a95_base.proofs.First.{no_break, none_among}
use Rattle.f95_tree.specs.declared.form.Form.{Form}
use Rattle.f95_tree.specs.declared.source.Module.{Module}
use Rattle.f95_nesting.specs.declared.open.Place.{Place}
use Rattle.f95_nesting.specs.declared.open.State.{State}
use Rattle.f95_nesting.specs.declared.open.State.TheVariants as state
use Rattle.f95_nesting.specs.Placed.{Placed, differs}
use Rattle.f95_nesting.specs.Nesting.{Lined, IsBroken, Refuses, most_blocks}
use Rattle.f95_nesting.specs.Machine.{place_move, move, run, start, mark, end_name, depth_at, place_name, place_depth}
use Rattle.f95_nesting.specs.Breaks.{then_breaks, step_breaks, passed, end_breaks, breaks}
use Rattle.f95_blocks.specs.Units.{noted_in_place, noted_of}
use Rattle.f95_nesting.proofs.Judged.{is_broken}
use Rattle.f95_nesting.proofs.Least.{passed_goes, parts_empty, first_noted}

pub noted_both : (bs : List Break) (l : Line) (m d : Bool)
    → (bs ++ noted m (broken_at l.0 wrong_construct_name)) ++ noted d (broken_at l.0 too_many_blocks) ≡ bs ++ noted_in_place l m d
noted_both bs l m d = append_assoc bs (noted m (broken_at l.0 wrong_construct_name)) (noted d (broken_at l.0 too_many_blocks))

noted_as : (p : Placed) (s : State) → then_breaks p s ≡ noted_of p.line p.misnamed (nat_lt most_blocks p.depth) s
noted_as p (state.Goes _ _) = refl
noted_as p (state.Ended _) = refl
noted_as p state.Stops = refl

pub goes_breaks : (ms : List Module) (p : Place) (l : Line) (f : Form) → step_breaks (state.Goes ms p) (l, f)
    ≡ noted_of l (differs (end_name f) (place_name p)) (nat_lt most_blocks (depth_at f (place_depth p))) (place_move ms p l f)
goes_breaks ms p l f = noted_as (mark p l f) (place_move ms p l f)

-- one statement more along a run, and its end
pub run_step : (s : State) (l : List Lined) (f : Lined) (fs : List Lined) → l ≡ f ∷ fs → run s l ≡ run (move s f.0 f.1) fs
run_step s l f fs e = ap (run s) e

pub passed_step : (bs : List Break) (s : State) (l : List Lined) (f : Lined) (fs : List Lined) → l ≡ f ∷ fs
    → bs ++ passed s l ≡ (bs ++ step_breaks s f) ++ passed (move s f.0 f.1) fs
passed_step bs s l f fs e = ap (λ z. bs ++ passed s z) e ∙ sym (append_assoc bs (step_breaks s f) (passed (move s f.0 f.1) fs))

pub run_end : (s : State) (l : List Lined) → length l ≡ 0 → run s l ≡ s
run_end s [] e = refl
run_end s (f ∷ fs) e = absurd (omega arith)

pub passed_end : (bs : List Break) (s : State) (l : List Lined) → length l ≡ 0 → bs ++ passed s l ≡ bs
passed_end bs s [] e = append-nil bs
passed_end bs s (f ∷ fs) e = absurd (omega arith)

goes_ends : (feeds : ℕ) (s : State) → (ms : List Module) (p : Place) → s ≡ state.Goes ms p → end_breaks feeds s ≡ [] → ⊥
goes_ends feeds s ms p is none = let e : end_breaks feeds (state.Goes ms p) ≡ [] =
    ap (end_breaks feeds) (sym is) ∙ none in absurd (cc)

-- where no break is noted, the main program is ended
pub none_goes : (forms : List Lined) (feeds : ℕ) (ms : List Module) (p : Place) → first_of (breaks forms feeds) ≡ None
    → run start forms ≡ state.Goes ms p → ⊥
none_goes forms feeds ms p none is =
    goes_ends feeds (run start forms) ms p is
    (parts_empty (passed start forms) (end_breaks feeds (run start forms)) (no_break (breaks forms feeds) none)).1

pub none_stops : (forms : List Lined) (feeds : ℕ) → first_of (breaks forms feeds) ≡ None → run start forms ≡ state.Stops → ⊥
none_stops forms feeds none is = passed_goes forms start (λ (z : start ≡ state.Stops). absurd (cc))
    (parts_empty (passed start forms) (end_breaks feeds (run start forms)) (no_break (breaks forms feeds) none)).0 is

pub none_broken : (forms : List Lined) (feeds : ℕ) → first_of (breaks forms feeds) ≡ None → (line rule : ℕ)
    → IsBroken forms feeds line rule → ⊥
none_broken forms feeds none line rule h =
    none_among (breaks forms feeds) none (broken_at line rule) (is_broken forms feeds line rule h)

-- the first that is noted is what a refusal names
pub first_refuses : (forms : List Lined) (feeds : ℕ) (f : Break) (l : Line) (r : Rule)
    → first_of (breaks forms feeds) ≡ Some f → l.0 ≡ f.line → r.0 ≡ f.rule → Refuses forms feeds (Broken l r)
first_refuses forms feeds f l r is line rule =
    subst (λ z. IsLeast (IsBroken forms feeds) z r.0) (sym line)
    (subst (λ z. IsLeast (IsBroken forms feeds) f.line z) (sym rule) (first_noted forms feeds f is))
