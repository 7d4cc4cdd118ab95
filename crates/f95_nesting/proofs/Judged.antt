-- What is broken along the run is what the rules say.
use Rattle.std.proofs.Common.{◌≡◌, ℕ, ◌+◌, Bool, true, false, List, [], ◌∷◌, ◌++◌, sym, ◌∙◌, ap, subst, refl, append_assoc, inl}
use Rattle.std.proofs.Common.{inr, nat_lt}
use Rattle.std.specs.Prelude.{◌⊎◌}
use Rattle.std.proofs.lemmas.Bool.{ltb-true, lt-ltb}
use Rattle.a95_base.specs.Lists.{Member}
use Rattle.a95_base.specs.Rules.{wrong_nesting, wrong_construct_name, too_many_blocks, no_end}
use Rattle.f95_tree.specs.declared.source.Source.{Source}
use Rattle.f95_nesting.specs.declared.open.State.{State}
use Rattle.f95_nesting.specs.declared.open.State.TheVariants as state
use Rattle.f95_nesting.specs.Placed.{Placed, Text}
use Rattle.f95_nesting.specs.Nesting.{Lined, bare, forms_of, Nests, Begins, Stands, IsBroken, no_nesting, wrong_name, many_blocks}
use Rattle.f95_nesting.specs.Nesting.{unended, most_blocks}
use Rattle.f95_nesting.specs.Machine.{move, run, start, mark, mark_of}
use Rattle.a95_base.specs.declared.breaks.Break.{Break}
use Rattle.a95_base.specs.Breaks.{broken_at, noted}
use Rattle.a95_base.proofs.Lists.{Member-append_left, Member-append_right, Member-append_cases}
use Rattle.a95_base.proofs.First.{noted_here}
use Rattle.f95_nesting.proofs.Again.{forms_append}
use Rattle.f95_nesting.specs.Breaks.{place_breaks, then_breaks, step_breaks, passed, end_breaks, breaks}
use Rattle.f95_nesting.proofs.Complete.{run_append}
use Rattle.f95_nesting.proofs.Sources.{stops_stay}
use Rattle.f95_nesting.proofs.Exact.{marks, bare_mark, forms_marks, text_read, nests_read, read_nests, going_begins, ended_begins}
use Rattle.f95_nesting.proofs.Exact.{stopped_begins_none, unstopped_begins}

-- ---- lists

either : {A B C : Type 0} → (A → C) → (B → C) → A ⊎ B → C
either f g (inl a) = f a
either f g (inr b) = g b

-- ---- runs in two parts

marks_append : (xs ys : List Lined) (s : State) → marks s (xs ++ ys) ≡ marks s xs ++ marks (run s xs) ys
marks_append [] ys s = refl
marks_append (x ∷ xs) ys s = ap (λ z. mark_of s x.0 x.1 ∷ z) (marks_append xs ys (move s x.0 x.1))

passed_append : (xs ys : List Lined) (s : State) → passed s (xs ++ ys) ≡ passed s xs ++ passed (run s xs) ys
passed_append [] ys s = refl
passed_append (x ∷ xs) ys s = ap (λ z. step_breaks s x ++ z) (passed_append xs ys (move s x.0 x.1))
    ∙ sym (append_assoc (step_breaks s x) (passed (move s x.0 x.1) xs) (passed (run (move s x.0 x.1) xs) ys))

-- ---- what is broken along the run is broken

-- a statement that was read stands in its place
stands_read : (before : List Lined) (f : Lined) (after : List Lined) → Begins (before ++ f ∷ []) →
    Stands (before ++ f ∷ after) (mark_of (run start before) f.0 f.1)
stands_read before f after b =
    let more = (before ++ f ∷ []) ++ b.more in
    let is : more ≡ before ++ f ∷ b.more = append_assoc before (f ∷ []) b.more in
    let read = nests_read more b.source b.nests in
    record {
      source = b.source;
      before = marks start before;
      behind = marks (move (run start before) f.0 f.1) b.more;
      after = after;
      text = text_read more b.source read ∙ ap (marks start) is ∙ marks_append before (f ∷ b.more) start;
      stand = b.nests.stand;
      forms_are = ap (λ z. z ++ f ∷ after) (sym (forms_marks before start))
          ∙ ap (λ z. forms_of (marks start before) ++ z ∷ after) (sym (bare_mark (run start before) f.0 f.1));
    }

-- one rule of a statement that was read
noted_broken : (forms : List Lined) (feeds : ℕ) (t : Bool) (b c : Break) → (t ≡ true → IsBroken forms feeds b.line b.rule) →
    Member (noted t b) c → IsBroken forms feeds c.line c.rule
noted_broken forms feeds true b c h (inl e) = subst (λ (z : Break). IsBroken forms feeds z.line z.rule) e (h refl)
noted_broken forms feeds true b c h (inr m) = absurd m
noted_broken forms feeds false b c h m = absurd m

line_of : (s : State) (f : Lined) → (mark_of s f.0 f.1).line ≡ f.0
line_of s f = ap (λ (z : Lined). z.0) (bare_mark s f.0 f.1)

place_broken : (forms : List Lined) (feeds : ℕ) (p : Placed) (c : Break) → Stands forms p → Member (place_breaks p) c →
    IsBroken forms feeds c.line c.rule
place_broken forms feeds p c st m =
    either (λ n. noted_broken forms feeds p.misnamed (broken_at p.line.0 wrong_construct_name) c (λ h. wrong_name p st h) n)
    (λ n. noted_broken forms feeds (nat_lt most_blocks p.depth) (broken_at p.line.0 too_many_blocks) c
    (λ h. many_blocks p st (ltb-true most_blocks p.depth h)) n)
    (Member-append_cases (noted p.misnamed (broken_at p.line.0 wrong_construct_name))
    (noted (nat_lt most_blocks p.depth) (broken_at p.line.0 too_many_blocks)) c m)

-- the state behind a statement more
run_more : (before : List Lined) (f : Lined) (s r : State) → run start before ≡ s → move s f.0 f.1 ≡ r →
    run start (before ++ f ∷ []) ≡ r
run_more before f s r is moves = run_append before (f ∷ []) start ∙ ap (λ z. move z f.0 f.1) is ∙ moves

begins_before : (before : List Lined) (s : State) → run start before ≡ s → (s ≡ state.Stops → ⊥) → Begins before
begins_before before s is goes = unstopped_begins before (λ stops. goes (sym is ∙ stops))

then_broken : (before : List Lined) (f : Lined) (after : List Lined) (feeds : ℕ) (s r : State) (c : Break) → run start before ≡ s →
    move s f.0 f.1 ≡ r → (s ≡ state.Stops → ⊥) →
    Member (then_breaks (mark_of s f.0 f.1) r) c → IsBroken (before ++ f ∷ after) feeds c.line c.rule
then_broken before f after feeds s (state.Goes ms p) c is moves goes m =
    place_broken (before ++ f ∷ after) feeds (mark_of s f.0 f.1) c
    (subst (λ z. Stands (before ++ f ∷ after) (mark_of z f.0 f.1)) is
    (stands_read before f after (going_begins (before ++ f ∷ []) ms p (run_more before f s _ is moves)))) m
then_broken before f after feeds s (state.Ended x) c is moves goes m =
    place_broken (before ++ f ∷ after) feeds (mark_of s f.0 f.1) c
    (subst (λ z. Stands (before ++ f ∷ after) (mark_of z f.0 f.1)) is
    (stands_read before f after (ended_begins (before ++ f ∷ []) x (run_more before f s _ is moves)))) m
then_broken before f after feeds s state.Stops c is moves goes (inl e) =
    subst (λ (z : Break). IsBroken (before ++ f ∷ after) feeds z.line z.rule) e
    (subst (λ l. IsBroken (before ++ f ∷ after) feeds l.0 wrong_nesting) (sym (line_of s f))
    (no_nesting before f after refl (begins_before before s is goes)
    (stopped_begins_none (before ++ f ∷ []) (run_more before f s state.Stops is moves))))
then_broken before f after feeds s state.Stops c is moves goes (inr m) = absurd m

step_broken : (before : List Lined) (f : Lined) (after : List Lined) (feeds : ℕ) (s : State) (c : Break) → run start before ≡ s →
    Member (step_breaks s f) c → IsBroken (before ++ f ∷ after) feeds c.line c.rule
step_broken before f after feeds (state.Goes ms p) c is m = then_broken before f after feeds (state.Goes ms p)
    (move (state.Goes ms p) f.0 f.1) c is refl (λ e. cc) m
step_broken before f after feeds (state.Ended x) c is m = then_broken before f after feeds (state.Ended x) state.Stops c is refl
    (λ e. cc) m
step_broken before f after feeds state.Stops c is m = absurd m

passed_broken : (rest before : List Lined) (feeds : ℕ) (c : Break) → Member (passed (run start before) rest) c →
    IsBroken (before ++ rest) feeds c.line c.rule
passed_broken [] before feeds c m = absurd m
passed_broken (f ∷ rest) before feeds c m =
    either (λ n. step_broken before f rest feeds (run start before) c refl n)
    (λ n. subst (λ z. IsBroken z feeds c.line c.rule) (append_assoc before (f ∷ []) rest)
    (passed_broken rest (before ++ f ∷ []) feeds c
    (subst (λ z. Member (passed z rest) c) (sym (run_append before (f ∷ []) start)) n)))
    (Member-append_cases (step_breaks (run start before) f) (passed (move (run start before) f.0 f.1) rest) c m)

end_broken : (forms : List Lined) (feeds : ℕ) (s : State) (c : Break) → run start forms ≡ s → Member (end_breaks feeds s) c →
    IsBroken forms feeds c.line c.rule
end_broken forms feeds (state.Goes ms p) c is (inl e) = subst (λ (z : Break). IsBroken forms feeds z.line z.rule) e
    (unended (going_begins forms ms p is) (λ x n. let a : state.Goes ms p ≡ state.Ended x = sym is ∙ nests_read forms x n in cc))
end_broken forms feeds (state.Goes ms p) c is (inr m) = absurd m
end_broken forms feeds (state.Ended x) c is m = absurd m
end_broken forms feeds state.Stops c is m = absurd m

-- what is broken along the run is broken
pub broken_is : (forms : List Lined) (feeds : ℕ) (c : Break) → Member (breaks forms feeds) c → IsBroken forms feeds c.line c.rule
broken_is forms feeds c m =
    either (λ n. passed_broken forms [] feeds c n) (λ n. end_broken forms feeds (run start forms) c refl n)
    (Member-append_cases (passed start forms) (end_breaks feeds (run start forms)) c m)

-- ---- what is broken is broken along the run

-- a break of one statement is one of the run
met : (forms before : List Lined) (f : Lined) (after : List Lined) (feeds : ℕ) (c : Break) → forms ≡ before ++ f ∷ after →
    Member (step_breaks (run start before) f) c → Member (breaks forms feeds) c
met forms before f after feeds c is m =
    Member-append_left (passed start forms) (end_breaks feeds (run start forms)) c
    (subst (λ z. Member z c) (sym (ap (passed start) is ∙ passed_append before (f ∷ after) start))
    (Member-append_right (passed start before) (passed (run start before) (f ∷ after)) c
    (Member-append_left (step_breaks (run start before) f) (passed (move (run start before) f.0 f.1) after) c m)))

stops_noted : (s r : State) (f : Lined) → move s f.0 f.1 ≡ r → (s ≡ state.Stops → ⊥) → r ≡ state.Stops →
    Member (step_breaks s f) (broken_at f.0.0 wrong_nesting)
stops_noted (state.Goes ms p) r f moves goes stops =
    subst (λ z. Member (then_breaks (mark p f.0 f.1) z) (broken_at f.0.0 wrong_nesting)) (sym (moves ∙ stops)) (inl refl)
stops_noted (state.Ended x) r f moves goes stops = inl refl
stops_noted state.Stops r f moves goes stops = absurd (goes refl)

begun_goes : (fs : List Lined) → Begins fs → run start fs ≡ state.Stops → ⊥
begun_goes fs b stops = stopped_begins_none fs stops b

stops_or : (fs : List Lined) (s : State) → run start fs ≡ s → (Begins fs → ⊥) → s ≡ state.Stops
stops_or fs (state.Goes ms p) is none = absurd (none (going_begins fs ms p is))
stops_or fs (state.Ended x) is none = absurd (none (ended_begins fs x is))
stops_or fs state.Stops is none = refl

-- the place of a statement in a text that was read
picked : (t : Text) (s : State) (p : Placed) (behind : Text) → marks s (forms_of (t ++ p ∷ behind)) ≡ t ++ p ∷ behind →
    mark_of (run s (forms_of t)) p.line p.form ≡ p
picked [] s p behind h = cc
picked (q ∷ t) s p behind h = let e : marks (move s q.line q.form) (forms_of (t ++ p ∷ behind)) ≡ t ++ p ∷ behind = cc in
    picked t (move s q.line q.form) p behind e

-- what a statement breaks that doesn't stop the machine
goes_noted : (s r : State) (p : Placed) (c : Break) → move s p.line p.form ≡ r → (r ≡ state.Stops → ⊥) → mark_of s p.line p.form ≡ p
    → Member (place_breaks p) c → Member (step_breaks s (bare p)) c
goes_noted (state.Goes ms q) (state.Goes ns k) p c moves goes is m =
    subst (λ z. Member (then_breaks (mark q p.line p.form) z) c) (sym moves) (subst (λ z. Member (place_breaks z) c) (sym is) m)
goes_noted (state.Goes ms q) (state.Ended x) p c moves goes is m =
    subst (λ z. Member (then_breaks (mark q p.line p.form) z) c) (sym moves) (subst (λ z. Member (place_breaks z) c) (sym is) m)
goes_noted (state.Goes ms q) state.Stops p c moves goes is m = absurd (goes refl)
goes_noted (state.Ended x) r p c moves goes is m = absurd (goes (sym moves))
goes_noted state.Stops r p c moves goes is m = absurd (goes (sym moves))

stands_met : (forms : List Lined) (feeds : ℕ) (p : Placed) (c : Break) → Stands forms p → Member (place_breaks p) c →
    Member (breaks forms feeds) c
stands_met forms feeds p c st m =
    let all = st.before ++ p ∷ st.behind in
    let read = nests_read (forms_of all) st.source (record { printed = ap forms_of st.text; stand = st.stand }) in
    let at = run start (forms_of st.before) in
    let place = picked st.before start p st.behind (sym (text_read (forms_of all) st.source read) ∙ st.text) in
    let ended : run (move at p.line p.form) (forms_of st.behind) ≡ state.Ended st.source =
    sym (run_append (forms_of st.before) (bare p ∷ forms_of st.behind) start)
    ∙ ap (run start) (sym (forms_append st.before (p ∷ st.behind))) ∙ read in
    met forms (forms_of st.before) (bare p) st.after feeds c st.forms_are
    (goes_noted at (move at p.line p.form) p c refl
    (λ stops. let e : state.Stops ≡ state.Ended st.source = sym (stops_stay (forms_of st.behind))
    ∙ ap (λ z. run z (forms_of st.behind)) (sym stops) ∙ ended in cc)
    place m)

goes_at_end : (forms : List Lined) (feeds : ℕ) (s : State) → run start forms ≡ s → Begins forms → ((x : Source) → Nests forms x → ⊥)
    → Member (end_breaks feeds s) (broken_at (feeds + 1) no_end)
goes_at_end forms feeds (state.Goes ms p) is b none = inl refl
goes_at_end forms feeds (state.Ended x) is b none = absurd (none x (read_nests forms x is))
goes_at_end forms feeds state.Stops is b none = absurd (stopped_begins_none forms is b)

-- what is broken is broken along the run
pub is_broken : (forms : List Lined) (feeds line rule : ℕ) → IsBroken forms feeds line rule →
    Member (breaks forms feeds) (broken_at line rule)
is_broken forms feeds line rule (no_nesting before f after is begins none) =
    met forms before f after feeds (broken_at f.0.0 wrong_nesting) is
    (stops_noted (run start before) (move (run start before) f.0 f.1) f refl (begun_goes before begins)
    (stops_or (before ++ f ∷ []) (move (run start before) f.0 f.1) (run_append before (f ∷ []) start) none))
is_broken forms feeds line rule (wrong_name p st h) =
    stands_met forms feeds p (broken_at p.line.0 wrong_construct_name) st
    (Member-append_left (noted p.misnamed (broken_at p.line.0 wrong_construct_name)) _ _
    (noted_here p.misnamed (broken_at p.line.0 wrong_construct_name) h))
is_broken forms feeds line rule (many_blocks p st h) =
    stands_met forms feeds p (broken_at p.line.0 too_many_blocks) st
    (Member-append_right (noted p.misnamed (broken_at p.line.0 wrong_construct_name)) _ _
    (noted_here (nat_lt most_blocks p.depth) (broken_at p.line.0 too_many_blocks) (lt-ltb most_blocks p.depth h)))
is_broken forms feeds line rule (unended begins none) =
    Member-append_right (passed start forms) (end_breaks feeds (run start forms)) (broken_at (feeds + 1) no_end)
    (goes_at_end forms feeds (run start forms) refl begins none)
