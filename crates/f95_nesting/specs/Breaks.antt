-- The rules that are broken along a run of the machine.
use Rattle.std.specs.Prelude.{ℕ, ◌+◌, nat_lt, List, [], ◌∷◌, ◌++◌}
use Rattle.a95_base.specs.declared.breaks.Break.{Break}
use Rattle.a95_base.specs.Breaks.{broken_at, noted}
use Rattle.a95_base.specs.Rules.{wrong_nesting, wrong_construct_name, too_many_blocks, no_end}
use Rattle.f95_nesting.specs.declared.open.State.{State}
use Rattle.f95_nesting.specs.declared.open.State.TheVariants as state
use Rattle.f95_nesting.specs.Placed.{Placed}
use Rattle.f95_nesting.specs.Nesting.{Lined, most_blocks}
use Rattle.f95_nesting.specs.Machine.{move, run, start, mark_of}

-- those of a statement in its place
abbrev pub place_breaks : Placed → List Break
place_breaks p = noted p.misnamed (broken_at p.line.0 wrong_construct_name)
    ++ noted (nat_lt most_blocks p.depth) (broken_at p.line.0 too_many_blocks)

-- those of a statement, by what the machine then is
abbrev pub then_breaks : Placed → State → List Break
then_breaks p (state.Goes _ _) = place_breaks p
then_breaks p (state.Ended _) = place_breaks p
then_breaks p state.Stops = broken_at p.line.0 wrong_nesting ∷ []

-- those of the next statement
abbrev pub step_breaks : State → Lined → List Break
step_breaks (state.Goes ms p) f = then_breaks (mark_of (state.Goes ms p) f.0 f.1) (move (state.Goes ms p) f.0 f.1)
step_breaks (state.Ended s) f = broken_at f.0.0 wrong_nesting ∷ []
step_breaks state.Stops f = []

abbrev pub passed : State → List Lined → List Break
passed s [] = []
passed s (f ∷ fs) = step_breaks s f ++ passed (move s f.0 f.1) fs

-- those at the end of a file with so many line feeds
abbrev pub end_breaks : ℕ → State → List Break
end_breaks feeds (state.Goes _ _) = broken_at (feeds + 1) no_end ∷ []
end_breaks feeds (state.Ended _) = []
end_breaks feeds state.Stops = []

abbrev pub breaks : List Lined → ℕ → List Break
breaks forms feeds = passed start forms ++ end_breaks feeds (run start forms)
