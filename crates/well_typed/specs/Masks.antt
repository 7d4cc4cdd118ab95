-- What masks and headers around an assignment ask of it.
use Rattle.std.specs.Prelude.{ℕ, true, List, ◌++◌, Option, Some, None}
use Rattle.f95_unit.specs.declared.facts.Facts.{Facts}
use Rattle.f95_unit.specs.Plain.{Designator, at, Triplet}
use Rattle.well_typed.specs.Shapes.{Extents, joint}
use Rattle.well_typed.specs.Questions.{Question, Targets}
use Rattle.well_typed.specs.Levels.{levels_in, bound_levels}

-- what is known of the shape of a mask and of those around it
abbrev pub joint_around : Option Extents → Extents → Extents
joint_around None extents = extents
joint_around (Some around) extents = joint around extents

-- the indices that a triplet of a header names
abbrev pub triplet_levels : Triplet → List ℕ
triplet_levels t = levels_in true t.first ++ (levels_in true t.last ++ bound_levels true t.stride)

-- a target of so many indices
abbrev pub fits_indices : ℕ → Facts → Designator → Question
fits_indices n f (at variable access part) = Targets n f access part
