-- Which variable of its function holds what, by its number. An array has sixteen integers: for each of its dimensions the lower
-- bound and the extent, and the length of its texts. The scalars of the lowering stand behind, then what is free.
use Rattle.std.specs.Prelude.{ℕ, zero, suc, ◌+◌, ◌*◌, length}
use Rattle.nest_tree.specs.declared.access.Name.{Name}
use Rattle.nest_tree.specs.declared.access.Name.TheVariants as name
use Rattle.nest_tree.specs.Plain.{Procedure}

-- arrays are numbered: the declared variables, then the blocks of the lowering; its lists of subscripts come behind
abbrev pub array_number : Procedure → Name → ℕ
array_number q (name.Own n) = n
array_number q (name.Temp t) = length q.variables + t

abbrev pub array_count : Procedure → ℕ
array_count q = length q.variables + length q.blocks + q.lists

-- dimensions are counted from 0
abbrev pub lower_number : ℕ → ℕ → ℕ
lower_number array dim = 16 * array + 2 * dim

abbrev pub extent_number : ℕ → ℕ → ℕ
extent_number array dim = 16 * array + (2 * dim + 1)

abbrev pub length_number : ℕ → ℕ
length_number array = 16 * array + 15

-- a scalar has the same number among the integers and among the texts
abbrev pub scalar_number : Procedure → ℕ → ℕ
scalar_number q k = 16 * array_count q + k

-- what leaves loops further out stands behind the scalars
abbrev pub leaving_number : Procedure → ℕ
leaving_number q = 16 * array_count q + length q.scalars

abbrev pub first_free : Procedure → ℕ
first_free q = suc (leaving_number q)

-- the loops of the innermost of so many nests, each of which has a group of sixteen
abbrev pub loop_number : ℕ → ℕ → ℕ
loop_number zero loop = loop
loop_number (suc nests) loop = 16 * nests + loop
