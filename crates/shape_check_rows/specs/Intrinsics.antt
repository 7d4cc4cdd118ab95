-- References to intrinsic functions, and what each program breaks.
use Rattle.std.specs.Prelude.{◌≡◌, pos, true, [], ◌∷◌, codes}
use Rattle.a95_base.specs.Breaks.{broken_at}
use Rattle.f95_tree.specs.declared.terminal.Relation.TheVariants as relation
use Rattle.names_types.specs.Plain.{Integer, Logical, Character, Number, Upper, Deferred, Parameter, Allocatable, no_item, plain}
use Rattle.names_types.specs.Plain.{keyword}
use Rattle.names_types_rows.specs.Build.{number, truth, text, name, plus, over, call, constructor, scalar_entity, array_entity}
use Rattle.names_types_rows.specs.Build.{initial_entity, declares}
use Rattle.shape_check.specs.Statements.{Source}
use Rattle.shape_check.specs.Listed.{breaks_of}
use Rattle.shape_check_rows.specs.Build.{minus, compared, from_to, refer, to, at, sets, main}

-- 1 program p
-- 2 integer :: a(2, 3), v(4), i
-- 3 logical :: l(2, 3)
-- 4 character(5) :: s
-- 5 i = max(1, i, 3) + mod(p = 2, a = i) + ichar(s(1:1)) + index(s, 'a') + sum(v)
-- 6 a = merge(a, 0, l) + abs(a) + spread((/ 1, 2 /), 2, 3)
-- 7 v(1:3) = sum(a, 1) + 1
-- 8 v(1:3) = sum(a, 1, l) + spread(maxval(a), 1, 3)
-- 9 i = sum(a, l) + sum(mask = l, array = a) + count(l) + dot_product(v, v)
-- 10 v(1:2) = shape(a) + lbound(a) + maxloc(a, l)
-- 11 i = size(a) + size(a, dim = 2) + len(s) + len_trim(trim(s))
-- 12 a = reshape(v, (/ 2, 3 /), (/ 0 /), (/ 2, 1 /))
-- 13 v = cshift(eoshift(v, 1, 0), i) + pack(a, .true., v)
-- 14 end
abbrev pub good_arguments : Source
good_arguments = main (declares 2 Integer [] (array_entity "a" (Upper (number 2) ∷ Upper (number 3) ∷ []) ∷ array_entity "v"
    (Upper (number 4) ∷ []) ∷ scalar_entity "i" ∷ []) ∷ declares 3 Logical [] (array_entity "l" (Upper (number 2) ∷ Upper
    (number 3) ∷ []) ∷ []) ∷ declares 4 (Character (Number (pos 5))) [] (scalar_entity "s" ∷ []) ∷ []) ((sets 5 (to "i") (plus
    (plus (plus (plus (call "max" ((number 1) ∷ (name "i") ∷ (number 3) ∷ [])) (refer "mod" (keyword (codes "p") (number 2)
    (keyword (codes "a") (name "i") no_item)))) (call "ichar" ((refer "s" (from_to (number 1) (number 1) no_item)) ∷ [])))
    (call "index" ((name "s") ∷ (text "a") ∷ []))) (call "sum" ((name "v") ∷ [])))) ∷ (sets 6 (to "a") (plus (plus (call
    "merge" ((name "a") ∷ (number 0) ∷ (name "l") ∷ [])) (call "abs" ((name "a") ∷ []))) (call "spread" ((constructor ((number
    1) ∷ (number 2) ∷ [])) ∷ (number 2) ∷ (number 3) ∷ [])))) ∷ (sets 7 (at "v" (from_to (number 1) (number 3) no_item)) (plus
    (call "sum" ((name "a") ∷ (number 1) ∷ [])) (number 1))) ∷ (sets 8 (at "v" (from_to (number 1) (number 3) no_item)) (plus
    (call "sum" ((name "a") ∷ (number 1) ∷ (name "l") ∷ [])) (call "spread" ((call "maxval" ((name "a") ∷ [])) ∷ (number 1) ∷
    (number 3) ∷ [])))) ∷ (sets 9 (to "i") (plus (plus (plus (call "sum" ((name "a") ∷ (name "l") ∷ [])) (refer "sum" (keyword
    (codes "mask") (name "l") (keyword (codes "array") (name "a") no_item)))) (call "count" ((name "l") ∷ []))) (call
    "dot_product" ((name "v") ∷ (name "v") ∷ [])))) ∷ (sets 10 (at "v" (from_to (number 1) (number 2) no_item)) (plus (plus
    (call "shape" ((name "a") ∷ [])) (call "lbound" ((name "a") ∷ []))) (call "maxloc" ((name "a") ∷ (name "l") ∷ [])))) ∷
    (sets 11 (to "i") (plus (plus (plus (call "size" ((name "a") ∷ [])) (refer "size" (plain (name "a") (keyword (codes "dim")
    (number 2) no_item)))) (call "len" ((name "s") ∷ []))) (call "len_trim" ((call "trim" ((name "s") ∷ [])) ∷ [])))) ∷ (sets
    12 (to "a") (call "reshape" ((name "v") ∷ (constructor ((number 2) ∷ (number 3) ∷ [])) ∷ (constructor ((number 0) ∷ [])) ∷
    (constructor ((number 2) ∷ (number 1) ∷ [])) ∷ []))) ∷ (sets 13 (to "v") (plus (call "cshift" ((call "eoshift" ((name "v")
    ∷ (number 1) ∷ (number 0) ∷ [])) ∷ (name "i") ∷ [])) (call "pack" ((name "a") ∷ (truth true) ∷ (name "v") ∷ [])))) ∷ [])

abbrev pub GoodArguments : Type 0
GoodArguments = breaks_of good_arguments ≡ []

-- 1 program p
-- 2 integer :: a(2, 3), i
-- 3 character(5) :: s
-- 4 i = abs(.true.)
-- 5 i = max(1)
-- 6 i = sum
-- 7 i = ichar(s) + mod(1, 2, 3)
-- 8 i = mod(1, b = 2)
-- 9 i = mod(a = 1, 2)
-- 10 i = size(i) + sum(1)
-- 11 i = abs(1:2)
-- 12 i = len(1)
-- 13 end
abbrev pub other_arguments : Source
other_arguments = main (declares 2 Integer [] (array_entity "a" (Upper (number 2) ∷ Upper (number 3) ∷ []) ∷ scalar_entity "i"
    ∷ []) ∷ declares 3 (Character (Number (pos 5))) [] (scalar_entity "s" ∷ []) ∷ []) ((sets 4 (to "i") (call "abs" ((truth
    true) ∷ []))) ∷ (sets 5 (to "i") (call "max" ((number 1) ∷ []))) ∷ (sets 6 (to "i") (name "sum")) ∷ (sets 7 (to "i") (plus
    (call "ichar" ((name "s") ∷ [])) (call "mod" ((number 1) ∷ (number 2) ∷ (number 3) ∷ [])))) ∷ (sets 8 (to "i") (refer
    "mod" (plain (number 1) (keyword (codes "b") (number 2) no_item)))) ∷ (sets 9 (to "i") (refer "mod" (keyword (codes "a")
    (number 1) (plain (number 2) no_item)))) ∷ (sets 10 (to "i") (plus (call "size" ((name "i") ∷ [])) (call "sum" ((number 1)
    ∷ [])))) ∷ (sets 11 (to "i") (refer "abs" (from_to (number 1) (number 2) no_item))) ∷ (sets 12 (to "i") (call "len"
    ((number 1) ∷ []))) ∷ [])

abbrev pub OtherArguments : Type 0
OtherArguments = breaks_of other_arguments ≡ broken_at 4 33 ∷ broken_at 5 33 ∷ broken_at 6 33 ∷ broken_at 7 33 ∷ broken_at 7 33
    ∷ broken_at 8 33 ∷ broken_at 9 33 ∷ broken_at 10 33 ∷ broken_at 10 33 ∷ broken_at 11 33 ∷ broken_at 12 33 ∷ []

-- 1 program p
-- 2 integer :: a(2, 3), v(3), i
-- 3 integer, parameter :: n = 3
-- 4 v = sum(a, n)
-- 5 v = sum(a, i)
-- 6 v = sum(a, 0)
-- 7 v = sum(a, 1 / 0)
-- 8 a = spread(v, 3, 2)
-- 9 v = sum(a, n - 2)
-- 10 end
abbrev pub dims : Source
dims = main (declares 2 Integer [] (array_entity "a" (Upper (number 2) ∷ Upper (number 3) ∷ []) ∷ array_entity "v" (Upper
    (number 3) ∷ []) ∷ scalar_entity "i" ∷ []) ∷ declares 3 Integer (Parameter ∷ []) (initial_entity "n" (number 3) ∷ []) ∷
    []) ((sets 4 (to "v") (call "sum" ((name "a") ∷ (name "n") ∷ []))) ∷ (sets 5 (to "v") (call "sum" ((name "a") ∷ (name "i")
    ∷ []))) ∷ (sets 6 (to "v") (call "sum" ((name "a") ∷ (number 0) ∷ []))) ∷ (sets 7 (to "v") (call "sum" ((name "a") ∷ (over
    (number 1) (number 0)) ∷ []))) ∷ (sets 8 (to "a") (call "spread" ((name "v") ∷ (number 3) ∷ (number 2) ∷ []))) ∷ (sets 9
    (to "v") (call "sum" ((name "a") ∷ (minus (name "n") (number 2)) ∷ []))) ∷ [])

abbrev pub Dims : Type 0
Dims = breaks_of dims ≡ broken_at 4 33 ∷ broken_at 5 33 ∷ broken_at 6 33 ∷ broken_at 7 33 ∷ broken_at 8 33 ∷ []

-- 1 program p
-- 2 integer :: a(2, 3), v(4), w(2), b(2, 2)
-- 3 a = max(a, v)
-- 4 a = max(a, a, v)
-- 5 v = pack(v, a == 1)
-- 6 a = unpack(v, a == 1, w)
-- 7 a = merge(a, 1, .true.)
-- 8 end
abbrev pub argument_ranks : Source
argument_ranks = main (declares 2 Integer [] (array_entity "a" (Upper (number 2) ∷ Upper (number 3) ∷ []) ∷ array_entity "v"
    (Upper (number 4) ∷ []) ∷ array_entity "w" (Upper (number 2) ∷ []) ∷ array_entity "b" (Upper (number 2) ∷ Upper (number 2)
    ∷ []) ∷ []) ∷ []) ((sets 3 (to "a") (call "max" ((name "a") ∷ (name "v") ∷ []))) ∷ (sets 4 (to "a") (call "max" ((name
    "a") ∷ (name "a") ∷ (name "v") ∷ []))) ∷ (sets 5 (to "v") (call "pack" ((name "v") ∷ (compared relation.Equal (name "a")
    (number 1)) ∷ []))) ∷ (sets 6 (to "a") (call "unpack" ((name "v") ∷ (compared relation.Equal (name "a") (number 1)) ∷
    (name "w") ∷ []))) ∷ (sets 7 (to "a") (call "merge" ((name "a") ∷ (number 1) ∷ (truth true) ∷ []))) ∷ [])

abbrev pub ArgumentRanks : Type 0
ArgumentRanks = breaks_of argument_ranks ≡ broken_at 3 33 ∷ broken_at 4 33 ∷ broken_at 5 33 ∷ broken_at 6 33 ∷ []

-- 1 program p
-- 2 integer :: a(2, 3), v(4), w(2), b(2, 2)
-- 3 v = max(v, w)
-- 4 v(1) = dot_product(v, w)
-- 5 b = matmul(a, a)
-- 6 v = pack(v, w == 1)
-- 7 v(1) = sum(v, w == 1)
-- 8 b = matmul(a, transpose(a))
-- 9 v(1:2) = matmul(a, v(1:3))
-- 10 end
abbrev pub argument_extents : Source
argument_extents = main (declares 2 Integer [] (array_entity "a" (Upper (number 2) ∷ Upper (number 3) ∷ []) ∷ array_entity "v"
    (Upper (number 4) ∷ []) ∷ array_entity "w" (Upper (number 2) ∷ []) ∷ array_entity "b" (Upper (number 2) ∷ Upper (number 2)
    ∷ []) ∷ []) ∷ []) ((sets 3 (to "v") (call "max" ((name "v") ∷ (name "w") ∷ []))) ∷ (sets 4 (at "v" (plain (number 1)
    no_item)) (call "dot_product" ((name "v") ∷ (name "w") ∷ []))) ∷ (sets 5 (to "b") (call "matmul" ((name "a") ∷ (name "a")
    ∷ []))) ∷ (sets 6 (to "v") (call "pack" ((name "v") ∷ (compared relation.Equal (name "w") (number 1)) ∷ []))) ∷ (sets 7
    (at "v" (plain (number 1) no_item)) (call "sum" ((name "v") ∷ (compared relation.Equal (name "w") (number 1)) ∷ []))) ∷
    (sets 8 (to "b") (call "matmul" ((name "a") ∷ (call "transpose" ((name "a") ∷ [])) ∷ []))) ∷ (sets 9 (at "v" (from_to
    (number 1) (number 2) no_item)) (call "matmul" ((name "a") ∷ (refer "v" (from_to (number 1) (number 3) no_item)) ∷ []))) ∷
    [])

abbrev pub ArgumentExtents : Type 0
ArgumentExtents = breaks_of argument_extents ≡ broken_at 3 32 ∷ broken_at 4 32 ∷ broken_at 5 32 ∷ broken_at 6 32
    ∷ broken_at 7 32 ∷ []

-- 1 program p
-- 2 integer :: a(2, 3), v(4), w(3)
-- 3 v = sum(a, 1)
-- 4 v = shape(a)
-- 5 a = spread(w, 1, 3)
-- 6 a = transpose(a)
-- 7 v = reshape(a, (/ 5 /))
-- 8 w = pack(a, a > 0, v)
-- 9 w = pack(a, a > 0)
-- 10 a = spread(w, 1, 2)
-- 11 w = sum(a, 1)
-- 12 end
abbrev pub results : Source
results = main (declares 2 Integer [] (array_entity "a" (Upper (number 2) ∷ Upper (number 3) ∷ []) ∷ array_entity "v" (Upper
    (number 4) ∷ []) ∷ array_entity "w" (Upper (number 3) ∷ []) ∷ []) ∷ []) ((sets 3 (to "v") (call "sum" ((name "a") ∷
    (number 1) ∷ []))) ∷ (sets 4 (to "v") (call "shape" ((name "a") ∷ []))) ∷ (sets 5 (to "a") (call "spread" ((name "w") ∷
    (number 1) ∷ (number 3) ∷ []))) ∷ (sets 6 (to "a") (call "transpose" ((name "a") ∷ []))) ∷ (sets 7 (to "v") (call
    "reshape" ((name "a") ∷ (constructor ((number 5) ∷ [])) ∷ []))) ∷ (sets 8 (to "w") (call "pack" ((name "a") ∷ (compared
    relation.Greater (name "a") (number 0)) ∷ (name "v") ∷ []))) ∷ (sets 9 (to "w") (call "pack" ((name "a") ∷ (compared
    relation.Greater (name "a") (number 0)) ∷ []))) ∷ (sets 10 (to "a") (call "spread" ((name "w") ∷ (number 1) ∷ (number 2) ∷
    []))) ∷ (sets 11 (to "w") (call "sum" ((name "a") ∷ (number 1) ∷ []))) ∷ [])

abbrev pub Results : Type 0
Results = breaks_of results ≡ broken_at 3 32 ∷ broken_at 4 32 ∷ broken_at 5 32 ∷ broken_at 6 32 ∷ broken_at 7 32
    ∷ broken_at 8 32 ∷ []

-- 1 program p
-- 2 integer :: v(4), i
-- 3 v = reshape(v, v(i:4))
-- 4 v = reshape(v, (/ 1, 1, 1, 1, 1, 1, 1, 1 /))
-- 5 v = reshape(v, (/ 4 /), v, (/ 1, 1 /))
-- 6 v = reshape(1, (/ 4 /))
-- 7 v = reshape(v, v(1:1))
-- 8 end
abbrev pub shapes : Source
shapes = main (declares 2 Integer [] (array_entity "v" (Upper (number 4) ∷ []) ∷ scalar_entity "i" ∷ []) ∷ []) ((sets 3 (to
    "v") (call "reshape" ((name "v") ∷ (refer "v" (from_to (name "i") (number 4) no_item)) ∷ []))) ∷ (sets 4 (to "v") (call
    "reshape" ((name "v") ∷ (constructor ((number 1) ∷ (number 1) ∷ (number 1) ∷ (number 1) ∷ (number 1) ∷ (number 1) ∷
    (number 1) ∷ (number 1) ∷ [])) ∷ []))) ∷ (sets 5 (to "v") (call "reshape" ((name "v") ∷ (constructor ((number 4) ∷ [])) ∷
    (name "v") ∷ (constructor ((number 1) ∷ (number 1) ∷ [])) ∷ []))) ∷ (sets 6 (to "v") (call "reshape" ((number 1) ∷
    (constructor ((number 4) ∷ [])) ∷ []))) ∷ (sets 7 (to "v") (call "reshape" ((name "v") ∷ (refer "v" (from_to (number 1)
    (number 1) no_item)) ∷ []))) ∷ [])

abbrev pub Shapes : Type 0
Shapes = breaks_of shapes ≡ broken_at 3 33 ∷ broken_at 4 33 ∷ broken_at 5 33 ∷ broken_at 6 33 ∷ []

-- 1 program p
-- 2 integer, allocatable :: a(:)
-- 3 integer :: b(2)
-- 4 logical :: l
-- 5 l = allocated(a)
-- 6 l = allocated(b)
-- 7 end
abbrev pub allocated : Source
allocated = main (declares 2 Integer (Allocatable ∷ []) (array_entity "a" (Deferred ∷ []) ∷ []) ∷ declares 3 Integer []
    (array_entity "b" (Upper (number 2) ∷ []) ∷ []) ∷ declares 4 Logical [] (scalar_entity "l" ∷ []) ∷ []) ((sets 5 (to "l")
    (call "allocated" ((name "a") ∷ []))) ∷ (sets 6 (to "l") (call "allocated" ((name "b") ∷ []))) ∷ [])

abbrev pub Allocated : Type 0
Allocated = breaks_of allocated ≡ broken_at 6 33 ∷ []

-- 1 program p
-- 2 integer :: a(1, 1, 1, 1, 1, 1), b(1, 1, 1, 1, 1, 1, 1)
-- 3 b = spread(b, 1, 1)
-- 4 b = spread(a, 7, 1)
-- 5 end
abbrev pub six_ranks : Source
six_ranks = main (declares 2 Integer [] (array_entity "a" (Upper (number 1) ∷ Upper (number 1) ∷ Upper (number 1) ∷ Upper
    (number 1) ∷ Upper (number 1) ∷ Upper (number 1) ∷ []) ∷ array_entity "b" (Upper (number 1) ∷ Upper (number 1) ∷ Upper
    (number 1) ∷ Upper (number 1) ∷ Upper (number 1) ∷ Upper (number 1) ∷ Upper (number 1) ∷ []) ∷ []) ∷ []) ((sets 3 (to "b")
    (call "spread" ((name "b") ∷ (number 1) ∷ (number 1) ∷ []))) ∷ (sets 4 (to "b") (call "spread" ((name "a") ∷ (number 7) ∷
    (number 1) ∷ []))) ∷ [])

abbrev pub SixRanks : Type 0
SixRanks = breaks_of six_ranks ≡ broken_at 3 33 ∷ []

-- 1 program p
-- 2 integer :: sum(3), abs
-- 3 abs = sum(2)
-- 4 sum = abs
-- 5 end
abbrev pub hidden : Source
hidden = main (declares 2 Integer [] (array_entity "sum" (Upper (number 3) ∷ []) ∷ scalar_entity "abs" ∷ []) ∷ []) ((sets 3
    (to "abs") (call "sum" ((number 2) ∷ []))) ∷ (sets 4 (to "sum") (name "abs")) ∷ [])

abbrev pub Hidden : Type 0
Hidden = breaks_of hidden ≡ []
