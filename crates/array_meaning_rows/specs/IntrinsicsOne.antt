-- Intrinsic functions and constructors.
use Rattle.std.specs.Prelude.{true, false, Some, None, [], ◌∷◌}
use Rattle.f95_unit.specs.declared.operation.UnaryOp.TheVariants as unary
use Rattle.f95_unit.specs.declared.operation.BinaryOp.TheVariants as binary
use Rattle.f95_unit.specs.declared.operation.Elemental.TheVariants as elemental
use Rattle.f95_unit.specs.declared.operation.Inquiry.TheVariants as inquiry
use Rattle.f95_unit.specs.declared.operation.Reduction.TheVariants as reduction
use Rattle.f95_unit.specs.declared.operation.Rearranging.TheVariants as rearranging
use Rattle.f95_unit.specs.declared.unit.DeclaredType.TheVariants as declared
use Rattle.f95_unit.specs.declared.unit.Length.TheVariants as long
use Rattle.f95_unit.specs.declared.unit.Role.TheVariants as role
use Rattle.f95_unit.specs.Plain.{typed, Named, Unary, Binary, Constructor, Elementwise, Trim, Asked, Reduced, Rearranged, at, Whole}
use Rattle.f95_unit.specs.Plain.{Subscripted, no_subscript, subscript, SubscriptTriplet, Absent, Given, AllOf, no_item, value}
use Rattle.f95_unit.specs.Plain.{no_argument, argument, Name, Of, Assigns, Print, no_stmt, stmt, Scalars, Explicit, Program}
use Rattle.array_meaning.specs.Build.{ints, logs, texts, some_texts, int, log, text, target, assign, span, entity, procedure}
use Rattle.array_meaning.specs.Build.{program, num, neg, chars, truth, ended, Comes}

--     program p; print *, abs(-3), mod(7,-3), modulo(7,-3), modulo(-7,3), sign(5,-2), sign(-5,0), max(3,9,4), min(3,-9,4); end
unfoldable pub integer_functions : Program
integer_functions = program
    ([])
    (procedure 1 false false false
    ([])
    None
    (stmt (Print 1 ((typed (ints 0) (Elementwise elemental.Abs (argument 0 (typed (ints 0) (Unary unary.Minus (int 3)))
    no_argument))) ∷ (typed (ints 0) (Elementwise elemental.Mod (argument 0 (int 7) (argument 1 (typed (ints 0) (Unary
    unary.Minus (int 3))) no_argument)))) ∷ (typed (ints 0) (Elementwise elemental.Modulo (argument 0 (int 7) (argument 1
    (typed (ints 0) (Unary unary.Minus (int 3))) no_argument)))) ∷ (typed (ints 0) (Elementwise elemental.Modulo (argument
    0 (typed (ints 0) (Unary unary.Minus (int 7))) (argument 1 (int 3) no_argument)))) ∷ (typed (ints 0) (Elementwise
    elemental.Sign (argument 0 (int 5) (argument 1 (typed (ints 0) (Unary unary.Minus (int 2))) no_argument)))) ∷ (typed
    (ints 0) (Elementwise elemental.Sign (argument 0 (typed (ints 0) (Unary unary.Minus (int 5))) (argument 1 (int 0)
    no_argument)))) ∷ (typed (ints 0) (Elementwise elemental.Max (argument 0 (int 3) (argument 1 (int 9) (argument 2 (int
    4) no_argument))))) ∷ (typed (ints 0) (Elementwise elemental.Min (argument 0 (int 3) (argument 1 (typed (ints 0) (Unary
    unary.Minus (int 9))) (argument 2 (int 4) no_argument))))) ∷ [])) no_stmt))
    ([])

abbrev pub IntegerFunctions : Type 0
IntegerFunctions = Comes integer_functions ([]) 100 (ended ((num 3 ∷ num 1 ∷ neg 2 ∷ num 2 ∷ neg 5 ∷ num 5 ∷ num 9 ∷ neg 9 ∷
    []) ∷ []))

--     program p; print *, iand(12,10), ior(12,10), ieor(12,10), iand(-1,5); end
unfoldable pub bits : Program
bits = program
    ([])
    (procedure 1 false false false
    ([])
    None
    (stmt (Print 1 ((typed (ints 0) (Elementwise elemental.Iand (argument 0 (int 12) (argument 1 (int 10) no_argument)))) ∷
    (typed (ints 0) (Elementwise elemental.Ior (argument 0 (int 12) (argument 1 (int 10) no_argument)))) ∷ (typed (ints 0)
    (Elementwise elemental.Ieor (argument 0 (int 12) (argument 1 (int 10) no_argument)))) ∷ (typed (ints 0) (Elementwise
    elemental.Iand (argument 0 (typed (ints 0) (Unary unary.Minus (int 1))) (argument 1 (int 5) no_argument)))) ∷ []))
    no_stmt))
    ([])

abbrev pub Bits : Type 0
Bits = Comes bits ([]) 100 (ended ((num 8 ∷ num 14 ∷ num 6 ∷ num 5 ∷ []) ∷ []))

--     program p; integer :: a(3); a = (/1,2,3/); print *, merge(a, 0, a > 1), merge(1, 2, .false.); end
unfoldable pub merged : Program
merged = program
    ([])
    (procedure 1 false false false
    (entity 1 declared.Integer (Explicit (span Absent (int 3) ∷ [])) role.Own None ∷ [])
    None
    (stmt (Assigns (assign 1 (target (ints 1) (at 0 Whole AllOf)) (typed (ints 1) (Constructor (value (int 1) (value (int 2)
    (value (int 3) no_item))))))) (stmt (Print 1 ((typed (ints 1) (Elementwise elemental.Merge (argument 0 (typed (ints 1)
    (Named (at 0 Whole AllOf))) (argument 1 (int 0) (argument 2 (typed (logs 1) (Binary binary.Greater (typed (ints 1)
    (Named (at 0 Whole AllOf))) (int 1))) no_argument))))) ∷ (typed (ints 0) (Elementwise elemental.Merge (argument 0 (int
    1) (argument 1 (int 2) (argument 2 (log false) no_argument))))) ∷ [])) no_stmt)))
    ([])

abbrev pub Merged : Type 0
Merged = Comes merged ([]) 100 (ended ((num 0 ∷ num 2 ∷ num 3 ∷ num 2 ∷ []) ∷ []))

--     program p
--     character(6) :: s
--     s = '  ab  '
--     print *, ichar('A'), char(66), len_trim(s), index('banana', 'an'), index('abc', 'x'), index('abc', '')
--     print *, adjustl(s), adjustr(s), trim(s), len(trim(s)), len(s // 'xy')
--     end
unfoldable pub text_functions : Program
text_functions = program
    ([])
    (procedure 1 false false false
    (entity 2 (declared.Character (long.Fixed 6)) Scalars role.Own None ∷ [])
    None
    (stmt (Assigns (assign 3 (target (texts 6 0) (at 0 Whole AllOf)) (text 6 (32 ∷ 32 ∷ 97 ∷ 98 ∷ 32 ∷ 32 ∷ [])))) (stmt
    (Print 4 ((typed (ints 0) (Elementwise elemental.Ichar (argument 0 (text 1 (65 ∷ [])) no_argument))) ∷ (typed (texts 1
    0) (Elementwise elemental.Char (argument 0 (int 66) no_argument))) ∷ (typed (ints 0) (Elementwise elemental.LenTrim
    (argument 0 (typed (texts 6 0) (Named (at 0 Whole AllOf))) no_argument))) ∷ (typed (ints 0) (Elementwise
    elemental.Index (argument 0 (text 6 (98 ∷ 97 ∷ 110 ∷ 97 ∷ 110 ∷ 97 ∷ [])) (argument 1 (text 2 (97 ∷ 110 ∷ []))
    no_argument)))) ∷ (typed (ints 0) (Elementwise elemental.Index (argument 0 (text 3 (97 ∷ 98 ∷ 99 ∷ [])) (argument 1
    (text 1 (120 ∷ [])) no_argument)))) ∷ (typed (ints 0) (Elementwise elemental.Index (argument 0 (text 3 (97 ∷ 98 ∷ 99 ∷
    [])) (argument 1 (text 0 ([])) no_argument)))) ∷ [])) (stmt (Print 5 ((typed (some_texts 0) (Elementwise
    elemental.Adjustl (argument 0 (typed (texts 6 0) (Named (at 0 Whole AllOf))) no_argument))) ∷ (typed (some_texts 0)
    (Elementwise elemental.Adjustr (argument 0 (typed (texts 6 0) (Named (at 0 Whole AllOf))) no_argument))) ∷ (typed
    (some_texts 0) (Trim (typed (texts 6 0) (Named (at 0 Whole AllOf))))) ∷ (typed (ints 0) (Asked inquiry.Len None (Of
    (typed (some_texts 0) (Trim (typed (texts 6 0) (Named (at 0 Whole AllOf)))))))) ∷ (typed (ints 0) (Asked inquiry.Len
    None (Of (typed (texts 8 0) (Binary binary.Concat (typed (texts 6 0) (Named (at 0 Whole AllOf))) (text 2 (120 ∷ 121 ∷
    []))))))) ∷ [])) no_stmt))))
    ([])

abbrev pub TextFunctions : Type 0
TextFunctions = Comes text_functions ([]) 100 (ended ((num 65 ∷ chars (66 ∷ []) ∷ num 4 ∷ num 2 ∷ num 0 ∷ num 1 ∷ []) ∷
    (chars (97 ∷ 98 ∷ 32 ∷ 32 ∷ 32 ∷ 32 ∷ []) ∷ chars (32 ∷ 32 ∷ 32 ∷ 32 ∷ 97 ∷ 98 ∷ []) ∷ chars (32 ∷ 32 ∷ 97 ∷ 98 ∷ []) ∷
    num 4 ∷ num 8 ∷ []) ∷ []))

--     program p
--     integer :: a(0:3,5:4)
--     character(3) :: c(2)
--     print *, size(a), size(a,1), shape(a), lbound(a), ubound(a), lbound(a(1:2,:),1), ubound(a + 1, 1)
--     print *, len(c), size(c // c), len(c // c)
--     end
unfoldable pub inquiries : Program
inquiries = program
    ([])
    (procedure 1 false false false
    (entity 2 declared.Integer (Explicit (span (Given (int 0)) (int 3) ∷ span (Given (int 5)) (int 4) ∷ [])) role.Own None ∷
    entity 3 (declared.Character (long.Fixed 3)) (Explicit (span Absent (int 2) ∷ [])) role.Own None ∷ [])
    None
    (stmt (Print 4 ((typed (ints 0) (Asked inquiry.Size None (Name 0))) ∷ (typed (ints 0) (Asked inquiry.Size (Some 1) (Name
    0))) ∷ (typed (ints 1) (Asked inquiry.Shape None (Name 0))) ∷ (typed (ints 1) (Asked inquiry.Lbound None (Name 0))) ∷
    (typed (ints 1) (Asked inquiry.Ubound None (Name 0))) ∷ (typed (ints 0) (Asked inquiry.Lbound (Some 1) (Of (typed (ints
    2) (Named (at 0 (Subscripted (subscript (SubscriptTriplet (Given (int 1)) (Given (int 2)) Absent) (subscript (SubscriptTriplet
    Absent Absent
    Absent) no_subscript))) AllOf)))))) ∷ (typed (ints 0) (Asked inquiry.Ubound (Some 1) (Of (typed (ints 2) (Binary
    binary.Add (typed (ints 2) (Named (at 0 Whole AllOf))) (int 1)))))) ∷ [])) (stmt (Print 5 ((typed (ints 0) (Asked
    inquiry.Len None (Name 1))) ∷ (typed (ints 0) (Asked inquiry.Size None (Of (typed (texts 6 1) (Binary binary.Concat
    (typed (texts 3 1) (Named (at 1 Whole AllOf))) (typed (texts 3 1) (Named (at 1 Whole AllOf)))))))) ∷ (typed (ints 0)
    (Asked inquiry.Len None (Of (typed (texts 6 1) (Binary binary.Concat (typed (texts 3 1) (Named (at 1 Whole AllOf)))
    (typed (texts 3 1) (Named (at 1 Whole AllOf)))))))) ∷ [])) no_stmt)))
    ([])

abbrev pub Inquiries : Type 0
Inquiries = Comes inquiries ([]) 100 (ended ((num 0 ∷ num 4 ∷ num 4 ∷ num 0 ∷ num 0 ∷ num 1 ∷ num 3 ∷ num 0 ∷ num 1 ∷ num 4 ∷
    []) ∷ (num 3 ∷ num 2 ∷ num 6 ∷ []) ∷ []))

--     program p
--     integer :: a(2,3)
--     a = reshape((/1,2,3,4,5,6/), (/2,3/))
--     print *, sum(a), product(a), maxval(a), minval(a), count(a > 2), any(a > 5), all(a > 0)
--     print *, sum(a,1), sum(a,2), maxval(a,2), count(a > 3, 1), any(a > 4, 2)
--     print *, sum(a, mask = a > 2), product(a, 2, a /= 3), minval(a, a > 9), sum(a, .false.)
--     end
unfoldable pub reductions : Program
reductions = program
    ([])
    (procedure 1 false false false
    (entity 2 declared.Integer (Explicit (span Absent (int 2) ∷ span Absent (int 3) ∷ [])) role.Own None ∷ [])
    None
    (stmt (Assigns (assign 3 (target (ints 2) (at 0 Whole AllOf)) (typed (ints 2) (Rearranged rearranging.Reshape None
    (argument 0 (typed (ints 1) (Constructor (value (int 1) (value (int 2) (value (int 3) (value (int 4) (value (int 5)
    (value (int 6) no_item)))))))) (argument 1 (typed (ints 1) (Constructor (value (int 2) (value (int 3) no_item))))
    no_argument)))))) (stmt (Print 4 ((typed (ints 0) (Reduced reduction.Sum None (argument 0 (typed (ints 2) (Named (at 0
    Whole AllOf))) no_argument))) ∷ (typed (ints 0) (Reduced reduction.Product None (argument 0 (typed (ints 2) (Named (at
    0 Whole AllOf))) no_argument))) ∷ (typed (ints 0) (Reduced reduction.Maxval None (argument 0 (typed (ints 2) (Named (at
    0 Whole AllOf))) no_argument))) ∷ (typed (ints 0) (Reduced reduction.Minval None (argument 0 (typed (ints 2) (Named (at
    0 Whole AllOf))) no_argument))) ∷ (typed (ints 0) (Reduced reduction.Count None (argument 0 (typed (logs 2) (Binary
    binary.Greater (typed (ints 2) (Named (at 0 Whole AllOf))) (int 2))) no_argument))) ∷ (typed (logs 0) (Reduced
    reduction.Any None (argument 0 (typed (logs 2) (Binary binary.Greater (typed (ints 2) (Named (at 0 Whole AllOf))) (int
    5))) no_argument))) ∷ (typed (logs 0) (Reduced reduction.All None (argument 0 (typed (logs 2) (Binary binary.Greater
    (typed (ints 2) (Named (at 0 Whole AllOf))) (int 0))) no_argument))) ∷ [])) (stmt (Print 5 ((typed (ints 1) (Reduced
    reduction.Sum (Some 1) (argument 0 (typed (ints 2) (Named (at 0 Whole AllOf))) no_argument))) ∷ (typed (ints 1)
    (Reduced reduction.Sum (Some 2) (argument 0 (typed (ints 2) (Named (at 0 Whole AllOf))) no_argument))) ∷ (typed (ints
    1) (Reduced reduction.Maxval (Some 2) (argument 0 (typed (ints 2) (Named (at 0 Whole AllOf))) no_argument))) ∷ (typed
    (ints 1) (Reduced reduction.Count (Some 1) (argument 0 (typed (logs 2) (Binary binary.Greater (typed (ints 2) (Named
    (at 0 Whole AllOf))) (int 3))) no_argument))) ∷ (typed (logs 1) (Reduced reduction.Any (Some 2) (argument 0 (typed
    (logs 2) (Binary binary.Greater (typed (ints 2) (Named (at 0 Whole AllOf))) (int 4))) no_argument))) ∷ [])) (stmt
    (Print 6 ((typed (ints 0) (Reduced reduction.Sum None (argument 0 (typed (ints 2) (Named (at 0 Whole AllOf))) (argument
    2 (typed (logs 2) (Binary binary.Greater (typed (ints 2) (Named (at 0 Whole AllOf))) (int 2))) no_argument)))) ∷ (typed
    (ints 1) (Reduced reduction.Product (Some 2) (argument 0 (typed (ints 2) (Named (at 0 Whole AllOf))) (argument 2 (typed
    (logs 2) (Binary binary.NotEqual (typed (ints 2) (Named (at 0 Whole AllOf))) (int 3))) no_argument)))) ∷ (typed (ints
    0) (Reduced reduction.Minval None (argument 0 (typed (ints 2) (Named (at 0 Whole AllOf))) (argument 2 (typed (logs 2)
    (Binary binary.Greater (typed (ints 2) (Named (at 0 Whole AllOf))) (int 9))) no_argument)))) ∷ (typed (ints 0) (Reduced
    reduction.Sum None (argument 0 (typed (ints 2) (Named (at 0 Whole AllOf))) (argument 2 (log false) no_argument)))) ∷
    [])) no_stmt)))))
    ([])

abbrev pub Reductions : Type 0
Reductions = Comes reductions ([]) 100 (ended ((num 21 ∷ num 720 ∷ num 6 ∷ num 1 ∷ num 4 ∷ truth true ∷ truth true ∷ []) ∷
    (num 3 ∷ num 7 ∷ num 11 ∷ num 9 ∷ num 12 ∷ num 5 ∷ num 6 ∷ num 0 ∷ num 1 ∷ num 2 ∷ truth true ∷ truth true ∷ []) ∷ (num
    18 ∷ num 5 ∷ num 48 ∷ num 2147483647 ∷ num 0 ∷ []) ∷ []))

--     program p
--     integer :: a(2,3)
--     a = reshape((/1,7,3,7,5,1/), (/2,3/))
--     print *, maxloc(a), minloc(a), maxloc(a, a < 7), minloc(a, a > 9)
--     end
unfoldable pub places_of_extremes : Program
places_of_extremes = program
    ([])
    (procedure 1 false false false
    (entity 2 declared.Integer (Explicit (span Absent (int 2) ∷ span Absent (int 3) ∷ [])) role.Own None ∷ [])
    None
    (stmt (Assigns (assign 3 (target (ints 2) (at 0 Whole AllOf)) (typed (ints 2) (Rearranged rearranging.Reshape None
    (argument 0 (typed (ints 1) (Constructor (value (int 1) (value (int 7) (value (int 3) (value (int 7) (value (int 5)
    (value (int 1) no_item)))))))) (argument 1 (typed (ints 1) (Constructor (value (int 2) (value (int 3) no_item))))
    no_argument)))))) (stmt (Print 4 ((typed (ints 1) (Reduced reduction.Maxloc None (argument 0 (typed (ints 2) (Named (at
    0 Whole AllOf))) no_argument))) ∷ (typed (ints 1) (Reduced reduction.Minloc None (argument 0 (typed (ints 2) (Named (at
    0 Whole AllOf))) no_argument))) ∷ (typed (ints 1) (Reduced reduction.Maxloc None (argument 0 (typed (ints 2) (Named (at
    0 Whole AllOf))) (argument 1 (typed (logs 2) (Binary binary.Less (typed (ints 2) (Named (at 0 Whole AllOf))) (int 7)))
    no_argument)))) ∷ (typed (ints 1) (Reduced reduction.Minloc None (argument 0 (typed (ints 2) (Named (at 0 Whole
    AllOf))) (argument 1 (typed (logs 2) (Binary binary.Greater (typed (ints 2) (Named (at 0 Whole AllOf))) (int 9)))
    no_argument)))) ∷ [])) no_stmt)))
    ([])

abbrev pub PlacesOfExtremes : Type 0
PlacesOfExtremes = Comes places_of_extremes ([]) 100 (ended ((num 2 ∷ num 1 ∷ num 1 ∷ num 1 ∷ num 1 ∷ num 3 ∷ num 0 ∷ num 0 ∷
    []) ∷ []))

--     program p
--     integer :: a(2,3), b(3,2), v(3)
--     logical :: l(2)
--     a = reshape((/1,2,3,4,5,6/), (/2,3/))
--     b = transpose(a)
--     v = (/1,0,2/)
--     l = (/.true., .false./)
--     print *, dot_product(v, (/4,5,6/)), matmul(a, b)
--     print *, matmul(a, v), matmul(v, b), dot_product(l, .not. l)
--     end
unfoldable pub products : Program
products = program
    ([])
    (procedure 1 false false false
    (entity 2 declared.Integer (Explicit (span Absent (int 2) ∷ span Absent (int 3) ∷ [])) role.Own None ∷ entity 2
    declared.Integer (Explicit (span Absent (int 3) ∷ span Absent (int 2) ∷ [])) role.Own None ∷ entity 2 declared.Integer
    (Explicit (span Absent (int 3) ∷ [])) role.Own None ∷ entity 3 declared.Logical (Explicit (span Absent (int 2) ∷ []))
    role.Own None ∷ [])
    None
    (stmt (Assigns (assign 4 (target (ints 2) (at 0 Whole AllOf)) (typed (ints 2) (Rearranged rearranging.Reshape None
    (argument 0 (typed (ints 1) (Constructor (value (int 1) (value (int 2) (value (int 3) (value (int 4) (value (int 5)
    (value (int 6) no_item)))))))) (argument 1 (typed (ints 1) (Constructor (value (int 2) (value (int 3) no_item))))
    no_argument)))))) (stmt (Assigns (assign 5 (target (ints 2) (at 1 Whole AllOf)) (typed (ints 2) (Rearranged
    rearranging.Transpose None (argument 0 (typed (ints 2) (Named (at 0 Whole AllOf))) no_argument))))) (stmt (Assigns
    (assign 6 (target (ints 1) (at 2 Whole AllOf)) (typed (ints 1) (Constructor (value (int 1) (value (int 0) (value (int
    2) no_item))))))) (stmt (Assigns (assign 7 (target (logs 1) (at 3 Whole AllOf)) (typed (logs 1) (Constructor (value
    (log true) (value (log false) no_item)))))) (stmt (Print 8 ((typed (ints 0) (Reduced reduction.DotProduct None
    (argument 0 (typed (ints 1) (Named (at 2 Whole AllOf))) (argument 1 (typed (ints 1) (Constructor (value (int 4) (value
    (int 5) (value (int 6) no_item))))) no_argument)))) ∷ (typed (ints 2) (Reduced reduction.Matmul None (argument 0 (typed
    (ints 2) (Named (at 0 Whole AllOf))) (argument 1 (typed (ints 2) (Named (at 1 Whole AllOf))) no_argument)))) ∷ []))
    (stmt (Print 9 ((typed (ints 1) (Reduced reduction.Matmul None (argument 0 (typed (ints 2) (Named (at 0 Whole AllOf)))
    (argument 1 (typed (ints 1) (Named (at 2 Whole AllOf))) no_argument)))) ∷ (typed (ints 1) (Reduced reduction.Matmul
    None (argument 0 (typed (ints 1) (Named (at 2 Whole AllOf))) (argument 1 (typed (ints 2) (Named (at 1 Whole AllOf)))
    no_argument)))) ∷ (typed (logs 0) (Reduced reduction.DotProduct None (argument 0 (typed (logs 1) (Named (at 3 Whole
    AllOf))) (argument 1 (typed (logs 1) (Unary unary.Not (typed (logs 1) (Named (at 3 Whole AllOf))))) no_argument)))) ∷
    [])) no_stmt)))))))
    ([])

abbrev pub Products : Type 0
Products = Comes products ([]) 100 (ended ((num 16 ∷ num 35 ∷ num 44 ∷ num 44 ∷ num 56 ∷ []) ∷ (num 11 ∷ num 14 ∷ num 11 ∷
    num 14 ∷ truth false ∷ []) ∷ []))

--     program p
--     integer :: a(2), m(2,2)
--     a = (/1,2/)
--     print *, spread(a,1,2), spread(a,2,2), spread(7,1,3)
--     m = reshape((/1,2,3,4/), (/2,2/))
--     print *, pack(m, m /= 2), pack(m, m > 2, (/9,8,7,6/)), pack(a, .true.)
--     print *, unpack((/5,6/), m > 2, m), unpack((/5,6/), m < 3, 0)
--     end
unfoldable pub spread_pack_unpack : Program
spread_pack_unpack = program
    ([])
    (procedure 1 false false false
    (entity 2 declared.Integer (Explicit (span Absent (int 2) ∷ [])) role.Own None ∷ entity 2 declared.Integer (Explicit
    (span Absent (int 2) ∷ span Absent (int 2) ∷ [])) role.Own None ∷ [])
    None
    (stmt (Assigns (assign 3 (target (ints 1) (at 0 Whole AllOf)) (typed (ints 1) (Constructor (value (int 1) (value (int 2)
    no_item)))))) (stmt (Print 4 ((typed (ints 2) (Rearranged rearranging.Spread (Some 1) (argument 0 (typed (ints 1)
    (Named (at 0 Whole AllOf))) (argument 2 (int 2) no_argument)))) ∷ (typed (ints 2) (Rearranged rearranging.Spread (Some
    2) (argument 0 (typed (ints 1) (Named (at 0 Whole AllOf))) (argument 2 (int 2) no_argument)))) ∷ (typed (ints 1)
    (Rearranged rearranging.Spread (Some 1) (argument 0 (int 7) (argument 2 (int 3) no_argument)))) ∷ [])) (stmt (Assigns
    (assign 5 (target (ints 2) (at 1 Whole AllOf)) (typed (ints 2) (Rearranged rearranging.Reshape None (argument 0 (typed
    (ints 1) (Constructor (value (int 1) (value (int 2) (value (int 3) (value (int 4) no_item)))))) (argument 1 (typed
    (ints 1) (Constructor (value (int 2) (value (int 2) no_item)))) no_argument)))))) (stmt (Print 6 ((typed (ints 1)
    (Rearranged rearranging.Pack None (argument 0 (typed (ints 2) (Named (at 1 Whole AllOf))) (argument 1 (typed (logs 2)
    (Binary binary.NotEqual (typed (ints 2) (Named (at 1 Whole AllOf))) (int 2))) no_argument)))) ∷ (typed (ints 1)
    (Rearranged rearranging.Pack None (argument 0 (typed (ints 2) (Named (at 1 Whole AllOf))) (argument 1 (typed (logs 2)
    (Binary binary.Greater (typed (ints 2) (Named (at 1 Whole AllOf))) (int 2))) (argument 2 (typed (ints 1) (Constructor
    (value (int 9) (value (int 8) (value (int 7) (value (int 6) no_item)))))) no_argument))))) ∷ (typed (ints 1)
    (Rearranged rearranging.Pack None (argument 0 (typed (ints 1) (Named (at 0 Whole AllOf))) (argument 1 (log true)
    no_argument)))) ∷ [])) (stmt (Print 7 ((typed (ints 2) (Rearranged rearranging.Unpack None (argument 0 (typed (ints 1)
    (Constructor (value (int 5) (value (int 6) no_item)))) (argument 1 (typed (logs 2) (Binary binary.Greater (typed (ints
    2) (Named (at 1 Whole AllOf))) (int 2))) (argument 2 (typed (ints 2) (Named (at 1 Whole AllOf))) no_argument))))) ∷
    (typed (ints 2) (Rearranged rearranging.Unpack None (argument 0 (typed (ints 1) (Constructor (value (int 5) (value (int
    6) no_item)))) (argument 1 (typed (logs 2) (Binary binary.Less (typed (ints 2) (Named (at 1 Whole AllOf))) (int 3)))
    (argument 2 (int 0) no_argument))))) ∷ [])) no_stmt))))))
    ([])

abbrev pub SpreadPackUnpack : Type 0
SpreadPackUnpack = Comes spread_pack_unpack ([]) 100 (ended ((num 1 ∷ num 1 ∷ num 2 ∷ num 2 ∷ num 1 ∷ num 2 ∷ num 1 ∷ num 2 ∷
    num 7 ∷ num 7 ∷ num 7 ∷ []) ∷ (num 1 ∷ num 3 ∷ num 4 ∷ num 3 ∷ num 4 ∷ num 7 ∷ num 6 ∷ num 1 ∷ num 2 ∷ []) ∷ (num 1 ∷ num
    2 ∷ num 5 ∷ num 6 ∷ num 5 ∷ num 6 ∷ num 0 ∷ num 0 ∷ []) ∷ []))
