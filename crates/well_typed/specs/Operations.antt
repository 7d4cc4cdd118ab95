-- The operators and the intrinsics of the typed unit, beside those of the source.
use Rattle.f95_tree.specs.declared.terminal.Operator.{Operator}
use Rattle.f95_tree.specs.declared.terminal.Operator.TheVariants as operator
use Rattle.f95_tree.specs.declared.terminal.Relation.{Relation}
use Rattle.f95_tree.specs.declared.terminal.Relation.TheVariants as relation
use Rattle.f95_tree.specs.declared.terminal.Sign.{Sign}
use Rattle.f95_tree.specs.declared.terminal.Sign.TheVariants as sign
use Rattle.intrinsic_table.specs.declared.intrinsic.Intrinsic.{Intrinsic}
use Rattle.intrinsic_table.specs.declared.intrinsic.Intrinsic.TheVariants as intrinsic
use Rattle.f95_unit.specs.declared.operation.UnaryOp.{UnaryOp}
use Rattle.f95_unit.specs.declared.operation.UnaryOp.TheVariants as unary
use Rattle.f95_unit.specs.declared.operation.BinaryOp.{BinaryOp}
use Rattle.f95_unit.specs.declared.operation.BinaryOp.TheVariants as binary
use Rattle.f95_unit.specs.declared.operation.Elemental.{Elemental}
use Rattle.f95_unit.specs.declared.operation.Elemental.TheVariants as elemental
use Rattle.f95_unit.specs.declared.operation.Inquiry.{Inquiry}
use Rattle.f95_unit.specs.declared.operation.Inquiry.TheVariants as inquiry
use Rattle.f95_unit.specs.declared.operation.Reduction.{Reduction}
use Rattle.f95_unit.specs.declared.operation.Reduction.TheVariants as reduction
use Rattle.f95_unit.specs.declared.operation.Rearranging.{Rearranging}
use Rattle.f95_unit.specs.declared.operation.Rearranging.TheVariants as rearranging
use Rattle.well_typed.specs.declared.family.Family.{Family}
use Rattle.well_typed.specs.declared.family.Family.TheVariants.{ByElement, Trimming, Asking, Reducing, Moving}

abbrev pub unary_of : Sign → UnaryOp
unary_of sign.Plus = unary.Plus
unary_of sign.Minus = unary.Minus
unary_of sign.Not = unary.Not

abbrev pub sign_of : UnaryOp → Sign
sign_of unary.Plus = sign.Plus
sign_of unary.Minus = sign.Minus
sign_of unary.Not = sign.Not

abbrev pub comparison : Relation → BinaryOp
comparison relation.Equal = binary.Equal
comparison relation.NotEqual = binary.NotEqual
comparison relation.Less = binary.Less
comparison relation.LessEqual = binary.LessEqual
comparison relation.Greater = binary.Greater
comparison relation.GreaterEqual = binary.GreaterEqual

abbrev pub binary_of : Operator → BinaryOp
binary_of operator.Power = binary.Power
binary_of operator.Multiply = binary.Multiply
binary_of operator.Divide = binary.Divide
binary_of operator.Add = binary.Add
binary_of operator.Subtract = binary.Subtract
binary_of operator.Concat = binary.Concat
binary_of (operator.Relation r) = comparison r
binary_of operator.And = binary.And
binary_of operator.Or = binary.Or
binary_of operator.Equivalent = binary.Equivalent
binary_of operator.NotEquivalent = binary.NotEquivalent

abbrev pub operator_of : BinaryOp → Operator
operator_of binary.Power = operator.Power
operator_of binary.Multiply = operator.Multiply
operator_of binary.Divide = operator.Divide
operator_of binary.Add = operator.Add
operator_of binary.Subtract = operator.Subtract
operator_of binary.Concat = operator.Concat
operator_of binary.Equal = operator.Relation relation.Equal
operator_of binary.NotEqual = operator.Relation relation.NotEqual
operator_of binary.Less = operator.Relation relation.Less
operator_of binary.LessEqual = operator.Relation relation.LessEqual
operator_of binary.Greater = operator.Relation relation.Greater
operator_of binary.GreaterEqual = operator.Relation relation.GreaterEqual
operator_of binary.And = operator.And
operator_of binary.Or = operator.Or
operator_of binary.Equivalent = operator.Equivalent
operator_of binary.NotEquivalent = operator.NotEquivalent

abbrev pub family_of : Intrinsic → Family
family_of intrinsic.Abs = ByElement elemental.Abs
family_of intrinsic.Mod = ByElement elemental.Mod
family_of intrinsic.Modulo = ByElement elemental.Modulo
family_of intrinsic.Sign = ByElement elemental.Sign
family_of intrinsic.Max = ByElement elemental.Max
family_of intrinsic.Min = ByElement elemental.Min
family_of intrinsic.Iand = ByElement elemental.Iand
family_of intrinsic.Ior = ByElement elemental.Ior
family_of intrinsic.Ieor = ByElement elemental.Ieor
family_of intrinsic.Merge = ByElement elemental.Merge
family_of intrinsic.Ichar = ByElement elemental.Ichar
family_of intrinsic.Char = ByElement elemental.Char
family_of intrinsic.LenTrim = ByElement elemental.LenTrim
family_of intrinsic.Index = ByElement elemental.Index
family_of intrinsic.Adjustl = ByElement elemental.Adjustl
family_of intrinsic.Adjustr = ByElement elemental.Adjustr
family_of intrinsic.Trim = Trimming
family_of intrinsic.Size = Asking inquiry.Size
family_of intrinsic.Shape = Asking inquiry.Shape
family_of intrinsic.Lbound = Asking inquiry.Lbound
family_of intrinsic.Ubound = Asking inquiry.Ubound
family_of intrinsic.Allocated = Asking inquiry.Allocated
family_of intrinsic.Len = Asking inquiry.Len
family_of intrinsic.Sum = Reducing reduction.Sum
family_of intrinsic.Product = Reducing reduction.Product
family_of intrinsic.Maxval = Reducing reduction.Maxval
family_of intrinsic.Minval = Reducing reduction.Minval
family_of intrinsic.All = Reducing reduction.All
family_of intrinsic.Any = Reducing reduction.Any
family_of intrinsic.Count = Reducing reduction.Count
family_of intrinsic.Maxloc = Reducing reduction.Maxloc
family_of intrinsic.Minloc = Reducing reduction.Minloc
family_of intrinsic.DotProduct = Reducing reduction.DotProduct
family_of intrinsic.Matmul = Reducing reduction.Matmul
family_of intrinsic.Transpose = Moving rearranging.Transpose
family_of intrinsic.Cshift = Moving rearranging.Cshift
family_of intrinsic.Eoshift = Moving rearranging.Eoshift
family_of intrinsic.Spread = Moving rearranging.Spread
family_of intrinsic.Pack = Moving rearranging.Pack
family_of intrinsic.Unpack = Moving rearranging.Unpack
family_of intrinsic.Reshape = Moving rearranging.Reshape

abbrev pub intrinsic_of : Elemental → Intrinsic
intrinsic_of elemental.Abs = intrinsic.Abs
intrinsic_of elemental.Mod = intrinsic.Mod
intrinsic_of elemental.Modulo = intrinsic.Modulo
intrinsic_of elemental.Sign = intrinsic.Sign
intrinsic_of elemental.Max = intrinsic.Max
intrinsic_of elemental.Min = intrinsic.Min
intrinsic_of elemental.Iand = intrinsic.Iand
intrinsic_of elemental.Ior = intrinsic.Ior
intrinsic_of elemental.Ieor = intrinsic.Ieor
intrinsic_of elemental.Merge = intrinsic.Merge
intrinsic_of elemental.Ichar = intrinsic.Ichar
intrinsic_of elemental.Char = intrinsic.Char
intrinsic_of elemental.LenTrim = intrinsic.LenTrim
intrinsic_of elemental.Index = intrinsic.Index
intrinsic_of elemental.Adjustl = intrinsic.Adjustl
intrinsic_of elemental.Adjustr = intrinsic.Adjustr
