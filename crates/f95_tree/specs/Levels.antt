-- The table of precedence: how tightly each operator binds, and how tightly each of its operands must.
use Rattle.std.specs.Prelude.{ℕ}
use Rattle.f95_tree.specs.declared.terminal.Operator.{Operator}
use Rattle.f95_tree.specs.declared.terminal.Operator.TheVariants as operator
use Rattle.f95_tree.specs.declared.terminal.Sign.{Sign}
use Rattle.f95_tree.specs.declared.terminal.Sign.TheVariants as sign

-- the level of what an operator makes of its operands; an operand that is no operation has level 10
abbrev pub level : Operator → ℕ
level operator.Power = 9
level operator.Multiply = 8
level operator.Divide = 8
level operator.Add = 7
level operator.Subtract = 7
level operator.Concat = 6
level (operator.Relation _) = 5
level operator.And = 3
level operator.Or = 2
level operator.Equivalent = 1
level operator.NotEquivalent = 1

-- the least level of a left operand: relations don't chain, and ** goes from right to left
abbrev pub left_of : Operator → ℕ
left_of operator.Power = 10
left_of operator.Multiply = 8
left_of operator.Divide = 8
left_of operator.Add = 7
left_of operator.Subtract = 7
left_of operator.Concat = 6
left_of (operator.Relation _) = 6
left_of operator.And = 3
left_of operator.Or = 2
left_of operator.Equivalent = 1
left_of operator.NotEquivalent = 1

-- the least level of a right operand
abbrev pub right_of : Operator → ℕ
right_of operator.Power = 9
right_of operator.Multiply = 9
right_of operator.Divide = 9
right_of operator.Add = 8
right_of operator.Subtract = 8
right_of operator.Concat = 7
right_of (operator.Relation _) = 6
right_of operator.And = 4
right_of operator.Or = 3
right_of operator.Equivalent = 2
right_of operator.NotEquivalent = 2

-- the level of what a sign makes of its operand
abbrev pub sign_level : Sign → ℕ
sign_level sign.Plus = 7
sign_level sign.Minus = 7
sign_level sign.Not = 4

-- the least level of a sign's operand
abbrev pub under_sign : Sign → ℕ
under_sign sign.Plus = 8
under_sign sign.Minus = 8
under_sign sign.Not = 5
