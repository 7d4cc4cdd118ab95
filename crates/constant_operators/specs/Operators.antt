-- Operators on expressions whose value is known before a run: the kinds that they ask for, and the value that they give. A value is
-- exact: where an operation on INTEGERs leaves 32 bits, or has a fault, the expression is spoilt.
use Rattle.std.specs.Prelude.{ℕ, ℤ, pos, negsuc, neg_ℤ, ◌+◌, ◌+ℤ◌, ◌-ℤ◌, ◌*ℤ◌, int_div, Bool, true, false, not, ◌&&◌, ◌||◌}
use Rattle.std.specs.Prelude.{if◌then◌else◌, List, [], ◌++◌, length, Option, Some, None}
use Rattle.std.specs.Int.{int_pow}
use Rattle.std.specs.declared.cmp.Ordering.{Ordering}
use Rattle.std.specs.declared.cmp.Ordering.TheVariants.{Equal}
use Rattle.std.specs.Ordering.{int_eq, int_cmp, is_eq, is_ne, is_lt, is_le, is_gt, is_ge}
use Rattle.a95_base.specs.declared.scalar.Scalar.{Scalar}
use Rattle.a95_base.specs.declared.scalar.Scalar.TheVariants as scalar
use Rattle.a95_base.specs.declared.scalar.Kind.{Kind}
use Rattle.a95_base.specs.declared.scalar.Kind.TheVariants as kind
use Rattle.a95_base.specs.Integer.{wrapped, power_of}
use Rattle.a95_base.specs.Text.{compare_padded}
use Rattle.constant_operators.specs.declared.value.Facts.{Facts}
use Rattle.constant_operators.specs.declared.value.Worth.{Worth}
use Rattle.constant_operators.specs.declared.value.Worth.TheVariants.{Is, Spoilt, Unknown}
use Rattle.constant_operators.specs.declared.value.Valued.{Valued}
use Rattle.f95_tree.specs.declared.terminal.Operator.{Operator}
use Rattle.f95_tree.specs.declared.terminal.Operator.TheVariants as operator
use Rattle.f95_tree.specs.declared.terminal.Relation.{Relation}
use Rattle.f95_tree.specs.declared.terminal.Relation.TheVariants as relation
use Rattle.f95_tree.specs.declared.terminal.Sign.{Sign}
use Rattle.f95_tree.specs.declared.terminal.Sign.TheVariants as sign

-- ---- what is known

abbrev pub facts_of : Kind → Option ℕ → Facts
facts_of k n = record { kind = k; length = n }

abbrev pub valued_as : Facts → Worth → Valued
valued_as f w = record { facts = f; worth = w }

abbrev pub an_integer : Facts
an_integer = facts_of kind.Int None

abbrev pub a_truth : Facts
a_truth = facts_of kind.Log None

abbrev pub a_text : Option ℕ → Facts
a_text n = facts_of kind.Text n

abbrev pub is_kind : Kind → Kind → Bool
is_kind kind.Int kind.Int = true
is_kind kind.Log kind.Log = true
is_kind kind.Text kind.Text = true
is_kind k l = false

abbrev pub only_if : {A : Type 0} → Bool → A → Option A
only_if true a = Some a
only_if false a = None

abbrev pub then_option : {A B : Type 0} → Option A → (A → Option B) → Option B
then_option None f = None
then_option (Some a) f = f a

abbrev pub length_sum : Option ℕ → Option ℕ → Option ℕ
length_sum None n = None
length_sum (Some m) None = None
length_sum (Some m) (Some n) = Some (m + n)

-- ---- values

abbrev pub integer_of : Scalar → ℤ
integer_of (scalar.Int z) = z
integer_of other = pos 0

abbrev pub truth_of : Scalar → Bool
truth_of (scalar.Log b) = b
truth_of other = false

abbrev pub text_of : Scalar → List ℕ
text_of (scalar.Text bytes) = bytes
text_of other = []

-- an INTEGER, where it doesn't leave 32 bits
abbrev pub within : ℤ → Worth
within z = if int_eq (wrapped z) z then Is (scalar.Int z) else Spoilt

-- an INTEGER or a text, where there is one
abbrev pub integer_or_spoilt : Option ℤ → Worth
integer_or_spoilt None = Spoilt
integer_or_spoilt (Some z) = Is (scalar.Int z)

abbrev pub text_or_spoilt : Option (List ℕ) → Worth
text_or_spoilt None = Spoilt
text_or_spoilt (Some bytes) = Is (scalar.Text bytes)

abbrev pub quotient_within : ℤ → ℤ → Worth
quotient_within x y = if int_eq y (pos 0) then Spoilt else within (int_div x y)

abbrev pub power_within : ℤ → ℤ → Worth
power_within x (pos n) = within (int_pow x n)
power_within x (negsuc n) = integer_or_spoilt (power_of x (negsuc n))

abbrev pub compared : Scalar → Scalar → Ordering
compared (scalar.Int x) (scalar.Int y) = int_cmp x y
compared (scalar.Text x) (scalar.Text y) = compare_padded x y
compared x y = Equal

abbrev pub stands : Relation → Ordering → Bool
stands relation.Equal o = is_eq o
stands relation.NotEqual o = is_ne o
stands relation.Less o = is_lt o
stands relation.LessEqual o = is_le o
stands relation.Greater o = is_gt o
stands relation.GreaterEqual o = is_ge o

abbrev pub are_equivalent : Bool → Bool → Bool
are_equivalent true b = b
are_equivalent false b = not b

abbrev pub operated : Operator → Scalar → Scalar → Worth
operated operator.Power x y = power_within (integer_of x) (integer_of y)
operated operator.Multiply x y = within (integer_of x *ℤ integer_of y)
operated operator.Divide x y = quotient_within (integer_of x) (integer_of y)
operated operator.Add x y = within (integer_of x +ℤ integer_of y)
operated operator.Subtract x y = within (integer_of x -ℤ integer_of y)
operated operator.Concat x y = Is (scalar.Text (text_of x ++ text_of y))
operated (operator.Relation r) x y = Is (scalar.Log (stands r (compared x y)))
operated operator.And x y = Is (scalar.Log (truth_of x && truth_of y))
operated operator.Or x y = Is (scalar.Log (truth_of x || truth_of y))
operated operator.Equivalent x y = Is (scalar.Log (are_equivalent (truth_of x) (truth_of y)))
operated operator.NotEquivalent x y = Is (scalar.Log (not (are_equivalent (truth_of x) (truth_of y))))

abbrev pub signed_value : Sign → Scalar → Worth
signed_value sign.Plus x = Is x
signed_value sign.Minus x = within (neg_ℤ (integer_of x))
signed_value sign.Not x = Is (scalar.Log (not (truth_of x)))

-- ---- operators

abbrev pub is_spoilt : Worth → Bool
is_spoilt (Is x) = false
is_spoilt Spoilt = true
is_spoilt Unknown = false

abbrev pub worth_of_one : (Scalar → Worth) → Worth → Worth
worth_of_one f (Is x) = f x
worth_of_one f Spoilt = Spoilt
worth_of_one f Unknown = Unknown

-- both operands are evaluated, so what spoils one spoils the whole
abbrev pub worth_of_two : (Scalar → Scalar → Worth) → Worth → Worth → Worth
worth_of_two f (Is x) (Is y) = f x y
worth_of_two f (Is x) Spoilt = Spoilt
worth_of_two f (Is x) Unknown = Unknown
worth_of_two f Spoilt w = Spoilt
worth_of_two f Unknown Spoilt = Spoilt
worth_of_two f Unknown (Is y) = Unknown
worth_of_two f Unknown Unknown = Unknown

abbrev pub operands : Kind → Facts → Facts → Facts → Option Facts
operands k f g result = only_if (is_kind k f.kind && is_kind k g.kind) result

-- what an operator makes of operands whose kinds fit
abbrev pub operator_facts : Operator → Facts → Facts → Option Facts
operator_facts operator.Power f g = operands kind.Int f g an_integer
operator_facts operator.Multiply f g = operands kind.Int f g an_integer
operator_facts operator.Divide f g = operands kind.Int f g an_integer
operator_facts operator.Add f g = operands kind.Int f g an_integer
operator_facts operator.Subtract f g = operands kind.Int f g an_integer
operator_facts operator.Concat f g = operands kind.Text f g (a_text (length_sum f.length g.length))
operator_facts (operator.Relation r) f g = only_if (is_kind f.kind g.kind && not (is_kind kind.Log f.kind)) a_truth
operator_facts operator.And f g = operands kind.Log f g a_truth
operator_facts operator.Or f g = operands kind.Log f g a_truth
operator_facts operator.Equivalent f g = operands kind.Log f g a_truth
operator_facts operator.NotEquivalent f g = operands kind.Log f g a_truth

abbrev pub sign_facts : Sign → Facts → Option Facts
sign_facts sign.Plus f = only_if (is_kind kind.Int f.kind) an_integer
sign_facts sign.Minus f = only_if (is_kind kind.Int f.kind) an_integer
sign_facts sign.Not f = only_if (is_kind kind.Log f.kind) a_truth

abbrev pub with_worth : Worth → Option Facts → Option Valued
with_worth w None = None
with_worth w (Some f) = Some (valued_as f w)

abbrev pub binary : Operator → Option Valued → Option Valued → Option Valued
binary op None v = None
binary op (Some u) None = None
binary op (Some u) (Some v) = with_worth (worth_of_two (operated op) u.worth v.worth) (operator_facts op u.facts v.facts)

abbrev pub signed : Sign → Option Valued → Option Valued
signed s None = None
signed s (Some v) = with_worth (worth_of_one (signed_value s) v.worth) (sign_facts s v.facts)

abbrev pub literal : Scalar → Valued
literal (scalar.Int z) = valued_as an_integer (Is (scalar.Int z))
literal (scalar.Log b) = valued_as a_truth (Is (scalar.Log b))
literal (scalar.Text bytes) = valued_as (a_text (Some (length bytes))) (Is (scalar.Text bytes))
