-- What a row reads: a value, or the stuck state.
use Rattle.std.specs.Prelude.{ℕ, ℤ, pos, negsuc, ◌+ℤ◌, ◌-ℤ◌, ◌*ℤ◌, ◌+◌, ◌-◌, Bool, true, false, not, ◌&&◌, nat_lt, nat_le, int_lt}
use Rattle.std.specs.Prelude.{int_le, int_div, int_rem, if◌then◌else◌, List, [], ◌∷◌, ◌++◌, length, get_or, set, replicate, Option}
use Rattle.std.specs.Prelude.{None, Result, Ok, Err}
use Rattle.std.specs.Int.{w64, int_wrap, int_bit_and, int_bit_or, int_bit_xor}
use Rattle.std.specs.Ordering.{int_eq}
use Rattle.std.specs.Option.{ok_or}
use Rattle.std.specs.declared.cmp.Ordering.{Ordering}
use Rattle.std.specs.declared.cmp.Ordering.TheVariants.{Less, Equal, Greater}
use Rattle.a95_base.specs.Integer.{wrapped, raised}
use Rattle.a95_base.specs.Limits.{most_elements, longest_text}
use Rattle.a95_base.specs.Text.{fit, compare_padded, first_place, trim, adjust_left, adjust_right, code_of, char_of, part_of, over}
use Rattle.a95_base.specs.Input.{Reading, Integer, NoMore, NoInteger, next_value}
use Rattle.loop_tree.specs.declared.stuck.StuckState.{StuckState}
use Rattle.loop_tree.specs.declared.stuck.StuckState.TheVariants as stuck
use Rattle.loop_tree.specs.declared.atom.Atom.{Atom}
use Rattle.loop_tree.specs.declared.atom.Atom.TheVariants as atom
use Rattle.loop_tree.specs.declared.atom.TextAtom.{TextAtom}
use Rattle.loop_tree.specs.declared.atom.TextAtom.TheVariants as text
use Rattle.loop_tree.specs.declared.atom.Reference.{Reference}
use Rattle.loop_tree.specs.declared.atom.Reference.TheVariants as reference
use Rattle.loop_tree.specs.declared.atom.Operator.{Operator}
use Rattle.loop_tree.specs.declared.atom.Operator.TheVariants as operator
use Rattle.loop_tree.specs.declared.row.IntValue.{IntValue}
use Rattle.loop_tree.specs.declared.row.IntValue.TheVariants as int
use Rattle.loop_tree.specs.declared.row.TextValue.{TextValue}
use Rattle.loop_tree.specs.declared.row.TextValue.TheVariants as words
use Rattle.loop_tree.specs.State.{Cells, Ints, Texts, Block, State, cells_at}

-- ---- atoms

abbrev pub number_at : List ℤ → ℕ → ℤ
number_at ints n = get_or ints n (pos 0)

abbrev pub text_at : List (List ℕ) → ℕ → List ℕ
text_at texts n = get_or texts n []

abbrev pub block_at : List (Option ℕ) → ℕ → Option ℕ
block_at references n = get_or references n None

abbrev pub atom_in : List ℤ → List ℤ → Atom → ℤ
atom_in ints indices (atom.Int n) = number_at ints n
atom_in ints indices (atom.Loop k) = number_at indices k
atom_in ints indices (atom.Number z) = z

abbrev pub text_in : List (List ℕ) → TextAtom → List ℕ
text_in texts (text.Variable n) = text_at texts n
text_in texts (text.Literal bytes) = bytes

abbrev pub block_in : List (Option ℕ) → List (Option ℕ) → Reference → Option ℕ
block_in int_blocks text_blocks (reference.Ints n) = block_at int_blocks n
block_in int_blocks text_blocks (reference.Texts n) = block_at text_blocks n

-- the same in the current call
abbrev pub atom_of : State → Atom → ℤ
atom_of s a = atom_in s.now.ints s.now.indices a

abbrev pub text_of : State → TextAtom → List ℕ
text_of s a = text_in s.now.texts a

abbrev pub block_of : State → Reference → Option ℕ
block_of s r = block_in s.now.int_blocks s.now.text_blocks r

-- 1 and 0
abbrev pub truth : Bool → ℤ
truth b = if b then pos 1 else pos 0

-- a condition holds where it isn't 0
abbrev pub holds : ℤ → Bool
holds z = not (int_eq z (pos 0))

-- ---- integers

-- LoopC's own: an integer has 64 bits, where the language's have 32. Division cuts off towards zero and wraps
abbrev pub quotient : ℤ → ℤ → Result ℤ StuckState
quotient x y = if int_eq y (pos 0) then Err stuck.ZeroDivisor else Ok (int_wrap w64 (int_div x y))

abbrev pub remainder : ℤ → ℤ → Result ℤ StuckState
remainder x y = if int_eq y (pos 0) then Err stuck.ZeroDivisor else Ok (int_rem x y)

-- arithmetic wraps at 64 bits
unfoldable pub operation : Operator → ℤ → ℤ → Result ℤ StuckState
operation operator.Add x y = Ok (int_wrap w64 (x +ℤ y))
operation operator.Subtract x y = Ok (int_wrap w64 (x -ℤ y))
operation operator.Multiply x y = Ok (int_wrap w64 (x *ℤ y))
operation operator.Divide x y = quotient x y
operation operator.Remainder x y = remainder x y
operation operator.Less x y = Ok (truth (int_lt x y))
operation operator.LessEqual x y = Ok (truth (int_le x y))
operation operator.Equal x y = Ok (truth (int_eq x y))
operation operator.NotEqual x y = Ok (truth (not (int_eq x y)))
operation operator.And x y = Ok (int_bit_and w64 x y)
operation operator.Or x y = Ok (int_bit_or w64 x y)

-- the language's power of wrapped numbers
abbrev pub power_of : ℤ → ℤ → Result ℤ StuckState
power_of base (pos n) = Ok (raised base n)
power_of base (negsuc n) = Err stuck.NegativeExponent

abbrev pub power : ℤ → ℤ → Result ℤ StuckState
power x y = power_of (wrapped x) (wrapped y)

-- ---- cells

-- an index within a block of n cells
abbrev pub place_in : ℤ → ℕ → Result ℕ StuckState
place_in (pos i) n = if nat_lt i n then Ok i else Err stuck.OutsideBlock
place_in (negsuc i) n = Err stuck.OutsideBlock

-- `then` of a value, unless stuck
abbrev pub and_then : {A B : Type 0} → Result A StuckState → (A → Result B StuckState) → Result B StuckState
and_then (Ok a) next = next a
and_then (Err why) next = Err why

abbrev pub ints_of : Cells → Result (List ℤ) StuckState
ints_of (Ints cells) = Ok cells
ints_of (Texts cells) = Err stuck.NoBlock

abbrev pub texts_of : Cells → Result (List (List ℕ)) StuckState
texts_of (Ints cells) = Err stuck.NoBlock
texts_of (Texts cells) = Ok cells

-- the integers of a living block, and its texts
abbrev pub ints_at : List Block → Option ℕ → Result (List ℤ) StuckState
ints_at blocks reference = and_then (cells_at blocks reference) ints_of

abbrev pub texts_at : List Block → Option ℕ → Result (List (List ℕ)) StuckState
texts_at blocks reference = and_then (cells_at blocks reference) texts_of

-- `b[A]` and `c[A]`
abbrev pub int_cell : List ℤ → ℤ → Result ℤ StuckState
int_cell cells i = and_then (place_in i (length cells)) (λ place. Ok (number_at cells place))

abbrev pub text_cell : List (List ℕ) → ℤ → Result (List ℕ) StuckState
text_cell cells i = and_then (place_in i (length cells)) (λ place. Ok (text_at cells place))

-- the cells after a store
abbrev pub stored : {A : Type 0} → List A → ℤ → A → Result (List A) StuckState
stored cells i value = and_then (place_in i (length cells)) (λ place. Ok (set cells place value))

abbrev pub cell_count : Cells → ℕ
cell_count (Ints cells) = length cells
cell_count (Texts cells) = length cells

-- the cells of a block
abbrev pub largest : ℕ
largest = most_elements

abbrev pub size_within : ℕ → ℤ → Result ℕ StuckState
size_within limit (pos n) = if nat_le n limit then Ok n else Err stuck.BlockSize
size_within limit (negsuc n) = Err stuck.BlockSize

-- so many more cells, zeros or empty texts
abbrev pub more_cells : Cells → ℕ → Cells
more_cells (Ints cells) n = Ints (cells ++ replicate n (pos 0))
more_cells (Texts cells) n = Texts (cells ++ replicate n [])

abbrev pub grown : Cells → ℤ → Result Cells StuckState
grown cells count = and_then (size_within (largest - cell_count cells) count) (λ n. Ok (more_cells cells n))

-- new cells
abbrev pub zeros : ℤ → Result Cells StuckState
zeros count = and_then (size_within largest count) (λ n. Ok (Ints (replicate n (pos 0))))

abbrev pub texts_of_length : ℤ → ℤ → Result Cells StuckState
texts_of_length count size = and_then (size_within largest count)
    (λ n. and_then (size_within longest_text size) (λ m. Ok (Texts (replicate n (replicate m 32)))))

-- ---- texts

-- -1, 0 and 1
abbrev pub order_number : Ordering → ℤ
order_number Less = negsuc 0
order_number Equal = pos 0
order_number Greater = pos 1

-- the bytes from one place to another: none where the first is greater, else both are within the text
abbrev pub sub_within : List ℕ → ℤ → ℤ → Result (List ℕ) StuckState
sub_within text (pos from) (pos to) = if nat_le 1 from && nat_le to (length text) then Ok (part_of text from to) else Err
    stuck.OutsideText
sub_within text (pos from) (negsuc to) = Err stuck.OutsideText
sub_within text (negsuc from) to = Err stuck.OutsideText

abbrev pub sub : List ℕ → ℤ → ℤ → Result (List ℕ) StuckState
sub text from to = if int_lt to from then Ok [] else sub_within text from to

-- the bytes from a place on replaced: they are within the text, or there are none
abbrev pub replaced_within : List ℕ → ℤ → List ℕ → Result (List ℕ) StuckState
replaced_within text (pos from) new = if nat_le 1 from && nat_le (from - 1 + length new) (length text) then Ok (over text from new)
    else Err stuck.OutsideText
replaced_within text (negsuc from) new = Err stuck.OutsideText

abbrev pub replaced : List ℕ → ℤ → List ℕ → Result (List ℕ) StuckState
replaced text from [] = Ok text
replaced text from (c ∷ cs) = replaced_within text from (c ∷ cs)

abbrev pub fitted : List ℕ → ℤ → Result (List ℕ) StuckState
fitted text (pos n) = Ok (fit n text)
fitted text (negsuc n) = Err stuck.OutsideText

-- ---- input

-- 0 where an integer is next, 1 at the end, 2 else
abbrev pub look_of : Reading → ℤ
look_of (Integer value used) = pos 0
look_of NoMore = pos 1
look_of NoInteger = pos 2

abbrev pub is_left : List ℕ → Bool
is_left [] = false
is_left (c ∷ cs) = true

-- 1 where the block of a reference lives
abbrev pub is_live : Result Cells StuckState → Bool
is_live (Ok cells) = true
is_live (Err why) = false

-- ---- the right sides of `iN = ..;` and `sN = ..;`

-- f_take, which takes from the input, is a row of its own in the machine; what is given here is the integer
abbrev pub taken : Reading → Result ℤ StuckState
taken (Integer value used) = Ok value
taken NoMore = Err stuck.NoInteger
taken NoInteger = Err stuck.NoInteger

unfoldable pub int_value : State → IntValue → Result ℤ StuckState
int_value s (int.Atom a) = Ok (atom_of s a)
int_value s (int.Operation a op b) = operation op (atom_of s a) (atom_of s b)
int_value s (int.Cell n a) = and_then (ints_at s.blocks (block_at s.now.int_blocks n)) (λ cells. int_cell cells (atom_of s a))
int_value s (int.Wrap a) = Ok (wrapped (atom_of s a))
int_value s (int.Power a b) = power (atom_of s a) (atom_of s b)
int_value s (int.Xor a b) = Ok (int_bit_xor w64 (atom_of s a) (atom_of s b))
int_value s (int.Length t) = Ok (pos (length (text_of s t)))
int_value s (int.Index t u) = Ok (pos (first_place (text_of s t) (text_of s u)))
int_value s (int.Code t) = ok_or (code_of (text_of s t)) stuck.OutsideText
int_value s (int.Compare t u) = Ok (order_number (compare_padded (text_of s t) (text_of s u)))
int_value s (int.Size r) = and_then (cells_at s.blocks (block_of s r)) (λ cells. Ok (pos (cell_count cells)))
int_value s (int.Live r) = Ok (truth (is_live (cells_at s.blocks (block_of s r))))
int_value s int.Depth = Ok (pos (length s.callers))
int_value s int.More = Ok (truth (is_left s.input))
int_value s (int.Look a) = Ok (look_of (next_value (holds (atom_of s a)) s.input))
int_value s (int.Take a) = taken (next_value (holds (atom_of s a)) s.input)

unfoldable pub text_value : State → TextValue → Result (List ℕ) StuckState
text_value s (words.Atom t) = Ok (text_of s t)
text_value s (words.Cell n a) = and_then (texts_at s.blocks (block_at s.now.text_blocks n)) (λ cells. text_cell cells (atom_of s a))
text_value s (words.Join t u) = Ok (text_of s t ++ text_of s u)
text_value s (words.Part t a b) = sub (text_of s t) (atom_of s a) (atom_of s b)
text_value s (words.Over t a u) = replaced (text_of s t) (atom_of s a) (text_of s u)
text_value s (words.Fit t a) = fitted (text_of s t) (atom_of s a)
text_value s (words.Trim t) = Ok (trim (text_of s t))
text_value s (words.Left t) = Ok (adjust_left (text_of s t))
text_value s (words.Right t) = Ok (adjust_right (text_of s t))
text_value s (words.Char a) = ok_or (char_of (atom_of s a)) stuck.NoByte
