-- Which element an access names in a turn of the nest around: each subscript comes of the turn, and has to lie within its bounds.
use Rattle.std.specs.Prelude.{ℕ, ℤ, pos, negsuc, ◌+◌, ◌*◌, ◌-◌, ◌+ℤ◌, ◌-ℤ◌, ◌*ℤ◌, int_le, unsigned_abs, Bool, true, false, ◌&&◌}
use Rattle.std.specs.Prelude.{nat_le, nat_eq, if◌then◌else◌, Option, Some, None, List, [], ◌∷◌, ◌++◌, map, length, replicate}
use Rattle.std.specs.Prelude.{slice_get, slice_index_or, slice_set}
use Rattle.a95_base.specs.Limits.{most_elements, longest_text}
use Rattle.a95_base.specs.declared.scalar.Scalar.{Scalar}
use Rattle.a95_base.specs.declared.scalar.Scalar.TheVariants as scalar
use Rattle.array_meaning.specs.Values.{integer_of, length_of, size_of}
use Rattle.array_meaning.specs.State.{Dimension as Bounds, dimension, extent_of, extents_of, counted_from_one, Array, Variable}
use Rattle.array_meaning.specs.State.{Substring, bytes_of, changed}
use Rattle.array_meaning.specs.Sections.{is_part, part_bytes}
use Rattle.nest_tree.specs.declared.access.Access.{Access}
use Rattle.nest_tree.specs.declared.access.Along.{Along}
use Rattle.nest_tree.specs.declared.access.Along.TheVariants as along
use Rattle.nest_tree.specs.declared.access.Amount.{Amount}
use Rattle.nest_tree.specs.declared.access.Amount.TheVariants as amounts
use Rattle.nest_tree.specs.declared.access.Dimension.{Dimension}
use Rattle.nest_tree.specs.declared.access.Name.{Name}
use Rattle.nest_tree.specs.declared.access.Name.TheVariants as name
use Rattle.nest_tree.specs.declared.access.Portion.{Portion}
use Rattle.nest_tree.specs.declared.statement.Block.{Block}
use Rattle.nest_tree.specs.declared.statement.Made.{Made}
use Rattle.nest_tree.specs.declared.statement.Made.TheVariants as made
use Rattle.nest_tree.specs.declared.statement.Span.{Span}
use Rattle.nest_tree.specs.declared.tree.Blank.{Blank}
use Rattle.nest_tree.specs.declared.tree.Blank.TheVariants as blank
use Rattle.nest_tree.specs.State.{Setting, Memory, on, where_holds, block_in, with_block, with_list}

-- ---- amounts

abbrev pub amount : Setting → Amount → ℤ
amount st (amounts.Number z) = z
amount st (amounts.Kept k) = integer_of (st.kept k)

-- a count: a negative one is none
abbrev pub natural : ℤ → ℕ
natural (pos n) = n
natural (negsuc n) = 0

-- a count of elements that may be made
abbrev pub count_of : ℤ → Option ℕ
count_of (pos n) = if nat_le n most_elements then Some n else None
count_of (negsuc n) = None

-- an index below a count
abbrev pub index_below : ℕ → ℤ → Option ℕ
index_below count (pos n) = if nat_le (n + 1) count then Some n else None
index_below count (negsuc n) = None

-- ---- subscripts

-- the turn of a loop
abbrev pub at_turn : List ℕ → ℕ → ℕ
at_turn turn loop = slice_index_or turn (loop - 1) 0

abbrev pub entry_of : Option (List ℤ) → ℕ → Option ℤ
entry_of None i = None
entry_of (Some zs) i = slice_get zs i

abbrev pub subscript : Setting → List ℕ → Along → Option ℤ
subscript st turn (along.Alone a) = Some (amount st a)
subscript st turn (along.Steps loop start stride) = Some (amount st start +ℤ pos (at_turn turn loop) *ℤ amount st stride)
subscript st turn (along.Listed loop list) = entry_of (st.lists list) (at_turn turn loop)

-- the number of the element, by one subscript and the number in the dimensions behind
abbrev pub numbered : Bounds → Option ℤ → Option ℕ → Option ℕ
numbered d None rest = None
numbered d (Some z) None = None
numbered d (Some z) (Some n) =
    if int_le d.lower z && int_le z d.upper then Some (unsigned_abs (z -ℤ d.lower) + extent_of d * n) else None

-- the number of the element with these subscripts, where each lies within its bounds
abbrev pub number_within : List Bounds → List (Option ℤ) → Option ℕ
number_within [] [] = Some 0
number_within (d ∷ bounds) (z ∷ zs) = numbered d z (number_within bounds zs)
number_within bounds zs = None

abbrev pub subscripts : Setting → List ℕ → List Dimension → List (Option ℤ)
subscripts st turn dimensions = map (λ d. subscript st turn d.along) dimensions

-- the element that an access names, of an array with these bounds
abbrev pub place : Setting → List ℕ → List Bounds → Access → Option ℕ
place st turn bounds a = number_within bounds (subscripts st turn a.dimensions)

-- ---- one element

abbrev pub portion_of : Setting → Option Portion → Option (ℤ × ℤ)
portion_of st None = None
portion_of st (Some p) = Some (amount st p.first, amount st p.last)

-- what an access aims at: the block, what it holds, the number of the element, and the bytes of it
pub record Aim : Type 0 where
  pub block : Variable
  pub array : Array
  pub number : ℕ
  pub bytes : Substring

abbrev pub aimed_by : Variable → Array → Option (ℤ × ℤ) → ℕ → Option Aim
aimed_by v a part n =
    if is_part (length_of v.blank) part then Some (record { block = v; array = a; number = n; bytes = part_bytes part }) else None

abbrev pub aimed_in : Variable → Setting → List ℕ → Access → Option Aim
aimed_in v st turn a = on v.held (λ held. on (place st turn held.bounds a) (aimed_by v held (portion_of st a.portion)))

abbrev pub aimed : Memory → List ℕ → Access → Option Aim
aimed m turn a = aimed_in (block_in m a.name) m.temps.setting turn a

abbrev pub element_there : Aim → Scalar
element_there aim = bytes_of aim.bytes (slice_index_or aim.array.elements aim.number aim.block.blank)

-- that there is such an element
abbrev pub is_aimed : Memory → List ℕ → Access → Option (Unit {0})
is_aimed m turn a = on (aimed m turn a) (λ aim. Some tt)

abbrev pub looked : Memory → List ℕ → Access → Option Scalar
looked m turn a = on (aimed m turn a) (λ aim. Some (element_there aim))

-- A declared variable keeps the length of its elements, so a text is cut or padded; a block of the lowering keeps what it is given
abbrev pub put_as : Name → Scalar → Substring → Scalar → Scalar → Scalar
put_as (name.Own n) blank bytes old new = changed blank bytes old new
put_as (name.Temp t) blank bytes old new = new

abbrev pub with_element : Name → Aim → Scalar → List Scalar
with_element n aim x = slice_set aim.array.elements aim.number
    (put_as n aim.block.blank aim.bytes (slice_index_or aim.array.elements aim.number aim.block.blank) x)

abbrev pub with_elements : Variable → Array → List Scalar → Variable
with_elements v a xs = record v { held = Some (record a { elements = xs }) }

abbrev pub block_with : Name → Aim → Scalar → Variable
block_with n aim x = with_elements aim.block aim.array (with_element n aim x)

abbrev pub stored : Name → Aim → Scalar → Memory → Memory
stored n aim x m = with_block m n (block_with n aim x)

abbrev pub stored_at : List ℕ → Access → Scalar → Memory → Option Memory
stored_at turn a x m = on (aimed m turn a) (λ aim. Some (stored a.name aim x m))

-- ---- an element by its number

abbrev pub aimed_number : Variable → ℤ → Option Aim
aimed_number v z = on v.held
    (λ a. on (index_below (size_of (extents_of a.bounds)) z)
    (λ n. Some (record { block = v; array = a; number = n; bytes = None })))

abbrev pub cell_of : Variable → ℤ → Option Scalar
cell_of v z = on (aimed_number v z) (λ aim. Some (element_there aim))

abbrev pub stored_cell : Name → ℤ → Scalar → Memory → Option Memory
stored_cell n z x m = on (aimed_number (block_in m n) z) (λ aim. Some (stored n aim x m))

-- ---- blocks

abbrev pub blank_for : Setting → Blank → Scalar
blank_for st blank.Int = scalar.Int (pos 0)
blank_for st blank.Log = scalar.Log false
blank_for st (blank.Text a) = scalar.Text (replicate (natural (amount st a)) 32)

-- the same without characters: what an element is where only a new variable's are filled with blanks
abbrev pub empty_like : Scalar → Scalar
empty_like (scalar.Text bytes) = scalar.Text []
empty_like other = other

abbrev pub first_element : Made → Scalar → Scalar
first_element made.New x = x
first_element other x = empty_like x

-- a length that a text of a new block may have
abbrev pub has_length : Made → Scalar → Bool
has_length made.New x = nat_le (length_of x) longest_text
has_length other x = true

abbrev pub bounds_for : Setting → List Span → List Bounds
bounds_for st spans = map (λ s. dimension (amount st s.lower) (amount st s.upper)) spans

abbrev pub filled : Scalar → Scalar → List Bounds → Variable
filled blank x bounds = record {
  blank = blank;
  held = Some (record {
    bounds = bounds;
    elements =
        replicate (size_of (extents_of bounds)) x;
  });
}

-- the limits on elements and lengths
abbrev pub may_be_made : Made → Scalar → List Bounds → Bool
may_be_made made x bounds = nat_le (size_of (extents_of bounds)) most_elements && has_length made x

abbrev pub new_variable : Made → Scalar → List Bounds → Variable
new_variable made x bounds = filled x (first_element made x) bounds

abbrev pub made_with : Made → Name → Scalar → List Bounds → Memory → Option Memory
made_with made n x bounds m = where_holds (may_be_made made x bounds) (Some (with_block m n (new_variable made x bounds)))

abbrev pub made_block : Block → Memory → Option Memory
made_block b m = made_with b.made b.name (blank_for m.temps.setting b.blank) (bounds_for m.temps.setting b.bounds) m

-- more elements at the end; the block is then one row
abbrev pub grown_by : Variable → Array → ℕ → Option Variable
grown_by v a n = where_holds (nat_le (size_of (extents_of a.bounds) + n) most_elements)
    (Some (record v {
      held = Some (record {
        bounds = counted_from_one ((size_of (extents_of a.bounds) + n) ∷ []);
        elements = a.elements ++ replicate n (empty_like v.blank);
      });
    }))

abbrev pub grown : Name → Amount → Memory → Option Memory
grown n a m = on (block_in m n).held
    (λ held. on (count_of (amount m.temps.setting a))
    (λ count. on (grown_by (block_in m n) held count) (λ v. Some (with_block m n v))))

-- other bounds for as many elements
abbrev pub are_as_many : List Bounds → List Bounds → Bool
are_as_many bounds other = nat_eq (size_of (extents_of bounds)) (size_of (extents_of other))

abbrev pub with_bounds : Variable → Array → List Bounds → Variable
with_bounds v a bounds = record v { held = Some (record a { bounds = bounds }) }

abbrev pub rebound : Name → List Span → Memory → Option Memory
rebound n spans m = on (block_in m n).held
    (λ held. where_holds (are_as_many (bounds_for m.temps.setting spans) held.bounds)
    (Some (with_block m n (with_bounds (block_in m n) held (bounds_for m.temps.setting spans)))))

abbrev pub without_array : Variable → Variable
without_array v = record v { held = None }

abbrev pub emptied : Memory → Name → Memory
emptied m n = with_block m n (without_array (block_in m n))

abbrev pub freed : Name → Memory → Option Memory
freed n m = on (block_in m n).held (λ held. Some (emptied m n))

-- ---- lists of subscripts

abbrev pub made_list : ℕ → Amount → Memory → Option Memory
made_list l a m = on (count_of (amount m.temps.setting a)) (λ n. Some (with_list m l (Some (replicate n (pos 0)))))

abbrev pub stored_entry : ℕ → ℤ → ℤ → Memory → Option Memory
stored_entry l i z m = on (m.temps.setting.lists l)
    (λ zs. on (index_below (length zs) i) (λ n. Some (with_list m l (Some (slice_set zs n z)))))

abbrev pub freed_list : ℕ → Memory → Option Memory
freed_list l m = on (m.temps.setting.lists l) (λ zs. Some (with_list m l None))

abbrev pub list_entry : ℕ → ℤ → Memory → Option Scalar
list_entry l i m = on (m.temps.setting.lists l)
    (λ zs. on (index_below (length zs) i) (λ n. Some (scalar.Int (slice_index_or zs n (pos 0)))))
