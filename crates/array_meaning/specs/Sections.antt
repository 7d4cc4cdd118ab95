-- What of an array a designator names: the list of places, by their numbers, the first dimension fastest.
use Rattle.std.specs.Prelude.{ℕ, ℤ, pos, ◌+ℤ◌, ◌-ℤ◌, ◌*ℤ◌, int_div, int_le, int_lt, unsigned_abs, nat_le, nat_eq, Bool, true, false}
use Rattle.std.specs.Prelude.{not, ◌&&◌, ◌||◌, if◌then◌else◌, Option, Some, None, List, [], ◌∷◌, map, length, slice_index_or}
use Rattle.std.specs.List.{list_all, list_any}
use Rattle.std.specs.Int.{int_max}
use Rattle.std.specs.Ordering.{int_eq}
use Rattle.a95_base.specs.declared.fault.FaultKind.TheVariants as fault
use Rattle.a95_base.specs.Steps.{pure, ◌>>=◌, ◌>>◌}
use Rattle.a95_base.specs.Limits.{most_elements}
use Rattle.a95_base.specs.Lists.{count_to}
use Rattle.array_meaning.specs.Values.{Value, size_of, number_of, choices, length_of}
use Rattle.array_meaning.specs.State.{Dimension, Array, Variable, Step, Substring, bytes_of, extents_of, unless, variable}
use Rattle.array_meaning.specs.State.{allocated_array}

-- MAX(INT((last - first + stride) / stride), 0), in exact integers
abbrev pub triplet_count : ℤ → ℤ → ℤ → ℕ
triplet_count first last stride = unsigned_abs (int_max (int_div (last -ℤ first +ℤ stride) stride) (pos 0))

abbrev pub triplet_values : ℤ → ℤ → ℤ → List ℤ
triplet_values first last stride = map (λ k. first +ℤ pos k *ℤ stride) (count_to (triplet_count first last stride))

-- the subscripts of one dimension
pub data Picked : Type 0 where
  Single : ℤ → Picked
  Listed : List ℤ → Picked
  Stepped : (first last stride : ℤ) → Picked

abbrev pub subscripts_of : Picked → List ℤ
subscripts_of (Single z) = z ∷ []
subscripts_of (Listed zs) = zs
subscripts_of (Stepped first last stride) = triplet_values first last stride

-- a single subscript gives the section no dimension
abbrev pub section_extents : List Picked → List ℕ
section_extents [] = []
section_extents (Single z ∷ more) = section_extents more
section_extents (other ∷ more) = length (subscripts_of other) ∷ section_extents more

abbrev pub has_stride : Picked → Bool
has_stride (Stepped first last stride) = not (int_eq stride (pos 0))
has_stride other = true

abbrev pub is_vector : Picked → Bool
is_vector (Listed zs) = true
is_vector other = false

-- each subscript of each dimension lies within its bounds; a section without places uses no subscript
abbrev pub all_within : List Dimension → List (List ℤ) → Bool
all_within (d ∷ bounds) (zs ∷ more) = list_all (λ z. int_le d.lower z && int_le z d.upper) zs && all_within bounds more
all_within bounds more = true

abbrev pub is_within : List Dimension → List (List ℤ) → Bool
is_within bounds subscripts = nat_eq (size_of (map length subscripts)) 0 || all_within bounds subscripts

-- subscripts as places, counted from 0
abbrev pub from_lower : List Dimension → List (List ℤ) → List (List ℕ)
from_lower (d ∷ bounds) (zs ∷ more) = map (λ z. unsigned_abs (z -ℤ d.lower)) zs ∷ from_lower bounds more
from_lower bounds more = []

-- the bounds of a substring: an empty one may lie anywhere
abbrev pub is_part : ℕ → Option (ℤ × ℤ) → Bool
is_part len None = true
is_part len (Some part) = int_lt part.1 part.0 || (int_le (pos 1) part.0 && int_le part.1 (pos len))

abbrev pub part_bytes : Option (ℤ × ℤ) → Substring
part_bytes None = None
part_bytes (Some part) = if int_lt part.1 part.0 then Some (1, 0) else Some (unsigned_abs part.0, unsigned_abs part.1)

-- the part of a variable that a designator names; `addressed` where it has neither a vector subscript nor a substring, so that
-- it may overlap another actual
pub record Section : Type 0 where
  pub variable : ℕ
  pub extents : List ℕ
  pub places : List ℕ
  pub bytes : Substring
  pub addressed : Bool

abbrev pub is_whole_text : Option (ℤ × ℤ) → Bool
is_whole_text None = true
is_whole_text (Some part) = false

abbrev pub section_of : ℕ → Array → List Picked → Option (ℤ × ℤ) → Section
section_of n a picked part = record {
  variable = n;
  extents = section_extents picked;
  places = map (number_of (extents_of a.bounds)) (choices (from_lower a.bounds (map subscripts_of picked)));
  bytes = part_bytes part;
  addressed = not (list_any is_vector picked) && is_whole_text part;
}

-- a whole array is the section of all its subscripts
abbrev pub all_picked : List Dimension → List Picked
all_picked bounds = map (λ d. Stepped d.lower d.upper (pos 1)) bounds

-- the tests of a designator: strides, then bounds, then the number of places
abbrev pub placed : ℕ → ℕ → Variable → Array → List Picked → Option (ℤ × ℤ) → Step Section
placed line n v a picked part = do
  unless (list_all has_stride picked) fault.ZeroStep line
  unless (is_within a.bounds (map subscripts_of picked) && is_part (length_of v.blank) part) fault.Bounds line
  unless (nat_le (size_of (map (λ p. length (subscripts_of p)) picked)) most_elements) fault.TooLarge line
  pure (section_of n a picked part)

-- the value that stands in a section
abbrev pub section_value : Variable → Array → Section → Value
section_value v a s = record {
  extents = s.extents;
  like = bytes_of s.bytes v.blank;
  elements = map (λ k. bytes_of s.bytes (slice_index_or a.elements k v.blank)) s.places;
}

abbrev pub read_section : ℕ → Section → Step Value
read_section line s = do
  v ← variable s.variable
  a ← allocated_array line v.held
  pure (section_value v a s)

-- no place stands twice
abbrev pub is_one_one : List ℕ → Bool
is_one_one [] = true
is_one_one (k ∷ ks) = not (list_any (nat_eq k) ks) && is_one_one ks
