-- Whether a value is in the ranges of a CASE: what the tree tells of the scalar that holds it is what the source asks.
use Rattle.std.proofs.Common.{◌≡◌, refl, ap, ◌∙◌, ℕ, ℤ, Bool, true, false, List, [], ◌∷◌}
use Rattle.std.specs.Prelude.{Some, Ok, ◌&&◌, ◌||◌, slice_index_or}
use Rattle.std.specs.List.{list_any}
use Rattle.std.specs.Ordering.{is_eq, is_le, is_ge}
use Rattle.std.proofs.lemmas.Bool.{both_ways}
use Rattle.std.proofs.lemmas.Option.{none-some}
use Rattle.a95_base.specs.declared.scalar.Scalar.{Scalar}
use Rattle.a95_base.specs.declared.scalar.Scalar.TheVariants as scalar
use Rattle.a95_base.specs.Lists.{Every}
use Rattle.f95_unit.specs.declared.operation.BinaryOp.{BinaryOp}
use Rattle.f95_unit.specs.declared.operation.BinaryOp.TheVariants as binary
use Rattle.f95_unit.specs.declared.stmt.Range.{Range}
use Rattle.f95_unit.specs.declared.stmt.Range.TheVariants as range
use Rattle.f95_unit.specs.Plain.{Program}
use Rattle.array_meaning.specs.Values.{nothing, truth_of}
use Rattle.array_meaning.specs.Scalars.{binary_of, compared, is_equivalent}
use Rattle.array_meaning.specs.Trees as trees
use Rattle.array_meaning.specs.Control.{is_in, is_same}
use Rattle.nest_tree.specs.declared.unit.Sort.{Sort}
use Rattle.nest_tree.specs.declared.unit.Sort.TheVariants as sort
use Rattle.nest_tree.specs.Plain.{Tree, Constant, Fixed, Binary}
use Rattle.nest_tree.specs.Sound.{is_sort, sort_if, fits_32_bits}
use Rattle.nest_tree.specs.State.{NestState, given}
use Rattle.nest_tree.specs.Statements.{Caller}
use Rattle.control_lower.specs.Units.{same_tree, in_range, in_ranges}
use Rattle.control_lower.proofs.Stands.{HasSort, kept_in, value, reads_kept}
use Rattle.control_lower.proofs.Operators.{nest_two}
use Rattle.control_lower.proofs.Parts.{literal_value, constant_value, constant_sort}
use Rattle.control_lower.proofs.Premises.{IsRange}

-- ---- what the tree tells

abbrev same_as : Sort → Scalar → Scalar → Bool
same_as sort.Log x y = is_equivalent (truth_of x) (truth_of y)
same_as s x y = is_eq (compared x y)

module _ (constants : List Scalar) (s : Sort) (x : Scalar) where
  abbrev told : Range → Bool
  told (range.One n) = same_as s x (slice_index_or constants n nothing)
  told (range.From n) = is_ge (compared x (slice_index_or constants n nothing))
  told (range.UpTo n) = is_le (compared x (slice_index_or constants n nothing))
  told (range.Between n m) = is_ge (compared x (slice_index_or constants n nothing)) && is_le
      (compared x (slice_index_or constants m nothing))

  abbrev pub told_in : List Range → Bool
  told_in [] = false
  told_in (r ∷ more) = told r || told_in more

module _ (unit : Program) (calls : Caller) (scalls : trees.Caller) (line : ℕ) where
  abbrev Tells : Tree → Bool → NestState → Type 0
  Tells t b n = value unit.constants calls scalls line [] t n ≡ given line (Ok (scalar.Log b)) n

  pub binary_value : (op : BinaryOp) (t u : Tree) (x y : Scalar) (n : NestState)
      → value unit.constants calls scalls line [] t n ≡ given line (Ok x) n
      → value unit.constants calls scalls line [] u n ≡ given line (Ok y) n
      → value unit.constants calls scalls line [] (Binary op t u) n ≡ given line (binary_of op x y) n
  binary_value op t u x y n h g = nest_two line (binary_of op) (Ok x) (Ok y) (value unit.constants calls scalls line [] t)
      (value unit.constants calls scalls line [] u) n h g

  beside : (op : BinaryOp) (sel c : ℕ) (n : NestState)
      → value unit.constants calls scalls line [] (Binary op (Fixed sel) (Constant c)) n
      ≡ given line (binary_of op (kept_in n sel) (slice_index_or unit.constants c nothing)) n
  beside op sel c n = binary_value op (Fixed sel) (Constant c) (kept_in n sel) (slice_index_or unit.constants c nothing) n
      (reads_kept unit.constants calls scalls line [] sel (kept_in n sel) n refl) (constant_value unit calls scalls line c [] n)

  same_told : (s : Sort) (sel c : ℕ) (n : NestState)
      → Tells (same_tree s (Fixed sel) (Constant c)) (same_as s (kept_in n sel) (slice_index_or unit.constants c nothing)) n
  same_told sort.Exact sel c n = beside binary.Equal sel c n
  same_told sort.Int sel c n = beside binary.Equal sel c n
  same_told sort.Log sel c n = beside binary.Equivalent sel c n
  same_told sort.Text sel c n = beside binary.Equal sel c n

  range_told : (s : Sort) (sel : ℕ) (r : Range) (n : NestState)
      → Tells (in_range s (Fixed sel) r) (told unit.constants s (kept_in n sel) r) n
  range_told s sel (range.One c) n = same_told s sel c n
  range_told s sel (range.From c) n = beside binary.GreaterEqual sel c n
  range_told s sel (range.UpTo c) n = beside binary.LessEqual sel c n
  range_told s sel (range.Between c d) n =
      binary_value binary.And (Binary binary.GreaterEqual (Fixed sel) (Constant c))
      (Binary binary.LessEqual (Fixed sel) (Constant d))
      (scalar.Log (is_ge (compared (kept_in n sel) (slice_index_or unit.constants c nothing))))
      (scalar.Log (is_le (compared (kept_in n sel) (slice_index_or unit.constants d nothing)))) n
      (beside binary.GreaterEqual sel c n) (beside binary.LessEqual sel d n)

  pub ranges_told : (s : Sort) (sel : ℕ) (rs : List Range) (n : NestState)
      → Tells (in_ranges s (Fixed sel) rs) (told_in unit.constants s (kept_in n sel) rs) n
  ranges_told s sel [] n = literal_value unit calls scalls line (scalar.Log false) [] n
  ranges_told s sel (r ∷ rs) n =
      binary_value binary.Or (in_range s (Fixed sel) r) (in_ranges s (Fixed sel) rs)
      (scalar.Log (told unit.constants s (kept_in n sel) r))
      (scalar.Log (told_in unit.constants s (kept_in n sel) rs)) n (range_told s sel r n) (ranges_told s sel rs n)

  -- ---- what the source asks

  no_log_by : (b : Bool) → sort_if b sort.Int ≡ Some sort.Log → ⊥
  no_log_by true h = both_ways false refl (ap (λ o. is_sort o sort.Log) h)
  no_log_by false h = none-some sort.Log h

  int_no_log : (z : ℤ) → HasSort sort.Log (scalar.Int z) → ⊥
  int_no_log z h = no_log_by (fits_32_bits z) h

  other_sort : (s t : Sort) → is_sort (Some t) s ≡ false → Some t ≡ Some s → is_sort (Some s) s ≡ true → ⊥
  other_sort s t out h is = both_ways (is_sort (Some t) s) out (ap (λ o. is_sort o s) h ∙ is)

  same_asked : (s : Sort) (x y : Scalar) → HasSort s x → HasSort s y → same_as s x y ≡ is_same x y
  same_asked sort.Exact (scalar.Int z) y h g = refl
  same_asked sort.Exact (scalar.Text bytes) y h g = refl
  same_asked sort.Exact (scalar.Log a) y h g = absurd (other_sort sort.Exact sort.Log refl h refl)
  same_asked sort.Int (scalar.Int z) y h g = refl
  same_asked sort.Int (scalar.Text bytes) y h g = refl
  same_asked sort.Int (scalar.Log a) y h g = absurd (other_sort sort.Int sort.Log refl h refl)
  same_asked sort.Text (scalar.Int z) y h g = refl
  same_asked sort.Text (scalar.Text bytes) y h g = refl
  same_asked sort.Text (scalar.Log a) y h g = absurd (other_sort sort.Text sort.Log refl h refl)
  same_asked sort.Log (scalar.Int z) y h g = absurd (int_no_log z h)
  same_asked sort.Log (scalar.Text bytes) y h g = absurd (other_sort sort.Log sort.Text refl h refl)
  same_asked sort.Log (scalar.Log a) (scalar.Int z) h g = absurd (int_no_log z g)
  same_asked sort.Log (scalar.Log a) (scalar.Text bytes) h g = absurd (other_sort sort.Log sort.Text refl g refl)
  same_asked sort.Log (scalar.Log a) (scalar.Log b) h g = refl

  told_asked : (s : Sort) (x : Scalar) (r : Range) → HasSort s x → IsRange unit.constants s r
      → told unit.constants s x r ≡ is_in unit.constants x r
  told_asked s x (range.One n) h g = same_asked s x (slice_index_or unit.constants n nothing) h
      (constant_sort unit calls scalls line unit.constants n s g)
  told_asked s x (range.From n) h g = refl
  told_asked s x (range.UpTo n) h g = refl
  told_asked s x (range.Between n m) h g = refl

  pub told_is_asked : (s : Sort) (x : Scalar) (rs : List Range) → HasSort s x → Every (IsRange unit.constants s) rs
      → told_in unit.constants s x rs ≡ list_any (is_in unit.constants x) rs
  told_is_asked s x [] h g = refl
  told_is_asked s x (r ∷ rs) h g = rw (told_asked s x r h g.0, told_is_asked s x rs h g.1) refl
