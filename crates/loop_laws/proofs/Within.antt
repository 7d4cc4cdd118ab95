-- What rows read and change where nothing is wrong.
use Rattle.std.proofs.Common.{◌≡◌, ℕ, ◌<◌, ◌≤◌, ◌-◌, Bool, true, false, Ok, Err, refl, ap, ◌∙◌, arith, ℤ, pos, nat_lt, nat_le}
use Rattle.std.proofs.Common.{if◌then◌else◌, length}
use Rattle.std.specs.Prelude.{set, replicate, not}
use Rattle.std.specs.Ordering.{int_eq}
use Rattle.std.proofs.lemmas.Bool.Decides.{nat_tests, Decides-int_eq}
use Rattle.loop_tree.specs.declared.stuck.StuckState.TheVariants as stuck
use Rattle.loop_tree.specs.State.{Ints, Texts, cells_or_stuck, cells_at, with_cells}
use Rattle.loop_tree.specs.Values.{number_at, text_at, ints_of, texts_of, and_then, place_in, largest, size_within, cell_count}
use Rattle.loop_tree.specs.Values.{more_cells, holds}
use Rattle.loop_tree.specs.Machine.{changed, freed}
use Rattle.loop_laws.specs.Within.{CellsThere, IntsThere, TextsThere, ChangeThere, FreedThere, IntWithin, TextWithin}
use Rattle.loop_laws.specs.Within.{StoreIntWithin, StoreTextWithin, ZerosWithin, TextsWithin, GrownWithin, TruthHolds}
use Rattle.loop_laws.specs.Within.{PositiveHolds}

-- ---- a reference to a living block

pub cells_there : CellsThere
cells_there blocks r n cells named there = ap (cells_at blocks) named ∙ ap cells_or_stuck there

pub ints_there : IntsThere
ints_there blocks r n cells named there = ap (λ c. and_then c ints_of) (cells_there blocks r n (Ints cells) named there)

pub texts_there : TextsThere
texts_there blocks r n cells named there = ap (λ c. and_then c texts_of) (cells_there blocks r n (Texts cells) named there)

pub change_there : ChangeThere
change_there blocks r n cells new change named there is =
    ap (λ o. changed blocks o change) named
    ∙ ap (λ o. and_then (cells_or_stuck o) (λ c. and_then (change c) (λ x. Ok (with_cells blocks n x)))) there
    ∙ ap (λ c. and_then c (λ x. Ok (with_cells blocks n x))) is

pub freed_there : FreedThere
freed_there blocks r n named = ap (freed blocks) named

-- ---- an index within a block

place_there : (z : ℤ) (i n : ℕ) → z ≡ pos i → i < n → place_in z n ≡ Ok i
place_there z i n is h =
    let within : nat_lt i n ≡ true = grind (arith, nat_tests) in
    ap (λ x. place_in x n) is ∙ ap (λ (t : Bool). if t then Ok i else Err stuck.OutsideBlock) within

pub int_within : IntWithin
int_within cells z i is h = ap (λ r. and_then r (λ place. Ok (number_at cells place))) (place_there z i (length cells) is h)

pub text_within : TextWithin
text_within cells z i is h = ap (λ r. and_then r (λ place. Ok (text_at cells place))) (place_there z i (length cells) is h)

pub store_int_within : StoreIntWithin
store_int_within cells z value i is h =
    ap (λ r. and_then (and_then r (λ place. Ok (set cells place value))) (λ new. Ok (Ints new)))
    (place_there z i (length cells) is h)

pub store_text_within : StoreTextWithin
store_text_within cells z value i is h =
    ap (λ r. and_then (and_then r (λ place. Ok (set cells place value))) (λ new. Ok (Texts new)))
    (place_there z i (length cells) is h)

-- ---- a size that is allowed

size_there : (limit : ℕ) (z : ℤ) (n : ℕ) → z ≡ pos n → n ≤ limit → size_within limit z ≡ Ok n
size_there limit z n is h =
    let within : nat_le n limit ≡ true = grind (arith, nat_tests) in
    ap (size_within limit) is ∙ ap (λ (t : Bool). if t then Ok n else Err stuck.BlockSize) within

pub zeros_within : ZerosWithin
zeros_within z n is h = ap (λ r. and_then r (λ m. Ok (Ints (replicate m (pos 0))))) (size_there largest z n is h)

pub texts_within : TextsWithin
texts_within z size n m is wide h k =
    ap (λ r. and_then r (λ a. and_then (size_within 255 size) (λ b. Ok (Texts (replicate a (replicate b 32))))))
    (size_there largest z n is h)
    ∙ ap (λ r. and_then r (λ b. Ok (Texts (replicate n (replicate b 32))))) (size_there 255 size m wide k)

pub grown_within : GrownWithin
grown_within cells z n is h = ap (λ r. and_then r (λ m. Ok (more_cells cells m)))
    (size_there (largest - cell_count cells) z n is h)

-- ---- conditions

pub truth_holds : TruthHolds
truth_holds true = refl
truth_holds false = refl

not_zero : (n : ℕ) → 0 < n → (b : Bool) → int_eq (pos n) (pos 0) ≡ b → b ≡ false
not_zero n h true e = let same : pos n ≡ pos 0 = (Decides-int_eq (pos n) (pos 0)).0 e in let none : n
    ≡ 0 = cc in absurd (omega arith)
not_zero n h false e = refl

pub positive_holds : PositiveHolds
positive_holds z n is h = ap holds is ∙ ap not (not_zero n h (int_eq (pos n) (pos 0)) refl)
