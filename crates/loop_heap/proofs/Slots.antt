-- The living blocks of slots whose numbers rise: what a number finds among them, and what changes of one slot do.
use Rattle.std.proofs.Common.{◌≡◌, ◌≢◌, ◌⊎◌, ℕ, zero, suc, ◌+◌, ◌-◌, ◌<◌, ◌≤◌, ◌==◌, Bool, true, false, not, List, [], ◌∷◌, ◌++◌}
use Rattle.std.proofs.Common.{length, get_or, set, take, filter, Option, None, Some, Result, Ok, Err, if◌then◌else◌, refl, sym}
use Rattle.std.proofs.Common.{ap, ◌∙◌, subst, inl, inr, append_assoc, append-nil, arith, nat_lt}
use Rattle.std.specs.Prelude.{slice_get, is_some, IsSome}
use Rattle.std.proofs.lemmas.Bool.{cases_lt}
use Rattle.std.proofs.lemmas.Bool.Decides.{nat_tests}
use Rattle.std.proofs.lemmas.List.{map-append, get_or_default}
use Rattle.std.proofs.lemmas.List.Elements.{filter-append}
use Rattle.std.proofs.lemmas.Option.{slice_get-get_or, slice_get_past}
use Rattle.a95_base.proofs.Tests.{equals_itself}
use Rattle.loop_tree.specs.declared.stuck.StuckState.{StuckState}
use Rattle.loop_tree.specs.declared.stuck.StuckState.TheVariants as stuck
use Rattle.loop_tree.specs.State.{Cells, Block, cells_numbered, cells_or_stuck, cells_at, with_cells, without, made_before}
use Rattle.loop_tree.specs.Values.{and_then, is_live}
use Rattle.loop_tree.specs.Machine.{changed, freed}
use Rattle.loop_heap.specs.Heap.{Heap, with_made}
use Rattle.loop_heap.specs.Slots.{Kept, block_of, living, is_living, IsRising, IsPlace, changed_slot, slot_cells, without_cells}
use Rattle.loop_heap.proofs.Ends.{take_end}

-- ---- a number that no block has

abbrev pub Lacks : ℕ → List Block → Type 0
Lacks n [] = Unit {0}
Lacks n (b ∷ bs) = ((b.number == n) ≡ false) × Lacks n bs

pub Lacks-append : (n : ℕ) (xs ys : List Block) → Lacks n xs → Lacks n ys → Lacks n (xs ++ ys)
Lacks-append n [] ys p q = q
Lacks-append n (b ∷ bs) ys p q = (p.0, Lacks-append n bs ys p.1 q)

pub numbered_lacks : (n : ℕ) (bs : List Block) → Lacks n bs → cells_numbered bs n ≡ None
numbered_lacks n [] p = refl
numbered_lacks n (b ∷ bs) p = rw p.0 (numbered_lacks n bs p.1)

pub numbered_front : (n : ℕ) (xs ys : List Block) → Lacks n xs → cells_numbered (xs ++ ys) n ≡ cells_numbered ys n
numbered_front n [] ys p = refl
numbered_front n (b ∷ bs) ys p = rw p.0 (numbered_front n bs ys p.1)

pub numbered_back : (n : ℕ) (xs ys : List Block) → Lacks n ys → cells_numbered (xs ++ ys) n ≡ cells_numbered xs n
numbered_back n [] ys p = numbered_lacks n ys p
numbered_back n (b ∷ bs) ys p = ap (λ r. if b.number == n then Some b.cells else r) (numbered_back n bs ys p)

pub with_cells_lacks : (n : ℕ) (c : Cells) (bs : List Block) → Lacks n bs → with_cells bs n c ≡ bs
with_cells_lacks n c [] p = refl
with_cells_lacks n c (b ∷ bs) p = rw p.0 (ap (λ r. b ∷ r) (with_cells_lacks n c bs p.1))

pub without_lacks : (n : ℕ) (bs : List Block) → Lacks n bs → without bs n ≡ bs
without_lacks n [] p = refl
without_lacks n (b ∷ bs) p = rw p.0 (ap (λ r. b ∷ r) (without_lacks n bs p.1))

-- ---- numbers that rise

pub living-append : (xs ys : List Kept) → living (xs ++ ys) ≡ living ys ++ living xs
living-append [] ys = sym (append-nil (living ys))
living-append (k ∷ ks) ys =
    ap (λ r. r ++ block_of k.number k.cells) (living-append ks ys) ∙
    append_assoc (living ys) (living ks) (block_of k.number k.cells)

pub rising_le : (low top : ℕ) (ks : List Kept) → IsRising low top ks → low ≤ top
rising_le low top [] h = h
rising_le low top (k ∷ ks) h = let rest : k.number + 1 ≤ top = rising_le (k.number + 1) top ks h.1 in omega arith

pub rising_from : (low top : ℕ) (ks : List Kept) (i : ℕ) (d : Kept) → IsRising low top ks → i < length ks →
    low ≤ (get_or ks i d).number
rising_from low top [] i d h below = absurd (omega arith)
rising_from low top (k ∷ ks) zero d h below = h.0
rising_from low top (k ∷ ks) (suc i) d h below =
    let rest : k.number + 1 ≤ (get_or ks i d).number = rising_from (k.number + 1) top ks i d h.1 (omega arith) in
    omega (arith, h.0)

pub rising_pairs : (low top : ℕ) (ks : List Kept) (i j : ℕ) (d : Kept) → IsRising low top ks → i ≤ j → j < length ks →
    (get_or ks i d).number ≤ (get_or ks j d).number
rising_pairs low top [] i j d h order below = absurd (omega arith)
rising_pairs low top (k ∷ ks) zero zero d h order below = omega arith
rising_pairs low top (k ∷ ks) (suc i) zero d h order below = absurd (omega arith)
rising_pairs low top (k ∷ ks) zero (suc j) d h order below =
    let rest : k.number + 1 ≤ (get_or ks j d).number = rising_from (k.number + 1) top ks j d h.1 (omega arith) in omega arith
rising_pairs low top (k ∷ ks) (suc i) (suc j) d h order below =
    rising_pairs (k.number + 1) top ks i j d h.1 (omega arith) (omega arith)

pub rising_push : (low top : ℕ) (ks : List Kept) (k : Kept) → IsRising low top ks → k.number ≡ top →
    IsRising low (top + 1) (ks ++ k ∷ [])
rising_push low top [] k h e = (omega arith, omega arith)
rising_push low top (x ∷ ks) k h e = (h.0, rising_push (x.number + 1) top ks k h.1 e)

-- without the last one, they are below it
pub rising_last : (low top : ℕ) (ks : List Kept) (k : Kept) → IsRising low top (ks ++ k ∷ []) → IsRising low k.number ks
rising_last low top [] k h = h.0
rising_last low top (x ∷ ks) k h = (h.0, rising_last (x.number + 1) top ks k h.1)

pub rising_lower : (less low top : ℕ) (ks : List Kept) → IsRising low top ks → less ≤ low → IsRising less top ks
rising_lower less low top [] h e = omega arith
rising_lower less low top (k ∷ ks) h e = (omega (arith, h.0), h.1)

pub rising_set : (low top : ℕ) (ks : List Kept) (i : ℕ) (k new : Kept) → IsRising low top ks → k ≡ get_or ks i k →
    new.number ≡ k.number → IsRising low top (set ks i new)
rising_set low top [] i k new h is e = h
rising_set low top (x ∷ ks) zero k new h is e =
    let same : x.number ≡ new.number = sym (e ∙ ap (λ (s : Kept). s.number) is) in
    (subst (λ n. low ≤ n) same h.0, subst (λ n. IsRising (n + 1) top ks) same h.1)
rising_set low top (x ∷ ks) (suc i) k new h is e = (h.0, rising_set (x.number + 1) top ks i k new h.1 is e)

pub rising_filter : (test : Kept → Bool) (low top : ℕ) (ks : List Kept) → IsRising low top ks → IsRising low top (filter test ks)
rising_filter test low top [] h = h
rising_filter test low top (k ∷ ks) h =
    let rest : IsRising (k.number + 1) top (filter test ks) = rising_filter test (k.number + 1) top ks h.1 in
    elim (test k) as (λ b. IsRising low top (if b then k ∷ filter test ks else filter test ks))
    [ true ↦ (h.0, rest) | false ↦ rising_lower low (k.number + 1) top (filter test ks) rest (omega (arith, h.0)) ]

-- ---- numbers that no slot has

pub lacks_block : (n m : ℕ) (cells : Option Cells) → ((m == n) ≡ false) → Lacks n (block_of m cells)
lacks_block n m None h = tt
lacks_block n m (Some cells) h = (h, tt)

pub lacks_below : (n low top : ℕ) (ks : List Kept) → IsRising low top ks → n < low → Lacks n (living ks)
lacks_below n low top [] h less = tt
lacks_below n low top (k ∷ ks) h less =
    let other : (k.number == n) ≡ false = grind (arith, nat_tests, h.0) in
    Lacks-append n (living ks) (block_of k.number k.cells) (lacks_below n (k.number + 1) top ks h.1 (omega (arith, h.0)))
    (lacks_block n k.number k.cells other)

-- no slot has the number, as each place says
abbrev pub Misses : ℕ → List Kept → Type 0
Misses n ks = (i : ℕ) (d : Kept) → i < length ks → (get_or ks i d).number ≢ n

pub lacks_missed : (n : ℕ) (ks : List Kept) → Misses n ks → Lacks n (living ks)
lacks_missed n [] h = tt
lacks_missed n (k ∷ ks) h =
    let differs : k.number ≢ n = h 0 k (omega arith) in
    let other : (k.number == n) ≡ false = grind (arith, nat_tests) in
    Lacks-append n (living ks) (block_of k.number k.cells) (lacks_missed n ks (λ i d below. h (suc i) d (omega arith)))
    (lacks_block n k.number k.cells other)

-- ---- the slot of a number

numbered_block : (n : ℕ) (cells : Option Cells) → cells_numbered (block_of n cells) n ≡ cells
numbered_block n None = refl
numbered_block n (Some cells) = rw (equals_itself n)

pub numbered_at : (low top : ℕ) (ks : List Kept) (i : ℕ) (d : Kept) → IsRising low top ks → i < length ks
    → cells_numbered (living ks) (get_or ks i d).number ≡ (get_or ks i d).cells
numbered_at low top [] i d h below = absurd (omega arith)
numbered_at low top (k ∷ ks) zero d h below =
    numbered_front k.number (living ks) (block_of k.number k.cells) (lacks_below k.number (k.number + 1) top ks h.1 (omega arith))
    ∙ numbered_block k.number k.cells
numbered_at low top (k ∷ ks) (suc i) d h below =
    let n = (get_or ks i d).number in
    let from : k.number + 1 ≤ n = rising_from (k.number + 1) top ks i d h.1 (omega arith) in
    let other : (k.number == n) ≡ false = grind (arith, nat_tests) in
    numbered_back n (living ks) (block_of k.number k.cells) (lacks_block n k.number k.cells other)
    ∙ numbered_at (k.number + 1) top ks i d h.1 (omega arith)

-- a change of the blocks of one number alone is a change of one slot
slot_changed : (change : List Block → List Block) (low top : ℕ) (ks : List Kept) (i : ℕ) (d : Kept) (new : Option Cells)
    → ((xs ys : List Block) → change (xs ++ ys) ≡ change xs ++ change ys) →
    ((bs : List Block) → Lacks (get_or ks i d).number bs → change bs ≡ bs)
    → change (block_of (get_or ks i d).number (get_or ks i d).cells) ≡ block_of (get_or ks i d).number new →
    IsRising low top ks → i < length ks
    → change (living ks) ≡ living (set ks i (record { number = (get_or ks i d).number; cells = new }))
slot_changed change low top [] i d new parts others here h below = absurd (omega arith)
slot_changed change low top (k ∷ ks) zero d new parts others here h below =
    parts (living ks) (block_of k.number k.cells)
    ∙ ap (λ r. r ++ change (block_of k.number k.cells))
    (others (living ks) (lacks_below k.number (k.number + 1) top ks h.1 (omega arith)))
    ∙ ap (λ r. living ks ++ r) here
slot_changed change low top (k ∷ ks) (suc i) d new parts others here h below =
    let n = (get_or ks i d).number in
    let from : k.number + 1 ≤ n = rising_from (k.number + 1) top ks i d h.1 (omega arith) in
    let other : (k.number == n) ≡ false = grind (arith, nat_tests) in
    parts (living ks) (block_of k.number k.cells)
    ∙ ap (λ r. change (living ks) ++ r) (others (block_of k.number k.cells) (lacks_block n k.number k.cells other))
    ∙ ap (λ r. r ++ block_of k.number k.cells)
    (slot_changed change (k.number + 1) top ks i d new parts others here h.1 (omega arith))

with_cells_block : (n : ℕ) (c old : Cells) → with_cells (block_of n (Some old)) n c ≡ block_of n (Some c)
with_cells_block n c old = rw (equals_itself n)

-- other cells of one slot
pub with_cells_at : (low top : ℕ) (ks : List Kept) (i : ℕ) (d : Kept) (old c : Cells) → IsRising low top ks → i < length ks →
    (get_or ks i d).cells ≡ Some old
    → with_cells (living ks) (get_or ks i d).number c
    ≡ living (set ks i (record { number = (get_or ks i d).number; cells = Some c }))
with_cells_at low top ks i d old c h below e =
    let n = (get_or ks i d).number in
    let here : with_cells (block_of n (get_or ks i d).cells) n c ≡ block_of n (Some c) =
    ap (λ cells. with_cells (block_of n cells) n c) e ∙ with_cells_block n c old in
    slot_changed (λ bs. with_cells bs n c) low top ks i d (Some c)
    (map-append (λ (b : Block). if b.number == n then record { number = n; cells = c } else b)) (with_cells_lacks n c) here h
    below

without_block : (n : ℕ) (cells : Option Cells) → without (block_of n cells) n ≡ []
without_block n None = refl
without_block n (Some cells) = rw (equals_itself n)

-- one slot is freed
pub without_at : (low top : ℕ) (ks : List Kept) (i : ℕ) (d : Kept) → IsRising low top ks → i < length ks
    → without (living ks) (get_or ks i d).number ≡ living (set ks i (record { number = (get_or ks i d).number; cells = None }))
without_at low top ks i d h below =
    let n = (get_or ks i d).number in
    slot_changed (λ bs. without bs n) low top ks i d None (filter-append (λ (b : Block). not (b.number == n))) (without_lacks n)
    (without_block n (get_or ks i d).cells) h below

-- ---- blocks from a number on

made_before-append : (mark : ℕ) (xs ys : List Block) → made_before (xs ++ ys) mark ≡ made_before xs mark ++ made_before ys mark
made_before-append mark xs ys = filter-append (λ (b : Block). nat_lt b.number mark) xs ys

made_before_block : (mark n : ℕ) (cells : Option Cells) → (nat_lt n mark ≡ true) →
    made_before (block_of n cells) mark ≡ block_of n cells
made_before_block mark n None h = refl
made_before_block mark n (Some cells) h = rw h

made_after_block : (mark n : ℕ) (cells : Option Cells) → (nat_lt n mark ≡ false) → made_before (block_of n cells) mark ≡ []
made_after_block mark n None h = refl
made_after_block mark n (Some cells) h = rw h

pub made_before_all : (mark low top : ℕ) (ks : List Kept) → IsRising low top ks → top ≤ mark →
    made_before (living ks) mark ≡ living ks
made_before_all mark low top [] h e = refl
made_before_all mark low top (k ∷ ks) h e =
    let upto : k.number + 1 ≤ top = rising_le (k.number + 1) top ks h.1 in
    let within : nat_lt k.number mark ≡ true = grind (arith, nat_tests) in
    made_before-append mark (living ks) (block_of k.number k.cells)
    ∙ ap (λ r. r ++ made_before (block_of k.number k.cells) mark) (made_before_all mark (k.number + 1) top ks h.1 e)
    ∙ ap (λ r. living ks ++ r) (made_before_block mark k.number k.cells within)

pub made_before_pop : (mark : ℕ) (ks : List Kept) (k : Kept) → mark ≤ k.number →
    made_before (living (ks ++ k ∷ [])) mark ≡ made_before (living ks) mark
made_before_pop mark ks k e =
    let past : nat_lt k.number mark ≡ false = grind (arith, nat_tests) in
    ap (λ bs. made_before bs mark) (living-append ks (k ∷ []))
    ∙ made_before-append mark (block_of k.number k.cells) (living ks)
    ∙ ap (λ r. r ++ made_before (living ks) mark) (made_after_block mark k.number k.cells past)

-- ---- slots that were freed

pub living_pop_hole : (ks : List Kept) (k : Kept) → k.cells ≡ None → living (ks ++ k ∷ []) ≡ living ks
living_pop_hole ks k e = living-append ks (k ∷ []) ∙ ap (λ c. block_of k.number c ++ living ks) e

living_kept : (n : ℕ) (cells : Option Cells) (ks : List Kept) → living (filter is_living ks) ≡ living ks
    → living (filter is_living (record { number = n; cells = cells } ∷ ks)) ≡ living ks ++ block_of n cells
living_kept n None ks h = h ∙ sym (append-nil (living ks))
living_kept n (Some cells) ks h = ap (λ bs. bs ++ block_of n (Some cells)) h

pub living_filter : (ks : List Kept) → living (filter is_living ks) ≡ living ks
living_filter [] = refl
living_filter (k ∷ ks) = living_kept k.number k.cells ks (living_filter ks)

-- ---- the place of a reference

cells_of_number : (bs : List Block) (n : ℕ) (cells : Option Cells) → cells_numbered bs n ≡ cells →
    cells_at bs (Some n) ≡ cells_or_stuck cells
cells_of_number bs n cells e = ap cells_or_stuck e

pub place_cells : (top : ℕ) (ks : List Kept) (link : Option ℕ) (at : ℕ) (d : Kept) → IsRising 0 top ks → IsPlace ks link at →
    at < length ks
    → cells_at (living ks) link ≡ cells_or_stuck (get_or ks at d).cells
place_cells top ks link at d rises place below =
    ap (cells_at (living ks)) (place.found d below)
    ∙ cells_of_number (living ks) (get_or ks at d).number (get_or ks at d).cells (numbered_at 0 top ks at d rises below)

-- a search that met every number
pub no_place : (ks : List Kept) (n : ℕ) → Misses n ks → IsPlace ks (Some n) (length ks)
no_place ks n h = record {
  found = λ d below. absurd (omega arith);
  none = λ past. cells_of_number (living ks) n None (numbered_lacks n (living ks) (lacks_missed n ks h));
}

-- ---- other cells of one slot

change_all : (top : ℕ) (ks : List Kept) (at : ℕ) (d : Kept) (f : Cells → Result Cells StuckState) (cells : Option Cells) →
    IsRising 0 top ks → at < length ks
    → (get_or ks at d).cells ≡ cells
    → changed (living ks) (Some (get_or ks at d).number) f
    ≡ and_then (and_then (cells_or_stuck cells)
    (λ old. and_then (f old) (λ new. Ok (record { number = (get_or ks at d).number; cells = Some new }))))
    (λ k. Ok (living (set ks at k)))
change_all top ks at d f None rises below e =
    ap (λ c. and_then (cells_or_stuck c)
    (λ old. and_then (f old) (λ new. Ok (with_cells (living ks) (get_or ks at d).number new))))
    (numbered_at 0 top ks at d rises below ∙ e)
change_all top ks at d f (Some old) rises below e =
    ap (λ c. and_then (cells_or_stuck c)
    (λ old. and_then (f old) (λ new. Ok (with_cells (living ks) (get_or ks at d).number new))))
    (numbered_at 0 top ks at d rises below ∙ e)
    ∙ elim (f old) as (λ r. and_then r (λ new. Ok (with_cells (living ks) (get_or ks at d).number new))
    ≡ and_then (and_then r (λ new. Ok (record { number = (get_or ks at d).number; cells = Some new })))
    (λ k. Ok (living (set ks at k))))
    [ Ok new ↦ ap Ok (with_cells_at 0 top ks at d old new rises below e) | Err why ↦ refl ]

-- what the blocks are after a change of the slot that a reference leads to
pub changed_blocks : {h : Heap} {top : ℕ} {ks : List Kept} {link : Option ℕ} {at : ℕ} {k : Kept}
    (f : Cells → Result Cells StuckState) → record { blocks = living ks; made = top } ≡ h
    → IsRising 0 top ks → IsPlace ks link at → at < length ks → k ≡ get_or ks at k
    → changed h.blocks link f ≡ and_then (changed_slot k f) (λ new. Ok (living (set ks at new)))
changed_blocks {h} {top} {ks} {link} {at} {k} f view rises place below is =
    ap (λ (x : Heap). changed x.blocks link f) (sym view)
    ∙ ap (λ l. changed (living ks) l f) (place.found k below)
    ∙ change_all top ks at k f (get_or ks at k).cells rises below refl
    ∙ ap (λ x. and_then (changed_slot x f) (λ new. Ok (living (set ks at new)))) (sym is)

-- ---- the end of the slots

pub rising_take : (low top n : ℕ) (ks : List Kept) → IsRising low top ks → IsRising low top (take n ks)
rising_take low top zero ks h = rising_le low top ks h
rising_take low top (suc n) [] h = h
rising_take low top (suc n) (k ∷ ks) h = (h.0, rising_take (k.number + 1) top n ks h.1)

-- the last of the first slots
slot_end : (ks : List Kept) (end : ℕ) (k : Kept) → 0 < end → end ≤ length ks → k ≡ get_or ks (end - 1) k →
    take end ks ≡ take (end - 1) ks ++ k ∷ []
slot_end ks end k some within is = take_end ks end k some within ∙ ap (λ x. take (end - 1) ks ++ x ∷ []) (sym is)

-- ---- a slot read by `get`

nothing : Kept
nothing = record { number = 0; cells = None }

-- the cells that a reference leads to
pub place_slot : {h : Heap} {top : ℕ} {ks : List Kept} {link : Option ℕ} {at : ℕ} →
    record { blocks = living ks; made = top } ≡ h → IsRising 0 top ks → IsPlace ks link at
    → cells_at h.blocks link ≡ slot_cells (slice_get ks at)
place_slot {h} {top} {ks} {link} {at} view rises place = ap (λ (x : Heap). cells_at x.blocks link) (sym view) ∙
    by_order (cases_lt at (length ks))
  where
    by_order : (at < length ks) ⊎ (length ks ≤ at) → cells_at (living ks) link ≡ slot_cells (slice_get ks at)
    by_order (inl below) = place_cells top ks link at nothing rises place below ∙
        ap slot_cells (sym (slice_get-get_or ks at nothing below))
    by_order (inr past) = place.none past ∙ ap slot_cells (sym (slice_get_past ks at past))

without_slot : (ks : List Kept) (at : ℕ) (d : Kept) → at < length ks →
    set ks at (record { number = (get_or ks at d).number; cells = None }) ≡ without_cells ks at
without_slot [] at d below = absurd (omega arith)
without_slot (k ∷ ks) zero d below = refl
without_slot (k ∷ ks) (suc at) d below = ap (λ r. k ∷ r) (without_slot ks at d (omega arith))

pub rising_without : (low top : ℕ) (ks : List Kept) (at : ℕ) → IsRising low top ks → IsRising low top (without_cells ks at)
rising_without low top [] at h = h
rising_without low top (k ∷ ks) zero h = h
rising_without low top (k ∷ ks) (suc at) h = (h.0, rising_without (k.number + 1) top ks at h.1)

-- the block of a place is freed, where one lives there
pub free_place : {h : Heap} {top : ℕ} {ks : List Kept} {link : Option ℕ} {at : ℕ} →
    record { blocks = living ks; made = top } ≡ h → IsRising 0 top ks → IsPlace ks link at
    → is_live (slot_cells (slice_get ks at)) ≡ true → living (without_cells ks at) ≡ freed h.blocks link
free_place {h} {top} {ks} {link} {at} view rises place live = by_order (cases_lt at (length ks)) ∙
    ap (λ (x : Heap). freed x.blocks link) view
  where
    by_order : (at < length ks) ⊎ (length ks ≤ at) → living (without_cells ks at) ≡ freed (living ks) link
    by_order (inl below) =
        ap living (sym (without_slot ks at nothing below))
        ∙ sym (without_at 0 top ks at nothing rises below)
        ∙ ap (freed (living ks)) (sym (place.found nothing below))
    by_order (inr past) =
        let none : is_live (slot_cells (slice_get ks at)) ≡ false = ap (λ o. is_live (slot_cells o)) (slice_get_past ks at past) in
        absurd (cc)

-- ---- in the words of the code

pub before_drop : (mark : ℕ) (ks : List Kept) (end : ℕ) (k : Kept) → 0 < end → end ≤ length ks → k ≡ get_or ks (end - 1) k →
    mark ≤ k.number
    → made_before (living (take end ks)) mark ≡ made_before (living ks) mark → made_before (living (take (end - 1) ks)) mark
    ≡ made_before (living ks) mark
before_drop mark ks end k some within is past before =
    sym (ap (λ xs. made_before (living xs) mark) (slot_end ks end k some within is) ∙
    made_before_pop mark (take (end - 1) ks) k past) ∙ before

pub before_stop : (mark top : ℕ) (ks : List Kept) (end : ℕ) (k : Kept) → IsRising 0 top ks → 0 < end → end ≤ length ks →
    k ≡ get_or ks (end - 1) k → k.number < mark
    → made_before (living (take end ks)) mark ≡ made_before (living ks) mark → living (take end ks) ≡ made_before (living ks) mark
before_stop mark top ks end k rises some within is less before =
    let last : take end ks ≡ take (end - 1) ks ++ k ∷ [] = slot_end ks end k some within is in
    let low : IsRising 0 k.number (take (end - 1) ks) =
    rising_last 0 top (take (end - 1) ks) k (subst (IsRising 0 top) last (rising_take 0 top end ks rises)) in
    let all : IsRising 0 (k.number + 1) (take end ks) =
    subst (IsRising 0 (k.number + 1)) (sym last) (rising_push 0 k.number (take (end - 1) ks) k low refl) in
    sym (made_before_all mark 0 (k.number + 1) (take end ks) all (omega arith)) ∙ before

no_cells : (o : Option Cells) → is_some o ≡ false → o ≡ None
no_cells None h = refl
no_cells (Some c) h = absurd (cc)

pub hole_drop : (ks : List Kept) (end : ℕ) (k : Kept) → 0 < end → end ≤ length ks → k ≡ get_or ks (end - 1) k → is_living k ≡ false
    → living (take end ks) ≡ living ks → living (take (end - 1) ks) ≡ living ks
hole_drop ks end k some within is hole before =
    sym (ap living (slot_end ks end k some within is) ∙ living_pop_hole (take (end - 1) ks) k (no_cells k.cells hole)) ∙ before

-- what a search by halves knows
pub less_on : (top : ℕ) (ks : List Kept) (middle n : ℕ) (k : Kept) → IsRising 0 top ks → middle < length ks →
    k ≡ get_or ks middle k → k.number < n
    → (i : ℕ) (d : Kept) → i < middle + 1 → (get_or ks i d).number < n
less_on top ks middle n k rises within is less i d below =
    let order : (get_or ks i d).number ≤ (get_or ks middle d).number =
    rising_pairs 0 top ks i middle d rises (omega arith) within in
    let same : (get_or ks middle d).number ≡ k.number =
    ap (λ (x : Kept). x.number) (get_or_default ks middle d k within ∙ sym is) in
    omega arith

pub more_on : (top : ℕ) (ks : List Kept) (middle n : ℕ) (k : Kept) → IsRising 0 top ks → middle < length ks →
    k ≡ get_or ks middle k → n < k.number
    → (i : ℕ) (d : Kept) → middle ≤ i → i < length ks → n < (get_or ks i d).number
more_on top ks middle n k rises within is more i d from below =
    let order : (get_or ks middle d).number ≤ (get_or ks i d).number = rising_pairs 0 top ks middle i d rises from below in
    let same : (get_or ks middle d).number ≡ k.number =
    ap (λ (x : Kept). x.number) (get_or_default ks middle d k within ∙ sym is) in
    omega arith

pub missed : (ks : List Kept) (low high n : ℕ) → high ≤ low → ((i : ℕ) (d : Kept) → i < low → (get_or ks i d).number < n)
    → ((i : ℕ) (d : Kept) → high ≤ i → i < length ks → n < (get_or ks i d).number) → Misses n ks
missed ks low high n met less more i d below = by_order (cases_lt i low)
  where
    by_order : (i < low) ⊎ (low ≤ i) → (get_or ks i d).number ≢ n
    by_order (inl before) = let under : (get_or ks i d).number < n = less i d before in omega arith
    by_order (inr from) = let above : n < (get_or ks i d).number = more i d (omega arith) below in omega arith

-- a slot is freed where it stands
pub free_slot : (ks : List Kept) (at : ℕ) (k new : Kept) → at < length ks → k ≡ get_or ks at k → new.number ≡ k.number →
    new.cells ≡ None → set ks at new ≡ without_cells ks at
free_slot ks at k new below is number cells =
    let same : new ≡ record { number = (get_or ks at k).number; cells = None } =
    ap (λ n. record { number = n; cells = new.cells }) (number ∙ ap (λ (x : Kept). x.number) is) ∙
    ap (λ c. record { number = (get_or ks at k).number; cells = c }) cells in
    ap (set ks at) same ∙ without_slot ks at k below

-- a block that is made
pub add_living : {h : Heap} {made : ℕ} (ks : List Kept) (cells : Option Cells) (k : Kept) →
    record { blocks = living ks; made = made } ≡ h → IsSome cells → k.number ≡ made → k.cells ≡ cells
    → with_made h (cells_or_stuck cells) ≡ Ok (record { blocks = living (ks ++ k ∷ []); made = made + 1 })
add_living ks None k view some number is = cc some
add_living {h} {made} ks (Some cells) k view some number is =
    let block : block_of k.number k.cells ≡ block_of made (Some cells) = ap (λ n. block_of n k.cells) number ∙
    ap (block_of made) is in
    let blocks : living (ks ++ k ∷ []) ≡ block_of made (Some cells) ++ living ks = living-append ks (k ∷ []) ∙
    ap (λ bs. bs ++ living ks) block in
    ap (λ (x : Heap). with_made x (Ok cells)) (sym view) ∙ ap (λ bs. Ok (record { blocks = bs; made = made + 1 })) (sym blocks)

dead_is : (r : Result Cells StuckState) (o : Option Kept) → r ≡ slot_cells o → is_live (slot_cells o) ≡ false →
    r ≡ Err stuck.NoBlock
dead_is r None e h = e
dead_is r (Some k) e h = e ∙ dead k.cells h
  where
    dead : (c : Option Cells) → is_live (cells_or_stuck c) ≡ false → cells_or_stuck c ≡ Err stuck.NoBlock
    dead None h = refl
    dead (Some cells) h = absurd (cc)

-- a reference to nothing that lives
pub dead_place : {h : Heap} {top : ℕ} {ks : List Kept} {link : Option ℕ} {at : ℕ} →
    record { blocks = living ks; made = top } ≡ h → IsRising 0 top ks → IsPlace ks link at
    → is_live (slot_cells (slice_get ks at)) ≡ false → cells_at h.blocks link ≡ Err stuck.NoBlock
dead_place {h} {top} {ks} {link} {at} view rises place none =
    dead_is (cells_at h.blocks link) (slice_get ks at) (place_slot view rises place) none
