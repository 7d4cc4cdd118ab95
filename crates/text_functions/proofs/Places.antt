-- The first place of a part in a text.
use Rattle.std.proofs.Common.{◌≡◌, ℕ, zero, suc, ◌+◌, ◌-◌, ◌<◌, ◌≤◌, true, false, List, [], ◌∷◌, ◌++◌, length, get_or, take, drop}
use Rattle.std.proofs.Common.{refl, sym, ap, ◌∙◌, subst, arith, length-append}
use Rattle.std.specs.Prelude.{nat_eq}
use Rattle.std.specs.List.{starts_with}
use Rattle.std.proofs.lemmas.List.{length-take-le, ext_get_or, get_or-take, take-append-drop, get_or_append_left}
use Rattle.std.proofs.lemmas.Bool.{false_from_ne_true}
use Rattle.std.proofs.lemmas.Bool.Decides.{Decides-eqb}
use Rattle.std.proofs.lemmas.Slice.Eq.{starts_is}
use Rattle.memchr.specs.Find.{OccursAt}
use Rattle.a95_base.specs.Text.{place_from}

occurs_next : (c : ℕ) (cs part : List ℕ) (k : ℕ) → OccursAt cs part k → OccursAt (c ∷ cs) part (k + 1)
occurs_next c cs part k h = record {
  fits = omega (arith, h.fits);
  reads = λ j below. let e : k + 1 + j ≡ suc (k + j) = omega arith in ap (λ i. get_or (c ∷ cs) i 0) e ∙ h.reads j below;
}

occurs_before : (c : ℕ) (cs part : List ℕ) (k : ℕ) → OccursAt (c ∷ cs) part (k + 1) → OccursAt cs part k
occurs_before c cs part k h = record {
  fits = omega (arith, h.fits);
  reads = λ j below. let e : suc (k + j) ≡ k + 1 + j = omega arith in ap (λ i. get_or (c ∷ cs) i 0) e ∙ h.reads j below;
}

occurs_front : (text part : List ℕ) → OccursAt text part 0 → text ≡ part ++ drop (length part) text
occurs_front text part h =
    let long : length (take (length part) text) ≡ length part = length-take-le (length part) text (omega (arith, h.fits)) in
    let front : take (length part) text ≡ part =
    ext_get_or 0 (take (length part) text) part long (λ i below.
    let within : i < length part = omega arith in
    let e : i ≡ 0 + i = omega arith in
    get_or-take (length part) text i 0 within ∙ ap (λ k. get_or text k 0) e ∙ h.reads i within) in
    sym (take-append-drop (length part) text) ∙ ap (λ xs. xs ++ drop (length part) text) front

front_occurs : (text part rest : List ℕ) → text ≡ part ++ rest → OccursAt text part 0
front_occurs text part rest e = record {
  fits = let long : length text ≡ length part + length rest = ap length e ∙ length-append part rest in omega arith;
  reads = λ j below. let k : 0 + j ≡ j = omega arith in ap (λ i. get_or text i 0) k ∙ ap (λ xs. get_or xs j 0) e
      ∙ get_or_append_left part rest 0 j below;
}

occurs_starts : (text part : List ℕ) → OccursAt text part 0 → starts_with nat_eq text part ≡ true
occurs_starts text part h = (starts_is Decides-eqb text part (starts_with nat_eq text part) refl).1 (drop (length part) text)
    (occurs_front text part h)

starts_occurs : (text part : List ℕ) → starts_with nat_eq text part ≡ true → OccursAt text part 0
starts_occurs text part h =
    front_occurs text part (drop (length part) text) ((starts_is Decides-eqb text part (starts_with nat_eq text part) refl).0 h)

here : (place : ℕ) (text part : List ℕ) → starts_with nat_eq text part ≡ true → place_from place text part ≡ place
here place [] part h = rw h refl
here place (c ∷ cs) part h = rw h refl

later : (place c : ℕ) (cs part : List ℕ) → (OccursAt (c ∷ cs) part 0 → ⊥) → place_from place (c ∷ cs) part
    ≡ place_from (place + 1) cs part
later place c cs part h =
    let other : starts_with nat_eq (c ∷ cs) part ≡ false = false_from_ne_true _ (λ starts. h (starts_occurs (c ∷ cs) part starts))
    in
    rw other refl

pub place_found : (place : ℕ) (text part : List ℕ) (k : ℕ) → OccursAt text part k → ((j : ℕ) → j < k → ¬ (OccursAt text part j)) →
    place_from place text part ≡ place + k
place_found place [] part k h none =
    let e : k ≡ 0 = omega (arith, h.fits) in
    here place [] part (occurs_starts [] part (subst (λ i. OccursAt [] part i) e h)) ∙ omega arith
place_found place (c ∷ cs) part zero h none = here place (c ∷ cs) part (occurs_starts (c ∷ cs) part h) ∙ omega arith
place_found place (c ∷ cs) part (suc k) h none =
    let e : suc k ≡ k + 1 = omega arith in
    let behind : OccursAt cs part k = occurs_before c cs part k (subst (λ i. OccursAt (c ∷ cs) part i) e h) in
    later place c cs part (none 0 (omega arith))
    ∙ place_found (place + 1) cs part k behind (λ j below at. none (j + 1) (omega arith) (occurs_next c cs part j at))
    ∙ omega arith

pub place_none : (place : ℕ) (text part : List ℕ) → ((j : ℕ) → j < length text + 1 → ¬ (OccursAt text part j)) →
    place_from place text part ≡ 0
place_none place [] part none =
    let other : starts_with nat_eq [] part ≡ false = false_from_ne_true _
    (λ starts. none 0 (omega arith) (starts_occurs [] part starts)) in
    rw other refl
place_none place (c ∷ cs) part none =
    later place c cs part (none 0 (omega arith))
    ∙ place_none (place + 1) cs part (λ j below at. none (j + 1) (omega arith) (occurs_next c cs part j at))

-- the first place is before the end, but for a text of no bytes
pub place_small : (text part : List ℕ) (k : ℕ) → OccursAt text part k → ((j : ℕ) → j < k → ¬ (OccursAt text part j)) →
    k ≤ length text - 1
place_small text [] zero h none = omega arith
place_small text [] (suc k) h none =
    absurd (none 0 (omega arith) (record { fits = omega (arith, h.fits); reads = λ j below. absurd (omega arith) }))
place_small text (p ∷ ps) k h none = omega (arith, h.fits)
