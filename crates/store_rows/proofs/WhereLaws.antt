-- The premises of a mask in the nest, met by divisions.
use Rattle.std.proofs.Common.{◌≡◌, ℕ, ◌+◌, ◌==◌, ◌/◌, Bool, true, false, not, List, [], ◌∷◌, Result, Ok, Err, get_or, set, refl}
use Rattle.std.proofs.Common.{sym, ap, ◌∙◌, inl, inr, arith}
use Rattle.std.specs.Prelude.{IsTrue, if◌then◌else◌}
use Rattle.std.proofs.lemmas.List.{get_or-set_other}
use Rattle.a95_base.proofs.Lists.{Every-all, Pairwise-all}
use Rattle.store_laws.specs.Store.{Evaluated, Keeps, IsStill}
use Rattle.store_laws.specs.Masked.{IsStillMask, StopsLikeMask, IsQuietMask, LeavesMask}
use Rattle.store_laws.proofs.TemporaryLaws.{reached, ok_is}
use Rattle.store_laws.proofs.MaskLaws.{stopped}
use Rattle.store_rows.specs.Pieces.{turn_of}
use Rattle.store_rows.specs.Where.{divided, positive, shared_out, turns, Premises, nonzero, called, QuietPremises}

divided_still : (zero : Bool) (fault x : ℕ) (s : List ℕ) (e : Evaluated ℕ (List ℕ)) →
    (let r : Result (Evaluated ℕ (List ℕ)) ℕ = if zero then Err fault else Ok (record { value = x; after = s }) in r ≡ Ok e) →
    e.after ≡ s
divided_still true fault x s e is = cc
divided_still false fault x s e is = sym (ap (λ y. y.after) (ok_is (record { value = x; after = s }) e is))

divided_stops : (zero : Bool) (fault x stop : ℕ) (s : List ℕ) →
    (let r : Result (Evaluated ℕ (List ℕ)) ℕ = if zero then Err fault else Ok (record { value = x; after = s }) in r ≡ Err stop) →
    fault ≡ stop
divided_stops true fault x stop s is = cc
divided_stops false fault x stop s is = cc

module _ (fault : ℕ) where
  still_at : (turn : List ℕ) → IsStill (shared_out fault) (λ s. IsTrue true) turn
  still_at turn =
      record {
        after = λ s e sound is. divided_still (get_or s (turn_of turn + 6) 0 == 0) fault
            (100 / get_or s (turn_of turn + 6) 0) s e is;
      }

  mask_still_at : (turn : List ℕ) → IsStillMask (positive fault) (λ s. IsTrue true) turn
  mask_still_at turn = record {
    after = λ s b sound is.
        let one = reached (divided fault 10 (get_or s (turn_of turn + 3) 0) s)
        (λ e. Ok (record { value = not (e.value == 0); after = e.after })) b is in
        sym (ap (λ y. y.after) (ok_is (record { value = not (one.0.value == 0); after = one.0.after }) b one.1.1))
        ∙ divided_still (get_or s (turn_of turn + 3) 0 == 0) fault (10 / get_or s (turn_of turn + 3) 0) s one.0 one.1.0;
  }

  alike_at : (s turn later : List ℕ) → StopsLikeMask (positive fault) (shared_out fault) s turn later
  alike_at s turn later = record {
    same = λ stop other is mask_is.
        sym (divided_stops (get_or s (turn_of turn + 6) 0 == 0) fault (100 / get_or s (turn_of turn + 6) 0) stop s is)
        ∙ elim (stopped (divided fault 10 (get_or s (turn_of later + 3) 0) s)
        (λ e. let b : Result (Evaluated Bool (List ℕ)) ℕ = Ok (record { value = not (e.value == 0); after = e.after }) in b)
        other mask_is) [
          | inl here ↦ divided_stops (get_or s (turn_of later + 3) 0 == 0) fault (10 / get_or s (turn_of later + 3) 0) other s here
          | inr went ↦ cc
        ];
  }

  pub premises_at : (s : List ℕ) → Premises fault s
  premises_at s = record {
    mask_still = Every-all (IsStillMask (positive fault) (λ s. IsTrue true)) mask_still_at turns;
    still = Every-all (IsStill (shared_out fault) (λ s. IsTrue true)) still_at turns;
    alike = Pairwise-all (StopsLikeMask (positive fault) (shared_out fault) s) (alike_at s) turns;
  }

leaves_at : (turn later : List ℕ) → (turn_of later + 3 ≡ 9 → ⊥) → LeavesMask nonzero called (λ s. IsTrue true) turn later
leaves_at turn later apart = record {
  same = λ s e truth sound is mask_is.
      let after : List ℕ = set s 9 (get_or s 9 0 + 1) in
      let e_is : after ≡ e.after =
      ap (λ x. x.after) (ok_is (record { value = get_or s (turn_of turn + 6) 0 + get_or s 9 0; after = after }) e is) in
      let same : not (get_or s (turn_of later + 3) 0 == 0) ≡ truth =
      ap (λ x. x.value)
      (ok_is (record { value = not (get_or s (turn_of later + 3) 0 == 0); after = s }) (record { value = truth; after = s })
      mask_is) in
      ap (λ x. Ok (record { value = not (get_or x (turn_of later + 3) 0 == 0); after = x })) (sym e_is)
      ∙ ap (λ x. Ok (record { value = not (x == 0); after = after }))
      (get_or-set_other s 9 (turn_of later + 3) (get_or s 9 0 + 1) 0 apart)
      ∙ ap (λ b. Ok (record { value = b; after = after })) same
      ∙ ap (λ x. Ok (record { value = truth; after = x })) e_is;
}

pub quiet_premises : QuietPremises
quiet_premises = record {
  keeps = Every-all (Keeps called (λ s. IsTrue true) (λ turn v. IsTrue true))
      (λ turn. record { evaluated = λ s e sound is. (refl, refl); stored = λ v s sound may. refl }) turns;
  quiet = Every-all (IsQuietMask nonzero (λ s. IsTrue true))
      (λ turn. record { looks = λ s sound. (not (get_or s (turn_of turn + 3) 0 == 0), refl) }) turns;
  leaves = (
    (leaves_at (0 ∷ []) (1 ∷ []) (λ is. omega (arith, is)), (leaves_at (0 ∷ []) (2 ∷ []) (λ is. omega (arith, is)), tt)),
    ((leaves_at (1 ∷ []) (2 ∷ []) (λ is. omega (arith, is)), tt), (tt, tt)),
  );
}
