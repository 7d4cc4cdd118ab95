-- The premises of the test between two loops through a temporary, met by a statement with marks.
use Rattle.std.proofs.Common.{◌≡◌, ◌≢◌, ◌⊎◌, ◌==◌, ◌||◌, ℕ, ◌+◌, ◌<◌, List, [], ◌∷◌, length, Ok, get_or, set, refl, sym, ap, ◌∙◌}
use Rattle.std.proofs.Common.{subst, inl, inr, arith}
use Rattle.std.specs.Prelude.{IsTrue}
use Rattle.std.proofs.lemmas.Bool.{eqb-true, ltb-true}
use Rattle.std.proofs.lemmas.List.{get_or-set_other, get_or-set_same, length-set}
use Rattle.rank_shape.specs.Walk.{tour}
use Rattle.store_laws.specs.Store.{Evaluated, Keeps, Ignores, filling, IsKeptApart, KeepsOther}
use Rattle.store_laws.specs.ManyOne.{KeepsMarks}
use Rattle.store_laws.proofs.ManyOneLaws.{marks_tell}
use Rattle.store_laws.proofs.TemporaryLaws.{ok_is}
use Rattle.store_rows.specs.Pieces.{turn_of, extents, forwards}
use Rattle.store_rows.specs.Scatter.{Memory, element_of, marks, once, twice}
use Rattle.store_rows.specs.Between.{stored_later, kept_aside, wide, is_wide, is_turn, Premises}
use Rattle.store_rows.proofs.PieceLaws.{set_commutes}
use Rattle.store_rows.proofs.ScatterLaws.{or_once, or_again, once_near, twice_near}

module _ (p : ℕ → ℕ) (near : (i : ℕ) → i < 3 → (p i ≡ i + 1) ⊎ (p i ≡ i)) where
  -- the elements of the variable stand before those of the temporary
  before_kept : (turn other : List ℕ) → IsTrue (is_turn other) → turn_of turn + 4 ≢ p (turn_of other)
  before_kept turn other inside same =
      let below : turn_of other < 3 = ltb-true (turn_of other) 3 inside in
      elim (near (turn_of other) below) [ inl one ↦ omega (arith, same, one, below) | inr here ↦ omega (arith, same, here, below) ]

  after_is : (turn : List ℕ) (s : Memory) (e : Evaluated ℕ Memory) → (stored_later p).evaluate turn s ≡ Ok e → e.after ≡ s
  after_is turn s e is = sym (ap (λ x. x.after) (ok_is (record { value = get_or s.cells (turn_of turn) 0 + 10; after = s }) e is))

  stays_wide : (cells : List ℕ) (k v : ℕ) → IsTrue (length cells == 7) → IsTrue (length (set cells k v) == 7)
  stays_wide cells k v sound = ap (λ n. n == 7) (length-set cells k v) ∙ sound

  kept_apart : IsKeptApart (stored_later p) (kept_aside p) (λ s. IsTrue (is_wide s)) (λ turn v. IsTrue (is_turn turn))
  kept_apart = record {
    given_back = λ turn v s sound may.
        get_or-set_same s.cells (turn_of turn + 4) v 0
        (omega (arith, eqb-true (length s.cells) 7 sound, ltb-true (turn_of turn) 3 may));
    untouched = λ turn other v s sound may. get_or-set_other s.cells (p (turn_of other)) (turn_of turn + 4) v 0
        (before_kept turn other may);
    aside = λ turn other v w s sound may may_too.
        ap (λ c. record {
          cells = c;
          marked = λ element. (element == p (turn_of other)) || s.marked element;
          again =
              s.marked (p (turn_of other)) || s.again;
        })
        (set_commutes s.cells (turn_of other + 4) (p (turn_of turn)) w v (before_kept other turn may));
  }

  keeps_at : (turn : List ℕ) → IsTrue (is_turn turn) → Keeps (stored_later p) (λ s. IsTrue (is_wide s))
      (λ turn v. IsTrue (is_turn turn)) turn
  keeps_at turn inside = record {
    evaluated = λ s e sound is. (subst (λ x. IsTrue (is_wide x)) (sym (after_is turn s e is)) sound, inside);
    stored = λ v s sound may. stays_wide s.cells (p (turn_of turn)) v sound;
  }

  fills_at : (turn : List ℕ) → IsTrue (is_turn turn) → Keeps (filling (stored_later p) (kept_aside p)) (λ s. IsTrue (is_wide s))
      (λ turn v. IsTrue (is_turn turn)) turn
  fills_at turn inside = record {
    evaluated = λ s e sound is. (subst (λ x. IsTrue (is_wide x)) (sym (after_is turn s e is)) sound, inside);
    stored = λ v s sound may. stays_wide s.cells (turn_of turn + 4) v sound;
  }

  marks_at : (turn : List ℕ) → KeepsMarks (filling (stored_later p) (kept_aside p)) (element_of p) marks (λ s. IsTrue (is_wide s))
      (λ turn v. IsTrue (is_turn turn)) turn
  marks_at turn = record {
    marked = λ v s other sound may. or_once (other == p (turn_of turn)) (s.marked other);
    again = λ v s sound may. or_again (s.marked (p (turn_of turn))) s.again;
    left_marked = λ s e other sound is. ap (λ x. x.marked other) (after_is turn s e is);
    left_twice = λ s e sound is. ap (λ x. x.again) (after_is turn s e is);
  }

  ignores_at : (turn later : List ℕ) → turn_of later ≢ turn_of turn + 4 →
      Ignores (filling (stored_later p) (kept_aside p)) (λ s. IsTrue (is_wide s)) (λ turn v. IsTrue (is_turn turn)) turn later
  ignores_at turn later apart = record {
    same = λ v s sound may.
        let after : Memory = (kept_aside p).keep turn v s in
        ap (λ x. Ok (record { value = x + 10; after = after }))
        (get_or-set_other s.cells (turn_of turn + 4) (turn_of later) v 0 apart);
  }

  others_at : (turn later : List ℕ) → turn_of turn + 4 ≢ turn_of later + 4 →
      KeepsOther (kept_aside p) (λ s. IsTrue (is_wide s)) (λ turn v. IsTrue (is_turn turn)) turn later
  others_at turn later apart =
      record { same = λ v s sound may. get_or-set_other s.cells (turn_of later + 4) (turn_of turn + 4) v 0 apart }

  premises_of : Premises p
  premises_of =
      let t0 : List ℕ = 0 ∷ [] in
      let t1 : List ℕ = 1 ∷ [] in
      let t2 : List ℕ = 2 ∷ [] in
      record {
        apart = kept_apart;
        keeps = (keeps_at t0 refl, (keeps_at t1 refl, (keeps_at t2 refl, tt)));
        fills = (fills_at t0 refl, (fills_at t1 refl, (fills_at t2 refl, tt)));
        ignores = (
          (ignores_at t0 t1 (λ is. omega (arith, is)), (ignores_at t0 t2 (λ is. omega (arith, is)), tt)),
          ((ignores_at t1 t2 (λ is. omega (arith, is)), tt), (tt, tt)),
        );
        others = (
          (others_at t0 t1 (λ is. omega (arith, is)), (others_at t0 t2 (λ is. omega (arith, is)), tt)),
          ((others_at t1 t2 (λ is. omega (arith, is)), tt), (tt, tt)),
        );
        tells =
            marks_tell (filling (stored_later p) (kept_aside p)) (element_of p) marks (λ s. IsTrue (is_wide s))
            (λ turn v. IsTrue (is_turn turn)) (tour forwards extents) wide
            (fills_at t0 refl, (fills_at t1 refl, (fills_at t2 refl, tt))) (marks_at t0, (marks_at t1, (marks_at t2, tt)))
            (record { marked = λ element. refl; twice = refl }) refl;
      }

pub once_between : Premises once
once_between = premises_of once once_near

pub twice_between : Premises twice
twice_between = premises_of twice twice_near
