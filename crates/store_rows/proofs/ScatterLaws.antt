-- The premises of the test behind the stores, met by a statement with marks.
use Rattle.std.proofs.Common.{◌≡◌, ◌≢◌, ◌⊎◌, ◌==◌, ◌||◌, ℕ, zero, suc, ◌+◌, ◌<◌, Bool, true, false, List, Ok, get_or, refl, sym, ap}
use Rattle.std.proofs.Common.{◌∙◌, inl, inr, arith}
use Rattle.std.specs.Prelude.{IsTrue}
use Rattle.std.proofs.Math.Path.{fun_ext}
use Rattle.std.proofs.lemmas.Bool.{cases_eq, eq-eqb, ne_eqb, false≢true}
use Rattle.std.proofs.lemmas.List.{get_or-set_other}
use Rattle.a95_base.proofs.Lists.{Every-all}
use Rattle.a95_base.proofs.Tests.{or_swapped}
use Rattle.rank_shape.specs.Walk.{tour}
use Rattle.store_laws.specs.Store.{Evaluated, Keeps, Ignores}
use Rattle.store_laws.specs.Legal.{IsTold}
use Rattle.store_laws.specs.ManyOne.{KeepsMarks, TellsTwice, CommutesApart}
use Rattle.store_laws.proofs.ManyOneLaws.{marks_tell}
use Rattle.store_laws.proofs.TemporaryLaws.{ok_is}
use Rattle.store_rows.specs.Pieces.{turn_of, extents, backwards, distances}
use Rattle.store_rows.specs.Scatter.{Memory, scattered, element_of, marks, start, once, twice, Premises}
use Rattle.store_rows.proofs.PieceLaws.{set_commutes, turn_below, one_later, same_turn}

pub or_once : (a b : Bool) → (a || b) ≡ ((a || false) || b)
or_once a b = grind arith

pub or_again : (a b : Bool) → (a || b) ≡ ((a || false) || (false || b))
or_again a b = grind arith

memory_same : (one other : Memory) → one.cells ≡ other.cells → one.marked ≡ other.marked → one.again ≡ other.again → one ≡ other
memory_same one other cells marked again =
    ap (λ c. record { cells = c; marked = one.marked; again = one.again }) cells
    ∙ ap (λ m. record { cells = other.cells; marked = m; again = one.again }) marked
    ∙ ap (λ a. record { cells = other.cells; marked = other.marked; again = a }) again

module _ (p : ℕ → ℕ) where
  -- evaluations leave the memory alone
  after_is : (turn : List ℕ) (s : Memory) (e : Evaluated ℕ Memory) → (scattered p).evaluate turn s ≡ Ok e → e.after ≡ s
  after_is turn s e is = sym (ap (λ x. x.after) (ok_is (record { value = get_or s.cells (turn_of turn) 0 + 10; after = s }) e is))

  keeps_at : (turn : List ℕ) → Keeps (scattered p) (λ s. IsTrue true) (λ turn v. IsTrue true) turn
  keeps_at turn = record { evaluated = λ s e sound is. (refl, refl); stored = λ v s sound may. refl }

  marks_at : (turn : List ℕ) → KeepsMarks (scattered p) (element_of p) marks (λ s. IsTrue true) (λ turn v. IsTrue true) turn
  marks_at turn = record {
    marked = λ v s other sound may. or_once (other == p (turn_of turn)) (s.marked other);
    again = λ v s sound may. or_again (s.marked (p (turn_of turn))) s.again;
    left_marked = λ s e other sound is. ap (λ x. x.marked other) (after_is turn s e is);
    left_twice = λ s e sound is. ap (λ x. x.again) (after_is turn s e is);
  }

  tells : (turns : List (List ℕ)) → TellsTwice (scattered p) (element_of p) (λ s. s.again) turns start
  tells turns =
      marks_tell (scattered p) (element_of p) marks (λ s. IsTrue true) (λ turn v. IsTrue true) turns start
      (Every-all (Keeps (scattered p) (λ s. IsTrue true) (λ turn v. IsTrue true)) keeps_at turns)
      (Every-all (KeepsMarks (scattered p) (element_of p) marks (λ s. IsTrue true) (λ turn v. IsTrue true)) marks_at turns)
      (record { marked = λ element. refl; twice = refl }) refl

  -- a turn that reads no element which the other stores ignores it
  ignores_at : (turn later : List ℕ) → p (turn_of turn) ≢ turn_of later →
      Ignores (scattered p) (λ s. IsTrue true) (λ turn v. IsTrue true) turn later
  ignores_at turn later apart = record {
    same = λ v s sound may.
        let after : Memory = (scattered p).store turn v s in
        ap (λ x. Ok (record { value = x + 10; after = after }))
        (get_or-set_other s.cells (p (turn_of turn)) (turn_of later) v 0 (λ same. apart (sym same)));
  }

  told_by : ((i : ℕ) → i < 3 → (p i ≡ i + 1) ⊎ (p i ≡ i)) → IsTold (scattered p) (λ s. IsTrue true) (λ turn v. IsTrue true) extents
      distances
  told_by near = record {
    told = λ stores reads stores_in reads_in apart.
        elim (cases_eq (p (turn_of stores)) (turn_of reads)) [
          | inr other ↦ inl (ignores_at stores reads other)
          | inl same ↦
              inr (elim (near (turn_of stores) (turn_below stores stores_in)) [
                | inl one ↦ let m = one_later stores reads stores_in reads_in (sym same ∙ one) in (m.distance, (m.listed, m.apart))
                | inr here ↦ let m = same_turn stores reads stores_in reads_in (sym same ∙ here) in
                    (m.distance, (m.listed, m.apart))
              ])
        ];
  }

  commutes_at : (turn other : List ℕ) → CommutesApart (scattered p) (element_of p) (λ s. IsTrue true) (λ turn v. IsTrue true) turn
      other
  commutes_at turn other = record {
    same = λ v w s sound may may_too once.
        let i : ℕ = p (turn_of turn) in
        let j : ℕ = p (turn_of other) in
        let apart : i ≢ j = λ same. false≢true (sym once ∙ ap (λ b. (b || false) || (false || false)) (eq-eqb i j same)) in
        memory_same ((scattered p).store turn v ((scattered p).store other w s))
        ((scattered p).store other w ((scattered p).store turn v s))
        (set_commutes s.cells j i w v (λ same. apart (sym same)))
        (fun_ext (λ e. or_swapped (e == i) (e == j) (s.marked e)))
        (again_same i j s apart);
  }
    where
      again_same : (i j : ℕ) (s : Memory) → i ≢ j → (((i == j) || s.marked i) || (s.marked j || s.again))
          ≡ (((j == i) || s.marked j) || (s.marked i || s.again))
      again_same i j s apart =
          ap (λ b. (b || s.marked i) || (s.marked j || s.again)) (ne_eqb i j apart)
          ∙ or_swapped (s.marked i) (s.marked j) s.again
          ∙ sym (ap (λ b. (b || s.marked j) || (s.marked i || s.again)) (ne_eqb j i (λ same. apart (sym same))))

  premises_of : ((i : ℕ) → i < 3 → (p i ≡ i + 1) ⊎ (p i ≡ i)) → Premises p
  premises_of near = record {
    told = told_by near;
    keeps = record { each = λ place inside. keeps_at place };
    free = record {
      still = λ place inside. record { after = λ s e sound is. after_is place s e is };
      commutes = λ place other inside other_inside apart. commutes_at place other;
      stops_alike = λ place other inside other_inside. record { same = λ f g f_is g_is. cc };
    };
    tells = tells (tour backwards extents);
  }

pub once_near : (i : ℕ) → i < 3 → (once i ≡ i + 1) ⊎ (once i ≡ i)
once_near i below = inl refl

pub twice_near : (i : ℕ) → i < 3 → (twice i ≡ i + 1) ⊎ (twice i ≡ i)
twice_near zero below = inl refl
twice_near (suc zero) below = inl refl
twice_near (suc (suc zero)) below = inr refl
twice_near (suc (suc (suc i))) below = absurd (omega (arith, below))

pub once_premises : Premises once
once_premises = premises_of once once_near

pub twice_premises : Premises twice
twice_premises = premises_of twice twice_near
