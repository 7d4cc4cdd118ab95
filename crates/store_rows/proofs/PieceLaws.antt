-- Two pieces touch each other by their accesses alone.
use Rattle.std.proofs.Common.{◌≡◌, ◌≢◌, ℕ, ◌+◌, ◌<◌, pos, zero, suc, true, false, List, [], ◌∷◌, Ok, sum, get_or, set, refl, sym}
use Rattle.std.proofs.Common.{ap, ◌∙◌, inl, inr, arith}
use Rattle.std.specs.Prelude.{IsTrue}
use Rattle.std.proofs.lemmas.Bool.{false≢true}
use Rattle.std.proofs.lemmas.List.{get_or-set_other}
use Rattle.a95_base.specs.Lists.{Every, Pairwise}
use Rattle.a95_base.proofs.Lists.{Member-map, each_from_has, each_has, map_agree}
use Rattle.rank_shape.specs.Shape.{IsPlace}
use Rattle.rank_shape.specs.declared.distance.Entry.TheVariants as entry
use Rattle.loop_order.specs.Apart.{IsApart}
use Rattle.store_laws.specs.Fusion.{Access, conflict, IsMeasured, AreMeasured, AreAllOf}
use Rattle.store_laws.proofs.FusionLaws.{accesses_fuse}
use Rattle.store_laws.specs.Store.{Keeps}
use Rattle.store_laws.proofs.BodyLaws.{bodies_pass}
use Rattle.store_rows.specs.Pieces.{TurnsApart, statement_of, Piece, turn_of, value_of, body_of, access_of, accesses_of, shifted}
use Rattle.store_rows.specs.Pieces.{copied, added, extents, distances, always, Fusable}

pub set_commutes : (cells : List ℕ) (i j a b : ℕ) → i ≢ j → set (set cells i a) j b ≡ set (set cells j b) i a
set_commutes [] i j a b apart = refl
set_commutes (x ∷ cells) zero zero a b apart = absurd (apart refl)
set_commutes (x ∷ cells) zero (suc j) a b apart = refl
set_commutes (x ∷ cells) (suc i) zero a b apart = refl
set_commutes (x ∷ cells) (suc i) (suc j) a b apart = ap (λ ys. x ∷ ys) (set_commutes cells i j a b (λ same. apart (ap suc same)))

-- a sum that doesn't look at the cell which is stored into
value_kept : (piece : Piece) (i k v : ℕ) (cells : List ℕ) → Every (λ cell. cell i ≢ k) piece.from → value_of piece i (set cells k v)
    ≡ value_of piece i cells
value_kept piece i k v cells apart =
    ap (λ vs. piece.plus + sum vs)
    (map_agree (λ cell. get_or (set cells k v) (cell i) 0) (λ cell. get_or cells (cell i) 0) piece.from
    (each_from_has (λ cell. get_or (set cells k v) (cell i) 0 ≡ get_or cells (cell i) 0) piece.from
    (λ cell among. get_or-set_other cells k (cell i) v 0 (each_has (λ c. c i ≢ k) piece.from cell apart among))))

-- turns that store into different cells, and read none that the other stores into
turns_are_apart : (first second : Piece) (place other : List ℕ) → first.into (turn_of place) ≢ second.into (turn_of other) →
    Every (λ cell. cell (turn_of place) ≢ second.into (turn_of other)) first.from →
    Every (λ cell. cell (turn_of other) ≢ first.into (turn_of place)) second.from → TurnsApart first second other place
turns_are_apart first second place other into read stored =
    let i : ℕ = turn_of place in
    let j : ℕ = turn_of other in
    record {
      evaluated = λ s sound. refl;
      ignores = λ w s sound may. ap (λ v. Ok (record { value = v; after = set s (first.into i) w }))
          (value_kept second j (first.into i) w s stored);
      ignored = λ v s sound may. ap (λ w. Ok (record { value = w; after = set s (second.into j) v }))
          (value_kept first i (second.into j) v s read);
      commutes = λ v w s sound may might. set_commutes s (first.into i) (second.into j) w v into;
    }

keeps_at : (piece : Piece) (turn : List ℕ) → Keeps (statement_of piece) (λ s. IsTrue (always s)) (λ turn v. IsTrue true) turn
keeps_at piece turn = record { evaluated = λ s e sound is. (refl, refl); stored = λ v s sound may. refl }

pub pieces_touch : (first second : Piece) → AreAllOf (accesses_of first) (accesses_of second) (body_of first) (body_of second)
    (λ s. IsTrue (always s)) extents
pieces_touch first second = record {
  passes = λ place other place_in other_in aside.
      bodies_pass (statement_of second) (statement_of first) (λ s. IsTrue (always s)) (λ turn v. IsTrue true)
      (λ turn v. IsTrue true) other place (keeps_at second other) (keeps_at first place)
      (turns_are_apart first second place other
      (aside.apart (access_of true first.into) (access_of true second.into) (inl refl) (inl refl) refl)
      (each_from_has (λ cell. cell (turn_of place) ≢ second.into (turn_of other)) first.from
      (λ cell among. aside.apart (access_of false cell) (access_of true second.into)
      (inr (Member-map (access_of false) first.from cell among)) (inl refl) refl))
      (each_from_has (λ cell. cell (turn_of other) ≢ first.into (turn_of place)) second.from
      (λ cell among same. aside.apart (access_of true first.into) (access_of false cell) (inl refl)
      (inr (Member-map (access_of false) second.from cell among)) refl (sym same))));
}

-- the last turn of the first and the first turn of the second
pub last_and_first : TurnsApart shifted copied (0 ∷ []) (2 ∷ [])
last_and_first = turns_are_apart shifted copied (2 ∷ []) (0 ∷ []) (λ is. omega (arith, is)) ((λ is. omega (arith, is)), tt)
    ((λ is. omega (arith, is)), tt)

-- ---- distances

pub turn_below : (place : List ℕ) → IsPlace extents place → turn_of place < 3
turn_below [] inside = absurd inside
turn_below (i ∷ place) inside = inside.0

turns_apart : (place later : List ℕ) (turns : ℕ) → IsPlace extents place → IsPlace extents later → turn_of later ≡ turn_of place
    + turns → IsApart (entry.Known (pos turns) ∷ []) place later
turns_apart [] later turns inside later_inside is = absurd inside
turns_apart (i ∷ place) [] turns inside later_inside is = absurd later_inside
turns_apart (i ∷ place) (j ∷ later) turns inside later_inside is = (ap pos is, tt)

pub one_later : (place later : List ℕ) → IsPlace extents place → IsPlace extents later → turn_of later ≡ turn_of place + 1 →
    IsMeasured distances place later
one_later place later inside later_inside is =
    record { distance = entry.Known (pos 1) ∷ []; listed = inl refl; apart = turns_apart place later 1 inside later_inside is }

pub same_turn : (place later : List ℕ) → IsPlace extents place → IsPlace extents later → turn_of later ≡ turn_of place →
    IsMeasured distances place later
same_turn place later inside later_inside is =
    record {
      distance = entry.Known (pos 0) ∷ [];
      listed = inr (inl refl);
      apart =
          turns_apart place later 0 inside later_inside (is ∙ omega arith);
    }

-- what is asked of two accesses
Told : Access → Access → Type 0
Told access other = IsTrue (conflict access other) → (place later : List ℕ) → IsPlace extents place → IsPlace extents later →
    access.element place ≡ other.element later → IsMeasured distances place later

each_told : (first second : Piece) → Every (λ access. Every (Told access) (accesses_of second)) (accesses_of first) →
    AreMeasured (accesses_of first) (accesses_of second) extents distances
unfolding Told
each_told first second told = record {
  each = λ access other access_in other_in. each_has (Told access) (accesses_of second) other
      (each_has (λ a. Every (Told a) (accesses_of second)) (accesses_of first) access told access_in) other_in;
}

pub measured_pieces : (first second : Piece) → AreMeasured (accesses_of first) (accesses_of second) extents distances →
    Fusable first second
measured_pieces first second measured =
    accesses_fuse (body_of first) (body_of second) (λ s. IsTrue (always s)) extents distances (accesses_of first)
    (accesses_of second)
    (λ place inside. record
    { goes = λ s sound. (set s (first.into (turn_of place)) (value_of first (turn_of place) s), (refl, sound)) })
    (λ place inside. record { kept = λ s after sound is. sound })
    measured (pieces_touch first second)

never : (access other : Access) →
    ((place later : List ℕ) → turn_of place < 3 → turn_of later < 3 → access.element place ≢ other.element later) →
    Told access other
unfolding Told
never access other apart conflicts place later inside later_inside is =
    absurd (apart place later (turn_below place inside) (turn_below later later_inside) is)

pub shifted_copied : AreMeasured (accesses_of shifted) (accesses_of copied) extents distances
unfolding Told
shifted_copied =
    each_told shifted copied (
      (
        never (access_of true shifted.into) (access_of true copied.into)
            (λ place later below later_below is. omega (arith, is, below)),
        (λ c place later inside later_inside is. one_later place later inside later_inside (sym is), tt),
      ),
      (
        (
          λ c place later inside later_inside is. same_turn place later inside later_inside (omega (arith, is)),
          (λ c. absurd (false≢true c), tt),
        ),
        tt,
      ),
    )

pub shifted_added : AreMeasured (accesses_of shifted) (accesses_of added) extents distances
unfolding Told
shifted_added =
    each_told shifted added (
      (
        never (access_of true shifted.into) (access_of true added.into)
            (λ place later below later_below is. omega (arith, is, below)),
        (
          never (access_of true shifted.into) (access_of false (λ i. i + 4))
              (λ place later below later_below is. omega (arith, is, below)),
          (λ c place later inside later_inside is. same_turn place later inside later_inside (omega (arith, is)), tt),
        ),
      ),
      (
        (
          never (access_of false (λ i. i + 4)) (access_of true added.into)
              (λ place later below later_below is. omega (arith, is, below)),
          (λ c. absurd (false≢true c), (λ c. absurd (false≢true c), tt)),
        ),
        tt,
      ),
    )

pub copied_added : AreMeasured (accesses_of copied) (accesses_of added) extents distances
unfolding Told
copied_added =
    each_told copied added (
      (
        never (access_of true copied.into) (access_of true added.into)
            (λ place later below later_below is. omega (arith, is, below)),
        (
          λ c place later inside later_inside is. same_turn place later inside later_inside (omega (arith, is)),
          (
            never (access_of true copied.into) (access_of false (λ i. i + 1))
                (λ place later below later_below is. omega (arith, is, later_below)),
            tt,
          ),
        ),
      ),
      (
        (
          never (access_of false (λ i. i)) (access_of true added.into)
              (λ place later below later_below is. omega (arith, is, below)),
          (λ c. absurd (false≢true c), (λ c. absurd (false≢true c), tt)),
        ),
        tt,
      ),
    )

pub shifted_copied_fuse : Fusable shifted copied
shifted_copied_fuse = measured_pieces shifted copied shifted_copied

pub three_fuse : Pairwise Fusable (shifted ∷ copied ∷ added ∷ [])
three_fuse = (
  (shifted_copied_fuse, (measured_pieces shifted added shifted_added, tt)),
  ((measured_pieces copied added copied_added, tt), (tt, tt)),
)
