use Rattle.std.proofs.Common.{◌≡◌, [], ◌∷◌, ◌+◌, ℤ, List, length, drop, sym, ap, ◌∙◌, arith, rules}
use Rattle.rank_shape.specs.declared.shape.Place.{Place}
use Rattle.rank_shape.specs.Walk.{tour}
use Rattle.rank_shape.specs.Visits.{visits}
use Rattle.rank_shape.proofs.Steps.{walk_ends, walk_goes, turns_are_places}
use Rattle.rank_shape.proofs.tour.TourIterator.next.Goals as goal

none_left : (g : _) (c : goal.Then-self g) → visits g.row.R c.args.self.now ≡ []
none_left g c =
    ap (visits g.row.R)
    (sym c.self.view_is ∙ walk_ends g.row.R c.self.inside.shape c.self.inside.order c.self.inside.size c.self.inside.turn
    c.self.invariant c.if-self.true)

pub returns-then-self-clause-steps : goal.returns-then-self-clause-steps
returns-then-self-clause-steps g c = (none_left g c, none_left g c)

pub place_of_turn-place-requires : goal.place_of_turn-place-requires
place_of_turn-place-requires g c =
    let ranked = c.self.invariant.of_shape.ranked in
    let turns = turns_are_places g.row.R c.self.inside.shape c.self.inside.order c.self.invariant.of_shape.long
    c.self.invariant.in_order in (
      search rules,
      (
        search rules,
        (search rules, (c.self.invariant.sized ∙ sym turns, (omega (arith, c.self.invariant.of_shape.small), omega arith))),
      ),
    )

one_visit : (g : _) (c : goal.After-self-1 g) → visits g.row.R c.args.self.now ≡ c.place_of_turn-place.result
    ∷ visits g.row.R (drop (c.self.inside.turn + 1) (tour c.self.inside.order c.self.inside.shape))
one_visit g c =
    ap (visits g.row.R)
    (sym c.self.view_is ∙ walk_goes g.row.R c.self.inside.shape c.self.inside.order c.self.inside.size c.self.inside.turn
    c.self.invariant c.if-self.false)
    ∙ ap (λ (at : List ℤ). let place : Place g.row.R = record { at = at } in
    place ∷ visits g.row.R (drop (c.self.inside.turn + 1) (tour c.self.inside.order c.self.inside.shape)))
    (sym c.place_of_turn-place.ensures)

pub returns-clause-steps : goal.returns-clause-steps
returns-clause-steps g c = one_visit g c

pub returns-clause-goes : goal.returns-clause-goes
returns-clause-goes g c = record {
  on = λ finite. (tt, tt, (let shorter = ap length (one_visit g c) in omega (arith, shorter)));
  keeps = tt;
  rests = λ finite. tt;
}
