use Rattle.std.proofs.Common.{◌≡◌, ◌+◌, ◌<◌, pos, [], length, ◌++◌, get_or, take, drop, set, sym, ap, ◌∙◌, FitsSigned, w64, rules, arith}
use Rattle.std.specs.Prelude.{unsigned_abs}
use Rattle.std.proofs.lemmas.Int.{to_z-of_z}
use Rattle.std.proofs.lemmas.List.{length-set, length-map}
use Rattle.rank_shape.specs.Shape.{naturals}
use Rattle.rank_shape.proofs.Numbers.{place_length}
use Rattle.section_algebra.specs.Section.{term_of, counts_of, place_named}
use Rattle.section_algebra.proofs.Places.{named_is_listed}
use Rattle.section_algebra.proofs.Readings.{read, read_back}
use Rattle.section_algebra.proofs.Sections.{none, place_step, place_end, turn_at, turn_fits}
use Rattle.section_algebra.proofs.section.Section.place.Goals as goal

turns_long : (g : _) (c : goal.After-subscript-arg-1 g) → c.loop-dim.dim < length c.args.at.now.at
turns_long g c =
    omega (
      arith,
      c.loop-dim-test.true,
      c.known.ensures.section.long,
      place_length (counts_of c.args.self.now)
          (naturals c.args.at.now.at) c.requires.within,
      length-map c.args.at.now.at unsigned_abs,
      length-map c.args.self.now
          (λ p. p.count),
    )

pub subscript-requires-clause-below : goal.subscript-requires-clause-below
subscript-requires-clause-below g c =
    let wide : FitsSigned w64 (get_or c.args.at.now.at c.loop-dim.dim (pos 0)) = search rules in
    turn_fits c.args.self.now c.args.at.now.at c.loop-dim.dim c.triplet_at-triplet.result _
    c.requires.within (omega (arith, c.known.ensures.section.long)) (turns_long g c) c.triplet_at-triplet.ensures
    (to_z-of_z w64 _ wide)

pub loop-dim-preserved : goal.loop-dim-preserved
loop-dim-preserved g c =
    let wide : FitsSigned w64 (get_or c.args.at.now.at c.loop-dim.dim (pos 0)) = search rules in
    let turn_is : unsigned_abs (read (get_or c.args.at.now.at c.loop-dim.dim (pos 0)))
    ≡ get_or (naturals c.args.at.now.at) c.loop-dim.dim 0 =
    ap unsigned_abs (to_z-of_z w64 _ wide) ∙ turn_at c.args.at.now.at c.loop-dim.dim (pos 0) (turns_long g c.before) in
    let here : read c.subscript.result ≡ term_of (get_or c.args.self.now c.loop-dim.dim none)
    (get_or (naturals c.args.at.now.at) c.loop-dim.dim 0) =
    read_back c.subscript.result c.subscript.ensures.fits ∙ c.subscript.ensures.subscript
    ∙ ap (λ p. term_of p (unsigned_abs (read (get_or c.args.at.now.at c.loop-dim.dim (pos 0))))) c.triplet_at-triplet.ensures
    ∙ ap (term_of (get_or c.args.self.now c.loop-dim.dim none)) turn_is in
    record {
      long = length-set c.loop-dim.named c.loop-dim.dim _ ∙ c.loop-dim.invariant.long;
      same =
          ap (λ z. take (c.loop-dim.dim + 1) (set c.loop-dim.named c.loop-dim.dim z)
          ++ place_named (drop (c.loop-dim.dim + 1) c.args.self.now) (drop (c.loop-dim.dim + 1) (naturals c.args.at.now.at)))
          here
          ∙ place_step c.args.self.now (naturals c.args.at.now.at) c.loop-dim.named c.loop-dim.dim none
          (omega (arith, c.known.ensures.section.long))
          (omega (arith, turns_long g c.before, length-map c.args.at.now.at unsigned_abs))
          (omega (arith, c.loop-dim.invariant.long))
          ∙ c.loop-dim.invariant.same;
    }

pub returns-clause-listed : goal.returns-clause-listed
returns-clause-listed g c =
    sym (place_end c.args.self.now (naturals c.args.at.now.at) c.loop-dim.named c.loop-dim.dim
    (omega (arith, c.known.ensures.section.long)) (omega (arith, c.loop-dim.invariant.long)))
    ∙ c.loop-dim.invariant.same ∙ sym (named_is_listed c.args.self.now (naturals c.args.at.now.at) [] c.requires.within)
