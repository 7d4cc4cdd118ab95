use Rattle.std.proofs.Common.{◌≡◌, ◌≤◌, ◌+◌, ◌-◌, length, sym, arith}
use Rattle.a95_base.specs.Text.{first_place}
use Rattle.text_functions.proofs.Places.{place_found, place_none, place_small}
use Rattle.text_functions.proofs.characters.first_place.Goals as goal

pub returns-in-Some : goal.returns-in-Some
returns-in-Some c =
    let at = c.in-Some.at in
    let found : first_place c.args.text.now c.args.part.now ≡ 1 + at =
    place_found 1 c.args.text.now c.args.part.now at c.in-Some.ensures.1
    (λ j below. c.in-Some.ensures.0.before j (omega arith) below) in
    let small : at ≤ length c.args.text.now - 1 =
    place_small c.args.text.now c.args.part.now at c.in-Some.ensures.1 (λ j below. c.in-Some.ensures.0.before j (omega arith) below)
    in
    record { place = omega (arith, found); within = omega (arith, small) }

pub returns-in-None : goal.returns-in-None
returns-in-None c = record {
  place = sym (place_none 1 c.args.text.now c.args.part.now (λ j below. c.in-None.ensures j (omega arith) below));
  within = omega arith;
}
