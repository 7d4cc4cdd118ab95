use Rattle.constant_values.proofs.Keywords.{place_is}
use Rattle.constant_values.proofs.arguments.keyword_place.Goals as goal

pub returns : goal.returns
returns c = place_is c.args.which c.args.keyword.now c.argument_place.result c.argument_place.ensures.some
    c.argument_place.ensures.none
