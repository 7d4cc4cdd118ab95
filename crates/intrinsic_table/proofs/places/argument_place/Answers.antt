use Rattle.intrinsic_table.specs.Table.{row_of}
use Rattle.intrinsic_table.proofs.Keywords.{stands_some, stands_none}
use Rattle.intrinsic_table.proofs.places.argument_place.Goals as goal

pub returns-clause-some : goal.returns-clause-some
returns-clause-some c = stands_some (row_of c.args.which).arguments c.args.keyword.now c.place_in.result c.place_in.ensures

pub returns-clause-none : goal.returns-clause-none
returns-clause-none c = stands_none (row_of c.args.which).arguments c.args.keyword.now c.place_in.result c.place_in.ensures
