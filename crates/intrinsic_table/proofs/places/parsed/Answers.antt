use Rattle.intrinsic_table.proofs.Numerals.{parsed_some, parsed_none}
use Rattle.intrinsic_table.proofs.places.parsed.Goals as goal

pub returns-in-Ok : goal.returns-in-Ok
returns-in-Ok c = parsed_some c.args.text.now c.parse.result c.in-Ok.number c.requires c.parse.ensures.value.0 c.in-Ok.is

pub returns-in-Err : goal.returns-in-Err
returns-in-Err c = parsed_none c.args.text.now c.parse.result c.in-Err.field-0 c.parse.ensures.value.0 c.in-Err.is
