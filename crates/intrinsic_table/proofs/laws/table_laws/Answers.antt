use Rattle.intrinsic_table.proofs.Found.{names_differ}
use Rattle.intrinsic_table.proofs.Keywords.{keywords_differ, places_are_counted, needed_stand_first}
use Rattle.intrinsic_table.proofs.laws.table_laws.Goals as goal

pub returns : goal.returns
returns c = record { names = names_differ; keywords = keywords_differ; places = places_are_counted; needed = needed_stand_first }
