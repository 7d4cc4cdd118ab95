-- The values of matches.
use Rattle.std.proofs.Common.{◌≡◌}
use Rattle.clap.specs.Words.{Text, first_of, first_value, found_of, rows_of}
use Rattle.clap.specs.declared.ArgMatches.{ArgMatches}
use Rattle.clap.proofs.WalkLemmas.{first_value-rows}

pub value_in_rows : (m : ArgMatches) (id : Text) → first_value (found_of m) id ≡ first_of id (rows_of (found_of m))
value_in_rows m id = first_value-rows (found_of m) id
