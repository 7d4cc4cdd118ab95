-- Each row holds by computation.
use Rattle.std.proofs.Common.{refl}
use Rattle.a95_base.specs.Integer.{wrapped}
use Rattle.names_types_rows.specs.Procedures.{DummyAlone, IntentLater, ListedTwice, NoResult, TypedTwice, AssumedResult, OfTheHost}
use Rattle.names_types_rows.specs.Procedures.{Bounds, Unread}

pub dummy_alone_row : DummyAlone
unfolding wrapped
dummy_alone_row = refl

pub intent_later_row : IntentLater
unfolding wrapped
intent_later_row = refl

pub listed_twice_row : ListedTwice
unfolding wrapped
listed_twice_row = refl

pub no_result_row : NoResult
unfolding wrapped
no_result_row = refl

pub typed_twice_row : TypedTwice
unfolding wrapped
typed_twice_row = refl

pub assumed_result_row : AssumedResult
unfolding wrapped
assumed_result_row = refl

pub of_the_host_row : OfTheHost
unfolding wrapped
of_the_host_row = refl

pub bounds_row : Bounds
unfolding wrapped
bounds_row = refl

pub unread_row : Unread
unfolding wrapped
unread_row = refl
