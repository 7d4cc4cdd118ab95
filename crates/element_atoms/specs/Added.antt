-- What is pushed to a body.
use Rattle.std.specs.Prelude.{◌≡◌}
use Rattle.loop_tree.specs.Body.{Body}

-- where statements were added, all else of the body is as before
abbrev pub IsSameBody : Body → Body → Type 0
IsSameBody old new = (new.room ≡ old.room) × (new.in_loop ≡ old.in_loop)
