-- What calls do to the bytes that a sink holds or a source has left, where these are told.
use Rattle.std.specs.Prelude.{◌≡◌, ℕ, List, ◌++◌, take, Option, IfSome}
use Rattle.std.specs.Io.KnownBytes.{Appends}

-- the new bytes are the old ones and the bytes of the file, where these are told
abbrev pub Loads : Option (List ℕ) → List ℕ → List ℕ → Type 0
Loads told old new = IfSome told (λ bytes. new ≡ old ++ bytes)

-- a prefix of the piece was appended
abbrev pub AppendsPrefix : Option (List ℕ) → Option (List ℕ) → List ℕ → Type 0
AppendsPrefix old new piece = (n : ℕ) × Appends old new (take n piece)
