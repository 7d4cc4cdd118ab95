-- Numbers of elements, as far as one more than the most counts.
use Rattle.std.specs.Prelude.{ℕ, ◌+◌, min, Option, option_map}
use Rattle.a95_base.specs.Limits.{most_elements}

abbrev pub capped : ℕ → ℕ
capped n = min n (most_elements + 1)

abbrev pub capped_size : Option ℕ → Option ℕ
capped_size n = option_map capped n
