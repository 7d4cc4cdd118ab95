-- Rules of refusal that are broken on lines: which comes first, and the least of all that are broken.
use Rattle.std.specs.Prelude.{◌≡◌, ℕ, ◌<◌, ◌≤◌, ◌⊎◌, Bool, ◌==◌, ◌&&◌, ◌||◌, nat_lt, nat_le, if◌then◌else◌, List, [], ◌∷◌, Option}
use Rattle.std.specs.Prelude.{Some, None, true, false}
use Rattle.a95_base.specs.Lists.{Member}
use Rattle.a95_base.specs.declared.breaks.Break.{Break}

abbrev pub broken_at : ℕ → ℕ → Break
broken_at line rule = record { line = line; rule = rule }

-- a line and a rule come before another line and rule, or are the same
abbrev pub ComesFirst : ℕ → ℕ → ℕ → ℕ → Type 0
ComesFirst line rule other_line other_rule = (line < other_line) ⊎ ((line ≡ other_line) × (rule ≤ other_rule))

-- of all that is broken, the first line and on it the least rule
pub record IsLeast (IsBroken : ℕ → ℕ → Type 0) (line rule : ℕ) : Type 0 where
  pub broken : IsBroken line rule
  pub least : (other_line other_rule : ℕ) → IsBroken other_line other_rule → ComesFirst line rule other_line other_rule

-- the breaks are exactly what is broken
pub record AreBroken (IsBroken : ℕ → ℕ → Type 0) (breaks : List Break) : Type 0 where
  pub sound : (b : Break) → Member breaks b → IsBroken b.line b.rule
  pub complete : (line rule : ℕ) → IsBroken line rule → Member breaks (broken_at line rule)

-- the first of some breaks
abbrev pub comes_first : Break → Break → Bool
comes_first a b = nat_lt a.line b.line || (a.line == b.line && nat_le a.rule b.rule)

abbrev pub first_from : Break → List Break → Break
first_from b [] = b
first_from b (c ∷ cs) = first_from (if comes_first b c then b else c) cs

abbrev pub first_of : List Break → Option Break
first_of [] = None
first_of (b ∷ bs) = Some (first_from b bs)

-- a break, where a test says so
abbrev pub noted : Bool → Break → List Break
noted true b = b ∷ []
noted false b = []
