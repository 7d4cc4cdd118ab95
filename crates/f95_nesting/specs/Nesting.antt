-- What a list of forms nests to, and the rules of refusal of this phase, each with its line.
use Rattle.std.specs.Prelude.{◌≡◌, ℕ, ◌+◌, ◌<◌, Bool, true, ◌&&◌, List, [], ◌∷◌, ◌++◌, map}
use Rattle.a95_base.specs.declared.source.Line.{Line}
use Rattle.a95_base.specs.declared.source.PhaseError.{PhaseError}
use Rattle.a95_base.specs.declared.source.PhaseError.TheVariants.{Memory, Broken}
use Rattle.a95_base.specs.Breaks.{IsLeast}
use Rattle.a95_base.specs.Rules.{wrong_nesting, wrong_construct_name, too_many_blocks, no_end}
use Rattle.f95_tree.specs.declared.form.Form.{Form}
use Rattle.f95_tree.specs.declared.source.Source.{Source}
use Rattle.f95_nesting.specs.Placed.{Placed, Text, source_text}

-- a form and its line
abbrev pub Lined : Type 0
Lined = Line × Form

abbrev pub bare : Placed → Lined
bare p = (p.line, p.form)

abbrev pub forms_of : Text → List Lined
forms_of t = map bare t

abbrev pub all_stand : Text → Bool
all_stand [] = true
all_stand (p ∷ ps) = p.stands && all_stand ps

-- the forms nest to this source: it is printed as they are, and each statement may stand where it does
pub record Nests (forms : List Lined) (s : Source) : Type 0 where
  pub printed : forms_of (source_text s) ≡ forms
  pub stand : all_stand (source_text s) ≡ true

-- some forms behind them complete a nesting
pub record Begins (forms : List Lined) : Type 0 where
  pub more : List Lined
  pub source : Source
  pub nests : Nests (forms ++ more) source

-- a statement of the forms in its place, the forms up to it being those that begin some nesting
pub record Stands (forms : List Lined) (p : Placed) : Type 0 where
  pub source : Source
  pub before : Text
  pub behind : Text
  pub after : List Lined
  pub text : source_text source ≡ before ++ p ∷ behind
  pub stand : all_stand (source_text source) ≡ true
  pub forms_are : forms ≡ forms_of before ++ bare p ∷ after

abbrev pub most_blocks : ℕ
most_blocks = 64

-- the forms of a file with so many line feeds break the rule on the line
pub data IsBroken (forms : List Lined) (feeds : ℕ) : ℕ → ℕ → Type 0 where
  -- rule 14: the statements up to this one begin no nesting, and those before it begin one
  no_nesting : (before : List Lined) (f : Lined) (after : List Lined) → forms ≡ before ++ f ∷ after
      → Begins before → (Begins (before ++ f ∷ []) → ⊥) → IsBroken forms feeds f.0.0 wrong_nesting
  -- rule 15: a name at an end, ELSE or CASE differs from that of its opening
  wrong_name : (p : Placed) → Stands forms p → p.misnamed ≡ true → IsBroken forms feeds p.line.0 wrong_construct_name
  -- rule 16: more than 64 blocks are open
  many_blocks : (p : Placed) → Stands forms p → most_blocks < p.depth → IsBroken forms feeds p.line.0 too_many_blocks
  -- rule 17: all statements begin a nesting, and the file ends before its main program ends
  unended : Begins forms → ((s : Source) → Nests forms s → ⊥) → IsBroken forms feeds (feeds + 1) no_end

-- what a refusal of these forms says
abbrev pub Refuses : List Lined → ℕ → PhaseError → Type 0
Refuses forms feeds Memory = Unit {0}
Refuses forms feeds (Broken line rule) = IsLeast (IsBroken forms feeds) line.0 rule.0
