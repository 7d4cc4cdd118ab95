-- What a state of the machine has read, and what it keeps.
use Rattle.std.proofs.Common.{◌≡◌, ◌≤◌, Bool, true, ◌&&◌, List, [], ◌∷◌, ◌++◌, map, Option}
use Rattle.std.specs.Prelude.{option_map}
use Rattle.f95_tree.specs.declared.expression.Expression.{Expression}
use Rattle.f95_tree.specs.declared.expression.Expression.TheVariants as e
use Rattle.f95_tree.specs.declared.expression.Expression.TheOpen as layer
use Rattle.f95_tree.specs.declared.expression.Reference.{Reference}
use Rattle.f95_tree.specs.declared.expression.Reference.TheVariants as r
use Rattle.f95_tree.specs.declared.expression.Value.{Value}
use Rattle.f95_tree.specs.declared.expression.Value.TheVariants as v
use Rattle.f95_tree.specs.declared.expression.Item.{Item}
use Rattle.f95_tree.specs.declared.expression.Item.TheVariants as i
use Rattle.f95_tree.specs.declared.terminal.Terminal.{Terminal}
use Rattle.f95_tree.specs.declared.terminal.Terminal.TheVariants as terminal
use Rattle.f95_tree.specs.declared.terminal.Operator.{Operator}
use Rattle.f95_tree.specs.declared.terminal.Operator.TheVariants as operator
use Rattle.f95_tree.specs.declared.terminal.Sign.{Sign}
use Rattle.f95_tree.specs.declared.terminal.Sign.TheVariants as sign
use Rattle.f95_tree.specs.declared.terminal.Punctuation.{Punctuation}
use Rattle.f95_tree.specs.declared.terminal.Punctuation.TheVariants as mark
use Rattle.f95_tree.specs.Levels.{level, left_of, sign_level}
use Rattle.f95_tree.specs.Spelling.{Text, punctuated, commas, in_brackets, maybe, sign_terminal}
use Rattle.f95_tree.specs.Spelling.{expression, item, value}
use Rattle.f95_tree.specs.Grades.{all, maybe_well, grade, well, well_item, well_value}
use Rattle.f95_expressions.specs.declared.pending.Field.{Field}
use Rattle.f95_expressions.specs.declared.pending.Spread.{Spread}
use Rattle.f95_expressions.specs.declared.pending.Spread.TheVariants as spread
use Rattle.f95_expressions.specs.declared.pending.Bracket.{Bracket}
use Rattle.f95_expressions.specs.declared.pending.Bracket.TheVariants as kind
use Rattle.f95_expressions.specs.declared.pending.Stage.{Stage}
use Rattle.f95_expressions.specs.declared.pending.Stage.TheVariants as stage
use Rattle.f95_expressions.specs.declared.pending.Pending.TheVariants as pending
use Rattle.f95_expressions.specs.declared.pending.Machine.{Machine}
use Rattle.f95_expressions.specs.declared.pending.Machine.TheVariants as machine
use Rattle.f95_expressions.specs.Fields.{left_text, done_text, fields_text}
use Rattle.f95_expressions.specs.Fields.{well_fields}
use Rattle.f95_expressions.specs.Machine.{Stack, asked}

-- ---- the text of a state

abbrev pub opening : Bracket → Text
opening kind.Plain = punctuated mark.Open []
opening (kind.Behind n) = terminal.Name n ∷ punctuated mark.Open []
opening (kind.Part n items) = terminal.Name n ∷ (in_brackets (commas (map item items)) ++ punctuated mark.Open [])
opening kind.Array = punctuated mark.OpenArray []
opening kind.Alone = []
opening kind.Row = []

abbrev pub stage_text : Stage → Text
stage_text stage.Start = []
stage_text (stage.Upper lower) = maybe (option_map expression lower) ++ punctuated mark.Colon []
stage_text (stage.Stride lower upper) = maybe (option_map expression lower)
    ++ punctuated mark.Colon (maybe (option_map expression upper) ++ punctuated mark.Colon [])

abbrev pub stack_text : Stack → Text
stack_text [] = []
stack_text (pending.Left a op ∷ s) = stack_text s ++ (expression a ++ terminal.Operator op ∷ [])
stack_text (pending.Before g ∷ s) = stack_text s ++ (sign_terminal g ∷ [])
stack_text (pending.Open k d left g ∷ s) = stack_text s ++ (opening k ++ (done_text d ++ (left_text left ++ stage_text g)))

-- ---- what a state keeps

abbrev pub well_bracket : Bracket → Bool
well_bracket (kind.Part n items) = all (map well_item items)
well_bracket _ = true

abbrev pub well_stage : Stage → Bool
well_stage stage.Start = true
well_stage (stage.Upper lower) = maybe_well (option_map grade lower)
well_stage (stage.Stride lower upper) = maybe_well (option_map grade lower) && maybe_well (option_map grade upper)

pub record Opened (k : Bracket) (d : List Field) (left : Option Expression) (g : Stage) : Type 0 where
  pub bracket_well : well_bracket k ≡ true
  pub done_well : well_fields d ≡ true
  pub left_well : maybe_well (option_map grade left) ≡ true
  pub stage_well : well_stage g ≡ true

abbrev pub Sits : Stack → Type 0
Sits [] = Unit {0}
Sits (pending.Left a op ∷ s) = (asked s ≤ level op) × (left_of op ≤ (grade a).0) × (well a ≡ true) × Sits s
Sits (pending.Before g ∷ s) = (asked s ≤ sign_level g) × Sits s
Sits (pending.Open k d left g ∷ s) = Opened k d left g × Sits s

pub record Holding (s : Stack) (x : Expression) (t : Text) : Type 0 where
  pub spelled : stack_text s ++ expression x ≡ t
  pub sits : Sits s
  pub operand : grade x ≡ (10, true)

pub record Doing (s : Stack) (w : Value) (t : Text) : Type 0 where
  pub spelled : stack_text s ++ value w ≡ t
  pub sits : Sits s
  pub kept : well_value w ≡ true

-- a state that has read this text
abbrev pub Good : Machine → Text → Type 0
Good (machine.Waits s) t = (stack_text s ≡ t) × Sits s
Good (machine.Holds s x) t = Holding s x t
Good (machine.Did s w) t = Doing s w t
Good (machine.Closed fs) t = (fields_text fs ++ punctuated mark.Close [] ≡ t) × (well_fields fs ≡ true)
Good machine.Stops t = Unit {0}
