-- Which statement that may stand behind IF ( e ) some terminals are, if any.
use Rattle.std.specs.Prelude.{ℕ, Bool, true, false, List, [], ◌∷◌, Option, Some, None, option_map, option_and_then, if◌then◌else◌}
use Rattle.f95_tree.specs.declared.expression.Expression.{Expression}
use Rattle.f95_tree.specs.declared.expression.Reference.{Reference}
use Rattle.f95_tree.specs.declared.expression.Literal.{Literal}
use Rattle.f95_tree.specs.declared.expression.Literal.TheVariants as literal
use Rattle.f95_tree.specs.declared.terminal.Terminal.{Terminal}
use Rattle.f95_tree.specs.declared.terminal.Terminal.TheVariants as terminal
use Rattle.f95_tree.specs.declared.terminal.Operator.TheVariants as operator
use Rattle.f95_tree.specs.declared.terminal.Punctuation.TheVariants as mark
use Rattle.f95_tree.specs.declared.terminal.Keyword.{Keyword}
use Rattle.f95_tree.specs.declared.terminal.Keyword.TheVariants as keyword
use Rattle.f95_tree.specs.declared.terminal.BlockWord.{BlockWord}
use Rattle.f95_tree.specs.declared.action.Argument.{Argument}
use Rattle.f95_tree.specs.declared.terminal.BlockWord.TheVariants as block
use Rattle.f95_tree.specs.declared.terminal.ActionWord.{ActionWord}
use Rattle.f95_tree.specs.declared.terminal.ActionWord.TheVariants as word
use Rattle.f95_tree.specs.declared.action.Action.{Action}
use Rattle.f95_tree.specs.declared.action.Action.TheVariants as act
use Rattle.f95_tree.specs.declared.action.Assignment.{Assignment}
use Rattle.f95_tree.specs.declared.action.Header.{Header}
use Rattle.f95_tree.specs.Forms.{Word}
use Rattle.f95_tree.specs.Spelling.{Text}
use Rattle.f95_expressions.specs.declared.pending.Field.{Field}
use Rattle.f95_expressions.specs.Machine.{collected, within, expression_of, bracket, row}
use Rattle.f95_parts.specs.Views.{is_nil, behind, behind_star, behind_name, behind_keyword, behind_literal, at_end, nothing_more}
use Rattle.f95_parts.specs.Views.{name_at_end}
use Rattle.f95_parts.specs.Parts.{reference_of, name_of, argument_of, allocation_of, header_of, assignment_of}

-- Brackets and rows.

-- the fields in brackets with nothing behind them
abbrev pub whole_bracket : Text → Option (List Field)
whole_bracket ts = option_and_then (λ inside. option_and_then at_end (bracket inside)) (behind mark.Open ts)

abbrev pub only : List Field → Option Field
only (f ∷ []) = Some f
only _ = None

abbrev pub condition_in : List Field × Text → Option (Expression × Text)
condition_in found = option_map (λ x. (x, found.1)) (option_and_then expression_of (only found.0))

-- an expression in brackets, and what stands behind them
abbrev pub conditioned : Text → Option (Expression × Text)
conditioned ts = option_and_then (λ inside. option_and_then condition_in (bracket inside)) (behind mark.Open ts)

abbrev pub header_in : List Field × Text → Option (Header × Text)
header_in found = option_map (λ h. (h, found.1)) (header_of found.0)

-- the header of a FORALL, and what stands behind it
abbrev pub headed : Text → Option (Header × Text)
headed ts = option_and_then (λ inside. option_and_then header_in (bracket inside)) (behind mark.Open ts)

-- what each field of a row is, of which there may be none
abbrev pub listed : {A : Type 0} → (Field → Option A) → Text → Option (List A)
listed make ts = if is_nil ts then Some [] else option_and_then (collected make []) (row ts)

-- the same, each behind a comma
abbrev pub listed_behind : {A : Type 0} → (Field → Option A) → Text → Option (List A)
listed_behind make ts = if is_nil ts then Some [] else option_and_then (λ rest. option_and_then (collected make []) (row rest))
    (behind mark.Comma ts)

abbrev pub assigned : Text → Option Assignment
assigned ts = option_and_then (λ fs. option_and_then assignment_of (only fs)) (row ts)

-- what stands behind ( * , * )
abbrev pub behind_unit : Text → Option Text
behind_unit ts =
    option_and_then
    (λ a. option_and_then (λ b. option_and_then (λ c. option_and_then (behind mark.Close) (behind_star c)) (behind mark.Comma b))
    (behind_star a)) (behind mark.Open ts)

-- Words.

abbrev pub arguments_of : Text → Option (List Argument)
arguments_of ts = option_and_then (λ fs. collected argument_of [] (within fs)) (whole_bracket ts)

abbrev pub call_named : Word × Text → Option Action
call_named p = if is_nil p.1 then Some (act.Call p.0 None) else option_map (λ arguments. act.Call p.0 (Some arguments))
    (arguments_of p.1)

abbrev pub call_of : Text → Option Action
call_of ts = option_and_then call_named (behind_name ts)

abbrev pub allocate_of : Text → Option Action
allocate_of ts = option_map act.Allocate (option_and_then (collected allocation_of []) (whole_bracket ts))

abbrev pub deallocate_of : Text → Option Action
deallocate_of ts = option_map act.Deallocate (option_and_then (collected name_of []) (whole_bracket ts))

abbrev pub print_of : Text → Option Action
print_of ts = option_and_then (λ rest. option_map act.Print (listed_behind expression_of rest)) (behind_star ts)

abbrev pub write_of : Text → Option Action
write_of ts = option_and_then (λ rest. option_map act.Write (listed expression_of rest)) (behind_unit ts)

abbrev pub read_unit : Text → Option Action
read_unit ts = option_and_then (λ rest. option_map act.ReadUnit (listed reference_of rest)) (behind_unit ts)

abbrev pub read_by : Option Text → Text → Option Action
read_by None ts = read_unit ts
read_by (Some rest) ts = option_map act.Read (listed_behind reference_of rest)

abbrev pub read_of : Text → Option Action
read_of ts = read_by (behind_star ts) ts

abbrev pub stop_code : Literal → Option Literal
stop_code (literal.Number n) = Some (literal.Number n)
stop_code (literal.Text t) = Some (literal.Text t)
stop_code (literal.Logical _) = None

abbrev pub stop_of : Text → Option Action
stop_of ts = if is_nil ts then Some (act.Stop None) else option_map (λ code. act.Stop (Some code))
    (option_and_then stop_code (option_and_then at_end (behind_literal ts)))

abbrev pub action_by : ActionWord → Text → Option Action
action_by word.Call ts = call_of ts
action_by word.Allocate ts = allocate_of ts
action_by word.Deallocate ts = deallocate_of ts
action_by word.Print ts = print_of ts
action_by word.Write ts = write_of ts
action_by word.Read ts = read_of ts
action_by word.Stop ts = stop_of ts
action_by word.Return ts = nothing_more act.Return ts
action_by word.Continue ts = nothing_more act.Continue ts
action_by word.Exit ts = option_map act.Exit (name_at_end ts)
action_by word.Cycle ts = option_map act.Cycle (name_at_end ts)

-- a mask or a header with an assignment
abbrev pub where_of : Text → Option Action
where_of ts = option_and_then (λ p. option_map (act.Where p.0) (assigned p.1)) (conditioned ts)

abbrev pub forall_of : Text → Option Action
forall_of ts = option_and_then (λ p. option_map (act.Forall p.0) (assigned p.1)) (headed ts)

abbrev pub blocked : BlockWord → Text → Option Action
blocked block.Where ts = where_of ts
blocked block.Forall ts = forall_of ts
blocked _ ts = None

abbrev pub action_worded : Keyword × Text → Option Action
action_worded (keyword.Action w, ts) = action_by w ts
action_worded (keyword.Block w, ts) = blocked w ts
action_worded _ = None

-- an assignment where no keyword stands first
abbrev pub action_keyed : Option (Keyword × Text) → Text → Option Action
action_keyed None ts = option_map act.Assignment (assigned ts)
action_keyed (Some p) ts = action_worded p

abbrev pub action_of : Text → Option Action
action_of ts = action_keyed (behind_keyword ts) ts
