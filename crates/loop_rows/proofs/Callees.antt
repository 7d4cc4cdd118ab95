-- What a call comes to.
use Rattle.std.proofs.Common.{◌≡◌, ℕ, zero, suc, Bool, true, false, List, [], ◌∷◌, Option, Some, None, if◌then◌else◌, refl, ap}
use Rattle.std.proofs.Common.{◌∙◌, sym}
use Rattle.std.specs.List.{list_all}
use Rattle.std.specs.Prelude.{slice_get, map}
use Rattle.loop_tree.specs.declared.stuck.StuckState.TheVariants as stuck
use Rattle.loop_tree.specs.declared.atom.Argument.{Argument}
use Rattle.loop_tree.specs.declared.tree.CodeLine.{CodeLine}
use Rattle.loop_tree.specs.declared.tree.Function.{Function}
use Rattle.loop_tree.specs.State.{State, Stuck, Goes, Ends}
use Rattle.loop_tree.specs.Machine.{int_passed, text_passed, ints_passed, texts_passed, match_letters, is_usable, callable}
use Rattle.loop_tree.specs.Machine.{enter_if, call_line}
use Rattle.loop_rows.specs.Shown.{frame, lines_or_none}
use Rattle.loop_rows.specs.Callees.{accepts, entered}

chosen_true : {A : Type 0} (b : Bool) (x y : A) → b ≡ true → (if b then x else y) ≡ x
chosen_true true x y e = refl
chosen_true false x y e = absurd cc

chosen_false : {A : Type 0} (b : Bool) (x y : A) → b ≡ false → (if b then x else y) ≡ y
chosen_false true x y e = absurd cc
chosen_false false x y e = refl

pub not_usable : (functions : List Function) (s : State) (n : ℕ) (arguments : List Argument) →
    list_all (is_usable s) arguments ≡ false → call_line functions s n arguments ≡ Ends (Stuck stuck.NoBlock)
unfolding call_line
not_usable functions s n arguments e = chosen_false (list_all (is_usable s) arguments) _ _ e

refused : (s : State) (function : Option Function) (arguments : List Argument) → accepts function arguments ≡ false →
    enter_if s function arguments ≡ Ends (Stuck stuck.WrongCall)
refused s None arguments e = refl
refused s (Some function) arguments e = chosen_false (match_letters arguments function.parameters) _ _ e

pub not_accepted : (functions : List Function) (s : State) (n : ℕ) (arguments : List Argument) →
    list_all (is_usable s) arguments ≡ true → accepts (callable functions n) arguments ≡ false →
    call_line functions s n arguments ≡ Ends (Stuck stuck.WrongCall)
unfolding call_line
not_accepted functions s n arguments u e = chosen_true (list_all (is_usable s) arguments) _ _ u ∙
    refused s (callable functions n) arguments e

-- the state in which the call has begun
abbrev begun : List Function → State → ℕ → List Argument → State
begun functions s n arguments = record s { now = frame functions (entered s n arguments); callers = s.now ∷ s.callers }

-- the same, where the function has these lines
abbrev with_lines : State → List CodeLine → List Argument → State
with_lines s lines arguments = record s {
  now = record {
    rest = lines;
    braces = [];
    ints = map (int_passed s) arguments;
    indices = [];
    texts = map (text_passed s) arguments;
    int_blocks = map (ints_passed s) arguments;
    text_blocks = map (texts_passed s) arguments;
    line = 0;
    mark = s.made;
  };
  callers = s.now ∷ s.callers;
}

at_function : (functions : List Function) (s : State) (n : ℕ) (arguments : List Argument) (found : Option Function) →
    slice_get functions n ≡ found → accepts found arguments ≡ true →
    enter_if s found arguments ≡ Goes true [] (begun functions s n arguments)
at_function functions s n arguments None f e = absurd cc
at_function functions s n arguments (Some function) f e =
    chosen_true (match_letters arguments function.parameters) _ _ e ∙
    ap (λ (lines : List CodeLine). Goes true [] (with_lines s lines arguments)) (sym (ap lines_or_none f))

pub called : (functions : List Function) (s : State) (n : ℕ) (arguments : List Argument) →
    list_all (is_usable s) arguments ≡ true → accepts (callable functions n) arguments ≡ true →
    call_line functions s n arguments ≡ Goes true [] (begun functions s n arguments)
unfolding call_line
called functions s zero arguments u e = absurd cc
called functions s (suc n) arguments u e = chosen_true (list_all (is_usable s) arguments) _ _ u ∙
    at_function functions s (suc n) arguments (slice_get functions (suc n)) refl e
