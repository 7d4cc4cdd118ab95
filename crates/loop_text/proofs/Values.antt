-- Values that are spelled right are taken for what they spell. What stands behind a value is the semicolon.
use Rattle.std.proofs.Common.{◌≡◌, ℕ, List, [], ◌∷◌, ◌++◌, drop, decimal, refl, ◌∙◌, ap, append_assoc, append-nil}
use Rattle.loop_tree.specs.declared.atom.Atom.{Atom}
use Rattle.loop_tree.specs.declared.atom.TextAtom.{TextAtom}
use Rattle.loop_tree.specs.declared.atom.Operator.{Operator}
use Rattle.loop_tree.specs.declared.atom.Operator.TheVariants as operator
use Rattle.loop_tree.specs.declared.row.IntValue.{IntValue}
use Rattle.loop_tree.specs.declared.row.IntValue.TheVariants as int
use Rattle.loop_tree.specs.declared.row.TextValue.{TextValue}
use Rattle.loop_tree.specs.declared.row.TextValue.TheVariants as words
use Rattle.loop_tree.specs.Text.{atom_text, text_atom_text, reference_text, operator_text, int_value_text, text_value_text}
use Rattle.loop_tree.specs.Program.{FitsAtom, FitsInt, FitsWords}
use Rattle.loop_text.specs.Guess.{AtomOn, TextOn, ReferenceOn, atom_on, text_on, reference_on, index_on, operator_on, operation_on}
use Rattle.loop_text.specs.Guess.{int_cell_on, int_power_on, int_xor_on, int_index_on, int_compare_on, int_plain_on, int_call_on}
use Rattle.loop_text.specs.Guess.{int_value_on, text_cell_on, text_join_on, text_part_on, text_over_on, text_fit_on, text_call_on}
use Rattle.loop_text.specs.Guess.{text_value_on}
use Rattle.loop_text.proofs.Numbers.{index_again, atom_again}
use Rattle.loop_text.proofs.Texts.{text_again, reference_again, atom_begins, text_begins}

-- ---- how the arguments of a built-in stand before the end of the line

abbrev pub end_of_call : List ℕ
end_of_call = 41 ∷ 59 ∷ []

abbrev pub two : List ℕ → List ℕ → List ℕ
two a b = a ++ 44 ∷ 32 ∷ (b ++ end_of_call)

abbrev pub three : List ℕ → List ℕ → List ℕ → List ℕ
three a b c = a ++ 44 ∷ 32 ∷ (b ++ 44 ∷ 32 ∷ (c ++ end_of_call))

pub one_is : (a : List ℕ) → (a ++ 41 ∷ []) ++ 59 ∷ [] ≡ a ++ end_of_call
one_is a = append_assoc a (41 ∷ []) (59 ∷ [])

pub two_is : (a b : List ℕ) → ((a ++ 44 ∷ 32 ∷ (b ++ [])) ++ 41 ∷ []) ++ 59 ∷ [] ≡ two a b
two_is a b = simp (append_assoc, append-nil)

pub three_is : (a b c : List ℕ) → ((a ++ 44 ∷ 32 ∷ (b ++ 44 ∷ 32 ∷ (c ++ []))) ++ 41 ∷ []) ++ 59 ∷ [] ≡ three a b c
three_is a b c = simp (append_assoc, append-nil)

-- ---- integers

operation_is : (a : List ℕ) (op : List ℕ) (b : List ℕ) → (a ++ 32 ∷ (op ++ 32 ∷ b)) ++ 59 ∷ [] ≡ a ++ 32
    ∷ (op ++ 32 ∷ (b ++ 59 ∷ []))
operation_is a op b = simp append_assoc

second_operand : (a : Atom) (op : Operator) (b : Atom) → FitsAtom b → int.Operation a op (atom_on (atom_text b ++ 59 ∷ [])).value
    ≡ int.Operation a op b
second_operand a op b h = ap (λ (x : AtomOn). int.Operation a op x.value) (atom_again b (59 ∷ []) h refl)

operation_again : (a : Atom) (op : Operator) (b : Atom) → FitsAtom b →
    operation_on (record { value = a; rest = 32 ∷ (operator_text op ++ 32 ∷ (atom_text b ++ 59 ∷ [])) }) ≡ int.Operation a op b
unfolding operation_on operator_on
operation_again a operator.Add b h = second_operand a operator.Add b h
operation_again a operator.Subtract b h = second_operand a operator.Subtract b h
operation_again a operator.Multiply b h = second_operand a operator.Multiply b h
operation_again a operator.Divide b h = second_operand a operator.Divide b h
operation_again a operator.Remainder b h = second_operand a operator.Remainder b h
operation_again a operator.Less b h = second_operand a operator.Less b h
operation_again a operator.LessEqual b h = second_operand a operator.LessEqual b h
operation_again a operator.Equal b h = second_operand a operator.Equal b h
operation_again a operator.NotEqual b h = second_operand a operator.NotEqual b h
operation_again a operator.And b h = second_operand a operator.And b h
operation_again a operator.Or b h = second_operand a operator.Or b h

abbrev semicolon : List ℕ
semicolon = 59 ∷ []

-- an atom alone
alone : (a : Atom) → operation_on (record { value = a; rest = semicolon }) ≡ int.Atom a
unfolding operation_on
alone a = refl

atom_first : (a : Atom) (rest : List ℕ) → FitsAtom a → (is : IntValue) → operation_on (atom_on (atom_text a ++ rest)) ≡ is →
    int_value_on (atom_text a ++ rest) ≡ is
unfolding int_value_on
atom_first a rest h is e = rw (atom_begins a rest h) e

cell_is : (n a : List ℕ) → (n ++ 91 ∷ (a ++ 93 ∷ [])) ++ semicolon ≡ n ++ 91 ∷ (a ++ 93 ∷ semicolon)
cell_is n a = simp append_assoc

pub int_value_again : (v : IntValue) → FitsInt v → int_value_on (int_value_text v ++ semicolon) ≡ v
unfolding int_value_on int_call_on int_plain_on int_cell_on int_power_on int_xor_on int_index_on int_compare_on
int_value_again (int.Atom a) h = atom_first a semicolon h (int.Atom a) (ap operation_on (atom_again a semicolon h refl) ∙ alone a)
int_value_again (int.Operation a op b) h =
    let rest = 32 ∷ (operator_text op ++ 32 ∷ (atom_text b ++ semicolon)) in
    ap int_value_on (operation_is (atom_text a) (operator_text op) (atom_text b))
    ∙ atom_first a rest h.0 (int.Operation a op b) (ap operation_on (atom_again a rest h.0 refl) ∙ operation_again a op b h.1)
int_value_again (int.Cell n a) h =
    ap (λ bs. int_cell_on (index_on bs)) (cell_is (decimal n) (atom_text a))
    ∙ (ap int_cell_on (index_again n (91 ∷ (atom_text a ++ 93 ∷ semicolon)) h.0 refl)
    ∙ ap (λ (x : AtomOn). int.Cell n x.value) (atom_again a (93 ∷ semicolon) h.1 refl))
int_value_again (int.Wrap a) h = ap (λ bs. int.Wrap (atom_on bs).value) (one_is (atom_text a))
    ∙ ap (λ (x : AtomOn). int.Wrap x.value) (atom_again a end_of_call h refl)
int_value_again (int.Power a b) h =
    ap (λ bs. int_power_on (atom_on bs)) (two_is (atom_text a) (atom_text b))
    ∙ (ap int_power_on (atom_again a (44 ∷ 32 ∷ (atom_text b ++ end_of_call)) h.0 refl)
    ∙ ap (λ (x : AtomOn). int.Power a x.value) (atom_again b end_of_call h.1 refl))
int_value_again (int.Xor a b) h =
    ap (λ bs. int_xor_on (atom_on bs)) (two_is (atom_text a) (atom_text b))
    ∙ (ap int_xor_on (atom_again a (44 ∷ 32 ∷ (atom_text b ++ end_of_call)) h.0 refl)
    ∙ ap (λ (x : AtomOn). int.Xor a x.value) (atom_again b end_of_call h.1 refl))
int_value_again (int.Length t) h = ap (λ bs. int.Length (text_on bs).value) (one_is (text_atom_text t))
    ∙ ap (λ (x : TextOn). int.Length x.value) (text_again t end_of_call h refl)
int_value_again (int.Index t u) h =
    ap (λ bs. int_index_on (text_on bs)) (two_is (text_atom_text t) (text_atom_text u))
    ∙ (ap int_index_on (text_again t (44 ∷ 32 ∷ (text_atom_text u ++ end_of_call)) h.0 refl)
    ∙ ap (λ (x : TextOn). int.Index t x.value) (text_again u end_of_call h.1 refl))
int_value_again (int.Code t) h = ap (λ bs. int.Code (text_on bs).value) (one_is (text_atom_text t))
    ∙ ap (λ (x : TextOn). int.Code x.value) (text_again t end_of_call h refl)
int_value_again (int.Compare t u) h =
    ap (λ bs. int_compare_on (text_on bs)) (two_is (text_atom_text t) (text_atom_text u))
    ∙ (ap int_compare_on (text_again t (44 ∷ 32 ∷ (text_atom_text u ++ end_of_call)) h.0 refl)
    ∙ ap (λ (x : TextOn). int.Compare t x.value) (text_again u end_of_call h.1 refl))
int_value_again (int.Size r) h = ap (λ bs. int.Size (reference_on bs).value) (one_is (reference_text r))
    ∙ ap (λ (x : ReferenceOn). int.Size x.value) (reference_again r end_of_call h refl)
int_value_again (int.Live r) h = ap (λ bs. int.Live (reference_on bs).value) (one_is (reference_text r))
    ∙ ap (λ (x : ReferenceOn). int.Live x.value) (reference_again r end_of_call h refl)
int_value_again int.Depth h = refl
int_value_again int.More h = refl
int_value_again (int.Look a) h = ap (λ bs. int.Look (atom_on bs).value) (one_is (atom_text a))
    ∙ ap (λ (x : AtomOn). int.Look x.value) (atom_again a end_of_call h refl)
int_value_again (int.Take a) h = ap (λ bs. int.Take (atom_on bs).value) (one_is (atom_text a))
    ∙ ap (λ (x : AtomOn). int.Take x.value) (atom_again a end_of_call h refl)

-- ---- texts

text_first : (t : TextAtom) (rest : List ℕ) → text_value_on (text_atom_text t ++ rest)
    ≡ words.Atom (text_on (text_atom_text t ++ rest)).value
unfolding text_value_on
text_first t rest = rw (text_begins t rest) refl

pub text_value_again : (v : TextValue) → FitsWords v → text_value_on (text_value_text v ++ semicolon) ≡ v
unfolding text_value_on text_call_on text_cell_on text_join_on text_part_on text_over_on text_fit_on
text_value_again (words.Atom t) h = text_first t semicolon ∙ ap (λ (x : TextOn). words.Atom x.value) (text_again t semicolon h refl)
text_value_again (words.Cell n a) h =
    ap (λ bs. text_cell_on (index_on bs)) (cell_is (decimal n) (atom_text a))
    ∙ (ap text_cell_on (index_again n (91 ∷ (atom_text a ++ 93 ∷ semicolon)) h.0 refl)
    ∙ ap (λ (x : AtomOn). words.Cell n x.value) (atom_again a (93 ∷ semicolon) h.1 refl))
text_value_again (words.Join t u) h =
    ap (λ bs. text_join_on (text_on bs)) (two_is (text_atom_text t) (text_atom_text u))
    ∙ (ap text_join_on (text_again t (44 ∷ 32 ∷ (text_atom_text u ++ end_of_call)) h.0 refl)
    ∙ ap (λ (x : TextOn). words.Join t x.value) (text_again u end_of_call h.1 refl))
text_value_again (words.Part t a b) h =
    let second = 44 ∷ 32 ∷ (atom_text b ++ end_of_call) in
    ap (λ bs. text_part_on (text_on bs)) (three_is (text_atom_text t) (atom_text a) (atom_text b))
    ∙ (ap text_part_on (text_again t (44 ∷ 32 ∷ (atom_text a ++ second)) h.0 refl)
    ∙ (ap (λ (x : AtomOn). words.Part t x.value (atom_on (drop 2 x.rest)).value) (atom_again a second h.1 refl)
    ∙ ap (λ (x : AtomOn). words.Part t a x.value) (atom_again b end_of_call h.2 refl)))
text_value_again (words.Over t a u) h =
    let second = 44 ∷ 32 ∷ (text_atom_text u ++ end_of_call) in
    ap (λ bs. text_over_on (text_on bs)) (three_is (text_atom_text t) (atom_text a) (text_atom_text u))
    ∙ (ap text_over_on (text_again t (44 ∷ 32 ∷ (atom_text a ++ second)) h.0 refl)
    ∙ (ap (λ (x : AtomOn). words.Over t x.value (text_on (drop 2 x.rest)).value) (atom_again a second h.1 refl)
    ∙ ap (λ (x : TextOn). words.Over t a x.value) (text_again u end_of_call h.2 refl)))
text_value_again (words.Fit t a) h =
    ap (λ bs. text_fit_on (text_on bs)) (two_is (text_atom_text t) (atom_text a))
    ∙ (ap text_fit_on (text_again t (44 ∷ 32 ∷ (atom_text a ++ end_of_call)) h.0 refl)
    ∙ ap (λ (x : AtomOn). words.Fit t x.value) (atom_again a end_of_call h.1 refl))
text_value_again (words.Trim t) h = ap (λ bs. words.Trim (text_on bs).value) (one_is (text_atom_text t))
    ∙ ap (λ (x : TextOn). words.Trim x.value) (text_again t end_of_call h refl)
text_value_again (words.Left t) h = ap (λ bs. words.Left (text_on bs).value) (one_is (text_atom_text t))
    ∙ ap (λ (x : TextOn). words.Left x.value) (text_again t end_of_call h refl)
text_value_again (words.Right t) h = ap (λ bs. words.Right (text_on bs).value) (one_is (text_atom_text t))
    ∙ ap (λ (x : TextOn). words.Right x.value) (text_again t end_of_call h refl)
text_value_again (words.Char a) h = ap (λ bs. words.Char (atom_on bs).value) (one_is (atom_text a))
    ∙ ap (λ (x : AtomOn). words.Char x.value) (atom_again a end_of_call h refl)
