-- Statements that begin, part and end blocks: what is read is spelled as the terminals, and what is spelled is read.
use Rattle.std.proofs.Common.{◌≡◌, Bool, true, false, ◌&&◌, List, [], ◌∷◌, ◌++◌, map, Option, Some, None, sym, ◌∙◌, ap, subst, refl}
use Rattle.std.proofs.Common.{append-nil}
use Rattle.std.specs.Prelude.{option_map, option_and_then, codes, if◌then◌else◌}
use Rattle.std.proofs.Math.Bool.{and-true}
use Rattle.std.proofs.lemmas.Bool.{and_parts, and_from}
use Rattle.a95_base.proofs.Tests.{by_test}
use Rattle.f95_tree.specs.declared.expression.Expression.{Expression}
use Rattle.f95_tree.specs.declared.expression.Expression.TheVariants as e
use Rattle.f95_tree.specs.declared.expression.Reference.TheVariants as r
use Rattle.f95_tree.specs.declared.expression.Value.TheVariants as v
use Rattle.f95_tree.specs.declared.action.Argument.{Argument}
use Rattle.f95_tree.specs.declared.terminal.Terminal.TheVariants as terminal
use Rattle.f95_tree.specs.declared.terminal.Punctuation.TheVariants as mark
use Rattle.f95_tree.specs.declared.terminal.Keyword.{Keyword}
use Rattle.f95_tree.specs.declared.terminal.Keyword.TheVariants as keyword
use Rattle.f95_tree.specs.declared.terminal.BlockWord.{BlockWord}
use Rattle.f95_tree.specs.declared.terminal.BlockWord.TheVariants as block
use Rattle.f95_tree.specs.declared.form.BlockForm.{BlockForm}
use Rattle.f95_tree.specs.declared.form.BlockForm.TheVariants as block_of
use Rattle.f95_tree.specs.declared.form.CaseRange.{CaseRange}
use Rattle.f95_tree.specs.declared.form.Control.{Control}
use Rattle.f95_tree.specs.declared.form.Control.TheVariants as control_of
use Rattle.f95_tree.specs.Spelling.{Text, punctuated, commas, in_brackets, maybe_behind, expression}
use Rattle.f95_tree.specs.Grades.{all, some, well}
use Rattle.f95_tree.specs.Forms.{Word, named, maybe_named, maybe_expression, block_word, argument_text, label, range_text}
use Rattle.f95_tree.specs.Forms.{comma_text, control_text, end_of, block_text}
use Rattle.f95_tree.specs.WellFormed.{maybe_well_expression, well_range, well_control, well_block}
use Rattle.f95_expressions.specs.declared.pending.Field.{Field}
use Rattle.f95_expressions.specs.declared.pending.Spread.{Spread}
use Rattle.f95_expressions.specs.declared.pending.Spread.TheVariants as spread
use Rattle.f95_expressions.specs.Fields.{fields_text, well_field, well_fields}
use Rattle.f95_expressions.specs.Machine.{lone, whole, collected, expression_of, field, first_in, bracket, row}
use Rattle.f95_expressions.proofs.Fields.{expression_field}
use Rattle.f95_expressions.proofs.Read.{mapped, chained, lone_sound, whole_sound, expression_sound, list_text, onto_well}
use Rattle.f95_expressions.proofs.Found.{row_again, row_sound}
use Rattle.f95_parts.specs.Views.{is, is_nil, behind, behind_name, behind_keyword, behind_word, at_end, name_at_end}
use Rattle.f95_parts.specs.Parts.{argument, range_of}
use Rattle.f95_parts.proofs.ViewLaws.{nil, behind_sound, name_sound, keyword_sound, word_sound, end_sound, more_sound}
use Rattle.f95_parts.proofs.ViewLaws.{name_end_sound, name_end_again}
use Rattle.f95_parts.proofs.PartLaws.{lone_again, whole_again, expression_again}
use Rattle.f95_parts.proofs.FieldLaws.{argument_field, argument_spelled, argument_well}
use Rattle.f95_parts.proofs.ListLaws.{Is, bracket_list_sound, bracket_list_again, collected_fields}
use Rattle.f95_parts.proofs.Instances.{ranges}
use Rattle.f95_statements.specs.Actions.{conditioned}
use Rattle.f95_statements.specs.Declarations.{or_else}
use Rattle.f95_statements.proofs.ConditionLaws.{condition_text, brackets_before, conditioned_sound, conditioned_again}
use Rattle.f95_statements.proofs.ConditionLaws.{condition_again}
use Rattle.f95_statements.proofs.TypeLaws.{or_else_sound}
use Rattle.f95_parser.specs.Reading.{whole_condition, ends_there, is_then, if_block, select_by, select_of, index_of, counted_by}
use Rattle.f95_parser.specs.Reading.{counted_in, counted, while_of, control_by, control_behind, controlled, do_of, opened_by}
use Rattle.f95_parser.specs.Reading.{labelled_by, labelled, label_of, case_ranges, case_in, case_by, case_of, else_if, else_where}
use Rattle.f95_parser.specs.Reading.{else_keyed, else_by, else_of, end_block}

-- ---- what is read

pub is_as : {A : Type 0} (spell : A → Text) (w : A → Bool) (ts : Text) (a b : A) → a ≡ b → spell a ≡ ts → w a ≡ true →
    Is spell w ts b
is_as spell w ts a b q s k = record { spelled = ap spell (sym q) ∙ s; kept = ap w (sym q) ∙ k }

pub tested : {A P : Type 0} (c : Bool) (a b : A) → (if c then Some a else None) ≡ Some b → (c ≡ true → a ≡ b → P) → P
tested true a b h k = k refl (cc)
tested false a b h k = absurd (cc)

pub chosen : {A P : Type 0} (c : Bool) (o p : Option A) (b : A) → (if c then o else p) ≡ Some b → (c ≡ true → o ≡ Some b → P) →
    (c ≡ false → p ≡ Some b → P) → P
chosen true o p b h k l = k refl h
chosen false o p b h k l = l refl h

abbrev pub IsBlock : Text → BlockForm → Type 0
IsBlock = Is block_text well_block

-- ---- conditions and THEN

pub whole_condition_sound : (ts : Text) (x : Expression) → whole_condition ts ≡ Some x → Is condition_text well ts x
whole_condition_sound ts x h = chained at_end (conditioned ts) x h (λ p hp he.
    let end = end_sound p x he in
    let c = conditioned_sound ts p hp in
    is_as condition_text well ts p.0 x end.0 (sym (append-nil (condition_text p.0)) ∙ ap (λ t. condition_text p.0 ++ t) (sym end.1)
    ∙ c.spelled) c.kept)

pub whole_condition_again : (x : Expression) → well x ≡ true → whole_condition (condition_text x) ≡ Some x
whole_condition_again x w = ap (option_and_then at_end) (condition_again x w)

ends_sound : (o : Option Text) → ends_there o ≡ true → o ≡ Some []
ends_sound None h = absurd (cc)
ends_sound (Some rest) h = ap Some (nil rest h)

pub then_sound : (ts : Text) → is_then ts ≡ true → ts ≡ named (codes "then")
then_sound ts h = word_sound (codes "then") ts [] (ends_sound (behind_word (codes "then") ts) h)

-- ---- IF and SELECT

if_block_sound : (n : Option Word) (ts : Text) (b : BlockForm) → if_block n ts ≡ Some b →
    IsBlock (label n ++ block_word block.If ∷ ts) b
if_block_sound n ts b h = chained (λ p. if is_then p.1 then Some (block_of.If n p.0) else None) (conditioned ts) b h (λ p hp h2.
    let c = conditioned_sound ts p hp in
    tested (is_then p.1) (block_of.If n p.0) b h2 (λ is_end is.
    is_as block_text well_block (label n ++ block_word block.If ∷ ts) (block_of.If n p.0) b is
    (ap (λ t. label n ++ block_word block.If ∷ (condition_text p.0 ++ t)) (sym (then_sound p.1 is_end))
    ∙ ap (λ t. label n ++ block_word block.If ∷ t) c.spelled)
    c.kept))

pub if_block_again : (n : Option Word) (x : Expression) → well x ≡ true →
    if_block n (condition_text x ++ named (codes "then")) ≡ Some (block_of.If n x)
if_block_again n x w = ap (option_and_then (λ (p : Expression × Text). if is_then p.1 then Some (block_of.If n p.0) else None))
    (conditioned_again x (named (codes "then")) w)

select_by_sound : (n : Option Word) (k : Keyword) (ts : Text) (b : BlockForm) → select_by n k ts ≡ Some b →
    IsBlock (label n ++ block_word block.Select ∷ terminal.Keyword k ∷ ts) b
select_by_sound n keyword.Case ts b h = mapped (block_of.Select n) (whole_condition ts) b h (λ x hx is.
    let c = whole_condition_sound ts x hx in
    is_as block_text well_block (label n ++ block_word block.Select ∷ terminal.Keyword keyword.Case ∷ ts) (block_of.Select n x) b is
    (ap (λ t. label n ++ block_word block.Select ∷ terminal.Keyword keyword.Case ∷ t) c.spelled) c.kept)
select_by_sound n k ts b h = absurd (cc)

pub select_sound : (n : Option Word) (ts : Text) (b : BlockForm) → select_of n ts ≡ Some b →
    IsBlock (label n ++ block_word block.Select ∷ ts) b
select_sound n ts b h = chained (λ p. select_by n p.0 p.1) (behind_keyword ts) b h (λ p hp h2.
    subst (λ t. IsBlock (label n ++ block_word block.Select ∷ t) b) (sym (keyword_sound ts p hp)) (select_by_sound n p.0 p.1 b h2))

pub select_again : (n : Option Word) (x : Expression) → well x ≡ true →
    select_of n (terminal.Keyword keyword.Case ∷ condition_text x) ≡ Some (block_of.Select n x)
select_again n x w = ap (option_map (block_of.Select n)) (whole_condition_again x w)

-- ---- DO with a name, a first and a last value, and maybe a step

abbrev counter : Word → Expression → Field
counter n x = argument_field (argument (Some n) x)

-- the newest one first
abbrev counter_fields : Word → Expression → Expression → Option Expression → List Field
counter_fields n from to None = expression_field to ∷ counter n from ∷ []
counter_fields n from to (Some step) = expression_field step ∷ expression_field to ∷ counter n from ∷ []

abbrev counter_text : Word → Expression → Expression → Option Expression → Text
counter_text n from to step = terminal.Name n ∷ punctuated mark.Assign
    (expression from ++ punctuated mark.Comma (expression to ++ maybe_behind mark.Comma (maybe_expression step)))

abbrev counter_arguments : Word → Expression → Expression → List Argument → List Argument
counter_arguments n from to more = argument (Some n) from ∷ argument None to ∷ more

counter_spelled : (n : Word) (from to : Expression) (step : Option Expression) →
    fields_text (counter_fields n from to step) ≡ counter_text n from to step
counter_spelled n from to None = list_text argument_field argument_text argument_spelled (counter_arguments n from to [])
counter_spelled n from to (Some step) = list_text argument_field argument_text argument_spelled
    (counter_arguments n from to (argument None step ∷ []))
    ∙ ap (λ t. terminal.Name n ∷ punctuated mark.Assign
    (expression from ++ punctuated mark.Comma (expression to ++ punctuated mark.Comma t))) (append-nil (expression step))

counter_kept : (n : Word) (from to : Expression) (step : Option Expression) → well_fields (counter_fields n from to step) ≡ true →
    (well from && (well to && maybe_well_expression step)) ≡ true
counter_kept n from to None h = (onto_well argument_field (λ (a : Argument). well a.value) argument_well
    (counter_arguments n from to []) [] h).0
counter_kept n from to (Some step) h =
    ap (λ b. well from && (well to && b)) (sym (and-true (well step)))
    ∙ (onto_well argument_field (λ (a : Argument). well a.value) argument_well
    (counter_arguments n from to (argument None step ∷ [])) [] h).0

counter_well : (n : Word) (from to : Expression) (step : Option Expression) →
    (well from && (well to && maybe_well_expression step)) ≡ true →
    well_fields (counter_fields n from to step) ≡ true
counter_well n from to None h =
    let first = and_parts (well from) (well to && true) h in
    let last = and_parts (well to) true first.1 in
    and_from (well_field (counter n from)) (well_field (expression_field to)) (argument_well (argument (Some n) from) ∙ first.0)
    (argument_well (argument None to) ∙ last.0)
counter_well n from to (Some step) h =
    let first = and_parts (well from) (well to && well step) h in
    let last = and_parts (well to) (well step) first.1 in
    and_from (well_field (counter n from) && well_field (expression_field to)) (well_field (expression_field step))
    (and_from (well_field (counter n from)) (well_field (expression_field to)) (argument_well (argument (Some n) from) ∙ first.0)
    (argument_well (argument None to) ∙ last.0))
    (argument_well (argument None step) ∙ last.1)

record Counted (comma : Bool) (fs : List Field) (c : Control) : Type 0 where
  pub name : Word
  pub from : Expression
  pub to : Expression
  pub step : Option Expression
  pub fields : fs ≡ counter_fields name from to step
  pub is : control_of.Counted comma name from to step ≡ c

first_sound : (s : Spread) (x : Expression) → first_in s ≡ Some x → s ≡ spread.One (v.One x)
first_sound spread.Empty x h = absurd (cc)
first_sound (spread.One w) x h = ap spread.One (lone_sound w x h)
first_sound (spread.Triplet a b c) x h = absurd (cc)

left_sound : (left : Option Expression) (n : Word) → option_and_then whole left ≡ Some n → left ≡ Some (e.Reference (r.Whole n))
left_sound left n h = chained whole left n h (λ x hx hn. hx ∙ ap Some (whole_sound x n hn))

counter_is : (f : Field) (n : Word) (from : Expression) → index_of f ≡ Some n → first_in f.spread ≡ Some from → f ≡ counter n from
counter_is f n from hn hfrom = ap (λ l. field l f.spread) (left_sound f.left n hn)
    ∙ ap (field (Some (e.Reference (r.Whole n)))) (first_sound f.spread from hfrom)

counted_two_sound : (comma : Bool) (z y : Field) (c : Control) → counted_by comma y z None ≡ Some c → Counted comma (z ∷ y ∷ []) c
counted_two_sound comma z y c h =
    chained (λ n. option_and_then (λ from. option_map (λ to. control_of.Counted comma n from to None) (expression_of z))
    (first_in y.spread)) (index_of y) c h (λ n hn h2.
    chained (λ from. option_map (λ to. control_of.Counted comma n from to None) (expression_of z)) (first_in y.spread) c h2
    (λ from hfrom h3.
    mapped (λ to. control_of.Counted comma n from to None) (expression_of z) c h3 (λ to hto is. record {
      name = n;
      from = from;
      to = to;
      step = None;
      fields = ap (λ z. z ∷ y ∷ []) (expression_sound z to hto)
          ∙ ap (λ y. expression_field to ∷ y ∷ []) (counter_is y n from hn hfrom);
      is = is;
    })))

counted_three_sound : (comma : Bool) (z y x : Field) (step : Expression) (c : Control) → expression_of z ≡ Some step →
    counted_by comma x y (Some step) ≡ Some c → Counted comma (z ∷ y ∷ x ∷ []) c
counted_three_sound comma z y x step c hstep h =
    chained (λ n. option_and_then (λ from. option_map (λ to. control_of.Counted comma n from to (Some step)) (expression_of y))
    (first_in x.spread)) (index_of x) c h (λ n hn h2.
    chained (λ from. option_map (λ to. control_of.Counted comma n from to (Some step)) (expression_of y)) (first_in x.spread) c h2
    (λ from hfrom h3.
    mapped (λ to. control_of.Counted comma n from to (Some step)) (expression_of y) c h3 (λ to hto is. record {
      name = n;
      from = from;
      to = to;
      step = Some step;
      fields = ap (λ z. z ∷ y ∷ x ∷ []) (expression_sound z step hstep)
          ∙ ap (λ y. expression_field step ∷ y ∷ x ∷ []) (expression_sound y to hto)
          ∙ ap (λ x. expression_field step ∷ expression_field to ∷ x ∷ []) (counter_is x n from hn hfrom);
      is = is;
    })))

counted_in_sound : (comma : Bool) (fs : List Field) (c : Control) → counted_in comma fs ≡ Some c → Counted comma fs c
counted_in_sound comma [] c h = absurd (cc)
counted_in_sound comma (z ∷ []) c h = absurd (cc)
counted_in_sound comma (z ∷ y ∷ []) c h = counted_two_sound comma z y c h
counted_in_sound comma (z ∷ y ∷ x ∷ []) c h = chained (λ step. counted_by comma x y (Some step)) (expression_of z) c h
    (λ step hstep h2. counted_three_sound comma z y x step c hstep h2)
counted_in_sound comma (z ∷ y ∷ x ∷ w ∷ fs) c h = absurd (cc)

counted_sound : (comma : Bool) (ts : Text) (c : Control) → counted comma ts ≡ Some c →
    Is control_text well_control (comma_text comma ++ ts) c
counted_sound comma ts c h = chained (counted_in comma) (row ts) c h (λ fs hfs hc.
    let found = row_sound ts fs hfs in
    let k = counted_in_sound comma fs c hc in
    is_as control_text well_control (comma_text comma ++ ts) (control_of.Counted comma k.name k.from k.to k.step) c k.is
    (ap (λ t. comma_text comma ++ t) (sym (counter_spelled k.name k.from k.to k.step) ∙ sym (ap fields_text k.fields)
    ∙ found.0))
    (counter_kept k.name k.from k.to k.step (sym (ap well_fields k.fields) ∙ found.1)))

counter_in : (comma : Bool) (n : Word) (from to : Expression) (step : Option Expression) →
    counted_by comma (counter n from) (expression_field to) step ≡ Some (control_of.Counted comma n from to step)
counter_in comma n from to step =
    ap (option_and_then (λ n. option_and_then
    (λ from. option_map (λ to. control_of.Counted comma n from to step) (expression_of (expression_field to)))
    (lone (v.One from)))) (whole_again n)
    ∙ ap (option_and_then (λ from. option_map (λ to. control_of.Counted comma n from to step)
    (expression_of (expression_field to)))) (lone_again from)
    ∙ ap (option_map (λ to. control_of.Counted comma n from to step)) (expression_again to)

counted_in_again : (comma : Bool) (n : Word) (from to : Expression) (step : Option Expression) →
    counted_in comma (counter_fields n from to step) ≡ Some (control_of.Counted comma n from to step)
counted_in_again comma n from to None = counter_in comma n from to None
counted_in_again comma n from to (Some step) =
    ap (option_and_then (λ step. counted_by comma (counter n from) (expression_field to) (Some step))) (expression_again step)
    ∙ counter_in comma n from to (Some step)

counter_row : (n : Word) (from to : Expression) (step : Option Expression) → well_fields (counter_fields n from to step) ≡ true →
    row (fields_text (counter_fields n from to step)) ≡ Some (counter_fields n from to step)
counter_row n from to None w = row_again (expression_field to) (counter n from ∷ []) w
counter_row n from to (Some step) w = row_again (expression_field step) (expression_field to ∷ counter n from ∷ []) w

counted_again : (comma : Bool) (n : Word) (from to : Expression) (step : Option Expression) →
    (well from && (well to && maybe_well_expression step)) ≡ true →
    counted comma (counter_text n from to step) ≡ Some (control_of.Counted comma n from to step)
counted_again comma n from to step w =
    ap (counted comma) (sym (counter_spelled n from to step))
    ∙ ap (option_and_then (counted_in comma)) (counter_row n from to step (counter_well n from to step w))
    ∙ counted_in_again comma n from to step

-- ---- DO WHILE, and all controls

while_sound : (comma : Bool) (ts : Text) (c : Control) → while_of comma ts ≡ Some c →
    Is control_text well_control (comma_text comma ++ ts) c
while_sound comma ts c h = mapped (control_of.While comma) (option_and_then whole_condition (behind_word (codes "while") ts)) c h
    (λ x hx is.
    chained whole_condition (behind_word (codes "while") ts) x hx (λ rest hr hc.
    let k = whole_condition_sound rest x hc in
    is_as control_text well_control (comma_text comma ++ ts) (control_of.While comma x) c is
    (ap (λ t. comma_text comma ++ t) (ap (λ t. terminal.Name (codes "while") ∷ t) k.spelled
    ∙ sym (word_sound (codes "while") ts rest hr))) k.kept))

while_again : (comma : Bool) (x : Expression) → well x ≡ true →
    while_of comma (terminal.Name (codes "while") ∷ condition_text x) ≡ Some (control_of.While comma x)
while_again comma x w = ap (option_map (control_of.While comma)) (whole_condition_again x w)

-- WHILE as the name of a count
no_while : (comma : Bool) (n : Word) (more : Text) → while_of comma (terminal.Name n ∷ punctuated mark.Assign more) ≡ None
no_while comma n more = by_test (λ b. option_map (control_of.While comma)
    (option_and_then whole_condition (if b then Some (punctuated mark.Assign more) else None)) ≡ None)
    (is (codes "while") n) (λ _. refl) (λ _. refl)

control_by_sound : (comma : Bool) (ts : Text) (c : Control) → control_by comma ts ≡ Some c →
    Is control_text well_control (comma_text comma ++ ts) c
control_by_sound comma ts c h = or_else_sound (while_of comma ts) (counted comma ts) c h (while_sound comma ts c)
    (counted_sound comma ts c)

control_behind_sound : (o : Option Text) (ts : Text) (c : Control) →
    ((rest : Text) → o ≡ Some rest → ts ≡ punctuated mark.Comma rest) → control_behind o ts ≡ Some c →
    Is control_text well_control ts c
control_behind_sound None ts c there h = control_by_sound false ts c h
control_behind_sound (Some rest) ts c there h = subst (λ t. Is control_text well_control t c) (sym (there rest refl))
    (control_by_sound true rest c h)

controlled_sound : (ts : Text) (c : Control) → controlled ts ≡ Some c → Is control_text well_control ts c
controlled_sound ts c h = chosen (is_nil ts) (Some control_of.Forever) (control_behind (behind mark.Comma ts) ts) c h
    (λ is_end h. let q : control_of.Forever ≡ c = cc in is_as control_text well_control ts control_of.Forever c q
    (sym (nil ts is_end)) refl)
    (λ _ h. control_behind_sound (behind mark.Comma ts) ts c (behind_sound mark.Comma ts) h)

controlled_count : (comma : Bool) (n : Word) (from to : Expression) (step : Option Expression) →
    (well from && (well to && maybe_well_expression step)) ≡ true →
    control_by comma (counter_text n from to step) ≡ Some (control_of.Counted comma n from to step)
controlled_count comma n from to step w =
    ap (λ o. or_else o (counted comma (counter_text n from to step)))
    (no_while comma n (expression from ++ punctuated mark.Comma
    (expression to ++ maybe_behind mark.Comma (maybe_expression step))))
    ∙ counted_again comma n from to step w

controlled_while : (comma : Bool) (x : Expression) → well x ≡ true →
    control_by comma (terminal.Name (codes "while") ∷ condition_text x) ≡ Some (control_of.While comma x)
controlled_while comma x w = ap (λ o. or_else o (counted comma (terminal.Name (codes "while") ∷ condition_text x)))
    (while_again comma x w)

controlled_again : (c : Control) → well_control c ≡ true → controlled (control_text c) ≡ Some c
controlled_again control_of.Forever w = refl
controlled_again (control_of.Counted true n from to step) w = controlled_count true n from to step w
controlled_again (control_of.Counted false n from to step) w = controlled_count false n from to step w
controlled_again (control_of.While true x) w = controlled_while true x w
controlled_again (control_of.While false x) w = controlled_while false x w

pub do_sound : (n : Option Word) (ts : Text) (b : BlockForm) → do_of n ts ≡ Some b → IsBlock (label n ++ block_word block.Do ∷ ts) b
do_sound n ts b h = mapped (block_of.Do n) (controlled ts) b h (λ c hc is.
    let k = controlled_sound ts c hc in
    is_as block_text well_block (label n ++ block_word block.Do ∷ ts) (block_of.Do n c) b is
    (ap (λ t. label n ++ block_word block.Do ∷ t) k.spelled) k.kept)

pub do_again : (n : Option Word) (c : Control) → well_control c ≡ true → do_of n (control_text c) ≡ Some (block_of.Do n c)
do_again n c w = ap (option_map (block_of.Do n)) (controlled_again c w)

-- ---- blocks with a name

opened_sound : (n : Option Word) (w : BlockWord) (ts : Text) (b : BlockForm) → opened_by n w ts ≡ Some b →
    IsBlock (label n ++ block_word w ∷ ts) b
opened_sound n block.If ts b h = if_block_sound n ts b h
opened_sound n block.Select ts b h = select_sound n ts b h
opened_sound n block.Do ts b h = do_sound n ts b h
opened_sound n block.Where ts b h = absurd (cc)
opened_sound n block.Forall ts b h = absurd (cc)

labelled_by_sound : (n : Word) (k : Keyword) (ts : Text) (b : BlockForm) → labelled_by n (k, ts) ≡ Some b →
    IsBlock (label (Some n) ++ terminal.Keyword k ∷ ts) b
labelled_by_sound n (keyword.Block w) ts b h = opened_sound (Some n) w ts b h
labelled_by_sound n k ts b h = absurd (cc)

pub labelled_sound : (n : Word) (ts : Text) (b : BlockForm) → labelled n ts ≡ Some b → IsBlock (label (Some n) ++ ts) b
labelled_sound n ts b h = chained (labelled_by n) (behind_keyword ts) b h (λ p hp h2.
    subst (λ t. IsBlock (label (Some n) ++ t) b) (sym (keyword_sound ts p hp)) (labelled_by_sound n p.0 p.1 b h2))

pub label_sound : (ts : Text) (p : Word × Text) → label_of ts ≡ Some p → ts ≡ label (Some p.0) ++ p.1
label_sound ts p h = chained (λ p. option_map (λ rest. (p.0, rest)) (behind mark.Colon p.1)) (behind_name ts) p h (λ q hq h2.
    mapped (λ rest. (q.0, rest)) (behind mark.Colon q.1) p h2 (λ rest hr is.
    name_sound ts q hq ∙ ap (λ t. terminal.Name q.0 ∷ t) (behind_sound mark.Colon q.1 rest hr)
    ∙ ap (λ (p : Word × Text). label (Some p.0) ++ p.1) is))

-- ---- CASE

case_in_sound : (ts : Text) (b : BlockForm) → case_in ts ≡ Some b → IsBlock (terminal.Keyword keyword.Case ∷ ts) b
case_in_sound ts b h = chained (λ inside. option_and_then case_ranges (bracket inside)) (behind mark.Open ts) b h (λ inside hi h2.
    chained case_ranges (bracket inside) b h2 (λ found hf h3.
    chained (λ xs. option_map (block_of.Case xs) (name_at_end found.1)) (collected range_of [] found.0) b h3 (λ xs hr h4.
    mapped (block_of.Case xs) (name_at_end found.1) b h4 (λ n hn is.
    let s = bracket_list_sound ranges inside found.1 found.0 xs hf hr in
    is_as block_text well_block (terminal.Keyword keyword.Case ∷ ts) (block_of.Case xs n) b is
    (ap (λ t. terminal.Keyword keyword.Case ∷ t) (brackets_before (commas (map range_text xs)) (maybe_named n)
    ∙ ap (λ rest. punctuated mark.Open (commas (map range_text xs) ++ punctuated mark.Close rest))
    (sym (name_end_sound found.1 n hn))
    ∙ ap (punctuated mark.Open) s.0 ∙ sym (behind_sound mark.Open ts inside hi)))
    s.1))))

case_by_sound : (o : Option Text) (ts : Text) (b : BlockForm) →
    ((rest : Text) → o ≡ Some rest → ts ≡ terminal.Name (codes "default") ∷ rest) → case_by o ts ≡ Some b →
    IsBlock (terminal.Keyword keyword.Case ∷ ts) b
case_by_sound None ts b there h = case_in_sound ts b h
case_by_sound (Some rest) ts b there h = mapped block_of.CaseDefault (name_at_end rest) b h (λ n hn is.
    is_as block_text well_block (terminal.Keyword keyword.Case ∷ ts) (block_of.CaseDefault n) b is
    (ap (λ t. terminal.Keyword keyword.Case ∷ t)
    (ap (λ t. terminal.Name (codes "default") ∷ t) (sym (name_end_sound rest n hn)) ∙ sym (there rest refl))) refl)

pub case_sound : (ts : Text) (b : BlockForm) → case_of ts ≡ Some b → IsBlock (terminal.Keyword keyword.Case ∷ ts) b
case_sound ts b h = case_by_sound (behind_word (codes "default") ts) ts b (word_sound (codes "default") ts) h

pub case_again : (xs : List CaseRange) (n : Option Word) → (some xs && all (map well_range xs)) ≡ true →
    case_of (in_brackets (commas (map range_text xs)) ++ maybe_named n) ≡ Some (block_of.Case xs n)
case_again [] n w = absurd (cc)
case_again (x ∷ xs) n w =
    ap case_of (brackets_before (commas (map range_text (x ∷ xs))) (maybe_named n))
    ∙ ap (option_and_then case_ranges) (bracket_list_again ranges x xs (maybe_named n) w)
    ∙ ap (option_and_then (λ xs. option_map (block_of.Case xs) (name_at_end (maybe_named n))))
    (collected_fields ranges (x ∷ xs) w)
    ∙ ap (option_map (block_of.Case (x ∷ xs))) (name_end_again n)

-- ---- ELSE

else_if_sound : (ts : Text) (b : BlockForm) → else_if ts ≡ Some b →
    IsBlock (terminal.Keyword keyword.Else ∷ block_word block.If ∷ ts) b
else_if_sound ts b h =
    chained (λ p. option_and_then (λ rest. option_map (block_of.ElseIf p.0) (name_at_end rest)) (behind_word (codes "then") p.1))
    (conditioned ts) b h (λ p hp h2.
    chained (λ rest. option_map (block_of.ElseIf p.0) (name_at_end rest)) (behind_word (codes "then") p.1) b h2 (λ rest hr h3.
    mapped (block_of.ElseIf p.0) (name_at_end rest) b h3 (λ n hn is.
    let c = conditioned_sound ts p hp in
    let there = word_sound (codes "then") p.1 rest hr ∙ ap (λ t. terminal.Name (codes "then") ∷ t) (name_end_sound rest n hn) in
    is_as block_text well_block (terminal.Keyword keyword.Else ∷ block_word block.If ∷ ts) (block_of.ElseIf p.0 n) b is
    (ap (λ t. terminal.Keyword keyword.Else ∷ block_word block.If ∷ t)
    (ap (λ t. condition_text p.0 ++ t) (sym there) ∙ c.spelled)) c.kept)))

else_if_again : (x : Expression) (n : Option Word) → well x ≡ true →
    else_if (condition_text x ++ terminal.Name (codes "then") ∷ maybe_named n) ≡ Some (block_of.ElseIf x n)
else_if_again x n w =
    ap (option_and_then (λ (p : Expression × Text). option_and_then (λ rest. option_map (block_of.ElseIf p.0) (name_at_end rest))
    (behind_word (codes "then") p.1)))
    (conditioned_again x (terminal.Name (codes "then") ∷ maybe_named n) w)
    ∙ ap (option_map (block_of.ElseIf x)) (name_end_again n)

else_where_sound : (ts : Text) (b : BlockForm) → else_where ts ≡ Some b →
    IsBlock (terminal.Keyword keyword.Else ∷ block_word block.Where ∷ ts) b
else_where_sound ts b h = chosen (is_nil ts) (Some (block_of.ElseWhere None))
    (option_map (λ mask. block_of.ElseWhere (Some mask)) (whole_condition ts)) b h
    (λ is_end h. let q : block_of.ElseWhere None ≡ b = cc in
    is_as block_text well_block (terminal.Keyword keyword.Else ∷ block_word block.Where ∷ ts) (block_of.ElseWhere None) b q
    (ap (λ t. terminal.Keyword keyword.Else ∷ block_word block.Where ∷ t) (sym (nil ts is_end))) refl)
    (λ _ h. mapped (λ mask. block_of.ElseWhere (Some mask)) (whole_condition ts) b h (λ x hx is.
    let c = whole_condition_sound ts x hx in
    is_as block_text well_block (terminal.Keyword keyword.Else ∷ block_word block.Where ∷ ts) (block_of.ElseWhere (Some x)) b is
    (ap (λ t. terminal.Keyword keyword.Else ∷ block_word block.Where ∷ t) c.spelled) c.kept))

else_keyed_sound : (k : Keyword) (ts : Text) (b : BlockForm) → else_keyed (k, ts) ≡ Some b →
    IsBlock (terminal.Keyword keyword.Else ∷ terminal.Keyword k ∷ ts) b
else_keyed_sound (keyword.Block block.If) ts b h = else_if_sound ts b h
else_keyed_sound (keyword.Block block.Where) ts b h = else_where_sound ts b h
else_keyed_sound (keyword.Block w) ts b h = absurd (cc)
else_keyed_sound k ts b h = absurd (cc)

else_by_sound : (o : Option (Keyword × Text)) (ts : Text) (b : BlockForm) →
    ((p : Keyword × Text) → o ≡ Some p → ts ≡ terminal.Keyword p.0 ∷ p.1) → else_by o ts ≡ Some b →
    IsBlock (terminal.Keyword keyword.Else ∷ ts) b
else_by_sound None ts b there h = mapped block_of.Else (name_at_end ts) b h (λ n hn is.
    is_as block_text well_block (terminal.Keyword keyword.Else ∷ ts) (block_of.Else n) b is
    (ap (λ t. terminal.Keyword keyword.Else ∷ t) (sym (name_end_sound ts n hn))) refl)
else_by_sound (Some p) ts b there h = subst (λ t. IsBlock (terminal.Keyword keyword.Else ∷ t) b) (sym (there p refl))
    (else_keyed_sound p.0 p.1 b h)

pub else_sound : (ts : Text) (b : BlockForm) → else_of ts ≡ Some b → IsBlock (terminal.Keyword keyword.Else ∷ ts) b
else_sound ts b h = else_by_sound (behind_keyword ts) ts b (keyword_sound ts) h

pub else_again : (n : Option Word) → else_of (maybe_named n) ≡ Some (block_of.Else n)
else_again None = refl
else_again (Some n) = refl

pub else_if_reads : (x : Expression) (n : Option Word) → well x ≡ true →
    else_of (block_word block.If ∷ (condition_text x ++ terminal.Name (codes "then") ∷ maybe_named n)) ≡ Some (block_of.ElseIf x n)
else_if_reads x n w = else_if_again x n w

pub else_where_reads : (x : Expression) → well x ≡ true →
    else_of (block_word block.Where ∷ condition_text x) ≡ Some (block_of.ElseWhere (Some x))
else_where_reads x w = ap (option_map (λ mask. block_of.ElseWhere (Some mask))) (whole_condition_again x w)

-- ---- ends

pub end_block_sound : (w : BlockWord) (ts : Text) (b : BlockForm) → end_block w ts ≡ Some b → IsBlock (end_of w ++ ts) b
end_block_sound block.If ts b h = mapped block_of.EndIf (name_at_end ts) b h (λ n hn is.
    is_as block_text well_block (end_of block.If ++ ts) (block_of.EndIf n) b is
    (ap (λ t. end_of block.If ++ t) (sym (name_end_sound ts n hn))) refl)
end_block_sound block.Select ts b h = mapped block_of.EndSelect (name_at_end ts) b h (λ n hn is.
    is_as block_text well_block (end_of block.Select ++ ts) (block_of.EndSelect n) b is
    (ap (λ t. end_of block.Select ++ t) (sym (name_end_sound ts n hn))) refl)
end_block_sound block.Do ts b h = mapped block_of.EndDo (name_at_end ts) b h (λ n hn is.
    is_as block_text well_block (end_of block.Do ++ ts) (block_of.EndDo n) b is
    (ap (λ t. end_of block.Do ++ t) (sym (name_end_sound ts n hn))) refl)
end_block_sound block.Where ts b h =
    let end = more_sound block_of.EndWhere b ts h in
    is_as block_text well_block (end_of block.Where ++ ts) block_of.EndWhere b end.0
    (ap (λ t. end_of block.Where ++ t) (sym end.1)) refl
end_block_sound block.Forall ts b h =
    let end = more_sound block_of.EndForall b ts h in
    is_as block_text well_block (end_of block.Forall ++ ts) block_of.EndForall b end.0
    (ap (λ t. end_of block.Forall ++ t) (sym end.1)) refl
