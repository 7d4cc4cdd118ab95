-- All forms: what is read is spelled as the terminals and well formed, and what is well formed is read from what spells it.
use Rattle.std.proofs.Common.{◌≡◌, ℕ, ◌≤◌, true, false, List, [], ◌∷◌, ◌++◌, map, Option, Some, None, sym, ◌∙◌, ap, subst}
use Rattle.std.proofs.Common.{refl, append-nil}
use Rattle.std.specs.Prelude.{option_map, option_and_then, codes, if◌then◌else◌}
use Rattle.std.proofs.lemmas.Bool.{and_parts, and_from}
use Rattle.a95_base.proofs.Tests.{by_test}
use Rattle.f95_lexer.specs.declared.token.Token.{Token}
use Rattle.f95_tree.specs.declared.expression.Expression.{Expression}
use Rattle.f95_tree.specs.declared.expression.Reference.{Reference}
use Rattle.f95_tree.specs.declared.terminal.Terminal.TheVariants as terminal
use Rattle.f95_tree.specs.declared.terminal.Punctuation.TheVariants as mark
use Rattle.f95_tree.specs.declared.terminal.Keyword.{Keyword}
use Rattle.f95_tree.specs.declared.terminal.Keyword.TheVariants as keyword
use Rattle.f95_tree.specs.declared.terminal.BlockWord.{BlockWord}
use Rattle.f95_tree.specs.declared.terminal.BlockWord.TheVariants as block
use Rattle.f95_tree.specs.declared.action.Action.{Action}
use Rattle.f95_tree.specs.declared.action.Action.TheVariants as act
use Rattle.f95_tree.specs.declared.action.Assignment.{Assignment}
use Rattle.f95_tree.specs.declared.action.Header.{Header}
use Rattle.f95_tree.specs.declared.form.Form.{Form}
use Rattle.f95_tree.specs.declared.form.Form.TheVariants as of
use Rattle.f95_tree.specs.declared.form.UnitForm.{UnitForm}
use Rattle.f95_tree.specs.declared.form.UnitForm.TheVariants as unit_of
use Rattle.f95_tree.specs.declared.form.BlockForm.{BlockForm}
use Rattle.f95_tree.specs.declared.form.BlockForm.TheVariants as block_of
use Rattle.f95_tree.specs.declared.form.Prefix.{Prefix}
use Rattle.f95_tree.specs.declared.form.Prefix.TheVariants as prefix_of
use Rattle.f95_tree.specs.declared.form.Heading.{Heading}
use Rattle.f95_tree.specs.declared.form.Heading.TheVariants as heading_of
use Rattle.f95_tree.specs.Spelling.{Text, punctuated, commas, in_brackets, maybe, expression, reference, item}
use Rattle.f95_tree.specs.Grades.{well}
use Rattle.f95_tree.specs.Forms.{Word, named, label, block_word, unit_word, assignment_text, header_text, action_text, unit_text}
use Rattle.f95_tree.specs.Forms.{block_text, prefixes_text, heading_text, spell_form}
use Rattle.f95_tree.specs.WellFormed.{well_assignment, well_header, well_action, well_block, well_unit, well_procedure, well_form}
use Rattle.f95_tree.proofs.Nodes.{reference-Whole, reference-Items, reference-Substring}
use Rattle.f95_tree.proofs.Induction.{reference_cases}
use Rattle.f95_expressions.proofs.Read.{mapped, chained}
use Rattle.f95_parts.specs.Views.{is_nil, behind, behind_keyword, name_at_end}
use Rattle.f95_parts.proofs.ViewLaws.{nil, keyword_sound, more_sound, name_end_sound, name_end_again}
use Rattle.f95_parts.proofs.ListLaws.{Is}
use Rattle.f95_statements.specs.Actions.{conditioned, headed, assigned, action_of}
use Rattle.f95_statements.specs.Declarations.{procedure, procedure_of}
use Rattle.f95_statements.proofs.ConditionLaws.{condition_text, assigned_sound, assigned_again, conditioned_sound}
use Rattle.f95_statements.proofs.ConditionLaws.{conditioned_again, condition_again, headed_sound, headed_again, header_alone_again}
use Rattle.f95_statements.proofs.ActionLaws.{action_sound, action_again}
use Rattle.f95_statements.proofs.ProcedureLaws.{procedure_sound, procedure_again, typed_word_sound, declaration_first}
use Rattle.f95_statements.proofs.ProcedureLaws.{declaration_typed, procedure_first, procedure_typed}
use Rattle.f95_parser.specs.Reading.{is_then, select_of, do_of, labelled, label_of, case_of, else_of, end_block, end_keyed, end_of}
use Rattle.f95_parser.specs.Reading.{use_of, implicit_of, unit_by, if_by, where_by, forall_by, block_form, keyed_form, named_form}
use Rattle.f95_parser.specs.Reading.{form_by, form_of}
use Rattle.f95_parser.specs.Tokens.{terminals_of}
use Rattle.f95_parser.specs.Rules.{IsOfForm, IsFormless, most_open, most_brackets}
use Rattle.f95_parser.proofs.Unbroken.{IsUnbroken, unbroken_by}
use Rattle.f95_parser.proofs.BlockLaws.{is_as, chosen, IsBlock, then_sound, if_block_again, select_sound, select_again, do_sound}
use Rattle.f95_parser.proofs.BlockLaws.{do_again, labelled_sound, label_sound, case_sound, case_again, else_sound, else_again}
use Rattle.f95_parser.proofs.BlockLaws.{else_if_reads, else_where_reads, end_block_sound}
use Rattle.f95_parser.proofs.UnitLaws.{IsUnit, use_sound, use_again, implicit_sound, unit_by_sound}

abbrev pub IsForm : Text → Form → Type 0
IsForm = Is spell_form well_form

as_unit : (ts : Text) (u : UnitForm) (f : Form) → of.Unit u ≡ f → IsUnit ts u → IsForm ts f
as_unit ts u f is c = is_as spell_form well_form ts (of.Unit u) f is c.spelled c.kept

as_block : (ts : Text) (b : BlockForm) (f : Form) → of.Block b ≡ f → IsBlock ts b → IsForm ts f
as_block ts b f is c = is_as spell_form well_form ts (of.Block b) f is c.spelled c.kept

-- ---- what is read

end_keyed_sound : (k : Keyword) (ts : Text) (f : Form) → end_keyed (k, ts) ≡ Some f →
    IsForm (terminal.Keyword keyword.End ∷ terminal.Keyword k ∷ ts) f
end_keyed_sound (keyword.Unit w) ts f h = mapped (λ n. of.Unit (unit_of.EndUnit w n)) (name_at_end ts) f h (λ n hn is.
    is_as spell_form well_form (terminal.Keyword keyword.End ∷ unit_word w ∷ ts) (of.Unit (unit_of.EndUnit w n)) f is
    (ap (λ t. terminal.Keyword keyword.End ∷ unit_word w ∷ t) (sym (name_end_sound ts n hn))) refl)
end_keyed_sound (keyword.Block w) ts f h = mapped of.Block (end_block w ts) f h (λ b hb is.
    as_block (terminal.Keyword keyword.End ∷ block_word w ∷ ts) b f is (end_block_sound w ts b hb))
end_keyed_sound k ts f h = absurd (cc)

end_form_sound : (ts : Text) (f : Form) → end_of ts ≡ Some f → IsForm (terminal.Keyword keyword.End ∷ ts) f
end_form_sound ts f h = chosen (is_nil ts) (Some (of.Unit unit_of.End)) (option_and_then end_keyed (behind_keyword ts)) f h
    (λ is_end h. let q : of.Unit unit_of.End ≡ f = cc in
    is_as spell_form well_form (terminal.Keyword keyword.End ∷ ts) (of.Unit unit_of.End) f q
    (ap (λ t. terminal.Keyword keyword.End ∷ t) (sym (nil ts is_end))) refl)
    (λ _ h. chained end_keyed (behind_keyword ts) f h (λ p hp h2.
    subst (λ t. IsForm (terminal.Keyword keyword.End ∷ t) f) (sym (keyword_sound ts p hp)) (end_keyed_sound p.0 p.1 f h2)))

if_by_sound : (x : Expression) (ts : Text) (f : Form) → well x ≡ true → if_by (x, ts) ≡ Some f →
    IsForm (block_word block.If ∷ (condition_text x ++ ts)) f
if_by_sound x ts f w h = chosen (is_then ts) (Some (of.Block (block_of.If None x))) (option_map (of.If x) (action_of ts)) f h
    (λ is_end h. let q : of.Block (block_of.If None x) ≡ f = cc in
    is_as spell_form well_form (block_word block.If ∷ (condition_text x ++ ts)) (of.Block (block_of.If None x)) f q
    (ap (λ t. block_word block.If ∷ (condition_text x ++ t)) (sym (then_sound ts is_end))) w)
    (λ _ h. mapped (of.If x) (action_of ts) f h (λ a ha is.
    let c = action_sound ts a ha in
    is_as spell_form well_form (block_word block.If ∷ (condition_text x ++ ts)) (of.If x a) f is
    (ap (λ t. block_word block.If ∷ (condition_text x ++ t)) c.spelled) (and_from (well x) (well_action a) w c.kept)))

where_by_sound : (x : Expression) (ts : Text) (f : Form) → well x ≡ true → where_by (x, ts) ≡ Some f →
    IsForm (block_word block.Where ∷ (condition_text x ++ ts)) f
where_by_sound x ts f w h = chosen (is_nil ts) (Some (of.Block (block_of.Where x)))
    (option_map (λ a. of.Action (act.Where x a)) (assigned ts)) f h
    (λ is_end h. let q : of.Block (block_of.Where x) ≡ f = cc in
    is_as spell_form well_form (block_word block.Where ∷ (condition_text x ++ ts)) (of.Block (block_of.Where x)) f q
    (ap (λ t. block_word block.Where ∷ t) (sym (append-nil (condition_text x))
    ∙ ap (λ t. condition_text x ++ t) (sym (nil ts is_end)))) w)
    (λ _ h. mapped (λ a. of.Action (act.Where x a)) (assigned ts) f h (λ a ha is.
    let c = assigned_sound ts a ha in
    is_as spell_form well_form (block_word block.Where ∷ (condition_text x ++ ts)) (of.Action (act.Where x a)) f is
    (ap (λ t. block_word block.Where ∷ (condition_text x ++ t)) c.spelled) (and_from (well x) (well_assignment a) w c.kept)))

forall_by_sound : (x : Header) (ts : Text) (f : Form) → well_header x ≡ true → forall_by (x, ts) ≡ Some f →
    IsForm (block_word block.Forall ∷ (header_text x ++ ts)) f
forall_by_sound x ts f w h = chosen (is_nil ts) (Some (of.Block (block_of.Forall x)))
    (option_map (λ a. of.Action (act.Forall x a)) (assigned ts)) f h
    (λ is_end h. let q : of.Block (block_of.Forall x) ≡ f = cc in
    is_as spell_form well_form (block_word block.Forall ∷ (header_text x ++ ts)) (of.Block (block_of.Forall x)) f q
    (ap (λ t. block_word block.Forall ∷ t) (sym (append-nil (header_text x))
    ∙ ap (λ t. header_text x ++ t) (sym (nil ts is_end)))) w)
    (λ _ h. mapped (λ a. of.Action (act.Forall x a)) (assigned ts) f h (λ a ha is.
    let c = assigned_sound ts a ha in
    is_as spell_form well_form (block_word block.Forall ∷ (header_text x ++ ts)) (of.Action (act.Forall x a)) f is
    (ap (λ t. block_word block.Forall ∷ (header_text x ++ t)) c.spelled)
    (and_from (well_header x) (well_assignment a) w c.kept)))

block_form_sound : (w : BlockWord) (ts : Text) (f : Form) → block_form w ts ≡ Some f → IsForm (block_word w ∷ ts) f
block_form_sound block.If ts f h = chained if_by (conditioned ts) f h (λ p hp h2.
    let c = conditioned_sound ts p hp in subst (λ t. IsForm (block_word block.If ∷ t) f) c.spelled
    (if_by_sound p.0 p.1 f c.kept h2))
block_form_sound block.Select ts f h = mapped of.Block (select_of None ts) f h
    (λ b hb is. as_block (block_word block.Select ∷ ts) b f is (select_sound None ts b hb))
block_form_sound block.Do ts f h = mapped of.Block (do_of None ts) f h
    (λ b hb is. as_block (block_word block.Do ∷ ts) b f is (do_sound None ts b hb))
block_form_sound block.Where ts f h = chained where_by (conditioned ts) f h (λ p hp h2.
    let c = conditioned_sound ts p hp in subst (λ t. IsForm (block_word block.Where ∷ t) f) c.spelled
    (where_by_sound p.0 p.1 f c.kept h2))
block_form_sound block.Forall ts f h = chained forall_by (headed ts) f h (λ p hp h2.
    let c = headed_sound ts p hp in subst (λ t. IsForm (block_word block.Forall ∷ t) f) c.spelled
    (forall_by_sound p.0 p.1 f c.kept h2))

keyed_sound : (k : Keyword) (ts : Text) (f : Form) → keyed_form k ts (terminal.Keyword k ∷ ts) ≡ Some f →
    IsForm (terminal.Keyword k ∷ ts) f
keyed_sound (keyword.Unit w) ts f h = mapped of.Unit (unit_by w ts (unit_word w ∷ ts)) f h
    (λ u hu is. as_unit (unit_word w ∷ ts) u f is (unit_by_sound w ts u hu))
keyed_sound (keyword.«Type» w) ts f h = typed_word_sound w ts f h
keyed_sound (keyword.Prefix w) ts f h = mapped (λ p. of.Unit (unit_of.Procedure p))
    (procedure_of (terminal.Keyword (keyword.Prefix w) ∷ ts)) f h (λ p hp is.
    let c = procedure_sound (terminal.Keyword (keyword.Prefix w) ∷ ts) p hp in
    is_as spell_form well_form (terminal.Keyword (keyword.Prefix w) ∷ ts) (of.Unit (unit_of.Procedure p)) f is c.spelled c.kept)
keyed_sound (keyword.Block w) ts f h = block_form_sound w ts f h
keyed_sound (keyword.Action w) ts f h = mapped of.Action (action_of (terminal.Keyword (keyword.Action w) ∷ ts)) f h (λ a ha is.
    let c = action_sound (terminal.Keyword (keyword.Action w) ∷ ts) a ha in
    is_as spell_form well_form (terminal.Keyword (keyword.Action w) ∷ ts) (of.Action a) f is c.spelled c.kept)
keyed_sound keyword.Case ts f h = mapped of.Block (case_of ts) f h
    (λ b hb is. as_block (terminal.Keyword keyword.Case ∷ ts) b f is (case_sound ts b hb))
keyed_sound keyword.Contains ts f h =
    let end = more_sound (of.Unit unit_of.Contains) f ts h in
    is_as spell_form well_form (terminal.Keyword keyword.Contains ∷ ts) (of.Unit unit_of.Contains) f end.0
    (ap (λ t. terminal.Keyword keyword.Contains ∷ t) (sym end.1)) refl
keyed_sound keyword.Else ts f h = mapped of.Block (else_of ts) f h
    (λ b hb is. as_block (terminal.Keyword keyword.Else ∷ ts) b f is (else_sound ts b hb))
keyed_sound keyword.End ts f h = end_form_sound ts f h
keyed_sound keyword.Implicit ts f h = mapped of.Unit (implicit_of ts) f h
    (λ u hu is. as_unit (terminal.Keyword keyword.Implicit ∷ ts) u f is (implicit_sound ts u hu))
keyed_sound keyword.Use ts f h = mapped of.Unit (use_of ts) f h
    (λ u hu is. as_unit (terminal.Keyword keyword.Use ∷ ts) u f is (use_sound ts u hu))

named_sound : (o : Option (Word × Text)) (ts : Text) (f : Form) → ((p : Word × Text) → o ≡ Some p → ts ≡ label (Some p.0) ++ p.1) →
    named_form o ts ≡ Some f → IsForm ts f
named_sound None ts f there h = mapped (λ a. of.Action (act.Assignment a)) (assigned ts) f h (λ a ha is.
    let c = assigned_sound ts a ha in is_as spell_form well_form ts (of.Action (act.Assignment a)) f is c.spelled c.kept)
named_sound (Some p) ts f there h = mapped of.Block (labelled p.0 p.1) f h (λ b hb is.
    subst (λ t. IsForm t f) (sym (there p refl)) (as_block (label (Some p.0) ++ p.1) b f is (labelled_sound p.0 p.1 b hb)))

form_by_sound : (o : Option (Keyword × Text)) (ts : Text) (f : Form) →
    ((p : Keyword × Text) → o ≡ Some p → ts ≡ terminal.Keyword p.0 ∷ p.1) → form_by o ts ≡ Some f → IsForm ts f
form_by_sound None ts f there h = named_sound (label_of ts) ts f (label_sound ts) h
form_by_sound (Some p) ts f there h =
    let is = there p refl in
    subst (λ t. IsForm t f) (sym is) (keyed_sound p.0 p.1 f (subst (λ t. keyed_form p.0 p.1 t ≡ Some f) is h))

pub form_sound : (ts : Text) (f : Form) → form_of ts ≡ Some f → IsForm ts f
form_sound ts f h = form_by_sound (behind_keyword ts) ts f (keyword_sound ts) h

-- ---- what is spelled

-- a name, with no colon behind it
record Begins (ts : Text) : Type 0 where
  pub name : Word
  pub more : Text
  pub is : ts ≡ terminal.Name name ∷ more
  pub unlabelled : behind mark.Colon more ≡ None

reference_begins : (x : Reference) (more : Text) → Begins (reference x ++ punctuated mark.Assign more)
reference_begins = reference_cases (λ x. (more : Text) → Begins (reference x ++ punctuated mark.Assign more))
    (λ n more. record {
      name = n;
      more = punctuated mark.Assign more;
      is = ap (λ t. t ++ punctuated mark.Assign more) (reference-Whole n);
      unlabelled = refl;
    })
    (λ n xs more. record {
      name = n;
      more = in_brackets (commas (map item xs)) ++ punctuated mark.Assign more;
      is = ap (λ t. t ++ punctuated mark.Assign more) (reference-Items n xs);
      unlabelled = refl;
    })
    (λ n xs a b more. record {
      name = n;
      more = (in_brackets (commas (map item xs)) ++ in_brackets
          (maybe (option_map expression a) ++ punctuated mark.Colon (maybe (option_map expression b)))) ++ punctuated mark.Assign
          more;
      is = ap (λ t. t ++ punctuated mark.Assign more) (reference-Substring n xs a b);
      unlabelled = refl;
    })

assignment_begins : (a : Assignment) → Begins (assignment_text a)
assignment_begins a = reference_begins a.to (expression a.value)

assignment_some : (a : Assignment) → is_nil (assignment_text a) ≡ false
assignment_some a = ap is_nil (assignment_begins a).is

assignment_reads : (a : Assignment) → well_assignment a ≡ true → form_of (assignment_text a) ≡ Some (of.Action (act.Assignment a))
assignment_reads a w =
    let b = assignment_begins a in
    ap form_of b.is
    ∙ ap (λ o. named_form (option_map (λ (rest : Text). (b.name, rest)) o) (terminal.Name b.name ∷ b.more)) b.unlabelled
    ∙ ap (λ t. option_map (λ a. of.Action (act.Assignment a)) (assigned t)) (sym b.is)
    ∙ ap (option_map (λ a. of.Action (act.Assignment a))) (assigned_again a w)

-- no statement is spelled THEN
no_then : (a : Action) → well_action a ≡ true → is_then (action_text a) ≡ false
no_then a w = by_test (λ b. b ≡ false) (is_then (action_text a))
    (λ is_end. let q : None ≡ Some a = sym (ap action_of (then_sound (action_text a) is_end)) ∙ action_again a w in absurd (cc))
    (λ _. refl)

if_reads : (x : Expression) (a : Action) → well x ≡ true → well_action a ≡ true →
    form_of (block_word block.If ∷ (condition_text x ++ action_text a)) ≡ Some (of.If x a)
if_reads x a w k =
    ap (option_and_then if_by) (conditioned_again x (action_text a) w)
    ∙ ap (λ b. if b then Some (of.Block (block_of.If None x)) else option_map (of.If x) (action_of (action_text a))) (no_then a k)
    ∙ ap (option_map (of.If x)) (action_again a k)

where_reads : (x : Expression) (a : Assignment) → well x ≡ true → well_assignment a ≡ true →
    form_of (block_word block.Where ∷ (condition_text x ++ assignment_text a)) ≡ Some (of.Action (act.Where x a))
where_reads x a w k =
    ap (option_and_then where_by) (conditioned_again x (assignment_text a) w)
    ∙ ap (λ b. if b then Some (of.Block (block_of.Where x)) else option_map (λ a. of.Action (act.Where x a))
    (assigned (assignment_text a))) (assignment_some a)
    ∙ ap (option_map (λ a. of.Action (act.Where x a))) (assigned_again a k)

forall_reads : (x : Header) (a : Assignment) → well_header x ≡ true → well_assignment a ≡ true →
    form_of (block_word block.Forall ∷ (header_text x ++ assignment_text a)) ≡ Some (of.Action (act.Forall x a))
forall_reads x a w k =
    ap (option_and_then forall_by) (headed_again x (assignment_text a) w)
    ∙ ap (λ b. if b then Some (of.Block (block_of.Forall x)) else option_map (λ a. of.Action (act.Forall x a))
    (assigned (assignment_text a))) (assignment_some a)
    ∙ ap (option_map (λ a. of.Action (act.Forall x a))) (assigned_again a k)

action_reads : (a : Action) → well_action a ≡ true → form_of (action_text a) ≡ Some (of.Action a)
action_reads (act.Assignment a) w = assignment_reads a w
action_reads (act.Where x a) w = let ws = and_parts (well x) (well_assignment a) w in where_reads x a ws.0 ws.1
action_reads (act.Forall x a) w = let ws = and_parts (well_header x) (well_assignment a) w in forall_reads x a ws.0 ws.1
action_reads (act.Call n arguments) w = ap (option_map of.Action) (action_again (act.Call n arguments) w)
action_reads (act.Allocate objects) w = ap (option_map of.Action) (action_again (act.Allocate objects) w)
action_reads (act.Deallocate ns) w = ap (option_map of.Action) (action_again (act.Deallocate ns) w)
action_reads (act.Print es) w = ap (option_map of.Action) (action_again (act.Print es) w)
action_reads (act.Write es) w = ap (option_map of.Action) (action_again (act.Write es) w)
action_reads (act.Read rs) w = ap (option_map of.Action) (action_again (act.Read rs) w)
action_reads (act.ReadUnit rs) w = ap (option_map of.Action) (action_again (act.ReadUnit rs) w)
action_reads (act.Stop code) w = ap (option_map of.Action) (action_again (act.Stop code) w)
action_reads act.Return w = ap (option_map of.Action) (action_again act.Return w)
action_reads act.Continue w = ap (option_map of.Action) (action_again act.Continue w)
action_reads (act.Exit n) w = ap (option_map of.Action) (action_again (act.Exit n) w)
action_reads (act.Cycle n) w = ap (option_map of.Action) (action_again (act.Cycle n) w)

block_reads : (b : BlockForm) → well_block b ≡ true → form_of (block_text b) ≡ Some (of.Block b)
block_reads (block_of.If None x) w = ap (option_and_then if_by) (conditioned_again x (named (codes "then")) w)
block_reads (block_of.If (Some n) x) w = ap (option_map of.Block) (if_block_again (Some n) x w)
block_reads (block_of.ElseIf x n) w = ap (option_map of.Block) (else_if_reads x n w)
block_reads (block_of.Else n) w = ap (option_map of.Block) (else_again n)
block_reads (block_of.EndIf n) w = ap (λ o. option_map of.Block (option_map block_of.EndIf o)) (name_end_again n)
block_reads (block_of.Select None x) w = ap (option_map of.Block) (select_again None x w)
block_reads (block_of.Select (Some n) x) w = ap (option_map of.Block) (select_again (Some n) x w)
block_reads (block_of.Case ranges n) w = ap (option_map of.Block) (case_again ranges n w)
block_reads (block_of.CaseDefault n) w = ap (λ o. option_map of.Block (option_map block_of.CaseDefault o)) (name_end_again n)
block_reads (block_of.EndSelect n) w = ap (λ o. option_map of.Block (option_map block_of.EndSelect o)) (name_end_again n)
block_reads (block_of.Do None c) w = ap (option_map of.Block) (do_again None c w)
block_reads (block_of.Do (Some n) c) w = ap (option_map of.Block) (do_again (Some n) c w)
block_reads (block_of.EndDo n) w = ap (λ o. option_map of.Block (option_map block_of.EndDo o)) (name_end_again n)
block_reads (block_of.Where x) w = ap (option_and_then where_by) (condition_again x w)
block_reads (block_of.ElseWhere None) w = refl
block_reads (block_of.ElseWhere (Some x)) w = ap (option_map of.Block) (else_where_reads x w)
block_reads block_of.EndWhere w = refl
block_reads (block_of.Forall x) w = ap (option_and_then forall_by) (header_alone_again x w)
block_reads block_of.EndForall w = refl

procedure_reads : (ps : List Prefix) (h : Heading) → well_procedure (procedure ps h) ≡ true →
    form_of (prefixes_text ps ++ heading_text h) ≡ Some (of.Unit (unit_of.Procedure (procedure ps h)))
procedure_reads [] (heading_of.Subroutine n dummies) w =
    ap (λ o. option_map of.Unit (option_map unit_of.Procedure o))
    (procedure_again (procedure [] (heading_of.Subroutine n dummies)) w)
procedure_reads [] (heading_of.Function n dummies outcome) w =
    ap (λ o. option_map of.Unit (option_map unit_of.Procedure o))
    (procedure_again (procedure [] (heading_of.Function n dummies outcome)) w)
procedure_reads (prefix_of.Recursive ∷ ps) h w = ap (option_map (λ p. of.Unit (unit_of.Procedure p)))
    (procedure_again (procedure (prefix_of.Recursive ∷ ps) h) w)
procedure_reads (prefix_of.Pure ∷ ps) h w = ap (option_map (λ p. of.Unit (unit_of.Procedure p)))
    (procedure_again (procedure (prefix_of.Pure ∷ ps) h) w)
procedure_reads (prefix_of.Elemental ∷ ps) h w = ap (option_map (λ p. of.Unit (unit_of.Procedure p)))
    (procedure_again (procedure (prefix_of.Elemental ∷ ps) h) w)
procedure_reads (prefix_of.«Type» t ∷ ps) h w = ap form_of (procedure_first t ps h) ∙ procedure_typed t ps h w

unit_reads : (u : UnitForm) → well_unit u ≡ true → form_of (unit_text u) ≡ Some (of.Unit u)
unit_reads (unit_of.Program n) w = refl
unit_reads (unit_of.Module n) w = refl
unit_reads (unit_of.Procedure p) w = procedure_reads p.prefixes p.heading w
unit_reads (unit_of.Use n only) w = ap (option_map of.Unit) (use_again n only)
unit_reads unit_of.ImplicitNone w = refl
unit_reads unit_of.Contains w = refl
unit_reads unit_of.End w = refl
unit_reads (unit_of.EndUnit v n) w = ap (option_map (λ n. of.Unit (unit_of.EndUnit v n))) (name_end_again n)

pub form_again : (f : Form) → well_form f ≡ true → form_of (spell_form f) ≡ Some f
form_again (of.Unit u) w = unit_reads u w
form_again (of.Declaration d) w = ap form_of (declaration_first d) ∙ declaration_typed d w
form_again (of.Block b) w = block_reads b w
form_again (of.Action a) w = action_reads a w
form_again (of.If x a) w = let ws = and_parts (well x) (well_action a) w in if_reads x a ws.0 ws.1

-- ---- tokens

pub of_form : (tokens : List Token) (form : Form) → form_of (terminals_of tokens) ≡ Some form → IsOfForm tokens form
of_form tokens form h = let c = form_sound (terminals_of tokens) form h in record { spelled = sym c.spelled; kept = c.kept }

reads_as : (tokens : List Token) (form : Form) → IsOfForm tokens form → form_of (terminals_of tokens) ≡ Some form
reads_as tokens form is = ap form_of is.spelled ∙ form_again form is.kept

pub formless : (tokens : List Token) → form_of (terminals_of tokens) ≡ None → IsFormless tokens
formless tokens h form is = let q = sym h ∙ reads_as tokens form is in absurd (cc)

pub one_form : (tokens : List Token) (a b : Form) → IsOfForm tokens a → IsOfForm tokens b → a ≡ b
one_form tokens a b is_a is_b = let q = sym (reads_as tokens a is_a) ∙ reads_as tokens b is_b in cc

pub unbroken_form : (line : ℕ) (tokens : List Token) → IsUnbroken line tokens
    → (form : Form) × IsOfForm tokens form × (most_open 0 tokens ≤ most_brackets)
unbroken_form line tokens = unbroken_by line tokens (form_of (terminals_of tokens)) (of_form tokens) (formless tokens)
