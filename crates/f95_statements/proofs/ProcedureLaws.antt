-- Statements that begin procedures: what is read is spelled as the terminals, and what is spelled is read.
use Rattle.std.proofs.Common.{◌≡◌, Bool, true, false, ◌&&◌, not, reverse, List, [], ◌∷◌, ◌++◌, map, Option, Some, None, sym, ◌∙◌, ap, subst, refl, append_assoc, codes}
use Rattle.std.specs.Prelude.{option_map, option_and_then, if◌then◌else◌}
use Rattle.std.proofs.lemmas.Bool.{and_parts, not-true, and_from}
use Rattle.a95_base.proofs.Tests.{by_test}
use Rattle.f95_tree.specs.declared.declaration.Attribute.{Attribute}
use Rattle.f95_tree.specs.declared.declaration.Declaration.{Declaration}
use Rattle.f95_tree.specs.declared.declaration.Entity.{Entity}
use Rattle.f95_tree.specs.declared.declaration.TypeSpec.{TypeSpec}
use Rattle.f95_tree.specs.declared.declaration.TypeSpec.TheVariants as type_spec
use Rattle.f95_tree.specs.declared.form.Form.{Form}
use Rattle.f95_tree.specs.declared.form.Form.TheVariants as of
use Rattle.f95_tree.specs.declared.form.UnitForm.TheVariants as unit_of
use Rattle.f95_tree.specs.declared.form.Heading.{Heading}
use Rattle.f95_tree.specs.declared.form.Heading.TheVariants as heading
use Rattle.f95_tree.specs.declared.form.Prefix.{Prefix}
use Rattle.f95_tree.specs.declared.form.Prefix.TheVariants as prefix
use Rattle.f95_tree.specs.declared.form.Procedure.{Procedure}
use Rattle.f95_tree.specs.declared.terminal.Terminal.{Terminal}
use Rattle.f95_tree.specs.declared.terminal.Terminal.TheVariants as terminal
use Rattle.f95_tree.specs.declared.terminal.Keyword.{Keyword}
use Rattle.f95_tree.specs.declared.terminal.Keyword.TheVariants as keyword
use Rattle.f95_tree.specs.declared.terminal.UnitWord.{UnitWord}
use Rattle.f95_tree.specs.declared.terminal.UnitWord.TheVariants as unit
use Rattle.f95_tree.specs.declared.terminal.TypeWord.{TypeWord}
use Rattle.f95_tree.specs.declared.terminal.PrefixWord.TheVariants as prefix_name
use Rattle.f95_tree.specs.declared.terminal.Punctuation.TheVariants as mark
use Rattle.f95_tree.specs.Spelling.{Text, punctuated, in_brackets}
use Rattle.f95_tree.specs.Grades.{all}
use Rattle.f95_tree.specs.Forms.{Word, names, type_text, declaration_text, unit_word, prefix_text, prefixes_text, maybe_dummies, result_text, heading_text, spell_form}
use Rattle.f95_tree.specs.WellFormed.{
  well_type,
  well_declaration,
  prefix_kind,
  is_among,
  distinct,
  well_prefix,
  well_heading,
  well_procedure,
  well_form,
}
use Rattle.f95_expressions.specs.declared.pending.Field.{Field}
use Rattle.f95_expressions.specs.Machine.{bracket}
use Rattle.f95_expressions.proofs.Lists.{onto, onto_append}
use Rattle.f95_expressions.proofs.Read.{mapped, chained}
use Rattle.f95_parts.specs.Views.{is_nil, behind, behind_name, behind_keyword, behind_word, at_end, nothing_more}
use Rattle.f95_parts.proofs.ViewLaws.{nil, behind_sound, name_sound, keyword_sound, word_sound, more_sound, end_sound}
use Rattle.f95_parts.proofs.ListLaws.{Is, within_list_sound, within_list_again, collected_inside}
use Rattle.f95_parts.proofs.Instances.{all_names}
use Rattle.f95_parts.proofs.Instances as instance
use Rattle.f95_statements.specs.Actions.{whole_bracket}
use Rattle.f95_statements.specs.Declarations.{
  type_of,
  declaration,
  declaration_of,
  names_in,
  dummies_of,
  subroutine_of,
  result_name,
  result_of,
  function_in,
  function_of,
  heading_by,
  as_prefix,
  or_more,
  prefixes_of,
  procedure,
  kept,
  headed_procedure,
  procedure_behind,
  typed_procedure,
  procedure_keyed,
  procedure_from,
  procedure_of,
  is_keyed,
  typed_form,
}
use Rattle.f95_statements.proofs.TypeLaws.{begins_length, word_of, behind_type, type_terminal, type_spelled, type_sound, type_again}
use Rattle.f95_statements.proofs.DeclarationLaws.{in_order, behind_declared, declared_type, declaration_sound, declaration_again}

-- ---- dummies

names_sound : (inside rest : Text) (fs : List Field) (ns : List Word) → bracket inside ≡ Some (fs, rest) → names_in fs ≡ Some ns →
    names ns ++ punctuated mark.Close rest ≡ inside
names_sound inside rest fs ns hf hn = (within_list_sound instance.names inside rest fs ns hf hn).0

-- names in brackets are read before any rest
names_again : {A : Type 0} (make : List Word × Text → Option A) (ns : List Word) (rest : Text) →
    option_and_then (λ (found : List Field × Text).
    option_and_then (λ ns. make (ns, found.1)) (names_in found.0)) (bracket (names ns ++ punctuated mark.Close rest)) ≡
    make (ns, rest)
names_again make ns rest =
    ap (option_and_then (λ (found : List Field × Text). option_and_then (λ ns. make (ns, found.1)) (names_in found.0)))
    (within_list_again instance.names ns rest (all_names ns))
    ∙ ap (option_and_then (λ (ns : List Word). make (ns, rest))) (collected_inside instance.names ns (all_names ns))

whole_names_sound : (ts : Text) (ns : List Word) → option_and_then names_in (whole_bracket ts) ≡ Some ns →
    in_brackets (names ns) ≡ ts
whole_names_sound ts ns h = chained names_in (whole_bracket ts) ns h (λ fs hfs hns.
    chained (λ inside. option_and_then at_end (bracket inside)) (behind mark.Open ts) fs hfs (λ inside hi hb.
    chained at_end (bracket inside) fs hb (λ found hf he.
    let end = end_sound found fs he in
    ap (punctuated mark.Open) (ap (λ rest. names ns ++ punctuated mark.Close rest) (sym end.1)
    ∙ names_sound inside found.1 found.0 ns hf (ap names_in end.0 ∙ hns)) ∙ sym (behind_sound mark.Open ts inside hi))))

dummies_sound : (ts : Text) (d : Option (List Word)) → dummies_of ts ≡ Some d → maybe_dummies d ≡ ts
dummies_sound ts d h =
    by_test (λ b. (if b then Some None else option_map Some (option_and_then names_in (whole_bracket ts))) ≡ Some d →
    maybe_dummies d ≡ ts) (is_nil ts)
    (λ e h. let q : None ≡ d = cc in sym (ap maybe_dummies q) ∙ sym (nil ts e))
    (λ _ h. mapped Some (option_and_then names_in (whole_bracket ts)) d h (λ ns hn is. sym (ap maybe_dummies is)
    ∙ whole_names_sound ts ns hn)) h

dummies_again : (d : Option (List Word)) → dummies_of (maybe_dummies d) ≡ Some d
dummies_again None = refl
dummies_again (Some ns) =
    ap (λ o. option_map Some (option_and_then names_in (option_and_then at_end o)))
    (within_list_again instance.names ns [] (all_names ns))
    ∙ ap (option_map Some) (collected_inside instance.names ns (all_names ns))

-- ---- results

result_name_sound : (ts : Text) (n : Word) → result_name ts ≡ Some n → result_text (Some n) ≡ ts
result_name_sound ts n h =
    chained (λ inside. option_and_then (λ p.
    option_and_then (λ rest. nothing_more p.0 rest) (behind mark.Close p.1)) (behind_name inside))
    (option_and_then (behind mark.Open) (behind_word (codes "result") ts)) n h (λ inside hi h2.
    chained (behind mark.Open) (behind_word (codes "result") ts) inside hi (λ more hm ho.
    chained (λ p. option_and_then (λ rest. nothing_more p.0 rest) (behind mark.Close p.1)) (behind_name inside) n h2 (λ p hp h3.
    chained (λ rest. nothing_more p.0 rest) (behind mark.Close p.1) n h3 (λ rest hr h4.
    let m = more_sound p.0 n rest h4 in
    sym (word_sound (codes "result") ts more hm
    ∙ ap (λ t. terminal.Name (codes "result") ∷ t) (behind_sound mark.Open more inside ho
    ∙ ap (punctuated mark.Open) (name_sound inside p hp ∙ ap (λ n. terminal.Name n ∷ p.1) m.0
    ∙ ap (λ t. terminal.Name n ∷ t) (behind_sound mark.Close p.1 rest hr ∙ ap (punctuated mark.Close) m.1))))))))

result_sound : (ts : Text) (o : Option Word) → result_of ts ≡ Some o → result_text o ≡ ts
result_sound ts o h = by_test (λ b. (if b then Some None else option_map Some (result_name ts)) ≡ Some o →
    result_text o ≡ ts) (is_nil ts)
    (λ e h. let q : None ≡ o = cc in sym (ap result_text q) ∙ sym (nil ts e))
    (λ _ h. mapped Some (result_name ts) o h (λ n hn is. sym (ap result_text is) ∙ result_name_sound ts n hn)) h

result_again : (o : Option Word) → result_of (result_text o) ≡ Some o
result_again None = refl
result_again (Some n) = refl

-- ---- headings

function_sound : (p : Word × Text) (h : Heading) → function_of p ≡ Some h →
    heading_text h ≡ unit_word unit.Function ∷ terminal.Name p.0 ∷ p.1
function_sound p h hs = chained (λ inside.
    option_and_then (function_in p.0) (bracket inside)) (behind mark.Open p.1) h hs (λ inside hi h2.
    chained (function_in p.0) (bracket inside) h h2 (λ found hf h3.
    chained (λ dummies. option_map (heading.Function p.0 dummies) (result_of found.1)) (names_in found.0) h h3 (λ ns hns h4.
    mapped (heading.Function p.0 ns) (result_of found.1) h h4 (λ o ho is.
    sym (ap heading_text is)
    ∙ ap (λ t. unit_word unit.Function ∷ terminal.Name p.0 ∷ punctuated mark.Open t)
    (append_assoc (names ns) (punctuated mark.Close []) (result_text o)
    ∙ ap (λ t. names ns ++ punctuated mark.Close t) (result_sound found.1 o ho) ∙ names_sound inside found.1 found.0 ns hf hns)
    ∙ ap (λ t. unit_word unit.Function ∷ terminal.Name p.0 ∷ t) (sym (behind_sound mark.Open p.1 inside hi))))))

heading_sound : (w : UnitWord) (ts : Text) (h : Heading) → heading_by w ts ≡ Some h → heading_text h ≡ unit_word w ∷ ts
heading_sound unit.Subroutine ts h hs = chained subroutine_of (behind_name ts) h hs (λ p hp h2.
    mapped (heading.Subroutine p.0) (dummies_of p.1) h h2 (λ d hd is.
    sym (ap heading_text is) ∙ ap (λ t. unit_word unit.Subroutine ∷ terminal.Name p.0 ∷ t) (dummies_sound p.1 d hd)
    ∙ ap (λ t. unit_word unit.Subroutine ∷ t) (sym (name_sound ts p hp))))
heading_sound unit.Function ts h hs = chained function_of (behind_name ts) h hs (λ p hp h2.
    function_sound p h h2 ∙ ap (λ t. unit_word unit.Function ∷ t) (sym (name_sound ts p hp)))
heading_sound unit.Program ts h hs = absurd (cc)
heading_sound unit.Module ts h hs = absurd (cc)

heading_again : (done : List Prefix) (h : Heading) → procedure_behind (done, heading_text h) ≡ kept (procedure (reverse done) h)
heading_again done (heading.Subroutine n d) =
    ap (λ o. option_and_then (λ h. kept (procedure (reverse done) h)) (option_map (heading.Subroutine n) o)) (dummies_again d)
heading_again done (heading.Function n ns o) =
    ap (λ t. option_and_then (λ h. kept (procedure (reverse done) h)) (option_and_then (function_in n) (bracket t)))
    (append_assoc (names ns) (punctuated mark.Close []) (result_text o))
    ∙ ap (option_and_then (λ h. kept (procedure (reverse done) h)))
    (names_again (λ (p : List Word × Text). option_map (heading.Function n p.0) (result_of p.1)) ns (result_text o))
    ∙ ap (λ x. option_and_then (λ h. kept (procedure (reverse done) h)) (option_map (heading.Function n ns) x)) (result_again o)

-- where no prefix stands the heading is read at once
from_heading : (done : List Prefix) (h : Heading) → procedure_from (done, heading_text h) ≡ procedure_behind (done, heading_text h)
from_heading done (heading.Subroutine n d) = refl
from_heading done (heading.Function n ns o) = refl

-- ---- prefixes

-- a prefix that is a word
as_prefix_sound : (t : Terminal) (p : Prefix) → as_prefix t ≡ Some p → (prefix_text p ≡ t ∷ []) × (well_prefix p ≡ true)
as_prefix_sound (terminal.Keyword (keyword.Prefix prefix_name.Recursive)) p h = let q : prefix.Recursive ≡ p = cc in
    (sym (ap prefix_text q), sym (ap well_prefix q))
as_prefix_sound (terminal.Keyword (keyword.Prefix prefix_name.Pure)) p h = let q : prefix.Pure ≡ p = cc in
    (sym (ap prefix_text q), sym (ap well_prefix q))
as_prefix_sound (terminal.Keyword (keyword.Prefix prefix_name.Elemental)) p h = let q : prefix.Elemental ≡ p = cc in
    (sym (ap prefix_text q), sym (ap well_prefix q))
as_prefix_sound (terminal.Keyword keyword.Case) p h = absurd (cc)
as_prefix_sound (terminal.Keyword k) p h = absurd (cc)
as_prefix_sound terminal.Not p h = absurd (cc)
as_prefix_sound t p h = absurd (cc)

-- the prefixes that are read before the rest of a text, behind those that were done
record Run (done found : List Prefix) (ts rest : Text) : Type 0 where
  pub front : List Prefix
  pub newest : found ≡ onto front done
  pub spelled : prefixes_text front ++ rest ≡ ts
  pub kept : all (map well_prefix front) ≡ true

abbrev RunTo : List Prefix → Text → List Prefix × Text → Type 0
RunTo done ts r = Run done r.0 ts r.1

run_next : (o : Option Prefix) (done : List Prefix) (t : Terminal) (ts : Text) → as_prefix t ≡ o →
    ((p : Prefix) → RunTo (p ∷ done) ts (prefixes_of (p ∷ done) ts)) →
    RunTo done (t ∷ ts) (or_more o (done, t ∷ ts) (λ p. prefixes_of (p ∷ done) ts))
run_next None done t ts is more = record { front = []; newest = refl; spelled = refl; kept = refl }
run_next (Some p) done t ts is more =
    let s = as_prefix_sound t p is in
    let m = more p in record {
      front = p ∷ m.front;
      newest = m.newest;
      spelled = append_assoc (prefix_text p) (prefixes_text m.front) (prefixes_of (p ∷ done) ts).1
          ∙ ap (λ u. prefix_text p ++ u) m.spelled ∙ ap (λ u. u ++ ts) s.0;
      kept = and_from (well_prefix p) (all (map well_prefix m.front)) s.1 m.kept;
    }

prefix_run : (done : List Prefix) (ts : Text) → RunTo done ts (prefixes_of done ts)
prefix_run done [] = record { front = []; newest = refl; spelled = refl; kept = refl }
prefix_run done (t ∷ ts) = run_next (as_prefix t) done t ts refl (λ p. prefix_run (p ∷ done) ts)

prefixes_joined : (ps qs : List Prefix) → prefixes_text (ps ++ qs) ≡ prefixes_text ps ++ prefixes_text qs
prefixes_joined [] qs = refl
prefixes_joined (p ∷ ps) qs = ap (λ t. prefix_text p ++ t) (prefixes_joined ps qs)
    ∙ sym (append_assoc (prefix_text p) (prefixes_text ps) (prefixes_text qs))

all_joined : (ps qs : List Prefix) → all (map well_prefix ps) ≡ true → all (map well_prefix qs) ≡ true →
    all (map well_prefix (ps ++ qs)) ≡ true
all_joined [] qs h g = g
all_joined (p ∷ ps) qs h g =
    let ws = and_parts (well_prefix p) (all (map well_prefix ps)) h in
    and_from (well_prefix p) (all (map well_prefix (ps ++ qs))) ws.0 (all_joined ps qs ws.1 g)

-- ---- what is read

abbrev pub procedure_text : Procedure → Text
procedure_text p = prefixes_text p.prefixes ++ heading_text p.heading

abbrev ProcedureIn : Text → Procedure → Type 0
ProcedureIn ts q = Is procedure_text well_procedure ts q

abbrev keeps : List Prefix → Heading → Bool
keeps ps h = distinct (map prefix_kind ps) && well_heading (map prefix_kind ps) h

kept_sound : (p q : Procedure) → kept p ≡ Some q → (p ≡ q) × (keeps p.prefixes p.heading ≡ true)
kept_sound p q h = by_test (λ b. (if b then Some p else None) ≡ Some q → (p ≡ q) × (b ≡ true)) (keeps p.prefixes p.heading)
    (λ yes h. (cc, refl)) (λ no h. absurd (cc)) h

begun_sound : (ps : List Prefix) (w : UnitWord) (ts : Text) (q : Procedure) → all (map well_prefix ps) ≡ true →
    option_and_then (λ h. kept (procedure (reverse (onto ps [])) h)) (heading_by w ts) ≡ Some q →
    ProcedureIn (prefixes_text ps ++ unit_word w ∷ ts) q
begun_sound ps w ts q a h = chained (λ h. kept (procedure (reverse (onto ps [])) h)) (heading_by w ts) q h (λ begins hh hk.
    let k = kept_sound (procedure (reverse (onto ps [])) begins) q hk in
    subst (ProcedureIn (prefixes_text ps ++ unit_word w ∷ ts)) (ap (λ ps. procedure ps begins) (sym (in_order ps)) ∙ k.0) record {
      spelled = ap (λ t. prefixes_text ps ++ t) (heading_sound w ts begins hh);
      kept = and_from (all (map well_prefix ps)) (keeps ps begins) a (ap (λ ps. keeps ps begins) (sym (in_order ps)) ∙ k.1);
    })

headed_sound : (ps : List Prefix) (p : Keyword × Text) (q : Procedure) → all (map well_prefix ps) ≡ true →
    headed_procedure (onto ps []) p ≡ Some q →
    ProcedureIn (prefixes_text ps ++ terminal.Keyword p.0 ∷ p.1) q
headed_sound ps (keyword.Unit w, ts) q a h = begun_sound ps w ts q a h
headed_sound ps (keyword.Case, ts) q a h = absurd (cc)
headed_sound ps (k, ts) q a h = absurd (cc)

behind_prefixes : (ps : List Prefix) (ts : Text) (q : Procedure) → all (map well_prefix ps) ≡ true →
    procedure_behind (onto ps [], ts) ≡ Some q →
    ProcedureIn (prefixes_text ps ++ ts) q
behind_prefixes ps ts q a h = chained (headed_procedure (onto ps [])) (behind_keyword ts) q h (λ p hp h2.
    subst (λ t. ProcedureIn (prefixes_text ps ++ t) q) (sym (keyword_sound ts p hp)) (headed_sound ps p q a h2))

-- a type as a prefix behind others
pub typed_sound : (ps : List Prefix) (p : TypeSpec × Text) (q : Procedure) → all (map well_prefix ps) ≡ true →
    well_type p.0 ≡ true →
    typed_procedure (onto ps []) p ≡ Some q → Is procedure_text well_procedure (prefixes_text ps ++ (type_text p.0 ++ p.1)) q
typed_sound ps p q a w h =
    let here : Prefix = prefix.«Type» p.0 in
    let found = prefixes_of (here ∷ onto ps []) p.1 in
    let r = prefix_run (here ∷ onto ps []) p.1 in
    let front : List Prefix = here ∷ r.front in
    let newest = r.newest ∙ sym (onto_append ps front []) in
    let text = ap (λ (t : Text). t ++ found.1) (prefixes_joined ps front)
    ∙ append_assoc (prefixes_text ps) (prefixes_text front) found.1
    ∙ ap (λ (t : Text). prefixes_text ps ++ t) (append_assoc (type_text p.0) (prefixes_text r.front) found.1
    ∙ ap (λ (t : Text). type_text p.0 ++ t) r.spelled) in
    subst (λ t. ProcedureIn t q) text (behind_prefixes (ps ++ front) found.1 q
    (all_joined ps front a (and_from (well_type p.0) (all (map well_prefix r.front)) w r.kept))
    (ap (λ d. procedure_behind (d, found.1)) (sym newest) ∙ h))

keyed_sound : (ps : List Prefix) (p : Keyword × Text) (q : Procedure) → all (map well_prefix ps) ≡ true →
    procedure_keyed (onto ps []) p ≡ Some q →
    ProcedureIn (prefixes_text ps ++ terminal.Keyword p.0 ∷ p.1) q
keyed_sound ps (keyword.«Type» w, ts) q a h = chained (typed_procedure (onto ps [])) (type_of w ts) q h (λ t ht h2.
    let s = type_sound w ts t ht in subst (λ u. ProcedureIn (prefixes_text ps ++ u) q) s.spelled (typed_sound ps t q a s.kept h2))
keyed_sound ps (keyword.Unit w, ts) q a h = begun_sound ps w ts q a h
keyed_sound ps (keyword.Case, ts) q a h = absurd (cc)
keyed_sound ps (k, ts) q a h = absurd (cc)

pub procedure_sound : (ts : Text) (q : Procedure) → procedure_of ts ≡ Some q → Is procedure_text well_procedure ts q
procedure_sound ts q h =
    let found = prefixes_of [] ts in
    let r = prefix_run [] ts in
    subst (λ t. ProcedureIn t q) r.spelled (chained (procedure_keyed (onto r.front [])) (behind_keyword found.1) q
    (ap (λ d. procedure_from (d, found.1)) (sym r.newest) ∙ h) (λ p hp h2.
    subst (λ t. ProcedureIn (prefixes_text r.front ++ t) q) (sym (keyword_sound found.1 p hp))
    (keyed_sound r.front p q r.kept h2)))

-- ---- what is spelled

no_prefix : (done : List Prefix) (h : Heading) → prefixes_of done (heading_text h) ≡ (done, heading_text h)
no_prefix done (heading.Subroutine n d) = refl
no_prefix done (heading.Function n ns o) = refl

-- no type is among these prefixes
abbrev untyped : List Prefix → Type 0
untyped ps = is_among (map prefix_kind ps) 3 ≡ false

untyped_again : (done ps : List Prefix) (h : Heading) → untyped ps →
    procedure_behind (prefixes_of done (prefixes_text ps ++ heading_text h)) ≡ kept (procedure (reverse (onto ps done)) h)
untyped_again done [] h u = ap procedure_behind (no_prefix done h) ∙ heading_again done h
untyped_again done (prefix.Recursive ∷ ps) h u = untyped_again (prefix.Recursive ∷ done) ps h u
untyped_again done (prefix.Pure ∷ ps) h u = untyped_again (prefix.Pure ∷ done) ps h u
untyped_again done (prefix.Elemental ∷ ps) h u = untyped_again (prefix.Elemental ∷ done) ps h u
untyped_again done (prefix.«Type» t ∷ ps) h u = absurd (cc)

-- no length begins there
no_length : (ps : List Prefix) (h : Heading) → untyped ps → begins_length (prefixes_text ps ++ heading_text h) ≡ false
no_length [] (heading.Subroutine n d) u = refl
no_length [] (heading.Function n ns o) u = refl
no_length (prefix.Recursive ∷ ps) h u = refl
no_length (prefix.Pure ∷ ps) h u = refl
no_length (prefix.Elemental ∷ ps) h u = refl
no_length (prefix.«Type» t ∷ ps) h u = absurd (cc)

-- but a keyword stands there
keyword_first : (ps : List Prefix) (h : Heading) → untyped ps →
    is_keyed (behind_keyword (prefixes_text ps ++ heading_text h)) ≡ true
keyword_first [] (heading.Subroutine n d) u = refl
keyword_first [] (heading.Function n ns o) u = refl
keyword_first (prefix.Recursive ∷ ps) h u = refl
keyword_first (prefix.Pure ∷ ps) h u = refl
keyword_first (prefix.Elemental ∷ ps) h u = refl
keyword_first (prefix.«Type» t ∷ ps) h u = absurd (cc)

-- a type is parted from the prefixes behind it
type_first : (t : TypeSpec) (ps : List Prefix) (h : Heading) →
    prefixes_text (prefix.«Type» t ∷ ps) ++ heading_text h ≡
    type_terminal (word_of t) ∷ (behind_type t ++ (prefixes_text ps ++ heading_text h))
type_first t ps h = append_assoc (type_text t) (prefixes_text ps) (heading_text h)
    ∙ ap (λ u. u ++ (prefixes_text ps ++ heading_text h)) (type_spelled t)

from_again : (done ps : List Prefix) (h : Heading) → all (map well_prefix ps) ≡ true → distinct (map prefix_kind ps) ≡ true →
    procedure_from (prefixes_of done (prefixes_text ps ++ heading_text h)) ≡ kept (procedure (reverse (onto ps done)) h)
from_again done [] h a d = ap procedure_from (no_prefix done h) ∙ from_heading done h ∙ heading_again done h
from_again done (prefix.Recursive ∷ ps) h a d =
    from_again (prefix.Recursive ∷ done) ps h a (and_parts (not (is_among (map prefix_kind ps) 0)) (distinct (map prefix_kind ps)) d).1
from_again done (prefix.Pure ∷ ps) h a d =
    from_again (prefix.Pure ∷ done) ps h a (and_parts (not (is_among (map prefix_kind ps) 1)) (distinct (map prefix_kind ps)) d).1
from_again done (prefix.Elemental ∷ ps) h a d =
    from_again (prefix.Elemental ∷ done) ps h a (and_parts (not (is_among (map prefix_kind ps) 2)) (distinct (map prefix_kind ps)) d).1
from_again done (prefix.«Type» t ∷ ps) h a d =
    let u = not-true (is_among (map prefix_kind ps) 3)
    (and_parts (not (is_among (map prefix_kind ps) 3)) (distinct (map prefix_kind ps)) d).0 in
    ap (λ t. procedure_from (prefixes_of done t)) (type_first t ps h)
    ∙ ap (option_and_then (typed_procedure done))
    (type_again t (prefixes_text ps ++ heading_text h) (and_parts (well_type t) (all (map well_prefix ps)) a).0 (no_length ps h u))
    ∙ untyped_again (prefix.«Type» t ∷ done) ps h u

kept_again : (p : Procedure) → keeps p.prefixes p.heading ≡ true → kept p ≡ Some p
kept_again p h = ap (λ b. if b then Some p else None) h

pub procedure_again : (q : Procedure) → well_procedure q ≡ true → procedure_of (procedure_text q) ≡ Some q
procedure_again q w =
    let ws = and_parts (all (map well_prefix q.prefixes)) (keeps q.prefixes q.heading) w in
    from_again [] q.prefixes q.heading ws.0
    (and_parts (distinct (map prefix_kind q.prefixes)) (well_heading (map prefix_kind q.prefixes) q.heading) ws.1).0
    ∙ ap (λ ps. kept (procedure ps q.heading)) (in_order q.prefixes) ∙ kept_again q ws.1

-- ---- what begins with the word of a type

abbrev FormIn : Text → Form → Type 0
FormIn ts f = Is spell_form well_form ts f

typed_form_sound : (p : TypeSpec × Text) (f : Form) → well_type p.0 ≡ true → typed_form p ≡ Some f → FormIn (type_text p.0 ++ p.1) f
typed_form_sound p f w h =
    by_test (λ b. (if b then option_map (λ q. of.Unit (unit_of.Procedure q)) (typed_procedure [] p)
    else option_map of.Declaration (declaration_of p.0 p.1)) ≡ Some f →
    FormIn (type_text p.0 ++ p.1) f) (is_keyed (behind_keyword p.1))
    (λ _ h. mapped (λ q. of.Unit (unit_of.Procedure q)) (typed_procedure [] p) f h (λ q hq is.
    let s = typed_sound [] p q refl w hq in
    subst (FormIn (type_text p.0 ++ p.1)) is record { spelled = s.spelled; kept = s.kept }))
    (λ _ h. mapped of.Declaration (declaration_of p.0 p.1) f h (λ d hd is.
    let s = declaration_sound p.0 p.1 d w hd in
    subst (FormIn (type_text p.0 ++ p.1)) is record { spelled = s.spelled; kept = s.kept })) h

-- what is read behind the word of a type: a declaration, or a procedure whose first prefix is a type
pub typed_word_sound : (w : TypeWord) (ts : Text) (f : Form) → option_and_then typed_form (type_of w ts) ≡ Some f →
    Is spell_form well_form (type_terminal w ∷ ts) f
typed_word_sound w ts f h = chained typed_form (type_of w ts) f h (λ p hp hf.
    let s = type_sound w ts p hp in subst (λ t. FormIn t f) s.spelled (typed_form_sound p f s.kept hf))

-- a declaration begins with the word of its type
pub declaration_first : (d : Declaration) →
    declaration_text d ≡ type_terminal (word_of d.of) ∷ (behind_type d.of ++ behind_declared d)
declaration_first d = ap (λ t. t ++ behind_declared d) (type_spelled d.of)

-- neither a length nor a keyword stands behind the type of a declaration
no_length_behind : (t : TypeSpec) (attributes : List Attribute) (colons : Bool) (es : List Entity) →
    begins_length (behind_declared (declaration t attributes colons es)) ≡ false
no_length_behind t (a ∷ attributes) colons es = refl
no_length_behind t [] true es = refl
no_length_behind t [] false [] = refl
no_length_behind t [] false (a ∷ es) = refl

no_keyword_behind : (t : TypeSpec) (attributes : List Attribute) (colons : Bool) (es : List Entity) →
    is_keyed (behind_keyword (behind_declared (declaration t attributes colons es))) ≡ false
no_keyword_behind t (a ∷ attributes) colons es = refl
no_keyword_behind t [] true es = refl
no_keyword_behind t [] false [] = refl
no_keyword_behind t [] false (a ∷ es) = refl

typed_by_keyword : (p : TypeSpec × Text) (b : Bool) → is_keyed (behind_keyword p.1) ≡ b →
    typed_form p ≡ (if b then option_map (λ q.
    of.Unit (unit_of.Procedure q)) (typed_procedure [] p) else option_map of.Declaration (declaration_of p.0 p.1))
typed_by_keyword p b h =
    ap (λ b. if b then option_map (λ q.
    of.Unit (unit_of.Procedure q)) (typed_procedure [] p) else option_map of.Declaration (declaration_of p.0 p.1)) h

pub declaration_typed : (d : Declaration) → well_declaration d ≡ true →
    option_and_then typed_form (type_of (word_of d.of) (behind_type d.of ++ behind_declared d)) ≡ Some (of.Declaration d)
declaration_typed d w =
    let more = behind_declared d in
    ap (option_and_then typed_form)
    (type_again d.of more (declared_type d w) (no_length_behind d.of d.attributes d.colons d.entities))
    ∙ typed_by_keyword (d.of, more) false (no_keyword_behind d.of d.attributes d.colons d.entities)
    ∙ ap (option_map of.Declaration) (declaration_again d w)

-- a procedure whose first prefix is a type begins with the word of that type
abbrev pub typed_function : TypeSpec → List Prefix → Heading → Procedure
typed_function t ps h = procedure (prefix.«Type» t ∷ ps) h

abbrev pub behind_prefix : List Prefix → Heading → Text
behind_prefix ps h = prefixes_text ps ++ heading_text h

pub procedure_first : (t : TypeSpec) (ps : List Prefix) (h : Heading) →
    procedure_text (typed_function t ps h) ≡ type_terminal (word_of t) ∷ (behind_type t ++ behind_prefix ps h)
procedure_first t ps h = type_first t ps h

pub procedure_typed : (t : TypeSpec) (ps : List Prefix) (h : Heading) → well_procedure (typed_function t ps h) ≡ true →
    option_and_then typed_form (type_of (word_of t) (behind_type t ++ behind_prefix ps h)) ≡
    Some (of.Unit (unit_of.Procedure (typed_function t ps h)))
procedure_typed t ps h w =
    let all_of = prefix.«Type» t ∷ ps in
    let kinds = map prefix_kind ps in
    let ws = and_parts (all (map well_prefix all_of)) (keeps all_of h) w in
    let wt = and_parts (well_type t) (all (map well_prefix ps)) ws.0 in
    let ds = and_parts (distinct (map prefix_kind all_of)) (well_heading (map prefix_kind all_of) h) ws.1 in
    let u = not-true (is_among kinds 3) (and_parts (not (is_among kinds 3)) (distinct kinds) ds.0).0 in
    ap (option_and_then typed_form) (type_again t (behind_prefix ps h) wt.0 (no_length ps h u))
    ∙ typed_by_keyword (t, behind_prefix ps h) true (keyword_first ps h u)
    ∙ ap (option_map (λ q. of.Unit (unit_of.Procedure q)))
    (untyped_again (prefix.«Type» t ∷ []) ps h u ∙ ap (λ ps. kept (procedure ps h)) (in_order all_of)
    ∙ kept_again (typed_function t ps h) ws.1)

-- ---- by the word of a type and what stands behind it

typed_at : (f : Form) (v w : TypeWord) (us ts : Text) → type_terminal v ∷ us ≡ type_terminal w ∷ ts →
    option_and_then typed_form (type_of v us) ≡ Some f →
    option_and_then typed_form (type_of w ts) ≡ Some f
typed_at f v w us ts e h =
    let words : v ≡ w = cc in
    let rests : us ≡ ts = cc in
    sym (ap (λ w. option_and_then typed_form (type_of w ts)) words)
    ∙ sym (ap (λ t. option_and_then typed_form (type_of v t)) rests) ∙ h

pub declaration_word_again : (d : Declaration) (w : TypeWord) (ts : Text) → well_declaration d ≡ true →
    declaration_text d ≡ type_terminal w ∷ ts →
    option_and_then typed_form (type_of w ts) ≡ Some (of.Declaration d)
declaration_word_again d w ts well e =
    typed_at (of.Declaration d) (word_of d.of) w (behind_type d.of ++ behind_declared d) ts (sym (declaration_first d)
    ∙ e) (declaration_typed d well)

word_again_by : (ps : List Prefix) (h : Heading) (w : TypeWord) (ts : Text) → well_procedure (procedure ps h) ≡ true →
    procedure_text (procedure ps h) ≡ type_terminal w ∷ ts →
    option_and_then typed_form (type_of w ts) ≡ Some (of.Unit (unit_of.Procedure (procedure ps h)))
word_again_by [] (heading.Subroutine n d) w ts well e = absurd (cc)
word_again_by [] (heading.Function n ns o) w ts well e = absurd (cc)
word_again_by (prefix.Recursive ∷ ps) h w ts well e = absurd (cc)
word_again_by (prefix.Pure ∷ ps) h w ts well e = absurd (cc)
word_again_by (prefix.Elemental ∷ ps) h w ts well e = absurd (cc)
word_again_by (prefix.«Type» t ∷ ps) h w ts well e =
    typed_at (of.Unit (unit_of.Procedure (typed_function t ps h))) (word_of t) w (behind_type t ++ behind_prefix ps h) ts
    (sym (procedure_first t ps h) ∙ e) (procedure_typed t ps h well)

pub procedure_word_again : (q : Procedure) (w : TypeWord) (ts : Text) → well_procedure q ≡ true →
    procedure_text q ≡ type_terminal w ∷ ts →
    option_and_then typed_form (type_of w ts) ≡ Some (of.Unit (unit_of.Procedure q))
procedure_word_again q w ts well e = word_again_by q.prefixes q.heading w ts well e
