-- Declarations: what is read is spelled as the terminals, and what is spelled is read.
use Rattle.std.proofs.Common.{
  ◌≡◌,
  Bool,
  true,
  false,
  ◌&&◌,
  ◌||◌,
  not,
  reverse,
  List,
  [],
  ◌∷◌,
  ◌++◌,
  map,
  Option,
  Some,
  None,
  sym,
  ◌∙◌,
  ap,
  subst,
  refl,
  append_assoc,
  append-nil,
}
use Rattle.std.specs.Prelude.{option_map, option_and_then, if◌then◌else◌}
use Rattle.std.proofs.lemmas.List.{reverse-append, reverse-reverse}
use Rattle.std.proofs.lemmas.Bool.{and_parts, and_from}
use Rattle.a95_base.proofs.Tests.{by_test}
use Rattle.f95_tree.specs.declared.declaration.Attribute.{Attribute}
use Rattle.f95_tree.specs.declared.declaration.Declaration.{Declaration}
use Rattle.f95_tree.specs.declared.declaration.Entity.{Entity}
use Rattle.f95_tree.specs.declared.declaration.TypeSpec.{TypeSpec}
use Rattle.f95_tree.specs.declared.terminal.Punctuation.TheVariants as mark
use Rattle.f95_tree.specs.Spelling.{Text, punctuated, behind_commas, commas}
use Rattle.f95_tree.specs.Grades.{all, some}
use Rattle.f95_tree.specs.Forms.{attribute_text, entity_text, colons_text, type_text, declaration_text}
use Rattle.f95_tree.specs.WellFormed.{well_attribute, well_entity, well_type, well_declaration}
use Rattle.f95_expressions.proofs.Lists.{onto}
use Rattle.f95_expressions.proofs.Read.{mapped, chained}
use Rattle.f95_parts.specs.Views.{behind}
use Rattle.f95_parts.proofs.ViewLaws.{behind_sound}
use Rattle.f95_parts.proofs.Instances.{entity_parts}
use Rattle.f95_parts.proofs.ListLaws.{Is, row_list_sound, row_list_again}
use Rattle.f95_statements.specs.Declarations.{declaration, entities_of, no_initials, bare, declared_by, declared, declaration_of, attributes_of}
use Rattle.f95_statements.proofs.AttributeSteps.{attribute_stop}
use Rattle.f95_statements.proofs.AttributeLaws.{Run, attributes_sound, attributes_again}

-- ---- entities

abbrev entities_text : List Entity → Text
entities_text entities = commas (map entity_text entities)

abbrev well_entities : List Entity → Bool
well_entities entities = all (map well_entity entities)

entities_sound : (ts : Text) (entities : List Entity) → entities_of ts ≡ Some entities →
    Is entities_text (λ entities. some entities && well_entities entities) ts entities
entities_sound ts entities h = row_list_sound entity_parts ts entities h

entities_again : (entities : List Entity) → some entities ≡ true → well_entities entities ≡ true →
    entities_of (entities_text entities) ≡ Some entities
entities_again [] h w = absurd (cc)
entities_again (a ∷ more) h w = row_list_again entity_parts a more w

-- ---- declarations

onto_reversed : {A : Type 0} (xs d : List A) → onto xs d ≡ reverse xs ++ d
onto_reversed [] d = refl
onto_reversed (x ∷ xs) d = onto_reversed xs (x ∷ d)
    ∙ sym (ap (λ l. l ++ d) (reverse-append (x ∷ []) xs) ∙ append_assoc (reverse xs) (x ∷ []) d)

-- what was put one before another stands in order again
pub in_order : {A : Type 0} (xs : List A) → reverse (onto xs []) ≡ xs
in_order xs = ap reverse (onto_reversed xs [] ∙ append-nil (reverse xs)) ∙ reverse-reverse xs

-- a declaration of this type, behind the type
abbrev pub DeclarationIn : TypeSpec → Text → Declaration → Type 0
DeclarationIn t ts d = Is declaration_text well_declaration (type_text t ++ ts) d

colons_sound : (t : TypeSpec) (found : List Attribute) (ts rest more : Text) (d : Declaration) → well_type t ≡ true →
    Run [] found ts rest →
    rest ≡ punctuated mark.DoubleColon more → option_map (declaration t (reverse found) true) (entities_of more) ≡ Some d →
    DeclarationIn t ts d
colons_sound t found ts rest more d w run is h = mapped (declaration t (reverse found) true) (entities_of more) d h (λ es he de.
    let s = entities_sound more es he in
    let ws = and_parts (some es) (well_entities es) s.kept in
    let order = ap reverse run.newest ∙ in_order run.front in
    subst (DeclarationIn t ts) (ap (λ attributes. declaration t attributes true es) (sym order) ∙ de) record {
      spelled = ap (λ u. type_text t ++ u)
          (ap (λ u. behind_commas (map attribute_text run.front) ++ u) (ap (punctuated mark.DoubleColon) s.spelled ∙ sym is)
          ∙ run.spelled);
      kept = and_from (well_type t) (all (map well_attribute run.front) && (some es && (well_entities es && true))) w
          (and_from (all (map well_attribute run.front)) (some es && (well_entities es && true)) run.kept
          (and_from (some es) (well_entities es && true) ws.0 (and_from (well_entities es) true ws.1 refl)));
    })

bare_sound : (t : TypeSpec) (es : List Entity) (d : Declaration) → bare t es ≡ Some d →
    (declaration t [] false es ≡ d) × (no_initials es ≡ true)
bare_sound t es d h = by_test (λ b. (if b then Some (declaration t [] false es) else None) ≡ Some d →
    (declaration t [] false es ≡ d) × (b ≡ true)) (no_initials es)
    (λ yes h. (cc, refl)) (λ no h. absurd (cc)) h

no_colons_sound : (t : TypeSpec) (ts rest : Text) (d : Declaration) → well_type t ≡ true → Run [] [] ts rest →
    option_and_then (bare t) (entities_of rest) ≡ Some d → DeclarationIn t ts d
no_colons_sound t ts rest d w run h = chained (bare t) (entities_of rest) d h (λ es he hb.
    let s = entities_sound rest es he in
    let ws = and_parts (some es) (well_entities es) s.kept in
    let b = bare_sound t es d hb in
    let none : [] ≡ run.front = ap reverse run.newest ∙ in_order run.front in
    subst (DeclarationIn t ts) b.0 record {
      spelled = ap (λ u. type_text t ++ u) (s.spelled
          ∙ ap (λ attributes. behind_commas (map attribute_text attributes) ++ rest) none ∙ run.spelled);
      kept = and_from (well_type t) (some es && (well_entities es && no_initials es)) w
          (and_from (some es) (well_entities es && no_initials es) ws.0 (and_from (well_entities es) (no_initials es) ws.1 b.1));
    })

declared_sound : (o : Option Text) (t : TypeSpec) (found : List Attribute) (ts rest : Text) (d : Declaration) →
    well_type t ≡ true → Run [] found ts rest →
    behind mark.DoubleColon rest ≡ o → declared_by o t found rest ≡ Some d → DeclarationIn t ts d
declared_sound (Some more) t found ts rest d w run is h = colons_sound t found ts rest more d w run
    (behind_sound mark.DoubleColon rest more is) h
declared_sound None t [] ts rest d w run is h = no_colons_sound t ts rest d w run h
declared_sound None t (a ∷ found) ts rest d w run is h = absurd (cc)

pub declaration_sound : (t : TypeSpec) (ts : Text) (d : Declaration) → well_type t ≡ true → declaration_of t ts ≡ Some d →
    Is declaration_text well_declaration (type_text t ++ ts) d
declaration_sound t ts d w h =
    let found = attributes_of [] ts in
    declared_sound (behind mark.DoubleColon found.1) t found.0 ts found.1 d w (attributes_sound [] ts) refl h

-- what stands behind the type
abbrev pub behind_declared : Declaration → Text
behind_declared d = behind_commas (map attribute_text d.attributes) ++ (colons_text d.colons ++ entities_text d.entities)

again_colons : (t : TypeSpec) (attributes : List Attribute) (es : List Entity) → all (map well_attribute attributes) ≡ true →
    some es ≡ true → well_entities es ≡ true →
    declaration_of t (behind_commas (map attribute_text attributes) ++ punctuated mark.DoubleColon (entities_text es)) ≡
    Some (declaration t attributes true es)
again_colons t attributes es wa h we =
    ap (declared t) (attributes_again attributes [] (punctuated mark.DoubleColon (entities_text es)) wa refl)
    ∙ ap (option_map (declaration t (reverse (onto attributes [])) true)) (entities_again es h we)
    ∙ ap (λ attributes. Some (declaration t attributes true es)) (in_order attributes)

again_bare : (t : TypeSpec) (es : List Entity) → some es ≡ true → well_entities es ≡ true → no_initials es ≡ true →
    declaration_of t (entities_text es) ≡ Some (declaration t [] false es)
again_bare t [] h we hi = absurd (cc)
again_bare t (a ∷ es) h we hi =
    ap (declared t) (attribute_stop [] (entities_text (a ∷ es)) refl)
    ∙ ap (option_and_then (bare t)) (entities_again (a ∷ es) h we)
    ∙ ap (λ b. if b then Some (declaration t [] false (a ∷ es)) else None) hi

again_by_colons : (t : TypeSpec) (attributes : List Attribute) (colons : Bool) (es : List Entity) →
    all (map well_attribute attributes) ≡ true → some es ≡ true →
    well_entities es ≡ true → (colons || (not (some attributes) && no_initials es)) ≡ true →
    declaration_of t (behind_declared (declaration t attributes colons es)) ≡ Some (declaration t attributes colons es)
again_by_colons t attributes true es wa h we hc = again_colons t attributes es wa h we
again_by_colons t [] false es wa h we hc = again_bare t es h we hc
again_by_colons t (a ∷ attributes) false es wa h we hc = absurd (cc)

pub declaration_again : (d : Declaration) → well_declaration d ≡ true → declaration_of d.of (behind_declared d) ≡ Some d
declaration_again d w =
    let attributes = all (map well_attribute d.attributes) in
    let colons = d.colons || (not (some d.attributes) && no_initials d.entities) in
    let w1 = and_parts (well_type d.of) (attributes && (some d.entities && (well_entities d.entities && colons))) w in
    let w2 = and_parts attributes (some d.entities && (well_entities d.entities && colons)) w1.1 in
    let w3 = and_parts (some d.entities) (well_entities d.entities && colons) w2.1 in
    let w4 = and_parts (well_entities d.entities) colons w3.1 in
    again_by_colons d.of d.attributes d.colons d.entities w2.0 w3.0 w4.0 w4.1

pub declared_type : (d : Declaration) → well_declaration d ≡ true → well_type d.of ≡ true
declared_type d w = (and_parts (well_type d.of) (all (map well_attribute d.attributes) && (some d.entities && (well_entities d.entities
    && (d.colons || (not (some d.attributes) && no_initials d.entities))))) w).0
