-- Headers of FORALL: spelled as the fields that they are taken from, and taken again.
use Rattle.std.proofs.Common.{◌≡◌, true, ◌&&◌, List, [], ◌∷◌, ◌++◌, map, Option, Some, None, sym, ◌∙◌, ap, refl}
use Rattle.std.proofs.Common.{append_assoc, append-nil}
use Rattle.std.specs.Prelude.{option_map, option_and_then, if◌then◌else◌}
use Rattle.std.proofs.lemmas.Bool.{and_parts, and_from}
use Rattle.a95_base.proofs.Tests.{by_test}
use Rattle.f95_tree.specs.declared.expression.Expression.{Expression}
use Rattle.f95_tree.specs.declared.action.Header.{Header}
use Rattle.f95_tree.specs.declared.action.Index.{Index}
use Rattle.f95_tree.specs.declared.terminal.Punctuation.TheVariants as mark
use Rattle.f95_tree.specs.Spelling.{Text, punctuated, commas, maybe_behind, expression}
use Rattle.f95_tree.specs.Grades.{all, some}
use Rattle.f95_tree.specs.Forms.{maybe_expression, index_text}
use Rattle.f95_tree.specs.WellFormed.{maybe_well_expression, well_index, well_header}
use Rattle.f95_expressions.specs.declared.pending.Field.{Field}
use Rattle.f95_expressions.specs.Fields.{field_text, done_text, fields_text, well_field, well_fields}
use Rattle.f95_expressions.specs.Machine.{collected, expression_of, has_left}
use Rattle.f95_expressions.proofs.Lists.{onto}
use Rattle.f95_expressions.proofs.Fields.{expression_field}
use Rattle.f95_expressions.proofs.Read.{mapped, chained, expression_sound}
use Rattle.f95_parts.specs.Parts.{index_of, header, indices_of, header_of}
use Rattle.f95_parts.proofs.PartLaws.{expression_again, expression_text, expression_well}
use Rattle.f95_parts.proofs.FieldLaws.{index_field}
use Rattle.f95_parts.proofs.ListLaws.{collected_text, collected_well, collected_some, collected_fields, fields_spelled, fields_well}
use Rattle.f95_parts.proofs.ListLaws.{fields_some}
use Rattle.f95_parts.proofs.Instances.{indices}

-- what stands between the brackets
abbrev pub inside_text : Header → Text
inside_text h = commas (map index_text h.indices) ++ maybe_behind mark.Comma (maybe_expression h.mask)

abbrev masked : Option Expression → List Field → List Field
masked None fs = fs
masked (Some x) fs = expression_field x ∷ fs

abbrev pub header_fields : Header → List Field
header_fields h = masked h.mask (onto (map index_field h.indices) [])

done_fields : (fs : List Field) → some fs ≡ true → done_text fs ≡ fields_text fs ++ punctuated mark.Comma []
done_fields [] h = absurd (cc)
done_fields (f ∷ fs) h = sym (append_assoc (done_text fs) (field_text f) (punctuated mark.Comma []))

-- one more field behind others
behind_fields : (fs : List Field) (f : Field) (t : Text) → some fs ≡ true → field_text f ≡ t →
    fields_text (f ∷ fs) ≡ fields_text fs ++ punctuated mark.Comma t
behind_fields fs f t h q =
    ap (λ d. d ++ field_text f) (done_fields fs h) ∙ append_assoc (fields_text fs) (punctuated mark.Comma []) (field_text f)
    ∙ ap (λ t. fields_text fs ++ punctuated mark.Comma t) q

indices_sound : (mask : Option Expression) (fs : List Field) (h : Header) → indices_of mask fs ≡ Some h →
    (collected index_of [] fs ≡ Some h.indices) × ((mask ≡ h.mask) × (some fs ≡ true))
indices_sound mask [] h q = absurd (cc)
indices_sound mask (f ∷ fs) h q = mapped (header mask) (collected index_of [] (f ∷ fs)) h q (λ is hi e.
    (hi ∙ ap (λ (h : Header). Some h.indices) e, (ap (λ (h : Header). h.mask) e, refl)))

record HeaderIs (fs : List Field) (h : Header) : Type 0 where
  pub spelled : inside_text h ≡ fields_text fs
  pub kept : well_header h ≡ true

with_mask : (h : Header) (mask : Option Expression) → mask ≡ h.mask →
    inside_text h ≡ commas (map index_text h.indices) ++ maybe_behind mark.Comma (maybe_expression mask)
with_mask h mask e = ap (λ m. commas (map index_text h.indices) ++ maybe_behind mark.Comma (maybe_expression m)) (sym e)

well_parts : (h : Header) → some h.indices ≡ true → all (map well_index h.indices) ≡ true → maybe_well_expression h.mask ≡ true →
    well_header h ≡ true
well_parts h a b c =
    and_from (some h.indices) (all (map well_index h.indices) && maybe_well_expression h.mask) a
    (and_from (all (map well_index h.indices)) (maybe_well_expression h.mask) b c)

unmasked_sound : (fs : List Field) (h : Header) → indices_of None fs ≡ Some h → well_fields fs ≡ true → HeaderIs fs h
unmasked_sound fs h q w =
    let s = indices_sound None fs h q in record {
      spelled = with_mask h None s.1.0 ∙ append-nil (commas (map index_text h.indices)) ∙ collected_text indices fs h.indices s.0;
      kept = well_parts h (collected_some indices fs h.indices s.0 s.1.1) (collected_well indices fs h.indices s.0 w)
          (sym (ap maybe_well_expression s.1.0));
    }

masked_sound : (f : Field) (fs : List Field) (x : Expression) (h : Header) → f ≡ expression_field x →
    indices_of (Some x) fs ≡ Some h → well_fields (f ∷ fs) ≡ true → HeaderIs (f ∷ fs) h
masked_sound f fs x h is q w =
    let s = indices_sound (Some x) fs h q in
    let ws = and_parts (well_fields fs) (well_field f) w in record {
      spelled = with_mask h (Some x) s.1.0
          ∙ ap (λ t. t ++ punctuated mark.Comma (expression x)) (collected_text indices fs h.indices s.0)
          ∙ sym (behind_fields fs f (expression x) s.1.1 (ap field_text is ∙ expression_text x));
      kept = well_parts h (collected_some indices fs h.indices s.0 s.1.1) (collected_well indices fs h.indices s.0 ws.0)
          (sym (ap maybe_well_expression s.1.0) ∙ sym (expression_well x) ∙ sym (ap well_field is) ∙ ws.1);
    }

pub header_sound : (fs : List Field) (h : Header) → header_of fs ≡ Some h → well_fields fs ≡ true →
    (inside_text h ≡ fields_text fs) × (well_header h ≡ true)
header_sound [] h q w = absurd (cc)
header_sound (f ∷ fs) h q w =
    let is = by_test
    (λ b. (if b then indices_of None (f ∷ fs) else option_and_then (λ mask. indices_of (Some mask) fs) (expression_of f))
    ≡ Some h → HeaderIs (f ∷ fs) h)
    (has_left f)
    (λ _ q. unmasked_sound (f ∷ fs) h q w)
    (λ _ q. chained (λ mask. indices_of (Some mask) fs) (expression_of f) h q
    (λ x hx q2. masked_sound f fs x h (expression_sound f x hx) q2 w)) q in
    (is.spelled, is.kept)

-- ---- again

indices_by : (mask : Option Expression) (fs : List Field) → some fs ≡ true →
    indices_of mask fs ≡ option_map (header mask) (collected index_of [] fs)
indices_by mask [] h = absurd (cc)
indices_by mask (f ∷ fs) h = refl

last_index : (is : List Index) (i : Index) (d : List Field) →
    header_of (onto (map index_field is) (index_field i ∷ d)) ≡ indices_of None (onto (map index_field is) (index_field i ∷ d))
last_index [] i d = refl
last_index (j ∷ is) i d = last_index is j (index_field i ∷ d)

again_by : (mask : Option Expression) (i : Index) (is : List Index) → all (map well_index (i ∷ is)) ≡ true →
    header_of (masked mask (onto (map index_field (i ∷ is)) [])) ≡ Some (header mask (i ∷ is))
again_by None i is w =
    last_index is i [] ∙ indices_by None (onto (map index_field (i ∷ is)) []) (fields_some indices i is)
    ∙ ap (option_map (header None)) (collected_fields indices (i ∷ is) w)
again_by (Some x) i is w =
    let fs = onto (map index_field (i ∷ is)) [] in
    ap (option_and_then (λ mask. indices_of (Some mask) fs)) (expression_again x)
    ∙ indices_by (Some x) fs (fields_some indices i is)
    ∙ ap (option_map (header (Some x))) (collected_fields indices (i ∷ is) w)

spelled_by : (mask : Option Expression) (i : Index) (is : List Index) →
    fields_text (masked mask (onto (map index_field (i ∷ is)) [])) ≡ inside_text (header mask (i ∷ is))
spelled_by None i is = fields_spelled indices (i ∷ is) ∙ sym (append-nil (commas (map index_text (i ∷ is))))
spelled_by (Some x) i is =
    behind_fields (onto (map index_field (i ∷ is)) []) (expression_field x) (expression x) (fields_some indices i is)
    (expression_text x)
    ∙ ap (λ t. t ++ punctuated mark.Comma (expression x)) (fields_spelled indices (i ∷ is))

well_by : (mask : Option Expression) (is : List Index) → all (map well_index is) ≡ true → maybe_well_expression mask ≡ true →
    well_fields (masked mask (onto (map index_field is) [])) ≡ true
well_by None is w q = fields_well indices is w
well_by (Some x) is w q = and_from (well_fields (onto (map index_field is) [])) (well_field (expression_field x))
    (fields_well indices is w) (expression_well x ∙ q)

some_by : (mask : Option Expression) (i : Index) (is : List Index) → some (masked mask (onto (map index_field (i ∷ is)) [])) ≡ true
some_by None i is = fields_some indices i is
some_by (Some x) i is = refl

pub record HeaderAgain (h : Header) : Type 0 where
  pub again : header_of (header_fields h) ≡ Some h
  pub spelled : fields_text (header_fields h) ≡ inside_text h
  pub kept : well_fields (header_fields h) ≡ true
  pub filled : some (header_fields h) ≡ true

header_by : (mask : Option Expression) (is : List Index) → well_header (header mask is) ≡ true → HeaderAgain (header mask is)
header_by mask [] w = absurd (cc)
header_by mask (i ∷ is) w =
    let ws = and_parts (all (map well_index (i ∷ is))) (maybe_well_expression mask) w in record {
      again = again_by mask i is ws.0;
      spelled = spelled_by mask i is;
      kept = well_by mask (i ∷ is) ws.0 ws.1;
      filled = some_by mask i is;
    }

pub header_again : (h : Header) → well_header h ≡ true → HeaderAgain h
header_again h w = header_by h.mask h.indices w
