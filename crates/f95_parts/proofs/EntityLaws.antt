-- Entities: spelled as the fields that they are taken from, and taken again.
use Rattle.std.proofs.Common.{◌≡◌, Bool, true, ◌&&◌, List, [], ◌∷◌, ◌++◌, map, Option, Some, None, sym, ◌∙◌, ap, refl}
use Rattle.std.proofs.Common.{append_assoc, append-nil}
use Rattle.std.specs.Prelude.{option_map, option_and_then}
use Rattle.std.proofs.Math.Bool.{and-true}
use Rattle.std.proofs.lemmas.Bool.{and_parts, and_from}
use Rattle.f95_tree.specs.declared.expression.Expression.{Expression}
use Rattle.f95_tree.specs.declared.expression.Expression.TheVariants as e
use Rattle.f95_tree.specs.declared.expression.Reference.{Reference}
use Rattle.f95_tree.specs.declared.expression.Reference.TheVariants as r
use Rattle.f95_tree.specs.declared.expression.Value.TheVariants as v
use Rattle.f95_tree.specs.declared.declaration.Dim.{Dim}
use Rattle.f95_tree.specs.declared.declaration.Entity.{Entity}
use Rattle.f95_tree.specs.declared.terminal.Terminal.TheVariants as terminal
use Rattle.f95_tree.specs.declared.terminal.Punctuation.TheVariants as mark
use Rattle.f95_tree.specs.Spelling.{punctuated, reference, value}
use Rattle.f95_tree.specs.Grades.{Grade, all, some, well_reference, well_value}
use Rattle.f95_tree.specs.Forms.{Word, maybe_dims, entity_text}
use Rattle.f95_tree.specs.WellFormed.{well_dim, maybe_well_dims, maybe_well_expression, well_entity}
use Rattle.f95_tree.proofs.Nodes.{expression-Reference, reference-Whole, reference-Items, value-One, grade-Reference}
use Rattle.f95_tree.proofs.Nodes.{well_reference-Whole, well_reference-Items, well_value-One}
use Rattle.f95_tree.proofs.Views.{seen-Whole, seen-Items, seen-Substring}
use Rattle.f95_tree.proofs.Induction.{reference_cases}
use Rattle.f95_expressions.specs.declared.pending.Field.{Field}
use Rattle.f95_expressions.specs.declared.pending.Spread.{Spread}
use Rattle.f95_expressions.specs.declared.pending.Spread.TheVariants as spread
use Rattle.f95_expressions.specs.Fields.{field_text, well_field}
use Rattle.f95_expressions.specs.Machine.{field}
use Rattle.f95_expressions.proofs.Read.{mapped, chained}
use Rattle.f95_parts.specs.Parts.{as_reference, spread_expression, dims_of, entity, entity_in, entity_named, entity_from, entity_of}
use Rattle.f95_parts.proofs.PartLaws.{lone_again, as_reference_sound, as_reference_again, reference_field, reference_text}
use Rattle.f95_parts.proofs.PartLaws.{reference_well, spread_sound}
use Rattle.f95_parts.proofs.BoundLaws.{dim_item, dims_sound, dims_again, dims_spelled, dims_well}

abbrev pub entity_reference : Word → Option (List Dim) → Reference
entity_reference n None = r.Whole n
entity_reference n (Some ds) = r.Items n (map dim_item ds)

abbrev pub named_field : Option Expression → Reference → Field
named_field None x = reference_field x
named_field (Some initial) x = field (Some (e.Reference x)) (spread.One (v.One initial))

abbrev pub entity_field : Entity → Field
entity_field a = named_field a.initial (entity_reference a.name a.dims)

-- no brackets without dimensions
abbrev some_dims : Option (List Dim) → Bool
some_dims None = true
some_dims (Some ds) = some ds

abbrev all_dims : Option (List Dim) → Bool
all_dims None = true
all_dims (Some ds) = all (map well_dim ds)

dims_joined : (ds : Option (List Dim)) → some_dims ds ≡ true → all_dims ds ≡ true → maybe_well_dims ds ≡ true
dims_joined None h q = refl
dims_joined (Some ds) h q = and_from (some ds) (all (map well_dim ds)) h q

dims_parted : (ds : Option (List Dim)) → maybe_well_dims ds ≡ true → (some_dims ds ≡ true) × (all_dims ds ≡ true)
dims_parted None h = (refl, refl)
dims_parted (Some ds) h = and_parts (some ds) (all (map well_dim ds)) h

abbrev of_entity : Entity → Reference
of_entity a = entity_reference a.name a.dims

abbrev NamedSound : Reference → Type 0
NamedSound x = (initial : Option Expression) (a : Entity) → entity_named initial x ≡ Some a →
    (x ≡ of_entity a) × ((initial ≡ a.initial) × (some_dims a.dims ≡ true))

named_sound : (x : Reference) → NamedSound x
named_sound = reference_cases NamedSound
    (λ n i a h. let q = sym (ap (entity_in i) (seen-Whole n)) ∙ h in let is : entity n None i ≡ a = cc in
    (ap of_entity is, (ap (λ (a : Entity). a.initial) is, sym (ap (λ (a : Entity). some_dims a.dims) is))))
    (λ n xs i a h. mapped (λ dims. entity n (Some dims) i) (dims_of xs) a (sym (ap (entity_in i) (seen-Items n xs)) ∙ h)
    (λ ds hd is.
    let d = dims_sound xs ds hd in (
      ap (r.Items n) d.0 ∙ ap of_entity is,
      (ap (λ (a : Entity). a.initial) is, sym (ap (λ (a : Entity). some_dims a.dims) is) ∙ d.1),
    )))
    (λ n xs b c i a h. let q = sym (ap (entity_in i) (seen-Substring n xs b c)) ∙ h in absurd (cc))

sound_from : (left : Option Expression) (s : Spread) (a : Entity) → entity_from left s ≡ Some a →
    (field left s ≡ entity_field a) × (some_dims a.dims ≡ true)
sound_from None s a h = chained (λ x. option_and_then (entity_named None) (as_reference x)) (spread_expression s) a h (λ x hx h2.
    chained (entity_named None) (as_reference x) a h2 (λ y hy h3.
    let n = named_sound y None a h3 in (
      ap (field None) (spread_sound s x hx) ∙ ap (λ x. field None (spread.One (v.One x))) (as_reference_sound x y hy)
          ∙ ap reference_field n.0 ∙ ap (λ i. named_field i (of_entity a)) n.1.0,
      n.1.1,
    )))
sound_from (Some left) s a h = chained (λ i. option_and_then (entity_named (Some i)) (as_reference left)) (spread_expression s) a h
    (λ i hi h2.
    chained (entity_named (Some i)) (as_reference left) a h2 (λ y hy h3.
    let n = named_sound y (Some i) a h3 in (
      ap (λ l. field (Some l) s) (as_reference_sound left y hy) ∙ ap (field (Some (e.Reference y))) (spread_sound s i hi)
          ∙ ap (named_field (Some i)) n.0 ∙ ap (λ i. named_field i (of_entity a)) n.1.0,
      n.1.1,
    )))

pub entity_sound : (f : Field) (a : Entity) → entity_of f ≡ Some a → (f ≡ entity_field a) × (some_dims a.dims ≡ true)
entity_sound f a h = sound_from f.left f.spread a h

named_again : (i : Option Expression) (n : Word) (ds : Option (List Dim)) → some_dims ds ≡ true →
    entity_named i (entity_reference n ds) ≡ Some (entity n ds i)
named_again i n None h = ap (entity_in i) (seen-Whole n)
named_again i n (Some ds) h = ap (entity_in i) (seen-Items n (map dim_item ds))
    ∙ ap (option_map (λ dims. entity n (Some dims) i)) (dims_again ds h)

again_by : (i : Option Expression) (n : Word) (ds : Option (List Dim)) → some_dims ds ≡ true →
    entity_of (named_field i (entity_reference n ds)) ≡ Some (entity n ds i)
again_by None n ds h =
    let x = entity_reference n ds in
    ap (option_and_then (λ x. option_and_then (entity_named None) (as_reference x))) (lone_again (e.Reference x))
    ∙ ap (option_and_then (entity_named None)) (as_reference_again x) ∙ named_again None n ds h
again_by (Some i) n ds h =
    let x = entity_reference n ds in
    ap (option_and_then (λ i. option_and_then (entity_named (Some i)) (as_reference (e.Reference x)))) (lone_again i)
    ∙ ap (option_and_then (entity_named (Some i))) (as_reference_again x) ∙ named_again (Some i) n ds h

pub entity_again : (a : Entity) → maybe_well_dims a.dims ≡ true → entity_of (entity_field a) ≡ Some a
entity_again a h = again_by a.initial a.name a.dims (dims_parted a.dims h).0

reference_spelled : (n : Word) (ds : Option (List Dim)) → reference (entity_reference n ds) ≡ terminal.Name n ∷ maybe_dims ds
reference_spelled n None = reference-Whole n
reference_spelled n (Some ds) = reference-Items n (map dim_item ds) ∙ ap (λ t. terminal.Name n ∷ t) (dims_spelled ds)

spelled_by : (i : Option Expression) (n : Word) (ds : Option (List Dim)) →
    field_text (named_field i (entity_reference n ds)) ≡ entity_text (entity n ds i)
spelled_by None n ds = reference_text (entity_reference n ds) ∙ reference_spelled n ds
    ∙ ap (λ t. terminal.Name n ∷ t) (sym (append-nil (maybe_dims ds)))
spelled_by (Some i) n ds =
    ap (λ t. (t ++ punctuated mark.Assign []) ++ value (v.One i))
    (expression-Reference (entity_reference n ds) ∙ reference_spelled n ds)
    ∙ append_assoc (terminal.Name n ∷ maybe_dims ds) (punctuated mark.Assign []) (value (v.One i))
    ∙ ap (λ t. terminal.Name n ∷ (maybe_dims ds ++ punctuated mark.Assign t)) (value-One i)

pub entity_spelled : (a : Entity) → field_text (entity_field a) ≡ entity_text a
entity_spelled a = spelled_by a.initial a.name a.dims

reference_wells : (n : Word) (ds : Option (List Dim)) → well_reference (entity_reference n ds) ≡ all_dims ds
reference_wells n None = well_reference-Whole n
reference_wells n (Some ds) = well_reference-Items n (map dim_item ds) ∙ dims_well ds

well_by : (i : Option Expression) (n : Word) (ds : Option (List Dim)) →
    well_field (named_field i (entity_reference n ds)) ≡ (all_dims ds && maybe_well_expression i)
well_by None n ds = reference_well (entity_reference n ds) ∙ reference_wells n ds ∙ sym (and-true (all_dims ds))
well_by (Some i) n ds =
    ap (λ b. b && well_value (v.One i)) (ap (λ (g : Grade). g.1) (grade-Reference (entity_reference n ds)) ∙ reference_wells n ds)
    ∙ ap (λ b. all_dims ds && b) (well_value-One i)

pub entity_meets : (f : Field) (a : Entity) → entity_of f ≡ Some a → well_field f ≡ true → well_entity a ≡ true
entity_meets f a h q =
    let s = entity_sound f a h in
    let ws = and_parts (all_dims a.dims) (maybe_well_expression a.initial)
    (sym (well_by a.initial a.name a.dims) ∙ sym (ap well_field s.0) ∙ q) in
    and_from (maybe_well_dims a.dims) (maybe_well_expression a.initial) (dims_joined a.dims s.1 ws.0) ws.1

pub entity_kept : (a : Entity) → well_entity a ≡ true → well_field (entity_field a) ≡ true
entity_kept a h =
    let ws = and_parts (maybe_well_dims a.dims) (maybe_well_expression a.initial) h in
    well_by a.initial a.name a.dims ∙ and_from (all_dims a.dims) (maybe_well_expression a.initial) (dims_parted a.dims ws.0).1 ws.1
