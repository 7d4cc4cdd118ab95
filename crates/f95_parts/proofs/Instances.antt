-- Each kind of part by its fields, for the laws of lists.
use Rattle.std.proofs.Common.{◌≡◌, Bool, true, List, [], ◌∷◌, map, sym, ◌∙◌, ap, refl}
use Rattle.std.proofs.lemmas.Bool.{and_parts, and_from}
use Rattle.f95_tree.specs.declared.action.Argument.{Argument}
use Rattle.f95_tree.specs.Spelling.{expression, reference}
use Rattle.f95_tree.specs.Grades.{all, some, well, well_reference}
use Rattle.f95_tree.specs.Forms.{Word, named, argument_text, allocation_text, entity_text, range_text, index_text}
use Rattle.f95_tree.specs.WellFormed.{well_bound, well_allocation, well_entity, well_range, well_index}
use Rattle.f95_expressions.specs.Machine.{expression_of}
use Rattle.f95_expressions.specs.Fields.{well_field}
use Rattle.f95_expressions.proofs.Fields.{expression_field}
use Rattle.f95_expressions.proofs.Read.{expression_sound}
use Rattle.f95_parts.specs.Parts.{reference_of, name_of, argument_of, allocation_of, entity_of, range_of, index_of}
use Rattle.f95_parts.proofs.PartLaws as part
use Rattle.f95_parts.proofs.BoundLaws as bounds
use Rattle.f95_parts.proofs.FieldLaws as fields
use Rattle.f95_parts.proofs.EntityLaws as entities
use Rattle.f95_parts.proofs.ListLaws.{Parts, parts_of}

pub expressions : Parts expression_of expression_field expression well
expressions = parts_of expression_of expression_field expression well expression_sound part.expression_again part.expression_text
    part.expression_well refl

pub references : Parts reference_of part.reference_field reference well_reference
references = parts_of reference_of part.reference_field reference well_reference part.reference_sound part.reference_again
    part.reference_text part.reference_well refl

abbrev pub always : Word → Bool
always n = true

pub names : Parts name_of part.name_field named always
names = parts_of name_of part.name_field named always part.name_sound part.name_again part.name_text part.name_well refl

-- names are always well formed
pub all_names : (ns : List Word) → all (map always ns) ≡ true
all_names [] = refl
all_names (n ∷ ns) = all_names ns

abbrev pub well_argument : Argument → Bool
well_argument a = well a.value

pub arguments : Parts argument_of fields.argument_field argument_text well_argument
arguments = parts_of argument_of fields.argument_field argument_text well_argument
    fields.argument_sound fields.argument_again fields.argument_spelled fields.argument_well refl

pub ranges : Parts range_of fields.range_field range_text well_range
ranges = parts_of range_of fields.range_field range_text well_range fields.range_sound fields.range_again fields.range_spelled
    fields.range_well refl

pub indices : Parts index_of fields.index_field index_text well_index
indices = parts_of index_of fields.index_field index_text well_index fields.index_sound fields.index_again fields.index_spelled
    fields.index_well refl

pub allocations : Parts allocation_of bounds.allocation_field allocation_text well_allocation
allocations = record {
  sound = λ f a h. (bounds.allocation_sound f a h).0;
  meets = λ f a h q. let s = bounds.allocation_sound f a h in
      and_from (some a.bounds) (all (map well_bound a.bounds)) s.1 (sym (bounds.allocation_well a) ∙ sym (ap well_field s.0) ∙ q);
  again = λ a h. bounds.allocation_again a (and_parts (some a.bounds) (all (map well_bound a.bounds)) h).0;
  spelled = bounds.allocation_spelled;
  kept = λ a h. bounds.allocation_well a ∙ (and_parts (some a.bounds) (all (map well_bound a.bounds)) h).1;
  never = refl;
}

pub entity_parts : Parts entity_of entities.entity_field entity_text well_entity
entity_parts = record {
  sound = λ f a h. (entities.entity_sound f a h).0;
  meets = entities.entity_meets;
  again = λ a h. entities.entity_again a (and_parts _ _ h).0;
  spelled = entities.entity_spelled;
  kept = entities.entity_kept;
  never = refl;
}
