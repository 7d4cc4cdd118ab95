-- WHERE and FORALL. Each row holds by computation.
use Rattle.std.proofs.Common.{refl}
use Rattle.array_meaning.proofs.Running.{running}
use Rattle.array_meaning_rows.specs.MasksTwo.{nested_where_with_elsewhere, index_keeps_to_forall, forall_section}
use Rattle.array_meaning_rows.specs.MasksTwo.{forall_strides_in_order, NestedWhereWithElsewhere, IndexKeepsToForall, ForallSection}
use Rattle.array_meaning_rows.specs.MasksTwo.{ForallStridesInOrder}

pub nested_where_with_elsewhere_row : NestedWhereWithElsewhere
unfolding running nested_where_with_elsewhere
nested_where_with_elsewhere_row = record { is = refl }

pub index_keeps_to_forall_row : IndexKeepsToForall
unfolding running index_keeps_to_forall
index_keeps_to_forall_row = record { is = refl }

pub forall_section_row : ForallSection
unfolding running forall_section
forall_section_row = record { is = refl }

pub forall_strides_in_order_row : ForallStridesInOrder
unfolding running forall_strides_in_order
forall_strides_in_order_row = record { is = refl }
