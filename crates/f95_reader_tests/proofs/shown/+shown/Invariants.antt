use Rattle.f95_reader_tests.proofs.shown.+shown.Given as goal

abbrev pub decreases-put : goal.decreases-put
decreases-put l = goal.size-put l

abbrev pub decreases-put_item : goal.decreases-put_item
decreases-put_item l = goal.size-put_item l

abbrev pub decreases-put_reference : goal.decreases-put_reference
decreases-put_reference l = goal.size-put_reference l

abbrev pub decreases-put_value : goal.decreases-put_value
decreases-put_value l = goal.size-put_value l
