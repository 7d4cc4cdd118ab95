use Rattle.std.specs.Prelude.{IsTrue}
use Rattle.store_laws.proofs.MaskLaws.{still_mask, quiet_mask}
use Rattle.store_laws.proofs.mask.mask_in_nest.Goals as goal

pub returns-clause-still : goal.returns-clause-still
returns-clause-still g c = λ mask statement sound turns s mask_still still alike is. still_mask mask statement
    (λ x. IsTrue (sound x)) turns s mask_still still alike is

pub returns-clause-quiet : goal.returns-clause-quiet
returns-clause-quiet g c = λ mask statement sound may turns s keeps quiet leaves is. quiet_mask mask statement
    (λ x. IsTrue (sound x)) (λ t v. IsTrue (may t v)) turns s keeps quiet leaves is
