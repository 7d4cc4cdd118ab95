use Rattle.std.proofs.Common.{List, ◌++◌, ◌∷◌, [], ℤ, subst, sym, ap, ◌∙◌, of_z, w32}
use Rattle.std.proofs.lemmas.Int.{to_z-of_z}
use Rattle.a95_base.proofs.Integers.{fits_integer}
use Rattle.section_algebra.specs.Form.{Term}
use Rattle.section_algebra.specs.Merging.{Grows}
use Rattle.section_algebra.proofs.Forms.{grows}
use Rattle.section_algebra.proofs.linear_form.put.Goals as goal

pub returns : goal.returns
returns c =
    let P : List Term → Type 0 = Grows c.args.terms.now.items c.args.atom.0 c.args.factor in
    let push : ℤ → List Term = λ factor. c.args.terms.now.items ++ (c.args.atom, factor) ∷ [] in
    subst P (sym (c.in_ok-push.ensures.items ∙ ap push (to_z-of_z w32 c.args.factor c.ranges.factor)))
    (grows c.args.terms.now.items (c.args.atom, c.args.factor) c.requires.sum c.requires.lesser
    (fits_integer c.args.factor c.ranges.factor) (λ e. c.if-factor-eq0.false (ap (of_z w32) e)))
