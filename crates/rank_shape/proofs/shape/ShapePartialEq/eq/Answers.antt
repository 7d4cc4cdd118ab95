use Rattle.std.proofs.Common.{◌≡◌, sym, ap, ◌∙◌, map, pos, int_eq}
use lib.Pointwise.{pointwise}
use Rattle.rank_shape.specs.Fields.{pos_naturals}
use Rattle.rank_shape.proofs.shape.ShapePartialEq.eq.Goals as goal

pub returns : goal.returns
returns g c =
    let self_is : c.t1-1.inside.extents ≡ map pos c.args.self.now = sym (pos_naturals c.t1-1.inside.extents c.t1-1.invariant.0)
    ∙ ap (map pos) c.t1-1.view_is in
    let other_is : c.t2-1.inside.extents ≡ map pos c.args.other.now = sym (pos_naturals c.t2-1.inside.extents c.t2-1.invariant.0)
    ∙ ap (map pos) c.t2-1.view_is in
    c.eq.ensures ∙ ap (λ xs. pointwise int_eq xs c.t2-1.inside.extents) self_is
    ∙ ap (λ xs. pointwise int_eq (map pos c.args.self.now) xs) other_is
