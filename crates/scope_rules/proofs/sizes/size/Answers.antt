use Rattle.std.proofs.Common.{◌≡◌, ◌∷◌, ◌+◌, Some, suc, drop, drop-cons, map, sym, ap, subst, ◌∙◌, arith, rules}
use Rattle.f95_tree.specs.declared.declaration.Dim.{Dim}
use Rattle.names_types.specs.Rules.{constant_size, constant_extent, times}
use Rattle.names_types.specs.View.{dim_of}
use Rattle.known_scopes.specs.View.{senses_of}
use Rattle.scope_rules.proofs.Caps.{Product, product_step}
use Rattle.scope_rules.proofs.sizes.size.Goals as goal

pub loop-dim-preserved : goal.loop-dim-preserved
loop-dim-preserved c =
    let i = c.loop-dim.dim-index in
    let all = c.args.dims.now in
    let one = c.dim-item.result in
    let sense = senses_of c.args.senses.now in
    let rest = constant_size sense (map dim_of (drop (i + 1) all)) in
    let whole = constant_size sense (map dim_of all) in
    let next : suc i ≡ i + 1 = omega arith in
    let split : drop i all ≡ one ∷ drop (i + 1) all =
    drop-cons all i one (omega arith) ∙ (ap (λ (b : Dim). b ∷ drop (suc i) all) (sym c.dim-item.is)
    ∙ ap (λ n. one ∷ drop n all) next) in
    let extent : constant_extent sense (dim_of one) ≡ Some c.in-Some.extent = search rules in
    let left : constant_size sense (map dim_of (drop i all)) ≡ times (Some c.in-Some.extent) rest =
    ap (λ xs. constant_size sense (map dim_of xs)) split ∙ ap (λ e. times e rest) extent in
    product_step c.loop-dim.known c.in-Some.extent c.capped_product-known.result rest whole
    (subst (λ s. Product c.loop-dim.known s whole) left c.loop-dim.invariant) c.capped_product-known.ensures
