use Rattle.std.proofs.Common.{sym, subst}
use Rattle.loop_tree.specs.Body.{Body, Stands}
use Rattle.loop_tree.proofs.Bodies.{pushed}
use Rattle.loop_tree.proofs.code.Code.push.Goals as goal

pub invariant_of-self : goal.invariant_of-self
invariant_of-self c =
    let body : Body = record { statements = c.self.inside.statements; room = c.self.inside.room; in_loop = c.self.inside.in_loop }
    in
    pushed c.push.result body c.args.statement c.push.new.self c.self.invariant
    (subst (λ (b : Body). Stands b c.args.statement) (sym c.self.view_is) c.requires) c.push.ensures.ok c.push.ensures.err
