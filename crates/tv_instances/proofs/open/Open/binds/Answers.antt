use Rattle.tv_forest.specs.seats.Seated.{spot_of}
use Rattle.tv_instances.proofs.OpenLemmas.{numbered-at}
use Rattle.tv_instances.proofs.open.Open.binds.Goals as goal

pub returns-clause-same : goal.returns-clause-same
returns-clause-same c is d v s io there =
    c.binds.ensures.same is d.flows v (spot_of v.flow.steps s) io.keeps
    (numbered-at d c.args.plan.now c.args.pool.now c.args.self.now v io c.args.number s there)

pub returns-clause-other : goal.returns-clause-other
returns-clause-other c is d v s io there vs =
    c.binds.ensures.other is d.flows v (spot_of v.flow.steps s) io.keeps
    (numbered-at d c.args.plan.now c.args.pool.now c.args.self.now v io c.args.number s there) vs
