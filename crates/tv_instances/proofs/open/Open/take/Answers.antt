use Rattle.tv_forest.specs.seats.Seated.{spot_of}
use Rattle.tv_instances.proofs.OpenLemmas.{numbered-at}
use Rattle.tv_instances.proofs.Seats.{waits-at}
use Rattle.tv_instances.proofs.Taking.{told-waiting}
use Rattle.tv_instances.proofs.open.Open.take.Goals as goal

pub take-requires : goal.take-requires
take-requires c =
    let o = c.args.self.now in
    let q = c.requires in
    let w = waits-at o.seats.seats c.args.number c.stage.result c.stage.ensures c.waits.result c.waits.ensures c.if-waits.true in
    record {
      ready = (
        q.0.flows,
        q.1,
        spot_of q.1.flow.steps w.0,
        q.2.keeps,
        numbered-at q.0 c.args.plan.now c.args.pool.now o q.1 q.2 c.args.number w.0 w.1,
        q.3 w.0 w.1 w.2,
      );
    }

pub returns-then-waits-clause-taken : goal.returns-then-waits-clause-taken
returns-then-waits-clause-taken c d v io ready =
    let o = c.args.self.now in
    let plan = c.args.plan.now in
    let pool = c.args.pool.now in
    let w = waits-at o.seats.seats c.args.number c.stage.result c.stage.ensures c.waits.result c.waits.ensures c.if-waits.true in
    told-waiting d plan pool o v io c.args.number w.0 w.1 w.2 c.take.new.self
    (c.take.ensures.kept d.flows v (spot_of v.flow.steps w.0) io.keeps
    (numbered-at d plan pool o v io c.args.number w.0 w.1) (ready w.0 w.1 w.2))
