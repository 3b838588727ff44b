use Rattle.tv_instances.proofs.Settling.{settled-can, settled-kept, settled-told}
use Rattle.tv_instances.proofs.open.Open.settle.Goals as goal

pub settle-settled-requires : goal.settle-settled-requires
settle-settled-requires c = let q = c.requires in record { ready = (q.0.flows, q.1, q.4.number, q.4.step, q.2, q.4.ready) }

pub seat_new-requires-clause-keeps : goal.seat_new-requires-clause-keeps
seat_new-requires-clause-keeps c =
    let q = c.requires in
    settled-kept q.0 c.args.plan.now c.args.pool.now c.args.self.now q.1 q.2 q.3 q.4 c.settle-settled.new.pool
    c.settle-settled.new.self c.settle-settled.result
    (c.settle-settled.ensures.goes_on q.0.flows q.1 q.4.number q.4.step q.2 q.4.ready)

pub seat_new-requires-clause-can : goal.seat_new-requires-clause-can
seat_new-requires-clause-can c =
    let q = c.requires in
    settled-can q.0 c.args.plan.now c.args.pool.now c.args.self.now q.1 q.2 q.3 q.4 c.settle-settled.new.pool
    c.settle-settled.new.self c.settle-settled.result
    (c.settle-settled.ensures.goes_on q.0.flows q.1 q.4.number q.4.step q.2 q.4.ready)

pub returns-clause-told : goal.returns-clause-told
returns-clause-told c d v e more r =
    settled-told d c.args.plan.now c.args.pool.now c.args.self.now v e more r c.settle-settled.new.pool
    c.settle-settled.new.self c.settle-settled.result (c.settle-settled.ensures.goes_on d.flows v r.number r.step e r.ready)
    c.seat_new.new.seats c.seat_new.ensures.all c.seat_new.new.turns c.seat_new.ensures.turns c.settle.new.self c.settle.ensures
