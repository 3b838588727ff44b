use Rattle.std.proofs.Common.{refl}
use Rattle.tv_instances.proofs.OpenLemmas.{still-open}
use Rattle.tv_instances.proofs.Settling.{at-some, ready-settle}
use Rattle.tv_instances.proofs.open.Open.room_for_settle.Goals as goal

pub returns-in_err-more-clause-same : goal.returns-in_err-more-clause-same
returns-in_err-more-clause-same c d v io =
    still-open d c.args.plan.now c.args.pool.now c.args.self.now v io c.room_for_settle.new.pool _
    (c.room_for_settle.ensures.same d.flows v io.keeps) refl refl refl refl

pub last_level-requires : goal.last_level-requires
last_level-requires c =
    let q = c.requires in
    let r = at-some _ c.in_ok-more.field-0 c.in-Some.more c.in-Some.is c.in_ok-more.ensures.some q.0.flows q.1 q.2.keeps in
    record { ready = (q.0.flows, c.args.plan.now, c.room_for_settle.new.pool, q.1, r.0, r.1, r.2, r.3) }

pub returns-in_err-level-in-Some-clause-same : goal.returns-in_err-level-in-Some-clause-same
returns-in_err-level-in-Some-clause-same c d v io =
    still-open d c.args.plan.now c.args.pool.now c.args.self.now v io c.room_for_settle.new.pool _
    (c.room_for_settle.ensures.same d.flows v io.keeps) refl refl refl refl

pub returns-in_err-set_next-in-Some-clause-same : goal.returns-in_err-set_next-in-Some-clause-same
returns-in_err-set_next-in-Some-clause-same c d v io =
    still-open d c.args.plan.now c.args.pool.now c.args.self.now v io c.room_for_settle.new.pool _
    (c.room_for_settle.ensures.same d.flows v io.keeps) refl refl refl c.set_next.ensures.settled

pub returns-in_err-reserve-in-Some-clause-same : goal.returns-in_err-reserve-in-Some-clause-same
returns-in_err-reserve-in-Some-clause-same c d v io =
    still-open d c.args.plan.now c.args.pool.now c.args.self.now v io c.room_for_settle.new.pool _
    (c.room_for_settle.ensures.same d.flows v io.keeps) c.reserve.ensures.seats c.reserve.ensures.levels refl c.set_next.ensures.settled

pub returns-in_ok-reserve-in-Some-clause-same : goal.returns-in_ok-reserve-in-Some-clause-same
returns-in_ok-reserve-in-Some-clause-same c d v io =
    still-open d c.args.plan.now c.args.pool.now c.args.self.now v io c.room_for_settle.new.pool _
    (c.room_for_settle.ensures.same d.flows v io.keeps) c.reserve.ensures.seats c.reserve.ensures.levels refl c.set_next.ensures.settled

pub returns-in_ok-reserve-in-Some-clause-some : goal.returns-in_ok-reserve-in-Some-clause-some
returns-in_ok-reserve-in-Some-clause-some c d v io =
    ready-settle d c.args.plan.now c.args.pool.now c.args.self.now v io c.room_for_settle.new.pool _
    c.room_for_settle.ensures.same c.reserve.ensures.seats c.reserve.ensures.levels refl c.set_next.ensures.settled
    c.in-Some.more c.in_ok-reserve-in-Some.ensures.ok
    (at-some _ c.in_ok-more.field-0 c.in-Some.more c.in-Some.is c.in_ok-more.ensures.some d.flows v io.keeps)
    _ c.in_ok-set_next-in-Some.ensures.next
    (λ n s e ready. c.in_ok-level-in-Some.ensures d.flows c.args.plan.now c.room_for_settle.new.pool v n s e ready)

pub returns-in-None-clause-same : goal.returns-in-None-clause-same
returns-in-None-clause-same c d v io =
    still-open d c.args.plan.now c.args.pool.now c.args.self.now v io c.room_for_settle.new.pool _
    (c.room_for_settle.ensures.same d.flows v io.keeps) refl refl refl refl
