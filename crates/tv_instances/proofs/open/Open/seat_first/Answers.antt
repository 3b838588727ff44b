use Rattle.std.proofs.Common.{ap, arith, length, subst, sym, ◌<◌, ◌∙◌, slice_get}
use Rattle.tv_frame.specs.turns.FirstReady.{by_falling_rank}
use Rattle.tv_instances.specs.Turns.{AreTurns}
use Rattle.tv_instances.proofs.Order.{planned-low}
use Rattle.tv_instances.proofs.Starting.{first-can, first-kept, starts-open}
use Rattle.tv_instances.proofs.open.Open.seat_first.Goals as goal

pub start-requires : goal.start-requires
start-requires c i k e =
    let q = c.requires.starts in
    let same = c.order.ensures q.0.flows c.args.plan.now q.2 q.3.0 q.3.3 in
    subst (λ l. k < length l) (sym c.as_slice-steps.ensures)
    (planned-low q.0.flows c.args.plan.now q.2 c.args.self.now.frame q.3.0 q.3.3 i k (ap (λ l. slice_get l i) (sym same) ∙ e))

pub seat_new-requires-clause-keeps : goal.seat_new-requires-clause-keeps
seat_new-requires-clause-keeps c =
    let q = c.requires.starts in
    first-kept q.0 c.args.plan.now q.1 q.2 c.args.self.now.frame q.3 c.reserve.new.self
    (c.reserve.ensures.seats ∙ c.requires.empty) (c.reserve.ensures.levels ∙ c.requires.levels)

pub seat_new-requires-clause-can : goal.seat_new-requires-clause-can
seat_new-requires-clause-can c =
    let q = c.requires.starts in
    first-can q.0 c.args.plan.now q.1 q.2 c.args.self.now.frame q.3 c.reserve.new.self
    (c.reserve.ensures.seats ∙ c.requires.empty) (c.reserve.ensures.levels ∙ c.requires.levels)
    (let a = c.in_ok-reserve.ensures.ok in let b = c.known.ensures in omega (arith, a, b))

pub returns-clause-ok : goal.returns-clause-ok
returns-clause-ok c d values pool st =
    starts-open d c.args.plan.now values pool c.args.self.now.frame st c.reserve.new.self
    (c.reserve.ensures.seats ∙ c.requires.empty) (c.reserve.ensures.levels ∙ c.requires.levels)
    (let a = c.in_ok-reserve.ensures.ok in let b = c.known.ensures in omega (arith, a, b)) c.seat_new.new.seats
    c.seat_new.ensures.all c.start.new.self c.seat_new.new.turns
    (subst (λ o. AreTurns o c.start.new.self.positions.items) (c.order.ensures d.flows c.args.plan.now pool st.0 st.3 ∙ ap by_falling_rank st.3.flow_is) c.in_ok-start.ensures.turns)
    c.in_ok-start.ensures.none
    c.seat_new.ensures.turns c.args.self.now.levels c.requires.none
