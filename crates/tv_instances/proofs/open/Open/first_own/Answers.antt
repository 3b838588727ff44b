use Rattle.std.proofs.Common.{false, true, subst, sym}
use Rattle.tv_flow.specs.Views.{flow_view}
use Rattle.tv_instances.specs.Firsts.{CanBegin, GoesOnAt, IsFirstOwn, asides, step_limit}
use Rattle.tv_instances.proofs.FirstSeats.{first-known, own-first}
use Rattle.tv_instances.proofs.open.Open.first_own.Goals as goal

pub returns-then-not-begins : goal.returns-then-not-begins
returns-then-not-begins c d v io =
    let limit = step_limit (flow_view c.args.plan.now.flow) c.args.step in
    subst (λ b. IsFirstOwn v c.args.self.now.seats.seats limit (asides c.args.seeking) b c.args.step c.first_begun-begun.result)
    (sym c.if-not-begins.true) (c.first_begun-begun.ensures v limit)

pub lesser-requires-clause-first : goal.lesser-requires-clause-first
lesser-requires-clause-first c =
    let q = c.requires in
    let ss = c.args.self.now.seats.seats in
    let limit = step_limit (flow_view c.args.plan.now.flow) c.args.step in
    first-known ss c.args.step (GoesOnAt q.1 ss limit (asides c.args.seeking) false) c.first_begun-begun.result
    (c.first_begun-begun.ensures q.1 limit)

pub lesser-requires-clause-second : goal.lesser-requires-clause-second
lesser-requires-clause-second c =
    let q = c.requires in
    let ss = c.args.self.now.seats.seats in
    let limit = step_limit (flow_view c.args.plan.now.flow) c.args.step in
    first-known ss c.args.step (CanBegin q.1 ss limit) c.first_to_begin.result (c.first_to_begin.ensures q.0 q.1 q.2)

pub returns : goal.returns
returns c d v io =
    let ss = c.args.self.now.seats.seats in
    let k = c.args.step in
    let limit = step_limit (flow_view c.args.plan.now.flow) k in
    let a = asides c.args.seeking in
    subst (λ b. IsFirstOwn v ss limit a b k c.lesser.result) (sym c.if-not-begins.false)
    (subst (IsFirstOwn v ss limit a true k) (sym c.lesser.ensures)
    (own-first ss k v limit a c.first_begun-begun.result c.first_to_begin.result (c.first_begun-begun.ensures v limit)
    (c.first_to_begin.ensures d v io)))
