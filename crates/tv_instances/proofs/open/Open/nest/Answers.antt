use Rattle.std.specs.Prelude.{◌≤◌}
use Rattle.std.proofs.Common.{ap, inr, subst, sym, ◌∙◌}
use Rattle.tv_seats.specs.Seats.{Seated, step_at}
use Rattle.tv_seats.specs.declared.stage.Stage.TheVariants as stage
use Rattle.tv_instances.specs.Turns.{turn_of}
use Rattle.tv_instances.proofs.Taking.{may-nest-low, taken, taken-passed}
use Rattle.tv_instances.proofs.open.Open.nest.Goals as goal

pub step-step-requires : goal.step-step-requires
step-step-requires c = may-nest-low c.args.self.now.seats.seats c.args.number c.requires.may.3

pub pass_quiet-requires : goal.pass_quiet-requires
pass_quiet-requires c =
    let q = c.requires.may in
    let u = c.take_in.new.self in
    let t =
    taken q.0 c.args.plan.now c.args.pool.now c.args.self.now c.take.new.self q.1 c.args.number
    (stage.Nested c.args.instance) (c.take.ensures.taken q.0 q.1 q.2 q.4) c.take.ensures.seats c.nest.new.self
    c.nest.ensures.seats c.nest.ensures.levels u c.take_in.ensures.positions c.take_in.ensures.fewer
    (inr
    (subst (λ k. u.from ≤ turn_of c.take.new.self.turns.positions.items k)
    (c.step-step.ensures ∙ ap (λ (s : Seated). step_at s.seats c.args.number) (sym c.take.ensures.seats)) c.take_in.ensures.ahead)) in
    (q.0, c.args.plan.now, c.args.pool.now, t.view, t.is_open)

pub returns-clause-taken : goal.returns-clause-taken
returns-clause-taken c d v io ready =
    let x = stage.Nested c.args.instance in
    let u = c.take_in.new.self in
    taken-passed d c.args.plan.now c.args.pool.now c.args.self.now _ c.pass_quiet.new.self v c.args.number x
    (taken d c.args.plan.now c.args.pool.now c.args.self.now c.take.new.self v c.args.number x
    (c.take.ensures.taken d v io ready) c.take.ensures.seats c.nest.new.self c.nest.ensures.seats c.nest.ensures.levels u
    c.take_in.ensures.positions c.take_in.ensures.fewer
    (inr
    (subst (λ k. u.from ≤ turn_of c.take.new.self.turns.positions.items k)
    (c.step-step.ensures ∙ ap (λ (s : Seated). step_at s.seats c.args.number) (sym c.take.ensures.seats)) c.take_in.ensures.ahead)))
    (λ w. c.pass_quiet.ensures.open d c.args.plan.now c.args.pool.now w) c.pass_quiet.ensures.seats
