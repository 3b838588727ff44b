use Rattle.std.proofs.Common.{arith, inl, refl}
use Rattle.tv_seats.specs.declared.stage.Stage.TheVariants as stage
use Rattle.tv_instances.proofs.Taking.{may-go_out-low, taken, taken-passed}
use Rattle.tv_instances.proofs.open.Open.hand_out.Goals as goal

pub step-step-requires : goal.step-step-requires
step-step-requires c = may-go_out-low c.args.self.now.seats.seats c.args.number c.requires.3

pub pass_quiet-requires : goal.pass_quiet-requires
pass_quiet-requires c =
    let q = c.requires in
    let t =
    taken q.0 c.args.plan.now c.args.pool.now c.args.self.now c.take.new.self q.1 c.args.number
    (stage.Out c.args.activity c.args.attempt) (c.take.ensures.taken q.0 q.1 q.2 q.4) c.take.ensures.seats c.hand_out.new.self
    c.hand_out.ensures.seats c.hand_out.ensures.levels c.take.new.self.turns refl (omega arith) (inl refl) in
    (q.0, c.args.plan.now, c.args.pool.now, t.view, t.is_open)

pub returns-clause-taken : goal.returns-clause-taken
returns-clause-taken c d v io ready =
    let x = stage.Out c.args.activity c.args.attempt in
    taken-passed d c.args.plan.now c.args.pool.now c.args.self.now _ c.pass_quiet.new.self v c.args.number x
    (taken d c.args.plan.now c.args.pool.now c.args.self.now c.take.new.self v c.args.number x
    (c.take.ensures.taken d v io ready) c.take.ensures.seats c.hand_out.new.self c.hand_out.ensures.seats
    c.hand_out.ensures.levels c.take.new.self.turns refl (omega arith) (inl refl))
    (λ w. c.pass_quiet.ensures.open d c.args.plan.now c.args.pool.now w) c.pass_quiet.ensures.seats
