use Rattle.tv_frame.proofs.Ready.{order-there, sound-there, steps-there}
use Rattle.tv_frame.proofs.frame.Frame.first_in_turn.Goals as goal

pub first_ready-requires-clause-sound : goal.first_ready-requires-clause-sound
first_ready-requires-clause-sound c = sound-there c.requires.0 c.args.plan.now c.args.pool.now c.args.self.now c.requires.1 c.requires.2

pub first_ready-requires-clause-steps : goal.first_ready-requires-clause-steps
first_ready-requires-clause-steps c = steps-there c.requires.0 c.args.plan.now c.args.pool.now c.args.self.now c.requires.1 c.requires.2

pub first_ready-requires-clause-order : goal.first_ready-requires-clause-order
first_ready-requires-clause-order c =
    order-there c.requires.0 c.args.plan.now c.args.pool.now c.args.self.now c.requires.1 c.requires.2 c.order-order.result.now c.order-order.ensures
