use Rattle.std.proofs.Common.{arith}
use Rattle.tv_frame.proofs.ReadyStays.{still-ready}
use Rattle.tv_frame.proofs.Taking.{idle-there, number-below, taken-keeps}
use Rattle.tv_frame.proofs.frame.Frame.take.Goals as goal

pub overflow_cast-number : goal.overflow_cast-number
overflow_cast-number c =
    let r = c.requires.ready in
    let below = number-below r.0 c.args.plan.now c.args.pool.now c.args.self.now r.1 r.3 c.args.number r.2 r.4 in
    let known = c.known-known.ensures.known in
    let few = c.known-known.ensures.few in
    omega (arith, below, known, few)

pub remove-requires : goal.remove-requires
remove-requires c =
    let r = c.requires.ready in
    let s = c.job-step.result in
    idle-there r.0 c.args.plan.now c.args.pool.now c.args.self.now r.1 r.2 c.args.number r.3 r.4 r.5 s.0 s.1.now c.job-step.ensures.job s.2 c.job-step.ensures.faulty

pub returns-clause-kept : goal.returns-clause-kept
returns-clause-kept c = λ flows v j k is ready.
    let s = c.job-step.result in
    taken-keeps flows c.args.plan.now c.args.pool.now c.args.self.now v j c.args.number k is ready s.0 s.1.now c.job-step.ensures.job s.2 c.job-step.ensures.faulty
    c.remove.new.self c.remove.ensures.steps c.remove.ensures.known

pub returns-clause-stays : goal.returns-clause-stays
returns-clause-stays c = λ flows v j n s e h is ready.
    let x = c.job-step.result in
    still-ready flows c.args.plan.now c.args.pool.now c.args.self.now v j c.args.number n s e h is ready x.0 x.1.now c.job-step.ensures.job x.2 c.job-step.ensures.faulty
    c.remove.new.self c.remove.ensures.steps c.remove.ensures.known c.remove.ensures.room
