use Rattle.std.proofs.Common.{refl}
use Rattle.tv_frame.proofs.Hold.{held-where_ok}
use Rattle.tv_frame.proofs.HoldAround.{is-around, levelled}
use Rattle.tv_frame.proofs.HoldKept.{keeps-back}
use Rattle.tv_frame.proofs.HoldTold.{can-hold_told}
use Rattle.tv_frame.proofs.frame.Frame.hold.Goals as goal

pub hold-requires-clause-around : goal.hold-requires-clause-around
hold-requires-clause-around c =
    is-around c.requires.0 c.args.plan.now c.args.pool.now c.args.self.now c.requires.1 c.requires.4 _
    (record { wired = refl; walked = c.walked.ensures; endings = refl; outputs = refl; nodes = refl; firsts = c.firsts.ensures; inputs = c.as_slice.ensures.value })
    c.args.step c.requires.2 c.requires.3 c.args.event.now c.requires.5

pub hold-requires-clause-can : goal.hold-requires-clause-can
hold-requires-clause-can c =
    can-hold_told c.requires.0 c.args.plan.now c.args.pool.now c.args.self.now c.requires.1 c.requires.4 _
    (record { wired = refl; walked = c.walked.ensures; endings = refl; outputs = refl; nodes = refl; firsts = c.firsts.ensures; inputs = c.as_slice.ensures.value })
    c.args.step c.requires.2 c.requires.3 c.args.event.now c.requires.5 (hold-requires-clause-around c)

pub hold-requires-clause-levels : goal.hold-requires-clause-levels
hold-requires-clause-levels c = levelled c.requires.0 c.args.plan.now c.args.pool.now c.args.self.now c.requires.1 c.requires.4

pub returns-clause-same : goal.returns-clause-same
returns-clause-same c = λ flows v k.
    keeps-back flows c.args.plan.now c.args.pool.now c.args.self.now _ v k
    (record {
      parts = record { region = refl; tables = refl; inputs = refl; faulty_inputs = refl; outputs = refl; endings = refl; outs = refl };
      stays = c.hold.ensures.stays;
      jobs = c.hold.ensures.jobs;
      waiting = c.hold.ensures.waiting;
      intaken = c.hold.ensures.intaken;
      idle = c.hold.ensures.idle;
    })

pub returns-clause-held : goal.returns-clause-held
returns-clause-held c =
    held-where_ok c.args.plan.now c.args.pool.now c.args.self.now _ c.args.step c.args.event.now _ c.hold.result
    (record { wired = refl; walked = c.walked.ensures; endings = refl; outputs = refl; nodes = refl; firsts = c.firsts.ensures; inputs = c.as_slice.ensures.value })
    c.hold.ensures.held c.hold.ensures.touched c.hold.ensures.ready
