use Rattle.std.proofs.Common.{◌-◌, refl, ap, sym, ◌∙◌, Some}
use Rattle.tv_matching.specs.Matchers.{fault_at, job_at, list_at}
use Rattle.tv_intake.specs.Intaken.{matcher_at, waiting_things}
use Rattle.tv_model.specs.instance.Events.{closed, fault_set}
use Rattle.tv_frame.specs.Kept.{followed_by}
use Rattle.tv_frame.proofs.Keeping.{keeps-ahead}
use Rattle.tv_frame.proofs.Waiting.{closed-thing, job-thing, jobs-not_wait, keeps-same, last-thing, lists-settle, none-settles, passed-thing, settles-same, waiting-at}
use Rattle.tv_frame.proofs.frame.Frame.room_for_settle.Goals as goal
use Rattle.tv_frame.proofs.frame.Frame.room_for_settle.Goals.{in-Closed+in_ok-jobs-in-Closed, in-Passed+in_ok-jobs-in-Passed}

pub returns-then-count-eq0-clause-none : goal.returns-then-count-eq0-clause-none
returns-then-count-eq0-clause-none c = λ z flows v k.
    none-settles flows c.args.plan.now c.args.pool.now c.args.self.now v k (sym c.waiting-count.ensures ∙ c.if-count-eq0.true)

pub unreachable-requires : goal.unreachable-requires
unreachable-requires c =
    let r = c.requires in
    let f = c.args.self.now in
    let n = c.waiting_at-step.result.0 in
    let q = c.in_ok-place.place in
    let thing = job-thing (waiting_things f.intakes) (c.waiting-count.result - 1) n c.waiting_at-step.result.1.now q c.waiting_at-step.result.2 c.waiting_at-step.ensures c.in_ok-place.ensures.ok _ c.in-Job.is in
    let w = waiting-at r.0 c.args.plan.now c.args.pool.now f r.1 r.2 (c.waiting-count.result - 1) n (job_at q) thing in
    jobs-not_wait r.1.events w.step.0 q (followed_by (matcher_at f.intakes n)) w.waits

pub room_for_close-requires : goal.room_for_close-requires
room_for_close-requires c =
    let r = c.requires in
    let f = c.args.self.now in
    let n = c.waiting_at-step.result.0 in
    let q = c.in_ok-place.place in
    let thing = closed-thing (waiting_things f.intakes) (c.waiting-count.result - 1) n c.waiting_at-step.result.1.now q c.waiting_at-step.result.2 c.waiting_at-step.ensures c.in_ok-place.ensures.ok c.in-Closed.length c.in-Closed.is in
    let w = waiting-at r.0 c.args.plan.now c.args.pool.now f r.1 r.2 (c.waiting-count.result - 1) n (list_at q c.in-Closed.length) thing in
    record { next = (r.0, r.1, w.step, keeps-ahead r.0 c.args.plan.now c.args.pool.now f r.1 (record f.ahead { place = Some c.in_ok-copy.field-0 }) r.2, w.at, lists-settle r.0 c.args.plan.now c.args.pool.now f r.1 r.2 n w.step w.at q c.in-Closed.length w.waits) }

pub room_for_fault-requires : goal.room_for_fault-requires
room_for_fault-requires c =
    let r = c.requires in
    let f = c.args.self.now in
    let n = c.waiting_at-step.result.0 in
    let q = c.in_ok-place.place in
    let thing = passed-thing (waiting_things f.intakes) (c.waiting-count.result - 1) n c.waiting_at-step.result.1.now q c.waiting_at-step.result.2 c.waiting_at-step.ensures c.in_ok-place.ensures.ok c.in-Passed.leaf c.in-Passed.is in
    let w = waiting-at r.0 c.args.plan.now c.args.pool.now f r.1 r.2 (c.waiting-count.result - 1) n (fault_at q c.in-Passed.leaf) thing in
    record { next = (r.0, r.1, w.step, keeps-ahead r.0 c.args.plan.now c.args.pool.now f r.1 (record f.ahead { place = Some c.in_ok-copy.field-0 }) r.2, w.at, w.waits) }

pub returns-clause-same : goal.returns-clause-same
returns-clause-same c = λ flows v k.
    let f = c.args.self.now in
    let kept = keeps-ahead flows c.args.plan.now c.args.pool.now f v (record f.ahead { place = Some c.in_ok-copy.field-0 }) k in
    elim c.match-kind.branch [
      | in-Closed+in_ok-jobs-in-Closed w ↦ keeps-same flows c.args.plan.now v c.match-kind.pool w.room_for_close.new.pool c.match-kind.self w.room_for_close.new.self w.pool-is w.self-is (w.room_for_close.ensures.same flows v kept)
      | in-Passed+in_ok-jobs-in-Passed w ↦ keeps-same flows c.args.plan.now v c.match-kind.pool w.room_for_fault.new.pool c.match-kind.self w.room_for_fault.new.self w.pool-is w.self-is (w.room_for_fault.ensures.same flows v kept)
    ]

pub returns-clause-some : goal.returns-clause-some
returns-clause-some c = λ flows v k.
    let f = c.args.self.now in
    let plan = c.args.plan.now in
    let things = waiting_things f.intakes in
    let count = c.waiting-count.result in
    let n = c.waiting_at-step.result.0 in
    let q = c.in_ok-place.place in
    let kept = keeps-ahead flows plan c.args.pool.now f v (record f.ahead { place = Some c.in_ok-copy.field-0 }) k in
    elim c.match-kind.branch [
      | in-Closed+in_ok-jobs-in-Closed w ↦
          let m = w.in-Closed.length in
          let thing = closed-thing things (count - 1) n c.waiting_at-step.result.1.now q c.waiting_at-step.result.2 c.waiting_at-step.ensures c.in_ok-place.ensures.ok m w.in-Closed.is in
          let x = waiting-at flows plan c.args.pool.now f v k (count - 1) n (list_at q m) thing in
          let can = lists-settle flows plan c.args.pool.now f v k n x.step x.at q m x.waits in
          settles-same flows plan v c.match-kind.pool w.room_for_close.new.pool c.match-kind.self w.room_for_close.new.self c.match-kind.jobs _ w.pool-is w.self-is w.jobs-is (
            n,
            x.step,
            closed x.step.0 q m,
            record {
              ready = w.in_ok-jobs-in-Closed.ensures.ready flows v x.step kept x.at can;
              outcome = list_at q m;
              last = last-thing things (waiting_things w.room_for_close.new.self.intakes) count (n, list_at q m) w.room_for_close.ensures.waiting c.waiting-count.ensures thing;
              settles = refl;
              place = w.room_for_close.ensures.place ∙ ap Some c.in_ok-copy.ensures.ok;
              pieces = tt;
            },
            can,
            w.in_ok-jobs-in-Closed.ensures.count flows v x.step kept x.at can,
          )
      | in-Passed+in_ok-jobs-in-Passed w ↦
          let l = w.in-Passed.leaf in
          let thing = passed-thing things (count - 1) n c.waiting_at-step.result.1.now q c.waiting_at-step.result.2 c.waiting_at-step.ensures c.in_ok-place.ensures.ok l w.in-Passed.is in
          let x = waiting-at flows plan c.args.pool.now f v k (count - 1) n (fault_at q l) thing in
          let t = w.in_ok-jobs-in-Passed.ensures.ready flows v x.step kept x.at x.waits in
          settles-same flows plan v c.match-kind.pool w.room_for_fault.new.pool c.match-kind.self w.room_for_fault.new.self c.match-kind.jobs _ w.pool-is w.self-is w.jobs-is (
            n,
            x.step,
            fault_set x.step.0 q t.0,
            record {
              ready = t.2;
              outcome = fault_at q l;
              last = last-thing things (waiting_things w.room_for_fault.new.self.intakes) count (n, fault_at q l) w.room_for_fault.ensures.waiting c.waiting-count.ensures thing;
              settles = (t.0, refl);
              place = w.room_for_fault.ensures.place ∙ ap Some c.in_ok-copy.ensures.ok;
              pieces = t.3;
            },
            t.1,
            t.4,
          )
    ]
