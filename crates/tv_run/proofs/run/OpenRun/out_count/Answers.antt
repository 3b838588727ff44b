use Rattle.std.proofs.Common.{arith, refl, ◌∙◌}
use Rattle.tv_run.proofs.OutCounts.{few-more, open-more, out-so, shut-more}
use Rattle.tv_run.proofs.run.OpenRun.out_count.Goals as goal
use Rattle.tv_run.proofs.run.OpenRun.out_count.Goals.{in-Some, in_default}

pub loop-instance-init : goal.loop-instance-init
loop-instance-init c = refl

pub overflow_add-count : goal.overflow_add-count
overflow_add-count c =
    let p = c.requires in
    let r = c.args.self.now in
    let o = c.in-Some.ensures.some in
    let few =
    few-more p.0 r p.1 p.2 c.as_slice-instance-items.result.now c.as_slice-instance-items.ensures.value
    c.loop-instance.instance-index c.instance-item.result c.loop-instance-test.true c.instance-item.is c.loop-instance.count
    c.loop-instance.invariant c.in-Some.open.now o.0 c.out_count-count.result o.1 c.out_count-count.ensures in
    omega (arith, few, r.jobs.ok.0, r.jobs.ok.1, r.jobs.small)

pub loop-instance-preserved : goal.loop-instance-preserved
loop-instance-preserved c =
    let p = c.requires in
    let r = c.args.self.now in
    let items = c.as_slice-instance-items.result.now in
    let all = c.as_slice-instance-items.ensures.value in
    let i = c.loop-instance.instance-index in
    let low = c.loop-instance-test.true in
    let at = c.instance-item in
    let before = c.loop-instance.invariant in
    elim c.match-opened.branch [
      | in-Some w ↦
          (let o = w.in-Some.ensures.some in
          w.count-is
          ∙ open-more p.0 r p.1 p.2 items all i at.result low at.is c.loop-instance.count before w.in-Some.open.now o.0
          w.out_count-count.result o.1 w.out_count-count.ensures)
      | in_default w ↦
          w.count-is
          ∙ shut-more p.0 r p.1 p.2 items all i at.result low at.is c.loop-instance.count before
          (w.in_default.ensures.none refl)
    ]

pub returns : goal.returns
returns c =
    out-so c.args.self.now c.as_slice-instance-items.result.now c.as_slice-instance-items.ensures.value
    c.loop-instance.instance-index c.loop-instance.count (omega (arith, c.loop-instance-test.false)) c.loop-instance.invariant
