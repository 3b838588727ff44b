use Rattle.std.specs.Option.{option_map_or}
use Rattle.std.specs.Prelude.{◌≡◌, ◌<◌, false, length}
use Rattle.std.proofs.Common.{ap, arith, refl, ◌∙◌}
use Rattle.tv_instances.specs.stands.Seats.{is_over}
use Rattle.tv_run.specs.Jobs.{stage_of}
use Rattle.tv_run.proofs.CountedJobs.{all-counted, not-over, one-over}
use Rattle.tv_run.proofs.run.OpenRun.count_settled.Goals as goal
use Rattle.tv_run.proofs.run.OpenRun.count_settled.Goals.{else-is_settled, then-is_settled}

pub loop-job-init : goal.loop-job-init
loop-job-init c = (refl, omega arith)

pub loop-job-preserved : goal.loop-job-preserved
loop-job-preserved c =
    let r = c.args.self.now in
    let k = c.loop-job.job in
    let before = c.loop-job.invariant in
    let few = before.1 in
    let told : c.is_settled.result ≡ option_map_or is_over (stage_of r k) false =
    c.is_settled.ensures ∙ ap (λ o. option_map_or is_over o false) c.stage_of.ensures in
    let low : k < length r.jobs.items =
    (let e = c.len-job-end.ensures in omega (arith, c.loop-job-test.true, e, r.jobs.ok.0)) in
    elim c.if-is_settled.branch [
      | then-is_settled w ↦ (
        w.count-is ∙ one-over r k c.loop-job.count c.is_settled.result low told before.0 w.if-is_settled.true,
        (let e = w.count-is in omega (arith, e, few)),
      )
      | else-is_settled w ↦ (
        w.count-is ∙ not-over r k c.loop-job.count c.is_settled.result low told before.0 w.if-is_settled.false,
        (let e = w.count-is in omega (arith, e, few)),
      )
    ]

pub returns : goal.returns
returns c = λ gives st.
    let past = c.loop-job-test.false in
    all-counted gives c.args.self.now st.0 st.1 c.loop-job.job c.loop-job.count
    (let e = c.len-job-end.ensures in omega (arith, past, e, c.args.self.now.jobs.ok.0)) c.loop-job.invariant.0
