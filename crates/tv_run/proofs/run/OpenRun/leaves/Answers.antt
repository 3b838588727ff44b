use Rattle.tv_check.specs.RunViews.{run_view}
use Rattle.tv_run.proofs.OutputLemmas.{none-missing}
use Rattle.tv_run.proofs.TracingLemmas.{of-main, outputs-traced}
use Rattle.tv_run.proofs.run.OpenRun.leaves.Goals as goal

pub unreachable-requires : goal.unreachable-requires
unreachable-requires c = none-missing c.requires.0 c.args.self.now c.requires.1 c.requires.2 c.in-None.is

pub returns : goal.returns
returns c = λ gives st done traced.
    c.leaves.ensures gives (run_view c.args.self.now.run)
    (of-main gives c.args.self.now st c.main.result c.flow-plan.result.now c.main.ensures.position c.flow-plan.ensures
    c.args.traces.now traced)
    (outputs-traced gives c.args.self.now st c.main.result c.flow-plan.result.now c.main.ensures.position c.flow-plan.ensures
    c.in-Some.ended c.in-Some.is c.as_slice.result.now c.as_slice.ensures)
