use Rattle.std.proofs.Common.{true}
use Rattle.tv_traces.proofs.Start.{all-traced}
use Rattle.tv_traces.proofs.traces.Traces.start.Goals as goal

pub returns : goal.returns
returns c = λ gives d w. all-traced gives d c.args.plan.now c.traces_by.result w.flow_is (c.traces_by.ensures (λ o. true) (λ n. true) gives d w.flow_is (c.in_ok-sight.ensures _ _ w.levels_are))
