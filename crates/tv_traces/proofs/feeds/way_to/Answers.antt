use Rattle.std.proofs.Common.{arith, sym, ◌∙◌, take, drop, map}
use Rattle.tv_lineage.specs.Views.{mark_view}
use Rattle.tv_traces.specs.Shapes.{job_here, passed_by}
use Rattle.tv_traces.specs.Views.{node_view}
use Rattle.std.proofs.Common.{ap}
use Rattle.tv_traces.proofs.Nodes.{job-view, passed-view, stops, way-ends, way-goes_on}
use Rattle.tv_traces.proofs.feeds.way_to.Goals as goal

pub returns-in-None-clause-node : goal.returns-in-None-clause-node
returns-in-None-clause-node c = sym (c.loop-taken.invariant ∙ way-ends c.args.place.now c.loop-taken.taken c.loop-taken.here.now c.in-List.field-0 c.in-List.items c.as_slice.result.now c.loop-taken-test.true c.in-List.is c.as_slice.ensures c.in-None.ensures.lookup.3)

pub returns-in-Job : goal.returns-in-Job
returns-in-Job c = record {
  within = omega (arith, c.loop-taken.auto.taken-end);
  node = sym (c.loop-taken.invariant ∙ stops (node_view c.loop-taken.here.now) _ job_here (ap node_view c.in-Job.is) job-view (take c.loop-taken.taken c.args.place.now) (drop c.loop-taken.taken c.args.place.now));
}

pub returns-in-Passed-clause-node : goal.returns-in-Passed-clause-node
returns-in-Passed-clause-node c =
    sym (c.loop-taken.invariant ∙ stops (node_view c.loop-taken.here.now) _ (passed_by (map mark_view c.in-Passed.field-0)) (ap node_view c.in-Passed.is) (passed-view c.in-Passed.field-0) (take c.loop-taken.taken c.args.place.now) (drop c.loop-taken.taken c.args.place.now))

pub loop-taken-preserved : goal.loop-taken-preserved
loop-taken-preserved c = c.loop-taken.invariant ∙ way-goes_on c.args.place.now c.loop-taken.taken c.loop-taken.here.now c.in-Some.item.now c.in-List.field-0 c.in-List.items c.as_slice.result.now c.loop-taken-test.true c.in-List.is c.as_slice.ensures c.in-Some.ensures.lookup.3.0 c.in-Some.ensures.lookup.1
