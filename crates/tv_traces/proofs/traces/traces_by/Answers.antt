use Rattle.std.proofs.Common.{arith, refl, ap, subst, ◌∙◌, ◌≡◌, ◌<◌, ◌+◌, length, suc}
use Rattle.std.specs.Prelude.{Some, slice_get}
use Rattle.tv_value.specs.Values.{Name}
use Rattle.tv_flow.specs.Flows.{Step}
use Rattle.tv_flow.specs.Views.{flow_view}
use Rattle.tv_strategy.specs.Conditions.{number_of}
use Rattle.tv_strategy.specs.Measures.{strategy_depth}
use Rattle.tv_model.specs.instance.Steps.{strategy_of}
use Rattle.tv_check.specs.Ports.{mismatches}
use Rattle.tv_traces.specs.OfNodes.{IsWalked}
use Rattle.tv_traces.specs.Staged.{IsStage}
use Rattle.tv_traces.specs.Stepping.{telling_of}
use Rattle.tv_traces.specs.Sights.{done_in, what_in}
use Rattle.tv_traces.specs.Views.{node_view, shapes_view}
use Rattle.tv_traces.proofs.Start.{all-staged, more-grouped, more-staged, rank-there, set-long}
use Rattle.tv_traces.proofs.traces.traces_by.Goals as goal

pub unreachable-requires : goal.unreachable-requires
unreachable-requires c = rank-there c.args.plan.now c.loop-rank.rank (subst (λ xs. c.loop-rank.rank < length xs) c.as_slice-rank-end.ensures c.loop-rank-test.true) (c.in_default.ensures.none refl)

pub loop-rank-preserved : goal.loop-rank-preserved
loop-rank-preserved c =
    let p = c.args.plan.now in
    let flow = flow_view p.flow in
    let n = c.in-Some.number in
    let what = what_in c.args.sight.now in
    let done = done_in c.args.sight.now in
    let us = c.loop-rank.shapes.items in
    let walked = λ (s : Name × Step) (e : slice_get flow.steps n ≡ Some s). subst (λ l. IsWalked (telling_of flow (shapes_view l) (what n) (done n) s) s (strategy_depth (number_of (mismatches flow s.1)) (strategy_of s.1)) c.loop-rank.records c.step_node.new.records (node_view c.in_ok-node.node)) c.as_slice-in-loop-rank.ensures.value (c.in_ok-node.ensures s e) in
    let next : suc c.loop-rank.rank ≡ c.loop-rank.rank + 1 = omega arith in
    record {
      many = ap length c.put.ensures ∙ set-long us n c.in_ok-node.node ∙ c.loop-rank.invariant.many;
      grouped = more-grouped p n c.loop-rank.rank c.in-Some.ensures.within c.in-Some.ensures.rank what done c.loop-rank.records c.step_node.new.records us c.put.new.shapes.items c.in_ok-node.node c.loop-rank.invariant.many c.put.ensures walked c.loop-rank.invariant.grouped;
      stage = λ known settled gives d is seen. subst (λ r. IsStage gives d flow known settled r c.step_node.new.records (shapes_view c.put.new.shapes.items)) next
          (more-staged p n c.loop-rank.rank c.in-Some.ensures.within c.in-Some.ensures.rank what done c.loop-rank.records c.step_node.new.records us c.put.new.shapes.items c.in_ok-node.node c.loop-rank.invariant.many c.put.ensures walked known settled gives d is seen (c.loop-rank.invariant.stage known settled gives d is seen));
    }

pub returns : goal.returns
returns c = λ known settled gives d is seen.
    let all : c.loop-rank.rank ≡ length c.args.plan.now.steps = omega (arith, c.loop-rank-test.false, c.loop-rank.auto.rank-end, ap length c.as_slice-rank-end.ensures) in
    all-staged known settled gives d c.args.plan.now c.loop-rank.rank _ is all (c.loop-rank.invariant.stage known settled gives d is seen)
