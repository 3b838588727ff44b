use Rattle.std.proofs.Common.{◌++◌, [], ap, sym, ◌∙◌, map}
use Rattle.std.specs.Prelude.{flat_map, filter_map}
use Rattle.tv_flow.specs.Views.{each, activity_view, step_view}
use Rattle.tv_check.specs.Cycles.{opened_flow}
use Rattle.tv_naming.specs.Numbers.{number_in}
use Rattle.tv_check.specs.NamedGraphs.{numbers_of}
use Rattle.tv_naming.proofs.Lists.{one-more, all-now, flat_map-map}
use Rattle.tv_check.proofs.graphs.opened_numbers.Goals as goal

pub loop-step-preserved : goal.loop-step-preserved
loop-step-preserved c =
    one-more (number_in c.args.flows.now) (λ s. filter_map opened_flow (map activity_view s.1.activities)) [] c.loop-step.numbers.items _ c.as_slice-step-items.result.now c.loop-step.step-index c.step-item.result c.loop-step-test.true c.step-item.is c.loop-step.invariant c.in_ok-push_activities.ensures

pub returns : goal.returns
returns c =
    all-now (number_in c.args.flows.now) (λ s. filter_map opened_flow (map activity_view s.1.activities)) [] c.loop-step.numbers.items c.as_slice-step-items.result.now c.loop-step.step-index c.loop-step-test.false c.loop-step.invariant
    ∙ ap (λ xs. [] ++ numbers_of c.args.flows.now xs) (sym (flat_map-map (λ s. filter_map opened_flow s.1.activities) (λ s. (s.0, step_view s.1)) c.as_slice-step-items.result.now) ∙ ap (λ xs. flat_map (λ s. filter_map opened_flow s.1.activities) (each step_view xs)) c.as_slice-step-items.ensures)
