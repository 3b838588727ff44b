use Rattle.std.proofs.Common.{◌++◌, ◌∷◌, [], ap, sym, ◌∙◌, map}
use Rattle.std.specs.Prelude.{filter_map}
use Rattle.tv_flow.specs.Views.{activity_view}
use Rattle.tv_check.specs.Cycles.{opened_flow}
use Rattle.tv_naming.specs.Numbers.{number_in}
use Rattle.tv_check.specs.NamedGraphs.{numbers_of}
use Rattle.tv_naming.proofs.Lists.{one-more, all-now, flat_map-map, filter_map-pieces}
use Rattle.tv_check.proofs.graphs.push_activities.Goals as goal

pub loop-activity-preserved : goal.loop-activity-preserved
loop-activity-preserved c =
    one-more (number_in c.args.flows.now) (λ a. filter_map opened_flow (activity_view a ∷ [])) c.args.numbers.now.items c.loop-activity.numbers.items _ c.as_slice-activity-items.result.now c.loop-activity.activity-index c.activity-item.result c.loop-activity-test.true c.activity-item.is c.loop-activity.invariant c.in_ok-push_activity.ensures

pub returns : goal.returns
returns c =
    all-now (number_in c.args.flows.now) (λ a. filter_map opened_flow (activity_view a ∷ [])) c.args.numbers.now.items c.loop-activity.numbers.items c.as_slice-activity-items.result.now c.loop-activity.activity-index c.loop-activity-test.false c.loop-activity.invariant
    ∙ ap (λ xs. c.args.numbers.now.items ++ numbers_of c.args.flows.now xs) (sym (filter_map-pieces opened_flow (map activity_view c.as_slice-activity-items.result.now) ∙ flat_map-map (λ a. filter_map opened_flow (a ∷ [])) activity_view c.as_slice-activity-items.result.now) ∙ ap (λ xs. filter_map opened_flow (map activity_view xs)) c.as_slice-activity-items.ensures)
