use Rattle.std.proofs.Common.{◌++◌, ap, sym, ◌∙◌}
use Rattle.std.specs.Prelude.{flat_map}
use Rattle.tv_flow.specs.Views.{each, feed_view, step_input_view}
use Rattle.tv_model.specs.instance.Ranks.{feed_steps}
use Rattle.tv_naming.specs.Numbers.{number_in}
use Rattle.tv_check.specs.NamedGraphs.{numbers_of}
use Rattle.tv_naming.proofs.Lists.{one-more, all-now, flat_map-map}
use Rattle.tv_check.proofs.graphs.push_inputs.Goals as goal

pub loop-input-preserved : goal.loop-input-preserved
loop-input-preserved c =
    one-more (number_in c.args.steps.now) (λ i. feed_steps (feed_view i.1.from)) c.args.numbers.now.items c.loop-input.numbers.items _ c.as_slice-input-items.result.now c.loop-input.input-index c.input-item.result c.loop-input-test.true c.input-item.is c.loop-input.invariant c.in_ok-push_feed.ensures

pub returns : goal.returns
returns c =
    all-now (number_in c.args.steps.now) (λ i. feed_steps (feed_view i.1.from)) c.args.numbers.now.items c.loop-input.numbers.items c.as_slice-input-items.result.now c.loop-input.input-index c.loop-input-test.false c.loop-input.invariant
    ∙ ap (λ xs. c.args.numbers.now.items ++ numbers_of c.args.steps.now xs) (sym (flat_map-map (λ i. feed_steps i.1.from) (λ i. (i.0, step_input_view i.1)) c.as_slice-input-items.result.now) ∙ ap (λ xs. flat_map (λ i. feed_steps i.1.from) (each step_input_view xs)) c.as_slice-input-items.ensures)
