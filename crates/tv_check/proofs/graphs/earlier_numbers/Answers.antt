use Rattle.std.proofs.Common.{◌++◌, ap, sym, ◌∙◌}
use Rattle.std.specs.Prelude.{flat_map}
use Rattle.std.proofs.lemmas.List.Elements.{filter_map-append}
use Rattle.tv_flow.specs.Views.{each, step_input_view}
use Rattle.tv_model.specs.instance.Ranks.{feed_steps}
use Rattle.tv_naming.specs.Numbers.{number_in}
use Rattle.tv_check.specs.NamedGraphs.{numbers_of}
use Rattle.tv_check.proofs.graphs.earlier_numbers.Goals as goal

pub returns : goal.returns
returns c =
    let steps = c.args.steps.now in
    let after = c.args.step.now.after in
    let fed = flat_map (λ i. feed_steps i.1.from) (each step_input_view c.args.step.now.inputs) in
    c.in_ok-push_names.ensures
    ∙ ap (λ ns. ns ++ numbers_of steps after) (c.in_ok-push_inputs.ensures ∙ ap (λ ns. ns ++ numbers_of steps fed) c.new-numbers.ensures.items)
    ∙ sym (filter_map-append (number_in steps) fed after)
