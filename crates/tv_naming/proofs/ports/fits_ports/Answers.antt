use Rattle.std.proofs.Common.{◌∙◌, ◌++◌, map, ap, sym}
use Rattle.tv_value.specs.Views.{strategy_view}
use Rattle.tv_flow.specs.Views.{step_input_view}
use Rattle.tv_strategy.specs.Measures.{leaf_names}
use Rattle.tv_naming.specs.Naming.{are_the_same}
use Rattle.tv_naming.proofs.ByPosition.{names_of}
use Rattle.tv_naming.proofs.ports.fits_ports.Goals as goal
use Rattle.tv_naming.proofs.FormedParts.{each-names}

pub returns : goal.returns
returns c =
    let inputs = c.args.step.now.inputs in
    let names = leaf_names (strategy_view c.args.tree.now) in
    c.are_the_ports.ensures
    ∙ ap (λ ps. are_the_same (names_of ps) (map (λ n. n.now) c.as_slice-2.result.now)) c.as_slice.ensures
    ∙ ap (are_the_same (names_of inputs)) (ap (map (λ n. n.now)) c.as_slice-2.ensures.value ∙ c.in_ok-push_leaves.ensures ∙ ap (λ ns. map (λ n. n.now) ns ++ names) c.new-leaves.ensures.items)
    ∙ ap (λ ns. are_the_same ns names) (sym (each-names step_input_view inputs))
