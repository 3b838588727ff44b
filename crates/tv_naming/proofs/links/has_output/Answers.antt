use Rattle.std.proofs.Common.{◌≡◌, ◌∙◌, ap, sym, is_some, Some, None, false, option_map}
use Rattle.std.specs.Option.{option_map_or}
use Rattle.tv_lemmas.proofs.Options.{is_some-map}
use Rattle.tv_value.specs.Orders.{named}
use Rattle.tv_flow.specs.Views.{each, step_view}
use Rattle.tv_naming.specs.Naming.{has_name}
use Rattle.tv_naming.proofs.Kept.{named-found}
use Rattle.tv_naming.proofs.links.has_output.Goals as goal

pub returns-in-Some : goal.returns-in-Some
returns-in-Some c =
    let found = named-found step_view (λ x. x.now) c.thing_of.result c.args.step.now c.args.flow.now.steps c.thing_of.ensures in
    let here : Some (step_view c.in-Some.step.now) ≡ named c.args.step.now (each step_view c.args.flow.now.steps) = ap (option_map (λ x. step_view x.now)) (sym c.in-Some.is) ∙ found in
    c.is_some.ensures
    ∙ sym (is_some-map (λ x. x.now) c.named.result)
    ∙ ap is_some c.named.ensures
    ∙ ap (λ o. option_map_or (λ t. has_name t.outputs c.args.port.now) o false) here

pub returns-in-None : goal.returns-in-None
returns-in-None c =
    let found = named-found step_view (λ x. x.now) c.thing_of.result c.args.step.now c.args.flow.now.steps c.thing_of.ensures in
    let here : None ≡ named c.args.step.now (each step_view c.args.flow.now.steps) = ap (option_map (λ x. step_view x.now)) (sym c.in-None.is) ∙ found in
    ap (λ o. option_map_or (λ t. has_name t.outputs c.args.port.now) o false) here
