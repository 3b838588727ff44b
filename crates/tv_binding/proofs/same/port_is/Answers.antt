use Rattle.std.proofs.Common.{◌≡◌, ap, sym, ◌∙◌, subst, Some}
use Rattle.std.specs.Prelude.{◌↔◌, IsTrue}
use Rattle.tv_value.specs.Views.{view}
use Rattle.tv_binding.specs.Constants.{constant_of_port, constants_view}
use Rattle.tv_binding.specs.Delivered.{wrapped_value}
use Rattle.tv_binding.specs.Found.{feed_found}
use Rattle.tv_binding.specs.Jobs.{wraps}
use Rattle.tv_binding.specs.Sourced.{known_by}
use Rattle.tv_binding.proofs.Comparing.{not_wrapped-told, wrapped-told}
use Rattle.tv_binding.proofs.same.port_is.Goals as goal

pub returns-in-Some : goal.returns-in-Some
returns-in-Some c =
    let k = known_by c.args.sources.now in
    let s = c.args.step.now in
    let p = c.args.port.now in
    let cs = constants_view c.args.constants.now in
    wrapped-told (wraps s.inputs.now s.delivered.now c.args.number) (feed_found k p.feed (constant_of_port cs s.number c.args.number) c.args.part.now) (view c.in-Some.inside.now) (view c.args.value.now) (ap (λ n. wrapped_value n (view c.in-Some.inside.now)) (sym c.wraps_of.ensures) ∙ c.in-Some.ensures {u = tt}) c.feed_is.result
    (subst (λ o. IsTrue c.feed_is.result ↔ (feed_found k p.feed o c.args.part.now ≡ Some (view c.in-Some.inside.now))) c.of_port-constant.ensures c.feed_is.ensures)

pub returns-in-None : goal.returns-in-None
returns-in-None c =
    let k = known_by c.args.sources.now in
    let s = c.args.step.now in
    let p = c.args.port.now in
    let cs = constants_view c.args.constants.now in
    not_wrapped-told (wraps s.inputs.now s.delivered.now c.args.number) (feed_found k p.feed (constant_of_port cs s.number c.args.number) c.args.part.now) (view c.args.value.now) (λ v h. c.in-None.ensures {u = tt} v (ap (λ n. wrapped_value n v) c.wraps_of.ensures ∙ h))
