use Rattle.std.proofs.Common.{◌≡◌, Some, sym, ap, ◌∙◌}
use Rattle.std.specs.Prelude.{option_map}
use Rattle.std.proofs.lemmas.Result.{IfOk-weaker}
use Rattle.tv_value.specs.Views.{view}
use Rattle.tv_value.specs.declared.value.Value.{Value}
use Rattle.tv_binding.specs.Delivered.{wrapped_value}
use Rattle.tv_binding.specs.Found.{feed_found}
use Rattle.tv_binding.specs.Jobs.{wraps}
use Rattle.tv_binding.specs.Sourced.{known_by}
use Rattle.tv_binding.proofs.values.port_value.Goals as goal

pub returns-then-wraps_of-ne0 : goal.returns-then-wraps_of-ne0
returns-then-wraps_of-ne0 c =
    IfOk-weaker c.assemble.result _ _ (λ (x : Value) h. c.in_ok-piece.ensures.value ∙ ap Some (sym h)) c.assemble.ensures

pub returns : goal.returns
returns c =
    let k = known_by c.args.sources.now in
    let s = c.args.step.now in
    let w = wraps s.inputs.now s.delivered.now c.args.number in
    let none : 0 ≡ w = sym c.if-wraps_of-ne0.false ∙ c.wraps_of.ensures in
    IfOk-weaker c.feed_value.result _ _ (λ (x : Value) h.
    ap (λ o. option_map (wrapped_value w) (feed_found k c.args.port.now.feed o c.args.part.now)) (sym c.of_port-constant.ensures)
    ∙ ap (option_map (wrapped_value w)) h
    ∙ ap (λ n. Some (wrapped_value n (view x))) (sym none)) c.feed_value.ensures
