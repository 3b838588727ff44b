use Rattle.std.proofs.Common.{ap, sym, ◌∙◌, eq-eqb}
use Rattle.std.specs.Prelude.{◌&&◌}
use Rattle.tv_value.specs.Views.{items_view, values_view}
use Rattle.tv_value.specs.Orders.{same_name}
use Rattle.tv_value.specs.Sameness.{same_values}
use Rattle.tv_value.proofs.Sameness.{same_trees-items}
use Rattle.tv_gate.proofs.call.Call.is.Goals as goal

pub returns-then-eq : goal.returns-then-eq
returns-then-eq c =
    let a = c.args.self.now.inputs in
    let b = c.args.inputs.now in
    let p = sym (eq-eqb c.args.self.now.attempt c.args.attempt c.if-self-attempt.true) in
    let q = sym (ap (λ s. same_name s c.args.service.now) (sym c.as_str.ensures) ∙ sym c.eq.ensures ∙ c.if-eq.true) in
    c.same_lists.ensures ∙ same_trees-items (items_view a) (items_view b) ∙ (λ i. p i && (q i && same_values (values_view a) (values_view b)))
