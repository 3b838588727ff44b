use Rattle.std.proofs.Common.{sym, ◌∙◌, eq-eqb}
use Rattle.std.specs.Prelude.{◌&&◌}
use Rattle.tv_value.specs.Views.{items_view, values_view}
use Rattle.tv_value.specs.Sameness.{same_values}
use Rattle.tv_value.proofs.Sameness.{same_trees-items}
use Rattle.tv_gate.proofs.call.CallPartialEq.eq.Goals as goal

pub returns-then-eq : goal.returns-then-eq
returns-then-eq c =
    let a = c.args.self.now.inputs in
    let b = c.args.other.now.inputs in
    let p = sym (eq-eqb c.args.self.now.attempt c.args.other.now.attempt c.if-self-other.true) in
    let q = sym (sym c.eq.ensures ∙ c.if-eq.true) in
    c.same_lists.ensures ∙ same_trees-items (items_view a) (items_view b) ∙ (λ i. p i && (q i && same_values (values_view a) (values_view b)))
