use Rattle.std.proofs.Common.{◌≡◌, List, map, Some, Option, IfOk, ap, sym, subst, ◌∙◌}
use Rattle.tv_value.specs.Nested.{items}
use Rattle.tv_value.specs.Values as spec
use Rattle.tv_value.specs.Views.{view, values_view}
use Rattle.tv_value.specs.Orders.{named}
use Rattle.tv_value.proofs.ItemLemmas.{items-trees_of}
use Rattle.tv_gate.specs.Views.{outcome_view}
use Rattle.tv_local.specs.LocalGives.{local_outcome}
use Rattle.tv_local.specs.Table.{names}
use Rattle.tv_local.specs.declared.row.Local.{Local}
use Rattle.tv_local.proofs.gate.LocalGateGate.call.Goals as goal

pub returns-in-Some : goal.returns-in-Some
returns-in-Some c =
    let name = c.args.service.now in
    let n = c.args.attempt in
    let same : map view c.as_slice.result.now ≡ values_view c.args.inputs.now = sym (items-trees_of (map view c.as_slice.result.now)) ∙ ap items c.as_slice.ensures in
    let found : Some c.in-Some.local ≡ named name names = sym c.in-Some.is ∙ c.find.ensures in
    subst (λ (l : Option Local). IfOk c.checked.result (λ o. outcome_view o ≡ local_outcome l name (values_view c.args.inputs.now) n)) found
    (subst (λ (vs : List spec.Value). IfOk c.checked.result (λ o. outcome_view o ≡ local_outcome (Some c.in-Some.local) name vs n)) same c.checked.ensures)
