use Rattle.std.proofs.Common.{ap, sym, rules, ◌≡◌, fold, ◌∙◌, refl}
use Rattle.tv_value.specs.Views.{items_view}
use Rattle.tv_value.specs.Writes.{values_writes}
use Rattle.tv_value.proofs.Writes.{trees_of-items}
use Rattle.tv_gate.proofs.call.CallHash.hash.Goals as goal

pub returns : goal.returns
returns g c =
    rw (trees_of-items (items_view c.args.self.now.inputs)) (c.hash_values.ensures ∙ (let first = c.hash.ensures in let second = c.hash-2.ensures in let is = c.as_str.ensures in rw (second, first, is) refl))
