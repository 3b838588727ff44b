use Rattle.std.proofs.Common.{◌≡◌, false, true, ap, sym, ◌∙◌}
use Rattle.tv_value.specs.Orders.{same_name}
use Rattle.tv_value.proofs.ByName.{named-found, named-passed, named-nowhere}
use Rattle.tv_value.proofs.sequence.Sequence+tuple2+Name+T.named.Goals as goal

pub returns-then-eq : goal.returns-then-eq
returns-then-eq g c =
    let n = c.args.name.now in
    let same : same_name n c.item-item.result.0 ≡ true = ap (λ m. same_name m c.item-item.result.0) (sym c.as_str.ensures) ∙ ap (same_name c.as_str.result.now) (sym c.as_str-in-loop-item.ensures) ∙ sym c.if-eq.ensures in
    sym (c.loop-item.invariant ∙ named-found n c.as_slice-item-items.result.now c.loop-item.item-index c.item-item.result c.loop-item-test.true c.item-item.is same)

pub loop-item-preserved : goal.loop-item-preserved
loop-item-preserved g c =
    let n = c.args.name.now in
    let other : same_name n c.item-item.result.0 ≡ false = ap (λ m. same_name m c.item-item.result.0) (sym c.as_str.ensures) ∙ ap (same_name c.as_str.result.now) (sym c.as_str-in-loop-item.ensures) ∙ sym c.if-eq.ensures in
    c.loop-item.invariant ∙ named-passed n c.as_slice-item-items.result.now c.loop-item.item-index c.item-item.result c.loop-item-test.true c.item-item.is other

pub returns : goal.returns
returns g c = sym (c.loop-item.invariant ∙ named-nowhere c.args.name.now c.as_slice-item-items.result.now c.loop-item.item-index c.loop-item-test.false)
