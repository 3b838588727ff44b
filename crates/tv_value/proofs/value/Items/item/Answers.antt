use Rattle.std.proofs.Common.{ap, sym, ◌∙◌, Some, arith}
use Rattle.tv_value.specs.Nested.{item_at}
use Rattle.tv_value.specs.Views.{view}
use Rattle.tv_value.proofs.ItemLemmas.{items_view-each}
use Rattle.tv_value.proofs.Looking.{item_at-each, item_at-past}
use Rattle.tv_value.proofs.value.Items.item.Goals as goal

pub returns-then-index-len : goal.returns-then-index-len
returns-then-index-len c =
    let vs = c.args.self.now.values.items in
    let i = c.args.index in
    sym (ap (λ ts. item_at ts i) (items_view-each c.args.self.now)
    ∙ item_at-each view vs i c.index.result.now (omega (arith, c.args.self.now.values.ok.0, c.len.ensures, c.if-index-len.true))
    ∙ ap (λ v. Some (view v)) (sym c.index.ensures))

pub returns-else-index-len : goal.returns-else-index-len
returns-else-index-len c =
    let vs = c.args.self.now.values.items in
    let i = c.args.index in
    sym (ap (λ ts. item_at ts i) (items_view-each c.args.self.now)
    ∙ item_at-past view vs i (omega (arith, c.args.self.now.values.ok.0, c.len.ensures, c.if-index-len.false)))
