use Rattle.std.proofs.Common.{ap, sym, ◌∙◌, arith, get_or}
use Rattle.tv_value.specs.Orders.{name_cmp}
use Rattle.tv_flow.proofs.Sorting.{put-less, put-equal, put-end}
use Rattle.tv_flow.proofs.names.put_in_order.Goals as goal

pub returns-in-Less : goal.returns-in-Less
returns-in-Less c =
    let n = c.loop-index.name in
    let xs = c.loop-index.names.items in
    let i = c.loop-index.index in
    let d = c.index.result.now in
    let same = ap (λ m. name_cmp m (get_or xs i d)) (sym c.as_str.ensures) ∙ ap (name_cmp c.as_str.result.now) (sym c.index.ensures ∙ sym c.as_str-in-loop-index.ensures) ∙ sym c.cmp.ensures in
    c.in_ok-insert-in-Less.ensures.items ∙ sym (c.loop-index.invariant ∙ put-less n xs i d (omega (arith, c.len-index-end.ensures, c.loop-index.names.ok.0, c.args.names.now.ok.0)) (same ∙ c.in-Less.is))

pub returns-in-Equal : goal.returns-in-Equal
returns-in-Equal c =
    let n = c.loop-index.name in
    let xs = c.loop-index.names.items in
    let i = c.loop-index.index in
    let d = c.index.result.now in
    let same = ap (λ m. name_cmp m (get_or xs i d)) (sym c.as_str.ensures) ∙ ap (name_cmp c.as_str.result.now) (sym c.index.ensures ∙ sym c.as_str-in-loop-index.ensures) ∙ sym c.cmp.ensures in
    sym (c.loop-index.invariant ∙ put-equal n xs i d (omega (arith, c.len-index-end.ensures, c.loop-index.names.ok.0, c.args.names.now.ok.0)) (same ∙ c.in-Equal.is))

pub returns : goal.returns
returns c = c.in_ok-push.ensures.items ∙ sym (c.loop-index.invariant ∙ put-end c.loop-index.name c.loop-index.names.items c.loop-index.index (omega (arith, c.len-index-end.ensures, c.loop-index.names.ok.0, c.args.names.now.ok.0)))
