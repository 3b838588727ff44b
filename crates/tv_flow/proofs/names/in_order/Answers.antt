use Rattle.std.proofs.Common.{ap, sym, ◌∙◌}
use Rattle.tv_flow.proofs.Sorting.{put_all, put_all-last, put_all-in_order}
use Rattle.tv_flow.proofs.names.in_order.Goals as goal

pub loop-name-init : goal.loop-name-init
loop-name-init c =
    sym (put_all-in_order c.args.names)
    ∙ ap (λ xs. put_all xs _) (sym c.into_vec-names.ensures)
    ∙ ap (put_all c.into_vec-names.result.items) (sym c.new-ordered.ensures.items)

pub loop-name-preserved : goal.loop-name-preserved
loop-name-preserved c =
    c.loop-name.invariant
    ∙ ap (λ xs. put_all xs c.loop-name.ordered.items) c.in-Some.ensures.items
    ∙ put_all-last c.pop.new.self.items c.in-Some.name c.loop-name.ordered.items
    ∙ ap (put_all c.pop.new.self.items) (sym c.in_ok-put_in_order.ensures)
