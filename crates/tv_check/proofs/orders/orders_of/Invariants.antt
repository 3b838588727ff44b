use Rattle.std.proofs.Common.{◌≡◌, map, take}
use Rattle.tv_flow.specs.Views.{flow_view}
use Rattle.tv_check.specs.RankNumbers.{numbers_by_rank}
use Rattle.tv_check.proofs.orders.orders_of.Given as goal

abbrev pub invariant-loop-entry : goal.invariant-loop-entry
invariant-loop-entry l = map (λ o. o.items) l.orders.items ≡ map (λ e. numbers_by_rank (flow_view e.1).steps) (take l.entry-index l.flows)
