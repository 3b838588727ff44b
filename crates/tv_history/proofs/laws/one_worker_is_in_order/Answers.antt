use Rattle.tv_history.proofs.InOrder.{in-order, done-in_order}
use Rattle.tv_history.proofs.laws.one_worker_is_in_order.Goals as goal

pub returns : goal.returns
returns c = λ gives flows depth f vs past places fit b. record {
  so_far = in-order gives flows places depth f vs fit past b.legal b.by_one;
  at_end = done-in_order gives flows places depth f vs fit past b.legal b.by_one;
}
