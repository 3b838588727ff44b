use Rattle.std.proofs.Common.{◌≡◌, vec_len}
use Rattle.tv_value.specs.Orders.{in_order, name_cmp}
use Rattle.tv_flow.proofs.Sorting.{put_all}
use Rattle.tv_flow.proofs.names.in_order.Given as goal

abbrev pub decreases-loop-name : goal.decreases-loop-name
decreases-loop-name l = vec_len l.names

abbrev pub invariant-loop-name : goal.invariant-loop-name
invariant-loop-name l = in_order name_cmp l.fn.names ≡ put_all l.names.items l.ordered.items
