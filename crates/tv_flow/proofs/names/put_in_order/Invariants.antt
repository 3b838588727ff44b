use Rattle.std.proofs.Common.{◌≡◌}
use Rattle.tv_flow.proofs.Sorting.{put, put_from}
use Rattle.tv_flow.proofs.names.put_in_order.Given as goal

abbrev pub invariant-loop-index : goal.invariant-loop-index
invariant-loop-index l = put l.initial.name l.initial.names.items ≡ put_from l.name l.index l.names.items
