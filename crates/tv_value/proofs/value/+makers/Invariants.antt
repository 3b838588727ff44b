use Rattle.std.proofs.Common.{◌≡◌, ◌≤◌, length}
use Rattle.tv_value.specs.Orders.{job_name_cmp, put_all}
use Rattle.tv_value.proofs.Faults.{makers_from}
use Rattle.tv_value.proofs.value.+makers.Given as goal

abbrev pub invariant-Items::put_makers-loop-left : goal.invariant-Items::put_makers-loop-left
invariant-Items::put_makers-loop-left l =
    (l.left ≤ length l.self.values.items) × (l.makers.keys ≡ put_all job_name_cmp (makers_from l.self.values.items l.left) l.fn.makers.keys)

abbrev pub decreases-Items::put_makers-loop-left : goal.decreases-Items::put_makers-loop-left
decreases-Items::put_makers-loop-left l = l.left
