use Rattle.std.proofs.Common.{◌≡◌, false, take}
use Rattle.std.specs.List.{list_any}
use Rattle.tv_value.specs.Values.{holds_fault}
use Rattle.tv_value.specs.Views.{view}
use Rattle.tv_value.proofs.value.+holds_fault.Given as goal

abbrev pub invariant-Items::hold_fault-loop-value : goal.invariant-Items::hold_fault-loop-value
invariant-Items::hold_fault-loop-value l = list_any (λ v. holds_fault (view v)) (take l.value-index l.value-items) ≡ false
