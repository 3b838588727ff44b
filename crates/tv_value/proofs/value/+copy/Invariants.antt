use Rattle.std.proofs.Common.{◌≡◌, take, map}
use Rattle.tv_value.specs.Views.{view}
use Rattle.tv_value.proofs.value.+copy.Given as goal

abbrev pub invariant-Items::copy-loop-value : goal.invariant-Items::copy-loop-value
invariant-Items::copy-loop-value l = map view l.values.items ≡ map view (take l.value-index l.value-items)
