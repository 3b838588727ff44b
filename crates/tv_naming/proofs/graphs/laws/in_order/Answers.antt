use Rattle.std.proofs.Common.{[], refl}
use Rattle.tv_naming.proofs.Arranged.{by_least-IsArranged, arranged-after, arranged-once}
use Rattle.tv_naming.proofs.graphs.laws.in_order.Goals as goal

pub returns : goal.returns
returns c = record {
  after = λ g i h. arranged-after g _ [] (by_least-IsArranged g) refl i h;
  once = λ g i j less h e. arranged-once g _ [] (by_least-IsArranged g) i j less h e;
}
