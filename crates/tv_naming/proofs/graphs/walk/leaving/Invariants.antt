use Rattle.std.proofs.Common.{◌≡◌, ◌<◌, ℕ, [], true}
use Rattle.tv_naming.specs.graphs.Leaving.{IsWalked}
use Rattle.tv_naming.specs.graphs.Walk.{HasMarks, is_entered}
use Rattle.tv_naming.proofs.graphs.walk.leaving.Given as goal

abbrev pub invariant-loop-vertex : goal.invariant-loop-vertex
invariant-loop-vertex l = record {
  marks : HasMarks l.graph l.walk;
  path : l.walk.path.items ≡ [];
  walked : IsWalked l.graph (is_entered l.walk) [] l.walk.left.items;
  entered : (u : ℕ) → u < l.vertex → is_entered l.walk u ≡ true;
}
