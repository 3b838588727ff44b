use Rattle.std.proofs.Common.{◌≡◌, ◌+◌, ℕ, not, true, vec_len}
use Rattle.std.specs.List.{count_by}
use Rattle.tv_naming.specs.graphs.Leaving.{IsWalked}
use Rattle.tv_naming.specs.graphs.Walk.{HasMarks, is_entered}
use Rattle.tv_naming.proofs.graphs.walk.Walk.walk_from.Given as goal

abbrev pub invariant-loop-next : goal.invariant-loop-next
invariant-loop-next l = record {
  marks : HasMarks l.graph l.self;
  walked : IsWalked l.graph (is_entered l.self) l.self.path.items l.self.left.items;
  entered : (u : ℕ) → is_entered l.fn.self u ≡ true → is_entered l.self u ≡ true;
  itself : is_entered l.self l.vertex ≡ true;
}

abbrev pub decreases-loop-next : goal.decreases-loop-next
decreases-loop-next l = count_by not l.self.entered.items + count_by not l.self.entered.items + vec_len l.self.path
