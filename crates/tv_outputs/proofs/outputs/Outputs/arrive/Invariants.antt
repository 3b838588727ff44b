use Rattle.std.proofs.Common.{◌≡◌, ◌+◌, length}
use Rattle.tv_outputs.proofs.Turning.{Arriving}
use Rattle.tv_outputs.proofs.outputs.Outputs.arrive.Given as goal

abbrev pub invariant-loop-piece : goal.invariant-loop-piece
invariant-loop-piece l = record {
  number : l.number ≡ l.fn.first + length l.yielded;
  arriving : Arriving l.fn.pool l.pool l.region l.fn.self.trees.items l.self.trees.items l.fn.first l.place l.yielded;
}
