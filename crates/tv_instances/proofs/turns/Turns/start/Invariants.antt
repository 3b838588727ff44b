use Rattle.std.specs.Prelude.{length, ◌-◌}
use Rattle.tv_instances.proofs.TurnLemmas.{AreFilled}
use Rattle.tv_instances.proofs.turns.Turns.start.Given as goal

abbrev pub invariant-loop-done : goal.invariant-loop-done
invariant-loop-done l = AreFilled l.order l.self.positions.items l.steps (length l.order - l.done)
