use Rattle.std.proofs.Common.{◌≡◌, ◌-◌, [], length}
use Rattle.tv_telling.specs.endings.Counting.{IsCounting}
use Rattle.tv_telling.specs.endings.Ends.{has_ended}
use Rattle.tv_telling.proofs.endings.endings.Endings.set_whole.Given as goal

abbrev pub invariant-loop-done : goal.invariant-loop-done
invariant-loop-done l = record {
  counting : IsCounting l.wiring.after l.wiring.dependents (has_ended l.fn.self) l.self [] l.done;
  whole : l.self.whole ≡ l.initial.self.whole;
}

abbrev pub decreases-loop-done : goal.decreases-loop-done
decreases-loop-done l = length l.wiring.after - l.done
