use Rattle.std.proofs.Common.{◌≡◌, ℕ, List, Bool, drop}
use Rattle.tv_telling.specs.endings.Counting.{IsCounting}
use Rattle.tv_telling.proofs.endings.endings.Endings.lower_all.Given as goal

abbrev pub invariant-loop-step : goal.invariant-loop-step
invariant-loop-step l = record {
  counting :
      (after dependents : List (List ℕ)) (was : ℕ → Bool) (k : ℕ)
      → IsCounting after dependents was l.initial.self l.steps k → IsCounting after dependents was l.self (drop l.step-index l.steps) k;
  whole : l.self.whole ≡ l.initial.self.whole;
}
