-- The part of a job's place that is of a port.
use Rattle.std.specs.Prelude.{◌≡◌, ℕ, ◌+◌, ◌≤◌, List, drop, length, take, Some, slice_get}
use Rattle.tv_value.specs.Nested.{Place}
use Rattle.tv_value.specs.Values.{Name}
use Rattle.tv_value.specs.Views.{strategy_view}
use Rattle.tv_strategy.specs.Conditions.{number_of}
use Rattle.tv_strategy.specs.Splits.{split}
use Rattle.tv_check.specs.declared.ports.Port.{Port}
use Rattle.tv_binding.specs.declared.jobs.StepPorts.{StepPorts}

-- it begins where the port's leaf does, and has as many indices as the port iterates levels
pub record IsPartOf (s : StepPorts) (q : Place) (starts : List ℕ) (p : Port) : Type 0 where
  pub start : ℕ
  pub begins : slice_get starts p.leaf ≡ Some start
  pub fits : start + p.levels ≤ length q
  pub leaf : Name
  pub part : slice_get (split (number_of s.mismatch.now) (strategy_view s.tree.now) q) p.leaf
      ≡ Some (leaf, take p.levels (drop start q))
