-- The bounds within which indices of children stand.
use Rattle.std.specs.Prelude.{ℕ, ◌+◌, ◌<◌}
use Rattle.std.proofs.Common.{arith}
use Rattle.tv_value.specs.Strategies.{Strategy, Strategies, strategy}
use Rattle.tv_value.specs.Values.{Name}
use Rattle.tv_strategy.specs.Conditions.{sum_over}
use Rattle.tv_strategy.specs.Measures.{all_leaf_names, leaf_names, strategy_depth, sum_of_depths}
use Rattle.tv_strategy.proofs.Measures.{depth-small, sum-small, sum_over-append}

-- where all of a list of children stand below n from an index on
pub record AreBelow (ports : Name → ℕ) (c : Strategy) (cs : Strategies) (start n : ℕ) : Type 0 where
  pub first : start + sum_over ports (leaf_names c) < n
  pub end : start + strategy_depth ports c < n
  pub rest : start + strategy_depth ports c + sum_over ports (all_leaf_names cs) < n
  pub others : start + sum_over ports (all_leaf_names cs) < n
  pub depth : strategy_depth ports c + sum_of_depths ports cs < n

pub below : (ports : Name → ℕ) (c : Strategy) (cs : Strategies) (start n : ℕ) → start + sum_over ports (all_leaf_names (strategy c cs)) < n → AreBelow ports c cs start n
below ports c cs start n h =
    let a = sum_over-append ports (leaf_names c) (all_leaf_names cs) in
    let d = depth-small ports c in
    let e = sum-small ports cs in
    record { first = omega arith; end = omega arith; rest = omega arith; others = omega arith; depth = omega arith }
