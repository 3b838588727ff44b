use Rattle.tv_forest.proofs.tries.Tries.{asks-plan, asks-step, few}
use Rattle.tv_forest.proofs.laws.tries.asks_are_of_steps.Goals as goal

pub returns : goal.returns
returns c = record {
  step = λ gives d past j s k own h. asks-step gives d j s own past k h;
  plan = λ gives d past j s p k own w h. asks-plan gives d j s own past p k w h;
  few = few;
}
