use Rattle.tv_forest.proofs.tries.Jobs.{tried-job}
use Rattle.tv_forest.proofs.tries.Next.{after-is, first-is}
use Rattle.tv_forest.proofs.tries.Tries.{others-keep}
use Rattle.tv_forest.proofs.laws.tries.tries_follow.Goals as goal

pub returns : goal.returns
returns c = record {
  first = λ gives d past j s p formed legal own plan sound none. first-is gives d past legal j s own (tried-job gives d j s own sound) formed none p plan;
  next = λ gives d past j s p k legal own plan asks out. after-is gives d past legal j s own k asks out p plan;
  others = others-keep;
}
