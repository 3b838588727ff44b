use Rattle.tv_dispatch.proofs.Folded.{follows-taken}
use Rattle.tv_dispatch.proofs.laws.steps_are_the_fold.Goals as goal

pub returns : goal.returns
returns c = record {
  asks = λ p gives as' vs ds e. (follows-taken p gives as' vs ds e).0;
  end = λ p gives as' vs ds e. (follows-taken p gives as' vs ds e).1;
}
