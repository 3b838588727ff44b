use Rattle.tv_history.proofs.Limits.{open-limit, running-limit, same-limit, stated-limit}
use Rattle.tv_history.proofs.order.laws.limits.Goals as goal

pub returns : goal.returns
returns c = record {
  kept = λ gives d past l j i. record { running = running-limit gives d past l j i; open_within = open-limit gives d past l j i };
  one = λ gives d j k i h e. same-limit gives d j k i h e;
  stated = λ gives d j i. stated-limit gives d j i;
}
