use Rattle.tv_history.proofs.Ready.{AnyNumber}
use Rattle.tv_model.specs.Meanings.{meaning}
use Rattle.tv_history.proofs.Documents.{any-whole, nothing-at_end}
use Rattle.tv_history.proofs.First.{going-open, open-running, opener-waits, outer-open}
use Rattle.tv_history.proofs.order.laws.open_instances.Goals as goal

pub returns : goal.returns
returns c = record {
  openers = λ gives d past l j i h. record {
    in_open = outer-open gives AnyNumber (meaning gives d) (any-whole gives d) past l j i h;
    running = open-running gives AnyNumber (meaning gives d) (any-whole gives d) past l j i h;
    waits = opener-waits gives AnyNumber (meaning gives d) (any-whole gives d) past l j i h;
  };
  inside = λ gives d past l j i h. going-open gives AnyNumber (meaning gives d) (any-whole gives d) past l j i h;
  ended = λ gives d past l e. nothing-at_end gives d past l e;
}
