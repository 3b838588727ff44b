use Rattle.std.specs.Prelude.{refl}
use Rattle.tv_history.proofs.Entered.{few-entered}
use Rattle.tv_history.proofs.Still.{few-still, open-busy}
use Rattle.tv_history.proofs.order.laws.few_are_still.Goals as goal

pub returns : goal.returns
returns c = record {
  busy = λ gives d f past l q J o i. let k = open-busy gives d f past l q J o i in record { job = k.0; is_job = k.1; within = k.2; busy = k.3 };
  few = λ gives d f past l q Js a are. few-still gives d f past l q Js a (λ J i. let w = are J i in (w.is_open, w.is_instance, w.still));
  entered = λ gives d f past l q o held are. few-entered gives d f past l q held are o;
  row = (refl, refl, refl, refl);
}
