use Rattle.tv_history.proofs.Ready.{AnyNumber, document-whole}
use Rattle.tv_history.proofs.Sums.{settled-failed}
use Rattle.tv_model.specs.Meanings.{meaning}
use Rattle.tv_forest.proofs.tries.Jobs.{limit-of}
use Rattle.tv_forest.proofs.tries.Parts.{own-parts}
use Rattle.tv_forest.proofs.laws.tries.jobs_are_of_steps.Goals as goal

pub returns : goal.returns
returns c = record {
  parts = λ gives d j formed accepted i. own-parts gives d formed accepted j i;
  limit = limit-of;
  totals = λ gives d past j l i s. settled-failed gives AnyNumber (meaning gives d) (document-whole gives d) past l j i s;
}
