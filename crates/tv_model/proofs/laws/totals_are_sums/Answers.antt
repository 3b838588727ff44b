use Rattle.std.proofs.Common.{refl}
use Rattle.tv_model.proofs.TotalLemmas.{attempts-sum, passing-count}
use Rattle.tv_model.specs.Turns.{is_bounced, is_failed}
use Rattle.tv_model.proofs.laws.totals_are_sums.Goals as goal

pub returns : goal.returns
returns c = λ js. record {
  attempts = attempts-sum js;
  bounced = passing-count (λ j. is_bounced j.ending) js;
  failed = passing-count (λ j. is_failed j.ending) js;
  jobs = refl;
}
