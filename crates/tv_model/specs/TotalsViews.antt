-- The totals that a `Totals` stands for.
use Rattle.tv_model.specs.declared.totals.Totals.{Totals}
use Rattle.tv_model.specs.Totals as spec

abbrev pub totals_view : Totals → spec.Totals
totals_view t = record {
  attempts = t.attempts;
  bounced = t.bounced;
  failed = t.failed;
  jobs = t.jobs;
}
