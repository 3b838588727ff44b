-- The totals of a run: sums over its jobs.
use Rattle.std.specs.Prelude.{List, filter, flat_map, length, ℕ}
use Rattle.tv_model.specs.Jobs.{Job}
use Rattle.tv_model.specs.Turns.{is_bounced, is_failed}

-- the totals of a run
pub record Totals : Type 0 where
  pub attempts : ℕ
  pub bounced : ℕ
  pub failed : ℕ
  pub jobs : ℕ

abbrev pub totals : List Job → Totals
totals js =
    record {
      attempts = length (flat_map (λ j. j.asks) js);
      bounced = length (filter (λ j. is_bounced j.ending) js);
      failed = length (filter (λ j. is_failed j.ending) js);
      jobs = length js;
    }
