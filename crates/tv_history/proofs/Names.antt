-- The test of sameness of names is turned round.
use Rattle.std.specs.Prelude.{Bool, false, refl, true, ◌≡◌}
use Rattle.std.proofs.Common.{sym, ◌∙◌}
use Rattle.tv_value.specs.Orders.{same_job}
use Rattle.tv_value.specs.Values.{JobName}
use Rattle.tv_value.proofs.JobNameLemmas.{same_job_decides}
use Rattle.tv_model.proofs.Tests.{true≠false}

pub same_job-turned : (n m : JobName) → same_job n m ≡ same_job m n
same_job-turned n m = by (same_job n m) (same_job m n) refl refl
  where
    by : (b c : Bool) → same_job n m ≡ b → same_job m n ≡ c → b ≡ c
    by true true h k = refl
    by false false h k = refl
    by true false h k = absurd (true≠false (sym ((same_job_decides m n).1 (sym ((same_job_decides n m).0 h))) ∙ k))
    by false true h k = absurd (true≠false (sym ((same_job_decides n m).1 (sym ((same_job_decides m n).0 k))) ∙ h))
