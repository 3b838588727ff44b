-- The totals of a run that stands.
use Rattle.std.specs.Prelude.{◌≡◌, ℕ, count_by, filter, length}
use Rattle.std.proofs.Common.{sym, ◌∙◌}
use Rattle.tv_gate.specs.Outcomes.{Giving}
use Rattle.tv_model.specs.Totals as model
use Rattle.tv_history.specs.Histories.{is_settled}
use Rattle.tv_history.specs.Calls.{totals_so_far}
use Rattle.tv_history.specs.Counted.{is_acceptance, is_bounce}
use Rattle.tv_history.specs.Runs.{meant, past_of}
use Rattle.tv_history.proofs.Totals.{accepted-told, bounced-told}
use Rattle.tv_run.specs.Standing.{StandsStill, run_of}
use Rattle.tv_run.specs.declared.run.OpenRun.{OpenRun}

abbrev of_counts : ℕ → ℕ → ℕ → ℕ → model.Totals
of_counts a b f k = record { attempts = a; bounced = b; failed = f; jobs = k }

pub totals-are :
    (gives : Giving) (r : OpenRun) → StandsStill gives r
    → (a b k : ℕ) → a ≡ count_by is_acceptance r.entries.items → b ≡ count_by is_bounce r.entries.items
    → k ≡ length (filter (is_settled (past_of (run_of r))) (meant gives (run_of r)).jobs)
    → of_counts a b r.failed k ≡ totals_so_far gives (run_of r)
totals-are gives r st a b k ea eb ek = λ i.
    of_counts ((ea ∙ sym (accepted-told (run_of r))) i) ((eb ∙ sym (bounced-told (run_of r))) i) (st.1.failed_is i) (ek i)
