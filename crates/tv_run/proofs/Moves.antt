-- The first job that goes on, where nothing can be settled: with a try next it is the first on offer.
use Rattle.std.specs.Prelude.{◌≡◌, refl, ℕ, true, None, Some, find}
use Rattle.std.proofs.Common.{subst, ◌∙◌}
use Rattle.tv_gate.specs.Outcomes.{Giving}
use Rattle.tv_check.specs.RunViews.{run_view}
use Rattle.tv_model.specs.Meanings.{meaning}
use Rattle.tv_history.specs.Entries as history
use Rattle.tv_history.specs.order.Moments.{all_jobs}
use Rattle.tv_history.proofs.Handing.{first-same}
use Rattle.tv_history.specs.Calls.{IsNothingOffered, NothingSettles, hands_out}
use Rattle.tv_history.specs.Runs.{Appends, Run, past_of}
use Rattle.tv_history.specs.declared.told.Moved.{Moved}
use Rattle.tv_history.specs.declared.told.Moved.TheVariants as moved
use Rattle.tv_instances.specs.declared.firsts.Seeking.TheVariants as seeking
use Rattle.tv_run.specs.Settlements.{GoesOnFirst, IsQuietRun}
use Rattle.tv_run.specs.Standing.{StandsOpen, run_of}
use Rattle.tv_run.specs.Turns.{MovesTo, StaysAs}
use Rattle.tv_run.specs.Walking.{IsFound, passes}
use Rattle.tv_run.specs.declared.run.OpenRun.{OpenRun}
use Rattle.tv_run.proofs.FlowsFirst.{nothing-goes}
use Rattle.tv_run.proofs.HandingLemmas.{none-found}
use Rattle.tv_run.proofs.Settled.{settles-from, stays-from}

-- the first on offer is the first that goes on
module _ (gives : Giving) (r : OpenRun) (quiet : IsQuietRun gives r) (none : NothingSettles gives (run_of r)) where
  same-first :
      find (passes gives r seeking.Offers) (all_jobs gives (run_view r.run))
      ≡ find (passes gives r seeking.All) (all_jobs gives (run_view r.run))
  same-first =
      first-same gives (meaning gives (run_view r.run)) (past_of (run_of r)) quiet (λ n. none (history.opened n) refl)

-- with a try next, it is found among those on offer
module _ (gives : Giving) (r : OpenRun) (k : ℕ) (q : GoesOnFirst gives r k) where
  pub offered-first : NothingSettles gives (run_of r) → IsFound gives r q.instances seeking.Offers (Some k)
  offered-first none = (q.job, same-first gives r q.quiet none ∙ q.first, q.may)

-- and where none goes on, none is on offer
pub rests : (gives : Giving) (r : OpenRun) (so : StandsOpen gives r) → IsQuietRun gives r
    → IsFound gives r so.0 seeking.All None → MovesTo gives r r moved.Nothing
rests gives r so quiet found =
    let none = (nothing-goes gives r so quiet found).1 in
    (none-found gives r so (λ xs st. same-first gives r quiet none ∙ found), none)

-- ---- from a run that is the same but for rooms

pub moves-from : (gives : Giving) (q r s : OpenRun) (m : Moved) → StaysAs gives q r → MovesTo gives r s m → MovesTo gives q s m
moves-from gives q r s moved.Settled g h = settles-from gives q r s true g h
moves-from gives q r s (moved.HandedOut t) g h = (
  (
    record { stands = h.0.0.stands; appends = subst (λ x. Appends x (run_of s) (hands_out t)) g.same h.0.0.appends },
    subst (λ (x : Run). (run_of s).names ≡ x.names) g.same h.0.1,
  ),
  subst (NothingSettles gives) g.same h.1,
)
moves-from gives q r s moved.Nothing g h = (
  (stays-from gives q r s g h.0.0, subst (IsNothingOffered gives) g.same h.0.1),
  subst (NothingSettles gives) g.same h.1,
)
