-- Bounces.
use Rattle.std.specs.Prelude.{◌≡◌, ◌&&◌, Bool, true, false, refl}
use Rattle.std.proofs.Common.{ap, ◌∙◌}
use Rattle.tv_lemmas.specs.Members.{In}
use Rattle.tv_lemmas.proofs.Cases.{on_test}
use Rattle.tv_gate.specs.Outcomes.{Giving}
use Rattle.tv_flow.specs.Flows.{Document}
use Rattle.tv_model.specs.Jobs.{Job}
use Rattle.tv_model.specs.Meanings.{meaning}
use Rattle.tv_model.specs.Turns.{is_bounced}
use Rattle.tv_model.proofs.Tests.{both_true}
use Rattle.tv_history.specs.Entries.{History, bounced}
use Rattle.tv_history.specs.Histories.{can_bounce, is_at, is_legal_after, is_ready}
use Rattle.tv_history.specs.order.offers.Ends.{BouncesNothing}
use Rattle.tv_history.proofs.offers.Runs.{any-of, none-of}
use Rattle.tv_value.proofs.JobNameLemmas.{same_job_decides}

module _ (gives : Giving) (d : Document) where
  pub bounce-legal : (past : History) (j : Job) → In j (meaning gives d).jobs → is_ready (meaning gives d) past j ≡ true → is_bounced j.ending ≡ true → is_legal_after gives (meaning gives d) past (bounced j.name) ≡ true
  bounce-legal past j i ready bounces =
      any-of (λ k. is_at k j.name && can_bounce (meaning gives d) past k) (meaning gives d).jobs j i
      (both_true (is_at j j.name) (can_bounce (meaning gives d) past j) ((same_job_decides j.name j.name).1 refl) (both_true (is_ready (meaning gives d) past j) (is_bounced j.ending) ready bounces))

  pub none-bounces : (past : History) → ((j : Job) → In j (meaning gives d).jobs → is_ready (meaning gives d) past j ≡ true → is_bounced j.ending ≡ false) → BouncesNothing gives d past
  none-bounces past h = record {
    none = none-of (can_bounce (meaning gives d) past) (meaning gives d).jobs not-one;
    illegal = λ n.
        none-of (λ k. is_at k n && can_bounce (meaning gives d) past k) (meaning gives d).jobs
        (λ k i. ap (λ b. is_at k n && b) (not-one k i) ∙ and-false (is_at k n));
  }
    where
      and-false : (b : Bool) → (b && false) ≡ false
      and-false true = refl
      and-false false = refl

      not-one : (j : Job) → In j (meaning gives d).jobs → can_bounce (meaning gives d) past j ≡ false
      not-one j i =
          on_test (is_ready (meaning gives d) past j)
          (λ r. ap (λ b. is_ready (meaning gives d) past j && b) (h j i r) ∙ and-false (is_ready (meaning gives d) past j))
          (λ r. ap (λ b. b && is_bounced j.ending) r)
