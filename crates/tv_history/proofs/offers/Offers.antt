-- What may be handed out.
use Rattle.std.specs.Prelude.{◌≡◌, ◌&&◌, true, false, ℕ, Some, find, refl}
use Rattle.std.specs.Option.{option_map_or}
use Rattle.std.proofs.Common.{ap, ◌∙◌}
use Rattle.tv_lemmas.specs.Members.{In}
use Rattle.tv_gate.specs.Outcomes.{Giving}
use Rattle.tv_flow.specs.Flows.{Document}
use Rattle.tv_model.specs.Jobs.{Job}
use Rattle.tv_model.specs.Meanings.{meaning}
use Rattle.tv_model.proofs.Tests.{both_true}
use Rattle.tv_history.specs.Entries.{History, handed_out}
use Rattle.tv_history.specs.Histories.{is_ask, is_at, is_legal_after, is_offered, next_ask}
use Rattle.tv_history.proofs.First.{find-none}
use Rattle.tv_history.specs.order.offers.Offers.{OffersNothing}
use Rattle.tv_history.proofs.offers.Runs.{none-of}
use Rattle.tv_value.proofs.JobNameLemmas.{same_job_decides}

module _ (gives : Giving) (d : Document) (past : History) where
  pub handing-legal : (j : Job) (a t : ℕ) → find (is_offered (meaning gives d) past) (meaning gives d).jobs ≡ Some j
      → option_map_or (is_ask a t) (next_ask past j) false ≡ true
      → is_legal_after gives (meaning gives d) past (handed_out j.name a t) ≡ true
  handing-legal j a t first asked =
      ap (λ o. option_map_or (λ k. is_at k j.name && option_map_or (is_ask a t) (next_ask past k) false) o false) first
      ∙ both_true (is_at j j.name) (option_map_or (is_ask a t) (next_ask past j) false) ((same_job_decides j.name j.name).1 refl) asked

  pub nothing : ((j : Job) → In j (meaning gives d).jobs → is_offered (meaning gives d) past j ≡ false) → OffersNothing gives d past
  nothing h =
      let none = find-none (is_offered (meaning gives d) past) (meaning gives d).jobs h in
      record {
        none = none-of (is_offered (meaning gives d) past) (meaning gives d).jobs h;
        not_found = none;
        illegal = λ n a t. ap (λ o. option_map_or (λ k. is_at k n && option_map_or (is_ask a t) (next_ask past k) false) o false) none;
      }
