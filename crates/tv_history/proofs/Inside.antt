-- A job inside a job runs only once that one has opened its flow, and is settled once that one is.
use Rattle.std.specs.Prelude.{◌≡◌, [], ◌∷◌, true, false, not, ◌&&◌, is_some}
use Rattle.std.specs.List.{list_any}
use Rattle.std.proofs.Common.{sym, subst, ◌∙◌}
use Rattle.std.specs.Cmp.{first_so}
use Rattle.tv_lemmas.specs.Members.{In}
use Rattle.tv_history.proofs.Legal.{last-legal}
use Rattle.tv_lemmas.proofs.Cases.{on_either, on_or}
use Rattle.tv_gate.specs.Outcomes.{Giving}
use Rattle.tv_model.specs.Jobs.{Job}
use Rattle.tv_model.specs.Made.{Meaning}
use Rattle.tv_model.specs.Turns.{is_bounced}
use Rattle.tv_history.specs.Entries.{History, is_begun_entry, is_opened_entry, is_ended_entry}
use Rattle.tv_history.specs.Histories.{is_settled, all_known, is_open, is_running, is_legal, is_legal_after}
use Rattle.tv_model.proofs.Tests.{true≠false, or_right}
use Rattle.tv_history.proofs.Running.{opened_begins, begins, going_on, idle_begun}
use Rattle.tv_model.proofs.Whole.{IsWhole}
use Rattle.tv_history.proofs.Ready.{all-sound, are-jobs}
use Rattle.tv_history.proofs.Done.{ended-all, opener-ended}
use Rattle.tv_history.proofs.Stuck.{AtLeastOne}
use Rattle.tv_history.proofs.Tests.{any_weaken}

module _ (gives : Giving) (m : Meaning) (w : IsWhole gives AtLeastOne m []) where
  -- where a job was begun, the job that its instance is of had opened its flow
  pub instance-opened : (past : History) → is_legal gives m past ≡ true → (j p : Job) → In j m.jobs → In p m.jobs → p.name ≡ j.instance → list_any (is_begun_entry j.name) past ≡ true → list_any (is_opened_entry p.name) past ≡ true
  instance-opened [] l j p i h s b = absurd (true≠false (sym b))
  instance-opened (e ∷ past) l j p i h s b =
      or_right (is_opened_entry p.name e) (list_any (is_opened_entry p.name) past) (on_or (is_begun_entry j.name e) (list_any (is_begun_entry j.name) past) b (λ k. on_either (going_on gives m (all-sound gives AtLeastOne m [] w) (are-jobs gives AtLeastOne m [] w) past j (begins gives m (all-sound gives AtLeastOne m [] w) (are-jobs gives AtLeastOne m [] w) past j i (last-legal gives m past e l) k)) (λ q. (instance-opened past legal j p i h s (idle_begun gives m (all-sound gives AtLeastOne m [] w) (are-jobs gives AtLeastOne m [] w) past j q).0)) (λ q. was_open (first_so (is_open past j.instance) (not (is_running past j)) (first_so (is_open past j.instance && not (is_running past j)) (not (is_settled past j)) (first_so (is_open past j.instance && not (is_running past j) && not (is_settled past j)) (all_known m past j.waits) q))))) (λ k. instance-opened past legal j p i h s k))
    where
      legal : is_legal gives m past ≡ true
      legal = first_so (is_legal gives m past) (is_legal_after gives m past e) l

      was_open : is_open past j.instance ≡ true → list_any (is_opened_entry p.name) past ≡ true
      was_open o =
          let c = (are-jobs gives AtLeastOne m [] w).has_name p h in
          subst (λ n. list_any (is_opened_entry n) past ≡ true) (sym c.2) (first_so (list_any (is_opened_entry (c.0 ∷ c.1)) past) (not (list_any (is_ended_entry (c.0 ∷ c.1)) past)) (subst (λ n. is_open past n ≡ true) (sym s ∙ c.2) o))

  pub outer-begun : (past : History) → is_legal gives m past ≡ true → (j p : Job) → In j m.jobs → In p m.jobs → p.name ≡ j.instance → list_any (is_begun_entry j.name) past ≡ true → list_any (is_begun_entry p.name) past ≡ true
  outer-begun past l j p i h s b = any_weaken (is_opened_entry p.name) (is_begun_entry p.name) (opened_begins p.name) past (instance-opened past l j p i h s b)

  -- where a job that opens a flow is settled, the jobs of its flow are
  pub inner-settled : (past : History) → is_legal gives m past ≡ true → (j p : Job) → In j m.jobs → p.name ≡ j.instance → is_some p.opens ≡ true → is_bounced p.ending ≡ false → is_settled past p ≡ true → is_settled past j ≡ true
  inner-settled past l j p i s o b h =
      ended-all gives AtLeastOne m w past l j i (subst (λ n. list_any (is_ended_entry n) past ≡ true) s (opener-ended gives AtLeastOne m w past p o b h))
