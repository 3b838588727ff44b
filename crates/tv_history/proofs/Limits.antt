-- At most so many jobs of a step run in an instance as the step says, in every legal history.
use Rattle.std.specs.Prelude.{◌≡◌, refl, ℕ, suc, ◌<◌, ◌≤◌, ◌⊎◌, [], ◌∷◌, Bool, true, false, not, ◌&&◌, count_by}
use Rattle.std.specs.List.{list_any}
use Rattle.std.specs.Cmp.Lexicographic.{bytes_decides}
use Rattle.std.proofs.Common.{arith, sym, ap, subst, ◌∙◌, inl, inr}
use Rattle.std.proofs.lemmas.Bool.{ltb-true, not-true}
use Rattle.std.specs.Cmp.{first_so, second_so}
use Rattle.tv_lemmas.specs.Members.{In}
use Rattle.tv_lemmas.proofs.Members.{each_in, some_in}
use Rattle.tv_history.proofs.Legal.{legal-of}
use Rattle.tv_lemmas.proofs.Cases.{on_test, on_either, on_or}
use Rattle.tv_value.specs.Orders.{same_job, same_name}
use Rattle.tv_value.proofs.JobNameLemmas.{same_job_decides}
use Rattle.tv_gate.specs.Outcomes.{Giving}
use Rattle.tv_flow.specs.Flows.{Document}
use Rattle.tv_model.specs.Jobs.{Job}
use Rattle.tv_model.specs.Made.{Meaning}
use Rattle.tv_model.specs.Meanings.{meaning, nesting_limit}
use Rattle.tv_model.specs.Turns.{is_bounced}
use Rattle.tv_model.proofs.Tests.{true≠false, both_true}
use Rattle.tv_history.specs.Entries.{Entry, History, handed_out, is_begun_entry, opened}
use Rattle.tv_history.specs.Histories.{has_open_instance, has_place, is_idle, is_legal, is_legal_after, is_ready, is_running, is_settled}
use Rattle.tv_history.proofs.Needs.{stays_settled}
use Rattle.tv_history.proofs.Running.{begins, idle_begun}
use Rattle.tv_history.proofs.Ready.{AnyNumber, all-sound, are-jobs}
use Rattle.tv_history.proofs.Tests.{none_pass}
use Rattle.tv_history.proofs.Counts.{count-tally, tally}
use Rattle.tv_history.proofs.OrderLemmas.{IsPlainJob}
use Rattle.tv_model.specs.JobOrder.{limit_at}
use Rattle.tv_history.proofs.Tallies.{tally-none, tally-one_more, tally-weaken}
use Rattle.tv_history.proofs.First.{open-running}
use Rattle.tv_history.proofs.Documents.{any-whole, orderly}

module _ (gives : Giving) (d : Document) where
  abbrev m : Meaning
  m = meaning gives d

  abbrev of_step : Job → Job → Bool
  of_step j k = same_job k.instance j.instance && same_name k.step j.step

  -- how many jobs of j's step run in its instance
  abbrev runs : History → Job → Job → Bool
  runs past j k = same_job k.instance j.instance && same_name k.step j.step && is_running past k

  -- jobs of one step in one instance have one limit
  pub same-limit : (j k : Job) → In j m.jobs → In k m.jobs → of_step j k ≡ true → k.limit ≡ j.limit
  same-limit j k h i e = by (orderly gives d).plain
    where
      by : ((z : Job) → In z m.jobs → IsPlainJob gives d.flows nesting_limit d.main [] z) → k.limit ≡ j.limit
      by f =
          let a = f j h in
          let b = f k i in
          let s = (same_job_decides k.instance j.instance).0 (first_so (same_job k.instance j.instance) (same_name k.step j.step) e) in
          let t = (bytes_decides k.step j.step).0 (second_so (same_job k.instance j.instance) (same_name k.step j.step) e) in
          b.4 ∙ ap (λ n. limit_at d.flows nesting_limit d.main n k.step) (sym b.2 ∙ s ∙ a.2) ∙ ap (λ n. limit_at d.flows nesting_limit d.main a.0 n) t ∙ sym a.4

  -- it is the one that the document states
  pub stated-limit : (j : Job) → In j m.jobs → j.limit ≡ limit_at d.flows nesting_limit d.main j.instance j.step
  stated-limit j h = by (orderly gives d).plain
    where
      by : ((z : Job) → In z m.jobs → IsPlainJob gives d.flows nesting_limit d.main [] z) → j.limit ≡ limit_at d.flows nesting_limit d.main j.instance j.step
      by f = let a = f j h in a.4 ∙ ap (λ n. limit_at d.flows nesting_limit d.main n j.step) (sym a.2)

  -- to run at the same step is to run at the same step
  same-count : (past : History) (j k : Job) → of_step j k ≡ true → tally (runs past j) m.jobs ≤ tally (runs past k) m.jobs
  same-count past j k e = tally-weaken (runs past j) (runs past k) m.jobs (λ x i h. step x h)
    where
      s : k.instance ≡ j.instance
      s = (same_job_decides k.instance j.instance).0 (first_so (same_job k.instance j.instance) (same_name k.step j.step) e)

      t : k.step ≡ j.step
      t = (bytes_decides k.step j.step).0 (second_so (same_job k.instance j.instance) (same_name k.step j.step) e)

      step : (x : Job) → runs past j x ≡ true → runs past k x ≡ true
      step x h = subst (λ n. (same_job x.instance n && same_name x.step k.step && is_running past x) ≡ true) (sym s) (subst (λ n. (same_job x.instance j.instance && same_name x.step n && is_running past x) ≡ true) (sym t) h)

  ran-before : (past : History) (e : Entry) (j : Job) → is_running (e ∷ past) j ≡ true → (is_running past j ≡ true) ⊎ (is_begun_entry j.name e ≡ true)
  ran-before past e j h = on_or (is_begun_entry j.name e) (list_any (is_begun_entry j.name) past) (first_so (list_any (is_begun_entry j.name) (e ∷ past)) (not (is_settled (e ∷ past) j)) h) (λ b. inr b) (λ b. inl (both_true (list_any (is_begun_entry j.name) past) (not (is_settled past j)) b (ap not (unsettled (not-true (is_settled (e ∷ past) j) (second_so (list_any (is_begun_entry j.name) (e ∷ past)) (not (is_settled (e ∷ past) j)) h)) (is_settled past j) refl))))
    where
      unsettled : is_settled (e ∷ past) j ≡ false → (b : Bool) → is_settled past j ≡ b → is_settled past j ≡ false
      unsettled f false g = g
      unsettled f true g = absurd (true≠false (sym (stays_settled gives m e past j g) ∙ f))

  once : (j k : Job) → In j m.jobs → In k m.jobs → j.name ≡ k.name → j ≡ k
  once = (are-jobs gives AnyNumber m [] (any-whole gives d)).once

  same-entry : (e : Entry) (j k : Job) → In j m.jobs → In k m.jobs → is_begun_entry j.name e ≡ true → is_begun_entry k.name e ≡ true → j ≡ k
  same-entry (handed_out n c t) j k i h a b = once j k i h ((same_job_decides j.name n).0 a ∙ sym ((same_job_decides k.name n).0 b))
  same-entry (opened n) j k i h a b = once j k i h ((same_job_decides j.name n).0 a ∙ sym ((same_job_decides k.name n).0 b))
  same-entry e j k i h a b = absurd (true≠false (sym a))

  -- begins with e, and runs at j's step
  abbrev begins-at : Entry → History → Job → Job → Bool
  begins-at e past j k = of_step j k && (is_begun_entry k.name e && not (is_running past k))

  within : (past : History) → is_legal gives m past ≡ true → (j : Job) → In j m.jobs → tally (runs past j) m.jobs ≤ j.limit
  within [] l j i = omega (arith, tally-none (runs [] j) m.jobs (λ k h. idle k (runs [] j k) refl))
    where
      idle : (k : Job) → (b : Bool) → runs [] j k ≡ b → runs [] j k ≡ false
      idle k false e = e
      idle k true e = absurd (true≠false (sym (second_so (of_step j k) (is_running [] k) e)))
  within (e ∷ past) l j i = on_test (list_any (begins-at e past j) m.jobs) (λ f. let k = some_in (begins-at e past j) m.jobs f in one-more k.0 k.1 k.2) (λ f. omega (arith, tally-weaken (runs (e ∷ past) j) (runs past j) m.jobs (as-before f), (within past legal j i)))
    where
      legal : is_legal gives m past ≡ true
      legal = first_so (is_legal gives m past) (is_legal_after gives m past e) l

      after : is_legal_after gives m past e ≡ true
      after = second_so (is_legal gives m past) (is_legal_after gives m past e) l

      as-before : list_any (begins-at e past j) m.jobs ≡ false → (k : Job) → In k m.jobs → runs (e ∷ past) j k ≡ true → runs past j k ≡ true
      as-before none k h r = on_either (ran-before past e k (second_so (of_step j k) (is_running (e ∷ past) k) r)) (λ f. both_true (of_step j k) (is_running past k) at-step f) (λ f. both_true (of_step j k) (is_running past k) at-step (running-now f (is_running past k) refl))
        where
          at-step : of_step j k ≡ true
          at-step = first_so (of_step j k) (is_running (e ∷ past) k) r

          running-now : is_begun_entry k.name e ≡ true → (b : Bool) → is_running past k ≡ b → is_running past k ≡ true
          running-now g true f = f
          running-now g false f = absurd (true≠false (sym (both_true (of_step j k) (is_begun_entry k.name e && not (is_running past k)) at-step (both_true (is_begun_entry k.name e) (not (is_running past k)) g (ap not f))) ∙ each_in (λ z. begins-at e past j z ≡ false) m.jobs (none_pass (begins-at e past j) m.jobs none) k h))

      one-more : (k : Job) → In k m.jobs → begins-at e past j k ≡ true → tally (runs (e ∷ past) j) m.jobs ≤ j.limit
      one-more k h b = omega (arith, more, same-count past j k at-step, free, same-limit j k i h at-step)
        where
          at-step : of_step j k ≡ true
          at-step = first_so (of_step j k) (is_begun_entry k.name e && not (is_running past k)) b

          begun : is_begun_entry k.name e ≡ true
          begun = first_so (is_begun_entry k.name e) (not (is_running past k)) (second_so (of_step j k) (is_begun_entry k.name e && not (is_running past k)) b)

          not-running : is_running past k ≡ false
          not-running = not-true (is_running past k) (second_so (is_begun_entry k.name e) (not (is_running past k)) (second_so (of_step j k) (is_begun_entry k.name e && not (is_running past k)) b))

          free : tally (runs past k) m.jobs < k.limit
          free = subst (λ n. n < k.limit) (count-tally (runs past k) m.jobs) (ltb-true (count_by (runs past k) m.jobs) k.limit (on_or (is_idle past k) (is_ready m past k && not (is_bounced k.ending) && has_place m past k) (begins gives m (all-sound gives AnyNumber m [] (any-whole gives d)) (are-jobs gives AnyNumber m [] (any-whole gives d)) past k h (legal-of gives m past e after) begun) (λ q. let r = idle_begun gives m (all-sound gives AnyNumber m [] (any-whole gives d)) (are-jobs gives AnyNumber m [] (any-whole gives d)) past k q in absurd (true≠false (sym (both_true (list_any (is_begun_entry k.name) past) (not (is_settled past k)) r.0 (ap not r.1)) ∙ not-running))) (λ q. second_so (is_ready m past k && not (is_bounced k.ending)) (has_place m past k) q)))

          more : tally (runs (e ∷ past) j) m.jobs ≤ suc (tally (runs past j) m.jobs)
          more = tally-one_more (λ (z : Job). z.name) (runs (e ∷ past) j) (runs past j) k m.jobs (any-whole gives d).jobs_apart (λ x u r. cases x u r (ran-before past e x (second_so (of_step j x) (is_running (e ∷ past) x) r)))
            where
              cases : (x : Job) → In x m.jobs → runs (e ∷ past) j x ≡ true → (is_running past x ≡ true) ⊎ (is_begun_entry x.name e ≡ true) → (runs past j x ≡ true) ⊎ (x ≡ k)
              cases x u r (inl f) = inl (both_true (of_step j x) (is_running past x) (first_so (of_step j x) (is_running (e ∷ past) x) r) f)
              cases x u r (inr f) = inr (same-entry e x k u h f begun)

  -- of a step at most its limit run in an instance
  pub running-limit : (past : History) → is_legal gives m past ≡ true → (j : Job) → In j m.jobs → count_by (λ k. same_job k.instance j.instance && same_name k.step j.step && is_running past k) m.jobs ≤ j.limit
  running-limit past l j i = subst (λ n. n ≤ j.limit) (sym (count-tally (runs past j) m.jobs)) (within past l j i)

  -- and of these at most as many have an open instance
  pub open-limit : (past : History) → is_legal gives m past ≡ true → (j : Job) → In j m.jobs → count_by (λ k. same_job k.instance j.instance && same_name k.step j.step && has_open_instance past k) m.jobs ≤ j.limit
  open-limit past l j i = subst (λ n. n ≤ j.limit) (sym (count-tally (λ k. same_job k.instance j.instance && same_name k.step j.step && has_open_instance past k) m.jobs)) (through (tally (λ k. same_job k.instance j.instance && same_name k.step j.step && has_open_instance past k) m.jobs) (tally (runs past j) m.jobs) j.limit (tally-weaken (λ k. same_job k.instance j.instance && same_name k.step j.step && has_open_instance past k) (runs past j) m.jobs (λ k h e. both_true (of_step j k) (is_running past k) (first_so (of_step j k) (has_open_instance past k) e) (open-running gives AnyNumber m (any-whole gives d) past l k h (second_so (of_step j k) (has_open_instance past k) e)))) (within past l j i))
    where
      through : (a b c : ℕ) → a ≤ b → b ≤ c → a ≤ c
      through a b c h k = omega arith
