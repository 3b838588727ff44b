-- What a job of an instance gave, and the entries with which it is settled.
use Rattle.std.specs.Prelude.{◌≡◌, refl, ℕ, [], ◌∷◌, Bool, List, true, false, ◌||◌, None, Some, cond, find, if◌then◌else◌, is_none, is_some, map}
use Rattle.std.specs.List.{list_any}
use Rattle.std.specs.Option.{option_map_or}
use Rattle.std.specs.Cmp.Lexicographic.{bytes_decides}
use Rattle.std.proofs.Common.{ap, inl, inr, sym, ◌∙◌}
use Rattle.tv_lemmas.specs.Members.{In}
use Rattle.tv_lemmas.proofs.Members.{each_in, of-flat}
use Rattle.tv_value.specs.Nested.{Place}
use Rattle.tv_value.specs.Orders.{same_job, same_name}
use Rattle.tv_value.specs.Values.{JobName, Name, Value, holds_fault}
use Rattle.tv_value.proofs.JobNameLemmas.{same_job_decides}
use Rattle.tv_gate.specs.Outcomes.{Giving}
use Rattle.tv_flow.specs.Flows.{Document, Flow, Step}
use Rattle.tv_strategy.specs.Origins.{Origin, Traced, plain}
use Rattle.tv_strategy.proofs.Each.{each-all}
use Rattle.tv_dispatch.specs.Jobs.{Fate, Taken, opens, right, take_tries, tries, wrong}
use Rattle.tv_model.specs.instance.Ranks.{ranked}
use Rattle.tv_model.specs.instance.Steps.{declared_depths, spot}
use Rattle.tv_model.specs.instance.Events.{gave, is_spot}
use Rattle.tv_model.specs.Instances.{bounced_job, given_of, job_on, tried_job, with_fate}
use Rattle.tv_model.specs.Jobs.{Job, good_end}
use Rattle.tv_model.specs.Made.{Made, Meaning, Opened}
use Rattle.tv_model.specs.Meanings.{flow_meaning, meaning}
use Rattle.tv_model.specs.Turns.{is_bounced}
use Rattle.tv_model.proofs.Earlier.{job_list}
use Rattle.tv_model.proofs.Formed.{AreFormed, distinct-apart}
use Rattle.tv_model.proofs.Instances.{given-free, instance-formed}
use Rattle.tv_model.proofs.Members.{once-of_apart}
use Rattle.tv_model.specs.JobOrder.{Apart}
use Rattle.tv_model.proofs.Sound.{spot-step}
use Rattle.tv_model.proofs.Tests.{true≠false}
use Rattle.tv_history.specs.Entries.{Entry, History, accepted, bounced, ended, is_bounced_entry, is_ended_entry}
use Rattle.tv_history.specs.Histories.{is_settled, is_settled_name, next_ask}
use Rattle.tv_history.proofs.Tests.{same-itself}
use Rattle.tv_history.proofs.activities.Everywhere.{document-has}
use Rattle.tv_history.specs.order.Parts.{made_of}
use Rattle.tv_history.proofs.First.{find-first}
use Rattle.tv_framing.specs.instances.OwnResults.{given_by, results_of}
use Rattle.tv_framing.proofs.instances.Events.{spot-test}
use Rattle.tv_framing.proofs.instances.History.{entries-are_events, others-stay_settled}
use Rattle.tv_forest.specs.views.InRun.{IsJobThere}
use Rattle.tv_forest.specs.runs.Stated.{AcceptingSettles, BouncingSettles, EndingSettles, OpenersAreGood, SettledGoesOn}
use Rattle.tv_forest.proofs.runs.Entries.{by-name, is-event}

-- ---- results

-- the first of its name is itself
find-own : (os : List Opened) → Apart (λ (o : Opened). o.job.name) os → (o : Opened) → In o os → find (λ u. same_job o.job.name u.job.name) os ≡ Some o
find-own [] a o i = absurd i
find-own (u ∷ os) a o i = by (same_job o.job.name u.job.name) refl i (λ k. find-own os a.1 o k)
  where
    by : (b : Bool) → same_job o.job.name u.job.name ≡ b → In o (u ∷ os) → (In o os → find (λ x. same_job o.job.name x.job.name) os ≡ Some o) → cond b (Some u) (find (λ x. same_job o.job.name x.job.name) os) ≡ Some o
    by true e (inl p) rec = ap (λ x. Some x) (sym p)
    by true e (inr k) rec = absurd (a.0 o k ((same_job_decides o.job.name u.job.name).0 e))
    by false e (inl p) rec = absurd (true≠false (sym ((same_job_decides o.job.name u.job.name).1 (ap (λ (x : Opened). x.job.name) p)) ∙ e))
    by false e (inr k) rec = rec k

-- the results of an instance say what each of its jobs gave
module _ (gives : Giving) (d : Document) (levels : ℕ) (flow : Flow) (I : JobName) (vs : List (Name × Value)) where
  abbrev ms : List Made
  ms = made_of gives d.flows levels flow I vs

  formed : AreFormed gives (flow_meaning gives d.flows levels) I (λ m n. Unit {0}) (λ f n us. tt) (λ k. Unit {0}) (given_of flow vs) (given-free flow vs) ms
  formed = instance-formed gives (flow_meaning gives d.flows levels) I flow vs (λ m n. Unit {0}) (λ f n us. tt) (λ k. Unit {0}) (each-all (λ s. Unit {0}) (λ s. tt) (ranked flow.steps))

  step-found : (s : Name) (z : Made) → In z ms → z.step.step ≡ s → find (λ (y : Made). same_name s y.step.step) ms ≡ Some z
  step-found s z i e =
      let apart = distinct-apart I ms formed.distinct in
      let once = λ (y : Made) (k : In y ms) (h : same_name s y.step.step ≡ true). once-of_apart (λ (x : Made). x.step.step) ms apart y z k i (sym ((bytes_decides s y.step.step).0 h) ∙ sym e) in
      find-first (λ (y : Made). y.step.step) (λ (y : Made). same_name s y.step.step) ms apart z i
      ((bytes_decides s z.step.step).1 (sym e)) (λ y k h. inl (once y k h))

  pub result-is : (o : Opened) → In o (job_list ms) → (s : Name) (q : Place) → o.job.name ≡ spot I s q → results_of I ms s q ≡ o.job.result
  result-is o h s q e =
      let z = of-flat (λ (y : Made). y.jobs) o ms h in
      let n = each_in (λ (y : Made). (u : Opened) → In u y.jobs → (p : Place) × (u.job.name ≡ spot I y.step.step p)) ms formed.names z.0 z.1 o z.2 in
      let mine = (spot-step I z.0.step.step s n.0 q (sym n.1 ∙ e)).0 in
      let found = find-own z.0.jobs (each_in (λ (y : Made). Apart (λ (u : Opened). u.job.name) y.jobs) ms formed.names_apart z.0 z.1) o z.2 in
      ap (λ y. option_map_or (λ (y : Made). given_by y.jobs (spot I s q)) y []) (step-found s z.0 z.1 mine)
      ∙ ap (λ k. given_by z.0.jobs k) (sym e)
      ∙ ap (λ u. option_map_or (λ (u : Opened). u.job.result) u []) found

-- ---- which entries settle a job

-- an entry of this job alone
module _ (gives : Giving) (d : Document) (past : History) (I : JobName) (j : Job) (s : Name) (q : Place) (r : IsJobThere gives d I j (s, q)) (x : Entry) where
  abbrev m : Meaning
  m = meaning gives d

  -- it names no other
  pub not-there : (t : Name) (p : Place) → is_spot t p s q ≡ false → same_job (spot I t p) j.name ≡ false
  not-there t p h = ap (λ n. same_job (spot I t p) n) r.name ∙ sym (spot-test I t s p q) ∙ h

  pub now-settled : is_settled (x ∷ past) j ≡ true → is_settled_name m (x ∷ past) (spot I s q) ≡ true
  now-settled h = ap (λ n. is_settled_name m (x ∷ past) n) (sym r.name) ∙ by-name gives d (x ∷ past) j r.listed ∙ h

-- ---- the ends of flows that jobs open

abbrev IsGood : Job → Type 0
IsGood j = is_some j.opens ≡ true → j.ending ≡ good_end

module _ (gives : Giving) (inside : Name → JobName → List (Name × Value) → Meaning) (I : JobName) where
  fate-good : (s : Step) (j : Job) → j.opens ≡ None → (f : Fate) → IsGood (with_fate inside s j f).job
  fate-good s j o (right vs) = λ h. refl
  fate-good s j o (opens f) = λ h. refl
  fate-good s j o (wrong why) = λ h. absurd (true≠false (sym h ∙ ap is_some o))

  job-good : (c : Name) (s : Step) (waits : List Origin) (q : Place) (inputs : List Traced) → IsGood (job_on gives inside I c s waits q inputs).job
  job-good c s waits q inputs = by (list_any (λ z. holds_fault z) inputs)
    where
      j : Job
      j = bounced_job I c s waits q inputs

      t : Taken
      t = take_tries gives [] (tries (map plain inputs) (declared_depths s) s.retries 0 s.activities)

      by : (z : Bool) → IsGood (if z then record { job = j; inside = None } else tried_job gives inside s j).job
      by true = λ h. absurd (true≠false (sym h))
      by false = fate-good s (record j { asks = t.asks }) refl t.fate

-- ---- the laws

pub settled-goes_on : SettledGoesOn
settled-goes_on gives d past I v r j s q there x h now =
    let m = meaning gives d in
    let o = r.part.jobs j there.listed there.within in
    let gave-it = result-is gives d r.levels v.flow I v.inputs o.0 o.1 s q (ap (λ (k : Job). k.name) (sym o.2) ∙ there.name) ∙ ap (λ (k : Job). k.result) (sym o.2) in
    is-event gives d past I v r x (gave s q j.result) now ((entries-are_events gives m past I v.events r.told).settled x s q j.result h) (gave-it, r.gave)

pub accepting-settles : AcceptingSettles
accepting-settles gives d past I j s q r a t b h =
    let x = accepted j.name a t b in
    record {
      now = now-settled gives d past I j s q r x h;
      others = λ n p e. others-stay_settled gives (meaning gives d) past x (spot I n p) (record { accepted = not-there gives d past I j s q r x n p e; bounced = refl; ended = refl });
      rest = record { levels = λ n p. refl; begins = λ n p. refl };
    }

pub bouncing-settles : BouncingSettles
bouncing-settles gives d past I j s q r h =
    let x = bounced j.name in
    record {
      now = now-settled gives d past I j s q r x settled;
      others = λ n p e. others-stay_settled gives (meaning gives d) past x (spot I n p) (record { accepted = refl; bounced = not-there gives d past I j s q r x n p e; ended = refl });
      rest = record { levels = λ n p. refl; begins = λ n p. refl };
    }
  where
    settled : is_settled (bounced j.name ∷ past) j ≡ true
    settled =
        let x = bounced j.name in
        ap (λ c. if c then list_any (is_bounced_entry j.name) (x ∷ past) else (if is_some j.opens then list_any (is_ended_entry j.name) (x ∷ past) else is_none (next_ask (x ∷ past) j))) h
        ∙ ap (λ c. c || list_any (is_bounced_entry j.name) past) (same-itself j.name)

pub openers-are_good : OpenersAreGood
openers-are_good gives d =
    document-has gives (λ s. Unit {0}) IsGood (λ inside I c s waits q inputs k. job-good gives inside I c s waits q inputs) d
    (each-all _ (λ f. each-all _ (λ s. tt) f.1.steps) d.flows)

-- a job that opens a flow is settled where the flow has ended
pub settled-by_end :
    (gives : Giving) (d : Document) (j : Job) → In j (meaning gives d).jobs → is_some j.opens ≡ true → (past : History)
    → is_settled past j ≡ list_any (is_ended_entry j.name) past
settled-by_end gives d j i h past =
    let by_flow = list_any (is_ended_entry j.name) past in
    let by_tries = is_none (next_ask past j) in
    ap (λ c. if is_bounced c then list_any (is_bounced_entry j.name) past else (if is_some j.opens then by_flow else by_tries)) (openers-are_good gives d j i h)
    ∙ ap (λ c. if c then by_flow else by_tries) h

pub ending-settles : EndingSettles
ending-settles gives d past I j s q r h =
    let x = ended j.name in
    record {
      now = now-settled gives d past I j s q r x settled;
      others = λ n p e. others-stay_settled gives (meaning gives d) past x (spot I n p) (record { accepted = refl; bounced = refl; ended = not-there gives d past I j s q r x n p e });
      rest = record { levels = λ n p. refl; begins = λ n p. refl };
    }
  where
    settled : is_settled (ended j.name ∷ past) j ≡ true
    settled =
        settled-by_end gives d j r.listed h (ended j.name ∷ past)
        ∙ ap (λ c. c || list_any (is_ended_entry j.name) past) (same-itself j.name)
