-- A job of a step is bounced where its inputs hold an error, and goes through its tries where they hold none.
use Rattle.std.specs.Prelude.{◌≡◌, refl, List, ◌⊎◌, Bool, true, false, Some, None, map, if◌then◌else◌, []}
use Rattle.std.specs.List.{list_any}
use Rattle.std.proofs.Common.{sym, ap, subst, ◌∙◌, inl, inr}
use Rattle.std.proofs.lemmas.Option.{same_Some}
use Rattle.tv_value.specs.Nested.{Place}
use Rattle.tv_value.specs.Orders.{named}
use Rattle.tv_value.specs.Values.{JobName, Name, Value, holds_fault}
use Rattle.tv_gate.specs.Outcomes.{Giving}
use Rattle.tv_flow.specs.Flows.{Document, Step}
use Rattle.tv_strategy.specs.Origins.{Origin, Traced, plain}
use Rattle.tv_dispatch.specs.Jobs.{Fate, Taken, error_results, opens, right, take_tries, tries, wrong}
use Rattle.tv_model.specs.instance.Ranks.{ranked}
use Rattle.tv_model.specs.instance.Steps.{declared_depths}
use Rattle.tv_model.specs.Instances.{bounced_job, job_on, tried_job, with_fate}
use Rattle.tv_model.specs.Jobs.{Job, failed_end, good_end}
use Rattle.tv_model.specs.Made.{Meaning, Opened}
use Rattle.tv_model.specs.Meanings.{flow_meaning}
use Rattle.tv_model.specs.Turns.{is_bounced}
use Rattle.tv_model.proofs.Tests.{true≠false}
use Rattle.tv_lemmas.proofs.Cases.{on_either}
use Rattle.tv_forest.specs.tries.Steps.{IsBouncedJob, IsOwnStep}
use Rattle.tv_forest.proofs.tries.Made.{IsMade, jobs-of}

module _ (gives : Giving) (s : Step) where
  -- what is taken of the job's tries
  abbrev pub taken_of : Job → Taken
  taken_of j = take_tries gives [] (tries (map plain j.inputs) (declared_depths s) s.retries 0 s.activities)

  -- the job ends as its tries do
  abbrev pub EndsBy : Job → Fate → Type 0
  EndsBy j (right vs) = (j.opens ≡ None) × (j.ending ≡ good_end) × (j.result ≡ vs)
  EndsBy j (opens f) = j.opens ≡ Some f
  EndsBy j (wrong why) = (j.opens ≡ None) × (j.ending ≡ failed_end) × (j.result ≡ error_results j.name why [] (declared_depths s))

  pub record IsTried (j : Job) : Type 0 where
    pub sound : list_any (λ v. holds_fault v) j.inputs ≡ false
    pub tried : is_bounced j.ending ≡ false
    pub asks : j.asks ≡ (taken_of j).asks
    pub ends : EndsBy j (taken_of j).fate

  pub record IsJobOf (n : Name) (j : Job) : Type 0 where
    pub step : j.step ≡ n
    pub limit : j.limit ≡ s.jobs
    pub bounced_or : (IsBouncedJob s j × (is_bounced j.ending ≡ true)) ⊎ IsTried j

  module _ (inside : Name → JobName → List (Name × Value) → Meaning) (I : JobName) (n : Name) where
    made-of :
        (waits : List Origin) (q : Place) (inputs : List Traced)
        → IsJobOf n (job_on gives inside I n s waits q inputs).job
    made-of waits q inputs = by (list_any (λ v. holds_fault v) inputs) refl
      where
        first : Job
        first = bounced_job I n s waits q inputs

        t : Taken
        t = taken_of first

        tried : Fate → Opened
        tried f = with_fate inside s (record first { asks = t.asks }) f

        ends : (f : Fate) → t.fate ≡ f → list_any (λ v. holds_fault v) inputs ≡ false → IsJobOf n (tried f).job
        ends (right vs) e h =
            let by_fate = subst (EndsBy (tried (right vs)).job) (sym e) (refl, refl, refl) in
            record { step = refl; limit = refl; bounced_or = inr (record { sound = h; tried = refl; asks = refl; ends = by_fate }) }
        ends (opens f) e h =
            let by_fate = subst (EndsBy (tried (opens f)).job) (sym e) refl in
            record { step = refl; limit = refl; bounced_or = inr (record { sound = h; tried = refl; asks = refl; ends = by_fate }) }
        ends (wrong why) e h =
            let by_fate = subst (EndsBy (tried (wrong why)).job) (sym e) (refl, refl, refl) in
            record { step = refl; limit = refl; bounced_or = inr (record { sound = h; tried = refl; asks = refl; ends = by_fate }) }

        by :
            (b : Bool) → list_any (λ v. holds_fault v) inputs ≡ b
            → IsJobOf n (if b then record { job = first; inside = None } else tried_job gives inside s first).job
        by true h =
            record { step = refl; limit = refl; bounced_or = inl (record { faulty = h; asks = refl; opens = refl; result = refl }, refl) }
        by false h = ends t.fate refl h

    pub job-of : (o : Opened) → IsMade gives inside I n s o → IsJobOf n o.job
    job-of o w = subst (λ (u : Opened). IsJobOf n u.job) (sym w.is_it) (made-of w.waits w.place w.inputs)

-- a job of a meaning is one of its own step
module _ (gives : Giving) (d : Document) (j : Job) (s : Step) (own : IsOwnStep gives d j s) where
  pub own-job : IsJobOf gives s j.step j
  own-job =
      let part = own.part in
      let u = part.part.jobs j own.listed refl in
      let r = jobs-of gives (flow_meaning gives d.flows part.levels) j.instance part.flow part.inputs u.0 u.1 in
      let w = job-of gives r.1 (flow_meaning gives d.flows part.levels) j.instance r.0 u.0 r.3 in
      let name = ap (λ (k : Job). k.step) u.2 ∙ w.step in
      let same = same_Some r.1 s (sym r.2 ∙ ap (λ n. named n (ranked part.flow.steps)) (sym name) ∙ part.is_step) in
      subst (λ t. IsJobOf gives t j.step j) same (subst (λ n. IsJobOf gives r.1 n j) (sym name) (subst (λ k. IsJobOf gives r.1 r.0 k) (sym u.2) w))

  pub limit-of : j.limit ≡ s.jobs
  limit-of = own-job.limit

  pub bounced-by : is_bounced j.ending ≡ list_any (λ v. holds_fault v) j.inputs
  bounced-by = on_either own-job.bounced_or (λ b. b.1 ∙ sym b.0.faulty) (λ t. t.tried ∙ sym t.sound)

  pub bounced-none : is_bounced j.ending ≡ true → IsBouncedJob s j
  bounced-none h = on_either own-job.bounced_or (λ b. b.0) (λ t. absurd (true≠false (sym h ∙ t.tried)))

  pub tried-job : is_bounced j.ending ≡ false → IsTried gives s j
  tried-job h = on_either own-job.bounced_or (λ b. absurd (true≠false (sym b.1 ∙ h))) (λ t. t)
