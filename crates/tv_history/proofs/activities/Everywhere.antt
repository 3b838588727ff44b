-- What is so of the job of every step at every node is so of all jobs of a meaning, at any number of levels.
use Rattle.std.specs.List.{list_any}
use Rattle.std.specs.Prelude.{ℕ, zero, suc, List, [], ◌∷◌, ◌++◌, length, map, Option, Some, None, Bool, true, false, if◌then◌else◌}
use Rattle.std.specs.Option.{option_map_or}
use Rattle.std.proofs.Common.{sym, subst, inl, inr}
use Rattle.tv_lemmas.specs.Members.{Each, In}
use Rattle.tv_lemmas.proofs.Members.{of-flat}
use Rattle.tv_value.specs.Nested.{Place, leaf, list, nodes}
use Rattle.tv_value.specs.Values.{Name, JobName, Value, holds_fault}
use Rattle.tv_flow.specs.Flows.{Document, Flow, Step}
use Rattle.tv_strategy.specs.Iterations.{Iteration, job, passed}
use Rattle.tv_strategy.specs.Origins.{Origin, Traced, plain}
use Rattle.tv_gate.specs.Outcomes.{Giving}
use Rattle.tv_dispatch.specs.Jobs.{Ask, tries, Fate, right, opens, wrong, Taken, take_tries}
use Rattle.tv_model.specs.instance.Delivered.{Delivered}
use Rattle.tv_model.specs.instance.Ranks.{ranked}
use Rattle.tv_model.specs.instance.Steps.{bound_values, declared_depths}
use Rattle.tv_model.specs.Instances.{given_of, with_fate, bounced_job, tried_job, job_on, node_jobs, step_made, steps_made}
use Rattle.tv_model.specs.Jobs.{Job}
use Rattle.tv_model.specs.Made.{Meaning, Opened, Made, endings}
use Rattle.tv_model.specs.Meanings.{jobs_with_inside, instance_meaning, no_meaning, flow_meaning, meaning, nesting_limit}
use Rattle.tv_model.proofs.Earlier.{job_list}
use Rattle.tv_model.proofs.Fed.{named_map_or, step_iteration}
use Rattle.tv_model.proofs.Kept.{InsideIs, job-at}
use Rattle.tv_model.proofs.Whole.{rank-each}

module _ (gives : Giving) (S : Step → Type 0) (Q : Job → Type 0)
    (holds : (inside : Name → JobName → List (Name × Value) → Meaning) (I : JobName) (c : Name) (s : Step) (waits : List Origin) (q : Place) (inputs : List Traced) → S s → Q (job_on gives inside I c s waits q inputs).job) where
  abbrev AllHave : List Job → Type 0
  AllHave js = (j : Job) → In j js → Q j

  abbrev StepIs : Name × Step → Type 0
  StepIs s = S s.1

  module _ (inside : Name → JobName → List (Name × Value) → Meaning) (inside_is : (f : Name) (J : JobName) (vs : List (Name × Value)) → AllHave (inside f J vs).jobs) (I : JobName) where
    abbrev BlockHas : Opened → Type 0
    BlockHas o = AllHave (jobs_with_inside o)

    one-has : (o : Opened) → Q o.job → InsideIs (λ a J. AllHave a.jobs) o.job o.inside → BlockHas o
    one-has o t i j (inl p) = subst Q (sym p) t
    one-has o t i j (inr k) = by o.inside i k
      where
        by : (p : Option Meaning) → InsideIs (λ a J. AllHave a.jobs) o.job p → In j (option_map_or (λ (a : Meaning). a.jobs) p []) → Q j
        by None h k = absurd k
        by (Some a) h k = h.0 j k

    node-has : (c : Name) (s : Step) (before : List Origin) → S s → (x : Place × Iteration) (o : Opened) → In o (node_jobs gives inside I c s before x) → BlockHas o
    node-has c s before h (q, leaf r (job b)) o (inl p) =
        subst BlockHas (sym p) (one-has (job_on gives inside I c s (r ++ before) q (bound_values s b)) (holds inside I c s (r ++ before) q (bound_values s b) h) (job-at gives inside I (λ a J. AllHave a.jobs) inside_is c s (r ++ before) q (bound_values s b)).inside_it)
    node-has c s before h (q, leaf r (job b)) o (inr k) = absurd k
    node-has c s before h (q, leaf r (passed m e)) o k = absurd k
    node-has c s before h (q, list r ts) o k = absurd k

    abbrev StepHas : Made → Type 0
    StepHas z = (o : Opened) → In o z.jobs → BlockHas o

    steps-have : (given : List (Name × Delivered)) (ss : List (Name × Step)) (ms : List Made) → Each StepIs ss → ((z : Made) → In z ms → StepHas z) → (z : Made) → In z (steps_made gives inside I given ms ss) → StepHas z
    steps-have given [] ms h t z i = t z i
    steps-have given ((c, s) ∷ ss) ms h t z i = steps-have given ss (new ∷ ms) h.1 by z i
      where
        new : Made
        new = step_made gives inside I given ms (c, s)

        by : (y : Made) → In y (new ∷ ms) → StepHas y
        by y (inl p) = subst StepHas (sym p) (λ o k. let x = of-flat (node_jobs gives inside I c s (endings ms s.after)) o (nodes (step_iteration given ms s)) k in node-has c s (endings ms s.after) h.0 x.0 o x.2)
        by y (inr k) = t y k

    instance-has : (flow : Flow) (vs : List (Name × Value)) → Each StepIs flow.steps → AllHave (instance_meaning gives inside I flow vs).jobs
    instance-has flow vs h j i =
        let ms = steps_made gives inside I (given_of flow vs) [] (ranked flow.steps) in
        let o = of-flat jobs_with_inside j (job_list ms) i in
        let z = of-flat (λ (x : Made). x.jobs) o.0 ms o.1 in
        steps-have (given_of flow vs) (ranked flow.steps) [] (rank-each gives (λ n. Unit {0}) StepIs (length flow.steps) [] flow.steps h) (λ y k. absurd k) z.0 z.1 o.0 z.2 j o.2

  flow-has : (flows : List (Name × Flow)) → Each (λ f. Each StepIs f.1.steps) flows → (depth : ℕ) (f : Name) (I : JobName) (vs : List (Name × Value)) → AllHave (flow_meaning gives flows depth f I vs).jobs
  flow-has flows h zero f I vs = λ j i. absurd i
  flow-has flows h (suc depth) f I vs =
      named_map_or (λ flow. Each StepIs flow.steps) (λ a. AllHave a.jobs) (λ flow. instance_meaning gives (flow_meaning gives flows depth) I flow vs) (λ flow k. instance-has (flow_meaning gives flows depth) (λ g J us. flow-has flows h depth g J us) I flow vs k) f flows no_meaning h (λ j i. absurd i)

  pub document-has : (d : Document) → Each (λ f. Each StepIs f.1.steps) d.flows → AllHave (meaning gives d).jobs
  document-has d h = flow-has d.flows h nesting_limit d.main [] d.inputs

-- what is so of no asks, and of those that are taken of the tries of every step, is so of the asks of all jobs
module _ (gives : Giving) (S : Step → Type 0) (P : List Ask → Type 0) (none : P []) (of_taken : (s : Step) (vs : List Value) → S s → P (take_tries gives [] (tries vs (declared_depths s) s.retries 0 s.activities)).asks) where
  fate-asks : (inside : Name → JobName → List (Name × Value) → Meaning) (I : JobName) (s : Step) (j : Job) (as' : List Ask) (f : Fate) → P as' → P (with_fate inside s (record j { asks = as' }) f).job.asks
  fate-asks inside I s j as' (right vs) h = h
  fate-asks inside I s j as' (opens f) h = h
  fate-asks inside I s j as' (wrong why) h = h

  job-asks : (inside : Name → JobName → List (Name × Value) → Meaning) (I : JobName) (c : Name) (s : Step) (waits : List Origin) (q : Place) (inputs : List Traced) → S s → P (job_on gives inside I c s waits q inputs).job.asks
  job-asks inside I c s waits q inputs h = by (list_any (λ z. holds_fault z) inputs)
    where
      j : Job
      j = bounced_job I c s waits q inputs

      t : Taken
      t = take_tries gives [] (tries (map plain inputs) (declared_depths s) s.retries 0 s.activities)

      by : (z : Bool) → P (if z then record { job = j; inside = None } else tried_job gives inside s j).job.asks
      by true = none
      by false = fate-asks inside I s j t.asks t.fate (of_taken s (map plain inputs) h)

  pub document-asks : (d : Document) → Each (λ f. Each (λ s. S s.1) f.1.steps) d.flows → (j : Job) → In j (meaning gives d).jobs → P j.asks
  document-asks d h = document-has gives S (λ j. P j.asks) job-asks d h
