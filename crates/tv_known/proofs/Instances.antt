-- The instances that a meaning lists: the first is its own, each other one is what a job opens, each job that opens a flow has one,
-- and each gives what its steps feed.
use Rattle.std.specs.Option.{option_map_or}
use Rattle.std.specs.Prelude.{◌≡◌, refl, ℕ, zero, suc, ◌⊎◌, List, [], ◌∷◌, Option, None, Some, flat_map, length, map}
use Rattle.std.proofs.Common.{sym, ap, subst, ◌∙◌, inl, inr}
use Rattle.std.proofs.lemmas.Option.{none-some}
use Rattle.tv_lemmas.specs.Members.{Each, In}
use Rattle.tv_lemmas.proofs.Members.{each_in, in-flat, in-left, in-right, of-flat}
use Rattle.tv_value.specs.Orders.{named}
use Rattle.tv_value.specs.Values.{JobName, Name, Value}
use Rattle.tv_gate.specs.Outcomes.{Giving}
use Rattle.tv_flow.specs.Flows.{Feed, Flow, Step}
use Rattle.tv_strategy.specs.Origins.{Traced}
use Rattle.tv_model.specs.Agreeing.{ActivitiesAgree, ActivitiesNest, NestedAgrees, NestsWithin, StepsAgree, StepsNest}
use Rattle.tv_model.specs.Earlier.{job_list}
use Rattle.tv_model.specs.instance.CheckedDepths.{StepDepths, step_depths}
use Rattle.tv_model.specs.instance.Delivered.{StepMeaning}
use Rattle.tv_model.specs.instance.Ranks.{ranked}
use Rattle.tv_model.specs.Instances.{given_of, zip_names}
use Rattle.tv_model.specs.Jobs.{Job}
use Rattle.tv_model.specs.Made.{Instance, Made, Meaning, Opened, feed_value, step_in}
use Rattle.tv_model.specs.Meanings.{flow_meaning, instance_meaning, instances_inside, jobs_with_inside, no_meaning, steps_inside}
use Rattle.tv_model.proofs.Opening.{InsideAt, IsAt}
use Rattle.tv_model.proofs.Whole.{rank-each}
use Rattle.tv_history.specs.order.Parts.{made_of}
use Rattle.tv_history.proofs.Inner.{first-nests}
use Rattle.tv_history.proofs.OneInstance.{AllSound}
use Rattle.tv_forest.proofs.views.Steps.{Standing, StandsAtEnd, job-is_at, of-jobs, of-made}

module _ (gives : Giving) (flows : List (Name × Flow)) where
  -- what the instance of a flow on inputs feeds to the flow's outputs, by steps that are all M's
  pub record IsFed (M : Meaning) (J : JobName) (flow : Flow) (vs : List (Name × Value)) (outputs : List (Name × Traced)) : Type 0 where
    pub levels : ℕ
    pub steps : (s : StepMeaning) → In s (map step_in (made_of gives flows levels flow J vs)) → In s M.steps
    pub fed : outputs ≡ map (λ (o : Name × Feed). (o.0, (feed_value (given_of flow vs) (made_of gives flows levels flow J vs) o.1).value)) flow.outputs

  -- the instance of the flow f itself
  pub record IsOwn (f : Name) (I : JobName) (vs : List (Name × Value)) (i : Instance) : Type 0 where
    pub named_so : i.name ≡ I
    pub is_flow : named f flows ≡ Some i.flow
    pub inputs : i.inputs ≡ vs

  -- the instance of the flow that a job opens
  pub record IsOpened (M : Meaning) (i : Instance) : Type 0 where
    pub job : Job
    pub listed : In job M.jobs
    pub named_so : i.name ≡ job.name
    pub flow_name : Name
    pub opens : job.opens ≡ Some flow_name
    pub is_flow : named flow_name flows ≡ Some i.flow
    pub step : Step
    pub agrees : NestedAgrees flows step flow_name
    pub inputs : i.inputs ≡ zip_names step.inputs job.inputs

  pub record IsListed (M : Meaning) (f : Name) (I : JobName) (vs : List (Name × Value)) (i : Instance) : Type 0 where
    pub is_fed : IsFed M i.name i.flow i.inputs i.outputs
    pub whose : IsOwn f I vs i ⊎ IsOpened M i

  abbrev pub HasOne : Meaning → JobName → Type 0
  HasOne M J = (i : Instance) × In i M.instances × (i.name ≡ J)

  pub record AreListed (M : Meaning) (f : Name) (I : JobName) (vs : List (Name × Value)) : Type 0 where
    pub own : HasOne M I
    pub each : (i : Instance) → In i M.instances → IsListed M f I vs i
    pub opened : (j : Job) → In j M.jobs → (g : Name) → j.opens ≡ Some g → HasOne M j.name

  -- ---- one instance

  module _ (sound : AllSound flows) (k : ℕ) (f : Name) (flow : Flow) (found : named f flows ≡ Some flow)
      (nest : StepsNest (NestsWithin flows k) flow.steps) (I : JobName) (vs : List (Name × Value))
      (rec : (g : Name) → NestsWithin flows k g → (J : JobName) (us : List (Name × Value)) → AreListed (flow_meaning gives flows k g J us) g J us) where
    abbrev inside : Name → JobName → List (Name × Value) → Meaning
    inside = flow_meaning gives flows k

    abbrev ms : List Made
    ms = made_of gives flows k flow I vs

    abbrev os : List Opened
    os = job_list ms

    abbrev M : Meaning
    M = instance_meaning gives inside I flow vs

    -- its steps agree in their flows, and nest no more levels
    abbrev Nests : Name × Step → Type 0
    Nests s = ActivitiesNest (NestsWithin flows k) s.1.activities

    each-nests : (ss : List (Name × Step)) → StepsNest (NestsWithin flows k) ss → Each Nests ss
    each-nests [] h = tt
    each-nests (s ∷ ss) h = (h.0, each-nests ss h.1)

    step-nests : (s : Name × Step) → In s (ranked flow.steps) → Nests s
    step-nests = each_in Nests (ranked flow.steps) (rank-each gives (λ n. Unit {0}) Nests (length flow.steps) [] flow.steps (each-nests flow.steps nest))

    steps-agree : (given : List (Name × ℕ)) (so_far : List StepDepths) (ss : List (Name × Step)) → StepsAgree flows given so_far ss → (s : Name × Step) → In s ss → ActivitiesAgree flows s.1 s.1.activities
    steps-agree given so_far [] h s i = absurd i
    steps-agree given so_far (t ∷ ss) h s (inl e) = subst (λ (u : Name × Step). ActivitiesAgree flows u.1 u.1.activities) (sym e) h.0.activities
    steps-agree given so_far (t ∷ ss) h s (inr i) = steps-agree given (step_depths given so_far t ∷ so_far) ss h.1 s i

    -- a job of the instance is that of a step
    record IsOfStep (o : Opened) : Type 0 where
      step : Step
      agrees : ActivitiesAgree flows step step.activities
      nests : ActivitiesNest (NestsWithin flows k) step.activities
      inside_it : InsideAt gives inside I step o.job o.inside

    of-step : (o : Opened) → In o os → IsOfStep o
    of-step o h =
        let z = of-flat (λ (x : Made). x.jobs) o ms h in
        let t = of-made gives inside I flow vs z.0 z.1 in
        let w = of-jobs gives inside I flow vs t.0 o (subst (λ (x : Made). In o x.jobs) t.1 z.2) in
        at-end t.0 w
      where
        at-end : (t : Standing gives inside I flow vs) → StandsAtEnd gives inside I flow vs t o → IsOfStep o
        at-end t w = record {
          step = t.step.1;
          agrees = steps-agree flow.inputs [] (ranked flow.steps) (sound f flow found).0.steps t.step t.of_flow;
          nests = step-nests t.step t.of_flow;
          inside_it = (subst (IsAt gives inside I t.step.0 t.step.1 w.place) (sym w.is_job) (job-is_at gives inside I flow vs t w.place w.sources w.binding)).inside_it;
        }

    -- and so is what it opens
    record IsInside (o : Opened) (m : Meaning) : Type 0 where
      step : Step
      flow_name : Name
      opens : o.job.opens ≡ Some flow_name
      agrees : NestedAgrees flows step flow_name
      nests : NestsWithin flows k flow_name
      meant : m ≡ inside flow_name o.job.name (zip_names step.inputs o.job.inputs)

    inner : (o : Opened) → In o os → (m : Meaning) → o.inside ≡ Some m → IsInside o m
    inner o h m e =
        let w = of-step o h in
        let t = subst (InsideAt gives inside I w.step o.job) e w.inside_it in
        let n = first-nests flows w.step (NestsWithin flows k) t.0 w.step.activities t.1 w.agrees w.nests in
        record { step = w.step; flow_name = t.0; opens = t.2; agrees = n.0; nests = n.1; meant = t.3 }

    -- what stands in it stands in the whole
    module _ (o : Opened) (h : In o os) (m : Meaning) (e : o.inside ≡ Some m) where
      job-up : (j : Job) → In j m.jobs → In j M.jobs
      job-up j i = in-flat jobs_with_inside o j os h (inr (subst (λ p. In j (option_map_or (λ (x : Meaning). x.jobs) p [])) (sym e) i))

      step-up : (s : StepMeaning) → In s m.steps → In s M.steps
      step-up s i =
          in-right s (map step_in ms) (flat_map steps_inside os)
          (in-flat steps_inside o s os h (subst (λ p. In s (option_map_or (λ (x : Meaning). x.steps) p [])) (sym e) i))

      one-up : (J : JobName) → HasOne m J → HasOne M J
      one-up J w = (w.0, inr (in-flat instances_inside o w.0 os h (subst (λ p. In w.0 (option_map_or (λ (x : Meaning). x.instances) p [])) (sym e) w.1)), w.2)

      abbrev its : IsInside o m
      its = inner o h m e

      abbrev us : List (Name × Value)
      us = zip_names its.step.inputs o.job.inputs

      listed : AreListed m its.flow_name o.job.name us
      listed = subst (λ x. AreListed x its.flow_name o.job.name us) (sym its.meant) (rec its.flow_name its.nests o.job.name us)

      opened-up : (i : Instance) → IsOwn its.flow_name o.job.name us i ⊎ IsOpened m i → IsOpened M i
      opened-up i (inl w) = record {
        job = o.job;
        listed = in-flat jobs_with_inside o o.job os h (inl refl);
        named_so = w.named_so;
        flow_name = its.flow_name;
        opens = its.opens;
        is_flow = w.is_flow;
        step = its.step;
        agrees = its.agrees;
        inputs = w.inputs;
      }
      opened-up i (inr w) = record {
        job = w.job;
        listed = job-up w.job w.listed;
        named_so = w.named_so;
        flow_name = w.flow_name;
        opens = w.opens;
        is_flow = w.is_flow;
        step = w.step;
        agrees = w.agrees;
        inputs = w.inputs;
      }

      listed-up : (i : Instance) → In i m.instances → IsListed M f I vs i
      listed-up i k =
          let w = listed.each i k in
          record {
            is_fed = record { levels = w.is_fed.levels; steps = λ s g. step-up s (w.is_fed.steps s g); fed = w.is_fed.fed };
            whose = inr (opened-up i w.whose);
          }

      opens-up : (j : Job) → In j m.jobs → (g : Name) → j.opens ≡ Some g → HasOne M j.name
      opens-up j i g q = one-up j.name (listed.opened j i g q)

      own-up : HasOne M o.job.name
      own-up = one-up o.job.name listed.own

    in-block : (o : Opened) → In o os → (i : Instance) → In i (instances_inside o) → IsListed M f I vs i
    in-block o h i g = by o.inside refl g
      where
        by : (p : Option Meaning) → o.inside ≡ p → In i (option_map_or (λ (x : Meaning). x.instances) p []) → IsListed M f I vs i
        by None e g = absurd g
        by (Some m) e g = listed-up o h m e i g

    opens-one : (o : Opened) → In o os → (j : Job) → In j (jobs_with_inside o) → (g : Name) → j.opens ≡ Some g → HasOne M j.name
    opens-one o h j i g q = by o.inside refl i
      where
        by : (p : Option Meaning) → o.inside ≡ p → In j (o.job ∷ option_map_or (λ (x : Meaning). x.jobs) p []) → HasOne M j.name
        by None e (inl x) = absurd (none-some g (sym (subst (InsideAt gives inside I (of-step o h).step o.job) e (of-step o h).inside_it) ∙ ap (λ (z : Job). z.opens) (sym x) ∙ q))
        by None e (inr x) = absurd x
        by (Some m) e (inl x) = subst (λ (z : Job). HasOne M z.name) (sym x) (own-up o h m e)
        by (Some m) e (inr x) = opens-up o h m e j x g q

    abbrev itself : Instance
    itself = record { name = I; flow = flow; inputs = vs; outputs = M.outputs }

    itself-listed : IsListed M f I vs itself
    itself-listed = record {
      is_fed = record { levels = k; steps = λ s i. in-left s (map step_in ms) (flat_map steps_inside os) i; fed = refl };
      whose = inl (record { named_so = refl; is_flow = found; inputs = refl });
    }

    instance-listed : AreListed M f I vs
    instance-listed = record {
      own = (itself, inl refl, refl);
      each = each;
      opened = λ j i g q. let w = of-flat jobs_with_inside j os i in opens-one w.0 w.1 j w.2 g q;
    }
      where
        each : (i : Instance) → In i M.instances → IsListed M f I vs i
        each i (inl e) = subst (IsListed M f I vs) (sym e) itself-listed
        each i (inr h) = let w = of-flat instances_inside i os h in in-block w.0 w.1 i w.2

  -- ---- at any depth

  pub all-listed : AllSound flows → (k : ℕ) (f : Name) → NestsWithin flows k f → (I : JobName) (vs : List (Name × Value)) → AreListed (flow_meaning gives flows k f I vs) f I vs
  all-listed sound zero f h I vs = absurd h
  all-listed sound (suc k) f h I vs =
      subst (λ o. AreListed (option_map_or (λ fl. instance_meaning gives (flow_meaning gives flows k) I fl vs) o no_meaning) f I vs) (sym h.1)
      (instance-listed sound k f h.0 h.1 h.2 I vs (λ g n J us. all-listed sound k g n J us))
