-- The meaning of every accepted document is as planned: instance by instance, each inside the job that opened it.
use Rattle.std.specs.Prelude.{◌≡◌, refl, ℕ, zero, suc, ◌⊎◌, ◌&&◌, List, [], ◌∷◌, Bool, true, false, map, flat_map, find, Option, Some, None, option_and_then, if◌then◌else◌}
use Rattle.std.specs.Option.{option_map_or}
use Rattle.std.proofs.Common.{sym, ap, subst, ◌∙◌, inl, inr}
use Rattle.std.proofs.lemmas.Bool.{and_parts}
use Rattle.tv_lemmas.specs.Members.{Each, In}
use Rattle.tv_lemmas.proofs.Members.{each_in, in-append, in-flat, in_each, of-flat, of-map}
use Rattle.tv_value.specs.Orders.{named, same_job}
use Rattle.tv_value.specs.Values.{JobName, Name, Value}
use Rattle.tv_value.proofs.JobNameLemmas.{same_job_decides}
use Rattle.tv_flow.specs.Flows.{Document, Flow, Step}
use Rattle.tv_flow.specs.Formed.{is_flow, is_formed}
use Rattle.tv_flow.specs.Forms.{is_name}
use Rattle.tv_naming.proofs.FormedParts.{all-pass, document-flows, steps-ascend}
use Rattle.tv_gate.specs.Outcomes.{Giving}
use Rattle.tv_model.specs.instance.CheckedDepths.{flow_depths, measured_outputs}
use Rattle.tv_model.specs.instance.Delivered.{StepMeaning}
use Rattle.tv_model.specs.instance.Steps.{declared_depths}
use Rattle.tv_check.specs.Plans.{IsAccepted, step_plan}
use Rattle.tv_check.proofs.Inside.{each-by}
use Rattle.tv_check.proofs.CycleLemmas.{IsThere, each-there}
use Rattle.tv_model.specs.Agreeing.{Agrees, InputsHave, NestsWithin, StepsNest}
use Rattle.tv_model.specs.Earlier.{job_list}
use Rattle.tv_model.specs.RightDepths.{HaveTheseDepths}
use Rattle.tv_model.specs.Instances.{zip_names}
use Rattle.tv_model.specs.Jobs.{Job}
use Rattle.tv_model.specs.Made.{Made, Meaning, Opened}
use Rattle.tv_model.specs.Meanings.{flow_meaning, instance_meaning, jobs_with_inside, meaning, nesting_limit, no_meaning, steps_inside}
use Rattle.tv_model.proofs.Members.{no-nil}
use Rattle.tv_model.specs.JobOrder.{Apart}
use Rattle.tv_model.proofs.Whole.{AnyNumber, StepsHave, meaning-whole}
use Rattle.tv_history.specs.agreement.InstanceFlows.{StandsIn, instance_flow}
use Rattle.tv_model.specs.Opening.{first_nested}
use Rattle.tv_history.specs.agreement.PlannedDepths.{IsAsPlanned, JobIsPlanned, NamedHave, OutputsGive, PortsTake, StepIsPlanned}
use Rattle.tv_history.proofs.AcceptedDocuments.{accepted-agrees}
use Rattle.tv_history.proofs.Lists.{named-each}
use Rattle.tv_strategy.proofs.Each.{each-passes as all-each}
use Rattle.tv_model.proofs.Opening.{InsideAt}
use Rattle.tv_model.proofs.Results.{zip-have}
use Rattle.tv_history.proofs.Inner.{first-nests}
use Rattle.tv_history.proofs.OneStep.{JobIs, MadeIs}
use Rattle.tv_history.proofs.OneInstance.{AllSound, flow-delivers, instance-made, instance-outputs, made_in, steps-nest}
use Rattle.tv_strategy.proofs.Each.{each-all}

-- ---- the flow of an instance, by the jobs that are known

-- J is the instance I, of the flow f, or that of a job which opens the flow g
abbrev IsOfFlow : List Job → JobName → Name → JobName → Name → Type 0
IsOfFlow js I f J g = ((J ≡ I) × (g ≡ f)) ⊎ ((p : Job) × In p js × (p.name ≡ J) × (p.opens ≡ Some g))

-- from the instance that a job of I opens to I
wider : (js : List Job) (I J K : JobName) (f g h : Name) (o : Job) → In o js → o.name ≡ J → o.opens ≡ Some g → IsOfFlow js J g K h → IsOfFlow js I f K h
wider js I J K f g h o i n p (inl q) = inr (o, i, n ∙ sym q.0, p ∙ ap Some (sym q.1))
wider js I J K f g h o i n p (inr r) = inr r

module _ (gives : Giving) (flows : List (Name × Flow)) (sound : AllSound flows) (js : List Job) where
  -- a step of an instance, by the flow of this instance
  record Stands (I : JobName) (f : Name) (J : JobName) (n : Name) : Type 0 where
    pub flow_name : Name
    pub flow : Flow
    pub step : Step
    pub of_instance : IsOfFlow js I f J flow_name
    pub is_flow : named flow_name flows ≡ Some flow
    pub is_step : named n flow.steps ≡ Some step

  record StepAt (I : JobName) (f : Name) (s : StepMeaning) : Type 0 where
    pub own : Stands I f s.instance s.step
    pub inputs : PortsTake (step_plan own.flow (s.step, own.step)).delivered own.step.inputs s.inputs
    pub outputs : OutputsGive (step_plan own.flow (s.step, own.step)).depth own.step.outputs s.outputs

  record JobAt (I : JobName) (f : Name) (j : Job) : Type 0 where
    pub own : Stands I f j.instance j.step
    pub inputs : HaveTheseDepths (map (λ i. i.1.depth) own.step.inputs) j.inputs
    pub result : HaveTheseDepths (declared_depths own.step) j.result
    pub opens : (g : Name) → j.opens ≡ Some g → first_nested own.step.activities ≡ Some g

  abbrev AllAt : JobName → Name → Meaning → Type 0
  AllAt I f m = ((s : StepMeaning) → In s m.steps → StepAt I f s) × ((j : Job) → In j m.jobs → JobAt I f j)

  wider-step : (I J : JobName) (f g : Name) (o : Job) → In o js → o.name ≡ J → o.opens ≡ Some g → (s : StepMeaning) → StepAt J g s → StepAt I f s
  wider-step I J f g o i n p s w =
      record { own = record { flow_name = w.own.flow_name; flow = w.own.flow; step = w.own.step; of_instance = wider js I J s.instance f g w.own.flow_name o i n p w.own.of_instance; is_flow = w.own.is_flow; is_step = w.own.is_step }; inputs = w.inputs; outputs = w.outputs }

  wider-job : (I J : JobName) (f g : Name) (o : Job) → In o js → o.name ≡ J → o.opens ≡ Some g → (j : Job) → JobAt J g j → JobAt I f j
  wider-job I J f g o i n p j w =
      record { own = record { flow_name = w.own.flow_name; flow = w.own.flow; step = w.own.step; of_instance = wider js I J j.instance f g w.own.flow_name o i n p w.own.of_instance; is_flow = w.own.is_flow; is_step = w.own.is_step }; inputs = w.inputs; result = w.result; opens = w.opens }

  -- ---- one instance

  module _ (k : ℕ) (rec : (g : Name) (flow : Flow) → named g flows ≡ Some flow → NestsWithin flows k g → (J : JobName) (us : List (Name × Value)) → InputsHave flow.inputs us → ((j : Job) → In j (flow_meaning gives flows k g J us).jobs → In j js) → AllAt J g (flow_meaning gives flows k g J us))
      (f : Name) (flow : Flow) (found : named f flows ≡ Some flow) (nest : StepsNest (NestsWithin flows k) flow.steps) (I : JobName) (vs : List (Name × Value)) (have : InputsHave flow.inputs vs) where
    abbrev inside : Name → JobName → List (Name × Value) → Meaning
    inside = flow_meaning gives flows k

    abbrev ms : List Made
    ms = made_in gives flows inside k (flow-delivers gives flows sound k) I flow vs

    abbrev os : List Opened
    os = job_list ms

    abbrev n : Meaning
    n = instance_meaning gives inside I flow vs

    abbrev Is : Made → Type 0
    Is m = MadeIs gives flows inside k (flow-delivers gives flows sound k) I flow.steps flow.inputs (flow_depths flow) m

    made : Each Is ms
    made = let s = sound f flow found in instance-made gives flows inside k (flow-delivers gives flows sound k) I flow s.0 s.1 nest vs have

    own-step : (m : Made) → Is m → StepAt I f m.step
    own-step m w = record { own = record { flow_name = f; flow = flow; step = w.step; of_instance = inl (w.instance, refl); is_flow = found; is_step = w.is_step }; inputs = w.inputs; outputs = w.outputs }

    -- an opened job, with the step that it is of
    abbrev IsJob : Made → Opened → Type 0
    IsJob m o = (w : Is m) × JobIs gives flows inside k (flow-delivers gives flows sound k) I m.step.step w.step o

    job-of : (o : Opened) → In o os → (m : Made) × IsJob m o
    job-of o h =
        let r = of-flat (λ (m : Made). m.jobs) o ms h in
        let w = each_in Is ms made r.0 r.1 in
        (r.0, (w, each_in (JobIs gives flows inside k (flow-delivers gives flows sound k) I r.0.step.step w.step) r.0.jobs w.jobs o r.2))

    own-job : (m : Made) (o : Opened) → IsJob m o → JobAt I f o.job
    own-job m o (w, j) = record {
      own = record { flow_name = f; flow = flow; step = w.step; of_instance = inl (j.at.in_instance, refl); is_flow = found; is_step = subst (λ x. named x flow.steps ≡ Some w.step) (sym j.at.step) w.is_step };
      inputs = j.fit.inputs;
      result = j.fit.result;
      opens = λ g e. by o.inside j.at.inside_it g e;
    }
      where
        by : (p : Option Meaning) → InsideAt gives inside I w.step o.job p → (g : Name) → o.job.opens ≡ Some g → first_nested w.step.activities ≡ Some g
        by None h g e = let q : None ≡ Some g = sym h ∙ e in cc
        by (Some m) h g e = h.1 ∙ sym h.2 ∙ e

    -- what an opened job has inside
    inner : (o : Opened) → In o os → (m : Made) → IsJob m o → (x : Meaning) → o.inside ≡ Some x → ((j : Job) → In j x.jobs → In j js) → In o.job js → AllAt I f x
    inner o h m (w, j) x e sub own =
        let t = subst (λ p. InsideAt gives inside I w.step o.job p) e j.at.inside_it in
        let us = zip_names w.step.inputs o.job.inputs in
        let a = first-nests flows w.step (NestsWithin flows k) t.0 w.step.activities t.1 w.activities w.nests in
        let inputs = subst (λ l. InputsHave l us) (sym a.0.inputs) (zip-have w.step.inputs o.job.inputs j.fit.inputs w.step.inputs w.once) in
        let all = rec t.0 a.0.flow a.0.is_flow a.1 o.job.name us inputs (λ y i. sub y (subst (λ (z : Meaning). In y z.jobs) (sym t.3) i)) in (
          λ s i. wider-step I o.job.name f t.0 o.job own refl t.2 s (all.0 s (subst (λ (z : Meaning). In s z.steps) t.3 i)),
          λ y i. wider-job I o.job.name f t.0 o.job own refl t.2 y (all.1 y (subst (λ (z : Meaning). In y z.jobs) t.3 i)),
        )

    module _ (sub : (j : Job) → In j n.jobs → In j js) where
      own-in : (o : Opened) → In o os → In o.job js
      own-in o h = sub o.job (in-flat jobs_with_inside o o.job os h (inl refl))

      inner-in : (o : Opened) → In o os → (x : Meaning) → o.inside ≡ Some x → (j : Job) → In j x.jobs → In j js
      inner-in o h x e j i = sub j (in-flat jobs_with_inside o j os h (inr (subst (λ p. In j (option_map_or (λ (y : Meaning). y.jobs) p [])) (sym e) i)))

      step-of : (o : Opened) → In o os → (s : StepMeaning) → In s (steps_inside o) → StepAt I f s
      step-of o h s i = by o.inside refl i
        where
          by : (p : Option Meaning) → o.inside ≡ p → In s (option_map_or (λ (y : Meaning). y.steps) p []) → StepAt I f s
          by None e q = absurd q
          by (Some x) e q = let r = job-of o h in (inner o h r.0 r.1 x e (inner-in o h x e) (own-in o h)).0 s q

      job-in : (o : Opened) → In o os → (j : Job) → In j (jobs_with_inside o) → JobAt I f j
      job-in o h j (inl p) = let r = job-of o h in subst (JobAt I f) (sym p) (own-job r.0 o r.1)
      job-in o h j (inr i) = by o.inside refl i
        where
          by : (p : Option Meaning) → o.inside ≡ p → In j (option_map_or (λ (y : Meaning). y.jobs) p []) → JobAt I f j
          by None e q = absurd q
          by (Some x) e q = let r = job-of o h in (inner o h r.0 r.1 x e (inner-in o h x e) (own-in o h)).1 j q

      instance-at : AllAt I f n
      instance-at = (λ s h. step s (in-append s (map (λ m. m.step) ms) (flat_map steps_inside os) h), λ j h. let r = of-flat jobs_with_inside j os h in job-in r.0 r.1 j r.2)
        where
          step : (s : StepMeaning) → In s (map (λ m. m.step) ms) ⊎ In s (flat_map steps_inside os) → StepAt I f s
          step s (inl h) = let r = of-map (λ (m : Made). m.step) s ms h in subst (StepAt I f) (sym r.2) (own-step r.0 (each_in Is ms made r.0 r.1))
          step s (inr h) = let r = of-flat steps_inside s os h in step-of r.0 r.1 s r.2

  -- ---- every number of levels

  flow-at : (k : ℕ) (f : Name) (flow : Flow) → named f flows ≡ Some flow → NestsWithin flows k f → (I : JobName) (vs : List (Name × Value)) → InputsHave flow.inputs vs → ((j : Job) → In j (flow_meaning gives flows k f I vs).jobs → In j js) → AllAt I f (flow_meaning gives flows k f I vs)
  flow-at zero f flow e n I vs h sub = absurd n
  flow-at (suc k) f flow e n I vs h sub =
      subst (λ o. ((j : Job) → In j (option_map_or (λ w. instance_meaning gives (flow_meaning gives flows k) I w vs) o no_meaning).jobs → In j js) → AllAt I f (option_map_or (λ w. instance_meaning gives (flow_meaning gives flows k) I w vs) o no_meaning)) (sym e)
      (λ s. instance-at k (λ g w q m J us i t. flow-at k g w q m J us i t) f flow e (steps-nest flows k f flow e n) I vs h s) sub

-- the outputs of a flow
flow-outputs : (gives : Giving) (flows : List (Name × Flow)) → AllSound flows → (k : ℕ) (f : Name) (flow : Flow) → named f flows ≡ Some flow → NestsWithin flows k f → (I : JobName) (vs : List (Name × Value)) → InputsHave flow.inputs vs → NamedHave (measured_outputs flow) (flow_meaning gives flows k f I vs).outputs
flow-outputs gives flows sound zero f flow e n I vs h = absurd n
flow-outputs gives flows sound (suc k) f flow e n I vs h =
    let s = sound f flow e in
    subst (λ o. NamedHave (measured_outputs flow) (option_map_or (λ w. instance_meaning gives (flow_meaning gives flows k) I w vs) o no_meaning).outputs) (sym e)
    (instance-outputs gives flows (flow_meaning gives flows k) k (flow-delivers gives flows sound k) I flow s.0 s.1 (steps-nest flows k f flow e n) vs h)

-- ---- the flow of an instance, as it is looked up

find-own : (js : List Job) → Apart (λ j. j.name) js → (p : Job) → In p js → (n : JobName) → p.name ≡ n → find (λ j. same_job n j.name) js ≡ Some p
find-own [] a p h n e = absurd h
find-own (j ∷ js) a p (inl q) n e = subst (λ b. (if b then Some j else find (λ i. same_job n i.name) js) ≡ Some p) (sym ((same_job_decides n j.name).1 (sym e ∙ ap (λ (i : Job). i.name) q))) (ap Some (sym q))
find-own (j ∷ js) a p (inr h) n e = by (same_job n j.name) refl (find-own js a.1 p h n e)
  where
    by : (b : Bool) → same_job n j.name ≡ b → find (λ i. same_job n i.name) js ≡ Some p → (if b then Some j else find (λ i. same_job n i.name) js) ≡ Some p
    by true t rec = absurd (a.0 p h (e ∙ (same_job_decides n j.name).0 t))
    by false t rec = rec

module _ (gives : Giving) (d : Document) where
  whole-any : (m : Meaning) → ((p : Job) → In p m.jobs → p.name ≡ [] → ⊥) → Apart (λ j. j.name) m.jobs → (J : JobName) (g : Name) → IsOfFlow m.jobs [] d.main J g → instance_flow d m J ≡ Some g
  whole-any m named apart J g (inl q) = subst (λ K. instance_flow d m K ≡ Some g) (sym q.0) (ap Some (sym q.1))
  whole-any m named apart [] g (inr r) = absurd (named r.0 r.1 r.2)
  whole-any m named apart (x ∷ J) g (inr r) = ap (λ o. option_and_then (λ (j : Job). j.opens) o) (find-own m.jobs apart r.0 r.1 (x ∷ J) r.2) ∙ r.3

  -- at a number of levels, so that those of a document aren't unfolded
  module _ (sound : AllSound d.flows) (a : Agrees d) (m : Meaning) (unnamed : (p : Job) → In p m.jobs → p.name ≡ [] → ⊥) (apart : Apart (λ j. j.name) m.jobs) (at : AllAt gives d.flows sound m.jobs [] d.main m) where
    abbrev stands : (J : JobName) (n : Name) → Stands gives d.flows sound m.jobs [] d.main J n → StandsIn d m J n
    stands J n w = record { flow_name = w.flow_name; flow = w.flow; step = w.step; of_instance = whole-any m unnamed apart J w.flow_name w.of_instance; is_flow = w.is_flow; is_step = w.is_step }

    steps-planned : Each (StepIsPlanned d m) m.steps
    steps-planned = in_each (StepIsPlanned d m) m.steps (λ s h. let w = at.0 s h in record { own = stands s.instance s.step w.own; inputs = w.inputs; outputs = w.outputs })

    jobs-planned : Each (JobIsPlanned d m) m.jobs
    jobs-planned = in_each (JobIsPlanned d m) m.jobs (λ j h. let w = at.1 j h in record { own = stands j.instance j.step w.own; inputs = w.inputs; result = w.result; opens = w.opens })

-- ---- accepted documents

all-sound : (d : Document) → is_formed d ≡ true → Agrees d → AllSound d.flows
all-sound d formed a f flow e = (a.flows f flow e, each-by (IsThere flow.steps) (λ s. named s.0 flow.steps ≡ Some s.1) flow.steps (λ s t. t.1) (each-there flow.steps (steps-ascend flow (form f flow e))))
  where
    forms : Each (λ (f : Name × Flow). is_flow f.1 ≡ true) d.flows
    forms = each-by _ (λ (f : Name × Flow). is_flow f.1 ≡ true) d.flows (λ f b. (and_parts (is_name f.0) (is_flow f.1) b).1) (all-each (λ f. is_name f.0 && is_flow f.1) d.flows (all-pass is_flow 1 256 d.flows (document-flows d formed)))

    form : (f : Name) (flow : Flow) → named f d.flows ≡ Some flow → is_flow flow ≡ true
    form f flow e = named-each (λ f. is_flow f.1 ≡ true) f d.flows flow forms e

pub meanings-planned : (gives : Giving) (d : Document) → is_formed d ≡ true → IsAccepted d → IsAsPlanned d (meaning gives d)
meanings-planned gives d formed accepted =
    let a = accepted-agrees d formed accepted in
    let sound = all-sound d formed a in
    let whole = meaning-whole gives AnyNumber d (each-all (λ f. StepsHave gives AnyNumber f.1) (λ f. each-all (λ s. AnyNumber s.1.jobs) (λ s. tt) f.1.steps) d.flows) in
    let main = nesting-main d.flows nesting_limit d.main a.nests in
    let at = flow-at gives d.flows sound (meaning gives d).jobs nesting_limit d.main main.0 main.1 a.nests [] d.inputs (a.inputs main.0 main.1) (λ j h. h) in
    let unnamed : (p : Job) → In p (meaning gives d).jobs → p.name ≡ [] → ⊥ = λ p h e. let w = whole.jobs p h in no-nil p.instance w.key (sym e ∙ w.named) in
    record {
      steps = steps-planned gives d sound a (meaning gives d) unnamed whole.jobs_apart at;
      jobs = jobs-planned gives d sound a (meaning gives d) unnamed whole.jobs_apart at;
      outputs = λ flow e. flow-outputs gives d.flows sound nesting_limit d.main flow e a.nests [] d.inputs (a.inputs flow e);
    }
  where
    nesting-main : (flows : List (Name × Flow)) (k : ℕ) (f : Name) → NestsWithin flows k f → (flow : Flow) × (named f flows ≡ Some flow)
    nesting-main flows zero f n = absurd n
    nesting-main flows (suc k) f n = (n.0, n.1)
