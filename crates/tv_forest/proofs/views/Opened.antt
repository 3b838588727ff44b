-- The flow that a job opens has a whole meaning, which stands in that of the document.
use Rattle.std.specs.Prelude.{◌≡◌, refl, ℕ, zero, suc, ◌⊎◌, ◌++◌, Bool, true, false, List, [], ◌∷◌, Option, Some, None, flat_map, map, if◌then◌else◌}
use Rattle.std.specs.List.{list_any}
use Rattle.std.specs.Option.{option_map_or}
use Rattle.std.proofs.Common.{sym, ap, ap₂, subst, ◌∙◌, inl, inr, append_assoc, append-nil}
use Rattle.std.proofs.lemmas.Option.{none-some, same_Some}
use Rattle.std.proofs.lemmas.Simd.{map-map}
use Rattle.tv_lemmas.specs.Members.{Each, In}
use Rattle.tv_lemmas.proofs.Members.{each_in, in-append, in-flat, in-right, of-flat, of-map}
use Rattle.tv_value.specs.Nested.{Place}
use Rattle.tv_value.specs.Orders.{named}
use Rattle.tv_value.specs.Values.{JobName, Name, Value, holds_fault}
use Rattle.tv_gate.specs.Outcomes.{Giving}
use Rattle.tv_flow.specs.Flows.{Document, Flow, Step, StepInput}
use Rattle.tv_flow.specs.Formed.{is_formed}
use Rattle.tv_strategy.specs.Origins.{Origin, Traced, plain}
use Rattle.tv_strategy.proofs.Each.{each-all}
use Rattle.tv_dispatch.specs.Jobs.{Fate, Taken, opens, right, take_tries, tries, wrong}
use Rattle.tv_model.specs.instance.CheckedDepths.{steps_depths}
use Rattle.tv_model.specs.instance.Delivered.{StepMeaning}
use Rattle.tv_model.specs.instance.Ranks.{ranked}
use Rattle.tv_model.specs.instance.Steps.{bound_values, declared_depths}
use Rattle.tv_check.specs.Plans.{IsAccepted}
use Rattle.tv_model.specs.Agreeing.{ActivitiesAgree, ActivitiesNest, FindThemselves, InputsHave, NestedAgrees, NestsWithin, StepsNest}
use Rattle.tv_model.specs.Earlier.{job_list}
use Rattle.tv_model.specs.Instances.{bounced_job, given_of, job_on, tried_job, with_fate, zip_names}
use Rattle.tv_model.specs.Jobs.{Job}
use Rattle.tv_model.specs.Lists.{rest_of}
use Rattle.tv_model.specs.Made.{Made, Meaning, Opened}
use Rattle.tv_model.specs.Meanings.{flow_meaning, instance_meaning, jobs_with_inside, meaning, nesting_limit, no_meaning, steps_inside}
use Rattle.tv_model.specs.RightDepths.{HaveTheseDepths}
use Rattle.tv_model.proofs.Formed.{own-apart}
use Rattle.tv_model.proofs.Instances.{given-free, instance-formed}
use Rattle.tv_model.proofs.Members.{not-longer, once-of_apart}
use Rattle.tv_model.specs.JobOrder.{Apart}
use Rattle.tv_model.proofs.Results.{zip-have}
use Rattle.tv_model.proofs.Whole.{AnyNumber, IsWhole, StepsHave, flow-whole, same-head}
use Rattle.tv_model.specs.Opening.{first_nested}
use Rattle.tv_history.proofs.AcceptedDocuments.{accepted-agrees}
use Rattle.tv_history.proofs.Inner.{first-nests}
use Rattle.tv_history.proofs.OneInstance.{AllSound, IsSound, flow-delivers, instance-made}
use Rattle.tv_history.proofs.OneStep.{JobIs, MadeIs}
use Rattle.tv_model.proofs.Opening.{InsideAt, IsAt}
use Rattle.tv_history.specs.order.Parts.{IsInstance, made_of}
use Rattle.tv_history.proofs.Parts.{main-instance}
use Rattle.tv_framing.specs.Views.{View}
use Rattle.tv_forest.specs.views.InRun.{IsOfJob}
use Rattle.tv_forest.proofs.views.Steps.{before, of-jobs, of-made}
use Rattle.tv_forest.proofs.views.OwnDepths.{accepted-sound}

-- ---- meanings within each other

-- under this name M has what m has, and nothing else
pub record StandsIn (M m : Meaning) (J : JobName) : Type 0 where
  pub jobs : (j : Job) → In j m.jobs → In j M.jobs
  pub steps : (s : StepMeaning) → In s m.steps → In s M.steps
  pub only_jobs : (j : Job) → In j M.jobs → (r : JobName) → j.instance ≡ J ++ r → In j m.jobs
  pub only_steps : (s : StepMeaning) → In s M.steps → (r : JobName) → s.instance ≡ J ++ r → In s m.steps

stands-within :
    (M m n : Meaning) (J K t : JobName) → K ≡ J ++ t → StandsIn M m J → StandsIn m n K → StandsIn M n K
stands-within M m n J K t e a b = record {
  jobs = λ j i. a.jobs j (b.jobs j i);
  steps = λ s i. a.steps s (b.steps s i);
  only_jobs = λ j i r g. b.only_jobs j (a.only_jobs j i (t ++ r) (below j.instance r g)) r g;
  only_steps = λ s i r g. b.only_steps s (a.only_steps s i (t ++ r) (below s.instance r g)) r g;
}
  where
    below : (I r : JobName) → I ≡ K ++ r → I ≡ J ++ (t ++ r)
    below I r g = g ∙ ap (λ l. l ++ r) e ∙ append_assoc J t r

-- so an instance of that name is one of the whole
stands-instance :
    (gives : Giving) (flows : List (Name × Flow)) (M m : Meaning) (J : JobName) (k : ℕ) (flow : Flow)
    (vs : List (Name × Value)) → StandsIn M m J → IsInstance gives flows m J k flow vs
    → IsInstance gives flows M J k flow vs
stands-instance gives flows M m J k flow vs w p = record {
  steps = λ s i e. p.steps s (w.only_steps s i [] (e ∙ sym (append-nil J))) e;
  all_steps = λ s i. w.steps s (p.all_steps s i);
  jobs = λ j i e. p.jobs j (w.only_jobs j i [] (e ∙ sym (append-nil J))) e;
  all_jobs = λ o i. w.jobs o.job (p.all_jobs o i);
}

-- ---- what a job gives that opens a flow

abbrev results_of_outputs : Meaning → List Value
results_of_outputs m = map (λ o. plain o.1) m.outputs

abbrev GivesInside : Opened → Type 0
GivesInside o = (m : Meaning) → o.inside ≡ Some m → o.job.result ≡ results_of_outputs m

module _ (gives : Giving) (inside : Name → JobName → List (Name × Value) → Meaning) (I : JobName) where
  fate-gives : (s : Step) (j : Job) (f : Fate) → GivesInside (with_fate inside s j f)
  fate-gives s j (right vs) m e = absurd (none-some m e)
  fate-gives s j (wrong why) m e = absurd (none-some m e)
  fate-gives s j (opens f) m e = ap results_of_outputs (same_Some (inside f j.name (zip_names s.inputs j.inputs)) m e)

  job-gives :
      (n : Name) (s : Step) (waits : List Origin) (q : Place) (vs : List Traced)
      → GivesInside (job_on gives inside I n s waits q vs)
  job-gives n s waits q vs = by (list_any (λ v. holds_fault v) vs)
    where
      j : Job
      j = bounced_job I n s waits q vs

      t : Taken
      t = take_tries gives [] (tries (map plain vs) (declared_depths s) s.retries 0 s.activities)

      by : (b : Bool) → GivesInside (if b then record { job = j; inside = None } else tried_job gives inside s j)
      by true m e = absurd (none-some m e)
      by false m e = fate-gives s (record j { asks = t.asks }) t.fate m e

-- ---- one instance

module _ (gives : Giving) (flows : List (Name × Flow)) (k : ℕ) (flow : Flow) (I : JobName) (vs : List (Name × Value)) where
  abbrev inside : Name → JobName → List (Name × Value) → Meaning
  inside = flow_meaning gives flows k

  abbrev ms : List Made
  ms = made_of gives flows k flow I vs

  abbrev os : List Opened
  os = job_list ms

  abbrev n : Meaning
  n = instance_meaning gives inside I flow vs

  -- a job of the instance, of one of the flow's steps
  pub record IsOwn (o : Opened) : Type 0 where
    pub name : Name
    pub step : Step
    pub place : Place
    pub at : IsAt gives inside I name step place o
    pub inputs : HaveTheseDepths (map (λ i. i.1.depth) step.inputs) o.job.inputs
    pub once : FindThemselves step.inputs step.inputs
    pub activities : ActivitiesAgree flows step step.activities
    pub nests : ActivitiesNest (NestsWithin flows k) step.activities
    pub result : GivesInside o

  own :
      AllSound flows → IsSound flows flow → StepsNest (NestsWithin flows k) flow.steps → InputsHave flow.inputs vs
      → (o : Opened) → In o os → IsOwn o
  own sound agree nest have o h =
      let delivers = flow-delivers gives flows sound k in
      let z = of-flat (λ (x : Made). x.jobs) o ms h in
      let x = each_in (MadeIs gives flows inside k delivers I flow.steps flow.inputs (steps_depths flow.inputs [] (ranked flow.steps))) ms (instance-made gives flows inside k delivers I flow agree.0 agree.1 nest vs have) z.0 z.1 in
      let y = each_in (JobIs gives flows inside k delivers I z.0.step.step x.step) z.0.jobs x.jobs o z.2 in
      record {
        name = z.0.step.step;
        step = x.step;
        place = y.place;
        at = y.at;
        inputs = y.fit.inputs;
        once = x.once;
        activities = x.activities;
        nests = x.nests;
        result = result z.0 z.1 z.2;
      }
    where
      result : (z : Made) → In z ms → In o z.jobs → GivesInside o
      result z i g =
          let t = of-made gives inside I flow vs z i in
          let w = of-jobs gives inside I flow vs t.0 o (subst (λ (x : Made). In o x.jobs) t.1 g) in
          subst GivesInside (sym w.is_job) (job-gives gives inside I t.0.step.0 t.0.step.1 (w.sources ++ before gives inside I flow vs t.0) w.place (bound_values t.0.step.1 w.binding))

  -- what a job opens, by its flow
  pub record IsInside (o : Opened) (step : Step) (m : Meaning) : Type 0 where
    pub flow_name : Name
    pub nested_first : first_nested step.activities ≡ Some flow_name
    pub opens : o.job.opens ≡ Some flow_name
    pub meant : m ≡ inside flow_name o.job.name (zip_names step.inputs o.job.inputs)

  inner : (o : Opened) (w : IsOwn o) (m : Meaning) → o.inside ≡ Some m → IsInside o w.step m
  inner o w m e =
      let t = subst (λ p. InsideAt gives inside I w.step o.job p) e w.at.inside_it in
      record { flow_name = t.0; nested_first = t.1; opens = t.2; meant = t.3 }

  whole : (o : Opened) (w : IsOwn o) (m : Meaning) → o.inside ≡ Some m → IsWhole gives AnyNumber m o.job.name
  whole o w m e =
      let t = inner o w m e in
      subst (λ x. IsWhole gives AnyNumber x o.job.name) (sym t.meant)
      (flow-whole gives AnyNumber flows (any flows) k t.flow_name o.job.name (zip_names w.step.inputs o.job.inputs))
    where
      any : (fs : List (Name × Flow)) → Each (λ f. StepsHave gives AnyNumber f.1) fs
      any fs = each-all (λ f. StepsHave gives AnyNumber f.1) (λ f. each-all (λ s. AnyNumber s.1.jobs) (λ s. tt) f.1.steps) fs

  opened-apart : Apart (λ (o : Opened). o.job.name) os
  opened-apart =
      own-apart gives inside I (λ m n. Unit {0}) (λ f n us. tt) AnyNumber (given_of flow vs) (given-free flow vs) ms
      (instance-formed gives inside I flow vs (λ m n. Unit {0}) (λ f n us. tt) AnyNumber (each-all (λ s. AnyNumber s.1.jobs) (λ s. tt) (ranked flow.steps)))

  -- an instance inside an opened job isn't this one
  not-own : (o : Opened) → IsOwn o → (r : JobName) → I ≡ o.job.name ++ r → ⊥
  not-own o w r e = not-longer I (w.name, w.place) r (e ∙ ap (λ l. l ++ r) w.at.name ∙ append_assoc I ((w.name, w.place) ∷ []) r)

  -- nor inside another
  same-opened :
      (o u : Opened) → In o os → In u os → IsOwn o → IsOwn u → (r s : JobName) → o.job.name ++ r ≡ u.job.name ++ s
      → o ≡ u
  same-opened o u h i w x r s e =
      once-of_apart (λ (z : Opened). z.job.name) os opened-apart o u h i
      (same-head I (w.name, w.place) (x.name, x.place) o.job.name u.job.name r s w.at.name x.at.name e)

  abbrev jobs_in : Option Meaning → List Job
  jobs_in p = option_map_or (λ (m : Meaning). m.jobs) p []

  abbrev steps_in : Option Meaning → List StepMeaning
  steps_in p = option_map_or (λ (m : Meaning). m.steps) p []

  job-below : (o : Opened) → IsOwn o → (j : Job) → In j (jobs_in o.inside) → (r : JobName) × (j.instance ≡ o.job.name ++ r)
  job-below o w j h = by o.inside refl h
    where
      by : (p : Option Meaning) → o.inside ≡ p → In j (jobs_in p) → (r : JobName) × (j.instance ≡ o.job.name ++ r)
      by None e i = absurd i
      by (Some m) e i = ((whole o w m e).jobs j i).below

  step-below : (o : Opened) → IsOwn o → (s : StepMeaning) → In s (steps_in o.inside) → (r : JobName) × (s.instance ≡ o.job.name ++ r)
  step-below o w s h = by o.inside refl h
    where
      by : (p : Option Meaning) → o.inside ≡ p → In s (steps_in p) → (r : JobName) × (s.instance ≡ o.job.name ++ r)
      by None e i = absurd i
      by (Some m) e i = ((whole o w m e).steps s i).0

  step-own : (s : StepMeaning) → In s (map (λ (x : Made). x.step) ms) → s.instance ≡ I
  step-own s h =
      let r = of-map (λ (x : Made). x.step) s ms h in
      let t = of-made gives inside I flow vs r.0 r.1 in
      ap (λ (u : StepMeaning). u.instance) r.2 ∙ ap (λ (x : Made). x.step.instance) t.1

  inside-stands :
      ((u : Opened) → In u os → IsOwn u) → (o : Opened) → In o os → (m : Meaning) → o.inside ≡ Some m
      → StandsIn n m o.job.name
  inside-stands owns o h m e = record {
    jobs = λ j i. in-flat jobs_with_inside o j os h (inr (subst (λ p. In j (jobs_in p)) (sym e) i));
    steps = λ s i. in-right s (map (λ (x : Made). x.step) ms) (flat_map steps_inside os) (in-flat steps_inside o s os h (subst (λ p. In s (steps_in p)) (sym e) i));
    only_jobs = λ j i r g. let z = of-flat jobs_with_inside j os i in job j r g z.0 z.1 z.2;
    only_steps = λ s i r g. step s r g (in-append s (map (λ (x : Made). x.step) ms) (flat_map steps_inside os) i);
  }
    where
      job : (j : Job) (r : JobName) → j.instance ≡ o.job.name ++ r → (u : Opened) → In u os → In j (jobs_with_inside u) → In j m.jobs
      job j r g u i (inl x) = absurd (not-own o (owns o h) r (sym (owns u i).at.in_instance ∙ ap (λ (z : Job). z.instance) (sym x) ∙ g))
      job j r g u i (inr x) =
          let b = job-below u (owns u i) j x in
          let t = same-opened u o i h (owns u i) (owns o h) b.0 r (sym b.1 ∙ g) in
          subst (λ p. In j (jobs_in p)) e (subst (λ (y : Opened). In j (jobs_in y.inside)) t x)

      step : (s : StepMeaning) (r : JobName) → s.instance ≡ o.job.name ++ r → In s (map (λ (x : Made). x.step) ms) ⊎ In s (flat_map steps_inside os) → In s m.steps
      step s r g (inl x) = absurd (not-own o (owns o h) r (sym (step-own s x) ∙ g))
      step s r g (inr x) =
          let z = of-flat steps_inside s os x in
          let b = step-below z.0 (owns z.0 z.1) s z.2 in
          let t = same-opened z.0 o z.1 h (owns z.0 z.1) (owns o h) b.0 r (sym b.1 ∙ g) in
          subst (λ p. In s (steps_in p)) e (subst (λ (y : Opened). In s (steps_in y.inside)) t z.2)

-- ---- at any depth

module _ (gives : Giving) (flows : List (Name × Flow)) where
  -- the flow g, as the job opens it by its step
  abbrev pub opened_meaning : Step → ℕ → Job → Name → Meaning
  opened_meaning s k j g = flow_meaning gives flows k g j.name (zip_names s.inputs j.inputs)

  pub record Opens (M : Meaning) (j : Job) (g : Name) : Type 0 where
    pub step : Step
    pub agrees : NestedAgrees flows step g
    pub inputs : HaveTheseDepths (map (λ i. i.1.depth) step.inputs) j.inputs
    pub levels : ℕ
    pub nests : NestsWithin flows levels g
    pub stands : StandsIn M (opened_meaning step levels j g) j.name
    pub result : j.result ≡ results_of_outputs (opened_meaning step levels j g)

  module _ (sound : AllSound flows) where
    abbrev Found : Meaning → Type 0
    Found M = (j : Job) → In j M.jobs → (g : Name) → j.opens ≡ Some g → Opens M j g

    -- the flow on inputs of its depths
    abbrev HasInputs : Name → List (Name × Value) → Type 0
    HasInputs g us = (flow : Flow) → named g flows ≡ Some flow → InputsHave flow.inputs us

    module _ (k : ℕ) (f : Name) (flow : Flow) (found : named f flows ≡ Some flow) (nest : StepsNest (NestsWithin flows k) flow.steps)
        (I : JobName) (vs : List (Name × Value)) (have : InputsHave flow.inputs vs)
        (rec : (g : Name) → NestsWithin flows k g → (J : JobName) (us : List (Name × Value)) → HasInputs g us → Found (flow_meaning gives flows k g J us)) where
      abbrev M : Meaning
      M = n gives flows k flow I vs

      abbrev Own : Opened → Type 0
      Own o = IsOwn gives flows k flow I vs o

      owns : (o : Opened) → In o (os gives flows k flow I vs) → Own o
      owns o h = own gives flows k flow I vs sound (sound f flow found) nest have o h

      -- what a step opens first
      opened-first : (o : Opened) (w : Own o) (g : Name) → first_nested w.step.activities ≡ Some g → NestedAgrees flows w.step g × NestsWithin flows k g
      opened-first o w g e = first-nests flows w.step (NestsWithin flows k) g w.step.activities e w.activities w.nests

      -- on inputs of its depths
      inputs-have : (o : Opened) (w : Own o) (g : Name) → NestedAgrees flows w.step g → HasInputs g (zip_names w.step.inputs o.job.inputs)
      inputs-have o w g a x e =
          subst (λ (y : Flow). InputsHave y.inputs (zip_names w.step.inputs o.job.inputs)) (same_Some a.flow x (sym a.is_flow ∙ e))
          (subst (λ l. InputsHave l (zip_names w.step.inputs o.job.inputs)) (sym a.inputs) (zip-have w.step.inputs o.job.inputs w.inputs w.step.inputs w.once))

      -- a job of the instance itself
      own-opens : (o : Opened) → In o (os gives flows k flow I vs) → (w : Own o) → (m : Meaning) → o.inside ≡ Some m → (g : Name) → o.job.opens ≡ Some g → Opens M o.job g
      own-opens o h w m e g q =
          let t = inner gives flows k flow I vs o w m e in
          let p = opened-first o w t.flow_name t.nested_first in
          subst (λ x. Opens M o.job x) (same_Some t.flow_name g (sym t.opens ∙ q))
          (record {
            step = w.step;
            agrees = p.0;
            inputs = w.inputs;
            levels = k;
            nests = p.1;
            stands = subst (λ x. StandsIn M x o.job.name) t.meant (inside-stands gives flows k flow I vs owns o h m e);
            result = w.result m e ∙ ap results_of_outputs t.meant;
          })

      -- and one inside
      inside-opens : (o : Opened) → In o (os gives flows k flow I vs) → (w : Own o) → (m : Meaning) → o.inside ≡ Some m → (j : Job) → In j m.jobs → (g : Name) → j.opens ≡ Some g → Opens M j g
      inside-opens o h w m e j i g q =
          let t = inner gives flows k flow I vs o w m e in
          let p = opened-first o w t.flow_name t.nested_first in
          let us = zip_names w.step.inputs o.job.inputs in
          let z = subst (λ x. Opens x j g) (sym t.meant) (rec t.flow_name p.1 o.job.name us (inputs-have o w t.flow_name p.0) j (subst (λ (x : Meaning). In j x.jobs) t.meant i) g q) in
          let b = (whole gives flows k flow I vs o w m e).jobs j i in
          let below = b.named ∙ ap (λ l. l ++ b.key ∷ []) b.below.1 ∙ append_assoc o.job.name b.below.0 (b.key ∷ []) in
          record {
            step = z.step;
            agrees = z.agrees;
            inputs = z.inputs;
            levels = z.levels;
            nests = z.nests;
            stands = stands-within M m (opened_meaning z.step z.levels j g) o.job.name j.name (b.below.0 ++ b.key ∷ []) below (inside-stands gives flows k flow I vs owns o h m e) z.stands;
            result = z.result;
          }

      block-opens : (o : Opened) → In o (os gives flows k flow I vs) → (j : Job) → In j (jobs_with_inside o) → (g : Name) → j.opens ≡ Some g → Opens M j g
      block-opens o h j i g q = by o.inside refl i
        where
          w : Own o
          w = owns o h

          by : (p : Option Meaning) → o.inside ≡ p → In j (o.job ∷ option_map_or (λ (x : Meaning). x.jobs) p []) → Opens M j g
          by None e (inl x) =
              let shut = subst (λ p. InsideAt gives (flow_meaning gives flows k) I w.step o.job p) e w.at.inside_it in
              absurd (none-some g (sym shut ∙ ap (λ (z : Job). z.opens) (sym x) ∙ q))
          by None e (inr x) = absurd x
          by (Some m) e (inl x) = subst (λ u. Opens M u g) (sym x) (own-opens o h w m e g (ap (λ (z : Job). z.opens) (sym x) ∙ q))
          by (Some m) e (inr x) = inside-opens o h w m e j x g q

    opens-in : (k : ℕ) (f : Name) → NestsWithin flows k f → (I : JobName) (vs : List (Name × Value)) → HasInputs f vs → Found (flow_meaning gives flows k f I vs)
    opens-in zero f h I vs have = absurd h
    opens-in (suc k) f h I vs have =
        subst (λ o. Found (option_map_or (λ fl. instance_meaning gives (flow_meaning gives flows k) I fl vs) o no_meaning)) (sym h.1)
        (λ j i g q. let r = of-flat jobs_with_inside j (os gives flows k h.0 I vs) i in
        block-opens k f h.0 h.1 h.2 I vs (have h.0 h.1) (λ g w J us x. opens-in k g w J us x) r.0 r.1 j r.2 g q)

  -- ---- as an instance

  -- the instance of this flow on these inputs, whose outputs are what the job gives
  pub record IsOpenedAs (M : Meaning) (j : Job) (g : Name) (flow : Flow) (vs : List (Name × Value)) : Type 0 where
    pub levels : ℕ
    pub part : IsInstance gives flows M j.name levels flow vs
    pub nests : StepsNest (NestsWithin flows levels) flow.steps
    pub result : j.result ≡ results_of_outputs (flow_meaning gives flows (suc levels) g j.name vs)

  opens-as :
      (M : Meaning) (j : Job) (g : Name) (w : Opens M j g) (flow : Flow) → named g flows ≡ Some flow
      → IsOpenedAs M j g flow (zip_names w.step.inputs j.inputs)
  opens-as M j g w flow e = by w.levels w.nests w.stands w.result
    where
      us : List (Name × Value)
      us = zip_names w.step.inputs j.inputs

      by :
          (k : ℕ) → NestsWithin flows k g → StandsIn M (opened_meaning w.step k j g) j.name
          → j.result ≡ results_of_outputs (opened_meaning w.step k j g) → IsOpenedAs M j g flow us
      by zero h s r = absurd h
      by (suc k) h s r =
          record {
            levels = k;
            part = stands-instance gives flows M (opened_meaning w.step (suc k) j g) j.name k flow us s (main-instance gives flows k g flow e j.name us);
            nests = subst (λ (x : Flow). StepsNest (NestsWithin flows k) x.steps) (same_Some h.0 flow (sym h.1 ∙ e)) h.2;
            result = r;
          }

-- ---- in a document

-- names and values make one list
zip-is :
    (is : List (Name × StepInput)) (ws : List Traced) (vs : List (Name × Value))
    → map (λ v. v.0) vs ≡ map (λ i. i.0) is → map (λ v. v.1) vs ≡ map plain ws → vs ≡ zip_names is ws
zip-is [] ws [] e f = refl
zip-is [] ws (v ∷ vs) e f = absurd cc
zip-is (i ∷ is) [] [] e f = absurd cc
zip-is (i ∷ is) [] (v ∷ vs) e f = absurd cc
zip-is (i ∷ is) (w ∷ ws) [] e f = absurd cc
zip-is (i ∷ is) (w ∷ ws) (v ∷ vs) e f =
    let n : v.0 ≡ i.0 = cc in
    let x : v.1 ≡ plain w = cc in
    ap₂ (λ z zs. z ∷ zs) (λ t. (n t, x t)) (zip-is is ws vs (ap rest_of e) (ap rest_of f))

module _ (gives : Giving) (d : Document) (formed : is_formed d ≡ true) (accepted : IsAccepted d) where
  pub opens-flow : (j : Job) → In j (meaning gives d).jobs → (g : Name) → j.opens ≡ Some g → Opens gives d.flows (meaning gives d) j g
  opens-flow j i g q =
      let agrees = accepted-agrees d formed accepted in
      opens-in gives d.flows (accepted-sound d formed accepted) nesting_limit d.main agrees.nests [] d.inputs agrees.inputs j i g q

  pub opened-part :
      (j : Job) → In j (meaning gives d).jobs → (v : View) (w : IsOfJob d j v)
      → IsOpenedAs gives d.flows (meaning gives d) j w.flow_name v.flow v.inputs
  opened-part j i v w =
      let o = opens-flow j i w.flow_name w.opens in
      let flow = same_Some o.agrees.flow v.flow (sym o.agrees.is_flow ∙ w.is_flow) in
      let names = ap (λ (f : Flow). map (λ x. x.0) f.inputs) (sym flow) ∙ ap (λ xs. map (λ (x : Name × ℕ). x.0) xs) o.agrees.inputs ∙ map-map (λ (x : Name × ℕ). x.0) (λ (s : Name × StepInput). (s.0, s.1.depth)) o.step.inputs in
      subst (λ vs. IsOpenedAs gives d.flows (meaning gives d) j w.flow_name v.flow vs)
      (sym (zip-is o.step.inputs j.inputs v.inputs (w.names ∙ names) w.values))
      (opens-as gives d.flows (meaning gives d) j w.flow_name o v.flow w.is_flow)
