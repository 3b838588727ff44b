-- The records of the main flow's jobs, by the steps of its instance.
use Rattle.std.specs.Prelude.{◌≡◌, refl, Bool, true, false, List, [], ◌∷◌, flat_map, map}
use Rattle.std.proofs.Common.{sym, ap, subst, ◌∙◌, inl, inr}
use Rattle.std.proofs.lemmas.Bool.{true≢false}
use Rattle.tv_lemmas.specs.Members.{In}
use Rattle.tv_lemmas.proofs.Members.{in-filter, in-flat, in-map, of-filter, of-flat, of-map}
use Rattle.tv_value.specs.Values.{JobName}
use Rattle.tv_gate.specs.Outcomes.{Giving}
use Rattle.tv_flow.specs.Flows.{Document, Flow}
use Rattle.tv_lineage.specs.Lineages.{Record}
use Rattle.tv_lineage.specs.Members.{HaveSame}
use Rattle.tv_model.specs.instance.Delivered.{StepMeaning}
use Rattle.tv_model.specs.instance.Ranks.{ranked}
use Rattle.tv_model.specs.instance.ByResults.{InstanceStep, PlacedJob}
use Rattle.tv_frame.specs.instances.OwnResults.{JobOutside, outside_by_results, outside_of_made, outside_of_opened, outside_of_placed}
use Rattle.tv_frame.proofs.instances.Results.{steps-by_results}
use Rattle.tv_model.specs.Earlier.{job_list}
use Rattle.tv_model.specs.Jobs.{Job}
use Rattle.tv_model.specs.Lineages.{is_outermost, main_jobs, used}
use Rattle.tv_model.specs.Made.{Made, Meaning, Opened}
use Rattle.tv_model.specs.Meanings.{flow_meaning, meaning}
use Rattle.tv_model.proofs.Members.{once-of_apart}
use Rattle.tv_model.proofs.Whole.{AnyNumber, IsWhole, StepsHave, meaning-whole}
use Rattle.tv_frame.specs.MainSteps.{main_steps}
use Rattle.tv_forest.specs.order.Parts.{IsInstance}
use Rattle.tv_forest.proofs.Parts.{main-instance}
use Rattle.tv_model.specs.records.Recorded.{main_records, mark_of, record_of}
use Rattle.tv_model.specs.Instances.{given_of}
use Rattle.tv_model.proofs.Formed.{AreFormed}
use Rattle.tv_model.proofs.Instances.{given-free, instance-formed}
use Rattle.tv_traces.proofs.Stages.{by-each}
use Rattle.tv_traces.specs.Settled.{records_of_settled}
use Rattle.tv_traces.specs.Staged.{main_made, main_results}
use Rattle.tv_forest.specs.runs.Stated.{IsMainFlow}
use Rattle.tv_strategy.proofs.Each.{each-all}

-- what passes a test
pub outermost : (n : JobName) → is_outermost n ≡ true → n ≡ []
outermost [] e = refl
outermost (k ∷ n) e = absurd (true≢false (sym e))

-- the record of a job by its name and inputs
abbrev record_outside : JobOutside → Record
record_outside j = record { job = j.name; used = map mark_of (Rattle.std.specs.Prelude.flat_map used j.inputs) }

-- the record of a job that stands in a step
abbrev pub placed_record : PlacedJob → Record
placed_record k = record_outside (outside_of_placed [] k)

module _ (gives : Giving) (d : Document) (flow : Flow) (is : IsMainFlow d flow) where
  abbrev m : Meaning
  m = meaning gives d

  abbrev made : List Made
  made = main_made gives d flow

  abbrev all : List InstanceStep
  all = Rattle.tv_model.specs.instance.ByResults.steps_by [] (main_results gives d flow) (Rattle.tv_model.specs.Instances.given_of flow d.inputs) [] (ranked flow.steps)

  part : IsInstance gives d.flows m [] 7 flow d.inputs
  part = main-instance gives d.flows 7 d.main flow is.is_main [] d.inputs

  alike : map outside_of_made made ≡ map (outside_by_results []) all
  alike = steps-by_results gives (flow_meaning gives d.flows 7) [] flow d.inputs

  -- a main job is that of a step
  pub record IsPlaced (r : Record) : Type 0 where
    pub step : InstanceStep
    pub there : In step all
    pub placed : PlacedJob
    pub among : In placed step.jobs
    pub same : r ≡ placed_record placed

  jobs-alike : (ms : List Made) (fs : List InstanceStep) → map outside_of_made ms ≡ map (outside_by_results []) fs → (x : Made) → In x ms → (f : InstanceStep) × In f fs × (map outside_of_opened x.jobs ≡ map (outside_of_placed []) f.jobs) × (x.step ≡ f.step)
  jobs-alike [] fs e x i = absurd i
  jobs-alike (y ∷ ms) [] e x i = absurd (cc)
  jobs-alike (y ∷ ms) (f ∷ fs) e x (inl p) =
      let g = first e in (f, inl refl, ap (λ (z : Made). map outside_of_opened z.jobs) p ∙ ap (λ (z : StepMeaning × List JobOutside). z.1) g, ap (λ (z : Made). z.step) p ∙ ap (λ (z : StepMeaning × List JobOutside). z.0) g)
    where
      first : outside_of_made y ∷ map outside_of_made ms ≡ outside_by_results [] f ∷ map (outside_by_results []) fs → outside_of_made y ≡ outside_by_results [] f
      first h = cc
  jobs-alike (y ∷ ms) (f ∷ fs) e x (inr j) = let r = jobs-alike ms fs (rest e) x j in (r.0, inr r.1, r.2, r.3)
    where
      rest : outside_of_made y ∷ map outside_of_made ms ≡ outside_by_results [] f ∷ map (outside_by_results []) fs → map outside_of_made ms ≡ map (outside_by_results []) fs
      rest h = cc

  steps-alike : (ms : List Made) (fs : List InstanceStep) → map outside_of_made ms ≡ map (outside_by_results []) fs → (f : InstanceStep) → In f fs → (x : Made) × In x ms × (map outside_of_opened x.jobs ≡ map (outside_of_placed []) f.jobs) × (x.step ≡ f.step)
  steps-alike [] [] e f i = absurd i
  steps-alike [] (g ∷ fs) e f i = absurd (cc)
  steps-alike (y ∷ ms) [] e f i = absurd i
  steps-alike (y ∷ ms) (g ∷ fs) e f (inl p) =
      let h = first e in (y, inl refl, ap (λ (z : StepMeaning × List JobOutside). z.1) h ∙ ap (λ (z : InstanceStep). map (outside_of_placed []) z.jobs) (sym p), ap (λ (z : StepMeaning × List JobOutside). z.0) h ∙ ap (λ (z : InstanceStep). z.step) (sym p))
    where
      first : outside_of_made y ∷ map outside_of_made ms ≡ outside_by_results [] g ∷ map (outside_by_results []) fs → outside_of_made y ≡ outside_by_results [] g
      first h = cc
  steps-alike (y ∷ ms) (g ∷ fs) e f (inr j) = let r = steps-alike ms fs (rest e) f j in (r.0, inr r.1, r.2, r.3)
    where
      rest : outside_of_made y ∷ map outside_of_made ms ≡ outside_by_results [] g ∷ map (outside_by_results []) fs → map outside_of_made ms ≡ map (outside_by_results []) fs
      rest h = cc

  pub main-placed : (r : Record) → In r (main_records m) → IsPlaced r
  main-placed r i =
      let j = of-map record_of r (main_jobs m) i in
      let w = of-filter (λ (x : Job). is_outermost x.instance) j.0 m.jobs j.1 in
      let o = part.jobs j.0 w.0 (outermost j.0.instance w.1) in
      let x = of-flat (λ (y : Made). y.jobs) o.0 made o.1 in
      let f = jobs-alike made all alike x.0 x.1 in
      let k = of-map (outside_of_placed []) (outside_of_opened o.0) f.0.jobs (subst (In (outside_of_opened o.0)) f.2 (in-map outside_of_opened o.0 x.0.jobs x.2)) in
      record {
        step = f.0;
        there = f.1;
        placed = k.0;
        among = k.1;
        same = j.2 ∙ ap record_of o.2 ∙ ap record_outside k.2;
      }

  whole : IsWhole gives AnyNumber m []
  whole = meaning-whole gives AnyNumber d (each-all (λ f. StepsHave gives AnyNumber f.1) (λ f. each-all (λ s. AnyNumber s.1.jobs) (λ s. tt) f.1.steps) d.flows)

  -- two records of main jobs of one name are one
  pub one-record : (r x : Record) → In r (main_records m) → In x (main_records m) → x.job ≡ r.job → x ≡ r
  one-record r x i k e =
      let j = of-map record_of r (main_jobs m) i in
      let n = of-map record_of x (main_jobs m) k in
      let jr = of-filter (λ (y : Job). is_outermost y.instance) j.0 m.jobs j.1 in
      let nr = of-filter (λ (y : Job). is_outermost y.instance) n.0 m.jobs n.1 in
      n.2 ∙ ap record_of (once-of_apart (λ (y : Job). y.name) m.jobs whole.jobs_apart n.0 j.0 nr.0 jr.0 (sym (ap (λ (y : Record). y.job) n.2) ∙ e ∙ ap (λ (y : Record). y.job) j.2)) ∙ sym j.2

  -- records of settled main jobs alone, with one of each name, are those of the settled main jobs
  pub have-same : (settled : JobName → Bool) (rs : List Record) → ((r : Record) → In r rs → In r (main_records m) × (settled r.job ≡ true)) → ((r : Record) → In r (main_records m) → settled r.job ≡ true → (x : Record) × In x rs × (x.job ≡ r.job)) → HaveSame rs (records_of_settled settled m)
  have-same settled rs own all_there r = (
    λ i. let o = own r i in in-filter (λ (x : Record). settled x.job) r (main_records m) o.0 o.1,
    λ i.
        let f = of-filter (λ (x : Record). settled x.job) r (main_records m) i in
        let here : In r (main_records m) = f.0 in
        let x = all_there r here f.1 in
        subst (λ z. In z rs) (one-record r x.0 here (own x.0 x.1).0 x.2) x.1,
  )

  formed : AreFormed gives (flow_meaning gives d.flows 7) [] (λ n j. Unit {0}) (λ f n us. tt) (λ k. Unit {0}) (given_of flow d.inputs) (given-free flow d.inputs) made
  formed = instance-formed gives (flow_meaning gives d.flows 7) [] flow d.inputs (λ n j. Unit {0}) (λ f n us. tt) (λ k. Unit {0}) (each-all (λ s. Unit {0}) (λ s. tt) (ranked flow.steps))

  -- the job of a step is a main job
  pub placed-main : (f : InstanceStep) → In f all → (k : PlacedJob) → In k f.jobs → In (placed_record k) (main_records m)
  placed-main f i k j =
      let x = steps-alike made all alike f i in
      let o = of-map outside_of_opened (outside_of_placed [] k) x.0.jobs (subst (In (outside_of_placed [] k)) (sym x.2) (in-map (outside_of_placed []) k f.jobs j)) in
      let p = in-flat (λ (y : Made). y.jobs) x.0 o.0 made x.1 o.1 in
      let here = part.all_jobs o.0 p in
      subst (λ z. In z (main_records m)) (sym (ap record_outside o.2))
      (in-map record_of o.0.job (main_jobs m) (in-filter (λ (y : Job). is_outermost y.instance) o.0.job m.jobs here (ap is_outermost (in-instance o.0 p))))
    where
      in-instance : (o : Opened) → In o (job_list made) → o.job.instance ≡ []
      in-instance o p = (formed.jobs o p).in_instance

  own-instance : (f : InstanceStep) → In f all → f.step.instance ≡ []
  own-instance f i = by-each [] (main_results gives d flow) (given_of flow d.inputs) (λ g. g.step.instance ≡ []) [] (ranked flow.steps) (λ gs x j. refl) (λ g j. absurd j) f i

  -- a step of the instance is one of the main steps
  pub step-main : (f : InstanceStep) → In f all → In f.step (main_steps m)
  step-main f i =
      let x = steps-alike made all alike f i in
      let here = part.all_steps x.0.step (in-map (λ (y : Made). y.step) x.0 made x.1) in
      subst (λ z. In z (main_steps m)) x.3
      (in-filter (λ (s : StepMeaning). is_outermost s.instance) x.0.step m.steps here (ap is_outermost (ap (λ (s : StepMeaning). s.instance) x.3 ∙ own-instance f i)))
