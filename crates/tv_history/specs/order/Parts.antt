-- An instance inside a meaning: it is the instance of a flow on inputs.
use Rattle.std.specs.Prelude.{List, Some, [], map, ℕ, ◌≡◌}
use Rattle.tv_lemmas.specs.Members.{In}
use Rattle.tv_value.specs.Orders.{named}
use Rattle.tv_value.specs.Values.{JobName, Name, Value}
use Rattle.tv_gate.specs.Outcomes.{Giving}
use Rattle.tv_flow.specs.Flows.{Flow, Step}
use Rattle.tv_model.specs.instance.Delivered.{StepMeaning}
use Rattle.tv_model.specs.instance.Ranks.{ranked}
use Rattle.tv_model.specs.Earlier.{job_list}
use Rattle.tv_model.specs.Instances.{given_of}
use Rattle.tv_model.specs.Instances.{steps_made}
use Rattle.tv_model.specs.Jobs.{Job}
use Rattle.tv_model.specs.Made.{Made, Meaning, Opened}
use Rattle.tv_model.specs.Meanings.{flow_meaning}

abbrev pub steps_of_made : List Made → List StepMeaning
steps_of_made ms = map (λ (n : Made). n.step) ms

module _ (gives : Giving) (flows : List (Name × Flow)) where
  abbrev pub made_of : ℕ → Flow → JobName → List (Name × Value) → List Made
  made_of k flow I vs = steps_made gives (flow_meaning gives flows k) I (given_of flow vs) []
      (ranked flow.steps)

  -- the steps and jobs of m in the instance I are those of the flow on these inputs
  pub record IsInstance (m : Meaning) (I : JobName) (k : ℕ) (flow : Flow)
      (vs : List (Name × Value)) : Type 0 where
    pub steps : (s : StepMeaning) → In s m.steps → s.instance ≡ I
        → In s (steps_of_made (made_of k flow I vs))
    pub all_steps : (s : StepMeaning) → In s (steps_of_made (made_of k flow I vs)) → In s m.steps
    pub jobs :
        (j : Job)
        → In j m.jobs
        → j.instance ≡ I
        → (o : Opened) × In o (job_list (made_of k flow I vs)) × (j ≡ o.job)
    pub all_jobs : (o : Opened) → In o (job_list (made_of k flow I vs)) → In o.job m.jobs

  -- the instance in which a job stands, of a flow in which this is the step of its name
  pub record OwnPart (m : Meaning) (j : Job) (s : Step) : Type 0 where
    pub levels : ℕ
    pub flow : Flow
    pub inputs : List (Name × Value)
    pub part : IsInstance m j.instance levels flow inputs
    pub is_step : named j.step (ranked flow.steps) ≡ Some s
