-- The results of the jobs of an instance of a meaning, and its steps and jobs as they are seen without their tries.
use Rattle.std.specs.Option.{option_map_or}
use Rattle.std.specs.Prelude.{List, [], ◌∷◌, find, map}
use Rattle.tv_lemmas.specs.Members.{Each}
use Rattle.tv_value.specs.Orders.{same_job, same_name}
use Rattle.tv_value.specs.Values.{JobName, Name, Value}
use Rattle.tv_gate.specs.Outcomes.{Giving}
use Rattle.tv_flow.specs.Flows.{Step}
use Rattle.tv_strategy.specs.Origins.{Origin, Traced}
use Rattle.tv_model.specs.instance.Delivered.{Delivered, StepMeaning}
use Rattle.tv_model.specs.instance.Steps.{declared_depths, spot}
use Rattle.tv_model.specs.instance.ByResults.{InstanceStep, PlacedJob, Results}
use Rattle.tv_model.specs.RightDepths.{HaveTheseDepths}
use Rattle.tv_model.specs.Instances.{step_made}
use Rattle.tv_model.specs.Made.{Made, Meaning, Opened}

-- a job without its tries and its result
pub record JobOutside : Type 0 where
  pub name : JobName
  pub inputs : List Traced
  pub waits : List Origin

abbrev pub outside_of_opened : Opened → JobOutside
outside_of_opened o = record { name = o.job.name; inputs = o.job.inputs; waits = o.job.waits }

abbrev pub outside_of_placed : JobName → PlacedJob → JobOutside
outside_of_placed instance j = record {
  name = spot instance j.step j.place;
  inputs = j.inputs;
  waits = j.waits;
}

-- a step with its jobs, as a meaning has it and as it is by results
abbrev pub outside_of_made : Made → StepMeaning × List JobOutside
outside_of_made m = (m.step, map outside_of_opened m.jobs)

abbrev pub outside_by_results : JobName → InstanceStep → StepMeaning × List JobOutside
outside_by_results instance f = (f.step, map (outside_of_placed instance) f.jobs)

-- what the job of that name gave
abbrev pub given_by : List Opened → JobName → List Value
given_by os n = option_map_or (λ o. o.job.result) (find (λ o. same_job n o.job.name) os) []

-- what the jobs of these steps gave
abbrev pub results_of : JobName → List Made → Results
results_of instance ms s q =
    option_map_or (λ m. given_by m.jobs (spot instance s q))
    (find (λ m. same_name s m.step.step) ms) []

-- each job of a step gives values of the depths that the step declares, and so do those of the steps that are made after it
module _ (gives : Giving) (inside : Name → JobName → List (Name × Value) → Meaning)
    (instance : JobName)
    (given : List (Name × Delivered)) where
  abbrev pub AllMadeGive : List Made → List (Name × Step) → Type 0
  AllMadeGive ms [] = Unit {0}
  AllMadeGive ms (s ∷ ss) =
      let m = step_made gives inside instance given ms s in
      Each (λ (o : Opened). HaveTheseDepths (declared_depths s.1) o.job.result) m.jobs
      × AllMadeGive (m ∷ ms) ss
