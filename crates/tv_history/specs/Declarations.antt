-- What a document declares for the step of a job.
use Rattle.std.specs.Prelude.{List, Option, option_and_then, option_map, ℕ}
use Rattle.tv_value.specs.Orders.{named}
use Rattle.tv_value.specs.Values.{JobName, Name}
use Rattle.tv_gate.specs.Outcomes.{Giving}
use Rattle.tv_flow.specs.Flows.{Document, Flow, Step}
use Rattle.tv_model.specs.Jobs.{Job}
use Rattle.tv_history.specs.Calls.{job_of}
use Rattle.tv_history.specs.Runs.{Run, flow_of}

-- the outputs of the step of that name, with their depths, in the flow of that instance
abbrev pub declared_outputs : Document → JobName → Name → Option (List (Name × ℕ))
declared_outputs d instance step =
    option_map (λ (s : Step). s.outputs)
    (option_and_then (λ (f : Flow). named step f.steps) (flow_of d.flows d.main instance))

-- those of the step of the job of a number
abbrev pub declared_for : Giving → Run → ℕ → Option (List (Name × ℕ))
declared_for gives r k =
    option_and_then (λ (j : Job). declared_outputs r.document j.instance j.step) (job_of gives r k)
