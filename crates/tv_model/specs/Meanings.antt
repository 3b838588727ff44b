-- The meaning of a flow, and of a document.
use Rattle.std.specs.Option.{option_map_or}
use Rattle.std.specs.Prelude.{List, [], flat_map, map, suc, zero, ℕ, ◌++◌, ◌∷◌}
use Rattle.tv_value.specs.Orders.{named}
use Rattle.tv_value.specs.Values.{JobName, Name, Value}
use Rattle.tv_gate.specs.Outcomes.{Giving}
use Rattle.tv_flow.specs.Flows.{Document, Flow}
pub use Rattle.tv_model.specs.instance.Nesting.{nesting_limit}
use Rattle.tv_model.specs.instance.Delivered.{StepMeaning}
use Rattle.tv_model.specs.instance.Ranks.{ranked}
use Rattle.tv_model.specs.Instances.{given_of, steps_made}
use Rattle.tv_model.specs.Jobs.{Job}
use Rattle.tv_model.specs.Made.{Instance, Meaning, Opened, feed_value}

abbrev pub jobs_with_inside : Opened → List Job
jobs_with_inside o = o.job ∷ option_map_or (λ m. m.jobs) o.inside []

abbrev pub steps_inside : Opened → List StepMeaning
steps_inside o = option_map_or (λ m. m.steps) o.inside []

abbrev pub instances_inside : Opened → List Instance
instances_inside o = option_map_or (λ m. m.instances) o.inside []

-- a flow with this instance's name on these inputs
abbrev pub instance_meaning : Giving → (Name → JobName → List (Name × Value) → Meaning) → JobName
    → Flow → List (Name × Value) → Meaning
instance_meaning gives inside instance flow vs =
    let given = given_of flow vs in
    let made = steps_made gives inside instance given [] (ranked flow.steps) in
    let opened = flat_map (λ m. m.jobs) made in
    let outputs = map (λ o. (o.0, (feed_value given made o.1).value)) flow.outputs in
    let own : Instance = record { name = instance; flow = flow; inputs = vs; outputs = outputs } in
    record {
      outputs = outputs;
      instances = own ∷ flat_map instances_inside opened;
      steps = map (λ m. m.step) made ++ flat_map steps_inside opened;
      jobs = flat_map jobs_with_inside opened;
    }

abbrev pub no_meaning : Meaning
no_meaning = record { outputs = []; instances = []; steps = []; jobs = [] }

-- a flow of at most so many levels of nesting
abbrev pub flow_meaning : Giving → List (Name × Flow) → ℕ → Name → JobName → List (Name × Value)
    → Meaning
flow_meaning gives flows zero f name vs = no_meaning
flow_meaning gives flows (suc levels) f name vs =
    option_map_or
    (λ flow. instance_meaning gives (flow_meaning gives flows levels) name flow vs)
    (named f flows) no_meaning

abbrev pub meaning : Giving → Document → Meaning
meaning gives d = flow_meaning gives d.flows nesting_limit d.main [] d.inputs
