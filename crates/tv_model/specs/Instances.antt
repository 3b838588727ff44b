-- The steps of an instance, each made after those of less rank.
use Rattle.std.specs.List.{list_any}
use Rattle.std.specs.Prelude.{List, None, Some, [], codes, flat_map, if◌then◌else◌, map, unwrap_or, ◌++◌, ◌∷◌}
use Rattle.tv_value.specs.Nested.{Place, leaf, list, no_trees, nodes}
use Rattle.tv_value.specs.Orders.{named}
use Rattle.tv_value.specs.Values.{JobName, Name, Value, holds_fault}
use Rattle.tv_gate.specs.Outcomes.{Giving}
use Rattle.tv_flow.specs.Flows.{Flow, Step, StepInput}
use Rattle.tv_strategy.specs.Iterations.{Iteration, iteration, job, passed}
use Rattle.tv_strategy.specs.Measures.{strategy_depth}
use Rattle.tv_strategy.specs.Origins.{Origin, Traced, input_value, plain}
use Rattle.tv_dispatch.specs.Jobs.{Fate, error_results, fault_makers, opens, right, take_tries, tries, wrong}
use Rattle.tv_model.specs.instance.Delivered.{Delivered, at_port}
use Rattle.tv_model.specs.instance.Steps.{bound_values, declared_depths, node_origin, port_iteration, port_mismatch, spot, strategy_of}
use Rattle.tv_model.specs.Jobs.{Job, bounced_end, failed_end, good_end}
use Rattle.tv_model.specs.Made.{Made, Meaning, Opened, delivered_outputs, endings, feed_value}

-- the value that is given for an input, or the empty list
abbrev pub value_given : List (Name × Value) → Name → Value
value_given vs x = unwrap_or (named x vs) (list tt no_trees)

-- what an instance is given at the inputs of its flow
abbrev pub given_of : Flow → List (Name × Value) → List (Name × Delivered)
given_of flow vs =
    map (λ x. (x.0, record { depth = x.1; value = input_value x.0 [] (value_given vs x.0) }))
    flow.inputs

-- the inputs of the flow that a job opens
abbrev pub zip_names : List (Name × StepInput) → List Traced → List (Name × Value)
zip_names [] vs = []
zip_names (i ∷ is) [] = []
zip_names (i ∷ is) (v ∷ vs) = (i.0, plain v) ∷ zip_names is vs

-- a job whose inputs hold a fault
abbrev pub bounced_job : JobName → Name → Step → List Origin → Place → List Traced → Job
bounced_job instance n s waits q inputs =
    let name = spot instance n q in
    record {
      name = name;
      instance = instance;
      step = n;
      limit = s.jobs;
      inputs = inputs;
      waits = waits;
      asks = [];
      opens = None;
      ending = bounced_end;
      result = error_results name (codes "bounced") (fault_makers (map plain inputs))
          (declared_depths s);
    }

-- `inside` is the meaning of a nested flow under a job's name and on its inputs
module _ (inside : Name → JobName → List (Name × Value) → Meaning) where
  abbrev pub with_fate : Step → Job → Fate → Opened
  with_fate s j (right vs) = record {
    job = record j { ending = good_end; result = vs };
    inside = None;
  }
  with_fate s j (wrong why) =
      let result = error_results j.name why [] (declared_depths s) in
      record { job = record j { ending = failed_end; result = result }; inside = None }
  with_fate s j (opens f) =
      let m = inside f j.name (zip_names s.inputs j.inputs) in
      let result = map (λ o. plain o.1) m.outputs in
      record {
        job = record j { opens = Some f; ending = good_end; result = result };
        inside = Some m;
      }

module _ (gives : Giving) (inside : Name → JobName → List (Name × Value) → Meaning) where
  -- the same job by its tries
  abbrev pub tried_job : Step → Job → Opened
  tried_job s j =
      let t = take_tries gives []
      (tries (map plain j.inputs) (declared_depths s) s.retries 0 s.activities) in
      with_fate inside s (record j { asks = t.asks }) t.fate

module _ (gives : Giving) (inside : Name → JobName → List (Name × Value) → Meaning)
    (instance : JobName) where
  -- a job on its bound values
  abbrev pub job_on : Name → Step → List Origin → Place → List Traced → Opened
  job_on n s waits q inputs =
      let bounced = bounced_job instance n s waits q inputs in
      let tried = tried_job gives inside s bounced in
      if list_any (λ v. holds_fault v) inputs then record { job = bounced; inside = None }
      else tried

  -- the job that stands at a node of the step's iteration; `ended` is what the endings that it waits for need
  abbrev pub node_jobs : Name → Step → List Origin → Place × Iteration → List Opened
  node_jobs n s ended (q, leaf sources (job b)) = job_on n s (sources ++ ended) q (bound_values s b)
      ∷ []
  node_jobs n s ended (q, leaf sources (passed m e)) = []
  node_jobs n s ended (q, list sources ts) = []

  -- a step, after those of less rank
  abbrev pub step_made : List (Name × Delivered) → List Made → Name × Step → Made
  step_made given made (n, s) =
      let ports = map (λ i. (i.0, at_port i.1.depth (feed_value given made i.1.from))) s.inputs in
      let it = iteration (port_iteration ports) (strategy_of s) in
      let levels = strategy_depth (port_mismatch ports) (strategy_of s) in
      let before = endings made s.after in
      let jobs = flat_map (node_jobs n s before) (nodes it) in
      record {
        step = record {
          instance = instance;
          step = n;
          inputs = ports;
          iteration = it;
          outputs = delivered_outputs instance n jobs levels it 0 s.outputs;
          ending = map (node_origin instance n) (nodes it) ++ before;
        };
        jobs = jobs;
      }

  -- the steps by rank, the last first
  abbrev pub steps_made : List (Name × Delivered) → List Made → List (Name × Step) → List Made
  steps_made given made [] = made
  steps_made given made (s ∷ ss) = steps_made given (step_made given made s ∷ made) ss
