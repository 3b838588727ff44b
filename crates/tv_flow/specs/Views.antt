-- The documents that the types of the code stand for.
use Rattle.std.specs.Prelude.{ℕ, List, map, option_map}
use Rattle.tv_value.specs.Values.{Name}
use Rattle.tv_value.specs.Views.{view as value_view, strategy_view}
use Rattle.tv_value.specs.Activities as activity
use Rattle.tv_value.specs.declared.value.Value.{Value}
use Rattle.tv_flow.specs.declared.document.Flow.{Flow}
use Rattle.tv_flow.specs.declared.document.Step.{Step}
use Rattle.tv_flow.specs.declared.document.StepInput.{StepInput}
use Rattle.tv_flow.specs.declared.document.Feed.{Feed}
use Rattle.tv_flow.specs.declared.document.Feed.TheVariants as feed
use Rattle.tv_flow.specs.declared.document.Link.{Link}
use Rattle.tv_flow.specs.declared.document.Link.TheVariants as link
use Rattle.tv_flow.specs.declared.document.Activity.{Activity}
use Rattle.tv_flow.specs.declared.document.Repeat.{Repeat}
use Rattle.tv_flow.specs.declared.document.Activity.TheVariants.{Service, Nested}
use Rattle.tv_flow.specs.Flows as spec

-- the same names, with what their things stand for
abbrev pub each : {A B : Type 0} → (A → B) → List (Name × A) → List (Name × B)
each f es = map (λ e. (e.0, f e.1)) es

abbrev pub link_view : Link → spec.Link
link_view (link.Input n) = spec.input n
link_view (link.Output s p) = spec.output s p

abbrev pub feed_view : Feed → spec.Feed
feed_view (feed.Input n) = spec.link (spec.input n)
feed_view (feed.Output s p) = spec.link (spec.output s p)
feed_view (feed.Merge ls) = spec.merge (map link_view ls)
feed_view (feed.Constant v) = spec.constant (value_view v)

abbrev pub activity_view : Activity → activity.Activity
activity_view (Service n) = activity.service n
activity_view (Nested n) = activity.nested n

abbrev pub repeat_view : Repeat → activity.Repeat
repeat_view r = record { service = r.service; until = r.until; most = r.most }

abbrev pub step_input_view : StepInput → spec.StepInput
step_input_view i = record { depth = i.depth; from = feed_view i.from }

abbrev pub step_view : Step → spec.Step
step_view s = record {
  inputs = each step_input_view s.inputs;
  outputs = s.outputs;
  strategy = option_map strategy_view s.strategy;
  activities = map activity_view s.activities;
  retries = s.retries;
  jobs = s.jobs;
  after = s.after;
  repeat = option_map repeat_view s.repeat;
}

abbrev pub flow_view : Flow → spec.Flow
flow_view f = record {
  inputs = f.inputs;
  steps = each step_view f.steps;
  outputs = each feed_view f.outputs;
}

-- the document with these fields
abbrev pub document_of : ℕ → Name → List (Name × Flow) → List (Name × Value) → spec.Document
document_of format main flows inputs = record {
  format = format;
  main = main;
  flows = each flow_view flows;
  inputs = each value_view inputs;
}
