-- What is known of a step of the flow, once the shapes of the steps before it are.
use Rattle.std.specs.Prelude.{Bool, List, Option}
use Rattle.tv_value.specs.Nested.{Place}
use Rattle.tv_value.specs.Values.{Name}
use Rattle.tv_flow.specs.Flows.{Flow, Step}
use Rattle.tv_check.specs.Ports.{ports_of}
use Rattle.tv_frame.specs.Levels.{What}
use Rattle.tv_traces.specs.OfNodes.{Telling}
use Rattle.tv_traces.specs.Shapes.{Shape}
use Rattle.tv_traces.specs.Walking.{begins_of}

abbrev pub telling_of : Flow → List Shape → (Place → Option What) → (Place → Bool) → Name × Step
    → Telling
telling_of flow us what done s =
    record {
      flow = flow;
      shapes = us;
      ports = ports_of flow s.1;
      begins = begins_of flow s.1;
      what = what;
      settled = done;
      name = s.0;
    }
