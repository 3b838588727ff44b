-- What a board knows so far of its open instances is below what they are meant to have, and is all
-- that is known after its history: of outputs and ports of steps, and of the outputs of flows.
-- The run r is the board's: that it stands so (`StandsStill`) by what the services give is what the type of boards keeps.
use Rattle.std.specs.Option.{IsSomeAnd}
use Rattle.std.specs.Prelude.{◌≡◌, ℕ, Bool, true, Some, option_map, slice_get}
use Rattle.tv_lemmas.specs.Members.{In}
use Rattle.tv_value.specs.Values.{JobName, Name}
use Rattle.tv_gate.specs.Outcomes.{Giving}
use Rattle.tv_flow.specs.Flows.{Feed, Flow, Step, StepInput, output}
use Rattle.tv_strategy.specs.Origins.{Origin, plain}
use Rattle.tv_naming.specs.Naming.{is_there}
use Rattle.tv_parts.specs.Below.{Below}
use Rattle.tv_history.specs.Histories.{instances, is_known, is_open}
use Rattle.tv_history.specs.Runs.{meant, past_of}
use Rattle.tv_frame_laws.specs.values.Exact.{IsAllKnown}
use Rattle.tv_frame_laws.specs.values.Known.{known_of_feed, known_of_port, tree_of}
use Rattle.tv_run.specs.Inner.{Frame}
use Rattle.tv_run.specs.Standing.{StandsStill, run_of}
use Rattle.tv_run.specs.declared.run.OpenRun.{OpenRun}
use Rattle.tv_known.specs.Frames.{IsFrameOf}
use Rattle.tv_known.specs.Meant.{flow_output_value, flow_values, output_value, port_value}

-- each instance that is open has a frame
abbrev pub OpenInstancesHaveFrames : Type 0
OpenInstancesHaveFrames =
    (gives : Giving) (r : OpenRun) → StandsStill gives r
    → (I : JobName) → In I (instances (meant gives (run_of r))) → is_open (past_of (run_of r)) I ≡ true
    → (flow : Flow) × (f : Frame) × IsFrameOf r I flow f

-- and no other has one
abbrev pub FramesAreOfOpenInstances : Type 0
FramesAreOfOpenInstances =
    (gives : Giving) (r : OpenRun) → StandsStill gives r
    → (I : JobName) (flow : Flow) (f : Frame) → IsFrameOf r I flow f
    → is_open (past_of (run_of r)) I ≡ true

-- P holds of each open instance, of its flow and of its frame
abbrev pub OfOpenInstances : (Giving → OpenRun → JobName → Flow → Frame → Type 0) → Type 0
OfOpenInstances P =
    (gives : Giving) (r : OpenRun) → StandsStill gives r
    → (I : JobName) (flow : Flow) (f : Frame) → IsFrameOf r I flow f → P gives r I flow f

-- ---- below

-- what is known of each output of a step is below what the output is meant to deliver
abbrev pub KnownOutputsAreBelow : Type 0
KnownOutputsAreBelow =
    OfOpenInstances (λ gives r I flow f.
    (t o : Name) → is_there flow (output t o) ≡ true
    → IsSomeAnd (output_value (meant gives (run_of r)) I t o)
    (λ u. Below (tree_of r.pool f flow t o) (plain u)))

-- what has come to each port of a step is below what the port is meant to take
abbrev pub KnownPortsAreBelow : Type 0
KnownPortsAreBelow =
    OfOpenInstances (λ gives r I flow f.
    (s : Name × Step) → In s flow.steps → (i : Name × StepInput) → In i s.1.inputs
    → IsSomeAnd (port_value (meant gives (run_of r)) I s.0 i.0)
    (λ u. Below (known_of_port r.pool f flow i.1) (plain u)))

-- what is known of each output of the flow is below what the flow is meant to give there
abbrev pub KnownFlowOutputsAreBelow : Type 0
KnownFlowOutputsAreBelow =
    OfOpenInstances (λ gives r I flow f.
    (k : ℕ) (o : Name × Feed) → slice_get flow.outputs k ≡ Some o
    → IsSomeAnd (slice_get (flow_values (meant gives (run_of r)) I) k)
    (λ w. Below (known_of_feed r.pool f flow o.1) w))

-- ---- all that is known

-- whether a node is known after the run's history
abbrev pub known_now : Giving → OpenRun → Origin → Bool
known_now gives r o = is_known (meant gives (run_of r)) (past_of (run_of r)) o.known

-- an output's tree shows exactly the nodes that are known after the history
abbrev pub KnownOutputsAreExact : Type 0
KnownOutputsAreExact =
    OfOpenInstances (λ gives r I flow f.
    (t o : Name) → is_there flow (output t o) ≡ true
    → IsSomeAnd (output_value (meant gives (run_of r)) I t o)
    (IsAllKnown (known_now gives r) (tree_of r.pool f flow t o)))

-- and so does what has come to a port
abbrev pub KnownPortsAreExact : Type 0
KnownPortsAreExact =
    OfOpenInstances (λ gives r I flow f.
    (s : Name × Step) → In s flow.steps → (i : Name × StepInput) → In i s.1.inputs
    → IsSomeAnd (port_value (meant gives (run_of r)) I s.0 i.0)
    (IsAllKnown (known_now gives r) (known_of_port r.pool f flow i.1)))

-- and so does what is known of each output of the flow
abbrev pub KnownFlowOutputsAreExact : Type 0
KnownFlowOutputsAreExact =
    OfOpenInstances (λ gives r I flow f.
    (k : ℕ) (o : Name × Feed) → slice_get flow.outputs k ≡ Some o
    → IsSomeAnd (flow_output_value (meant gives (run_of r)) I k)
    (IsAllKnown (known_now gives r) (known_of_feed r.pool f flow o.1)))

-- of which the values, without origins, are those that the flow is meant to give
abbrev pub FlowOutputsHaveTheirValues : Type 0
FlowOutputsHaveTheirValues =
    OfOpenInstances (λ gives r I flow f.
    (k : ℕ)
    → option_map plain (flow_output_value (meant gives (run_of r)) I k)
    ≡ slice_get (flow_values (meant gives (run_of r)) I) k)
