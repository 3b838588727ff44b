-- What a kept frame knows of an output of a step, a port or an output of the flow is so of its
-- value, whatever isn't told yet.
use Rattle.std.specs.Option.{IsSomeAnd}
use Rattle.std.specs.Prelude.{◌≡◌, true, List, Option, find, option_and_then, option_map}
use Rattle.tv_lemmas.specs.Members.{In}
use Rattle.tv_value.specs.Orders.{named, same_name}
use Rattle.tv_value.specs.Values.{Name}
use Rattle.tv_flow.specs.Flows.{Feed, Flow, Step, StepInput, output}
use Rattle.tv_strategy.specs.Origins.{Traced, plain}
use Rattle.tv_naming.specs.Naming.{is_there}
use Rattle.tv_model.specs.instance.Delivered.{feed_delivers, link_delivers}
use Rattle.tv_parts.specs.Below.{Below}
use Rattle.tv_check.specs.declared.plans.FlowPlan.{FlowPlan}
use Rattle.tv_outputs.specs.Known.{Nodes}
use Rattle.tv_model.specs.Instances.{given_of}
use Rattle.tv_model.specs.instance.ByResults.{InstanceStep, step_of}
use Rattle.tv_frame.specs.FramingViews.{InAll, View}
use Rattle.tv_frame.specs.Kept.{Keeps}
use Rattle.tv_frame.specs.declared.frame.Frame.{Frame}
use Rattle.tv_frame_laws.specs.values.Known.{known_of_feed, known_of_port, tree_of}

-- an output's tree is below what the output delivers, in each instance that has what was told
abbrev pub OutputsAreBelow : Type 0
OutputsAreBelow =
    (flows : List (Name × Flow)) (plan : FlowPlan) (pool : Nodes) (f : Frame) (v : View)
    → Keeps flows plan pool f v
    → (t o : Name) → is_there v.flow (output t o) ≡ true
    → InAll v (λ instance results fs.
    Below (tree_of pool f v.flow t o)
    (plain (link_delivers step_of (given_of v.flow v.inputs) fs (output t o)).value))

-- the value that port p of step s takes in an instance with these steps, before it is iterated
abbrev pub port_takes : List InstanceStep → Name → Name → Option Traced
port_takes fs s p =
    option_and_then (λ f. option_map (λ d. d.value) (named p f.step.inputs))
    (find (λ f. same_name s f.step.step) fs)

-- each port of each step takes a value, and what is known of the port is below it
abbrev pub PortsAreBelow : Type 0
PortsAreBelow =
    (flows : List (Name × Flow)) (plan : FlowPlan) (pool : Nodes) (f : Frame) (v : View)
    → Keeps flows plan pool f v
    → (s : Name × Step) → In s v.flow.steps → (i : Name × StepInput) → In i s.1.inputs
    → InAll v (λ instance results fs.
    IsSomeAnd (port_takes fs s.0 i.0) (λ u. Below (known_of_port pool f v.flow i.1) (plain u)))

-- and so it is with what each output of the flow is fed
abbrev pub FlowOutputsAreBelow : Type 0
FlowOutputsAreBelow =
    (flows : List (Name × Flow)) (plan : FlowPlan) (pool : Nodes) (f : Frame) (v : View)
    → Keeps flows plan pool f v
    → (o : Name × Feed) → In o v.flow.outputs
    → InAll v (λ instance results fs.
    Below (known_of_feed pool f v.flow o.1)
    (plain (feed_delivers step_of (given_of v.flow v.inputs) fs o.1).value))
