-- What a kept frame knows of an output of a step, a port or an output of the flow is all that is
-- known: the tree shows exactly the known nodes, and where it is whole it is the value.
use Rattle.std.specs.List.{list_all}
use Rattle.std.specs.Option.{IsSomeAnd}
use Rattle.std.specs.Prelude.{◌≡◌, true, Bool, List, Some}
use Rattle.tv_lemmas.specs.Members.{In}
use Rattle.tv_value.specs.Nested.{Place, at, note, notes}
use Rattle.tv_value.specs.Values.{Name, Value}
use Rattle.tv_flow.specs.Flows.{Feed, Flow, Step, StepInput, output}
use Rattle.tv_strategy.specs.Origins.{Origin, Traced, plain}
use Rattle.tv_naming.specs.Naming.{is_there}
use Rattle.tv_model.specs.instance.Delivered.{feed_delivers, link_delivers}
use Rattle.tv_parts.specs.Below.{value_in}
use Rattle.tv_parts.specs.Partials.{Partial, shows, whole}
use Rattle.tv_check.specs.declared.plans.FlowPlan.{FlowPlan}
use Rattle.tv_outputs.specs.Known.{Nodes}
use Rattle.tv_model.specs.Instances.{given_of}
use Rattle.tv_model.specs.instance.ByResults.{step_of}
use Rattle.tv_model.specs.instance.Events.{known_by}
use Rattle.tv_frame.specs.FramingViews.{InAll, View}
use Rattle.tv_frame.specs.Kept.{Keeps}
use Rattle.tv_frame.specs.declared.frame.Frame.{Frame}
use Rattle.tv_frame_laws.specs.values.Known.{known_of_feed, known_of_port, tree_of}
use Rattle.tv_frame_laws.specs.values.Stated.{port_takes}

-- the tree shows the known nodes of the value and no others; it is whole where all are known, and
-- then it is the value
pub record IsAllKnown (known : Origin → Bool) (r : Partial Value) (u : Traced) : Type 0 where
  pub shown : (q : Place) (w : Traced) → at u q ≡ Some w → shows r q ≡ known (note w)
  pub whole_where : whole r ≡ list_all known (notes u)
  pub value : whole r ≡ true → value_in r ≡ plain u

abbrev pub OutputsAreExact : Type 0
OutputsAreExact =
    (flows : List (Name × Flow)) (plan : FlowPlan) (pool : Nodes) (f : Frame) (v : View)
    → Keeps flows plan pool f v
    → (t o : Name) → is_there v.flow (output t o) ≡ true
    → InAll v (λ instance results fs.
    IsAllKnown (known_by instance v.events) (tree_of pool f v.flow t o)
    (link_delivers step_of (given_of v.flow v.inputs) fs (output t o)).value)

abbrev pub PortsAreExact : Type 0
PortsAreExact =
    (flows : List (Name × Flow)) (plan : FlowPlan) (pool : Nodes) (f : Frame) (v : View)
    → Keeps flows plan pool f v
    → (s : Name × Step) → In s v.flow.steps → (i : Name × StepInput) → In i s.1.inputs
    → InAll v (λ instance results fs.
    IsSomeAnd (port_takes fs s.0 i.0)
    (IsAllKnown (known_by instance v.events) (known_of_port pool f v.flow i.1)))

abbrev pub FlowOutputsAreExact : Type 0
FlowOutputsAreExact =
    (flows : List (Name × Flow)) (plan : FlowPlan) (pool : Nodes) (f : Frame) (v : View)
    → Keeps flows plan pool f v
    → (o : Name × Feed) → In o v.flow.outputs
    → InAll v (λ instance results fs.
    IsAllKnown (known_by instance v.events) (known_of_feed pool f v.flow o.1)
    (feed_delivers step_of (given_of v.flow v.inputs) fs o.1).value)
