-- What is known of faults and of wholeness by events alone: by the partial trees of outputs and by counting.
use Rattle.std.specs.List.{list_all, list_any}
use Rattle.std.specs.Prelude.{◌≡◌, ℕ, Bool, true, List, [], ◌∷◌, length, unwrap_or}
use Rattle.tv_lemmas.specs.Members.{In}
use Rattle.tv_value.specs.Orders.{named}
use Rattle.tv_value.specs.Values.{Name, Value, holds_fault}
use Rattle.tv_flow.specs.Flows.{Feed, Flow, Link, Step, StepInput, constant, input, link, merge, output}
use Rattle.tv_strategy.specs.Measures.{leaf_names}
use Rattle.tv_naming.specs.Naming.{feed_links, has_name}
use Rattle.tv_naming.specs.Numbers.{position}
use Rattle.tv_model.specs.instance.Steps.{strategy_of}
use Rattle.tv_parts.specs.Partials.{HoldsFaults, Partial, holds_some}
use Rattle.tv_telling.specs.declared.ways.Event as code
use Rattle.tv_telling.specs.declared.ways.Whole.{Whole}
use Rattle.tv_check.specs.Feeds.{outputs_of}
use Rattle.tv_check.specs.Ports.{leaf_number}
use Rattle.tv_model.specs.Instances.{value_given}
use Rattle.tv_model.specs.instance.Counting.{whole_by}
use Rattle.tv_model.specs.instance.Events.{Event, Events, event_place, event_step}
use Rattle.tv_framing.specs.Arriving.{part_so_far}
use Rattle.tv_framing.specs.PortTellings.{newly_by}
use Rattle.tv_framing.specs.Views.{View}
use Rattle.tv_framing.specs.ways.Stated.{IsFrom}
use Rattle.tv_framing.specs.engine.AlongWires.{IsSeenAs}
use Rattle.tv_framing.specs.feeds.Fed.{given_at}

-- the partial tree of an output of a step, of a flow whose steps iterate so many levels, after these events
abbrev pub tree_of : Flow → (Name → ℕ) → Events → Name → Name → Partial Value
tree_of f levels es t o = part_so_far t (position o (outputs_of f t)) (levels t)
    (unwrap_or (named o (outputs_of f t)) 0) es

-- all of what a link delivers is known
abbrev pub link_known : (Name → ℕ) → Events → Link → Bool
link_known levels es (input x) = true
link_known levels es (output t o) = whole_by es t (levels t) []

-- of such a flow with these values of its inputs
module _ (f : Flow) (levels : Name → ℕ) (inputs : List (Name × Value)) (es : Events) where
  -- what is known of what a link delivers holds a fault
  abbrev pub link_faulty : Link → Bool
  link_faulty (input x) = holds_fault (value_given inputs x)
  link_faulty (output t o) = holds_some holds_fault (tree_of f levels es t o)

  abbrev pub feed_faulty : Feed → Bool
  feed_faulty (link l) = link_faulty l
  feed_faulty (merge ls) = list_any link_faulty ls
  feed_faulty (constant v) = holds_fault v

  -- a port of the step that has its whole value: it is fed by what is all known, and said to hold a fault where that does
  pub record IsTrueWhole (s : Step) (w : Whole) : Type 0 where
    pub port : Name × StepInput
    pub among : In port s.inputs
    pub leaf : w.leaf ≡ leaf_number port.0 (leaf_names (strategy_of s))
    pub known : list_all (link_known levels es) (feed_links port.1.from) ≡ true
    pub faulty : w.faulty ≡ feed_faulty port.1.from

-- the code has the event as c, with the numbers of prefixes of its place at which outputs of its step hold faults then, and the length
-- from which on prefixes become whole
pub record IsTrueEvent (levels : Name → ℕ) (v : View) (e : Event) (faults : Name → ℕ) (from : ℕ)
    (c : code.Event)
    : Type 0 where
  pub seen : IsSeenAs v.flow (given_at v.flow e) faults from e c
  pub whole_from : IsFrom (newly_by v.events e (event_step e) (levels (event_step e)))
      (event_place e) from
  pub hold :
      (o : Name) → has_name (outputs_of v.flow (event_step e)) o ≡ true
      → HoldsFaults (event_place e) (tree_of v.flow levels (e ∷ v.events) (event_step e) o)
      (faults o)
