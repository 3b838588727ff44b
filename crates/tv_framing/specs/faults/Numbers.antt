-- Ports that have their whole values with a step, as the code finds them: by the numbers of inputs, steps and outputs.
use Rattle.std.specs.List.{list_any}
use Rattle.std.specs.Prelude.{◌≡◌, ℕ, Bool, true, false, List, [], filter, map, Some, slice_get}
use Rattle.tv_value.specs.Values.{Name, Value, holds_fault}
use Rattle.tv_flow.specs.Flows.{Flow, Step}
use Rattle.tv_naming.specs.Naming.{has_name}
use Rattle.tv_naming.specs.Numbers.{position}
use Rattle.tv_parts.specs.Partials.{holds_some}
use Rattle.tv_telling.specs.declared.ways.Whole.{Whole}
use Rattle.tv_check.specs.declared.feeds.NumberedFeed.{NumberedFeed}
use Rattle.tv_check.specs.declared.feeds.NumberedFeed.TheVariants.{Constant, Link, Merge}
use Rattle.tv_check.specs.declared.feeds.NumberedLink.{NumberedLink}
use Rattle.tv_check.specs.declared.feeds.NumberedLink.TheVariants.{Input, Output}
use Rattle.tv_check.specs.declared.ports.Port.{Port}
use Rattle.tv_check.specs.Feeds.{outputs_of}
use Rattle.tv_telling.specs.endings.Feeds.{has_whole_with, with_step}
use Rattle.tv_model.specs.Instances.{value_given}
use Rattle.tv_model.specs.instance.Counting.{whole_by}
use Rattle.tv_model.specs.instance.Events.{Events}
use Rattle.tv_framing.specs.faults.Known.{tree_of}

-- `inputs` tells which inputs hold a fault, and `outputs` which outputs of steps. A feed that brings outputs is no constant
module _ (inputs : ℕ → Bool) (outputs : ℕ → ℕ → Bool) where
  abbrev pub numbered_link_faulty : NumberedLink → Bool
  numbered_link_faulty (Input x) = inputs x
  numbered_link_faulty (Output t o) = outputs t o

  abbrev pub numbered_feed_faulty : NumberedFeed → Bool
  numbered_feed_faulty (Link l) = numbered_link_faulty l
  numbered_feed_faulty (Merge ls) = list_any numbered_link_faulty ls
  numbered_feed_faulty Constant = false

  -- of these ports, those that take their feeds at once and have all of them with step t, where these steps are whole
  abbrev pub wholes_with : (ℕ → Bool) → ℕ → List Port → List Whole
  wholes_with whole t ports =
      map (λ (p : Port). record { leaf = p.leaf; faulty = numbered_feed_faulty p.feed })
      (filter (has_whole_with whole t) ports)

-- so it is by events, after these
pub record AreFaultsBy (f : Flow) (levels : Name → ℕ) (given : List (Name × Value)) (es : Events)
    (inputs : ℕ → Bool)
    (outputs : ℕ → ℕ → Bool) : Type 0 where
  pub inputs_are :
      (x : Name) → has_name f.inputs x ≡ true
      → inputs (position x f.inputs) ≡ holds_fault (value_given given x)
  pub outputs_are :
      (t o : Name) → has_name f.steps t ≡ true → has_name (outputs_of f t) o ≡ true
      → outputs (position t f.steps) (position o (outputs_of f t))
      ≡ holds_some holds_fault (tree_of f levels es t o)

-- each step that is whole then, or has number t, is so by counting events
abbrev pub AreWholeBy : Flow → (Name → ℕ) → Events → (ℕ → Bool) → ℕ → Type 0
AreWholeBy f levels es whole t =
    (n : ℕ) (s : Name × Step) → slice_get f.steps n ≡ Some s → with_step whole t n ≡ true
    → whole_by es s.0 (levels s.0) [] ≡ true
