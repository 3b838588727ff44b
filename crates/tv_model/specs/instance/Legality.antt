-- Which event may come next in an instance: it fits a node whose sources are known, and of which nothing was told.
use Rattle.std.specs.List.{list_all}
use Rattle.std.specs.Prelude.{◌≡◌, Bool, true, false, List, [], ◌∷◌, find, Option, Some, None, option_and_then}
use Rattle.tv_value.specs.Nested.{at, note}
use Rattle.tv_value.specs.Orders.{same_name}
use Rattle.tv_value.specs.Values.{JobName}
use Rattle.tv_strategy.specs.Iterations.{Iteration}
use Rattle.tv_strategy.specs.Origins.{Origin}
use Rattle.tv_model.specs.instance.ByResults.{InstanceStep}
use Rattle.tv_model.specs.instance.Events.{Event, Events, closed, event_place, event_step, fault_set, gave, has_level, has_result, is_taken, known_by, took}
use Rattle.tv_model.specs.instance.Fitting.{FitsNode}

-- what stands where the event tells of
abbrev pub node_of : List InstanceStep → Event → Option Iteration
node_of fs e =
    option_and_then
    (λ (f : InstanceStep). at f.step.iteration (event_place e))
    (find (λ (f : InstanceStep). same_name (event_step e) f.step.step) fs)

abbrev pub HasSources : (Origin → Bool) → Option Iteration → Type 0
HasSources known None = ⊥
HasSources known (Some t) = list_all known (note t) ≡ true

-- nothing of the kind was told of it before
abbrev pub IsFresh : Events → Event → Type 0
IsFresh es (gave s q vs) = has_result es s q ≡ false
IsFresh es (closed s q n) = has_level es s q ≡ false
IsFresh es (fault_set s q e) = has_level es s q ≡ false
IsFresh es (took s q) = (has_result es s q ≡ false) × (is_taken es s q ≡ false)

pub record IsLegalNext (instance : JobName) (fs : List InstanceStep) (es : Events)
    (e : Event) : Type 0 where
  pub fits : FitsNode e (node_of fs e)
  pub sources : HasSources (known_by instance es) (node_of fs e)
  pub fresh : IsFresh es e

-- each event was legal after those before it
abbrev pub AreLegal : JobName → List InstanceStep → Events → Type 0
AreLegal instance fs [] = Unit {0}
AreLegal instance fs (e ∷ es) = IsLegalNext instance fs es e × AreLegal instance fs es
