-- When an event fits the step that it tells of: a job gave, a list of that length was closed, that fault was passed.
use Rattle.std.specs.Prelude.{◌≡◌, true, [], ◌∷◌, Option, Some, None}
use Rattle.tv_value.specs.Nested.{leaf, list, at, count}
use Rattle.tv_value.specs.Orders.{same_name}
use Rattle.tv_strategy.specs.Iterations.{Iteration, job, passed}
use Rattle.tv_model.specs.instance.ByResults.{InstanceStep}
use Rattle.tv_model.specs.instance.Events.{Event, Events, closed, event_place, event_step, fault_set, gave, took}

-- the event tells of what stands there in the step's iteration
abbrev pub FitsNode : Event → Option Iteration → Type 0
FitsNode e None = ⊥
FitsNode (gave s q vs) (Some (leaf r (job b))) = Unit {0}
FitsNode (gave s q vs) (Some (leaf r (passed m d))) = ⊥
FitsNode (gave s q vs) (Some (list r ts)) = ⊥
FitsNode (closed s q n) (Some (leaf r x)) = ⊥
FitsNode (closed s q n) (Some (list r ts)) = count ts ≡ n
FitsNode (fault_set s q e) (Some (leaf r (job b))) = ⊥
FitsNode (fault_set s q e) (Some (leaf r (passed m d))) = d ≡ e
FitsNode (fault_set s q e) (Some (list r ts)) = ⊥
FitsNode (took s q) (Some (leaf r (job b))) = Unit {0}
FitsNode (took s q) (Some (leaf r (passed m d))) = ⊥
FitsNode (took s q) (Some (list r ts)) = ⊥

-- each of these events that tells of this step fits it
abbrev pub FitStep : InstanceStep → Events → Type 0
FitStep f [] = Unit {0}
FitStep f (e ∷ es) =
    (same_name f.step.step (event_step e) ≡ true → FitsNode e (at f.step.iteration (event_place e)))
    × FitStep f es
