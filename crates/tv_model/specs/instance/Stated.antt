-- Laws of wholeness, for every iteration and every test of what is known.
use Rattle.std.specs.List.{list_all}
use Rattle.std.specs.Prelude.{◌≡◌, ℕ, ◌&&◌, ◌+◌, ◌++◌, ◌==◌, Bool, true, false, List, [], ◌∷◌, Some}
use Rattle.tv_value.specs.Nested.{Place, at, count, item_at, list, notes}
use Rattle.tv_value.specs.Orders.{is_prefix}
use Rattle.tv_value.specs.Values.{JobName, Name, Value}
use Rattle.tv_flow.specs.Flows.{Step}
use Rattle.tv_strategy.specs.Iterations.{Iteration, Iterations}
use Rattle.tv_strategy.specs.Origins.{Origin, Traced}
use Rattle.tv_strategy.specs.Outputs.{output_below}
use Rattle.tv_model.specs.instance.Delivered.{Delivered}
use Rattle.tv_model.specs.instance.Steps.{endings_of, spot}
use Rattle.tv_model.specs.instance.ByResults.{InstanceStep, Results, step_by, step_of}
use Rattle.tv_model.specs.instance.Endings.{has_ended, have_ended}
use Rattle.tv_model.specs.instance.OneEvent.{Rises, turns_whole}
use Rattle.tv_model.specs.instance.Wholeness.{is_whole, is_whole_at, one_if, origin_at, whole_items}

-- ---- what is whole

-- where w stands in an output, all its nodes are known exactly where the step's iteration is whole there
abbrev pub OutputsAreWholeWithIteration : Type 0
OutputsAreWholeWithIteration =
    (named : Place → JobName) (known : Origin → Bool) (gives : Place → Value) (declared d : ℕ)
    (t : Iteration)
    (r : Place) (w : Traced) → at (output_below named gives declared [] d t) r ≡ Some w
    → list_all known (notes w) ≡ is_whole_at named known [] t r

-- a list is whole where it is known and as many of its items are whole as it has
abbrev pub ListsAreWholeByCount : Type 0
ListsAreWholeByCount =
    (named : Place → JobName) (known : Origin → Bool) (q : Place) (r : List Origin)
    (ts : Iterations)
    → is_whole named known q (list r ts)
    ≡ (known (origin_at named q (list r ts)) && whole_items named known q 0 ts == count ts)

-- a step has ended where its iteration is whole, and those that it runs after have ended
abbrev pub StepsEndWhole : Type 0
StepsEndWhole =
    (known : Origin → Bool) (instance : JobName) (results : Results)
    (given : List (Name × Delivered))
    (fs : List InstanceStep) (s : Name × Step)
    → let f = step_by instance results given fs s in
    has_ended known f ≡ (is_whole (spot instance s.0) known [] f.step.iteration
    && have_ended known fs s.1.after)

-- what a job waits for is known where its sources are, and the steps that it runs after have ended
abbrev pub JobsWaitForSourcesAndSteps : Type 0
JobsWaitForSourcesAndSteps =
    (known : Origin → Bool) (sources : List Origin) (fs : List InstanceStep) (after : List Name)
    → list_all known (sources ++ endings_of step_of fs after)
    ≡ (list_all known sources && have_ended known fs after)

-- ---- one event more

-- what becomes whole stands at a prefix of the event's place
abbrev pub PrefixesTurnWhole : Type 0
PrefixesTurnWhole =
    (named : Place → JobName) (known after : Origin → Bool) (p : Place) → Rises named known after p
    → (t : Iteration) (q : Place) → turns_whole named known after q t ≡ true → is_prefix q p ≡ true

-- t at q becomes whole, u stands in it at r, and in u, at s, stands the event's node, which wasn't known
pub record IsOnWay (named : Place → JobName) (known after : Origin → Bool) (p : Place)
    (t : Iteration) (q r s : Place)
    (u node : Iteration) : Type 0 where
  pub outer : turns_whole named known after q t ≡ true
  pub inner : at t r ≡ Some u
  pub lowest : at u s ≡ Some node
  pub place : p ≡ (q ++ r) ++ s
  pub new : known (origin_at named p node) ≡ false

-- then so does u: the prefixes that become whole are those from some length on
abbrev pub LongerPrefixesTurnWhole : Type 0
LongerPrefixesTurnWhole =
    (named : Place → JobName) (known after : Origin → Bool) (p : Place) → Rises named known after p
    → (t : Iteration) (q r s : Place) (u node : Iteration)
    → IsOnWay named known after p t q r s u node
    → turns_whole named known after (q ++ r) u ≡ true

-- where the event stands in item m of the list at q, or is it, the list's counter rises by one exactly where that item becomes whole
abbrev pub CountersRise : Type 0
CountersRise =
    (named : Place → JobName) (known after : Origin → Bool) (p : Place) → Rises named known after p
    → (ts : Iterations) (q : Place) (m : ℕ) (s : Place) (t : Iteration) → p ≡ q ++ m ∷ s
    → item_at ts m ≡ Some t
    → whole_items named after q 0 ts
    ≡ one_if (turns_whole named known after (q ++ m ∷ []) t) + whole_items named known q 0 ts
