-- What is told of the levels and settled jobs of an instance as its view knows it, whatever isn't told.
use Rattle.std.specs.Prelude.{◌≡◌, ℕ, true, List, Some, map, slice_get}
use Rattle.tv_lemmas.specs.Members.{In}
use Rattle.tv_value.specs.Nested.{Place}
use Rattle.tv_value.specs.Values.{Name}
use Rattle.tv_flow.specs.Flows.{Step}
use Rattle.tv_model.specs.instance.ByResults.{step_of}
use Rattle.tv_model.specs.instance.Events.{has_level, has_result, known_by}
use Rattle.tv_frame.specs.FramingViews.{InAll, View}
use Rattle.tv_frame.specs.Levels.{FaultsAreKnown, Fit, IsAmong, Level}
use Rattle.tv_traces.specs.Seen.{Spot}

-- the levels fit, and tell of each list that was closed and each fault that was passed, which came from a known one
pub record AreLevelsTold (v : View) (ls : List Level) : Type 0 where
  pub fit : InAll v (λ instance results fs. Fit v.flow (map step_of fs) ls)
  pub faults :
      InAll v (λ instance results fs. FaultsAreKnown (known_by instance v.events) v.flow
      (map step_of fs) ls)
  pub all :
      (n : ℕ) (s : Name × Step) (q : Place) → slice_get v.flow.steps n ≡ Some s
      → has_level v.events s.0 q ≡ true
      → IsAmong ls n q

-- the jobs are those that gave something
pub record AreJobsTold (v : View) (js : List Spot) : Type 0 where
  pub told :
      (n : ℕ) (q : Place) → In (n, q) js
      → (s : Name × Step) × (slice_get v.flow.steps n ≡ Some s) × (has_result v.events s.0 q ≡ true)
  pub all :
      (n : ℕ) (s : Name × Step) (q : Place) → slice_get v.flow.steps n ≡ Some s
      → has_result v.events s.0 q ≡ true → In (n, q) js
