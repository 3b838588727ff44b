-- What an open instance keeps of the lists that were closed and the faults that were passed.
use Rattle.std.specs.Prelude.{◌≡◌, ℕ, List, map, Option, Some, slice_get, true}
use Rattle.tv_value.specs.Nested.{Place}
use Rattle.tv_value.specs.Values.{Name}
use Rattle.tv_flow.specs.Flows.{Step}
use Rattle.tv_model.specs.instance.ByResults.{step_of}
use Rattle.tv_model.specs.instance.Events.{has_level, known_by}
use Rattle.tv_frame.specs.FramingViews.{InAll, View}
use Rattle.tv_frame.specs.Levels.{AreLevels, FaultsAreKnown, Fit, IsAmong, Level}

-- those that were settled, and what is settled next
pub record Kept : Type 0 where
  pub settled : List Level
  pub next : Option Level

-- they are levels of the instance, and tell of each list that was closed and each fault that was passed, which came from a known one
pub record AreKept (v : View) (ls : List Level) : Type 0 where
  pub fit : InAll v (λ instance results fs. Fit v.flow (map step_of fs) ls)
  pub faults :
      InAll v (λ instance results fs.
      FaultsAreKnown (known_by instance v.events) v.flow (map step_of fs) ls)
  pub all :
      (n : ℕ) (s : Name × Step) (q : Place) → slice_get v.flow.steps n ≡ Some s
      → has_level v.events s.0 q ≡ true
      → IsAmong ls n q

-- and of all that the instance has
abbrev pub AreItsLevels : View → List Level → Type 0
AreItsLevels v ls = InAll v (λ instance results fs. AreLevels v.flow (map step_of fs) ls)
