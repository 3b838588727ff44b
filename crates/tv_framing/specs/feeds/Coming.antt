-- Laws of the events that come in a frame: what a frame is after one, and how it is put into trees.
use Rattle.std.specs.Prelude.{◌≡◌, ℕ, ◌+◌, ◌==◌, false, true, List, [], ◌∷◌, Some, slice_get, unwrap_or}
use Rattle.tv_lemmas.specs.Members.{In}
use Rattle.tv_value.specs.Nested.{Place, list, no_trees}
use Rattle.tv_value.specs.Values.{Name, Value, fault_value}
use Rattle.tv_flow.specs.Flows.{Flow, Step}
use Rattle.tv_parts.specs.Changes.{arrive, close_at}
use Rattle.tv_parts.specs.Partials.{Partial, whole}
use Rattle.tv_model.specs.instance.Events as events
use Rattle.tv_model.specs.instance.Events.{Event, event_place, event_step, fault_set, gave, has_result, is_taken, took}
use Rattle.tv_framing.specs.Arriving.{levels_below, part_so_far}
use Rattle.tv_framing.specs.Frames.{AreNewWith, IsFrame, with_event}
use Rattle.tv_framing.specs.Stated.{IsOfDepths}
use Rattle.tv_framing.specs.Views.{View}
use Rattle.tv_framing.specs.ways.Stated.{IsFrom}
use Rattle.tv_framing.specs.engine.TurningTrees.{CanPut, HasRightLength, whole_from}
use Rattle.tv_framing.specs.engine.WiredFlows.{IsWired}
use Rattle.tv_framing.specs.keeping.NextEvents.{IsNextEvent, is_whole_step}
use Rattle.tv_framing.specs.feeds.Fed.{event_number, newly}

-- ---- what a frame is after one

-- with the jobs that it makes known, it is a frame of the same depths
pub record IsFrameOf (flows : List (Name × Flow)) (levels : Name → ℕ) (v : View) : Type 0 where
  pub frame : IsFrame v
  pub depths : IsOfDepths flows levels v

abbrev pub NextMakesFrame : Type 0
NextMakesFrame =
    (flows : List (Name × Flow)) (levels : Name → ℕ) (v : View) (e : Event)
    → IsNextEvent flows levels v e
    → (new : List (Name × Place)) → AreNewWith v e new → IsFrameOf flows levels (with_event v e new)

-- so it is with a known job that is taken, once and before its result
abbrev pub TakingMakesFrame : Type 0
TakingMakesFrame =
    (flows : List (Name × Flow)) (levels : Name → ℕ) (v : View) → IsFrame v
    → IsOfDepths flows levels v
    → (s : Name) (q : Place) → In (s, q) v.jobs → has_result v.events s q ≡ false
    → is_taken v.events s q ≡ false
    → IsFrameOf flows levels (with_event v (took s q) [])

-- ---- the trees of outputs

-- the tree of any output of a step is whole where the step is
abbrev pub TreesAreWholeWithSteps : Type 0
TreesAreWholeWithSteps =
    (flows : List (Name × Flow)) (levels : Name → ℕ) (v : View) → IsFrame v
    → IsOfDepths flows levels v → IsWired v.flow
    → (n : ℕ) (s : Name × Step) → slice_get v.flow.steps n ≡ Some s
    → (k declared : ℕ) → whole (part_so_far s.0 k (levels s.0) declared v.events)
    ≡ is_whole_step levels v n

-- the event can be put into the tree of any output of its step, and the tree with it tells from which length on prefixes of its
-- place turn whole
pub record IsPutInto (levels : Name → ℕ) (v : View) (e : Event) (k declared : ℕ) : Type 0 where
  pub stands : HasRightLength (levels (event_step e)) e
  pub put : CanPut e (part_so_far (event_step e) k (levels (event_step e)) declared v.events)
  pub turns :
      IsFrom (newly levels v e) (event_place e)
      (whole_from (event_place e)
      (part_so_far (event_step e) k (levels (event_step e)) declared (e ∷ v.events)))

abbrev pub EventsAreInTrees : Type 0
EventsAreInTrees =
    (flows : List (Name × Flow)) (levels : Name → ℕ) (v : View) (e : Event)
    → IsNextEvent flows levels v e → IsWired v.flow → (k declared : ℕ)
    → IsPutInto levels v e k declared

-- what the event puts into the tree of the k-th output of its step, whose iteration has so many levels above the declared depth
abbrev pub put_here : ℕ → ℕ → ℕ → Event → Partial Value → Partial Value
put_here k levels declared (gave s q vs) p = arrive q
    (unwrap_or (slice_get vs k) (list tt no_trees)) p
put_here k levels declared (events.closed s q n) p = close_at q n p
put_here k levels declared (fault_set s q d) p = arrive q
    (fault_value (record d { depth = levels_below levels q + declared })) p
put_here k levels declared (took s q) p = p

-- it changes the trees of its step alone
pub record ChangesOwnTrees (levels : Name → ℕ) (v : View) (e : Event) (n : ℕ) (s : Name)
    (k declared : ℕ) : Type 0 where
  pub own :
      (n == event_number v e) ≡ true
      → part_so_far s k (levels s) declared (e ∷ v.events)
      ≡ put_here k (levels s) declared e (part_so_far s k (levels s) declared v.events)
  pub other :
      (n == event_number v e) ≡ false
      → part_so_far s k (levels s) declared (e ∷ v.events)
      ≡ part_so_far s k (levels s) declared v.events

abbrev pub TreesGoOn : Type 0
TreesGoOn =
    (flows : List (Name × Flow)) (levels : Name → ℕ) (v : View) (e : Event)
    → IsNextEvent flows levels v e → IsWired v.flow
    → (n : ℕ) (s : Name × Step) → slice_get v.flow.steps n ≡ Some s
    → (k declared : ℕ) → ChangesOwnTrees levels v e n s.0 k declared
