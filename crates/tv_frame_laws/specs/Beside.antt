-- A frame beside others in one pool: it keeps what it kept where its own region is what it was, and most calls leave that so.
use Rattle.std.specs.Prelude.{List, None, length, ◌≡◌, ◌≢◌, ◌≤◌, ℕ}
use Rattle.tv_value.specs.Values.{Name}
use Rattle.tv_flow.specs.Flows.{Flow, Step}
use Rattle.tv_pool.specs.Pool.{IsLive, number_of, region_at, regions_with}
use Rattle.tv_stream.specs.nodes.Calls.{KeepsRegions}
use Rattle.tv_check.specs.declared.plans.FlowPlan.{FlowPlan}
use Rattle.tv_outputs.specs.Known.{Nodes}
use Rattle.tv_model.specs.instance.Events.{Event}
use Rattle.tv_frame.specs.FramingViews.{View}
use Rattle.tv_frame.specs.declared.frame.Frame.{Frame}
use Rattle.tv_frame.specs.Calls.{SameRegions}
use Rattle.tv_frame.specs.Kept.{Keeps}
use Rattle.tv_frame.specs.Prepared.{IsReadyFor}

-- the frame's own region is what it was
abbrev pub SameRegion : Nodes → Nodes → Frame → Type 0
SameRegion pool after f = region_at after (number_of f.region) ≡ region_at pool (number_of f.region)

-- then it keeps what it kept, whatever was done to others
abbrev pub KeepsBeside : Type 0
KeepsBeside =
    (flows : List (Name × Flow)) (plan : FlowPlan) (pool after : Nodes) (f : Frame) (v : View)
    → Keeps flows plan pool f v → SameRegion pool after f → Keeps flows plan after f v

-- and is ready for what it was ready for, where there is room as before
abbrev pub ReadyBeside : Type 0
ReadyBeside =
    (flows : List (Name × Flow)) (plan : FlowPlan) (pool after : Nodes) (f : Frame) (v : View)
    (n : ℕ) (s : Name × Step)
    (e : Event)
    → IsReadyFor flows plan pool f v n s e → SameRegion pool after f → pool.spare ≤ after.spare
    → IsReadyFor flows plan after f v n s e

-- ---- which calls leave another frame's region as it was

-- those of one frame, where the numbers of the regions differ
abbrev pub OthersCallsKeep : Type 0
OthersCallsKeep =
    (pool after : Nodes) (f : Frame) (number : ℕ)
    → number_of f.region ≢ number → KeepsRegions pool after number → SameRegion pool after f

-- those that take room, for any frame
abbrev pub RoomsKeep : Type 0
RoomsKeep = (pool after : Nodes) → after.regions ≡ pool.regions → SameRegions pool after

-- those that change no region keep others, whatever the number
abbrev pub SameKeeps : Type 0
SameKeeps = (pool after : Nodes) (number : ℕ) → SameRegions pool after
    → KeepsRegions pool after number

-- a start, whose region has the next number
abbrev pub StartsKeep : Type 0
StartsKeep =
    (pool after : Nodes) (f : Frame)
    → IsLive pool f.region → KeepsRegions pool after (length pool.regions) → SameRegion pool after f

-- a start that is refused
abbrev pub RefusalsKeep : Type 0
RefusalsKeep = (pool after : Nodes) (f : Frame) → SameRegions pool after → SameRegion pool after f

-- a start that is given up leaves all as it was
abbrev pub GivenUpKeeps : Type 0
GivenUpKeeps =
    (pool mid after : Nodes)
    → KeepsRegions pool mid (length pool.regions)
    → after.regions ≡ regions_with mid (length pool.regions) None
    → SameRegions pool after

-- the release of another's region
abbrev pub ReleasesKeep : Type 0
ReleasesKeep =
    (pool after : Nodes) (f : Frame) (number : ℕ)
    → number_of f.region ≢ number → after.regions ≡ regions_with pool number None
    → SameRegion pool after f
