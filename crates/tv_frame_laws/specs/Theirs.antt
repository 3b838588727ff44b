-- Whose the regions of a pool are: those of the frames that an owner of several has, each under a number of its own, where none is
-- once it was released.
use Rattle.std.specs.Prelude.{None, Option, Some, [], length, ◌≡◌, ◌≢◌, ℕ}
use Rattle.tv_pool.specs.Pool.{IsLive, live_count, number_of, region_at, regions_with}
use Rattle.tv_stream.specs.nodes.Calls.{KeepsRegions}
use Rattle.tv_outputs.specs.Known.{Nodes}
use Rattle.tv_frame.specs.declared.frame.Frame.{Frame}
use Rattle.tv_frame.specs.Calls.{SameRegions}
use Rattle.tv_frame_laws.specs.Beside.{SameRegion}

-- a frame by its number
abbrev pub Frames : Type 0
Frames = ℕ → Option Frame

-- these frames stand in regions of their own, and no other region is live
pub record AreTheirs (pool : Nodes) (fs : Frames) : Type 0 where
  pub live : (i : ℕ) (f : Frame) → fs i ≡ Some f → IsLive pool f.region
  pub apart :
      (i k : ℕ) (f g : Frame) → fs i ≡ Some f → fs k ≡ Some g
      → number_of f.region ≡ number_of g.region → i ≡ k
  pub no_other :
      (n : ℕ) → region_at pool n ≢ None → (i : ℕ) × (f : Frame) × (fs i ≡ Some f)
      × (number_of f.region ≡ n)

-- all but this one are what they were
abbrev pub OthersStay : ℕ → Frames → Frames → Type 0
OthersStay i fs gs = (k : ℕ) → k ≢ i → gs k ≡ fs k

-- ---- at first

abbrev pub FirstTheirs : Type 0
FirstTheirs = (pool : Nodes) (fs : Frames) → pool.regions ≡ [] → ((i : ℕ) → fs i ≡ None)
    → AreTheirs pool fs

-- ---- after each call

-- of one of them, which stays in its region
abbrev pub TheirsAfterCall : Type 0
TheirsAfterCall =
    (pool after : Nodes) (fs gs : Frames) (i : ℕ) (f g : Frame)
    → AreTheirs pool fs → fs i ≡ Some f → gs i ≡ Some g → g.region ≡ f.region → OthersStay i fs gs
    → KeepsRegions pool after (number_of f.region)
    → AreTheirs after gs

-- a start
abbrev pub TheirsAfterStart : Type 0
TheirsAfterStart =
    (pool after : Nodes) (fs gs : Frames) (i : ℕ) (f : Frame)
    → AreTheirs pool fs → fs i ≡ None → gs i ≡ Some f → OthersStay i fs gs
    → IsLive after f.region → number_of f.region ≡ length pool.regions
    → KeepsRegions pool after (number_of f.region)
    → AreTheirs after gs

-- one that changes no region: a start that is refused, or a call that takes room
abbrev pub TheirsAfterRefusal : Type 0
TheirsAfterRefusal =
    (pool after : Nodes) (fs : Frames) → AreTheirs pool fs → SameRegions pool after
    → AreTheirs after fs

-- a start that is given up
abbrev pub TheirsAfterGivingUp : Type 0
TheirsAfterGivingUp =
    (pool mid after : Nodes) (fs : Frames)
    → AreTheirs pool fs
    → KeepsRegions pool mid (length pool.regions)
    → after.regions ≡ regions_with mid (length pool.regions) None
    → AreTheirs after fs

-- the release of one of them
abbrev pub TheirsAfterRelease : Type 0
TheirsAfterRelease =
    (pool after : Nodes) (fs gs : Frames) (i : ℕ) (f : Frame)
    → AreTheirs pool fs → fs i ≡ Some f → gs i ≡ None → OthersStay i fs gs
    → after.regions ≡ regions_with pool (number_of f.region) None
    → AreTheirs after gs

-- ---- what it tells

-- a call of one leaves the regions of all others as they were
abbrev pub TheirsAreOnly : Type 0
TheirsAreOnly =
    (pool after : Nodes) (fs : Frames) (i k : ℕ) (f g : Frame)
    → AreTheirs pool fs → fs i ≡ Some f → fs k ≡ Some g → k ≢ i
    → KeepsRegions pool after (number_of f.region)
    → SameRegion pool after g

-- where none is left nothing is live
abbrev pub NoneLive : Type 0
NoneLive =
    (pool : Nodes) (fs : Frames) → AreTheirs pool fs → ((i : ℕ) → fs i ≡ None)
    → live_count pool.regions ≡ 0
