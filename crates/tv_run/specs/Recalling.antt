-- All tries that are out are taken back, in one open instance after another.
use Rattle.std.specs.List.{sum_by}
use Rattle.std.specs.Prelude.{List, Some, length, map, slice_get, ℕ, ◌<◌, ◌≡◌}
use Rattle.tv_seats.specs.Seats.{HasBackRooms, back, seats_out}
use Rattle.tv_instances.specs.Tries.{IsSameButRooms}
use Rattle.tv_instances.specs.Turns.{AreRestarted}
use Rattle.tv_instances.specs.declared.open.Open.{Open}
use Rattle.tv_run.specs.Following.{HasSameAround, OthersAreSame}
use Rattle.tv_run.specs.declared.instances.Instance as code
use Rattle.tv_run.specs.declared.run.OpenRun.{OpenRun}

-- how many are out
abbrev pub out_in : List code.Instance → ℕ
out_in cs = sum_by (λ (c : code.Instance). sum_by (λ (o : Open). seats_out o.seats.seats)
    c.open.items) cs

-- ---- rooms

-- an open instance has the room for all of it that is out to be idle again
pub record HasRoomsIn (r : OpenRun) (i : ℕ) : Type 0 where
  pub each :
      (c : code.Instance) (o : Open) → slice_get r.instances.items i ≡ Some c
      → slice_get c.open.items 0 ≡ Some o
      → HasBackRooms o.seats

abbrev pub HasRoomForAll : OpenRun → Type 0
HasRoomForAll r = (i : ℕ) → i < length r.instances.items → HasRoomsIn r i

-- the instance of that number is the same but for rooms
pub record HasSameOpens (c e : code.Instance) : Type 0 where
  pub flow : e.flow ≡ c.flow
  pub opener : e.opener ≡ c.opener
  pub jobs : e.jobs ≡ c.jobs
  pub is_busy : e.is_busy ≡ c.is_busy
  pub as_many : length e.open.items ≡ length c.open.items
  pub opens :
      (o p : Open) → slice_get c.open.items 0 ≡ Some o → slice_get e.open.items 0 ≡ Some p
      → IsSameButRooms o p
  pub seats : e.seats ≡ c.seats

pub record OtherRoomsIn (r s : OpenRun) (i : ℕ) : Type 0 where
  pub around : HasSameAround r s
  pub others : OthersAreSame r s i
  pub busy : s.busy ≡ r.busy
  pub jobs : s.jobs ≡ r.jobs
  pub due : s.due ≡ r.due
  pub itself :
      (c e : code.Instance) → slice_get r.instances.items i ≡ Some c
      → slice_get s.instances.items i ≡ Some e
      → HasSameOpens c e

-- ---- taken back

-- all that is out of an open instance is idle
pub record IsBack (o p : Open) : Type 0 where
  pub frame : p.frame ≡ o.frame
  pub seats : p.seats.seats ≡ map back o.seats.seats
  pub levels : p.seats.levels ≡ o.seats.levels
  pub turns : AreRestarted o.turns p.turns
  pub kept : p.levels ≡ o.levels

pub record IsCalledBack (c e : code.Instance) : Type 0 where
  pub flow : e.flow ≡ c.flow
  pub opener : e.opener ≡ c.opener
  pub jobs : e.jobs ≡ c.jobs
  pub is_busy : e.is_busy ≡ c.is_busy
  pub as_many : length e.open.items ≡ length c.open.items
  pub opens :
      (o p : Open) → slice_get c.open.items 0 ≡ Some o → slice_get e.open.items 0 ≡ Some p
      → IsBack o p
  pub seats : e.seats ≡ c.seats

pub record IsCalledBackIn (r s : OpenRun) (i : ℕ) : Type 0 where
  pub around : HasSameAround r s
  pub others : OthersAreSame r s i
  pub busy : s.busy ≡ r.busy
  pub jobs : s.jobs ≡ r.jobs
  pub due : s.due ≡ r.due
  pub itself :
      (c e : code.Instance) → slice_get r.instances.items i ≡ Some c
      → slice_get s.instances.items i ≡ Some e
      → IsCalledBack c e

pub record AllCalledBack (r s : OpenRun) : Type 0 where
  pub around : HasSameAround r s
  pub as_many : length s.instances.items ≡ length r.instances.items
  pub busy : s.busy ≡ r.busy
  pub jobs : s.jobs ≡ r.jobs
  pub due : s.due ≡ r.due
  pub each :
      (i : ℕ) (c e : code.Instance) → slice_get r.instances.items i ≡ Some c
      → slice_get s.instances.items i ≡ Some e
      → IsCalledBack c e
