-- A job goes from one stage to another.
use Rattle.std.specs.Prelude.{◌≡◌, ℕ, ◌+◌, ◌-◌, ◌<◌, ◌≤◌, if◌then◌else◌, cond, Bool, true, false, List, Some, drop, length, slice_get, vec_capacity}
use Rattle.std.specs.List.{insert, remove}
use Rattle.tv_idle.specs.Listed.{Listed, with_job}
use Rattle.tv_seats.specs.declared.stage.Stage.{Stage}
use Rattle.tv_seats.specs.declared.stage.Stage.TheVariants as stage
use Rattle.tv_seats.specs.declared.steps.StepSeats.{StepSeats}
use Rattle.tv_seats.specs.Firsts.{IsFirstAside, IsFirstIdle}
use Rattle.tv_seats.specs.Seats.{Seat, Seated, one_less, room_at}
use Rattle.tv_seats.specs.Stages.{is_aside, is_idle, is_nested, is_out, runs}

-- ---- what a job needs for it

-- there is such a job; an idle one that is no longer so is the first of its step, and so is one that was set aside; an open flow ends
pub record MayGoTo (x : Stage) (seats : List Seat) (n : ℕ) : Type 0 where
  pub seat : Seat
  pub there : slice_get seats n ≡ Some seat
  pub idle : is_idle seat.stage ≡ true → IsFirstIdle seats seat.step n × (is_idle x ≡ false)
  pub aside : is_aside seat.stage ≡ true → IsFirstAside seats seat.step n × (is_aside x ≡ false)
  pub nested : is_nested seat.stage ≡ true → is_nested x ≡ false

-- its step has room for it
abbrev pub HasRoomAt : Stage → Seated → ℕ → Type 0
HasRoomAt stage.Waiting s k = Unit {0}
HasRoomAt (stage.Out a t) s k = Unit {0}
HasRoomAt (stage.Idle a t) s k = 0 < room_at s.back_rooms k
HasRoomAt (stage.Aside a) s k = 0 < room_at s.aside_rooms k
HasRoomAt (stage.Nested i) s k = 0 < room_at s.nested_rooms k
HasRoomAt stage.Settled s k = Unit {0}

abbrev pub HasRoom : Stage → StepSeats → Type 0
HasRoom stage.Waiting y = Unit {0}
HasRoom (stage.Out a t) y = Unit {0}
HasRoom (stage.Idle a t) y = 0 < y.idle.room
HasRoom (stage.Aside a) y = 0 < y.aside.room
HasRoom (stage.Nested i) y = 0 < y.nested_room
HasRoom stage.Settled y = Unit {0}

-- the rooms by step, where one is taken
abbrev pub rooms_after : Bool → ℕ → List ℕ → List ℕ
rooms_after taken k rooms = if taken then one_less k rooms else rooms

-- ---- what it does to its step

abbrev pub one : Bool → ℕ
one b = cond b 1 0

-- the list of those at a stage, without the first where that is the job
pub record IsWithoutFirst (was : Bool) (y z : Listed) : Type 0 where
  pub jobs : z.jobs ≡ (if was then drop 1 y.jobs else y.jobs)
  pub levels : z.levels ≡ y.levels
  pub room : z.room ≡ y.room

-- with the job, where it comes there
pub record IsWithOne (comes : Bool) (j : ℕ × List ℕ) (y z : Listed) : Type 0 where
  pub jobs : z.jobs ≡ (if comes then with_job j y.jobs else y.jobs)
  pub levels : z.levels ≡ y.levels
  pub room : z.room ≡ (if comes then y.room - 1 else y.room)

-- a job that was at that stage is in no list, and isn't counted; among the open flows it stood at that position
pub record Leaves (x : Stage) (q : ℕ) (y z : StepSeats) : Type 0 where
  pub idle : IsWithoutFirst (is_idle x) y.idle z.idle
  pub aside : IsWithoutFirst (is_aside x) y.aside z.aside
  pub nested : z.nested.items ≡ (if is_nested x then remove y.nested.items q else y.nested.items)
  pub nested_room : z.nested_room ≡ y.nested_room
  pub capacity : length z.nested.items + z.nested_room ≤ vec_capacity z.nested
  pub running : z.running + one (runs x) ≡ y.running
  pub out : z.out + one (is_out x) ≡ y.out

-- a job is listed and counted at that stage, by its number and its place; among the open flows it stands at that position
pub record Enters (x : Stage) (j : ℕ × List ℕ) (q : ℕ) (y z : StepSeats) : Type 0 where
  pub idle : IsWithOne (is_idle x) j y.idle z.idle
  pub aside : IsWithOne (is_aside x) j y.aside z.aside
  pub nested : z.nested.items ≡ (if is_nested x then insert y.nested.items q j.0 else y.nested.items)
  pub nested_room : z.nested_room ≡ (if is_nested x then y.nested_room - 1 else y.nested_room)
  pub capacity : length z.nested.items + z.nested_room ≤ vec_capacity z.nested
  pub running : z.running ≡ y.running + one (runs x)
  pub out : z.out ≡ y.out + one (is_out x)
