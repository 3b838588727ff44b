-- Seats that move while the frame is told nothing.
use Rattle.std.specs.Prelude.{ℕ, ◌≡◌}
use Rattle.tv_seats.specs.Seats.{step_at, with_stage}
use Rattle.tv_seats.specs.declared.stage.Stage.{Stage}
use Rattle.tv_instances.specs.Turns.{TakesIn}
use Rattle.tv_instances.specs.declared.open.Open.{Open}

-- the same but for rooms
pub record IsSameButRooms (o p : Open) : Type 0 where
  pub frame : p.frame ≡ o.frame
  pub seats : p.seats.seats ≡ o.seats.seats
  pub levels : p.seats.levels ≡ o.seats.levels
  pub turns : p.turns ≡ o.turns
  pub kept : p.levels ≡ o.levels

-- the job is at this stage from now on
pub record HasStage (o p : Open) (n : ℕ) (x : Stage) : Type 0 where
  pub frame : p.frame ≡ o.frame
  pub seats : p.seats.seats ≡ with_stage n x o.seats.seats
  pub levels : p.seats.levels ≡ o.seats.levels
  -- its step isn't passed
  pub turns : TakesIn o.turns p.turns (step_at o.seats.seats n)
  pub kept : p.levels ≡ o.levels
