-- The steps that are passed stay quiet while the frame is told nothing.
use Rattle.std.specs.Prelude.{◌≡◌, refl, ℕ, List}
use Rattle.std.proofs.Common.{arith, inr, subst, sym}
use Rattle.tv_frame.specs.FramingViews.{View}
use Rattle.tv_seats.specs.Seats.{Seat}
use Rattle.tv_seats.specs.declared.stage.Stage.{Stage}
use Rattle.tv_instances.specs.Levels.{AreKept, Kept}
use Rattle.tv_instances.specs.Quiet.{AreQuiet}
use Rattle.tv_instances.specs.Tries.{HasStage, IsSameButRooms}
use Rattle.tv_instances.specs.Turns.{AreRestarted}
use Rattle.tv_instances.specs.declared.open.Open.{Open}
use Rattle.tv_instances.specs.declared.turns.Turns.{Turns}
use Rattle.tv_instances.proofs.Quiet.{of-none, of-staged, quiet-as, still-quiet}

-- those of an instance
abbrev pub HasQuiet : View → Open → Type 0
HasQuiet v o = AreQuiet v o.seats.seats o.turns.positions.items o.turns.from

-- with other rooms
pub quiet-roomy : (v : View) (o p : Open) → IsSameButRooms o p → HasQuiet v o → HasQuiet v p
quiet-roomy v o p same = quiet-as v o.seats.seats p.seats.seats o.turns p.turns same.seats same.turns

-- what is kept is the same with the same levels
pub kept-with : (v : View) (o p : Open) → p.levels ≡ o.levels → AreKept v o.levels.settled → AreKept v p.levels.settled
kept-with v o p same k = subst (λ (l : Kept). AreKept v l.settled) (sym same) k

-- with a job at another stage, whose step isn't passed
pub quiet-staged : (v : View) (o p : Open) (n : ℕ) (x : Stage) → HasStage o p n x → HasQuiet v o → HasQuiet v p
quiet-staged v o p n x is k =
    still-quiet v v refl (λ j h. h) o.seats.seats p.seats.seats o.turns p.turns k is.turns.positions is.turns.fewer
    (of-staged o.seats.seats p.seats.seats o.turns.positions.items p.turns.from n x is.seats (inr is.turns.ahead))

-- with any seats, where none is passed
pub quiet-none : (v : View) (ss us : List Seat) (t u : Turns) → AreRestarted t u
    → AreQuiet v ss t.positions.items t.from → AreQuiet v us u.positions.items u.from
quiet-none v ss us t u is k =
    still-quiet v v refl (λ j h. h) ss us t u k is.positions (let a = is.none in omega (arith, a))
    (of-none ss us t.positions.items u.from is.none)
