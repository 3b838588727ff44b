-- Seats at other stages, and jobs that sit down: which jobs they are of.
use Rattle.std.specs.Option.{option_map_or}
use Rattle.std.specs.Prelude.{◌≡◌, refl, ℕ, ◌++◌, ◌∷◌, Bool, true, false, List, [], Option, Some, None, map, option_map, slice_get, slice_set}
use Rattle.std.proofs.Common.{sym, ap, ◌∙◌}
use Rattle.std.proofs.lemmas.Bool.{true≢false}
use Rattle.std.proofs.lemmas.List.{map-append}
use Rattle.tv_value.specs.Nested.{Place}
use Rattle.tv_intake.specs.Intaken.{known_jobs}
use Rattle.tv_frame.specs.declared.frame.Frame.{Frame}
use Rattle.tv_seats.specs.Seats.{Seat, Seated, staged, stage_at, stands, with_stage}
use Rattle.tv_seats.specs.Stages.{is_waiting}
use Rattle.tv_seats.specs.declared.stage.Stage.{Stage}
use Rattle.tv_forest.proofs.seats.Lists.{same-images}
use Rattle.tv_instances.specs.Seating.{AllSit, CanSit, seat_for, unseated}
use Rattle.tv_instances.specs.Standing.{job_of}

-- a seat at another stage is of the same job
pub staged-jobs : (n : ℕ) (x : Stage) (ss : List Seat) → map job_of (with_stage n x ss) ≡ map job_of ss
staged-jobs n x ss = by (slice_get ss n) refl
  where
    by : (o : Option Seat) → slice_get ss n ≡ o
        → map job_of (option_map_or (λ s. slice_set ss n (staged x s)) o ss) ≡ map job_of ss
    by None e = refl
    by (Some s) e = same-images job_of ss n s (staged x s) e refl

-- all that is known sits
pub all-known : (f : Frame) (x y : Seated) → CanSit f x → AllSit f x y → map job_of y.seats ≡ known_jobs f.intakes
all-known f x y can all =
    ap (map job_of) all.seats
    ∙ map-append job_of x.seats (map seat_for (unseated f x.seats))
    ∙ ap (λ l. map job_of x.seats ++ l) (same-jobs (unseated f x.seats))
    ∙ can.first
  where
    same-jobs : (js : List (ℕ × Place)) → map job_of (map seat_for js) ≡ js
    same-jobs [] = refl
    same-jobs (j ∷ js) = ap (λ l. j ∷ l) (same-jobs js)

-- what the seat of a number tells
pub stands-so : (is : Stage → Bool) (ss : List Seat) (n : ℕ) (s : Seat) → slice_get ss n ≡ Some s
    → stands is ss n ≡ is s.stage
stands-so is ss n s e = ap (λ o. option_map_or (λ (t : Seat). is t.stage) o false) e

-- where the stage of a number says that it waits, there is a seat
pub waits-as : (ss : List Seat) (n : ℕ) (s : Seat) → slice_get ss n ≡ Some s
    → option_map_or is_waiting (stage_at ss n) false ≡ is_waiting s.stage
waits-as ss n s e = ap (λ o. option_map_or is_waiting (option_map (λ (t : Seat). t.stage) o) false) e

pub waits-there : (ss : List Seat) (n : ℕ) → option_map_or is_waiting (stage_at ss n) false ≡ true
    → (s : Seat) × (slice_get ss n ≡ Some s) × (is_waiting s.stage ≡ true)
waits-there ss n h = by (slice_get ss n) refl h
  where
    by : (o : Option Seat) → slice_get ss n ≡ o → option_map_or is_waiting (option_map (λ (t : Seat). t.stage) o) false ≡ true
        → (s : Seat) × (slice_get ss n ≡ Some s) × (is_waiting s.stage ≡ true)
    by None e h = absurd (true≢false (sym h))
    by (Some s) e h = (s, e, h)

pub waits-at : (ss : List Seat) (n : ℕ) (x : Option Stage) → x ≡ stage_at ss n → (b : Bool)
    → b ≡ option_map_or is_waiting x false → b ≡ true
    → (s : Seat) × (slice_get ss n ≡ Some s) × (is_waiting s.stage ≡ true)
waits-at ss n x is b says h =
    waits-there ss n (ap (λ o. option_map_or is_waiting o false) (sym is) ∙ sym says ∙ h)
