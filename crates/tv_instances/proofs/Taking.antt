-- A job that waits, and is ready, is taken.
use Rattle.std.specs.Prelude.{◌≡◌, ◌<◌, ◌≤◌, ◌⊎◌, refl, ℕ, true, false, List, [], Some, length, map, slice_get}
use Rattle.std.proofs.Common.{arith, sym, ap, subst, ◌∙◌}
use Rattle.std.proofs.lemmas.Bool.{true≢false}
use Rattle.std.proofs.lemmas.List.{append-nil}
use Rattle.std.proofs.lemmas.Option.{same_Some, slice_get_within}
use Rattle.tv_lemmas.proofs.Cases.{on_either}
use Rattle.tv_value.specs.Nested.{Place}
use Rattle.tv_value.specs.Values.{Name}
use Rattle.tv_flow.specs.Flows.{Document}
use Rattle.tv_check.specs.declared.plans.FlowPlan.{FlowPlan}
use Rattle.tv_outputs.specs.Known.{Nodes}
use Rattle.tv_model.specs.instance.Events.{took}
use Rattle.tv_frame.specs.Frames.{Comes, with_event}
use Rattle.tv_frame.specs.FramingViews.{View}
use Rattle.tv_frame.specs.declared.frame.Frame.{Frame}
use Rattle.tv_frame.specs.Kept.{Keeps}
use Rattle.tv_frame.specs.Tables.{levels_in}
use Rattle.tv_seats.specs.Seats.{Seat, Seated, step_at, with_stage}
use Rattle.tv_seats.specs.Firsts.{MayGoOut, MayNest}
use Rattle.tv_seats.specs.Stages.{is_waiting}
use Rattle.tv_seats.proofs.Keeping.{stands-there}
use Rattle.tv_seats.specs.declared.stage.Stage.{Stage}
use Rattle.tv_forest.specs.seats.GoingOn.{GoesOn}
use Rattle.tv_forest.specs.seats.Seated.{spot_of}
use Rattle.tv_instances.specs.Events.{IsTaken, IsToldTaken}
use Rattle.tv_instances.specs.Quiet.{is_calm}
use Rattle.tv_instances.specs.Standing.{IsOpen, job_of}
use Rattle.tv_instances.specs.Turns.{turn_of}
use Rattle.tv_instances.specs.declared.turns.Turns.{Turns}
use Rattle.tv_instances.specs.declared.open.Open.{Open}
use Rattle.tv_instances.proofs.LevelLemmas.{still-kept}
use Rattle.tv_instances.proofs.Quiet.{begun-then, of-same, of-staged, still-quiet}
use Rattle.tv_instances.proofs.Seats.{staged-jobs}
use Rattle.tv_instances.proofs.Sitting.{goes-on_alone, known-alone}

module _ (d : Document) (plan : FlowPlan) (pool : Nodes) (o : Open) (v : View) (io : IsOpen d plan pool o v) (n : ℕ)
    (s : Seat) (there : slice_get o.seats.seats n ≡ Some s) where
  -- a seat of that number is the same one
  one-seat : (P : Seat → Type 0) (t : Seat) → slice_get o.seats.seats n ≡ Some t → P s → P t
  one-seat P t e p = subst P (same_Some s t (sym there ∙ e)) p

  -- ---- one that waits

  module _ (waits : is_waiting s.stage ≡ true) (f : Frame) where
    abbrev spot : Name × Place
    spot = spot_of v.flow.steps s

    abbrev then : View
    then = with_event v (took spot.0 spot.1) []

    comes : Comes v then (took spot.0 spot.1) 0
    comes = record { flow = refl; inputs = refl; events = refl; jobs = ([], refl, refl) }

    pub told-waiting : Keeps d.flows plan pool f then → IsToldTaken d plan pool o (record o { frame = f }) v n
    told-waiting k = record {
      view = then;
      is_open = record {
        keeps = k;
        known =
            sym (append-nil (map job_of o.seats.seats))
            ∙ known-alone d plan pool o v io pool f then (took spot.0 spot.1) 0 comes k o.seats refl refl;
        levels = io.levels;
        quiet =
            still-quiet v then refl (begun-then v then (took spot.0 spot.1) refl) o.seats.seats o.seats.seats o.turns o.turns
            io.quiet refl (omega arith) (of-same o.seats.seats o.seats.seats o.turns.positions.items o.turns.from refl);
        kept = still-kept v o.levels.settled io.kept (took spot.0 spot.1) then 0 comes refl;
      };
      waited = λ t e w.
          one-seat (λ u. GoesOn d (levels_in v.flow) v then (took (spot_of v.flow.steps u).0 u.place) []) t e
          (goes-on_alone d plan pool o v io pool f then (took spot.0 spot.1) 0 comes k o.seats refl refl);
      went_on = λ t e w. absurd (true≢false (sym (one-seat (λ u. is_waiting u.stage ≡ true) t e waits) ∙ w));
    }

-- ---- then its seat moves

pub taken : (d : Document) (plan : FlowPlan) (pool : Nodes) (o m : Open) (v : View) (n : ℕ) (x : Stage)
    → IsToldTaken d plan pool o m v n → m.seats ≡ o.seats
    → (y : Seated) → y.seats ≡ with_stage n x m.seats.seats → y.levels ≡ m.seats.levels
    → (u : Turns) → u.positions.items ≡ m.turns.positions.items → u.from ≤ m.turns.from
    → (is_calm x ≡ true) ⊎ (u.from ≤ turn_of m.turns.positions.items (step_at m.seats.seats n))
    → IsTaken d plan pool o (record { frame = m.frame; seats = y; turns = u; levels = m.levels }) v n x
taken d plan pool o m v n x t same y seats levels u positions fewer either = record {
  view = t.view;
  is_open = record {
    keeps = t.is_open.keeps;
    known = ap (map job_of) seats ∙ staged-jobs n x m.seats.seats ∙ t.is_open.known;
    levels = levels ∙ t.is_open.levels;
    quiet =
        still-quiet t.view t.view refl (λ j h. h) m.seats.seats y.seats m.turns u t.is_open.quiet positions fewer
        (of-staged m.seats.seats y.seats m.turns.positions.items u.from n x seats either);
    kept = t.is_open.kept;
  };
  waited = t.waited;
  went_on = t.went_on;
  seats = seats ∙ ap (λ (u : Seated). with_stage n x u.seats) same;
}

-- quiet steps are passed
pub taken-passed : (d : Document) (plan : FlowPlan) (pool : Nodes) (o m p : Open) (v : View) (n : ℕ) (x : Stage)
    → IsTaken d plan pool o m v n x → ((w : View) → IsOpen d plan pool m w → IsOpen d plan pool p w) → p.seats ≡ m.seats
    → IsTaken d plan pool o p v n x
taken-passed d plan pool o m p v n x t opens same = record {
  view = t.view;
  is_open = opens t.view t.is_open;
  waited = t.waited;
  went_on = t.went_on;
  seats = ap (λ (u : Seated). u.seats) same ∙ t.seats;
}

-- ---- one of that number is known

pub may-go_out-low : (ss : List Seat) (n : ℕ) → MayGoOut ss n → n < length ss
may-go_out-low ss n may =
    on_either may (λ h. let f = stands-there is_waiting ss n h in slice_get_within ss n f.0 f.1)
    (λ f. slice_get_within ss n f.1.seat f.1.is.there)

pub may-nest-low : (ss : List Seat) (n : ℕ) → MayNest ss n → n < length ss
may-nest-low ss n may =
    on_either may (λ h. let f = stands-there is_waiting ss n h in slice_get_within ss n f.0 f.1)
    (λ f. slice_get_within ss n f.1.seat f.1.is.there)
