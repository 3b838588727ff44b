-- Laws of which jobs of an open instance go on and which can bounce, by their seats.
use Rattle.std.specs.Prelude.{Bool, List, None, Some, false, is_some, nat_lt, not, slice_get, true, ℕ, ◌&&◌, ◌∷◌, ◌||◌, ◌≡◌, ◌≤◌, ◌⊎◌}
use Rattle.tv_value.specs.Activities.{Activity, service}
use Rattle.tv_value.specs.Values.{Name}
use Rattle.tv_gate.specs.Outcomes.{Giving}
use Rattle.tv_flow.specs.Flows.{Document, Step}
use Rattle.tv_model.specs.instance.Ranks.{ranked}
use Rattle.tv_model.specs.Jobs.{Job}
use Rattle.tv_model.specs.Meanings.{meaning, nesting_limit}
use Rattle.tv_model.specs.Turns.{is_bounced}
use Rattle.tv_history.specs.Entries.{History, bounced}
use Rattle.tv_history.specs.Histories.{can_bounce, is_legal_after, is_ready, may_go_on, next_ask}
use Rattle.tv_history.specs.order.FirstIn.{StandsBefore}
use Rattle.tv_model.specs.JobOrder.{place_before, steps_at}
use Rattle.tv_framing.specs.Views.{View}
use Rattle.tv_seats.specs.Seats.{Seat, running_count}
use Rattle.tv_seats.specs.Stages.{is_aside, is_idle, is_waiting}
use Rattle.tv_framing.specs.turns.FirstReady.{by_falling_rank}
use Rattle.tv_forest.specs.stands.Seats.{AtEachSeat, IsJobOf}

-- ---- one job

-- the job of a seat of this step goes on where it is idle or put aside, or waits, is ready and unbounced
-- and fewer jobs of the step run than may; it can bounce where it waits, is ready and bounced
pub record GoesOnBySeat (gives : Giving) (d : Document) (past : History) (ss : List Seat) (s : Seat)
    (t : Step) (j : Job) : Type 0 where
  pub goes_on :
      may_go_on (meaning gives d) past j
      ≡ (
      is_idle s.stage
      || is_aside s.stage
      || (
      is_waiting s.stage && is_ready (meaning gives d) past j && not (is_bounced j.ending)
      && nat_lt (running_count s.step ss) t.jobs
      )
      )
  pub bounces :
      can_bounce (meaning gives d) past j
      ≡ (is_waiting s.stage && is_ready (meaning gives d) past j && is_bounced j.ending)

abbrev pub GoingBySeat : Type 0
GoingBySeat =
    AtEachSeat (λ gives d past I levels v ss n s j.
    (t : Name × Step) → slice_get v.flow.steps s.step ≡ Some t
    → GoesOnBySeat gives d past ss s t.1 j)

-- whether a service comes first
abbrev pub is_service_first : List Activity → Bool
is_service_first (service n ∷ as') = true
is_service_first as' = false

-- whether a step's jobs ask a service first
abbrev pub begins_with_service : Step → Bool
begins_with_service s = is_service_first s.activities

-- of those that go on, these have an ask next, which is offered; the others have a flow next, which can
-- be opened
pub record HasNextBySeat (past : History) (s : Seat) (t : Step) (j : Job) : Type 0 where
  pub idle : is_idle s.stage ≡ true → is_some (next_ask past j) ≡ true
  pub aside : is_aside s.stage ≡ true → (next_ask past j ≡ None) × (is_some j.opens ≡ true)
  pub waits :
      is_waiting s.stage ≡ true → is_bounced j.ending ≡ false
      → (is_some (next_ask past j) ≡ begins_with_service t)
      × (begins_with_service t ≡ false → is_some j.opens ≡ true)

abbrev pub NextBySeat : Type 0
NextBySeat =
    AtEachSeat (λ gives d past I levels v ss n s j.
    (t : Name × Step) → slice_get v.flow.steps s.step ≡ Some t
    → HasNextBySeat past s t.1 j)

-- ---- the first

-- in this order of steps k has a place before which l doesn't stand
abbrev pub StandsNotBehind : List ℕ → ℕ → ℕ → Type 0
StandsNotBehind order k l =
    (i : ℕ) × (slice_get order i ≡ Some k) × ((n : ℕ) → slice_get order n ≡ Some l → i ≤ n)

-- the seat t doesn't come before s, with the steps by falling rank and those of a step by place
pub record ComesNotBefore (v : View) (t s : Seat) : Type 0 where
  pub steps : StandsNotBehind (by_falling_rank v.flow) s.step t.step
  pub places : s.step ≡ t.step → place_before t.place s.place ≡ false

-- where the view's flow is that to which the instance's name leads, the job of a seat that doesn't come
-- before another is that one's, or stands behind it
abbrev pub OrderBySeats : Type 0
OrderBySeats =
    AtEachSeat (λ gives d past I levels v ss n s j.
    steps_at d.flows nesting_limit d.main I ≡ ranked v.flow.steps
    → (k : ℕ) (t : Seat) (i : Job) → slice_get ss k ≡ Some t → IsJobOf gives d I v i t
    → ComesNotBefore v t s
    → (i ≡ j) ⊎ StandsBefore j i (meaning gives d).jobs)

-- ---- bounces

abbrev pub BouncesBySeat : Type 0
BouncesBySeat =
    AtEachSeat (λ gives d past I levels v ss n s j.
    can_bounce (meaning gives d) past j ≡ true
    → is_legal_after gives (meaning gives d) past (bounced j.name) ≡ true)
