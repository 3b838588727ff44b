-- What the stage of a seat tells of the state of its job after a history, and of whether a try is out.
use Rattle.std.specs.Option.{option_map_or}
use Rattle.std.specs.Prelude.{◌≡◌, refl, ℕ, ◌==◌, ◌&&◌, Bool, true, false, if◌then◌else◌, None, Option, Some, is_some}
use Rattle.std.proofs.Common.{ap, eq-eqb, eqb-true, sym, ◌∙◌}
use Rattle.std.specs.Cmp.Derive.{one_truth}
use Rattle.tv_value.specs.Values.{Name}
use Rattle.tv_gate.specs.Outcomes.{Giving}
use Rattle.tv_flow.specs.Flows.{Document}
use Rattle.tv_dispatch.specs.Jobs.{Ask}
use Rattle.tv_model.specs.Jobs.{Job}
use Rattle.tv_model.specs.Made.{Meaning}
use Rattle.tv_model.proofs.Tests.{true≠false}
use Rattle.tv_history.specs.Entries.{History, is_out}
use Rattle.tv_history.specs.Histories.{has_open_instance, is_ask, is_ready, is_running, is_settled, next_ask}
use Rattle.tv_history.specs.activities.Activities.{last_activity}
use Rattle.tv_instances.specs.FramingViews.{View}
use Rattle.tv_seats.specs.Stages.{is_waiting}
use Rattle.tv_seats.specs.declared.stage.Stage.{Stage}
use Rattle.tv_seats.specs.declared.stage.Stage.TheVariants as stage
use Rattle.tv_instances.specs.seats.Seated.{IsStage}
use Rattle.tv_instances.specs.stands.States.{StandsAt}
use Rattle.tv_history.specs.Calls.{idle_state, out_state, state_after, try_out}
use Rattle.tv_history.specs.declared.ticket.JobState.{JobState}
use Rattle.tv_history.specs.declared.ticket.JobState.TheVariants as state
use Rattle.tv_run.specs.Jobs.{is_at}

-- the state that a stage tells; of a waiting job, by whether it is ready
abbrev pub state_by : Stage → Bool → JobState
state_by stage.Waiting b = if b then state.Ready else state.Waiting
state_by (stage.Out a t) b = state.Out a t
state_by (stage.Idle a t) b = state.Idle a t
state_by (stage.Aside a) b = state.Idle a 0
state_by (stage.Nested i) b = state.Nested
state_by stage.Settled b = state.Settled

-- the state by its tests
abbrev by_tests : Bool → Bool → Bool → Bool → Bool → JobState → JobState → JobState
by_tests settled out nested runs ready when_out when_idle =
    if settled then state.Settled
    else (if out then when_out
    else (if nested then state.Nested
    else (if runs then when_idle
    else (if ready then state.Ready else state.Waiting))))

module _ (m : Meaning) (past : History) (j : Job) where
  abbrev ready_now : Bool
  ready_now = is_ready m past j

  abbrev out_by : Option Ask → JobState
  out_by o = option_map_or (λ k. state.Out k.activity k.attempt) o state.Waiting

  abbrev idle_by : Option Ask → JobState
  idle_by o = option_map_or (λ k. state.Idle k.activity k.attempt) o (state.Idle (last_activity j.asks) 0)

  pub settled-is : is_settled past j ≡ true → state_after m past j ≡ state.Settled
  settled-is w =
      λ i. by_tests (w i) (is_out past j.name) (has_open_instance past j) (is_running past j) ready_now
      (out_state past j) (idle_state past j)

  -- no try is out of what isn't
  pub not-out : (a t : ℕ) → is_out past j.name ≡ false → false ≡ is_some (try_out past a t j)
  not-out a t h =
      sym
      (λ i. is_some (if h i && option_map_or (is_ask a t) (next_ask past j) false then next_ask past j else None))

module _ (gives : Giving) (d : Document) (m : Meaning) (past : History) (levels : Name → ℕ) (v : View) (n : Name)
    (j : Job) where
  pub state-is : (x : Stage) → StandsAt gives d past levels v n j x → state_after m past j ≡ state_by x (is_ready m past j)
  state-is stage.Waiting w =
      λ i. by_tests (w.unsettled i) (w.out i) (w.nothing_open i) (w.running i) (is_ready m past j) (out_state past j)
      (idle_state past j)
  state-is (stage.Out a t) w =
      (λ i. by_tests (w.unsettled i) (w.out i) (w.nothing_open i) (w.running i) (is_ready m past j)
      (out_by m past j (w.next.is_next i)) (idle_state past j))
      ∙ (λ i. state.Out (w.next.activity i) (w.next.attempt i))
  state-is (stage.Idle a t) w =
      (λ i. by_tests (w.unsettled i) (w.out i) (w.nothing_open i) (w.running i) (is_ready m past j)
      (out_state past j) (idle_by m past j (w.next.is_next i)))
      ∙ (λ i. state.Idle (w.next.activity i) (w.next.attempt i))
  state-is (stage.Aside a) w =
      (λ i. by_tests (w.unsettled i) (w.out i) (w.nothing_open i) (w.running i) (is_ready m past j)
      (out_state past j) (idle_by m past j (w.none_next i)))
      ∙ ap (λ b. state.Idle b 0) (sym w.after)
  state-is (stage.Nested k) w =
      λ i. by_tests (w.unsettled i) (w.out i) (w.open_inside i) (is_running past j) (is_ready m past j)
      (out_state past j) (idle_state past j)
  state-is stage.Settled w = settled-is m past j w

  -- whether a try is out
  pub out-is : (a t : ℕ) (x : Stage) → IsStage past j x → StandsAt gives d past levels v n j x
      → is_at (Some x) a t ≡ is_some (try_out past a t j)
  out-is a t stage.Waiting h w = not-out m past j a t h.is_out
  out-is a t (stage.Out b u) h w =
      sym
      (
      (λ i. is_some
      (if w.out i && option_map_or (is_ask a t) (w.next.is_next i) false then w.next.is_next i else None))
      ∙ some-if (is_ask a t w.next.ask) w.next.ask
      ∙ (λ i. a == w.next.activity i && t == w.next.attempt i)
      ∙ (λ i. eqb-turned a b i && eqb-turned t u i)
      )
    where
      some-if : (c : Bool) (k : Ask) → is_some (if c then Some k else None) ≡ c
      some-if true k = refl
      some-if false k = refl

      eqb-turned : (k l : ℕ) → (k == l) ≡ (l == k)
      eqb-turned k l =
          one_truth (k == l) (l == k) (λ e. eq-eqb l k (sym (eqb-true k l e))) (λ e. eq-eqb k l (sym (eqb-true l k e)))
  out-is a t (stage.Idle b u) h w = not-out m past j a t h.0.is_out
  out-is a t (stage.Aside b) h w = not-out m past j a t h.0.is_out
  out-is a t (stage.Nested k) h w = not-out m past j a t h.is_out
  out-is a t stage.Settled h w = not-out m past j a t h.1

pub waits-alone : (x : Stage) → is_waiting x ≡ true → x ≡ stage.Waiting
waits-alone stage.Waiting h = refl
waits-alone (stage.Out a t) h = absurd (true≠false (sym h))
waits-alone (stage.Idle a t) h = absurd (true≠false (sym h))
waits-alone (stage.Aside a) h = absurd (true≠false (sym h))
waits-alone (stage.Nested i) h = absurd (true≠false (sym h))
waits-alone stage.Settled h = absurd (true≠false (sym h))
