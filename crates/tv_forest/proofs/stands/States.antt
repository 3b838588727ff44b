-- Where the job of a seat stands.
use Rattle.std.specs.Prelude.{◌≡◌, refl, ℕ, Bool, true, false, not, ◌&&◌, ◌==◌, List, [], Some, None, Option, slice_get}
use Rattle.std.specs.List.{list_any}
use Rattle.std.specs.Option.{option_map_or}
use Rattle.std.proofs.Common.{ap, eqb-true, sym, ◌∙◌}
use Rattle.std.specs.Cmp.{first_so, second_so}
use Rattle.std.specs.Cmp.Derive.{one_truth}
use Rattle.tv_value.specs.Nested.{Place}
use Rattle.tv_value.specs.Values.{JobName, Name}
use Rattle.tv_gate.specs.Outcomes.{Giving}
use Rattle.tv_flow.specs.Flows.{Document, Step}
use Rattle.tv_dispatch.specs.Jobs.{Ask}
use Rattle.tv_model.specs.instance.Ranks.{ranked}
use Rattle.tv_model.specs.instance.ByResults.{last_first}
use Rattle.tv_model.specs.instance.Counting.{have_ended_by}
use Rattle.tv_model.specs.Jobs.{Job}
use Rattle.tv_model.specs.Made.{Meaning}
use Rattle.tv_model.specs.Meanings.{meaning}
use Rattle.tv_model.proofs.Tests.{true≠false}
use Rattle.tv_history.specs.Entries.{History, is_begun_entry}
use Rattle.tv_history.specs.Histories.{is_ask, is_ready, is_settled, next_ask}
use Rattle.tv_framing.specs.Answers.{after_of}
use Rattle.tv_framing.specs.Views.{View}
use Rattle.tv_seats.specs.Seats.{Seat}
use Rattle.tv_seats.specs.declared.stage.Stage.{Stage}
use Rattle.tv_seats.specs.declared.stage.Stage.TheVariants as stage
use Rattle.tv_forest.proofs.views.LawLemmas.{ready-is_told, taken-is_running}
use Rattle.tv_forest.specs.seats.Seated.{GoesAs, IsNextTry, IsStage, Sit, spot_of}
use Rattle.tv_forest.specs.stands.Seats.{IsJobOf}
use Rattle.tv_forest.specs.stands.States.{IsStateOf, IsTry, Runs, StandsAt, StatesBySeats, Waits}
use Rattle.tv_forest.proofs.stands.Seats.{seat-job}
use Rattle.tv_forest.proofs.stands.Stages.{over-is}
use Rattle.tv_lemmas.proofs.Members.{in-slice}

-- the numbers of the next try are those of the next ask
next-is : (past : History) (j : Job) (a t : ℕ) → IsNextTry past j a t → IsTry past j a t
next-is past j a t h = by (next_ask past j) refl h
  where
    by : (o : Option Ask) → next_ask past j ≡ o → option_map_or (is_ask a t) o false ≡ true → IsTry past j a t
    by None e k = absurd (true≠false (sym k))
    by (Some ask) e k = record {
      ask = ask;
      is_next = e;
      activity = sym (eqb-true a ask.activity (first_so (a == ask.activity) (t == ask.attempt) k));
      attempt = sym (eqb-true t ask.attempt (second_so (a == ask.activity) (t == ask.attempt) k));
    }

-- what neither runs nor is settled wasn't begun
pub not-begun : (b s : Bool) → (b && not s) ≡ false → s ≡ false → b ≡ false
not-begun true true h k = absurd (true≠false k)
not-begun true false h k = h
not-begun false s h k = refl

module _ (gives : Giving) (d : Document) (past : History) (I : JobName) (levels : Name → ℕ) (v : View)
    (ss : List Seat) (sit : Sit gives d past I levels v ss) (n : ℕ) (s : Seat) (j : Job)
    (there : slice_get ss n ≡ Some s) (it : IsJobOf gives d I v j s) (t : Name × Step)
    (at_step : slice_get v.flow.steps s.step ≡ Some t) where
  abbrev m : Meaning
  m = meaning gives d

  abbrev x : Name × Place
  x = spot_of v.flow.steps s

  abbrev have_ended : Name → Bool
  have_ended k = have_ended_by v.events levels (last_first (ranked v.flow.steps) []) (after_of v k)

  is-named : x.0 ≡ t.0
  is-named = ap (λ o. option_map_or (λ (w : Name × Step). w.0) o []) at_step

  waits : GoesAs past j false false false → Waits gives d past levels v t.0 j
  waits h =
      let told = ready-is_told gives d past I levels v sit.in_run x j it in
      let begun = taken-is_running gives d past I levels v sit.in_run x j it in
      let none = not-begun (list_any (is_begun_entry j.name) past) (is_settled past j) h.runs h.unsettled in
      let known = in-slice v.jobs n x (seat-job gives d past I levels v ss sit n s there).known in
      record {
        unsettled = h.unsettled;
        running = h.runs;
        out = h.is_out;
        nothing_open = h.inside;
        ready =
            one_truth (is_ready m past j) (have_ended x.0) (λ r. (told.told r).1.after)
            (λ e.
            told.ready known
            (record { idle = sym begun.begun ∙ none; without_result = sym begun.settled ∙ h.unsettled; after = e }))
            ∙ ap have_ended is-named;
      }

  tries : (a u : ℕ) (out : Bool) → GoesAs past j true out false → IsNextTry past j a u → Runs past j a u out
  tries a u out h k = record {
    unsettled = h.unsettled;
    running = h.runs;
    out = h.is_out;
    nothing_open = h.inside;
    next = next-is past j a u k;
  }

  stands : (y : Stage) → IsStage past j y → StandsAt gives d past levels v t.0 j y
  stands stage.Waiting h = waits h
  stands (stage.Out a u) h = tries a u true h.0 h.1
  stands (stage.Idle a u) h = tries a u false h.0 h.1
  stands (stage.Aside a) h = record {
    unsettled = h.0.unsettled;
    running = h.0.runs;
    out = h.0.is_out;
    nothing_open = h.0.inside;
    none_next = h.1.no_ask;
    after = h.1.activity;
  }
  stands (stage.Nested i) h = record { unsettled = h.unsettled; running = h.runs; out = h.is_out; open_inside = h.inside }
  stands stage.Settled h = h.0

  pub state-of : IsStateOf gives d past levels v t.0 j s.stage
  state-of =
      let h = sit.stages n s j there it in
      record { settled = over-is past j s.stage h; stands = stands s.stage h }

pub states-by_seats : StatesBySeats
states-by_seats gives d past I levels v ss sit n s j there it t at_step =
    state-of gives d past I levels v ss sit n s j there it t at_step
