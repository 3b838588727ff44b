-- What the stage of a seat tells of where its job stands.
use Rattle.std.specs.Prelude.{◌≡◌, Bool, true, false, not, ◌&&◌, ◌||◌}
use Rattle.std.specs.List.{list_any}
use Rattle.std.proofs.Common.{ap, ◌∙◌}
use Rattle.std.proofs.Math.Bool.{and-false}
use Rattle.tv_model.specs.Jobs.{Job}
use Rattle.tv_history.specs.Entries as entries
use Rattle.tv_history.specs.Entries.{History, is_begun_entry}
use Rattle.tv_history.specs.Histories as histories
use Rattle.tv_history.specs.Histories.{has_open_instance, is_running, is_settled}
use Rattle.tv_seats.specs.Stages.{is_aside, is_idle, is_out, runs}
use Rattle.tv_seats.specs.declared.stage.Stage.{Stage}
use Rattle.tv_seats.specs.declared.stage.Stage.TheVariants as stage
use Rattle.tv_forest.specs.seats.Seated.{GoesAs, IsStage}
use Rattle.tv_forest.specs.stands.Seats.{is_over}

module _ (past : History) (j : Job) where
  pub out-is : (x : Stage) → IsStage past j x → entries.is_out past j.name ≡ is_out x
  out-is stage.Waiting h = h.is_out
  out-is (stage.Out a t) h = h.0.is_out
  out-is (stage.Idle a t) h = h.0.is_out
  out-is (stage.Aside a) h = h.0.is_out
  out-is (stage.Nested i) h = h.is_out
  out-is stage.Settled h = h.1

  runs-settled : is_settled past j ≡ true → is_running past j ≡ false
  runs-settled h =
      ap (λ b. list_any (is_begun_entry j.name) past && not b) h ∙ and-false (list_any (is_begun_entry j.name) past)

  pub runs-is : (x : Stage) → IsStage past j x → is_running past j ≡ runs x
  runs-is stage.Waiting h = h.runs
  runs-is (stage.Out a t) h = h.0.runs
  runs-is (stage.Idle a t) h = h.0.runs
  runs-is (stage.Aside a) h = h.0.runs
  runs-is (stage.Nested i) h = h.runs
  runs-is stage.Settled h = runs-settled h.0

  pub over-is : (x : Stage) → IsStage past j x → is_settled past j ≡ is_over x
  over-is stage.Waiting h = h.unsettled
  over-is (stage.Out a t) h = h.0.unsettled
  over-is (stage.Idle a t) h = h.0.unsettled
  over-is (stage.Aside a) h = h.0.unsettled
  over-is (stage.Nested i) h = h.unsettled
  over-is stage.Settled h = h.0

  idle-goes : (r o n : Bool) → GoesAs past j r o n → histories.is_idle past j ≡ (r && not o && not n)
  idle-goes r o n h = λ i. h.runs i && not (h.is_out i) && not (h.inside i)

  -- idle is what has a try or a flow next
  pub idle-is : (x : Stage) → IsStage past j x → histories.is_idle past j ≡ (is_idle x || is_aside x)
  idle-is stage.Waiting h = idle-goes false false false h
  idle-is (stage.Out a t) h = idle-goes true true false h.0
  idle-is (stage.Idle a t) h = idle-goes true false false h.0
  idle-is (stage.Aside a) h = idle-goes true false false h.0
  idle-is (stage.Nested i) h = idle-goes true false true h
  idle-is stage.Settled h =
      ap (λ b. b && not (entries.is_out past j.name) && not (has_open_instance past j)) (runs-settled h.0)
