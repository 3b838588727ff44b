-- Nothing is kept in the pool once the main instance has ended: then all have.
use Rattle.std.specs.Prelude.{List, None, Option, Some, option_and_then, option_map, refl, slice_get, suc, true, zero, ℕ, ◌<◌, ◌≡◌}
use Rattle.std.proofs.Common.{ap, arith, subst, sym, ◌∙◌}
use Rattle.std.proofs.lemmas.Option.{same_Some, slice_get_within}
use Rattle.tv_lemmas.proofs.Lists.{get-within}
use Rattle.tv_gate.specs.Outcomes.{Giving}
use Rattle.tv_check.specs.RunViews.{run_view}
use Rattle.tv_pool.specs.Pool.{live_count}
use Rattle.tv_model.proofs.Tests.{true≠false}
use Rattle.tv_history.specs.Histories.{is_done}
use Rattle.tv_instances.specs.FramingViews.{View}
use Rattle.tv_frame.specs.Tables.{levels_in}
use Rattle.tv_frame.specs.declared.frame.Frame.{Frame}
use Rattle.tv_frame_laws.proofs.Theirs as beside
use Rattle.tv_seats.specs.Stages.{is_nested}
use Rattle.tv_seats.specs.declared.stage.Stage.TheVariants as stage
use Rattle.tv_instances.specs.Forest.{Instance, Instances, IsAt, IsOpened, Stays}
use Rattle.tv_instances.specs.declared.open.Open.{Open}
use Rattle.tv_history.specs.Runs.{past_of}
use Rattle.tv_run.specs.Standing.{IsLife, Stands, StandsStill, frame_at, run_of}
use Rattle.tv_run.specs.declared.instances.Instance as code
use Rattle.tv_run.specs.declared.run.OpenRun.{OpenRun}
use Rattle.tv_run.proofs.OverLemmas.{done-is, shut-main}

module _ (gives : Giving) (r : OpenRun) (xs : Instances) (st : Stands gives r xs) (main : Instance) (at-main : IsAt xs 0 main)
    (shut-main : main.view ≡ None) where
  -- one is open only as long as the one is in which it was opened
  inner-shut :
      (i : ℕ) (y : Instance) (o : IsOpened gives (run_view r.run) xs i y) → o.around.view ≡ None → y.view ≡ None
  inner-shut i y o shut = by y.view refl
    where
      settled : o.seat.stage ≡ stage.Settled
      settled =
          (subst (λ w. Stays gives (run_view r.run) levels_in (past_of (run_of r)) o.around w) shut
          (st.stand.each o.outer o.around o.is_job.instance)).settled o.number o.seat o.is_job.seat

      by : (w : Option View) → y.view ≡ w → y.view ≡ None
      by None e = e
      by (Some v) e = absurd (true≠false (ap is_nested (sym (o.while_open v e).0 ∙ settled)))

  shut-below : (n i : ℕ) → i < n → (y : Instance) → IsAt xs i y → y.view ≡ None
  shut-below zero i low y at = elim low [ ]
  shut-below (suc n) zero low y at = ap (λ (x : Instance). x.view) (same_Some y main (sym at ∙ at-main)) ∙ shut-main
  shut-below (suc n) (suc i) low y at =
      let o = st.stand.opened i y at in
      let before = o.before in
      inner-shut (suc i) y o (shut-below n o.outer (omega (arith, low, before)) o.around o.is_job.instance)

  all-shut : (i : ℕ) (y : Instance) → IsAt xs i y → y.view ≡ None
  all-shut i y at = shut-below (suc i) i (omega arith) y at

  abbrev frame_of : Option code.Instance → Option Frame
  frame_of a = option_and_then (λ (c : code.Instance). option_map (λ (o : Open). o.frame) (slice_get c.open.items 0)) a

  no-frame : (i : ℕ) → frame_at r i ≡ None
  no-frame i = by (slice_get r.instances.items i) refl
    where
      by : (a : Option code.Instance) → slice_get r.instances.items i ≡ a → frame_of a ≡ None
      by None e = refl
      by (Some c) e =
          let low = slice_get_within r.instances.items i c e in
          let y = get-within xs i (subst (λ n. i < n) st.fits.as_many low) in
          let kept = st.fits.kept i c y.0 e y.1 in
          let life = subst (λ w. IsLife r c y.0 w) (all-shut i y.0 y.1) kept.life in
          ap (λ (os : List Open). option_map (λ (o : Open). o.frame) (slice_get os 0)) life.0

-- nothing is kept in the pool of a run that is done
pub none-live :
    (gives : Giving) (r : OpenRun) → StandsStill gives r → is_done (past_of (run_of r)) ≡ true
    → live_count r.pool.regions ≡ 0
none-live gives r st done =
    let x = shut-main gives r st.0 st.1 (done-is gives r st ∙ done) in
    beside.none-live r.pool (frame_at r) st.1.fits.theirs (no-frame gives r st.0 st.1 x.0 x.1 x.2)
