-- Where a run stands, its open instances have the frames of its pool.
use Rattle.std.specs.Prelude.{◌≡◌, ℕ, Some, option_and_then, option_map, slice_get}
use Rattle.std.proofs.Common.{ap, ◌∙◌}
use Rattle.tv_check.specs.RunViews.{run_view}
use Rattle.tv_run.specs.FramingViews.{View}
use Rattle.tv_run.specs.Tables.{levels_in}
use Rattle.tv_run.specs.Forest.{Instance, Instances, IsAt}
use Rattle.tv_history.specs.Runs.{past_of}
use Rattle.tv_run.specs.Inner.{Open}
use Rattle.tv_run.specs.Standing.{Fits, frame_at, run_of}
use Rattle.tv_run.specs.declared.instances.Instance as code
use Rattle.tv_run.specs.declared.run.OpenRun.{OpenRun}
use Rattle.tv_run.proofs.Itself.{its-code}
use Rattle.tv_run.proofs.PlannedJobs.{result-deep}
use Rattle.tv_run.proofs.PlanLemmas.{plan-there}
use Rattle.tv_board.specs.Stated.{ResultsHaveNodes}
use Rattle.tv_board.proofs.Instances.{kept-housed}
use Rattle.tv_board.proofs.Regions.{HasFrame}

pub has-frame : (r : OpenRun) (xs : Instances) → Fits r xs → (i : ℕ) (x : Instance) (v : View)
    → IsAt xs i x → x.view ≡ Some v → HasFrame (run_view r.run).flows r.pool (frame_at r) i v
has-frame r xs fits i x v at e =
    let c = its-code r i xs x v (record { fits = fits; there = at; is_open = e }) in
    let p = plan-there r.run c.itself.flow x.flow c.kept.flow in
    record {
      frame = c.opened.itself.frame;
      plan = p.0;
      there =
          ap
          (option_and_then (λ (g : code.Instance). option_map (λ (o : Open). o.frame) (slice_get g.open.items 0)))
          c.there
          ∙ ap (λ os. option_map (λ (o : Open). o.frame) (slice_get os 0)) c.opened.there;
      keeps = (c.opened.is_open p.0 p.1).keeps;
    }

pub results-have_nodes : ResultsHaveNodes
results-have_nodes gives r h =
    let xs = h.0 in
    let st = h.1 in
    let d = run_view r.run in
    let past = past_of (run_of r) in
    kept-housed gives d levels_in past xs st.stand r.pool (frame_at r) st.fits.theirs (has-frame r xs st.fits)
    (λ i n x s j is t at. result-deep gives d levels_in past xs st.stand i n x s j is t at)
