use Rattle.tv_flow.specs.Views.{flow_view}
use Rattle.tv_traces.specs.Building.{telling}
use Rattle.tv_traces.specs.Views.{shapes_view}
use Rattle.tv_traces.proofs.Groups.{all-grow}
use Rattle.tv_traces.proofs.RowLemmas.{noted-next}
use Rattle.tv_traces.proofs.jobs.note_jobs.Goals as goal

pub note_job-requires : goal.note_job-requires
note_job-requires c =
    all-grow (flow_view c.args.walk.now.shown.flow.now) c.args.records.now.groups c.loop-place.records.groups (shapes_view c.args.walk.now.shown.shapes.now) c.loop-place.invariant.grows c.requires

pub loop-place-preserved : goal.loop-place-preserved
loop-place-preserved c =
    noted-next (telling c.args.walk.now) c.as_slice-place-items.result.now c.loop-place.place-index c.place-item.result c.as_slice.result.now c.loop-place-test.true c.place-item.is c.as_slice.ensures
    c.args.records.now c.loop-place.records c.note_job.new.records c.loop-place.invariant c.in_ok-note_job.ensures
