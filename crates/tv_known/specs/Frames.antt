-- The frame that a run has for each of its open instances.
use Rattle.std.specs.Prelude.{◌≡◌, ℕ, Some, slice_get}
use Rattle.tv_value.specs.Values.{JobName}
use Rattle.tv_flow.specs.Flows.{Flow}
use Rattle.tv_history.specs.Runs.{flow_of, instances_of}
use Rattle.tv_run.specs.Inner.{Frame}
use Rattle.tv_run.specs.Standing.{frame_at, run_of}
use Rattle.tv_run.specs.declared.run.OpenRun.{OpenRun}

-- f is that of the open instance I, which is of this flow
pub record IsFrameOf (r : OpenRun) (I : JobName) (flow : Flow) (f : Frame) : Type 0 where
  pub number : ℕ
  pub named : slice_get (instances_of (run_of r).names (run_of r).entries) number ≡ Some I
  pub is_flow :
      flow_of (run_of r).document.flows (run_of r).document.main I ≡ Some flow
  pub there : frame_at r number ≡ Some f
