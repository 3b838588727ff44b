use Rattle.std.proofs.Common.{take}
use Rattle.tv_traces.specs.Building.{telling}
use Rattle.tv_traces.specs.OfNodes.{AreNoted}
use Rattle.tv_traces.proofs.jobs.note_jobs.Given as goal

abbrev pub invariant-loop-place : goal.invariant-loop-place
invariant-loop-place l = AreNoted (telling l.walk) (take l.place-index l.place-items) l.fn.records l.records
