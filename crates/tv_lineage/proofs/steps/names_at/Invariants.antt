use Rattle.std.proofs.Common.{length, map, ◌++◌, ◌≡◌}
use Rattle.tv_lineage.specs.Lineages.{job_at}
use Rattle.tv_lineage.proofs.steps.names_at.Given as goal

abbrev pub invariant-loop-place : goal.invariant-loop-place
invariant-loop-place l = l.names.items ++ map (job_at l.step) l.places.keys ≡ map (job_at l.step) l.fn.places.keys

abbrev pub decreases-loop-place : goal.decreases-loop-place
decreases-loop-place l = length l.places.keys
