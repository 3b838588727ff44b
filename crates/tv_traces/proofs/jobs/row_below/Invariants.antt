use Rattle.std.proofs.Common.{◌≡◌, take}
use Rattle.std.specs.Prelude.{flat_map}
use Rattle.tv_traces.specs.Rows.{items_at}
use Rattle.tv_traces.specs.Sights.{what_in}
use Rattle.tv_traces.proofs.jobs.row_below.Given as goal

abbrev pub invariant-loop-place : goal.invariant-loop-place
invariant-loop-place l = l.inner.items ≡ flat_map (items_at (what_in l.walk.sight.now l.walk.step)) (take l.place-index l.places)
