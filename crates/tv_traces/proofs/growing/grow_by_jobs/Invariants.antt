use Rattle.std.proofs.Common.{List, ◌++◌, map, take}
use Rattle.std.specs.BTreeMap.{get}
use Rattle.tv_value.specs.Orders.{place_cmp}
use Rattle.tv_traces.specs.Seen.{Spot}
use Rattle.tv_traces.specs.Growing.{AreGrownBy, IsAroundOne}
use Rattle.tv_traces.specs.Sights.{job_view}
use Rattle.tv_traces.proofs.growing.grow_by_jobs.Given as goal

abbrev pub invariant-loop-job : goal.invariant-loop-job
invariant-loop-job l = (js : List Spot) → AreGrownBy (IsAroundOne js) (get place_cmp l.fn.grown) → AreGrownBy (IsAroundOne (js ++ map job_view (take l.job-index l.jobs))) (get place_cmp l.grown)
