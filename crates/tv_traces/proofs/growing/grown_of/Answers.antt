use Rattle.std.proofs.Common.{[], map}
use Rattle.std.specs.BTreeMap.{get}
use Rattle.tv_value.specs.Orders.{place_cmp}
use Rattle.tv_traces.specs.Sights.{job_view, level_spot}
use Rattle.tv_traces.proofs.GrowingLemmas.{all-grown, none-at, nothing-grown}
use Rattle.tv_traces.proofs.growing.grown_of.Goals as goal

pub returns : goal.returns
returns c =
    all-grown c.args.levels.now (map job_view c.args.jobs.now) (get place_cmp c.grow_by_jobs.new.grown)
    (c.in_ok-grow_by_jobs.ensures (map level_spot c.args.levels.now) (c.in_ok-grow_by_levels.ensures [] (nothing-grown (get place_cmp c.new-grown.result) (none-at c.new-grown.result c.new-grown.ensures.empty))))
