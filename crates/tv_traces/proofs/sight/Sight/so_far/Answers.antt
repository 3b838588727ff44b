use Rattle.std.proofs.Common.{map}
use Rattle.tv_frame.specs.Views.{level_view}
use Rattle.tv_traces.specs.Sights.{job_view}
use Rattle.tv_traces.proofs.Sights.{sight-so_far}
use Rattle.tv_traces.proofs.sight.Sight.so_far.Goals as goal

pub returns : goal.returns
returns c = sight-so_far c.in_ok-table.table c.in_ok-grown.grown (map level_view c.args.levels.now) c.in_ok-table.ensures (map job_view c.args.jobs.now) c.in_ok-places.places c.in_ok-grown.ensures c.in_ok-places.ensures
