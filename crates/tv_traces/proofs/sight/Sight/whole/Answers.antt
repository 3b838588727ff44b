use Rattle.std.proofs.Common.{map}
use Rattle.tv_frame.specs.Views.{level_view}
use Rattle.tv_traces.proofs.GrowingLemmas.{none-at}
use Rattle.tv_traces.proofs.Sights.{whole-sight}
use Rattle.tv_traces.proofs.sight.Sight.whole.Goals as goal

pub returns : goal.returns
returns c = whole-sight c.in_ok-table.table c.new.result (map level_view c.args.levels.now) c.in_ok-table.ensures (none-at c.new.result c.new.ensures.empty)
