use Rattle.tv_forest.proofs.Ends.{ending}
use Rattle.tv_forest.proofs.MainEnd.{ending-main, none-open_at_end}
use Rattle.tv_forest.proofs.Opening.{opening}
use Rattle.tv_forest.proofs.laws.instances_come_and_go.Goals as goal

pub returns : goal.returns
returns c = record { opens = opening; ends = ending; ends_main = ending-main; none_open = none-open_at_end }
