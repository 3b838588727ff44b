use Rattle.std.proofs.Common.{map, take}
use Rattle.std.specs.BTreeMap.{get}
use Rattle.tv_value.specs.Orders.{place_cmp}
use Rattle.tv_frame.specs.Views.{level_view}
use Rattle.tv_traces.specs.Tables.{IsTableOf}
use Rattle.tv_traces.specs.Tabled.{told_in}
use Rattle.tv_traces.proofs.table.table_of.Given as goal

abbrev pub invariant-loop-level : goal.invariant-loop-level
invariant-loop-level l = IsTableOf (map level_view (take l.level-index l.levels)) (told_in (get place_cmp l.table))
