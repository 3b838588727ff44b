use Rattle.std.proofs.Common.{subst, map}
use Rattle.std.proofs.lemmas.List.{take_all}
use Rattle.std.specs.BTreeMap.{get}
use Rattle.tv_value.specs.Orders.{place_cmp}
use Rattle.tv_frame.specs.Views.{level_view}
use Rattle.tv_traces.specs.Tables.{IsTableOf}
use Rattle.tv_traces.specs.Tabled.{told_in}
use Rattle.tv_traces.proofs.Tabling.{table-more}
use Rattle.tv_traces.proofs.table.table_of.Goals as goal

pub loop-level-preserved : goal.loop-level-preserved
loop-level-preserved c = table-more c.loop-level.table c.insert.new.self c.in_ok-key.key c.args.levels.now c.loop-level.level-index c.level-item.result c.loop-level-test.true c.level-item.is c.as_slice.result.now c.in_ok-key.ensures c.as_slice.ensures c.in_ok-insert.ensures.updates c.loop-level.invariant

pub returns : goal.returns
returns c = subst (λ ls. IsTableOf (map level_view ls) (told_in (get place_cmp c.loop-level.table))) (take_all c.loop-level.level-index c.args.levels.now c.loop-level-test.false) c.loop-level.invariant
