use Rattle.std.proofs.Common.{take}
use Rattle.tv_idle.specs.Orders.{is_before}
use Rattle.tv_idle.specs.Sought.{IsFirst, is_sought_at}
use Rattle.tv_idle.proofs.search.first_late.Given as goal

abbrev pub invariant-loop-at : goal.invariant-loop-at
invariant-loop-at l = IsFirst (is_before l.table.jobs) (is_sought_at l.place l.gone l.table.jobs) (take l.at-index l.late) l.first
