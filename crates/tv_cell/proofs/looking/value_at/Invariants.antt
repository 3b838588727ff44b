use Rattle.std.proofs.Common.{◌≡◌, drop}
use Rattle.tv_value.specs.Nested.{at}
use Rattle.tv_value.specs.Views.{view}
use Rattle.tv_cell.proofs.looking.value_at.Given as goal

abbrev pub invariant-loop-index : goal.invariant-loop-index
invariant-loop-index l = at (view l.value) l.place ≡ at (view l.part) (drop l.index-index l.place)
