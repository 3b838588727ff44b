use Rattle.std.proofs.Common.{◌≡◌, ℕ, List, Bor, map, drop}
use Rattle.tv_value.specs.Values.{Name}
use Rattle.tv_value.specs.Orders.{named}
use Rattle.tv_local.specs.declared.row.Local.{Local}
use Rattle.tv_local.proofs.row.find_among.Given as goal

abbrev pub row : Bor (List ℕ) × Local → Name × Local
row r = (r.0.now, r.1)

abbrev pub invariant-loop-other : goal.invariant-loop-other
invariant-loop-other l = named l.name (map row l.rows) ≡ named l.name (map row (drop l.other-index l.rows))
