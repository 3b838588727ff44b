-- What a `Placed` ends as, where a `&mut` to its item is returned. No public clause cites this module.
use Rattle.std.specs.Borrow.{Lends, Fml, RattleType, MutBor}
use Rattle.tv_pool.specs.declared.layout.Placed.{Placed}
use Rattle.tv_pool.specs.contracts.layout.Placed.{the_row}

-- it ends with the last value written through r as its item
abbrev pub lends_item : (T : RattleType) → MutBor (Placed T.Denot) → MutBor T.Denot → Fml
lends_item T p r = Lends (the_row T) T p r (λ w. record p.now { item = w })
