-- What a pool ends as, where a `&mut` to one of its items is returned.
use Rattle.std.specs.Borrow.{Lends, Fml, RattleType, MutBor}
use Rattle.tv_pool.specs.Pool.{Pool, with_item, with_linked}
use Rattle.tv_pool.specs.declared.handles.Node.{Node}
use Rattle.tv_pool.specs.declared.handles.Link.{Link}
use Rattle.tv_pool.specs.contracts.Pool.{the_row}

-- once the borrow r ends, the node's position has the last value written through r
abbrev pub lends_item : (T : RattleType) → MutBor (Pool T.Denot) → Node → MutBor T.Denot → Fml
lends_item T pool node r = Lends (the_row T) T pool r (with_item pool.now node)

-- once the borrow r ends, what lies where the link leads has the last value written through r
abbrev pub lends_linked : (T : RattleType) → MutBor (Pool T.Denot) → Link → MutBor T.Denot → Fml
lends_linked T pool link r = Lends (the_row T) T pool r (with_linked pool.now link)
