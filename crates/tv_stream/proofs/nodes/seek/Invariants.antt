use Rattle.std.proofs.Common.{ℕ, ◌-◌}
use Rattle.tv_pool.specs.Pool.{item_in}
use Rattle.tv_stream.specs.nodes.Stands.{IsNode}
use Rattle.tv_stream.proofs.NodeWays.{Searches}
use Rattle.tv_stream.proofs.nodes.seek.Given as goal

abbrev pub invariant-digits : goal.invariant-digits
invariant-digits g l = (number : ℕ) (n : IsNode l.pool number l.node.slot) → Searches (item_in l.pool number) n.spots n.spot.place l.index l.node.slot l.at.slot l.by l.rest (17 - l._step)
