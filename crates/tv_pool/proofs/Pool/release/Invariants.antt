use Rattle.std.proofs.Common.{◌≡◌, ℕ, ◌+◌}
use Rattle.slab.specs.Slab.{slab_len}
use Rattle.tv_pool.specs.Layout.{Places, IsChain}
use Rattle.tv_pool.proofs.Steps.{LeavesChains}
use Rattle.tv_pool.proofs.Pool.release.Given as goal

-- the chain has so many slots left, all other regions are as they were, and each item that was
-- taken is one less in the pool
abbrev pub invariant-items : goal.invariant-items
invariant-items g l = record {
  left : ℕ;
  total : left + l.counter ≡ l.end;
  places : Places;
  chain : IsChain l.self-inside.nodes.slots places l.fn.region.number l.slot left;
  others : LeavesChains l.initial.self-inside.nodes.slots l.self-inside.nodes.slots places l.self-inside.regions l.fn.region.number;
  len : slab_len l.self-inside.nodes + l.counter ≡ slab_len l.initial.self-inside.nodes;
  capacity : l.self-inside.nodes.capacity ≡ l.initial.self-inside.nodes.capacity;
  table : l.self-inside.regions ≡ l.initial.self-inside.regions;
  begun : l.self-inside.begun ≡ l.initial.self-inside.begun;
}
