use Rattle.std.proofs.Common.{◌≡◌, ◌≤◌, ◌+◌, map, take}
use Rattle.tv_parts.specs.Partials.{wanting}
use Rattle.tv_pool.specs.Pool.{IsLive, number_of}
use Rattle.tv_stream.specs.nodes.Calls.{KeepsRegions, count_in}
use Rattle.tv_outputs.specs.Known.{known_in, depths_in}
use Rattle.tv_outputs.specs.Kept.{AreKeptBeside}
use Rattle.tv_outputs.proofs.outputs.Outputs.start.Given as goal

abbrev pub invariant-loop-depth : goal.invariant-loop-depth
invariant-loop-depth l = record {
  live : IsLive l.pool l.region;
  kept : AreKeptBeside (count_in l.fn.pool (number_of l.region)) l.pool l.region l.self.trees.items;
  known : known_in l.pool l.self.trees.items ≡ map (λ d. wanting) (take l.depth-index l.depths);
  depths : depths_in l.self.trees.items ≡ take l.depth-index l.depths;
  regions : KeepsRegions l.fn.pool l.pool (number_of l.region);
  spare : l.fn.pool.spare ≤ l.pool.spare + l.depth-index;
}
