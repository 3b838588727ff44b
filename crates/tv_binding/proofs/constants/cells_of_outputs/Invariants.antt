use Rattle.std.proofs.Common.{◌≡◌, map, take}
use Rattle.tv_flow.specs.Views.{each, feed_view}
use Rattle.tv_binding.specs.Constants.{constant_in, cell_values}
use Rattle.tv_binding.proofs.constants.cells_of_outputs.Given as goal

abbrev pub invariant-loop-feed : goal.invariant-loop-feed
invariant-loop-feed l = cell_values l.cells.items ≡ map (λ o. constant_in o.1) (each feed_view (take l.feed-index l.outputs))
