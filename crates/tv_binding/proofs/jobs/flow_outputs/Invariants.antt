use Rattle.std.proofs.Common.{◌≡◌, map, take, Some}
use Rattle.tv_naming.specs.Naming.{numbered}
use Rattle.tv_cell.specs.PieceValues.{piece_values}
use Rattle.tv_cell.specs.Soundness.{AreSound}
use Rattle.tv_binding.specs.Constants.{constants_view}
use Rattle.tv_binding.specs.Jobs.{output_found}
use Rattle.tv_binding.specs.Sourced.{known_by}
use Rattle.tv_binding.proofs.jobs.flow_outputs.Given as goal

abbrev pub invariant-loop-number : goal.invariant-loop-number
invariant-loop-number l = record {
  values : map Some (piece_values l.pieces.items) ≡ take l.number (map (output_found (known_by l.sources) (constants_view l.constants)) (numbered 0 l.feeds));
  sound : AreSound l.pieces.items;
}
