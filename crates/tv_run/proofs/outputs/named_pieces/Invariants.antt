use Rattle.std.specs.List.{zip}
use Rattle.std.specs.Prelude.{◌≡◌, map, take}
use Rattle.tv_flow.specs.Views.{each}
use Rattle.tv_cell.specs.PieceValues.{piece_value, piece_values}
use Rattle.tv_run.specs.Tasks.{AreSoundOutputs}
use Rattle.tv_run.proofs.outputs.named_pieces.Given as goal

abbrev pub invariant-loop-index : goal.invariant-loop-index
invariant-loop-index l = record {
  values : each piece_value l.named.items ≡ take l.index (zip (map (λ n. n.0) l.names) (piece_values l.pieces));
  sound : AreSoundOutputs l.named.items;
}
