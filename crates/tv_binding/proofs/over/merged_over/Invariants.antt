use Rattle.std.proofs.Common.{◌≡◌, map, take, [], Some}
use Rattle.tv_cell.specs.PieceValues.{piece_values}
use Rattle.tv_cell.specs.Soundness.{AreSound}
use Rattle.tv_binding.specs.Found.{link_found}
use Rattle.tv_binding.specs.Sourced.{known_by}
use Rattle.tv_binding.specs.Over.{known_over}
use Rattle.tv_binding.proofs.over.merged_over.Given as goal

abbrev pub invariant-loop-link : goal.invariant-loop-link
invariant-loop-link l = record {
  values : map Some (piece_values l.pieces.items) ≡ map (λ m. link_found (known_over (known_by l.sources) l.over) m []) (take l.link-index l.links);
  sound : AreSound l.pieces.items;
}
