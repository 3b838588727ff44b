use Rattle.std.proofs.Common.{◌≡◌, ◌++◌, map, take}
use Rattle.tv_value.specs.Nested.{trees_of}
use Rattle.tv_cell.specs.PieceValues.{piece_value}
use Rattle.tv_traces.specs.Leaves.{places_from}
use Rattle.tv_traces.proofs.places.+leaves.Given as goal

abbrev pub invariant-push_pieces_places-loop-index : goal.invariant-push_pieces_places-loop-index
invariant-push_pieces_places-loop-index l = l.places.items ≡ l.fn.places.items ++ places_from l.place 0 (trees_of (map piece_value (take l.index l.pieces)))
