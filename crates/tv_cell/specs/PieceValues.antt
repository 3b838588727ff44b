-- The value that a piece stands for.
use Rattle.std.specs.Prelude.{ℕ, List, Option, Some, None, map}
use Rattle.tv_value.specs.Nested.{leaf, list, count, trees_of, at}
use Rattle.tv_value.specs.Values.{Value, list_value, fault_value}
use Rattle.tv_value.specs.Views.{view}
use Rattle.tv_cell.specs.declared.piece.Piece.{Piece, fold-Piece}
use Rattle.tv_cell.specs.declared.piece.Piece.TheOpen.{Piece-F}
use Rattle.tv_cell.specs.Found.{found_value, document_of, with_depth}

-- a part is what stands at its place, a list that of its pieces' values, and a fault the document at its place with its depth
abbrev pub value_step : Piece-F Value → Value
value_step (Piece-F.Part c q) = found_value (at (view c) q)
value_step (Piece-F.List vs) = list_value (trees_of vs)
value_step (Piece-F.Fault c q d) = fault_value
    (with_depth d (document_of (found_value (at (view c) q))))

abbrev pub piece_value : Piece → Value
piece_value = fold-Piece Value value_step

abbrev pub piece_values : List Piece → List Value
piece_values = map piece_value

-- the number of items, of a list
abbrev pub list_length : Value → Option ℕ
list_length (leaf n a) = None
list_length (list n ts) = Some (count ts)
