-- When a piece points at something throughout.
use Rattle.std.specs.Prelude.{List, Bool, ◌&&◌, IsTrue, is_some, length, nat_lt}
use Rattle.std.specs.List.{list_all}
use Rattle.tv_value.specs.Nested.{at}
use Rattle.tv_value.specs.Readings.{length_limit}
use Rattle.tv_value.specs.Views.{view}
use Rattle.tv_cell.specs.declared.piece.Piece.{Piece, fold-Piece}
use Rattle.tv_cell.specs.declared.piece.Piece.TheOpen.{Piece-F}
use Rattle.tv_cell.specs.Found.{is_document}

abbrev pub is_yes : Bool → Bool
is_yes b = b

-- something stands at the place of a part, an error document at that of a fault, and a list has fewer than 2^32 pieces
abbrev pub sound_step : Piece-F Bool → Bool
sound_step (Piece-F.Part c q) = is_some (at (view c) q)
sound_step (Piece-F.List bs) = nat_lt (length bs) length_limit && list_all is_yes bs
sound_step (Piece-F.Fault c q d) = is_document (at (view c) q)

abbrev pub is_sound : Piece → Bool
is_sound = fold-Piece Bool sound_step

abbrev pub IsSound : Piece → Type 0
IsSound p = IsTrue (is_sound p)

abbrev pub AreSound : List Piece → Type 0
AreSound ps = IsTrue (list_all is_sound ps)
