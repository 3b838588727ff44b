-- Comparing pieces: what a comparison of their lists tells of them.
use Rattle.std.specs.Prelude.{◌≡◌, List, map}
use Rattle.std.proofs.Common.{ap, sym, ◌∙◌}
use Rattle.tv_value.specs.Nested.{at, trees_of, Place}
use Rattle.tv_value.specs.Values as spec
use Rattle.tv_value.specs.Values.{list_value}
use Rattle.tv_value.specs.Views.{view, items_view}
use Rattle.tv_value.specs.declared.value.Items.{Items}
use Rattle.tv_value.specs.declared.value.Value.{Value}
use Rattle.tv_value.specs.declared.value.Value.TheViews as held
use Rattle.tv_cell.specs.declared.piece.Piece.{Piece}
use Rattle.tv_cell.specs.declared.piece.Piece.TheVariants as plain
use Rattle.tv_cell.specs.declared.piece.Piece.TheViews as code
use Rattle.tv_cell.specs.Found.{found_value}
use Rattle.tv_cell.specs.PieceValues.{piece_value, piece_values}
use Rattle.tv_value.specs.Sameness.{same_value, same_values}
use Rattle.tv_cell.proofs.PieceLemmas.{list-value, list-view, part-value}
use Rattle.tv_value.proofs.Sameness.{same_trees-each, same_value-turned}

pub list-stands : (p : Piece) (ps qs : List Piece) (v : Value) (vs : Items) (us : List Value) → p ≡ code.List ps → qs ≡ ps → v ≡ held.List vs → trees_of (map view us) ≡ items_view vs → same_values (piece_values qs) (map view us) ≡ same_value (piece_value p) (view v)
list-stands p ps qs v vs us e f g h =
    sym (same_trees-each (piece_values qs) (map view us))
    ∙ (λ i. same_value (list_value (trees_of (piece_values (f i)))) (list_value (h i)))
    ∙ (λ i. same_value (sym (ap piece_value e ∙ list-value ps) i) (sym (ap view g ∙ list-view vs) i))

pub lists-same : (p : Piece) (ps qs : List Piece) (o : Piece) (rs ss : List Piece) → p ≡ code.List ps → qs ≡ ps → o ≡ code.List rs → ss ≡ rs → same_values (piece_values qs) (piece_values ss) ≡ same_value (piece_value p) (piece_value o)
lists-same p ps qs o rs ss e f g h =
    sym (same_trees-each (piece_values qs) (piece_values ss))
    ∙ (λ i. same_value (list_value (trees_of (piece_values (f i)))) (list_value (trees_of (piece_values (h i)))))
    ∙ (λ i. same_value (sym (ap piece_value e ∙ list-value ps) i) (sym (ap piece_value g ∙ list-value rs) i))

-- a part against another piece, which was asked whether it stands for the part's value
pub part-stands : (p : Piece) (c : Value) (q : Place) (o : Piece) (v : spec.Value) → p ≡ plain.Part c q → v ≡ found_value (at (view c) q) → same_value (piece_value o) v ≡ same_value (piece_value p) (piece_value o)
part-stands p c q o v e f =
    same_value-turned (piece_value o) v ∙ ap (λ w. same_value w (piece_value o)) (f ∙ sym (ap piece_value e ∙ part-value c q))
