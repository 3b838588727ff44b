-- What is told with an event, output by output and way by way.
use Rattle.std.specs.Prelude.{◌≡◌, ℕ, zero, suc, ◌+◌, ◌<◌, List, [], ◌∷◌, ◌++◌, flat_map, map, take, length, slice_get, unwrap_or, false, Some, refl}
use Rattle.std.proofs.Common.{arith, get_or, ap, sym, ◌∙◌, append_assoc, append-nil}
use Rattle.std.proofs.Math.Numerals.{suc-eq-add-one}
use Rattle.tv_lemmas.specs.Members.{Each}
use Rattle.tv_lemmas.proofs.Numbers.{none-below}
use Rattle.tv_value.specs.Nested.{Place, list, no_trees}
use Rattle.tv_value.specs.Values.{Name, holds_fault}
use Rattle.tv_cell.specs.PieceValues.{piece_value}
use Rattle.tv_cell.specs.declared.piece.Piece.{Piece}
use Rattle.tv_telling.specs.ValueTellings.{value_told}

got : {X Y : Type 0} (f : X → Y) (xs : List X) (i : ℕ) (d : X) → i < length xs → slice_get (map f xs) i ≡ Some (f (get_or xs i d))
got f [] i d h = none-below i h
got f (y ∷ xs) zero d h = refl
got f (y ∷ xs) (suc i) d h = got f xs i d (omega arith)

-- of what a job gave at an output
pub given-there : (p : Name) (k : ℕ) (q : Place) (ps : List Piece) (o : ℕ) (d : Piece) → o < length ps → value_told p k q (piece_value (get_or ps o d)) ≡ value_told p k q (unwrap_or (slice_get (map piece_value ps) o) (list tt no_trees))
given-there p k q ps o d h = ap (λ v. value_told p k q (unwrap_or v (list tt no_trees))) (sym (got piece_value ps o d h))

-- and that holds no fault where the event says so
pub none-given : (ps : List Piece) (o : ℕ) (d : Piece) → o < length ps → holds_fault (unwrap_or (slice_get (map piece_value ps) o) (list tt no_trees)) ≡ false → holds_fault (piece_value (get_or ps o d)) ≡ false
none-given ps o d h e = ap (λ v. holds_fault (unwrap_or v (list tt no_trees))) (sym (got piece_value ps o d h)) ∙ e

-- one more of a list
pub flat-step : {X T : Type 0} (f : X → List T) (xs : List X) (i : ℕ) (d : X) → i < length xs → flat_map f (take i xs) ++ f (get_or xs i d) ≡ flat_map f (take (i + 1) xs)
flat-step f xs i d h = by xs i h ∙ ap (λ n. flat_map f (take n xs)) (suc-eq-add-one i)
  where
    by : (ys : List _) (j : ℕ) → j < length ys → flat_map f (take j ys) ++ f (get_or ys j d) ≡ flat_map f (take (suc j) ys)
    by [] j h = none-below j h
    by (y ∷ ys) zero h = sym (append-nil (f y))
    by (y ∷ ys) (suc j) h = append_assoc (f y) (flat_map f (take j ys)) (f (get_or ys j d)) ∙ ap (λ t. f y ++ t) (by ys j (omega arith))

-- what is so of each is so of one of them
pub each-at : {A : Type 0} (P : A → Type 0) (xs : List A) (i : ℕ) (d : A) → Each P xs → i < length xs → P (get_or xs i d)
each-at P [] i d h l = none-below i l
each-at P (y ∷ xs) zero d h l = h.0
each-at P (y ∷ xs) (suc i) d h l = each-at P xs i d h.1 (omega arith)
