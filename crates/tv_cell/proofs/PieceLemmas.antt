-- What a piece of each kind stands for, and when it is sound.
use Rattle.std.specs.Prelude.{◌≡◌, ℕ, zero, suc, ◌<◌, List, [], ◌∷◌, length, map, refl, ◌&&◌, ◌||◌, Some, is_some, nat_lt, slice_get, true}
use Rattle.std.specs.Option.{option_map_or}
use Rattle.std.specs.List.{list_all, list_any}
use Rattle.std.proofs.Common.{arith, ap, sym, ◌∙◌, get_or}
use Rattle.std.proofs.lemmas.List.{length-map}
use Rattle.std.proofs.lemmas.List.Folds.{list_all-map, list_any-append}
use Rattle.std.specs.Cmp.{first_so, second_so}
use Rattle.tv_value.specs.Nested.{Place, at, count, trees_of, leaves, all_leaves}
use Rattle.tv_value.specs.Readings.{length_limit}
use Rattle.tv_value.specs.Values as spec
use Rattle.tv_value.specs.Values.{is_fault, holds_fault, list_value, fault_value}
use Rattle.tv_value.specs.Views.{view, items_view, value_step, items_step}
use Rattle.tv_value.specs.declared.value.Items.{Items}
use Rattle.tv_value.specs.declared.value.Value.{Value}
use Rattle.tv_value.specs.declared.value.Value.TheViews as held
use Rattle.tv_value.specs.declared.value.Value.TheFolds.{fold-roll-Value}
use Rattle.tv_value.specs.declared.value.Value.TheOpen.{Value-F}
use Rattle.tv_cell.specs.declared.piece.Piece.{Piece}
use Rattle.tv_cell.specs.declared.piece.Piece.TheVariants as plain
use Rattle.tv_cell.specs.declared.piece.Piece.TheViews as code
use Rattle.tv_cell.specs.declared.piece.Piece.TheFolds.{fold-roll-Piece}
use Rattle.tv_cell.specs.declared.piece.Piece.TheOpen.{Piece-F}
use Rattle.tv_cell.specs.Found.{found_value, document_of, with_depth}
use Rattle.tv_cell.specs.PieceValues as meant
use Rattle.tv_cell.specs.PieceValues.{piece_value, piece_values, list_length}
use Rattle.tv_cell.specs.Soundness.{AreSound, IsSound, is_sound, is_yes, sound_step}

-- ---- values

pub part-value : (c : Value) (q : Place) → piece_value (plain.Part c q) ≡ found_value (at (view c) q)
part-value c q = ap piece_value (sym (plain.rolls-Part c q)) ∙ fold-roll-Piece _ meant.value_step (Piece-F.Part c q)

pub list-value : (ps : List Piece) → piece_value (code.List ps) ≡ list_value (trees_of (piece_values ps))
list-value ps = ap piece_value (sym (code.rolls-List ps)) ∙ fold-roll-Piece _ meant.value_step (Piece-F.List ps)

pub fault-value : (c : Value) (q : Place) (d : ℕ) → piece_value (plain.Fault c q d) ≡ fault_value (with_depth d (document_of (found_value (at (view c) q))))
fault-value c q d = ap piece_value (sym (plain.rolls-Fault c q d)) ∙ fold-roll-Piece _ meant.value_step (Piece-F.Fault c q d)

-- the view of a list of values
pub list-view : (vs : Items) → view (held.List vs) ≡ list_value (items_view vs)
list-view vs = ap view (sym (held.rolls-List vs)) ∙ fold-roll-Value _ _ value_step items_step (Value-F.List vs)

-- ---- soundness

pub part-sound : (c : Value) (q : Place) → is_sound (plain.Part c q) ≡ is_some (at (view c) q)
part-sound c q = ap is_sound (sym (plain.rolls-Part c q)) ∙ fold-roll-Piece _ sound_step (Piece-F.Part c q)

pub list-sound : (ps : List Piece) → is_sound (code.List ps) ≡ (nat_lt (length ps) length_limit && list_all is_sound ps)
list-sound ps =
    ap is_sound (sym (code.rolls-List ps)) ∙ fold-roll-Piece _ sound_step (Piece-F.List ps)
    ∙ (λ i. nat_lt (length-map ps is_sound i) length_limit && list_all-map is_yes is_sound ps i)

pub list-told : (p : Piece) (ps qs : List Piece) → p ≡ code.List ps → qs ≡ ps → (nat_lt (length qs) length_limit && list_all is_sound qs) ≡ is_sound p
list-told p ps qs e f = ap (λ xs. nat_lt (length xs) length_limit && list_all is_sound xs) f ∙ sym (ap is_sound e ∙ list-sound ps)

-- the pieces of a sound list are sound
pub pieces-sound : (p : Piece) (ps qs : List Piece) → p ≡ code.List ps → qs ≡ ps → IsSound p → AreSound qs
pieces-sound p ps qs e f h =
    ap (list_all is_sound) f
    ∙ second_so (nat_lt (length ps) length_limit) (list_all is_sound ps) (sym (list-sound ps) ∙ ap is_sound (sym e) ∙ h)

each-sound : (ps : List Piece) (i : ℕ) (d : Piece) → i < length ps → AreSound ps → IsSound (get_or ps i d)
each-sound [] i d h k = absurd (omega arith)
each-sound (p ∷ ps) zero d h k = first_so (is_sound p) (list_all is_sound ps) k
each-sound (p ∷ ps) (suc i) d h k = each-sound ps i d (omega arith) (second_so (is_sound p) (list_all is_sound ps) k)

pub piece-sound : (ps : List Piece) (i : ℕ) (x : Piece) → i < length ps → x ≡ get_or ps i x → AreSound ps → IsSound x
piece-sound ps i x h e k = ap is_sound e ∙ each-sound ps i x h k

got-all : (ps : List Piece) (i : ℕ) → AreSound ps → option_map_or is_sound (slice_get ps i) true ≡ true
got-all [] i k = refl
got-all (p ∷ ps) zero k = first_so (is_sound p) (list_all is_sound ps) k
got-all (p ∷ ps) (suc i) k = got-all ps i (second_so (is_sound p) (list_all is_sound ps) k)

pub got-sound : (ps : List Piece) (i : ℕ) (x : Piece) → AreSound ps → Some x ≡ slice_get ps i → IsSound x
got-sound ps i x k e = ap (λ o. option_map_or is_sound o true) e ∙ got-all ps i k

-- ---- lists, one by one

pub count-each : {X : Type 0} (f : X → spec.Value) (xs : List X) → count (trees_of (map f xs)) ≡ length xs
count-each f [] = refl
count-each f (x ∷ xs) = ap suc (count-each f xs)

holds-each : (ps : List Piece) → list_any is_fault (all_leaves (trees_of (piece_values ps))) ≡ list_any (λ p. holds_fault (piece_value p)) ps
holds-each [] = refl
holds-each (p ∷ ps) =
    list_any-append is_fault (leaves (piece_value p)) (all_leaves (trees_of (piece_values ps)))
    ∙ ap (λ b. holds_fault (piece_value p) || b) (holds-each ps)

pub list-holds : (p : Piece) (ps qs : List Piece) → p ≡ code.List ps → qs ≡ ps → list_any (λ x. holds_fault (piece_value x)) qs ≡ holds_fault (piece_value p)
list-holds p ps qs e f =
    ap (list_any (λ x. holds_fault (piece_value x))) f ∙ sym (ap holds_fault (ap piece_value e ∙ list-value ps) ∙ holds-each ps)

pub list-counts : (p : Piece) (ps qs : List Piece) → p ≡ code.List ps → qs ≡ ps → Some (length qs) ≡ list_length (piece_value p)
list-counts p ps qs e f =
    ap (λ xs. Some (length xs)) f ∙ ap Some (sym (count-each piece_value ps)) ∙ sym (ap list_length (ap piece_value e ∙ list-value ps))

pub items-count : (v : Value) (vs : Items) (us : List Value) → v ≡ held.List vs → trees_of (map view us) ≡ items_view vs → Some (length us) ≡ list_length (view v)
items-count v vs us e f =
    ap Some (sym (count-each view us)) ∙ ap (λ ts. Some (count ts)) f ∙ sym (ap list_length (ap view e ∙ list-view vs))
