-- What is known at a node of a tree of pieces, as the calls tell it.
use Rattle.std.proofs.Common.{map, ◌≡◌, ◌≤◌, ◌<◌, ℕ, zero, suc, ◌+◌, Bool, true, false, ◌&&◌, if◌then◌else◌, List, [], ◌∷◌, ◌++◌, length, ◌-◌, ◌^◌, append_assoc, length-append, is_some, Some, None, refl, sym, ap, ◌∙◌, subst, true≢false, arith}
use Rattle.std.specs.List.{list_all, slice_range}
use Rattle.std.proofs.lemmas.Bool.{lt-ltb}
use Rattle.std.proofs.lemmas.List.Folds.{list_all-append}
use Rattle.std.proofs.lemmas.Option.{same_Some}
use Rattle.std.proofs.lemmas.List.{length-map}
use Rattle.tv_value.specs.Nested.{Place, at, trees_of}
use Rattle.tv_value.specs.Values.{Value, list_value}
use Rattle.tv_value.specs.Readings.{length_limit}
use Rattle.tv_parts.specs.Partials.{Partial, wanting, item, growing, closed, part_count, part_at, known_at, whole, map_parts}
use Rattle.tv_parts.specs.Below.{value_in}
use Rattle.tv_parts.specs.Changes.{arrive, close_here, is_place, MayClose}
use Rattle.tv_stream.specs.declared.held.PartKind.{PartKind}
use Rattle.tv_stream.specs.declared.held.PartKind.TheVariants.{Wanting, Growing, Closed, Item}
use Rattle.tv_stream.specs.Trees.{Marked}
use Rattle.tv_stream.specs.Answers.{kind_of, item_of}
use Rattle.tv_stream.proofs.Mapped.{map-count, map-part_at}
use Rattle.tv_cell.specs.declared.piece.Piece.{Piece}
use Rattle.tv_value.specs.Views.{view}
use Rattle.tv_value.specs.declared.value.Value as held
use Rattle.tv_cell.specs.declared.piece.Piece.TheViews as code
use Rattle.tv_cell.specs.PieceValues.{piece_value, piece_values}
use Rattle.tv_cell.specs.Soundness.{IsSound, AreSound, is_sound}
use Rattle.tv_cell.proofs.PieceLemmas.{list-sound}
use Rattle.tv_outputs.specs.Known.{item_value, value_tree}
use Rattle.tv_outputs.specs.Kept.{IsNoted, EachItem}
use Rattle.tv_outputs.specs.FoundIn.{found_in}
use Rattle.tv_outputs.specs.PartValues.{list_values}
use Rattle.tv_outputs.proofs.Lists.{map-more, length-more}
use Rattle.tv_outputs.proofs.Building.{Around, Closes, around, value-there, range-none, range-more, range-few, ended}

-- ---- an item

pub item-found : (r : Partial (Marked Piece)) (p : Piece) (i : ℕ) (q : Place) → item_of r ≡ Some p → found_in (i ∷ q) (value_tree r) ≡ at (piece_value p) (i ∷ q)
item-found wanting p i q h = absurd (cc)
item-found (item x) p i q h = ap (λ v. at (piece_value v) (i ∷ q)) (same_Some x.value p h)
item-found (growing ps) p i q h = absurd (cc)
item-found (closed ps) p i q h = absurd (cc)

pub item-sound : (r : Partial (Marked Piece)) (p : Piece) → item_of r ≡ Some p → EachItem IsNoted r → IsSound p
item-sound wanting p h n = absurd (cc)
item-sound (item x) p h n = subst IsSound (same_Some x.value p h) n.sound
item-sound (growing ps) p h n = absurd (cc)
item-sound (closed ps) p h n = absurd (cc)

pub item-is : (r : Partial (Marked Piece)) (p : Piece) → item_of r ≡ Some p → piece_value p ≡ value_in (value_tree r)
item-is wanting p h = absurd (cc)
item-is (item x) p h = ap piece_value (sym (same_Some x.value p h))
item-is (growing ps) p h = absurd (cc)
item-is (closed ps) p h = absurd (cc)

-- where no item stands, what is found inside is found in the part
pub open-found : (r : Partial (Marked Piece)) (i : ℕ) (q : Place) → item_of r ≡ None → found_in (i ∷ q) (value_tree r) ≡ found_in q (part_at (value_tree r) i)
open-found wanting i [] h = refl
open-found wanting i (j ∷ q) h = refl
open-found (item x) i q h = absurd (cc)
open-found (growing ps) i q h = refl
open-found (closed ps) i q h = refl

-- ---- a list

kind_count : PartKind → ℕ
kind_count Wanting = 0
kind_count Growing = 0
kind_count (Closed n) = n
kind_count Item = 0

same-count : (n m : ℕ) → Closed n ≡ Closed m → n ≡ m
unfolding kind_count
same-count n m h = ap kind_count h

pub kind-closes : (r : Partial (Marked Piece)) (n : ℕ) → kind_of r ≡ Closed n → Closes (value_tree r) n
kind-closes wanting n h = absurd (cc)
kind-closes (item x) n h = absurd (cc)
kind-closes (growing ps) n h = absurd (cc)
kind-closes (closed ps) n h = record { parts = map_parts item_value ps; is = refl; count = map-count item_value ps ∙ same-count (part_count ps) n h }

-- a whole tree is an item or a closed list
pub whole-kinds : (r : Partial (Marked Piece)) → whole (value_tree r) ≡ true → item_of r ≡ None → ((n : ℕ) → kind_of r ≡ Closed n → ⊥) → ⊥
whole-kinds wanting h i k = true≢false (sym h)
whole-kinds (item x) h i k = cc
whole-kinds (growing ps) h i k = true≢false (sym h)
whole-kinds (closed ps) h i k = k (part_count ps) refl

pub list-is-sound : (ps : List Piece) → length ps < length_limit → AreSound ps → IsSound (code.List ps)
list-is-sound ps few all = list-sound ps ∙ ap (λ b. b && list_all is_sound ps) (lt-ltb (length ps) length_limit few) ∙ all

pub more-sound : (ps : List Piece) (p : Piece) → AreSound ps → IsSound p → AreSound (ps ++ p ∷ [])
more-sound ps p h k = list_all-append is_sound ps (p ∷ []) ∙ ap (λ b. b && list_all is_sound (p ∷ [])) h ∙ ap (λ b. b && true) k

-- ---- at a place from a node

-- nothing is found where nothing is known
pub nothing-found : (q : Place) → is_some (found_in q wanting) ≡ true → ⊥
nothing-found [] h = true≢false (sym h)
nothing-found (i ∷ q) h = true≢false (sym h)

-- what is found at a node is whole
pub here-whole : (r : Partial Value) (q : Place) → [] ≡ q → is_some (found_in q r) ≡ true → whole r ≡ true
here-whole r [] e h = by (whole r) h
  where
    by : (b : Bool) → is_some (if b then Some (value_in r) else None) ≡ true → b ≡ true
    by true h = refl
    by false h = h
here-whole r (i ∷ q) e h = absurd (cc)

pub here-found : (r : Partial Value) (q : Place) (v : Value) → [] ≡ q → whole r ≡ true → v ≡ value_in r → found_in q r ≡ Some v
here-found r q v e h is = ap (λ x. found_in x r) (sym e) ∙ ap (λ b. if b then Some (value_in r) else None) h ∙ ap Some (sym is)

module _ (r : Partial (Marked Piece)) (q : Place) (i : ℕ) (o : Place) (e : q ≡ i ∷ o) where
  pub part-found : (p : Piece) → item_of r ≡ Some p → found_in q (value_tree r) ≡ at (piece_value p) q
  part-found p h = ap (λ x. found_in x (value_tree r)) e ∙ item-found r p i o h ∙ ap (at (piece_value p)) (sym e)

  pub inside-found : item_of r ≡ None → found_in q (value_tree r) ≡ found_in o (value_tree (part_at r i))
  inside-found none = ap (λ x. found_in x (value_tree r)) e ∙ open-found r i o none ∙ ap (found_in o) (map-part_at item_value r i)

  pub known-part : known_at q (value_tree r) ≡ known_at o (value_tree (part_at r i))
  known-part = ap (λ x. known_at x (value_tree r)) e ∙ ap (known_at o) (map-part_at item_value r i)

pub known-none : (q : Place) (k : Partial Value) → k ≡ wanting → known_at q k ≡ wanting
known-none [] k e = e
known-none (i ∷ q) k e = known-none q (part_at k i) (ap (λ t. part_at t i) e)

-- where nothing is known all parts of a list are whole only if it has none
pub no-values : (k : Partial Value) (n : ℕ) → k ≡ wanting → ((i : ℕ) → i < n → whole (part_at k i) ≡ true) → slice_range (list_values k) 0 n ≡ []
no-values k zero e all = range-none (list_values k) 0
no-values k (suc n) e all = absurd (true≢false (sym (all 0 (positive n)) ∙ ap (λ t. whole (part_at t 0)) e))
  where
    positive : (n : ℕ) → 0 < suc n
    positive n = omega arith

-- and a piece that arrives makes it whole only if it arrives right there
pub none-arrives : (q : Place) (v : Value) → whole (arrive q v wanting) ≡ true → v ≡ value_in (arrive q v wanting)
none-arrives [] v h = refl
none-arrives (i ∷ q) v h = absurd (true≢false (sym h))

-- where a change makes a list whole, it is closed
pub whole-closes : (r : Partial (Marked Piece)) (i : ℕ) (q : Place) (v : Value) → is_place (i ∷ q) (value_tree r) ≡ true → whole (arrive (i ∷ q) v (value_tree r)) ≡ true → ((n : ℕ) → kind_of r ≡ Closed n → ⊥) → ⊥
whole-closes wanting i q v p h k = true≢false (sym h)
whole-closes (item x) i q v p h k = true≢false (sym p)
whole-closes (growing ps) i q v p h k = true≢false (sym h)
whole-closes (closed ps) i q v p h k = k (part_count ps) refl

-- what arrives at a place arrives at the rest of it in the part, and then that part in the list
pub around-at : (k : Partial Value) (q : Place) (i : ℕ) (o : Place) (v : Value) → q ≡ i ∷ o → is_place q k ≡ true → whole (arrive q v k) ≡ true → Around i o v k
around-at k q i o v e p h = around i o v k (subst (λ x. is_place x k ≡ true) e p) (subst (λ x. whole (arrive x v k) ≡ true) e h)

-- ---- lists of pieces

pub pushed : (r : Partial Value) (first i : ℕ) (old : List Value) (items more : List Piece) (x : Piece) → first ≤ i → whole (part_at r i) ≡ true → piece_value x ≡ value_in (part_at r i) → piece_values items ≡ old ++ slice_range (list_values r) first i → more ≡ items ++ x ∷ [] → piece_values more ≡ old ++ slice_range (list_values r) first (i + 1)
pushed r first i old items more x lo w e h m =
    ap piece_values m ∙ map-more piece_value items x ∙ ap (λ us. us ++ piece_value x ∷ []) h
    ∙ append_assoc old (slice_range (list_values r) first i) (piece_value x ∷ [])
    ∙ ap (λ us. old ++ us) (sym (range-more (list_values r) first i (piece_value x) lo (value-there r i w ∙ ap Some (sym e))))

pub values-pushed : (r : Partial Value) (i : ℕ) (old : List Value) (items more : List held.Value) (x : held.Value) → whole (part_at r i) ≡ true → view x ≡ value_in (part_at r i) → map view items ≡ old ++ slice_range (list_values r) 0 i → more ≡ items ++ x ∷ [] → map view more ≡ old ++ slice_range (list_values r) 0 (i + 1)
values-pushed r i old items more x w e h m =
    ap (map view) m ∙ map-more view items x ∙ ap (λ us. us ++ view x ∷ []) h
    ∙ append_assoc old (slice_range (list_values r) 0 i) (view x ∷ [])
    ∙ ap (λ us. old ++ us) (sym (range-more (list_values r) 0 i (view x) (omega arith) (value-there r i w ∙ ap Some (sym e))))

pub pushed-all : (row new begun : List Piece) (vs : List Value) → row ≡ new → begun ≡ [] → piece_values new ≡ piece_values begun ++ vs → piece_values row ≡ vs
pushed-all row new begun vs e none h = ap piece_values e ∙ h ∙ ap (λ ps. piece_values ps ++ vs) none

pub pushed-with : (a b : List Value) (x : Piece) (row p3 p2 p1 p0 : List Piece) → row ≡ p3 → piece_values p3 ≡ piece_values p2 ++ b → p2 ≡ p1 ++ x ∷ [] → piece_values p1 ≡ piece_values p0 ++ a → p0 ≡ [] → piece_values row ≡ (a ++ piece_value x ∷ []) ++ b
pushed-with a b x row p3 p2 p1 p0 e3 h3 e2 h1 e0 =
    ap piece_values e3 ∙ h3
    ∙ ap (λ us. us ++ b) (ap piece_values e2 ∙ map-more piece_value p1 x ∙ ap (λ us. us ++ piece_value x ∷ []) (h1 ∙ ap (λ ps. piece_values ps ++ a) e0))

few : (m : ℕ) (ps : List Piece) (vs : List Value) (n : ℕ) → piece_values ps ≡ vs → length vs ≤ n → n < m → length ps < m
few m ps vs n e h lt = subst (λ k. k < m) (sym (ap length e) ∙ length-map ps piece_value) (below (length vs) n m h lt)
  where
    below : (a b c : ℕ) → a ≤ b → b < c → a < c
    below a b c h k = omega arith

-- a list of pieces, one for each part
pub pieces-sound : (ps : List Piece) (xs : List Value) (n : ℕ) → piece_values ps ≡ slice_range xs 0 n → n < 2 ^ 32 → AreSound ps → IsSound (code.List ps)
pieces-sound ps xs n e lt all = list-is-sound ps (few length_limit ps (slice_range xs 0 n) n e (subst (λ m. length (slice_range xs 0 n) ≤ m) (whole-range n) (range-few xs 0 n)) lt) all
  where
    whole-range : (n : ℕ) → n - 0 ≡ n
    whole-range n = omega arith

-- and with one of another kind
pub pieces-with-sound : (ps : List Piece) (xs : List Value) (i n : ℕ) (v : Value) → piece_values ps ≡ (slice_range xs 0 i ++ v ∷ []) ++ slice_range xs (i + 1) n → i < n → n < 2 ^ 32 → AreSound ps → IsSound (code.List ps)
pieces-with-sound ps xs i n v e lt fits all =
    let a = slice_range xs 0 i in
    let b = slice_range xs (i + 1) n in
    list-is-sound ps (few length_limit ps ((a ++ v ∷ []) ++ b) n e (subst (λ m. m ≤ n) (sym (length-append (a ++ v ∷ []) b ∙ ap (λ m. m + length b) (length-more a v))) (sum (length a) (length b) i n lt (range-few xs 0 i) (range-few xs (i + 1) n))) fits) all
  where
    sum : (a b i n : ℕ) → i < n → a ≤ i - 0 → b ≤ n - (i + 1) → (a + 1) + b ≤ n
    sum a b i n lt h k = omega arith

-- ---- from the top

-- a piece that arrives at a place
pub record FromTop (q rest : Place) (r k : Partial Value) (v w : Value) : Type 0 where
  pub there : is_place rest k ≡ true
  pub whole_then : whole (arrive rest w k) ≡ true
  pub is : value_in (arrive rest w k) ≡ value_in (arrive q v r)

pub from-top : (q rest : Place) (r k : Partial Value) (v w : Value) → rest ≡ q → r ≡ k → w ≡ v → is_place q r ≡ true → whole (arrive q v r) ≡ true → FromTop q rest r k v w
from-top q rest r k v w f same g p h =
    let all : arrive rest w k ≡ arrive q v r = ap (λ x. arrive x w k) f ∙ ap (arrive q w) (sym same) ∙ ap (λ x. arrive q x r) g in
    record {
      there = ap (λ x. is_place x k) f ∙ ap (is_place q) (sym same) ∙ p;
      whole_then = ap whole all ∙ h;
      is = ap value_in all;
    }

-- the list of the parts is what the closed list is
pub list-then : (n : ℕ) (q rest : Place) (r k : Partial Value) (w : Value) → rest ≡ q → r ≡ k → MayClose n (known_at q r) → whole (close_here n (known_at q r)) ≡ true → w ≡ list_value (trees_of (slice_range (list_values (known_at rest k)) 0 n)) → w ≡ value_in (close_here n (known_at q r))
list-then n q rest r k w f same may h e =
    e
    ∙ ap (λ x. list_value (trees_of (slice_range (list_values (known_at x k)) 0 n))) f
    ∙ ap (λ u. list_value (trees_of (slice_range (list_values (known_at q u)) 0 n))) (sym same)
    ∙ sym (ended n (known_at q r) may h).value
