-- Counts of faults, one pushed after the other.
use Rattle.std.proofs.Common.{◌≡◌, ◌≢◌, ◌<◌, ◌+◌, ◌||◌, ℕ, zero, suc, List, [], ◌∷◌, ◌++◌, length, take, append_assoc, inl, inr, refl, sym, ap, ◌∙◌, subst, arith, le_refl}
use Rattle.std.specs.Prelude.{nat_lt, slice_index_or}
use Rattle.std.proofs.lemmas.Bool.{cases_eq}
use Rattle.std.proofs.lemmas.List.{length-map}
use Rattle.tv_value.specs.Nested.{Place}
use Rattle.tv_value.specs.Values.{Value, holds_fault}
use Rattle.tv_parts.specs.Changes.{arrive, CanArrive}
use Rattle.tv_parts.specs.Partials.{HoldsFaults, Partial, holds_some, known_at}
use Rattle.tv_parts.proofs.Changes.{arrive-there}
use Rattle.tv_cell.specs.declared.piece.Piece.{Piece}
use Rattle.tv_cell.specs.PieceValues.{piece_value, piece_values}
use Rattle.tv_outputs.specs.Known.{tree_in}
use Rattle.tv_outputs.specs.Changes.{AllCanArrive, AreMarked, Counted, no_value}
use Rattle.tv_outputs.proofs.Faults.{arrive-levels}
use Rattle.tv_outputs.proofs.Lists.{length-more}

get-before : (ns : List ℕ) (n k : ℕ) → k < length ns → slice_index_or (ns ++ n ∷ []) k 0 ≡ slice_index_or ns k 0
get-before [] n k h = absurd (none k h)
  where
    none : (k : ℕ) → k < 0 → ⊥
    none k h = omega arith
get-before (m ∷ ns) n zero h = refl
get-before (m ∷ ns) n (suc k) h = get-before ns n k (down k (length ns) h)
  where
    down : (k n : ℕ) → suc k < suc n → k < n
    down k n h = omega arith

get-last : (ns : List ℕ) (n : ℕ) → slice_index_or (ns ++ n ∷ []) (length ns) 0 ≡ n
get-last [] n = refl
get-last (m ∷ ns) n = get-last ns n

pub counted-more : (count : ℕ) (q : Place) (old mid new : List ℕ) (tree : ℕ → Partial Value) (n : ℕ) → Counted count q old mid tree → new ≡ mid ++ n ∷ [] → HoldsFaults q (tree count) n → Counted (count + 1) q old new tree
counted-more count q old mid new tree n c is holds = record {
  added = c.added ++ n ∷ [];
  all = is ∙ ap (λ ns. ns ++ n ∷ []) c.all ∙ append_assoc old c.added (n ∷ []);
  many = length-more c.added n ∙ ap (λ k. k + 1) c.many;
  each = λ k h. elim (cases_eq k count) [
    | inl same ↦ subst (λ j. HoldsFaults q (tree j) (slice_index_or (c.added ++ n ∷ []) j 0)) (sym same) (subst (λ j. HoldsFaults q (tree count) (slice_index_or (c.added ++ n ∷ []) j 0)) c.many (subst (HoldsFaults q (tree count)) (sym (get-last c.added n)) holds))
    | inr ne ↦ subst (HoldsFaults q (tree k)) (sym (get-before c.added n k (subst (λ m. k < m) (sym c.many) (below k count h ne)))) (c.each k (below k count h ne))
  ];
}
  where
    below : (k m : ℕ) → k < m + 1 → k ≢ m → k < m
    below k m h ne = omega arith

-- ---- what the counts say of the pieces that arrive

all-of : (q : Place) → take (length q) q ≡ q
all-of [] = refl
all-of (i ∷ q) = ap (λ r. i ∷ r) (all-of q)

-- the place itself holds a fault exactly where what arrived holds one
arrived-mark : (q : Place) (w : Value) (r : Partial Value) (n : ℕ) → CanArrive q r → HoldsFaults q (arrive q w r) n → nat_lt (length q) n ≡ holds_fault w
arrived-mark q w r n can h =
    h (length q) (le_refl (length q))
    ∙ arrive-levels holds_fault q w r can (length q) (le_refl (length q))
    ∙ ap (λ p. holds_some holds_fault (known_at p r) || holds_fault w) (all-of q)
    ∙ ap (λ p. holds_some holds_fault p || holds_fault w) (arrive-there q r can).1

pub counts-mark :
    (q : Place) (first : ℕ) (ps : List Piece) (ds : List ℕ) (trees : List (Partial Value)) (ns : List ℕ) → AllCanArrive first (length ps) q ds trees
    → Counted (length ps) q [] ns (λ k. arrive q (slice_index_or (piece_values ps) k no_value) (tree_in trees (first + k)))
    → AreMarked q (piece_values ps) ns
counts-mark q first ps ds trees ns can c =
    let many : length (piece_values ps) ≡ length ps = length-map ps piece_value in
    let added : length ns ≡ length ps = ap length c.all ∙ c.many in
    record {
      many = omega (arith, many, added);
      each = λ k h.
          let inside : k < length ps = subst (λ m. k < m) many h in
          arrived-mark q (slice_index_or (piece_values ps) k no_value) (tree_in trees (first + k)) (slice_index_or ns k 0) (can.can k inside)
          (subst (λ m. HoldsFaults q (arrive q (slice_index_or (piece_values ps) k no_value) (tree_in trees (first + k))) (slice_index_or m k 0)) (sym c.all) (c.each k inside));
    }
