-- Each place of the trees of a region at which something is known has a node of its own there.
use Rattle.std.specs.List.{All}
use Rattle.std.specs.Prelude.{◌≡◌, ◌≢◌, refl, ℕ, zero, suc, ◌≤◌, true, eqb, List, [], ◌∷◌, ◌++◌, length, map, Option, Some, None, ◌⊎◌, slice_get}
use Rattle.std.specs.Set.{is_member}
use Rattle.std.proofs.Common.{inl, inr, sym, ap, ap₂, subst, ◌∙◌}
use Rattle.std.proofs.lemmas.Bool.{cases_eq}
use Rattle.std.proofs.lemmas.List.{append_cancel_left, length-map}
use Rattle.std.proofs.lemmas.Option.{none-some, same_Some}
use Rattle.tv_value.specs.Nested.{Place}
use Rattle.tv_value.specs.Values.{Value}
use Rattle.tv_parts.specs.Partials.{known_at, wanting}
use Rattle.tv_pool.specs.Pool.{Stored, lying_in, number_of, region_at, slot_of, stored_in}
use Rattle.tv_pool.specs.declared.handles.Region.{Region}
use Rattle.tv_stream.specs.declared.nodes.Entry.{Entry}
use Rattle.tv_stream.specs.nodes.Stands.{Spot}
use Rattle.tv_stream.specs.declared.held.Held.{Held}
use Rattle.tv_stream.specs.declared.partial.Partial.{Partial as Handle}
use Rattle.tv_stream.specs.Trees.{memory_of, tree_of}
use Rattle.tv_stream.proofs.Places.{known-wanting}
use Rattle.tv_stream.proofs.Mapped.{map-known}
use Rattle.tv_cell.specs.declared.piece.Piece.{Piece}
use Rattle.tv_outputs.specs.Kept.{AreKept}
use Rattle.tv_outputs.specs.Known.{Nodes, item_value, known_in, value_tree, tree_in}
use Rattle.tv_outputs.specs.Stated.{AreDifferent, KnowsAt, PlacesHaveNodes}
use Rattle.tv_outputs.proofs.Counting.{counted}
use Rattle.tv_outputs.proofs.Slots.{lies-among, slot_at, stands-there}

-- ---- the tree of a place

pub record IsKnownIn (pool : Nodes) (trees : List (Handle Piece)) (x : ℕ × Place) : Type 0 where
  pub tree : Handle Piece
  pub there : slice_get trees x.0 ≡ Some tree
  pub known : known_at x.1 (tree_of pool tree) ≢ wanting

-- where something is known, there is a tree, and it knows that
known-in : (pool : Nodes) (trees : List (Handle Piece)) (k : ℕ) (q : Place) → known_at q (tree_in (known_in pool trees) k) ≢ wanting → IsKnownIn pool trees (k, q)
known-in pool [] k q h = absurd (h (known-wanting Value q))
known-in pool (t ∷ ts) zero q h = record {
  tree = t;
  there = refl;
  known = λ e. h (map-known item_value q (tree_of pool t) ∙ ap value_tree e);
}
known-in pool (t ∷ ts) (suc k) q h =
    let r = known-in pool ts k q h in
    record { tree = r.tree; there = r.there; known = r.known }

-- ---- the slot of a place

abbrev root_slot : List (Handle Piece) → ℕ → ℕ
root_slot trees k = elim (slice_get trees k) [ None ↦ 0 | Some t ↦ slot_of t.root ]

abbrev place_slot : Nodes → List (Handle Piece) → ℕ × Place → ℕ
place_slot pool trees x = elim (slice_get trees x.0) [
  | None ↦ 0
  | Some t ↦ slot_at (memory_of pool t) (slot_of t.root) x.1
]

module _ (pool : Nodes) (region : Region) (trees : List (Handle Piece)) (kept : AreKept pool region trees) where
  -- the place's node lies there, and its tree has it at this place
  record Lies (x : ℕ × Place) : Type 0 where
    tree : Handle Piece
    there : slice_get trees x.0 ≡ Some tree
    root : Spot
    rooted : kept.slots x.0 (root_slot trees x.0) ≡ Some root
    spot : Spot
    known : kept.slots x.0 (place_slot pool trees x) ≡ Some spot
    place : spot.place ≡ root.place ++ x.1
    entry : Entry (Held Piece)
    lies : lying_in (stored_in (region_at pool (number_of region))) (place_slot pool trees x) ≡ Some entry

  lies-there : (x : ℕ × Place) → KnowsAt (known_in pool trees) x → Lies x
  lies-there x h =
      let i = known-in pool trees x.0 x.1 h in
      let k = kept.kept x.0 i.tree i.there in
      let st = k.stands in
      let w = stands-there (memory_of pool i.tree) (kept.slots x.0) st.nodes i.tree.depth (slot_of i.tree.root) st.spot x.1 st.known st.sound i.known in
      let e = st.nodes.entries (slot_at (memory_of pool i.tree) (slot_of i.tree.root) x.1) w.spot w.known in
      let slot_is : place_slot pool trees x ≡ slot_at (memory_of pool i.tree) (slot_of i.tree.root) x.1 =
      ap (λ (o : Option (Handle Piece)). elim o [ None ↦ 0 | Some t ↦ slot_at (memory_of pool t) (slot_of t.root) x.1 ]) i.there in
      record {
        tree = i.tree;
        there = i.there;
        root = st.spot;
        rooted = ap (λ (o : Option (Handle Piece)). kept.slots x.0 (elim o [ None ↦ 0 | Some t ↦ slot_of t.root ])) i.there ∙ st.known;
        spot = w.spot;
        known = ap (kept.slots x.0) slot_is ∙ w.known;
        place = w.place;
        entry = e.entry;
        lies =
            ap (λ s. lying_in (stored_in (region_at pool (number_of region))) s) slot_is
            ∙ ap (λ n. lying_in (stored_in (region_at pool n)) (slot_at (memory_of pool i.tree) (slot_of i.tree.root) x.1)) (sym k.within)
            ∙ e.lies;
      }

  -- of one tree no two places have one slot
  same-tree : (k : ℕ) (q r : Place) → Lies (k, q) → Lies (k, r) → place_slot pool trees (k, q) ≡ place_slot pool trees (k, r) → q ≡ r
  same-tree k q r a b e =
      let roots : a.root ≡ b.root = same_Some a.root b.root (sym a.rooted ∙ b.rooted) in
      let spots : a.spot ≡ b.spot = same_Some a.spot b.spot (sym a.known ∙ ap (kept.slots k) e ∙ b.known) in
      append_cancel_left a.root.place q r
      (sym a.place ∙ ap (λ (s : Spot). s.place) spots ∙ b.place ∙ ap (λ (s : Spot). s.place ++ r) (sym roots))

  -- nor have two of different trees
  other-tree : (x y : ℕ × Place) → Lies x → Lies y → x.0 ≢ y.0 → place_slot pool trees x ≡ place_slot pool trees y → ⊥
  other-tree x y a b differs e =
      none-some a.spot
      (sym (kept.apart x.0 y.0 a.tree b.tree differs a.there b.there (place_slot pool trees y) b.spot b.known)
      ∙ ap (kept.slots x.0) (sym e)
      ∙ a.known)

  own-slot : (x y : ℕ × Place) → Lies x → Lies y → place_slot pool trees x ≡ place_slot pool trees y → x ≡ y
  own-slot x y a b e = by (cases_eq x.0 y.0)
    where
      by : (x.0 ≡ y.0) ⊎ (x.0 ≢ y.0) → x ≡ y
      by (inl same) =
          let here = subst (λ n. Lies (n, x.1)) same a in
          let slots : place_slot pool trees (y.0, x.1) ≡ place_slot pool trees y = ap (λ n. place_slot pool trees (n, x.1)) (sym same) ∙ e in
          ap₂ (λ n q. (n, q)) same (same-tree y.0 x.1 y.1 here b slots)
      by (inr differs) = absurd (other-tree x y a b differs e)

  among : (x : ℕ × Place) → Lies x → is_member eqb (map (λ (s : Stored (Entry (Held Piece))). s.slot) (stored_in (region_at pool (number_of region)))) (place_slot pool trees x) ≡ true
  among x a = lies-among (stored_in (region_at pool (number_of region))) (place_slot pool trees x) a.entry a.lies

  -- THE COUNT
  places-few : (places : List (ℕ × Place)) → AreDifferent places → All (KnowsAt (known_in pool trees)) places → length places ≤ length (stored_in (region_at pool (number_of region)))
  places-few places apart known =
      let stored = stored_in (region_at pool (number_of region)) in
      subst (λ n. length places ≤ n) (length-map stored (λ (s : Stored (Entry (Held Piece))). s.slot))
      (counted Lies (place_slot pool trees) (map (λ (s : Stored (Entry (Held Piece))). s.slot) stored) own-slot among places (λ k d l. lies-there _ (known k d l)) apart)

pub places-have_nodes : PlacesHaveNodes
places-have_nodes pool outputs region stand places apart known = places-few pool region outputs.trees.items stand places apart known
