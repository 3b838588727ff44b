-- What a change of one tree makes of all of them, and what a new one does.
use Rattle.std.proofs.Common.{◌≡◌, ◌≢◌, ℕ, zero, suc, ◌+◌, ◌<◌, ◌≤◌, List, [], ◌∷◌, ◌++◌, length, Option, Some, None, inl, inr, refl, sym, ap, ◌∙◌, subst, arith}
use Rattle.std.specs.Prelude.{slice_get, ◌==◌, if◌then◌else◌}
use Rattle.std.proofs.lemmas.Bool.{cases_eq, eq-eqb, ne_eqb}
use Rattle.std.proofs.lemmas.Option.{same_Some}
use Rattle.std.proofs.lemmas.List.{length-map}
use Rattle.tv_value.specs.Values.{Value}
use Rattle.tv_parts.specs.Partials.{Partial, wanting}
use Rattle.tv_pool.specs.Pool.{item_in, region_of, slot_of, number_of}
use Rattle.tv_pool.specs.declared.handles.Region.{Region}
use Rattle.tv_stream.specs.nodes.Calls.{count_in}
use Rattle.tv_stream.specs.nodes.Stands.{Spot}
use Rattle.tv_stream.specs.declared.partial.Partial.{Partial as Handle}
use Rattle.tv_stream.specs.Trees.{tree_at, tree_of}
use Rattle.tv_stream.specs.Stands.{Grows, Starts, Apart, Stays}
use Rattle.tv_stream.specs.NodeCounts.{tree_nodes}
use Rattle.tv_stream.proofs.NodeCounts.{nodes-mapped}
use Rattle.tv_stream.proofs.Others.{stays-grown, stays-started}
use Rattle.tv_cell.specs.declared.piece.Piece.{Piece}
use Rattle.tv_outputs.specs.Known.{Nodes, all_nodes, item_value, value_tree, known_of, known_in}
use Rattle.tv_outputs.specs.Kept.{IsNoted, EachItem, IsKept, AreKept, AreKeptBeside}
use Rattle.tv_outputs.specs.Changes.{Turns}
use Rattle.tv_outputs.proofs.Lists.{tree-at, same-in, all-same, map-more, get-cases}

abbrev with_slots : (ℕ → ℕ → Option Spot) → ℕ → (ℕ → Option Spot) → ℕ → ℕ → Option Spot
with_slots slots k new j = if j == k then new else slots j

slots-here : (slots : ℕ → ℕ → Option Spot) (k : ℕ) (new : ℕ → Option Spot) (j : ℕ) → j ≡ k → with_slots slots k new j ≡ new
slots-here slots k new j e = ap (λ b. if b then new else slots j) (eq-eqb j k e)

slots-other : (slots : ℕ → ℕ → Option Spot) (k : ℕ) (new : ℕ → Option Spot) (j : ℕ) → j ≢ k → with_slots slots k new j ≡ slots j
slots-other slots k new j ne = ap (λ b. if b then new else slots j) (ne_eqb j k ne)

apart-turned : (one other : ℕ → Option Spot) → Apart one other → Apart other one
apart-turned one other h s x known = by (other s) refl
  where
    clash : (o : Option Spot) → o ≡ Some x → o ≡ None → ⊥
    clash None e f = absurd (cc)
    clash (Some y) e f = absurd (cc)

    by : (o : Option Spot) → other s ≡ o → o ≡ None
    by None e = refl
    by (Some y) e = absurd (clash (one s) known (h s y e))

-- ---- how many nodes they have

-- all trees but one have as many as they had
nodes-grown : (old new : Nodes) (trees : List (Handle Piece)) (k : ℕ) (tree : Handle Piece) → slice_get trees k ≡ Some tree → ((j : ℕ) (u : Handle Piece) → j ≢ k → slice_get trees j ≡ Some u → tree_of new u ≡ tree_of old u) → all_nodes (known_in new trees) + tree_nodes (known_of old tree) ≡ all_nodes (known_in old trees) + tree_nodes (known_of new tree)
nodes-grown old new [] k tree e same = absurd (none e)
  where
    none : None ≡ Some tree → ⊥
    none h = cc
nodes-grown old new (t ∷ ts) zero tree e same =
    subst (λ u. (tree_nodes (known_of new t) + all_nodes (known_in new ts)) + tree_nodes (known_of old u) ≡ (tree_nodes (known_of old t) + all_nodes (known_in old ts)) + tree_nodes (known_of new u)) (same_Some t tree e)
    (turn (tree_nodes (known_of new t)) (tree_nodes (known_of old t)) (all_nodes (known_in new ts)) (all_nodes (known_in old ts)) (ap all_nodes (all-same old new ts (λ j u there. ap value_tree (same (suc j) u (above j) there)))))
  where
    above : (j : ℕ) → suc j ≢ 0
    above j h = omega arith

    turn : (a b c d : ℕ) → c ≡ d → (a + c) + b ≡ (b + d) + a
    turn a b c d h = omega arith
nodes-grown old new (t ∷ ts) (suc k) tree e same =
    behind (tree_nodes (known_of new t)) (tree_nodes (known_of old t)) (all_nodes (known_in new ts)) (all_nodes (known_in old ts)) (tree_nodes (known_of old tree)) (tree_nodes (known_of new tree))
    (ap (λ r. tree_nodes (value_tree r)) (same 0 t (below k) refl))
    (nodes-grown old new ts k tree e (λ j u ne there. same (suc j) u (λ is. ne (down j k is)) there))
  where
    below : (k : ℕ) → 0 ≢ suc k
    below k h = omega arith

    down : (j k : ℕ) → suc j ≡ suc k → j ≡ k
    down j k h = omega arith

    behind : (a b c d e f : ℕ) → a ≡ b → c + e ≡ d + f → (a + c) + e ≡ (b + d) + f
    behind a b c d e f h k = omega arith

nodes-last : (trees : List (Partial Value)) → all_nodes (trees ++ wanting ∷ []) ≡ all_nodes trees + 1
nodes-last [] = refl
nodes-last (t ∷ ts) = behind (tree_nodes t) (all_nodes (ts ++ wanting ∷ [])) (all_nodes ts) (nodes-last ts)
  where
    behind : (a b c : ℕ) → b ≡ c + 1 → a + b ≡ (a + c) + 1
    behind a b c h = omega arith

-- ---- one changes

module _ (beside : ℕ) (old new : Nodes) (region : Region) (trees : List (Handle Piece)) (a : AreKeptBeside beside old region trees) where
  -- one tree grew
  module _ (k : ℕ) (tree : Handle Piece) (there : slice_get trees k ≡ Some tree) (g : Grows old new tree (a.slots k)) where
    stay : (j : ℕ) (u : Handle Piece) → j ≢ k → slice_get trees j ≡ Some u → Stays old new u (a.slots j) × Apart g.more (a.slots j)
    stay j u ne e = stays-grown old new tree u (a.slots k) (a.slots j) ((a.kept k tree there).within ∙ sym (a.kept j u e).within) (a.apart k j tree u (λ s. ne (sym s)) there e) (a.kept j u e).stands g

    pub others-stay : (j : ℕ) (u : Handle Piece) → j ≢ k → slice_get trees j ≡ Some u → tree_of new u ≡ tree_of old u
    others-stay j u ne e = (stay j u ne e).0.tree

    abbrev slots' : ℕ → ℕ → Option Spot
    slots' = with_slots a.slots k g.more

    few-grown : (more : ℕ) → count_in new (number_of region) ≤ count_in old (number_of region) + more → tree_nodes (tree_of new tree) ≡ tree_nodes (tree_of old tree) + more → count_in new (number_of region) ≤ beside + all_nodes (known_in new trees)
    few-grown more fits is =
        by (count_in old (number_of region)) (all_nodes (known_in old trees)) (all_nodes (known_in new trees)) (tree_nodes (known_of old tree)) (tree_nodes (known_of new tree))
        fits (nodes-mapped item_value (tree_of new tree) ∙ is ∙ ap (λ n. n + more) (sym (nodes-mapped item_value (tree_of old tree))))
        a.few (nodes-grown old new trees k tree there others-stay)
      where
        by : (c n m t u : ℕ) → count_in new (number_of region) ≤ c + more → u ≡ t + more → c ≤ beside + n → m + t ≡ n + u → count_in new (number_of region) ≤ beside + m
        by c n m t u h e l s = omega arith

    pub kept-grown : (more : ℕ) → count_in new (number_of region) ≤ count_in old (number_of region) + more → tree_nodes (tree_of new tree) ≡ tree_nodes (tree_of old tree) + more → EachItem IsNoted (tree_of new tree) → AreKeptBeside beside new region trees
    kept-grown more fits is items = record {
      few = few-grown more fits is;
      slots = slots';
      kept = λ j u e. elim (cases_eq j k) [
        | inl same ↦ subst (IsKept new region u) (sym (slots-here a.slots k g.more j same)) (subst (λ t. IsKept new region t g.more) (same_Some _ _ (sym there ∙ ap (slice_get trees) (sym same) ∙ e)) (record { stands = g.stands; within = (a.kept k tree there).within; items = items }))
        | inr ne ↦ let s = stay j u ne e in subst (IsKept new region u) (sym (slots-other a.slots k g.more j ne)) (record { stands = s.0.stands; within = (a.kept j u e).within; items = subst (EachItem IsNoted) (sym s.0.tree) (a.kept j u e).items })
      ];
      apart = λ i j one other ne e f. elim (cases_eq i k) [
        | inl same ↦ subst (λ s. Apart s (slots' j)) (sym (slots-here a.slots k g.more i same)) (subst (Apart g.more) (sym (slots-other a.slots k g.more j (λ is. ne (same ∙ sym is)))) (stay j other (λ is. ne (same ∙ sym is)) f).1)
        | inr unlike ↦ subst (λ s. Apart s (slots' j)) (sym (slots-other a.slots k g.more i unlike)) (elim (cases_eq j k) [
          | inl same ↦ subst (Apart (a.slots i)) (sym (slots-here a.slots k g.more j same)) (apart-turned g.more (a.slots i) (stay i one unlike e).1)
          | inr un ↦ subst (Apart (a.slots i)) (sym (slots-other a.slots k g.more j un)) (a.apart i j one other ne e f)
        ])
      ];
    }

    pub turns-grown : (t : Partial Value) → known_of new tree ≡ t → Turns k t (known_in old trees) (known_in new trees)
    turns-grown t is = record {
      turned = tree-at new trees k tree there ∙ is;
      others = λ j ne. same-in old new trees j (λ u e. ap value_tree (others-stay j u ne e));
      as_many = length-map trees (known_of new) ∙ sym (length-map trees (known_of old));
    }

  -- one more tree started
  module _ (tree : Handle Piece) (depth : ℕ) (g : Starts old new tree depth (number_of region)) where
    unmoved : (j : ℕ) (u : Handle Piece) → slice_get trees j ≡ Some u → Stays old new u (a.slots j) × Apart g.spots (a.slots j)
    unmoved j u e = stays-started old new tree u depth (number_of region) (a.slots j) (a.kept j u e).within (a.kept j u e).stands g

    started-empty : tree_of new tree ≡ wanting
    started-empty =
        ap (λ d. tree_at d (item_in new (region_of tree.root)) (slot_of tree.root)) g.depth_is
        ∙ ap (λ r. tree_at depth (item_in new r) (slot_of tree.root)) g.region
        ∙ g.empty

    abbrev longer : ℕ → ℕ → Option Spot
    longer = with_slots a.slots (length trees) g.spots

    short : (j : ℕ) → j < length trees → j ≢ length trees
    short j h e = omega arith

    pub known-started : known_in new (trees ++ tree ∷ []) ≡ known_in old trees ++ wanting ∷ []
    known-started =
        map-more (known_of new) trees tree
        ∙ ap (λ ts. ts ++ known_of new tree ∷ []) (all-same old new trees (λ j u e. ap value_tree (unmoved j u e).0.tree))
        ∙ ap (λ t. known_in old trees ++ t ∷ []) (ap value_tree started-empty)

    pub kept-started : count_in new (number_of region) ≡ count_in old (number_of region) + 1 → AreKeptBeside beside new region (trees ++ tree ∷ [])
    kept-started one = record {
      few = by (count_in new (number_of region)) (count_in old (number_of region)) (all_nodes (known_in old trees)) (all_nodes (known_in new (trees ++ tree ∷ []))) one a.few (ap all_nodes known-started ∙ nodes-last (known_in old trees));
      slots = longer;
      kept = λ j u e. elim (get-cases trees tree j u e) [
        | inl h ↦ let s = unmoved j u h.1 in subst (IsKept new region u) (sym (slots-other a.slots (length trees) g.spots j (short j h.0))) (record { stands = s.0.stands; within = (a.kept j u h.1).within; items = subst (EachItem IsNoted) (sym s.0.tree) (a.kept j u h.1).items })
        | inr h ↦ subst (IsKept new region u) (sym (slots-here a.slots (length trees) g.spots j h.0)) (subst (λ t. IsKept new region t g.spots) h.1 (record { stands = g.stands; within = g.region; items = subst (EachItem IsNoted) (sym started-empty) tt }))
      ];
      apart = λ i j one other ne e f. elim (get-cases trees tree i one e) [
        | inl h ↦ subst (λ s. Apart s (longer j)) (sym (slots-other a.slots (length trees) g.spots i (short i h.0))) (elim (get-cases trees tree j other f) [
          | inl k ↦ subst (Apart (a.slots i)) (sym (slots-other a.slots (length trees) g.spots j (short j k.0))) (a.apart i j one other ne h.1 k.1)
          | inr k ↦ subst (Apart (a.slots i)) (sym (slots-here a.slots (length trees) g.spots j k.0)) (apart-turned g.spots (a.slots i) (unmoved i one h.1).1)
        ])
        | inr h ↦ subst (λ s. Apart s (longer j)) (sym (slots-here a.slots (length trees) g.spots i h.0)) (elim (get-cases trees tree j other f) [
          | inl k ↦ subst (Apart g.spots) (sym (slots-other a.slots (length trees) g.spots j (short j k.0))) (unmoved j other k.1).1
          | inr k ↦ absurd (ne (h.0 ∙ sym k.0))
        ])
      ];
    }
      where
        by : (c d n m : ℕ) → c ≡ d + 1 → d ≤ beside + n → m ≡ n + 1 → c ≤ beside + m
        by c d n m h k e = omega arith

pub kept-none : (pool : Nodes) (region : Region) → AreKeptBeside (count_in pool (number_of region)) pool region []
kept-none pool region = record {
  slots = λ k s. None;
  kept = λ k tree e. absurd (clash tree e);
  apart = λ j k one other ne e f. absurd (clash one e);
  few = plus (count_in pool (number_of region));
}
  where
    clash : (tree : Handle Piece) → None ≡ Some tree → ⊥
    clash tree e = cc

    plus : (n : ℕ) → n ≤ n + 0
    plus n = omega arith

-- other room changes nothing
pub kept-respared : (old new : Nodes) (region : Region) (trees : List (Handle Piece)) → new.regions ≡ old.regions → AreKept old region trees → AreKept new region trees
kept-respared old new region trees same a = subst (λ rs. AreKept (record { regions = rs; spare = new.spare }) region trees) (sym same) (record {
  slots = a.slots;
  kept = λ k t e. let s = a.kept k t e in record { stands = record { nodes = s.stands.nodes; spot = s.stands.spot; known = s.stands.known; sound = s.stands.sound; fits = s.stands.fits }; within = s.within; items = s.items };
  apart = a.apart;
  few = a.few;
})
