-- A tree stays as it is where its nodes do.
use Rattle.std.proofs.Common.{◌≡◌, ℕ, zero, suc, ◌<◌, ◌≤◌, arith, Bool, List, [], ◌∷◌, ◌++◌, refl, sym, ap, ◌∙◌, Option, Some, None, append_assoc}
use Rattle.std.proofs.lemmas.List.{append-nil}
use Rattle.tv_parts.specs.Partials.{Partial, wanting, Parts, part_of, part_at, whole_count, some_holds}
use Rattle.tv_stream.specs.declared.nodes.Entry.{Entry}
use Rattle.tv_stream.specs.nodes.Nodes.{part_in, body_in}
use Rattle.tv_stream.specs.nodes.Stands.{Spot, AreNodes}
use Rattle.tv_stream.proofs.NodeWays.{part-spot}
use Rattle.tv_stream.specs.declared.held.Held.{Held}
use Rattle.tv_stream.specs.declared.held.Part.{Part}
use Rattle.tv_stream.specs.declared.held.Counts.{Counts}
use Rattle.tv_stream.specs.declared.held.Part.TheVariants.{Wanting, Item, Numbered}
use Rattle.tv_stream.specs.Trees.{Marked, count_of, list_of, optional, parts_by, tree_by, held_tree, tree_at}
use Rattle.tv_stream.specs.Stands.{is_marked, AreCounted, IsCounted, HasNoParts, IsLeaf, IsSound}
use Rattle.tv_stream.proofs.Listed.{listed-same, part-listed}

module _ {T : Type 0} where
  -- the memories agree on the nodes at a place and inside it
  pub record Agrees (m m' : ℕ → Option (Entry (Held T))) (spots : ℕ → Option Spot) (r : List ℕ) : Type 0 where
    pub bodies : (u : ℕ) (v : Spot) (y : List ℕ) → spots u ≡ Some v → v.place ≡ r ++ y → body_in m' u ≡ body_in m u
    pub parts : (u : ℕ) (v : Spot) (y : List ℕ) (i : ℕ) → spots u ≡ Some v → v.place ≡ r ++ y → part_in m' u i ≡ part_in m u i

  agrees-inside : (m m' : ℕ → Option (Entry (Held T))) (spots : ℕ → Option Spot) (r : List ℕ) (i : ℕ) (x : List ℕ) → x ≡ r ++ i ∷ [] → Agrees m m' spots r → Agrees m m' spots x
  agrees-inside m m' spots r i x is h = record {
    bodies = λ u v y known e. h.bodies u v (i ∷ y) known (e ∙ ap (λ z. z ++ y) is ∙ append_assoc r (i ∷ []) y);
    parts = λ u v y j known e. h.parts u v (i ∷ y) j known (e ∙ ap (λ z. z ++ y) is ∙ append_assoc r (i ∷ []) y);
  }

  tree-same : (f g : ℕ → Partial (Marked T)) (m m' : ℕ → Option (Entry (Held T))) (s : ℕ) (marked : Bool) (w : Part T) → ((i : ℕ) → optional g (part_in m' s i) ≡ optional f (part_in m s i)) → tree_by g m' s marked w ≡ tree_by f m s marked w
  tree-same f g m m' s marked Wanting h = refl
  tree-same f g m m' s marked (Item v) h = refl
  tree-same f g m m' s marked (Numbered c) h = ap (list_of c.length) (listed-same (count_of c) (λ i. optional g (part_in m' s i)) (λ i. optional f (part_in m s i)) h)

  held-same : (f g : ℕ → Partial (Marked T)) (m m' : ℕ → Option (Entry (Held T))) (s : ℕ) → body_in m' s ≡ body_in m s → ((i : ℕ) → optional g (part_in m' s i) ≡ optional f (part_in m s i)) → held_tree g m' s (body_in m' s) ≡ held_tree f m s (body_in m s)
  held-same f g m m' s same h = ap (held_tree g m' s) same ∙ by (body_in m s)
    where
      by : (o : Option (Held T)) → held_tree g m' s o ≡ held_tree f m s o
      by None = refl
      by (Some b) = tree-same f g m m' s b.marked b.part h

  pub counted-same : (P Q : ℕ → Type 0) (f g : ℕ → Partial (Marked T)) (m m' : ℕ → Option (Entry (Held T))) (s : ℕ) (marked : Bool) (w : Part T) → ((i : ℕ) → part_in m' s i ≡ part_in m s i) → ((i : ℕ) → optional g (part_in m' s i) ≡ optional f (part_in m s i)) → ((i u : ℕ) → part_in m s i ≡ Some u → P u → Q u) → IsCounted P f m s marked w → IsCounted Q g m' s marked w
  counted-same P Q f g m m' s marked Wanting parts trees sounds h = (h.0, λ i. parts i ∙ h.1 i)
  counted-same P Q f g m m' s marked (Item v) parts trees sounds h = λ i. parts i ∙ h i
  counted-same P Q f g m m' s marked (Numbered c) parts trees sounds h =
      let same = listed-same (count_of c) (λ i. optional g (part_in m' s i)) (λ i. optional f (part_in m s i)) trees in
      record {
        whole = h.whole ∙ sym (ap whole_count same);
        marks = h.marks ∙ sym (ap (some_holds is_marked) same);
        counted = h.counted;
        few = h.few;
        within = λ i t e. h.within i t (sym (parts i) ∙ e);
        last = λ i e w. h.last i e (sym (trees i) ∙ w);
        sound = λ i t e. sounds i t (sym (parts i) ∙ e) (h.sound i t (sym (parts i) ∙ e));
      }

  leaf-same : (m m' : ℕ → Option (Entry (Held T))) (s : ℕ) (marked : Bool) (w : Part T) → ((i : ℕ) → part_in m' s i ≡ part_in m s i) → IsLeaf m s marked w → IsLeaf m' s marked w
  leaf-same m m' s marked Wanting parts h = (h.0, λ i. parts i ∙ h.1 i)
  leaf-same m m' s marked (Item v) parts h = λ i. parts i ∙ h i
  leaf-same m m' s marked (Numbered c) parts h = h

  module _ (m m' : ℕ → Option (Entry (Held T))) (spots : ℕ → Option Spot) (nodes : AreNodes m spots) where
    here-bodies : (s : ℕ) (q : Spot) → spots s ≡ Some q → Agrees m m' spots q.place → body_in m' s ≡ body_in m s
    here-bodies s q known h = h.bodies s q [] known (sym (append-nil q.place))

    here-parts : (s : ℕ) (q : Spot) → spots s ≡ Some q → Agrees m m' spots q.place → (i : ℕ) → part_in m' s i ≡ part_in m s i
    here-parts s q known h i = h.parts s q [] i known (sym (append-nil q.place))

    -- what the parts are, where a part's tree is the same
    inner-from : (height s : ℕ) (q : Spot) → spots s ≡ Some q → Agrees m m' spots q.place → ((u : ℕ) (v : Spot) → spots u ≡ Some v → Agrees m m' spots v.place → tree_at height m' u ≡ tree_at height m u) → (i : ℕ) → optional (tree_at height m') (part_in m' s i) ≡ optional (tree_at height m) (part_in m s i)
    inner-from height s q known h rec i = ap (optional (tree_at height m')) (here-parts s q known h i) ∙ by (part_in m s i) refl
      where
        by : (o : Option ℕ) → part_in m s i ≡ o → optional (tree_at height m') o ≡ optional (tree_at height m) o
        by None is = refl
        by (Some u) is = let w = part-spot m spots nodes s q i u known is in rec u w.0 w.1 (agrees-inside m m' spots q.place i w.0.place w.2 h)

    pub same-tree : (height s : ℕ) (q : Spot) → spots s ≡ Some q → Agrees m m' spots q.place → tree_at height m' s ≡ tree_at height m s
    unfolding tree_at
    same-tree zero s q known h = held-same (λ t. wanting) (λ t. wanting) m m' s (here-bodies s q known h) (λ i. ap (optional (λ t. wanting)) (here-parts s q known h i))
    same-tree (suc height) s q known h = held-same (tree_at height m) (tree_at height m') m m' s (here-bodies s q known h) (inner-from height s q known h (λ u v k a. same-tree height u v k a))

    inner-same : (height s : ℕ) (q : Spot) → spots s ≡ Some q → Agrees m m' spots q.place → (i : ℕ) → optional (tree_at height m') (part_in m' s i) ≡ optional (tree_at height m) (part_in m s i)
    inner-same height s q known h i = inner-from height s q known h (λ u v k a. same-tree height u v k a) i

    pub same-sound : (height s : ℕ) (q : Spot) → spots s ≡ Some q → Agrees m m' spots q.place → IsSound height m s → IsSound height m' s
    unfolding IsSound
    same-sound zero s q known h x = (x.0, here-bodies s q known h ∙ x.1, leaf-same m m' s x.0.marked x.0.part (here-parts s q known h) x.2)
    same-sound (suc height) s q known h x = (
      x.0,
      here-bodies s q known h ∙ x.1,
      counted-same (IsSound height m) (IsSound height m') (tree_at height m) (tree_at height m') m m' s x.0.marked x.0.part (here-parts s q known h) (inner-same height s q known h) (λ i u is y. let w = part-spot m spots nodes s q i u known is in same-sound height u w.0 w.1 (agrees-inside m m' spots q.place i w.0.place w.2 h) y) x.2,
    )

  -- ---- the tree at a node, from what the node holds

  pub tree-suc : (height : ℕ) (m : ℕ → Option (Entry (Held T))) (s : ℕ) (b : Held T) → body_in m s ≡ Some b → tree_at (suc height) m s ≡ tree_by (tree_at height m) m s b.marked b.part
  unfolding tree_at
  tree-suc height m s b h = ap (held_tree (tree_at height m) m s) h

  pub tree-zero : (m : ℕ → Option (Entry (Held T))) (s : ℕ) (b : Held T) → body_in m s ≡ Some b → tree_at 0 m s ≡ tree_by (λ t. wanting) m s b.marked b.part
  unfolding tree_at
  tree-zero m s b h = ap (held_tree (λ t. wanting) m s) h

  pub sound-suc : (height : ℕ) (m : ℕ → Option (Entry (Held T))) (s : ℕ) → IsSound (suc height) m s → (b : Held T) × (body_in m s ≡ Some b) × IsCounted (IsSound height m) (tree_at height m) m s b.marked b.part
  unfolding IsSound
  sound-suc height m s h = h

  pub sound-from : (height : ℕ) (m : ℕ → Option (Entry (Held T))) (s : ℕ) (b : Held T) → body_in m s ≡ Some b → IsCounted (IsSound height m) (tree_at height m) m s b.marked b.part → IsSound (suc height) m s
  unfolding IsSound
  sound-from height m s b e h = (b, e, h)

  pub sound-zero : (m : ℕ → Option (Entry (Held T))) (s : ℕ) → IsSound 0 m s → (b : Held T) × (body_in m s ≡ Some b) × IsLeaf m s b.marked b.part
  unfolding IsSound
  sound-zero m s h = h

  pub sound-leaf : (m : ℕ → Option (Entry (Held T))) (s : ℕ) (b : Held T) → body_in m s ≡ Some b → IsLeaf m s b.marked b.part → IsSound 0 m s
  unfolding IsSound
  sound-leaf m s b e h = (b, e, h)

  -- a part of a tree is the tree at the part of the node
  pub part-tree : (height : ℕ) (m : ℕ → Option (Entry (Held T))) (s : ℕ) → IsSound (suc height) m s → (i : ℕ) → part_at (tree_at (suc height) m s) i ≡ optional (tree_at height m) (part_in m s i)
  part-tree height m s sound i = let b = sound-suc height m s sound in ap (λ t. part_at t i) (tree-suc height m s b.0 b.1) ∙ by b.0.marked b.0.part b.2
    where
      none : HasNoParts m s → wanting ≡ optional (tree_at height m) (part_in m s i)
      none h = ap (optional (tree_at height m)) (sym (h i))

      beyond : (c : Counts) (marked : Bool) → AreCounted (IsSound height m) (tree_at height m) m s marked c → (j : ℕ) → count_of c ≤ j → optional (tree_at height m) (part_in m s j) ≡ wanting
      beyond c marked h j k = by_part (part_in m s j) refl
        where
          less : (j n k : ℕ) → j < n → n ≤ k → k ≤ j → ⊥
          less j n k h l o = omega arith

          by_part : (o : Option ℕ) → part_in m s j ≡ o → optional (tree_at height m) o ≡ wanting
          by_part None is = refl
          by_part (Some u) is = absurd (less j c.most (count_of c) (h.within j u is) h.counted k)

      list-part : (o : Option ℕ) (ps : Parts (Marked T)) → part_at (list_of o ps) i ≡ part_of ps i
      list-part None ps = refl
      list-part (Some n) ps = refl

      by : (marked : Bool) (w : Part T) → IsCounted (IsSound height m) (tree_at height m) m s marked w → part_at (tree_by (tree_at height m) m s marked w) i ≡ optional (tree_at height m) (part_in m s i)
      by marked Wanting h = none h.1
      by marked (Item v) h = none h
      by marked (Numbered c) h = list-part c.length (parts_by (tree_at height m) m s (count_of c)) ∙ part-listed (count_of c) (λ j. optional (tree_at height m) (part_in m s j)) i (beyond c marked h)
