-- A change of a part is a change of the node, once the node has counted it.
use Rattle.std.proofs.Common.{◌≡◌, ◌≢◌, ℕ, zero, suc, ◌<◌, ◌^◌, Bool, true, false, ◌||◌, if◌then◌else◌, List, [], ◌∷◌, ◌++◌, refl, sym, ap, ◌∙◌, subst, Option, Some, None, ◌⊎◌, inl, inr, append_assoc}
use Rattle.std.specs.Option.{option_map}
use Rattle.std.proofs.lemmas.Bool.{cases_eq}
use Rattle.std.proofs.lemmas.List.{append-nil, append_cancel_left}
use Rattle.std.proofs.lemmas.Option.{same_Some}
use Rattle.tv_lemmas.proofs.Options.{some-not_none}
use Rattle.tv_parts.specs.Partials.{Partial, Parts, wanting, part_at, whole, holds_some}
use Rattle.tv_parts.specs.Changes.{with_part}
use Rattle.tv_stream.specs.declared.nodes.Entry.{Entry}
use Rattle.tv_stream.specs.nodes.Nodes.{part_in, body_in}
use Rattle.tv_stream.specs.nodes.Stands.{Spot, AreNodes}
use Rattle.tv_stream.specs.nodes.Calls.{Sets}
use Rattle.tv_stream.proofs.NodeWays.{part-spot}
use Rattle.tv_stream.specs.declared.held.Held.{Held}
use Rattle.tv_stream.specs.declared.held.Part.{Part}
use Rattle.tv_stream.specs.declared.held.Counts.{Counts}
use Rattle.tv_stream.specs.declared.held.Part.TheVariants.{Wanting, Item, Numbered}
use Rattle.tv_stream.specs.Trees.{Marked, count_of, list_of, optional, parts_by, tree_at, least_whole}
use Rattle.tv_stream.specs.Stands.{is_marked, IsCounted, IsSound}
use Rattle.tv_stream.specs.Inside.{counts_with, counts_whole, counts_of, has_index, nothing, noted, InTree, Below, Parted, Changes, Changed}
use Rattle.tv_stream.proofs.Listed.{stepped, holds-with}
use Rattle.tv_stream.proofs.Same.{Agrees, same-tree, same-sound, tree-suc, tree-zero, sound-suc, sound-from, sound-leaf, part-tree}
use Rattle.tv_stream.proofs.Counting.{length-has, ListLike, list-like, list-holds, tree-with, counted-with, least-with}

nil-cons : (i : ℕ) (y : List ℕ) → [] ≡ i ∷ y → ⊥
nil-cons i y h = cc

same-head : (j i : ℕ) (y z : List ℕ) → j ∷ y ≡ i ∷ z → j ≡ i
same-head j i y z h = cc

-- a place isn't inside a part of it, and parts at two indices have no place in common
pub not-own : (r : List ℕ) (i : ℕ) (y : List ℕ) → r ≡ (r ++ i ∷ []) ++ y → ⊥
not-own r i y h = nil-cons i y (append_cancel_left r [] (i ∷ y) (append-nil r ∙ h ∙ append_assoc r (i ∷ []) y))

pub same-part : (r : List ℕ) (j i : ℕ) (y z : List ℕ) → (r ++ j ∷ []) ++ y ≡ (r ++ i ∷ []) ++ z → j ≡ i
same-part r j i y z h = same-head j i y z (append_cancel_left r (j ∷ y) (i ∷ z) (sym (append_assoc r (j ∷ []) y) ∙ h ∙ append_assoc r (i ∷ []) z))

module _ {T : Type 0} where
  list-there : (o : Option ℕ) (ps : Parts (Marked T)) → list_of o ps ≢ wanting
  list-there None ps h = cc
  list-there (Some n) ps h = cc

  -- a part of a sound node is sound
  pub part-sound : (h : ℕ) (m : ℕ → Option (Entry (Held T))) (s i t : ℕ) → IsSound (suc h) m s → part_in m s i ≡ Some t → IsSound h m t
  part-sound h m s i t sound found = let b = sound-suc h m s sound in by b.0.marked b.0.part b.2
    where
      by : (marked : Bool) (w : Part T) → IsCounted (IsSound h m) (tree_at h m) m s marked w → IsSound h m t
      by marked Wanting k = absurd (some-not_none (part_in m s i) t found (k.1 i))
      by marked (Item v) k = absurd (some-not_none (part_in m s i) t found (k i))
      by marked (Numbered c) k = k.sound i t found

  -- a node that holds nothing
  pub nothing-sound : (h : ℕ) (m : ℕ → Option (Entry (Held T))) (t : ℕ) → body_in m t ≡ Some nothing → ((j : ℕ) → part_in m t j ≡ None) → IsSound h m t
  nothing-sound zero m t body none = sound-leaf m t nothing body (refl, none)
  nothing-sound (suc h) m t body none = sound-from h m t nothing body (refl, none)

  pub nothing-tree : (h : ℕ) (m : ℕ → Option (Entry (Held T))) (t : ℕ) → body_in m t ≡ Some nothing → tree_at h m t ≡ wanting
  nothing-tree zero m t body = tree-zero m t nothing body
  nothing-tree (suc h) m t body = tree-suc h m t nothing body

  module _ (m mid : ℕ → Option (Entry (Held T))) (spots : ℕ → Option Spot) (s i t h : ℕ) (inside : InTree m spots s (suc h)) (parted : Parted m mid spots s i t) where
    abbrev p : Spot
    p = inside.spot

    -- the part's spot
    pub part-known : (q : Spot) × (parted.more t ≡ Some q) × (q.place ≡ p.place ++ i ∷ [])
    part-known = part-spot mid parted.more parted.nodes s p i t (parted.known s p inside.known) parted.part

    agrees-mid : (r : List ℕ) → ((y : List ℕ) → p.place ≡ r ++ y → ⊥) → Agrees m mid spots r
    agrees-mid r apart = record {
      bodies = λ u v y known e. parted.bodies u v known;
      parts = λ u v y j known e. parted.parts u v j known (λ same. absurd (apart y (ap (λ (x : Spot). x.place) (same_Some p v (sym inside.known ∙ ap spots (sym same) ∙ known)) ∙ e)));
    }

    pub part-is-sound : IsSound h mid t
    part-is-sound = by parted.was
      where
        by : (part_in m s i ≡ Some t) ⊎ ((part_in m s i ≡ None) × (body_in mid t ≡ Some nothing) × ((j : ℕ) → part_in mid t j ≡ None)) → IsSound h mid t
        by (inl found) =
            let w = part-spot m spots inside.nodes s p i t inside.known found in
            same-sound m mid spots inside.nodes h t w.0 w.1 (agrees-mid w.0.place (λ y e. not-own p.place i y (e ∙ ap (λ r. r ++ y) w.2))) (part-sound h m s i t inside.sound found)
        by (inr new) = nothing-sound h mid t new.1 new.2

    abbrev pub part-in-tree : InTree mid parted.more t h
    part-in-tree = record { nodes = parted.nodes; spot = part-known.0; known = part-known.1; sound = part-is-sound }

    pub part-tree-is : tree_at h mid t ≡ part_at (tree_at (suc h) m s) i
    part-tree-is = by parted.was ∙ sym (part-tree h m s inside.sound i)
      where
        by : (part_in m s i ≡ Some t) ⊎ ((part_in m s i ≡ None) × (body_in mid t ≡ Some nothing) × ((j : ℕ) → part_in mid t j ≡ None)) → tree_at h mid t ≡ optional (tree_at h m) (part_in m s i)
        by (inl found) =
            let w = part-spot m spots inside.nodes s p i t inside.known found in
            same-tree m mid spots inside.nodes h t w.0 w.1 (agrees-mid w.0.place (λ y e. not-own p.place i y (e ∙ ap (λ r. r ++ y) w.2))) ∙ sym (ap (optional (tree_at h m)) found)
        by (inr new) = nothing-tree h mid t new.1 ∙ sym (ap (optional (tree_at h m)) new.0)

    -- the part changes, and then the node counts it
    module _ (m2 m3 : ℕ → Option (Entry (Held T))) (b : Held T) (body : body_in m s ≡ Some b) (has : has_index b.part i ≡ true) (small : i < 2 ^ 32) (q : List ℕ) (mark : Bool) (new : Partial (Marked T)) (least : Option ℕ) (changed : Changed mid m2 parted.more t part-known.0 h q mark new least) where
      abbrev changes : Changes mid m2 parted.more t part-known.0 h
      changes = changed.changes

      abbrev qt : Spot
      qt = part-known.0

      own-apart : Below qt.place p.place → ⊥
      own-apart e = not-own p.place i e.0 (e.1 ∙ ap (λ r. r ++ e.0) part-known.2)

      s-known : changes.more s ≡ Some p
      s-known = changes.known s p (parted.known s p inside.known)

      t-known : changes.more t ≡ Some qt
      t-known = changes.known t qt part-known.1

      -- the node itself is as it was
      pub body-after : body_in m2 s ≡ Some b
      body-after = changes.bodies s p (parted.known s p inside.known) own-apart ∙ parted.bodies s p inside.known ∙ body

      pub node-after : AreNodes m2 changes.more
      node-after = changes.nodes

      pub known-after : changes.more s ≡ Some p
      known-after = s-known

      module _ (sets : Sets m2 m3 s (noted b i (whole new) mark)) where
        part-here : part_in m3 s i ≡ Some t
        part-here = sets.parts s i ∙ changes.parts s p i (parted.known s p inside.known) own-apart ∙ parted.part

        part-there : (j : ℕ) → j ≢ i → part_in m3 s j ≡ part_in m s j
        part-there j ne = sets.parts s j ∙ changes.parts s p j (parted.known s p inside.known) own-apart ∙ parted.parts s p j inside.known (λ same. ne)

        agrees-after : (r : List ℕ) → ((y : List ℕ) → p.place ≡ r ++ y → ⊥) → Agrees m2 m3 changes.more r
        agrees-after r apart = record {
          bodies = λ u v y known e. ap (option_map (λ x. x.body)) (sets.others u (λ same. apart y (ap (λ (x : Spot). x.place) (same_Some p v (sym s-known ∙ ap changes.more (sym same) ∙ known)) ∙ e)));
          parts = λ u v y j known e. sets.parts u j;
        }

        agrees-all : (j : ℕ) → j ≢ i → (r : List ℕ) → r ≡ p.place ++ j ∷ [] → Agrees m m3 spots r
        agrees-all j ne r is = record {
          bodies = λ u v y known e.
              ap (option_map (λ x. x.body)) (sets.others u (own u v y known e))
              ∙ changes.bodies u v (parted.known u v known) (other u v y e) ∙ parted.bodies u v known;
          parts = λ u v y k known e.
              sets.parts u k ∙ changes.parts u v k (parted.known u v known) (other u v y e) ∙ parted.parts u v k known (λ same. absurd (own u v y known e same));
        }
          where
            own : (u : ℕ) (v : Spot) (y : List ℕ) → spots u ≡ Some v → v.place ≡ r ++ y → u ≢ s
            own u v y known e same = not-own p.place j y (ap (λ (x : Spot). x.place) (same_Some p v (sym inside.known ∙ ap spots (sym same) ∙ known)) ∙ e ∙ ap (λ x. x ++ y) is)

            other : (u : ℕ) (v : Spot) (y : List ℕ) → v.place ≡ r ++ y → Below qt.place v.place → ⊥
            other u v y e below = ne (same-part p.place j i y below.0 (sym (ap (λ x. x ++ y) is) ∙ sym e ∙ below.1 ∙ ap (λ x. x ++ below.0) part-known.2))

        here : optional (tree_at h m3) (part_in m3 s i) ≡ new
        here =
            ap (optional (tree_at h m3)) part-here
            ∙ same-tree m2 m3 changes.more changes.nodes h t qt t-known (agrees-after qt.place (λ y e. own-apart (y, e)))
            ∙ changed.tree_is

        there : (j : ℕ) → j ≢ i → optional (tree_at h m3) (part_in m3 s j) ≡ optional (tree_at h m) (part_in m s j)
        there j ne = ap (optional (tree_at h m3)) (part-there j ne) ∙ by (part_in m s j) refl
          where
            by : (o : Option ℕ) → part_in m s j ≡ o → optional (tree_at h m3) o ≡ optional (tree_at h m) o
            by None is = refl
            by (Some u) is = let w = part-spot m spots inside.nodes s p j u inside.known is in same-tree m m3 spots inside.nodes h u w.0 w.1 (agrees-all j ne w.0.place w.2)

        sounds : (j u : ℕ) → part_in m3 s j ≡ Some u → IsSound h m3 u
        sounds j u e = elim (cases_eq j i) [
          | inl same ↦ subst (IsSound h m3) (same_Some t u (sym part-here ∙ ap (part_in m3 s) (sym same) ∙ e)) (same-sound m2 m3 changes.more changes.nodes h t qt t-known (agrees-after qt.place (λ y k. own-apart (y, k))) changes.sound)
          | inr ne ↦ old ne (sym (part-there j ne) ∙ e)
        ]
          where
            old : j ≢ i → part_in m s j ≡ Some u → IsSound h m3 u
            old ne is = let w = part-spot m spots inside.nodes s p j u inside.known is in same-sound m m3 spots inside.nodes h u w.0 w.1 (agrees-all j ne w.0.place w.2) (part-sound h m s j u inside.sound is)

        counted : IsCounted (IsSound h m) (tree_at h m) m s b.marked b.part
        counted = let x = sound-suc h m s inside.sound in subst (λ (y : Held T). IsCounted (IsSound h m) (tree_at h m) m s y.marked y.part) (same_Some x.0 b (sym x.1 ∙ body)) x.2

        like : ListLike (IsSound h m) (tree_at h m) m s i b.marked b.part
        like = list-like (IsSound h m) (tree_at h m) m s i b.marked b.part has counted

        part-was : tree_at h mid t ≡ optional (tree_at h m) (part_in m s i)
        part-was = part-tree-is ∙ part-tree h m s inside.sound i

        open_part : whole (optional (tree_at h m) (part_in m s i)) ≡ false
        open_part = ap whole (sym part-was) ∙ changed.open_before

        part-marks : holds_some is_marked new ≡ (holds_some is_marked (optional (tree_at h m) (part_in m s i)) || mark)
        part-marks = changed.marks ∙ ap (λ r. holds_some is_marked r || mark) part-was

        abbrev c : Counts
        c = counts_of b.part

        tree-after : tree_at (suc h) m3 s ≡ list_of c.length (with_part new (parts_by (tree_at h m) m s (count_of c)) i)
        tree-after =
            tree-suc h m3 s (noted b i (whole new) mark) sets.body
            ∙ tree-with (IsSound h m) (IsSound h m3) (tree_at h m) (tree_at h m3) m m3 s i b.marked c like.counts (length-has b.part i has) small new mark here there open_part part-marks

        stepped-is : stepped new i (tree_at (suc h) m s) ≡ list_of c.length (with_part new (parts_by (tree_at h m) m s (count_of c)) i)
        stepped-is = ap (stepped new i) (tree-suc h m s b body) ∙ like.steps new

        sound-after : IsSound (suc h) m3 s
        sound-after = sound-from h m3 s (noted b i (whole new) mark) sets.body (counted-with (IsSound h m) (IsSound h m3) (tree_at h m) (tree_at h m3) m m3 s i b.marked c like.counts (length-has b.part i has) small new mark here there open_part part-marks changed.there (λ j u e ne. sym (part-there j ne) ∙ e) sounds)

        step-changes : Changes m m3 spots s p (suc h)
        step-changes = record {
          more = changes.more;
          nodes = sets.nodes changes.more changes.nodes;
          sound = sound-after;
          known = λ u v k. changes.known u v (parted.known u v k);
          fresh = λ u none. by_parted u (parted.fresh u none);
          parts = λ u v j k apart. sets.parts u j ∙ changes.parts u v j (parted.known u v k) (outside v apart) ∙ parted.parts u v j k (λ same. absurd (own-not u v k apart same));
          bodies = λ u v k apart. ap (option_map (λ x. x.body)) (sets.others u (own-not u v k apart)) ∙ changes.bodies u v (parted.known u v k) (outside v apart) ∙ parted.bodies u v k;
          others = λ u none. sets.others u (λ same. some-not_none (changes.more u) p (ap changes.more same ∙ s-known) none) ∙ changes.others u none ∙ parted.others u (unknown u none (parted.more u) refl);
        }
          where
            by_parted : (u : ℕ) → (parted.more u ≡ None) ⊎ (m u ≡ None) → (changes.more u ≡ None) ⊎ (m u ≡ None)
            by_parted u (inr none) = inr none
            by_parted u (inl none) = by_changes (changes.fresh u none)
              where
                by_changes : (changes.more u ≡ None) ⊎ (mid u ≡ None) → (changes.more u ≡ None) ⊎ (m u ≡ None)
                by_changes (inl k) = inl k
                by_changes (inr k) = inr (sym (parted.others u none) ∙ k)

            outside : (v : Spot) → (Below p.place v.place → ⊥) → Below qt.place v.place → ⊥
            outside v apart below = apart (i ∷ below.0, below.1 ∙ ap (λ x. x ++ below.0) part-known.2 ∙ append_assoc p.place (i ∷ []) below.0)

            own-not : (u : ℕ) (v : Spot) → spots u ≡ Some v → (Below p.place v.place → ⊥) → u ≢ s
            own-not u v k apart same = apart ([], ap (λ (x : Spot). x.place) (same_Some v p (sym k ∙ ap spots same ∙ inside.known)) ∙ sym (append-nil p.place))

            unknown : (u : ℕ) → changes.more u ≡ None → (o : Option Spot) → parted.more u ≡ o → parted.more u ≡ None
            unknown u none None is = is
            unknown u none (Some v) is = absurd (some-not_none (changes.more u) v (changes.known u v is) none)

        pub step : whole (tree_at (suc h) m s) ≡ false → Changed m m3 spots s p (suc h) (i ∷ q) mark (stepped new i (tree_at (suc h) m s)) (if counts_whole (counts_with c i (whole new)) then Some 0 else option_map suc least)
        step open_before = record {
          changes = step-changes;
          tree_is = tree-after ∙ sym stepped-is;
          there = λ w. list-there c.length (with_part new (parts_by (tree_at h m) m s (count_of c)) i) (sym stepped-is ∙ w);
          open_before = open_before;
          marks =
              ap (holds_some is_marked) stepped-is
              ∙ list-holds is_marked c.length (with_part new (parts_by (tree_at h m) m s (count_of c)) i)
              ∙ holds-with is_marked mark new (parts_by (tree_at h m) m s (count_of c)) i (part-marks ∙ ap (λ r. holds_some is_marked r || mark) (sym (part-tree h m s inside.sound i) ∙ ap (λ r. part_at r i) (tree-suc h m s b body) ∙ like.inner))
              ∙ ap (λ x. x || mark) (sym (ap (holds_some is_marked) (tree-suc h m s b body) ∙ like.holds));
          least_is = ap (least_whole (i ∷ q)) stepped-is ∙ least-with (IsSound h m) (IsSound h m3) (tree_at h m) (tree_at h m3) m m3 s i b.marked c like.counts (length-has b.part i has) small new mark here there open_part part-marks q least changed.least_is;
        }
