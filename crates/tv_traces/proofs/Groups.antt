-- Parts of what feeds deliver stand for its marks, and still do when more groups are made.
use Rattle.std.specs.Option.{option_map_or}
use Rattle.std.specs.Prelude.{◌≡◌, refl, ℕ, zero, suc, ◌+◌, ◌≤◌, List, [], ◌∷◌, ◌++◌, length, map, Option, Some, None, option_and_then, slice_get, slice_index_or}
use Rattle.std.proofs.Common.{arith, ap, ap₂, subst, ◌∙◌, append-nil, le_refl}
use Rattle.std.proofs.lemmas.Grind.{flat_map-append}
use Rattle.std.proofs.lemmas.Option.{none-some, same_Some}
use Rattle.tv_lemmas.specs.Members.{Each}
use Rattle.tv_value.specs.Nested.{Place, item_at, leaf, list, no_trees, tree}
use Rattle.tv_value.specs.Values.{JobName, Name}
use Rattle.tv_flow.specs.Flows.{Flow, Step}
use Rattle.tv_lineage.specs.Kept.{Groups, IsBefore, Part, all_marks, element, group, marks_of, result}
use Rattle.tv_lineage.specs.Touching.{Mark, given, made}
use Rattle.tv_lineage.proofs.Keeping.{before-later, before-same}
use Rattle.tv_check.specs.declared.feeds.NumberedLink.{NumberedLink}
use Rattle.tv_check.specs.declared.feeds.NumberedLink.TheVariants.{Input, Output}
use Rattle.tv_check.specs.declared.feeds.NumberedFeed.{NumberedFeed}
use Rattle.tv_check.specs.declared.feeds.NumberedFeed.TheVariants.{Link, Merge, Constant}
use Rattle.tv_check.specs.declared.ports.Port.{Port}
use Rattle.tv_traces.specs.Feeds.{as_part, element_marks, element_parts, feed_marks, feed_parts, job_at, link_told, merge_told, node_marks, node_parts, output_told}
use Rattle.tv_traces.specs.Grouped.{AllAreGrouped, Grows, IsGrouped, ItemsAreGrouped, StandFor}
use Rattle.tv_traces.specs.Shapes.{Shape, Shapes, job_here, no_shape, passed_by, reached}
use Rattle.tv_traces.specs.Walking.{bound_marks, bound_parts, part_in}
use Rattle.tv_strategy.proofs.Sources.{each-append}

-- ---- more groups

at-most : (a b c : ℕ) → a ≤ b → b ≤ c → a ≤ c
at-most a b c h k = omega arith

one-longer : (n : ℕ) → n ≤ suc n
one-longer n = omega arith

pub grows-none : (gs : Groups) → Grows gs gs
grows-none gs = record { longer = le_refl (length gs); same = λ i h. refl }

pub grows-one : (ps : List Part) (gs : Groups) → Grows gs (ps ∷ gs)
grows-one ps gs = record { longer = one-longer (length gs); same = λ i h. before-same ps gs (group i) h }

pub grows-on : (a b c : Groups) → Grows a b → Grows b c → Grows a c
grows-on a b c h k = record {
  longer = at-most (length a) (length b) (length c) h.longer k.longer;
  same = λ i l. k.same i (at-most (suc i) (length a) (length b) l h.longer) ∙ h.same i l;
}

pub marks-grow : (old new : Groups) → Grows old new → (p : Part) → IsBefore (length old) p → marks_of new p ≡ marks_of old p
marks-grow old new g (element x q) h = refl
marks-grow old new g (result n) h = refl
marks-grow old new g (group i) h = g.same i h

pub all_marks-grow : (old new : Groups) → Grows old new → (ps : List Part) → Each (IsBefore (length old)) ps → all_marks new ps ≡ all_marks old ps
all_marks-grow old new g [] h = refl
all_marks-grow old new g (p ∷ ps) h = ap₂ (λ a b. a ++ b) (marks-grow old new g p h.0) (all_marks-grow old new g ps h.1)

pub before-grow : (old new : Groups) → Grows old new → (ps : List Part) → Each (IsBefore (length old)) ps → Each (IsBefore (length new)) ps
before-grow old new g [] h = tt
before-grow old new g (p ∷ ps) h = (before-later (length old) (length new) p g.longer h.0, before-grow old new g ps h.1)

module _ (name : Place → JobName) (old new : Groups) (g : Grows old new) where
  mutual
    pub grouped-grow : (q : Place) (u : Shape) → IsGrouped name old q u → IsGrouped name new q u
    grouped-grow q (leaf p k) h = tt
    grouped-grow q (list p us) h = (before-later (length old) (length new) p g.longer h.0, marks-grow old new g p h.0 ∙ h.1, items-grow q 0 us h.2)

    pub items-grow : (q : Place) (i : ℕ) (us : Shapes) → ItemsAreGrouped name old q i us → ItemsAreGrouped name new q i us
    items-grow q i no_trees h = tt
    items-grow q i (tree u us) h = (grouped-grow (q ++ i ∷ []) u h.0, items-grow q (suc i) us h.1)

pub all-grow : (flow : Flow) (old new : Groups) (us : List Shape) → Grows old new → AllAreGrouped flow old us → AllAreGrouped flow new us
all-grow flow old new us g h n s e = grouped-grow (job_at s.0) old new g [] (slice_index_or us n no_shape) (h n s e)

-- ---- parts stand for marks

pub stand-none : (gs : Groups) → StandFor gs [] []
stand-none gs = record { before = tt; marks = refl }

pub stand-both : (gs : Groups) (ps qs : List Part) (ms ns : List Mark) → StandFor gs ps ms → StandFor gs qs ns → StandFor gs (ps ++ qs) (ms ++ ns)
stand-both gs ps qs ms ns h k = record {
  before = each-append (IsBefore (length gs)) ps qs h.before k.before;
  marks = flat_map-append (marks_of gs) ps qs ∙ ap₂ (λ a b. a ++ b) h.marks k.marks;
}

pub stand-grow : (old new : Groups) (ps : List Part) (ms : List Mark) → Grows old new → StandFor old ps ms → StandFor new ps ms
stand-grow old new ps ms g h = record { before = before-grow old new g ps h.before; marks = all_marks-grow old new g ps h.before ∙ h.marks }

module _ (gs : Groups) where
  own-parts : (ms : List Mark) → StandFor gs (map as_part ms) ms
  own-parts [] = stand-none gs
  own-parts (given x q ∷ ms) = let r = own-parts ms in record { before = (tt, r.before); marks = ap (λ l. given x q ∷ l) r.marks }
  own-parts (made n ∷ ms) = let r = own-parts ms in record { before = (tt, r.before); marks = ap (λ l. made n ∷ l) r.marks }

  pub node-stands : (s : Name) (q : Place) (u : Shape) → IsGrouped (job_at s) gs q u → StandFor gs (node_parts s q u) (node_marks s q u)
  node-stands s q (leaf g job_here) h = record { before = (tt, tt); marks = refl }
  node-stands s q (leaf g (passed_by ms)) h = own-parts ms
  node-stands s q (list g us) h = record { before = (h.0, tt); marks = append-nil (marks_of gs g) ∙ h.1 }

  -- what is reached in a grouped shape is grouped
  mutual
    reached-grouped : (name : Place → JobName) (q : Place) (u : Shape) → IsGrouped name gs q u → (r : Place) (x : Place × Shape) → reached q u r ≡ Some x → IsGrouped name gs x.0 x.1
    reached-grouped name q u h [] x e = let p = same_Some (q, u) x e in subst (λ (y : Place × Shape). IsGrouped name gs y.0 y.1) p h
    reached-grouped name q (leaf g k) h (i ∷ r) x e = let p = same_Some (q, leaf g k) x e in subst (λ (y : Place × Shape). IsGrouped name gs y.0 y.1) p tt
    reached-grouped name q (list g us) h (i ∷ r) x e =
        reached-item name q us 0 h.2 i r x (subst (λ j. option_and_then (λ u. reached (q ++ j ∷ []) u r) (item_at us i) ≡ Some x) (to-none i) e)
      where
        to-none : (i : ℕ) → i ≡ 0 + i
        to-none i = omega arith

    reached-item : (name : Place → JobName) (q : Place) (us : Shapes) (j : ℕ) → ItemsAreGrouped name gs q j us → (i : ℕ) (r : Place) (x : Place × Shape) → option_and_then (λ u. reached (q ++ (j + i) ∷ []) u r) (item_at us i) ≡ Some x → IsGrouped name gs x.0 x.1
    reached-item name q no_trees j h i r x e = absurd (none-some x e)
    reached-item name q (tree u us) j h zero r x e = reached-grouped name (q ++ j ∷ []) u h.0 r x (subst (λ k. reached (q ++ k ∷ []) u r ≡ Some x) (same j) e)
      where
        same : (j : ℕ) → j + 0 ≡ j
        same j = omega arith
    reached-item name q (tree u us) j h (suc i) r x e = reached-item name q us (suc j) h.1 i r x (subst (λ k. option_and_then (λ v. reached (q ++ k ∷ []) v r) (item_at us i) ≡ Some x) (later j i) e)
      where
        later : (j i : ℕ) → j + suc i ≡ suc j + i
        later j i = omega arith

  module _ (flow : Flow) (us : List Shape) (all : AllAreGrouped flow gs us) where
    Told : List Part → List Mark → Type 0
    Told ps ms = StandFor gs ps ms

    there-stands : (s : Name) (x : Option (Place × Shape)) → ((y : Place × Shape) → x ≡ Some y → IsGrouped (job_at s) gs y.0 y.1) → StandFor gs (option_map_or (λ (y : Place × Shape). node_parts s y.0 y.1) x []) (option_map_or (λ (y : Place × Shape). node_marks s y.0 y.1) x [])
    there-stands s None h = stand-none gs
    there-stands s (Some y) h = node-stands s y.0 y.1 (h y refl)

    output-stands : (n o : ℕ) (q : Place) → StandFor gs (output_told node_parts flow us n o q) (output_told node_marks flow us n o q)
    output-stands n o q = by (slice_get flow.steps n) refl
      where
        inner : (s : Name × Step) → slice_get flow.steps n ≡ Some s → (p : Option (Name × ℕ)) → StandFor gs (option_map_or (λ (p : Name × ℕ). option_map_or (λ (x : Place × Shape). node_parts s.0 x.0 x.1) (reached [] (slice_index_or us n no_shape) q) []) p []) (option_map_or (λ (p : Name × ℕ). option_map_or (λ (x : Place × Shape). node_marks s.0 x.0 x.1) (reached [] (slice_index_or us n no_shape) q) []) p [])
        inner s e None = stand-none gs
        inner s e (Some p) = there-stands s.0 (reached [] (slice_index_or us n no_shape) q) (λ y f. reached-grouped (job_at s.0) [] (slice_index_or us n no_shape) (all n s e) q y f)

        by : (s : Option (Name × Step)) → slice_get flow.steps n ≡ s → StandFor gs (option_map_or (λ (s : Name × Step). option_map_or (λ (p : Name × ℕ). option_map_or (λ (x : Place × Shape). node_parts s.0 x.0 x.1) (reached [] (slice_index_or us n no_shape) q) []) (slice_get s.1.outputs o) []) s []) (option_map_or (λ (s : Name × Step). option_map_or (λ (p : Name × ℕ). option_map_or (λ (x : Place × Shape). node_marks s.0 x.0 x.1) (reached [] (slice_index_or us n no_shape) q) []) (slice_get s.1.outputs o) []) s [])
        by None e = stand-none gs
        by (Some s) e = inner s e (slice_get s.1.outputs o)

    link-stands : (l : NumberedLink) (q : Place) → StandFor gs (link_told element_parts node_parts flow us l q) (link_told element_marks node_marks flow us l q)
    link-stands (Input x) q = by (slice_get flow.inputs x)
      where
        by : (i : Option (Name × ℕ)) → StandFor gs (option_map_or (λ (i : Name × ℕ). element_parts i.0 q) i []) (option_map_or (λ (i : Name × ℕ). element_marks i.0 q) i [])
        by None = stand-none gs
        by (Some i) = record { before = (tt, tt); marks = refl }
    link-stands (Output n o) q = output-stands n o q

    links-stand : (ls : List NumberedLink) → StandFor gs (merge_told element_parts node_parts flow us ls []) (merge_told element_marks node_marks flow us ls [])
    links-stand [] = stand-none gs
    links-stand (l ∷ ls) = stand-both gs _ _ _ _ (link-stands l []) (links-stand ls)

    -- the parts of what a feed delivers stand for its marks
    pub feed-stands : (d : NumberedFeed) (q : Place) → StandFor gs (feed_parts flow us d q) (feed_marks flow us d q)
    feed-stands (Link l) q = link-stands l q
    feed-stands (Merge ls) [] = links-stand ls
    feed-stands (Merge ls) (i ∷ q) = by (slice_get ls i)
      where
        by : (l : Option NumberedLink) → StandFor gs (option_map_or (λ l. link_told element_parts node_parts flow us l q) l []) (option_map_or (λ l. link_told element_marks node_marks flow us l q) l [])
        by None = stand-none gs
        by (Some l) = link-stands l q
    feed-stands Constant q = stand-none gs

    -- and so do those of all that a job binds
    pub bound-stands : (ports : List Port) (begins : List ℕ) (q : Place) → StandFor gs (bound_parts flow us ports begins q) (bound_marks flow us ports begins q)
    bound-stands [] begins q = stand-none gs
    bound-stands (p ∷ ports) begins q = stand-both gs _ _ _ _ (feed-stands p.feed (part_in begins p q)) (bound-stands ports begins q)
