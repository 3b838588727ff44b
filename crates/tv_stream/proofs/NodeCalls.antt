-- The calls, over the whole pool.
use Rattle.std.proofs.Common.{◌≡◌, ◌≢◌, ℕ, zero, suc, ◌+◌, ◌<◌, ◌^◌, ◌/◌, ◌%◌, ◌==◌, eqb, if◌then◌else◌, arith, List, [], ◌∷◌, ◌++◌, length, set, Option, Some, None, ◌⊎◌, inl, inr, refl, sym, ap, ◌∙◌, subst}
use Rattle.std.specs.Option.{option_map}
use Rattle.std.proofs.lemmas.Bool.{cases_eq, eq-eqb, ne_eqb}
use Rattle.std.proofs.lemmas.List.{get_or-set_same, get_or-set_other}
use Rattle.std.proofs.Math.ListN.{length-set}
use Rattle.std.proofs.lemmas.Option.{same_Some}
use Rattle.tv_lemmas.proofs.Options.{some-not_none}
use Rattle.tv_pool.specs.Pool.{Pool, IsLive, Puts, item_in, region_at, with_linked, number_of, slot_of, lies_at, nowhere}
use Rattle.tv_pool.specs.declared.handles.Region.{Region}
use Rattle.tv_pool.specs.declared.handles.Node.{Node}
use Rattle.tv_pool.specs.declared.handles.Link.{Link}
use Rattle.tv_pool.proofs.PoolLinks.{item_in-put, item_in-linked, region_at-put_other, region_at-linked_other, IsLive-linked}
use Rattle.tv_stream.specs.declared.nodes.Entry.{Entry}
use Rattle.tv_stream.specs.nodes.Digits.{without, Agree}
use Rattle.tv_stream.specs.nodes.Nodes.{Stop, found, free, part_found, no_link, own_link, leads, next, seek, seek_part, part_in, body_in}
use Rattle.tv_stream.specs.nodes.Stands.{Spot, owner_by, base_by, level_by, Hangs, IsEntry, Leads, AreNodes, IsNode, with_spot}
use Rattle.tv_stream.specs.nodes.Calls.{Plants, HangsPart, Sets, KeepsRegions}
use Rattle.tv_stream.proofs.Seeks.{seek-none, seek-found, seek-on, next-some, next-none}
use Rattle.tv_stream.proofs.NodeWays.{OnWay, Reached, way-begins, way-next, way-on, way-ends}
use Rattle.tv_stream.proofs.Hanging.{Alone, Adds, Kept, Links, plants, new-empty, new-body, search-kept, search-new, part-nodes}

module _ {B : Type 0} where
  -- where a search ends by a free link, it came on its way
  pub record Ends (m : ℕ → Option (Entry B)) (spots : ℕ → Option Spot) (o : ℕ) (r : List ℕ) (i at by : ℕ) : Type 0 where
    pub digits_left : ℕ
    pub nodes_left : ℕ
    pub way : OnWay m spots o r i at by digits_left nodes_left
    pub free_link : leads way.entry by ≡ nowhere

  pub way-free : (m : ℕ → Option (Entry B)) (spots : ℕ → Option Spot) (nodes : AreNodes m spots) (o : ℕ) (r : List ℕ) (i : ℕ) → i < 2 ^ 32 → (at by left s d rest : ℕ) → OnWay m spots o r i s d rest left → seek m left s d i rest ≡ free at by → Ends m spots o r i at by
  way-free m spots nodes o r i small at by zero s d rest w ends = absurd (way-ends m spots nodes o r i s d rest small w)
  way-free m spots nodes o r i small at by (suc left) s d rest w ends = elim (way-next m spots nodes o r i s d rest (suc left) w) [
    | inl none ↦ here none.0 (sym (seek-none m (suc left) s d i rest none.1) ∙ ends)
    | inr there ↦ at_node there.1.0 (cases_eq there.1.0.entry.index i) (λ v k. way-free m spots nodes o r i small at by left there.1.0.slot (rest % 4) (rest / 4) v k)
  ]
    where
      slot_of_free : free s d ≡ free at by → s ≡ at
      slot_of_free h = cc

      link_of_free : free s d ≡ free at by → d ≡ by
      link_of_free h = cc

      here : leads w.entry d ≡ nowhere → free s d ≡ free at by → Ends m spots o r i at by
      here nw h = subst (λ t. Ends m spots o r i t by) (slot_of_free h) (subst (λ t. Ends m spots o r i s t) (link_of_free h) (record { digits_left = rest; nodes_left = suc left; way = w; free_link = nw }))

      never : (t : ℕ) → found t ≡ free at by → ⊥
      never t h = cc

      at_node : (t : Reached m spots o r i s d rest (suc left)) → (t.entry.index ≡ i) ⊎ (t.entry.index ≢ i) → (OnWay m spots o r i t.slot (rest % 4) (rest / 4) left → seek m left t.slot (rest % 4) i (rest / 4) ≡ free at by → Ends m spots o r i at by) → Ends m spots o r i at by
      at_node t (inl same) rec = absurd (never t.slot (sym (seek-found m left s d i rest t.slot t.entry t.comes same) ∙ ends))
      at_node t (inr ne) rec = rec (way-on m spots nodes o r i s d rest left t ne) (sym (seek-on m left s d i rest t.slot t.entry t.comes ne) ∙ ends)

  pub part-free : (m : ℕ → Option (Entry B)) (spots : ℕ → Option Spot) → AreNodes m spots → (s : ℕ) (p : Spot) (i at by : ℕ) → i < 2 ^ 32 → spots s ≡ Some p → seek_part m s i ≡ free at by → Ends m spots s p.place i at by
  unfolding seek_part
  part-free m spots nodes s p i at by small known ends = way-free m spots nodes s p.place i small at by 17 s own_link i (way-begins m spots nodes s p.place i s p known refl refl) ends

  -- ---- a part hangs

  module _ (m m' : ℕ → Option (Entry B)) (n : ℕ) (x : Entry B) (index : ℕ) (b : B) (adds : Adds m m' n x index b) (spots : ℕ → Option Spot) (nodes : AreNodes m spots) (s : ℕ) (p : Spot) (known : spots s ≡ Some p) (at by : ℕ) (ends : seek_part m s index ≡ free at by) (e f : Entry B) (links : Links m m' n at by e f) where
    open_way : Ends m spots s p.place index at by
    open_way = part-free m spots nodes s p index at by adds.small known ends

    abbrev new_spot : Spot
    new_spot = record { place = p.place ++ index ∷ []; owner = s; base = p.place; level = level_by open_way.way.spot by }

    new-hangs : Hangs at open_way.way.spot e by new_spot x
    new-hangs =
        let w = open_way.way in
        let same : w.entry ≡ e = same_Some w.entry e (sym w.lies ∙ links.was) in
        record {
          owner = sym w.owner;
          base = sym w.base;
          place = ap (λ i. p.place ++ i ∷ []) (sym adds.alone.number);
          level = refl;
          digits = λ ne. subst (λ i. Agree w.spot.level i e.index) (sym adds.alone.number) (subst (λ (y : Entry B). Agree w.spot.level index y.index) same (w.agrees ne));
          digit = λ ne. ap (λ i. without w.spot.level i % 4) adds.alone.number ∙ sym (w.digit ne);
        }

    new-found : part_in m' s index ≡ Some n
    unfolding seek_part
    new-found = search-new m m' n x index b adds spots nodes at by e f links s p.place 17 s own_link index (way-begins m spots nodes s p.place index s p known refl refl) ends

    others-found : (t : ℕ) (q : Spot) (i : ℕ) → spots t ≡ Some q → (t ≡ s → i ≢ index) → part_in m' t i ≡ part_in m t i
    unfolding seek_part
    others-found t q i k other = search-kept m m' n x index b adds spots nodes at by e f links t q.place i 17 t own_link i open_way.way.spot open_way.way.known (λ h. other (h ∙ open_way.way.owner)) (way-begins m spots nodes t q.place i t q k refl refl)

    bodies-kept : (t : ℕ) (q : Spot) → spots t ≡ Some q → body_in m' t ≡ body_in m t
    bodies-kept t q k = elim (cases_eq t at) [
      | inl same ↦ ap (body_in m') same ∙ ap (option_map (λ y. y.body)) links.now ∙ ap Some links.kept.body ∙ sym (ap (body_in m) same ∙ ap (option_map (λ y. y.body)) links.was)
      | inr ne ↦ ap (option_map (λ y. y.body)) (links.others t (λ h. some-not_none (m t) (nodes.entries t q k).entry (nodes.entries t q k).lies (ap m h ∙ adds.fresh)) ne)
    ]

    pub hangs-part : HangsPart m m' spots s p index n b
    hangs-part = record {
      spot = new_spot;
      place = refl;
      nodes = part-nodes m m' n x index b adds spots nodes at by e f links open_way.way.spot open_way.way.known open_way.way.bound new_spot new-hangs;
      fresh = adds.fresh;
      part = new-found;
      empty = new-empty m m' n x index b adds;
      body = new-body m m' n x index b adds;
      parts = others-found;
      bodies = bodies-kept;
      others = λ t none ne. links.others t ne (λ h. some-not_none (spots t) open_way.way.spot (ap spots h ∙ open_way.way.known) none);
    }

  -- ---- the pool

  module _ (old mid : Pool (Entry B)) (region : Region) (node : Node) (x : Entry B) (live : IsLive old region) (puts : Puts old mid region x node) (fresh : item_in old (number_of region) (slot_of node) ≡ None) where
    put-here : item_in mid (number_of region) (slot_of node) ≡ Some x
    put-here = item_in-put old mid region x node live puts fresh (slot_of node) ∙ ap (λ b. if b then Some x else item_in old (number_of region) (slot_of node)) (eq-eqb (slot_of node) (slot_of node) refl)

    put-other : (s : ℕ) → s ≢ slot_of node → item_in mid (number_of region) s ≡ item_in old (number_of region) s
    put-other s ne = item_in-put old mid region x node live puts fresh s ∙ ap (λ b. if b then Some x else item_in old (number_of region) s) (ne_eqb (slot_of node) s (λ h. ne (sym h)))

    pub put-plants : (index : ℕ) (b : B) → Alone x index b → index < 2 ^ 32 → slot_of node ≢ nowhere → Plants (item_in old (number_of region)) (item_in mid (number_of region)) (slot_of node) b
    put-plants index b alone small there = plants (item_in old (number_of region)) (item_in mid (number_of region)) (slot_of node) x index b (record { alone = alone; small = small; fresh = fresh; there = there; new = put-here }) put-other

    -- the node by which a part will hang is there still
    pub still-linked : (spots : ℕ → Option Spot) → AreNodes (item_in old (number_of region)) spots → (s : ℕ) (p : Spot) (index at by : ℕ) → index < 2 ^ 32 → spots s ≡ Some p → seek_part (item_in old (number_of region)) s index ≡ free at by → (item : Entry B) × (item_in mid (number_of region) at ≡ Some item)
    still-linked spots nodes s p index at by small known ends =
        let e = part-free (item_in old (number_of region)) spots nodes s p index at by small known ends in
        (e.way.entry, put-other at (λ h. some-not_none (item_in old (number_of region) at) e.way.entry e.way.lies (ap (item_in old (number_of region)) h ∙ fresh)) ∙ e.way.lies)

    pub keeps-put : ((other : Region) → IsLive old other → IsLive mid other) → KeepsRegions old mid (number_of region)
    keeps-put live = record { live = live; others = λ other ne. region_at-put_other old mid region x node puts other ne }

    -- the link of another node is written
    module _ (at to : Link) (by index : ℕ) (b : B) (alone : Alone x index b) (small : index < 2 ^ 32) (there : slot_of node ≢ nowhere) (to-is : lies_at to ≡ slot_of node) (r : Entry B) (reads : (item : Entry B) → item_in mid (number_of region) (lies_at at) ≡ Some item → r ≡ item) (spots : ℕ → Option Spot) (nodes : AreNodes (item_in old (number_of region)) spots) (s : ℕ) (p : Spot) (known : spots s ≡ Some p) (ends : seek_part (item_in old (number_of region)) s index ≡ free (lies_at at) by) where
      abbrev m : ℕ → Option (Entry B)
      m = item_in old (number_of region)

      abbrev f : Entry B
      f = record { index = r.index; links = set r.links by to; body = r.body }

      abbrev m' : ℕ → Option (Entry B)
      m' = item_in (with_linked mid at f) (number_of region)

      ended : Ends m spots s p.place index (lies_at at) by
      ended = part-free m spots nodes s p index (lies_at at) by small known ends

      at-known : spots (lies_at at) ≡ Some ended.way.spot
      at-known = ended.way.known

      at-apart : lies_at at ≢ slot_of node
      at-apart h = some-not_none (m (lies_at at)) ended.way.entry ended.way.lies (ap m h ∙ fresh)

      mid-at : item_in mid (number_of region) (lies_at at) ≡ Some ended.way.entry
      mid-at = put-other (lies_at at) at-apart ∙ ended.way.lies

      read : r ≡ ended.way.entry
      read = reads ended.way.entry mid-at

      wide : length r.links ≡ 5
      wide = let y = nodes.entries (lies_at at) ended.way.spot at-known in ap (λ (z : Entry B). length z.links) (read ∙ same_Some ended.way.entry y.entry (sym ended.way.lies ∙ y.lies)) ∙ y.links

      written : (t : ℕ) → m' t ≡ (if eqb t (lies_at at) then option_map (λ was. f) (item_in mid (number_of region) t) else item_in mid (number_of region) t)
      written t = item_in-linked mid at f (number_of region) t

      written-here : m' (lies_at at) ≡ Some f
      written-here = written (lies_at at) ∙ ap (λ b. if b then option_map (λ was. f) (item_in mid (number_of region) (lies_at at)) else item_in mid (number_of region) (lies_at at)) (eq-eqb (lies_at at) (lies_at at) refl) ∙ ap (option_map (λ was. f)) mid-at

      written-other : (t : ℕ) → t ≢ lies_at at → m' t ≡ item_in mid (number_of region) t
      written-other t ne = written t ∙ ap (λ b. if b then option_map (λ was. f) (item_in mid (number_of region) t) else item_in mid (number_of region) t) (ne_eqb t (lies_at at) ne)

      less : (k l : ℕ) → k < 5 → l ≡ 5 → k < l
      less k l h j = omega arith

      adds : Adds m m' (lies_at to) x index b
      adds = record {
        alone = alone;
        small = small;
        fresh = ap m to-is ∙ fresh;
        there = λ h. there (sym to-is ∙ h);
        new = ap m' to-is ∙ written-other (slot_of node) (λ h. at-apart (sym h)) ∙ put-here;
      }

      links : Links m m' (lies_at to) (lies_at at) by ended.way.entry f
      links = record {
        was = ended.way.lies;
        free_link = ended.free_link;
        now = written-here;
        kept = record {
          number = ap (λ (z : Entry B). z.index) read;
          links = length-set r.links by to ∙ ap (λ (z : Entry B). length z.links) read;
          body = ap (λ (z : Entry B). z.body) read;
        };
        here = ap lies_at (get_or-set_same r.links by to no_link (less by (length r.links) ended.way.bound wide));
        elsewhere = λ d ne. ap lies_at (get_or-set_other r.links by d to no_link ne) ∙ ap (λ (z : Entry B). leads z d) read;
        others = λ t ne apart. written-other t apart ∙ put-other t (λ h. ne (h ∙ sym to-is));
      }

      pub put-hangs : HangsPart m m' spots s p index (lies_at to) b
      put-hangs = hangs-part m m' (lies_at to) x index b adds spots nodes s p known (lies_at at) by ends ended.way.entry f links

  pub keeps-both : (a b c : Pool (Entry B)) (number : ℕ) → KeepsRegions a b number → KeepsRegions b c number → KeepsRegions a c number
  keeps-both a b c number h k = record {
    live = λ region live. k.live region (h.live region live);
    others = λ other ne. k.others other ne ∙ h.others other ne;
  }
