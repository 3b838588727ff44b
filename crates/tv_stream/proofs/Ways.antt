-- The way to a part and back, as the calls go it.
use Rattle.std.proofs.Common.{◌≡◌, ℕ, zero, suc, ◌<◌, ◌≤◌, ◌^◌, arith, length, true, false, List, [], ◌∷◌, refl, sym, ap, ◌∙◌, subst, Option, Some, None, ◌⊎◌, inl, inr, get_or, le_of_suc-le-suc, not-suc-le-zero}
use Rattle.std.specs.Prelude.{is_some}
use Rattle.std.proofs.lemmas.Bool.{false≢true}
use Rattle.tv_pool.specs.Pool.{Pool, item_in}
use Rattle.tv_parts.specs.Partials.{Partial, wanting, item, growing, closed, Parts, part_at, known_at, whole_count, part_count}
use Rattle.tv_parts.specs.Changes.{is_place, CanArrive, CanClose}
use Rattle.tv_parts.proofs.Wholeness.{whole-counts}
use Rattle.tv_stream.specs.declared.nodes.Entry.{Entry}
use Rattle.tv_stream.specs.nodes.Nodes.{part_in, body_in}
use Rattle.tv_stream.specs.nodes.Stands.{Spot, AreNodes, IsNode}
use Rattle.tv_stream.specs.declared.held.Held.{Held}
use Rattle.tv_stream.specs.declared.refusals.ArriveRefused.{ArriveRefused}
use Rattle.tv_stream.specs.declared.refusals.ArriveRefused.TheVariants.{NoSuchPlace, Occupied, NoMemory}
use Rattle.tv_stream.specs.declared.refusals.CloseRefused.{CloseRefused}
use Rattle.tv_stream.specs.declared.refusals.CloseRefused.TheVariants.{NoSuchPlace as NoPlaceToClose, AlreadyClosed, WrongLength, NoMemory as NoMemoryToClose}
use Rattle.tv_stream.specs.Trees.{Marked, count_of, optional, parts_by, tree_by, tree_at}
use Rattle.tv_stream.specs.Stands.{IsSound}
use Rattle.tv_stream.specs.Inside.{counts_of, has_index, InTree, Parted, ArrivesIn, ClosesIn, RefusesArrivalIn, RefusesCloseIn}
use Rattle.tv_stream.proofs.Listed.{count-listed}
use Rattle.tv_stream.proofs.Same.{tree-suc, part-tree}
use Rattle.tv_stream.proofs.Counting.{list-like}
use Rattle.tv_stream.proofs.Steps.{part-in-tree, part-tree-is, body-after, node-after, known-after}
use Rattle.tv_stream.proofs.Bases.{counted-as}
use Rattle.tv_stream.proofs.Places.{place-wanting, known-wanting, place-step, arrive-can, close-can}

pub nil-of : (l : List ℕ) → length l ≡ 0 → [] ≡ l
nil-of [] h = refl
nil-of (i ∷ l) h = absurd (never (length l) h)
  where
    never : (n : ℕ) → suc n ≡ 0 → ⊥
    never n h = omega arith

-- what is there
pub some-of : {A : Type 0} (o : Option A) → is_some o ≡ true → (x : A) × (o ≡ Some x)
some-of None h = absurd (false≢true h)
some-of (Some x) h = (x, refl)

pub tall-place : (l : List ℕ) (i : ℕ) (q : List ℕ) (h : ℕ) → l ≡ i ∷ q → length l ≤ h → suc (length q) ≤ h
tall-place l i q h e k = subst (λ x. length x ≤ h) e k

pub head-fits : (l : List ℕ) (i : ℕ) (q : List ℕ) → l ≡ i ∷ q → get_or l 0 0 < 2 ^ 32 → i < 2 ^ 32
head-fits l i q e k = subst (λ x. get_or x 0 0 < 2 ^ 32) e k

pub no-tall : (l : List ℕ) (i : ℕ) (q : List ℕ) → l ≡ i ∷ q → length l ≤ 0 → ⊥
no-tall l i q e k = never (length q) (subst (λ x. length x ≤ 0) e k)
  where
    never : (n : ℕ) → suc n ≤ 0 → ⊥
    never n h = omega arith

pub pool-spare : {T : Type 0} (a b : Pool (Entry (Held T))) (P : Type 0) → P ⊎ (a ≡ b) → P ⊎ (a.spare ≡ b.spare)
pool-spare a b P (inl h) = inl h
pool-spare a b P (inr h) = inr (ap (λ x. x.spare) h)

pub same-regions : {T : Type 0} (a b : Pool (Entry (Held T))) (P : Type 0) → P ⊎ (a ≡ b) → (P → ⊥) → a.regions ≡ b.regions
same-regions a b P (inl h) never = absurd (never h)
same-regions a b P (inr h) never = ap (λ x. x.regions) h

module _ {T : Type 0} where
  pub node-of : (pool : Pool (Entry (Held T))) (number : ℕ) (spots : ℕ → Option Spot) (s h : ℕ) → InTree (item_in pool number) spots s h → IsNode pool number s
  node-of pool number spots s h inside = record { spots = spots; nodes = inside.nodes; spot = inside.spot; known = inside.known }

  -- what is counted is far from overflowing
  pub whole-small : (h : ℕ) (m : ℕ → Option (Entry (Held T))) (s i : ℕ) (b : Held T) → body_in m s ≡ Some b → has_index b.part i ≡ true → IsSound (suc h) m s → (counts_of b.part).whole < 2 ^ 63
  whole-small h m s i b body has sound =
      let like = list-like (IsSound h m) (tree_at h m) m s i b.marked b.part has (counted-as h m s b body sound) in
      let c = counts_of b.part in
      let ps = parts_by (tree_at h m) m s (count_of c) in
      less c.whole (whole_count ps) (part_count ps) (count_of c) like.counts.whole (whole-counts ps).1 (count-listed (count_of c) (λ j. optional (tree_at h m) (part_in m s j))) like.counts.few
    where
      less : (a b c d : ℕ) → a ≡ b → b ≤ c → c ≡ d → d ≤ 2 ^ 32 → a < 2 ^ 63
      less a b c d h k l e = omega arith

  module _ (m mid : ℕ → Option (Entry (Held T))) (s t i : ℕ) (q : List ℕ) (parts : (spots : ℕ → Option Spot) (p : Spot) → AreNodes m spots → spots s ≡ Some p → Parted m mid spots s i t) where
    -- into the part
    pub enter : (spots : ℕ → Option Spot) (height : ℕ) → InTree m spots s height → suc (length q) ≤ height → (more : ℕ → Option Spot) × ((h : ℕ) × (InTree mid more t h × (length q ≤ h)))
    enter spots zero inside tall = absurd (not-suc-le-zero {n = length q} tall)
    enter spots (suc h) inside tall =
        let parted = parts spots inside.spot inside.nodes inside.known in
        (parted.more, (h, (part-in-tree m mid spots s i t h inside parted, le_of_suc-le-suc {n = length q} {m = h} tall)))

    pub enter-close : (spots : ℕ → Option Spot) (height : ℕ) → InTree m spots s height → suc (length q) < height → (more : ℕ → Option Spot) × ((h : ℕ) × (InTree mid more t h × (length q < h)))
    enter-close spots zero inside tall = absurd (never (length q) tall)
      where
        never : (n : ℕ) → suc n < 0 → ⊥
        never n h = omega arith
    enter-close spots (suc h) inside tall =
        let parted = parts spots inside.spot inside.nodes inside.known in
        (parted.more, (h, (part-in-tree m mid spots s i t h inside parted, le_of_suc-le-suc {n = (suc (length q))} {m = h} tall)))

    module _ (m2 : ℕ → Option (Entry (Held T))) (b : Held T) (body : body_in m s ≡ Some b) (has : has_index b.part i ≡ true) (small : i < 2 ^ 32) where
      -- the node after the part was changed, and what it counts
      pub record After : Type 0 where
        pub more : ℕ → Option Spot
        pub spot : Spot
        pub nodes : AreNodes m2 more
        pub known : more s ≡ Some spot
        pub held : body_in m2 s ≡ Some b
        pub whole : (counts_of b.part).whole < 2 ^ 63

      pub arrive-after : (x : Marked T) (least : ℕ) → ArrivesIn mid m2 t q x least → (spots : ℕ → Option Spot) (height : ℕ) → InTree m spots s height → suc (length q) ≤ height → After
      arrive-after x least inner spots zero inside tall = absurd (not-suc-le-zero {n = length q} tall)
      arrive-after x least inner spots (suc h) inside tall =
          let parted = parts spots inside.spot inside.nodes inside.known in
          let r = (inner.all parted.more h (part-in-tree m mid spots s i t h inside parted) (le_of_suc-le-suc {n = length q} {m = h} tall)).1 in
          record {
            more = r.changes.more;
            spot = inside.spot;
            nodes = node-after m mid spots s i t h inside parted m2 m2 b body has small q x.marked _ _ r;
            known = known-after m mid spots s i t h inside parted m2 m2 b body has small q x.marked _ _ r;
            held = body-after m mid spots s i t h inside parted m2 m2 b body has small q x.marked _ _ r;
            whole = whole-small h m s i b body has inside.sound;
          }

      pub close-after : (n : ℕ) (least : Option ℕ) → ClosesIn mid m2 t q n least → (spots : ℕ → Option Spot) (height : ℕ) → InTree m spots s height → suc (length q) < height → After
      close-after n least inner spots zero inside tall = absurd (never (length q) tall)
        where
          never : (n : ℕ) → suc n < 0 → ⊥
          never n h = omega arith
      close-after n least inner spots (suc h) inside tall =
          let parted = parts spots inside.spot inside.nodes inside.known in
          let r = (inner.all parted.more h (part-in-tree m mid spots s i t h inside parted) (le_of_suc-le-suc {n = (suc (length q))} {m = h} tall)).1 in
          record {
            more = r.changes.more;
            spot = inside.spot;
            nodes = node-after m mid spots s i t h inside parted m2 m2 b body has small q false _ _ r;
            known = known-after m mid spots s i t h inside parted m2 m2 b body has small q false _ _ r;
            held = body-after m mid spots s i t h inside parted m2 m2 b body has small q false _ _ r;
            whole = whole-small h m s i b body has inside.sound;
          }

    -- ---- refusals inside the part

    module _ (spots : ℕ → Option Spot) (h : ℕ) (inside : InTree m spots s (suc h)) (b : Held T) (body : body_in m s ≡ Some b) (has : has_index b.part i ≡ true) where
      abbrev inner_tree : Partial (Marked T)
      inner_tree = tree_at h mid t

      abbrev tree : Partial (Marked T)
      tree = tree_at (suc h) m s

      tree-is : tree ≡ tree_by (tree_at h m) m s b.marked b.part
      tree-is = tree-suc h m s b body

      pub inner-is : inner_tree ≡ part_at tree i
      inner-is = part-tree-is m mid spots s i t h inside (parts spots inside.spot inside.nodes inside.known)

      place-is : is_place (i ∷ q) tree ≡ is_place q inner_tree
      place-is = ap (is_place (i ∷ q)) tree-is ∙ place-step (tree_at h m) m s b.marked i b.part q has ∙ ap (λ r. is_place q (part_at r i)) (sym tree-is) ∙ ap (is_place q) (sym inner-is)

      known-is : known_at (i ∷ q) tree ≡ known_at q inner_tree
      known-is = ap (known_at q) (sym inner-is)

      arrive-is : CanArrive q inner_tree → CanArrive (i ∷ q) tree
      arrive-is can = subst (CanArrive (i ∷ q)) (sym tree-is) (arrive-can (tree_at h m) m s b.marked i b.part q has (subst (λ r. CanArrive q (part_at r i)) tree-is (subst (CanArrive q) inner-is can)))

      close-is : (n : ℕ) → CanClose q n inner_tree → CanClose (i ∷ q) n tree
      close-is n can = subst (CanClose (i ∷ q) n) (sym tree-is) (close-can (tree_at h m) m s b.marked i b.part q n has (subst (λ r. CanClose q n (part_at r i)) tree-is (subst (CanClose q n) inner-is can)))

      more : (a n : ℕ) → a < n → a < suc n
      more a n h = omega arith

      pub refuse-arrive : (spare : ℕ) (x : T) (e : ArriveRefused T) → RefusesArrivalIn spare q x inner_tree e → RefusesArrivalIn spare (i ∷ q) x tree e
      refuse-arrive spare x (NoSuchPlace y) r = (r.0, place-is ∙ r.1)
      refuse-arrive spare x (Occupied y) r = (r.0, place-is ∙ r.1, λ k. r.2 (sym known-is ∙ k))
      refuse-arrive spare x (NoMemory y) r = (r.0, arrive-is r.1, more spare (length q) r.2)

      pub refuse-close : (spare n : ℕ) (e : CloseRefused) → RefusesCloseIn spare q n inner_tree e → RefusesCloseIn spare (i ∷ q) n tree e
      refuse-close spare n NoPlaceToClose r = λ k. let x = r (sym place-is ∙ k) in (x.0, known-is ∙ x.1)
      refuse-close spare n AlreadyClosed r = (place-is ∙ r.0, (r.1.0, known-is ∙ r.1.1))
      refuse-close spare n (WrongLength asked needed) r = (place-is ∙ r.0, (r.1.0, known-is ∙ r.1.1, r.1.2, r.1.3), r.2, r.3)
      refuse-close spare n NoMemoryToClose r = (close-is n r.0, more spare (length q) r.1)

      -- where the part is new, nothing is known of it
      pub inner-new : part_in m s i ≡ None → inner_tree ≡ wanting
      inner-new none = inner-is ∙ part-tree h m s inside.sound i ∙ ap (optional (tree_at h m)) none

  -- an item is not refused where nothing is known and there is room, nor is a close
  pub never-refused : (q : List ℕ) (spare : ℕ) (x : T) (r : Partial (Marked T)) (e : ArriveRefused T) → r ≡ wanting → length q ≤ spare → RefusesArrivalIn spare q x r e → ⊥
  never-refused q spare x r (NoSuchPlace y) is room h = false≢true (sym h.1 ∙ ap (is_place q) is ∙ place-wanting (Marked T) q)
  never-refused q spare x r (Occupied y) is room h = h.2 (ap (known_at q) is ∙ known-wanting (Marked T) q)
  never-refused q spare x r (NoMemory y) is room h = less (length q) spare room h.2
    where
      less : (n s : ℕ) → n ≤ s → s < n → ⊥
      less n s h k = omega arith

  pub never-refused-close : (q : List ℕ) (spare n : ℕ) (r : Partial (Marked T)) (e : CloseRefused) → r ≡ wanting → length q ≤ spare → RefusesCloseIn spare q n r e → ⊥
  never-refused-close q spare n r NoPlaceToClose is room h =
      let x = h (ap (is_place q) is ∙ place-wanting (Marked T) q) in never x.0 (sym x.1 ∙ ap (known_at q) is ∙ known-wanting (Marked T) q)
    where
      never : (x : Marked T) → item x ≡ wanting → ⊥
      never x h = cc
  never-refused-close q spare n r AlreadyClosed is room h = never h.1.0 (sym h.1.1 ∙ ap (known_at q) is ∙ known-wanting (Marked T) q)
    where
      never : (ps : Parts (Marked T)) → closed ps ≡ wanting → ⊥
      never ps h = cc
  never-refused-close q spare n r (WrongLength asked needed) is room h = never h.1.0 (sym h.1.1 ∙ ap (known_at q) is ∙ known-wanting (Marked T) q)
    where
      never : (ps : Parts (Marked T)) → growing ps ≡ wanting → ⊥
      never ps h = cc
  never-refused-close q spare n r NoMemoryToClose is room h = less (length q) spare room h.1
    where
      less : (n s : ℕ) → n ≤ s → s < n → ⊥
      less n s h k = omega arith
