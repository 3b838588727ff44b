-- A change of a node itself.
use Rattle.std.proofs.Common.{◌≡◌, ◌≢◌, ℕ, zero, suc, ◌<◌, ◌≤◌, ◌^◌, ◌==◌, nat_lt, arith, Result, Ok, Err, Bool, true, false, ◌||◌, if◌then◌else◌, List, [], ◌∷◌, ◌++◌, refl, sym, ap, ◌∙◌, subst, Option, Some, None, ◌⊎◌, inl, inr}
use Rattle.std.specs.Option.{option_map, is_some}
use Rattle.std.specs.Result.{OnErr}
use Rattle.std.proofs.lemmas.Bool.{cases_eq}
use Rattle.std.proofs.lemmas.List.{append-nil}
use Rattle.std.proofs.lemmas.Option.{same_Some}
use Rattle.std.proofs.Math.Bool.{or-false}
use Rattle.tv_lemmas.proofs.Options.{some-not_none}
use Rattle.tv_parts.specs.Partials.{Partial, wanting, item, growing, closed, Parts, no_parts, part, part_count, whole, whole_count, holds_some, some_holds}
use Rattle.tv_parts.specs.Changes.{filled, arrive, close_here, close_at, CanArrive, CanClose}
use Rattle.tv_parts.proofs.Wholeness.{whole-counts}
use Rattle.tv_pool.specs.Pool.{Pool, item_in}
use Rattle.tv_stream.specs.declared.nodes.Entry.{Entry}
use Rattle.tv_stream.specs.nodes.Nodes.{part_in, body_in}
use Rattle.tv_stream.specs.nodes.Stands.{Spot, AreNodes, with_spot}
use Rattle.tv_stream.specs.nodes.Calls.{Sets, HangsPart, KeepsRegions}
use Rattle.tv_stream.proofs.Hanging.{spot-here, spot-other}
use Rattle.tv_stream.proofs.NodeWays.{part-spot}
use Rattle.tv_stream.specs.declared.held.Held.{Held}
use Rattle.tv_stream.specs.declared.held.Part.{Part}
use Rattle.tv_stream.specs.declared.held.Counts.{Counts}
use Rattle.tv_stream.specs.declared.held.Part.TheVariants.{Wanting, Item, Numbered}
use Rattle.tv_stream.specs.Trees.{Marked, listed, count_of, list_of, optional, parts_by, tree_by, tree_at, least_whole}
use Rattle.tv_stream.specs.Stands.{is_marked, AreCounted, IsCounted, HasNoParts, IsLeaf, IsSound}
use Rattle.tv_stream.specs.Answers.{LastIsKnown}
use Rattle.tv_stream.specs.Inside.{counts_ended, counts_whole, counts_of, has_index, nothing, InTree, Below, Parted, Changes, Changed}
use Rattle.tv_stream.proofs.Listed.{listed-same, filled-listed, count-filled, holds-filled, count-listed, part-listed}
use Rattle.tv_stream.proofs.Same.{Agrees, same-tree, same-sound, tree-suc, tree-zero, sound-suc, sound-zero, sound-from, sound-leaf}
use Rattle.tv_stream.proofs.Counting.{list-like, beyond, whole-as}
use Rattle.tv_stream.proofs.Steps.{not-own}

pub no-some : (o : Option ℕ) → is_some o ≡ false → o ≡ None
no-some None h = refl
no-some (Some n) h = absurd (cc)

filled-count : {A : Type 0} (ps : Parts A) (n : ℕ) → part_count ps ≤ n → part_count (filled ps n) ≡ n
filled-count no_parts zero h = refl
filled-count (part p ps) zero h = absurd (never (part_count ps) h)
  where
    never : (n : ℕ) → suc n ≤ 0 → ⊥
    never n h = omega arith
filled-count no_parts (suc n) h = ap suc (filled-count no_parts n (least n))
  where
    least : (n : ℕ) → 0 ≤ n
    least n = omega arith
filled-count (part p ps) (suc n) h = ap suc (filled-count ps n (down (part_count ps) n h))
  where
    down : (a n : ℕ) → suc a ≤ suc n → a ≤ n
    down a n h = omega arith

-- pools with the same regions have the same items
pub same-memory : {A : Type 0} (a b : Pool A) (number : ℕ) → a.regions ≡ b.regions → item_in a number ≡ item_in b number
same-memory {A} a b number h = ap (λ rs. let q : Pool A = record { regions = rs; spare = 0 } in item_in q number) h

module _ {T : Type 0} where
  module _ (m m' : ℕ → Option (Entry (Held T))) (spots : ℕ → Option Spot) (s h : ℕ) (inside : InTree m spots s h) (b : Held T) (sets : Sets m m' s b) where
    own-not : (u : ℕ) (v : Spot) → spots u ≡ Some v → (Below inside.spot.place v.place → ⊥) → u ≢ s
    own-not u v k apart same = apart ([], ap (λ (x : Spot). x.place) (same_Some v inside.spot (sym k ∙ ap spots same ∙ inside.known)) ∙ sym (append-nil inside.spot.place))

    pub base-changes : IsSound h m' s → Changes m m' spots s inside.spot h
    base-changes sound = record {
      more = spots;
      nodes = sets.nodes spots inside.nodes;
      sound = sound;
      known = λ u q k. k;
      fresh = λ u none. inl none;
      parts = λ u q j k apart. sets.parts u j;
      bodies = λ u q k apart. ap (option_map (λ x. x.body)) (sets.others u (own-not u q k apart));
      others = λ u none. sets.others u (λ same. some-not_none (spots u) inside.spot (ap spots same ∙ inside.known) none);
    }

    no-parts-after : HasNoParts m s → HasNoParts m' s
    no-parts-after none i = sets.parts s i ∙ none i

  -- what the body of a node says of its tree
  pub body-tree : (h : ℕ) (m : ℕ → Option (Entry (Held T))) (s : ℕ) (b : Held T) → body_in m s ≡ Some b → (f : ℕ → Partial (Marked T)) × (tree_at h m s ≡ tree_by f m s b.marked b.part)
  body-tree zero m s b body = (λ t. wanting, tree-zero m s b body)
  body-tree (suc h) m s b body = (tree_at h m, tree-suc h m s b body)

  pub no-parts : (h : ℕ) (m : ℕ → Option (Entry (Held T))) (s : ℕ) (b : Held T) → body_in m s ≡ Some b → b.part ≡ Wanting → IsSound h m s → HasNoParts m s
  no-parts zero m s b body is sound =
      let x = sound-zero m s sound in
      (subst (λ w. IsLeaf m s x.0.marked w) (ap (λ (y : Held T). y.part) (same_Some x.0 b (sym x.1 ∙ body)) ∙ is) x.2).1
  no-parts (suc h) m s b body is sound =
      let x = sound-suc h m s sound in
      (subst (λ w. IsCounted (IsSound h m) (tree_at h m) m s x.0.marked w) (ap (λ (y : Held T). y.part) (same_Some x.0 b (sym x.1 ∙ body)) ∙ is) x.2).1

  pub counted-as : (h : ℕ) (m : ℕ → Option (Entry (Held T))) (s : ℕ) (b : Held T) → body_in m s ≡ Some b → IsSound (suc h) m s → IsCounted (IsSound h m) (tree_at h m) m s b.marked b.part
  counted-as h m s b body sound = let x = sound-suc h m s sound in subst (λ (y : Held T). IsCounted (IsSound h m) (tree_at h m) m s y.marked y.part) (same_Some x.0 b (sym x.1 ∙ body)) x.2

  pub wanting-tree : (h : ℕ) (m : ℕ → Option (Entry (Held T))) (s : ℕ) (b : Held T) → body_in m s ≡ Some b → b.part ≡ Wanting → tree_at h m s ≡ wanting
  wanting-tree h m s b body is = let t = body-tree h m s b body in t.1 ∙ ap (tree_by t.0 m s b.marked) is

  item-sound : (h : ℕ) (m : ℕ → Option (Entry (Held T))) (s : ℕ) (v : T) (mark : Bool) → body_in m s ≡ Some (record { marked = mark; part = Item v }) → HasNoParts m s → IsSound h m s
  item-sound zero m s v mark body none = sound-leaf m s (record { marked = mark; part = Item v }) body none
  item-sound (suc h) m s v mark body none = sound-from h m s (record { marked = mark; part = Item v }) body none

  item-tree : (h : ℕ) (m : ℕ → Option (Entry (Held T))) (s : ℕ) (v : T) (mark : Bool) → body_in m s ≡ Some (record { marked = mark; part = Item v }) → tree_at h m s ≡ item (record { value = v; marked = mark })
  item-tree h m s v mark body = (body-tree h m s (record { marked = mark; part = Item v }) body).1

  item-there : (x : Marked T) → item x ≢ wanting
  item-there x h = cc

  closed-there : (ps : Parts (Marked T)) → closed ps ≢ wanting
  closed-there ps h = cc

  -- an item arrives at the node itself
  pub base-arrive : (m m' : ℕ → Option (Entry (Held T))) (spots : ℕ → Option Spot) (s h : ℕ) (inside : InTree m spots s h) (b : Held T) → body_in m s ≡ Some b → b.part ≡ Wanting → (v : T) (mark : Bool) → Sets m m' s (record { marked = mark; part = Item v }) → CanArrive [] (tree_at h m s) × Changed m m' spots s inside.spot h [] mark (arrive [] (record { value = v; marked = mark }) (tree_at h m s)) (Some 0)
  base-arrive m m' spots s h inside b body is v mark sets =
      let was = wanting-tree h m s b body is in (
        subst (CanArrive []) (sym was) tt,
        record {
          changes = base-changes m m' spots s h inside (record { marked = mark; part = Item v }) sets (item-sound h m' s v mark sets.body (no-parts-after m m' spots s h inside (record { marked = mark; part = Item v }) sets (no-parts h m s b body is inside.sound)));
          tree_is = item-tree h m' s v mark sets.body;
          there = item-there (record { value = v; marked = mark });
          open_before = ap whole was;
          marks = ap (λ r. holds_some is_marked r || mark) (sym was);
          least_is = refl;
        },
      )

  -- the list that stands at the node itself, or may, is closed
  module _ (m m' : ℕ → Option (Entry (Held T))) (spots : ℕ → Option Spot) (s h : ℕ) (inside : InTree m spots s (suc h)) (b : Held T) (body : body_in m s ≡ Some b) (n : ℕ) (small : n < 2 ^ 32) (has : has_index b.part 0 ≡ true) (no-length : (counts_of b.part).length ≡ None) (fits : (counts_of b.part).most ≤ n) (sets : Sets m m' s (record { marked = b.marked; part = Numbered (counts_ended (counts_of b.part) n) })) where
    abbrev c : Counts
    c = counts_of b.part

    abbrev d : Counts
    d = counts_ended c n

    abbrev F : ℕ → Partial (Marked T)
    F j = optional (tree_at h m) (part_in m s j)

    abbrev G : ℕ → Partial (Marked T)
    G j = optional (tree_at h m') (part_in m' s j)

    counted : AreCounted (IsSound h m) (tree_at h m) m s b.marked c
    counted = (list-like (IsSound h m) (tree_at h m) m s 0 b.marked b.part has (counted-as h m s b body inside.sound)).counts

    agrees : (j : ℕ) (r : List ℕ) → r ≡ inside.spot.place ++ j ∷ [] → Agrees m m' spots r
    agrees j r is = record {
      bodies = λ u v y known e. ap (option_map (λ x. x.body)) (sets.others u (λ same. not-own inside.spot.place j y (ap (λ (x : Spot). x.place) (same_Some inside.spot v (sym inside.known ∙ ap spots (sym same) ∙ known)) ∙ e ∙ ap (λ x. x ++ y) is)));
      parts = λ u v y k known e. sets.parts u k;
    }

    same : (j : ℕ) → G j ≡ F j
    same j = ap (optional (tree_at h m')) (sets.parts s j) ∙ by (part_in m s j) refl
      where
        by : (o : Option ℕ) → part_in m s j ≡ o → optional (tree_at h m') o ≡ optional (tree_at h m) o
        by None is = refl
        by (Some u) is = let w = part-spot m spots inside.nodes s inside.spot j u inside.known is in same-tree m m' spots inside.nodes h u w.0 w.1 (agrees j w.0.place w.2)

    most-count : count_of c ≡ c.most
    most-count = ap (λ o. elim o [ None ↦ c.most | Some k ↦ k ]) no-length

    filled-is : filled (listed (count_of c) F) n ≡ listed n G
    filled-is =
        ap (λ k. filled (listed k F) n) most-count
        ∙ filled-listed n c.most F fits (λ j k. beyond (IsSound h m) (tree_at h m) (tree_at h m) m s b.marked c counted j (less (count_of c) c.most j most-count k))
        ∙ sym (listed-same n G F same)
      where
        less : (a b j : ℕ) → a ≡ b → b ≤ j → a ≤ j
        less a b j e h = omega arith

    whole-is : d.whole ≡ whole_count (listed n G)
    whole-is = counted.whole ∙ sym (count-filled (listed (count_of c) F) n) ∙ ap whole_count filled-is

    closed-counted : AreCounted (IsSound h m') (tree_at h m') m' s b.marked d
    closed-counted = record {
      whole = whole-is;
      marks = counted.marks ∙ sym (holds-filled is_marked (listed (count_of c) F) n) ∙ ap (some_holds is_marked) filled-is;
      counted = fits;
      few = few n small;
      within = λ i t e. counted.within i t (sym (sets.parts s i) ∙ e);
      last = λ i e w. counted.last i e (sym (same i) ∙ w);
      sound = λ i t e. let found = sym (sets.parts s i) ∙ e in let w = part-spot m spots inside.nodes s inside.spot i t inside.known found in same-sound m m' spots inside.nodes h t w.0 w.1 (agrees i w.0.place w.2) (counted.sound i t found);
    }
      where
        few : (k : ℕ) → k < 2 ^ 32 → k ≤ 2 ^ 32
        few k h = omega arith

    -- what is closed, in the terms of the counts
    close-is : (f : ℕ → Partial (Marked T)) (w : Part T) → has_index w 0 ≡ true → (counts_of w).length ≡ None → close_here n (tree_by f m s b.marked w) ≡ closed (filled (parts_by f m s (count_of (counts_of w))) n)
    close-is f Wanting h k = refl
    close-is f (Item v) h k = absurd (never h)
      where
        never : false ≡ true → ⊥
        never h = cc
    close-is f (Numbered e) h k = ap (λ o. close_here n (list_of o (parts_by f m s (count_of e)))) k

    can-is : (f : ℕ → Partial (Marked T)) (w : Part T) → has_index w 0 ≡ true → (counts_of w).length ≡ None → (counts_of w).most ≤ n → CanClose [] n (tree_by f m s b.marked w)
    can-is f Wanting h k l = tt
    can-is f (Item v) h k l = absurd (never h)
      where
        never : false ≡ true → ⊥
        never h = cc
    can-is f (Numbered e) h k l = subst (λ o. CanClose [] n (list_of o (parts_by f m s (count_of e)))) (sym k) (less (part_count (parts_by f m s (count_of e))) (count_of e) e.most (count-listed (count_of e) (λ i. optional f (part_in m s i))) (ap (λ o. elim o [ None ↦ e.most | Some j ↦ j ]) k) l)
      where
        less : (a b c : ℕ) → a ≡ b → b ≡ c → c ≤ n → a ≤ n
        less a b c h k l = omega arith

    open-is : (f : ℕ → Partial (Marked T)) (w : Part T) → has_index w 0 ≡ true → (counts_of w).length ≡ None → whole (tree_by f m s b.marked w) ≡ false
    open-is f Wanting h k = refl
    open-is f (Item v) h k = absurd (never h)
      where
        never : false ≡ true → ⊥
        never h = cc
    open-is f (Numbered e) h k = ap (λ o. whole (list_of o (parts_by f m s (count_of e)))) k

    close-tree : close_at [] n (tree_at (suc h) m s) ≡ closed (filled (listed (count_of c) F) n)
    close-tree = ap (close_here n) (tree-suc h m s b body) ∙ close-is (tree_at h m) b.part has no-length

    pub base-close : CanClose [] n (tree_at (suc h) m s) × Changed m m' spots s inside.spot (suc h) [] false (close_at [] n (tree_at (suc h) m s)) (if counts_whole d then Some 0 else None)
    base-close = (
      subst (CanClose [] n) (sym (tree-suc h m s b body)) (can-is (tree_at h m) b.part has no-length fits),
      record {
        changes = base-changes m m' spots s (suc h) inside (record { marked = b.marked; part = Numbered d }) sets (sound-from h m' s (record { marked = b.marked; part = Numbered d }) sets.body closed-counted);
        tree_is = tree-suc h m' s (record { marked = b.marked; part = Numbered d }) sets.body ∙ ap closed (sym filled-is) ∙ sym close-tree;
        there = λ w. closed-there (filled (listed (count_of c) F) n) (sym close-tree ∙ w);
        open_before = ap whole (tree-suc h m s b body) ∙ open-is (tree_at h m) b.part has no-length;
        marks =
            ap (holds_some is_marked) close-tree
            ∙ holds-filled is_marked (listed (count_of c) F) n
            ∙ sym (ap (holds_some is_marked) (tree-suc h m s b body) ∙ (list-like (IsSound h m) (tree_at h m) m s 0 b.marked b.part has (counted-as h m s b body inside.sound)).holds)
            ∙ sym (or-false (holds_some is_marked (tree_at (suc h) m s)));
        least_is = ap (least_whole []) (close-tree ∙ ap closed filled-is) ∙ ap (λ x. if x then Some 0 else None) (whole-as d G whole-is);
      },
    )

  pub changed-least : (m m' : ℕ → Option (Entry (Held T))) (spots : ℕ → Option Spot) (s : ℕ) (p : Spot) (h : ℕ) (q : List ℕ) (mark : Bool) (tree : Partial (Marked T)) (l k : Option ℕ) → l ≡ k → Changed m m' spots s p h q mark tree l → Changed m m' spots s p h q mark tree k
  changed-least m m' spots s p h q mark tree l k e x = record { changes = x.changes; tree_is = x.tree_is; there = x.there; open_before = x.open_before; marks = x.marks; least_is = x.least_is ∙ e }

  -- ---- what a body says of the tree

  pub nothing-wanting : (f : ℕ → Partial (Marked T)) (m : ℕ → Option (Entry (Held T))) (s : ℕ) (marked : Bool) (w : Part T) → tree_by f m s marked w ≡ wanting → w ≡ Wanting
  nothing-wanting f m s marked Wanting h = refl
  nothing-wanting f m s marked (Item v) h = absurd (never (record { value = v; marked = marked }) h)
    where
      never : (x : Marked T) → item x ≡ wanting → ⊥
      never x h = cc
  nothing-wanting f m s marked (Numbered c) h = absurd (by c.length h)
    where
      by : (o : Option ℕ) → list_of o (parts_by f m s (count_of c)) ≡ wanting → ⊥
      by None h = cc
      by (Some n) h = cc

  pub closed-tree : (f : ℕ → Partial (Marked T)) (m : ℕ → Option (Entry (Held T))) (s : ℕ) (marked : Bool) (w : Part T) → is_some (counts_of w).length ≡ true → (ps : Parts (Marked T)) × (tree_by f m s marked w ≡ closed ps)
  closed-tree f m s marked Wanting h = absurd (cc)
  closed-tree f m s marked (Item v) h = absurd (cc)
  closed-tree f m s marked (Numbered c) h = by c.length h
    where
      by : (o : Option ℕ) → is_some o ≡ true → (ps : Parts (Marked T)) × (list_of o (parts_by f m s (count_of c)) ≡ closed ps)
      by None h = absurd (cc)
      by (Some n) h = (parts_by f m s (count_of c), refl)

  -- what the body of a node with levels below it says
  pub list-body : (h : ℕ) (m : ℕ → Option (Entry (Held T))) (s : ℕ) (b : Held T) → 0 < h → body_in m s ≡ Some b → IsSound h m s → (P : ℕ → Type 0) × ((f : ℕ → Partial (Marked T)) × ((tree_at h m s ≡ tree_by f m s b.marked b.part) × IsCounted P f m s b.marked b.part))
  list-body zero m s b tall body sound = absurd (never tall)
    where
      never : 0 < 0 → ⊥
      never h = omega arith
  list-body (suc h) m s b tall body sound = (IsSound h m, (tree_at h m, (tree-suc h m s b body, counted-as h m s b body sound)))

  pub growing-tree : (P : ℕ → Type 0) (f : ℕ → Partial (Marked T)) (m : ℕ → Option (Entry (Held T))) (s : ℕ) (marked : Bool) (w : Part T) (n : ℕ) → IsCounted P f m s marked w → is_some (counts_of w).length ≡ false → n < (counts_of w).most → (ps : Parts (Marked T)) × (tree_by f m s marked w ≡ growing ps) × ((counts_of w).most ≡ part_count ps) × LastIsKnown ps
  growing-tree P f m s marked Wanting n counted h k = absurd (never n k)
    where
      never : (n : ℕ) → n < 0 → ⊥
      never n h = omega arith
  growing-tree P f m s marked (Item v) n counted h k = absurd (never n k)
    where
      never : (n : ℕ) → n < 0 → ⊥
      never n h = omega arith
  growing-tree P f m s marked (Numbered c) n counted h k =
      let none = no-some c.length h in
      let parts : ℕ → Partial (Marked T) = λ j. optional f (part_in m s j) in
      let count : part_count (listed (count_of c) parts) ≡ c.most = count-listed (count_of c) parts ∙ ap (λ o. elim o [ None ↦ c.most | Some j ↦ j ]) none in
      (parts_by f m s (count_of c), ap (λ o. list_of o (parts_by f m s (count_of c))) none, sym count, λ i e w. counted.last i (sym count ∙ e) (sym (part-listed (count_of c) parts i (beyond P f f m s marked c counted)) ∙ w))

  pub open-index : (w : Part T) (i : ℕ) → ((v : T) → w ≡ Item v → ⊥) → (counts_of w).length ≡ None → has_index w i ≡ true
  open-index Wanting i h k = refl
  open-index (Item v) i h k = absurd (h v refl)
  open-index (Numbered c) i h k = ap (λ o. elim o [ None ↦ true | Some n ↦ nat_lt i n ]) k

  -- whether a list would be whole once it is closed
  pub end-least : (m : ℕ → Option (Entry (Held T))) (spots : ℕ → Option Spot) (s n : ℕ) (b : Held T) (height : ℕ) → InTree m spots s height → 0 < height → body_in m s ≡ Some b → CanClose [] n (tree_at height m s) → least_whole [] (close_at [] n (tree_at height m s)) ≡ (if counts_whole (counts_ended (counts_of b.part) n) then Some 0 else None)
  end-least m spots s n b zero inside tall body can = absurd (never tall)
    where
      never : 0 < 0 → ⊥
      never h = omega arith
  end-least m spots s n b (suc h) inside tall body can =
      ap (λ r. least_whole [] (close_here n r)) (tree-suc h m s b body)
      ∙ ap (λ x. if x then Some 0 else None) (by b.part (counted-as h m s b body inside.sound) (subst (CanClose [] n) (tree-suc h m s b body) can))
    where
      f : ℕ → Partial (Marked T)
      f = tree_at h m

      none-less : (j : ℕ) → 0 ≤ j
      none-less j = omega arith

      by_length : (c : Counts) (o : Option ℕ) → c.length ≡ o → c.whole ≡ whole_count (parts_by (tree_at h m) m s (count_of c)) → CanClose [] n (list_of o (parts_by (tree_at h m) m s (count_of c))) → whole (close_here n (list_of o (parts_by (tree_at h m) m s (count_of c)))) ≡ (c.whole == n)
      by_length c None is e can =
          (whole-counts (filled (parts_by (tree_at h m) m s (count_of c)) n)).0
          ∙ ap (λ k. k == part_count (filled (parts_by (tree_at h m) m s (count_of c)) n)) (count-filled (parts_by (tree_at h m) m s (count_of c)) n ∙ sym e)
          ∙ ap (λ k. c.whole == k) (filled-count (parts_by (tree_at h m) m s (count_of c)) n can)
      by_length c (Some k) is e can = absurd can

      by : (w : Part T) → IsCounted (IsSound h m) (tree_at h m) m s b.marked w → CanClose [] n (tree_by (tree_at h m) m s b.marked w) → whole (close_here n (tree_by (tree_at h m) m s b.marked w)) ≡ counts_whole (counts_ended (counts_of w) n)
      by Wanting k can = (whole-counts (filled no_parts n)).0 ∙ ap (λ j. j == part_count (filled {A = Marked T} no_parts n)) (count-filled {A = Marked T} no_parts n) ∙ ap (λ j. 0 == j) (filled-count {A = Marked T} no_parts n (none-less n))
      by (Item v) k can = absurd can
      by (Numbered c) k can = by_length c c.length refl k.whole can

  -- ---- a part that is new

  pub parted-new : (m mid : ℕ → Option (Entry (Held T))) (spots : ℕ → Option Spot) (s i n : ℕ) (p : Spot) → AreNodes m spots → part_in m s i ≡ None → HangsPart m mid spots s p i n nothing → Parted m mid spots s i n
  parted-new m mid spots s i n p nodes none h = record {
    more = with_spot spots n h.spot;
    nodes = h.nodes;
    known = λ u q k. spot-other spots n h.spot u (apart u q k) ∙ k;
    fresh = fresh;
    part = h.part;
    parts = λ u q j k other. h.parts u q j k other;
    bodies = λ u q k. h.bodies u q k;
    others = λ u k. h.others u (sym (spot-other spots n h.spot u (new u k)) ∙ k) (new u k);
    was = inr (none, h.body, h.empty);
  }
    where
      apart : (u : ℕ) (q : Spot) → spots u ≡ Some q → u ≢ n
      apart u q k same = let e = nodes.entries u q k in some-not_none (m u) e.entry e.lies (ap m same ∙ h.fresh)

      new : (u : ℕ) → with_spot spots n h.spot u ≡ None → u ≢ n
      new u k same = some-not_none (with_spot spots n h.spot u) h.spot (ap (with_spot spots n h.spot) same ∙ spot-here spots n h.spot) k

      fresh : (u : ℕ) → spots u ≡ None → (with_spot spots n h.spot u ≡ None) ⊎ (m u ≡ None)
      fresh u k = elim (cases_eq u n) [
        | inl same ↦ inr (ap m same ∙ h.fresh)
        | inr ne ↦ inl (spot-other spots n h.spot u ne ∙ k)
      ]

  pub parted-old : (m : ℕ → Option (Entry (Held T))) (spots : ℕ → Option Spot) (s i t : ℕ) → AreNodes m spots → part_in m s i ≡ Some t → Parted m m spots s i t
  parted-old m spots s i t nodes found = record {
    more = spots;
    nodes = nodes;
    known = λ u q k. k;
    fresh = λ u k. inl k;
    part = found;
    parts = λ u q j k other. refl;
    bodies = λ u q k. refl;
    others = λ u k. refl;
    was = inl found;
  }

pub keeps-refl : {B : Type 0} (pool : Pool (Entry B)) (number : ℕ) → KeepsRegions pool pool number
keeps-refl pool number = record { live = λ region live. live; others = λ other ne. refl }

pub on-err : {A E : Type 0} (r : Result A E) (P : Type 0) → P → OnErr r P
on-err (Ok x) P h = tt
on-err (Err e) P h = h
