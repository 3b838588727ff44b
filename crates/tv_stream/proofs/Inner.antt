-- A change inside a part, and then the node, as one change of the node.
use Rattle.std.proofs.Common.{◌≡◌, ℕ, zero, suc, ◌+◌, ◌<◌, ◌≤◌, ◌^◌, ◌==◌, arith, length, Bool, true, false, if◌then◌else◌, List, [], ◌∷◌, refl, sym, ap, ◌∙◌, subst, Option, Some, None, le_of_suc-le-suc, not-suc-le-zero}
use Rattle.std.specs.Option.{option_map}
use Rattle.std.proofs.lemmas.Bool.{ne_eqb}
use Rattle.tv_parts.specs.Partials.{Partial, Parts, no_parts, part, part_count, part_at, whole, whole_count, one_if}
use Rattle.tv_parts.specs.Changes.{with_part, arrive, close_at, CanArrive, CanClose}
use Rattle.tv_parts.proofs.Changes.{arrive-not_whole, close-not_whole}
use Rattle.tv_parts.proofs.Wholeness.{count-with}
use Rattle.tv_stream.specs.declared.nodes.Entry.{Entry}
use Rattle.tv_stream.specs.nodes.Nodes.{part_in, body_in}
use Rattle.tv_stream.specs.nodes.Stands.{Spot, AreNodes}
use Rattle.tv_stream.specs.nodes.Calls.{Sets}
use Rattle.tv_stream.specs.declared.held.Held.{Held}
use Rattle.tv_stream.specs.declared.held.Counts.{Counts}
use Rattle.tv_stream.specs.Trees.{Marked, count_of, list_of, optional, parts_by, tree_by, tree_at, least_whole}
use Rattle.tv_stream.specs.Stands.{IsSound}
use Rattle.tv_stream.specs.Inside.{counts_with, counts_whole, counts_of, has_index, noted, is_zero, outer_least, InTree, Parted, Changed, ArrivesIn, ClosesIn}
use Rattle.tv_stream.proofs.Listed.{stepped, arrive-step, close-step, cover, cover-less, count-listed}
use Rattle.tv_stream.proofs.Same.{tree-suc}
use Rattle.tv_stream.proofs.Counting.{length-has, ListLike, list-like, part-with, whole-list, list-part}
use Rattle.tv_stream.proofs.Steps.{part-in-tree, part-known, part-tree-is, body-after, node-after, known-after, step}
use Rattle.tv_stream.proofs.Bases.{changed-least, counted-as}
use Rattle.tv_stream.proofs.Places.{arrive-can, close-can}

-- the least prefix is the empty one where the whole tree is whole
pub least-zero : {A : Type 0} (q : List ℕ) (r : Partial A) (least : Option ℕ) → least_whole q r ≡ least → is_zero least ≡ whole r
least-zero q r least h = ap is_zero (sym h) ∙ by q (whole r) refl
  where
    map-zero : (o : Option ℕ) → is_zero (option_map suc o) ≡ false
    map-zero None = refl
    map-zero (Some n) = ne_eqb (suc n) 0 (no-suc n)
      where
        no-suc : (n : ℕ) → suc n ≡ 0 → ⊥
        no-suc n h = omega arith

    by : (q : List ℕ) (b : Bool) → whole r ≡ b → is_zero (least_whole q r) ≡ whole r
    by [] true e = ap (λ b. is_zero (if b then Some 0 else None)) e ∙ sym e
    by [] false e = ap (λ b. is_zero (if b then Some 0 else None)) e ∙ sym e
    by (i ∷ q) true e = ap (λ b. is_zero (if b then Some 0 else option_map suc (least_whole q (part_at r i)))) e ∙ sym e
    by (i ∷ q) false e = ap (λ b. is_zero (if b then Some 0 else option_map suc (least_whole q (part_at r i)))) e ∙ map-zero (least_whole q (part_at r i)) ∙ sym e

count-with-part : {A : Type 0} (t : Partial A) (ps : Parts A) (i : ℕ) → part_count (with_part t ps i) ≡ cover (part_count ps) i
count-with-part t no_parts zero = refl
count-with-part t no_parts (suc i) = ap suc (count-with-part t no_parts i)
count-with-part t (part p ps) zero = refl
count-with-part t (part p ps) (suc i) = ap suc (count-with-part t ps i)

module _ {T : Type 0} where
  -- what is done on the way back, of an arrival and of a close
  module _ (m mid m2 m3 : ℕ → Option (Entry (Held T))) (s t i : ℕ) (q : List ℕ) (mark : Bool) (b : Held T) (body : body_in m s ≡ Some b) (has : has_index b.part i ≡ true) (small : i < 2 ^ 32) (least : Option ℕ) (parts : (spots : ℕ → Option Spot) (p : Spot) → AreNodes m spots → spots s ≡ Some p → Parted m mid spots s i t) (sets : (spots : ℕ → Option Spot) (p : Spot) → AreNodes m2 spots → spots s ≡ Some p → body_in m2 s ≡ Some b → Sets m2 m3 s (noted b i (is_zero least) mark)) where
    pub inner-step : (spots : ℕ → Option Spot) (h : ℕ) (inside : InTree m spots s (suc h)) (new : Partial (Marked T)) → Changed mid m2 (parts spots inside.spot inside.nodes inside.known).more t (part-known m mid spots s i t h inside (parts spots inside.spot inside.nodes inside.known)).0 h q mark new least → whole (tree_at (suc h) m s) ≡ false → Changed m m3 spots s inside.spot (suc h) (i ∷ q) mark (stepped new i (tree_at (suc h) m s)) (outer_least (counts_whole (counts_with (counts_of b.part) i (is_zero least))) least)
    inner-step spots h inside new changed open_before =
        let parted = parts spots inside.spot inside.nodes inside.known in
        let is : is_zero least ≡ whole new = least-zero q new least changed.least_is in
        let after = body-after m mid spots s i t h inside parted m2 m3 b body has small q mark new least changed in
        let set = sets changed.changes.more inside.spot (node-after m mid spots s i t h inside parted m2 m3 b body has small q mark new least changed) (known-after m mid spots s i t h inside parted m2 m3 b body has small q mark new least changed) after in
        changed-least m m3 spots s inside.spot (suc h) (i ∷ q) mark (stepped new i (tree_at (suc h) m s)) _ _
        (ap (λ w. outer_least (counts_whole (counts_with (counts_of b.part) i w)) least) (sym is))
        (step m mid spots s i t h inside parted m2 m3 b body has small q mark new least changed (subst (λ w. Sets m2 m3 s (noted b i w mark)) is set) open_before)

  pub arrives-step : (m mid m2 m3 : ℕ → Option (Entry (Held T))) (s t i : ℕ) (q : List ℕ) (x : Marked T) (b : Held T) → body_in m s ≡ Some b → has_index b.part i ≡ true → i < 2 ^ 32 → (least : ℕ) → ((spots : ℕ → Option Spot) (p : Spot) → AreNodes m spots → spots s ≡ Some p → Parted m mid spots s i t) → ((spots : ℕ → Option Spot) (p : Spot) → AreNodes m2 spots → spots s ≡ Some p → body_in m2 s ≡ Some b → Sets m2 m3 s (noted b i (least == 0) x.marked)) → ArrivesIn mid m2 t q x least → (out : ℕ) → outer_least (counts_whole (counts_with (counts_of b.part) i (least == 0))) (Some least) ≡ Some out → ArrivesIn m m3 s (i ∷ q) x out
  arrives-step m mid m2 m3 s t i q x b body has small least parts sets inner out is = record { short = short (counts_whole (counts_with (counts_of b.part) i (least == 0))) is; all = all }
    where
      zero-first : (k : ℕ) → Some 0 ≡ Some k → 0 ≡ k
      zero-first k h = cc

      next-first : (k : ℕ) → Some (suc least) ≡ Some k → suc least ≡ k
      next-first k h = cc

      none-more : (k n : ℕ) → 0 ≡ k → k ≤ suc n
      none-more k n h = omega arith

      one-more : (k n : ℕ) → suc least ≡ k → least ≤ n → k ≤ suc n
      one-more k n h l = omega arith

      short : (w : Bool) → outer_least w (Some least) ≡ Some out → out ≤ suc (length q)
      short true h = none-more out (length q) (zero-first out h)
      short false h = one-more out (length q) (next-first out h) inner.short

      all : (spots : ℕ → Option Spot) (height : ℕ) (inside : InTree m spots s height) → suc (length q) ≤ height → CanArrive (i ∷ q) (tree_at height m s) × Changed m m3 spots s inside.spot height (i ∷ q) x.marked (arrive (i ∷ q) x (tree_at height m s)) (Some out)
      all spots zero inside tall = absurd (not-suc-le-zero {n = length q} tall)
      all spots (suc h) inside tall =
          let parted = parts spots inside.spot inside.nodes inside.known in
          let it = part-in-tree m mid spots s i t h inside parted in
          let r = inner.all parted.more h it (le_of_suc-le-suc {n = length q} {m = h} tall) in
          let same : tree_at h mid t ≡ part_at (tree_at (suc h) m s) i = part-tree-is m mid spots s i t h inside parted in
          let suc-is : tree_at (suc h) m s ≡ tree_by (tree_at h m) m s b.marked b.part = tree-suc h m s b body in
          let can : CanArrive (i ∷ q) (tree_at (suc h) m s) = subst (CanArrive (i ∷ q)) (sym suc-is) (arrive-can (tree_at h m) m s b.marked i b.part q has (subst (λ y. CanArrive q (part_at y i)) suc-is (subst (CanArrive q) same r.0))) in
          let tree : stepped (arrive q x (tree_at h mid t)) i (tree_at (suc h) m s) ≡ arrive (i ∷ q) x (tree_at (suc h) m s) = ap (λ y. stepped (arrive q x y) i (tree_at (suc h) m s)) same ∙ sym (arrive-step i q x (tree_at (suc h) m s)) in
          let done = inner-step m mid m2 m3 s t i q x.marked b body has small (Some least) parts sets spots h inside (arrive q x (tree_at h mid t)) r.1 (arrive-not_whole (i ∷ q) (tree_at (suc h) m s) can) in
          (can, subst (λ y. Changed m m3 spots s inside.spot (suc h) (i ∷ q) x.marked y (Some out)) tree (changed-least m m3 spots s inside.spot (suc h) (i ∷ q) x.marked _ _ (Some out) is done))

  pub closes-step : (m mid m2 m3 : ℕ → Option (Entry (Held T))) (s t i : ℕ) (q : List ℕ) (n : ℕ) (b : Held T) → body_in m s ≡ Some b → has_index b.part i ≡ true → i < 2 ^ 32 → (least : Option ℕ) → ((spots : ℕ → Option Spot) (p : Spot) → AreNodes m spots → spots s ≡ Some p → Parted m mid spots s i t) → ((spots : ℕ → Option Spot) (p : Spot) → AreNodes m2 spots → spots s ≡ Some p → body_in m2 s ≡ Some b → Sets m2 m3 s (noted b i (is_zero least) false)) → ClosesIn mid m2 t q n least → ClosesIn m m3 s (i ∷ q) n (outer_least (counts_whole (counts_with (counts_of b.part) i (is_zero least))) least)
  closes-step m mid m2 m3 s t i q n b body has small least parts sets inner = record { short = short (counts_whole (counts_with (counts_of b.part) i (is_zero least))) least inner.short; all = all }
    where
      short : (w : Bool) (l : Option ℕ) → ((k : ℕ) → l ≡ Some k → k ≤ length q) → (k : ℕ) → outer_least w l ≡ Some k → k ≤ suc (length q)
      short true l h k e = none-more k (length q) (zero-first k e)
        where
          zero-first : (k : ℕ) → Some 0 ≡ Some k → 0 ≡ k
          zero-first k h = cc

          none-more : (k n : ℕ) → 0 ≡ k → k ≤ suc n
          none-more k n h = omega arith
      short false None h k e = absurd (never k e)
        where
          never : (k : ℕ) → None ≡ Some k → ⊥
          never k h = cc
      short false (Some l) h k e = one-more l k (length q) (next-first l k e) (h l refl)
        where
          next-first : (l k : ℕ) → Some (suc l) ≡ Some k → suc l ≡ k
          next-first l k h = cc

          one-more : (l k n : ℕ) → suc l ≡ k → l ≤ n → k ≤ suc n
          one-more l k n h e = omega arith

      all : (spots : ℕ → Option Spot) (height : ℕ) (inside : InTree m spots s height) → suc (length q) < height → CanClose (i ∷ q) n (tree_at height m s) × Changed m m3 spots s inside.spot height (i ∷ q) false (close_at (i ∷ q) n (tree_at height m s)) (outer_least (counts_whole (counts_with (counts_of b.part) i (is_zero least))) least)
      all spots zero inside tall = absurd (never (length q) tall)
        where
          never : (n : ℕ) → suc n < 0 → ⊥
          never n h = omega arith
      all spots (suc h) inside tall =
          let parted = parts spots inside.spot inside.nodes inside.known in
          let it = part-in-tree m mid spots s i t h inside parted in
          let r = inner.all parted.more h it (le_of_suc-le-suc {n = (suc (length q))} {m = h} tall) in
          let same : tree_at h mid t ≡ part_at (tree_at (suc h) m s) i = part-tree-is m mid spots s i t h inside parted in
          let suc-is : tree_at (suc h) m s ≡ tree_by (tree_at h m) m s b.marked b.part = tree-suc h m s b body in
          let can : CanClose (i ∷ q) n (tree_at (suc h) m s) = subst (CanClose (i ∷ q) n) (sym suc-is) (close-can (tree_at h m) m s b.marked i b.part q n has (subst (λ y. CanClose q n (part_at y i)) suc-is (subst (CanClose q n) same r.0))) in
          let tree : stepped (close_at q n (tree_at h mid t)) i (tree_at (suc h) m s) ≡ close_at (i ∷ q) n (tree_at (suc h) m s) = ap (λ y. stepped (close_at q n y) i (tree_at (suc h) m s)) same ∙ sym (close-step i q n (tree_at (suc h) m s)) in
          let done = inner-step m mid m2 m3 s t i q false b body has small least parts sets spots h inside (close_at q n (tree_at h mid t)) r.1 (close-not_whole (i ∷ q) n (tree_at (suc h) m s) can) in
          (can, subst (λ y. Changed m m3 spots s inside.spot (suc h) (i ∷ q) false y (outer_least (counts_whole (counts_with (counts_of b.part) i (is_zero least))) least)) tree done)

  -- the least prefix that is whole after a change of a part, from the node's counts before it
  module _ (h : ℕ) (m : ℕ → Option (Entry (Held T))) (s i : ℕ) (q : List ℕ) (b : Held T) (body : body_in m s ≡ Some b) (sound : IsSound (suc h) m s) (has : has_index b.part i ≡ true) (new : Partial (Marked T)) (open_part : whole (part_at (tree_at (suc h) m s) i) ≡ false) (least : Option ℕ) (is : least_whole q new ≡ least) where
    abbrev c : Counts
    c = counts_of b.part

    abbrev ps : Parts (Marked T)
    ps = parts_by (tree_at h m) m s (count_of (counts_of b.part))

    abbrev ws : Parts (Marked T)
    ws = with_part new (parts_by (tree_at h m) m s (count_of (counts_of b.part))) i

    like : ListLike (IsSound h m) (tree_at h m) m s i b.marked b.part
    like = list-like (IsSound h m) (tree_at h m) m s i b.marked b.part has (counted-as h m s b body sound)

    list : stepped new i (tree_at (suc h) m s) ≡ list_of (counts_of b.part).length (with_part new (parts_by (tree_at h m) m s (count_of (counts_of b.part))) i)
    list = ap (stepped new i) (tree-suc h m s b body) ∙ like.steps new

    flip : (a b : ℕ) → a + b ≡ b + a
    flip a b = omega arith

    counted : c.whole + one_if (is_zero least) ≡ whole_count ws
    counted =
        flip c.whole (one_if (is_zero least))
        ∙ ap (λ w. one_if w + c.whole) (least-zero q new least is)
        ∙ ap (λ k. one_if (whole new) + k) like.counts.whole
        ∙ sym (count-with new ps i (ap whole (sym like.inner ∙ sym (ap (λ r. part_at r i) (tree-suc h m s b body))) ∙ open_part))

    count : (n : ℕ) → c.length ≡ Some n → part_count ws ≡ n
    count n e =
        count-with-part new ps i
        ∙ ap (λ k. cover k i) (count-listed (count_of c) (λ j. optional (tree_at h m) (part_in m s j)) ∙ ap (λ o. elim o [ None ↦ c.most | Some k ↦ k ]) e)
        ∙ cover-less n i (length-has b.part i has n e)

    pub least-stepped : least_whole (i ∷ q) (stepped new i (tree_at (suc h) m s)) ≡ outer_least (counts_whole (counts_with (counts_of b.part) i (is_zero least))) least
    least-stepped =
        ap (least_whole (i ∷ q)) list
        ∙ ap (λ w. if w then Some 0 else option_map suc (least_whole q (part_at (list_of c.length ws) i))) (whole-list c.length ws (c.whole + one_if (is_zero least)) counted count)
        ∙ ap (λ o. if counts_whole (counts_with c i (is_zero least)) then Some 0 else option_map suc o) (ap (least_whole q) (list-part c.length ws i ∙ part-with new ps i) ∙ is)
