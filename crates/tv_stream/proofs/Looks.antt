-- What a walk to a place finds, and what a change there would make whole.
use Rattle.std.proofs.Common.{◌≡◌, ℕ, zero, suc, ◌<◌, ◌≤◌, ◌^◌, ◌==◌, arith, length, Bool, true, false, if◌then◌else◌, List, [], ◌∷◌, refl, sym, ap, ◌∙◌, subst, Option, Some, None}
use Rattle.std.specs.Option.{option_map}
use Rattle.std.proofs.lemmas.Bool.{ne_eqb}
use Rattle.std.proofs.lemmas.Option.{same_Some}
use Rattle.tv_lemmas.proofs.Options.{some-not_none}
use Rattle.tv_parts.specs.Partials.{Partial, wanting, Parts, no_parts, part_at, whole, all_whole, holds_some}
use Rattle.tv_parts.specs.Changes.{filled, arrive, close_at, CanArrive, CanClose}
use Rattle.tv_parts.proofs.Changes.{arrive-not_whole, close-not_whole}
use Rattle.tv_stream.specs.declared.nodes.Entry.{Entry}
use Rattle.tv_stream.specs.nodes.Nodes.{part_in, body_in}
use Rattle.tv_stream.specs.nodes.Stands.{Spot}
use Rattle.tv_stream.proofs.NodeWays.{part-spot}
use Rattle.tv_stream.specs.declared.held.Held.{Held}
use Rattle.tv_stream.specs.declared.held.Part.{Part}
use Rattle.tv_stream.specs.declared.held.Counts.{Counts}
use Rattle.tv_stream.specs.declared.held.Part.TheVariants.{Wanting, Item, Numbered}
use Rattle.tv_stream.specs.declared.held.PartKind.TheVariants.{Wanting as WantingKind, Growing as GrowingKind, Closed as ClosedKind, Item as ItemKind}
use Rattle.tv_stream.specs.Trees.{Marked, count_of, list_of, optional, parts_by, tree_by, tree_at, memory_of, tree_of, least_whole}
use Rattle.tv_pool.specs.Pool.{Pool, slot_of}
use Rattle.tv_stream.specs.declared.partial.Partial.{Partial as Handle}
use Rattle.tv_stream.specs.Stands.{StandsOn, is_marked, IsCounted, IsLeaf, HasNoParts, IsSound}
use Rattle.tv_stream.specs.Answers.{kind_of, item_of}
use Rattle.tv_stream.specs.Inside.{counts_of, counts_with, counts_whole, has_index, held_kind, held_whole, is_zero, outer_least, InTree, IsAt}
use Rattle.tv_stream.proofs.Listed.{count-listed, arrive-step, close-step}
use Rattle.tv_stream.proofs.Same.{tree-suc, tree-zero, sound-zero, part-tree}
use Rattle.tv_stream.proofs.Counting.{whole-as, list-holds, part-with}
use Rattle.tv_stream.proofs.Steps.{part-sound}
use Rattle.tv_stream.proofs.Bases.{body-tree, counted-as}
use Rattle.tv_stream.proofs.Places.{can-arrive, can-close}
use Rattle.tv_stream.proofs.Inner.{least-stepped}
use Rattle.tv_stream.proofs.Ways.{whole-small, tall-place, no-tall}

module _ {T : Type 0} where
  -- ---- one step of a walk

  leaf-none : (m : ℕ → Option (Entry (Held T))) (s : ℕ) (marked : Bool) (w : Part T) → IsLeaf m s marked w → HasNoParts m s
  leaf-none m s marked Wanting h = h.1
  leaf-none m s marked (Item v) h = h
  leaf-none m s marked (Numbered c) h = absurd h

  leaf-part : (m : ℕ → Option (Entry (Held T))) (s : ℕ) (marked : Bool) (w : Part T) (i : ℕ) → IsLeaf m s marked w → part_at (tree_by (λ t. wanting) m s marked w) i ≡ wanting
  leaf-part m s marked Wanting i h = refl
  leaf-part m s marked (Item v) i h = refl
  leaf-part m s marked (Numbered c) i h = absurd h

  pub part-inside : (m : ℕ → Option (Entry (Held T))) (spots : ℕ → Option Spot) (s i t h : ℕ) → InTree m spots s (suc h) → part_in m s i ≡ Some t → InTree m spots t h
  part-inside m spots s i t h inside found =
      let w = part-spot m spots inside.nodes s inside.spot i t inside.known found in
      record { nodes = inside.nodes; spot = w.0; known = w.1; sound = part-sound h m s i t inside.sound found }

  pub walk-part : (m : ℕ → Option (Entry (Held T))) (s i t : ℕ) (q : List ℕ) (r : Partial (Marked T)) (at : IsAt m s r) → part_in m s i ≡ Some t → IsAt m t (part_at r i)
  walk-part m s i t q r at found = by at.spots at.height at.inside at.is
    where
      by : (spots : ℕ → Option Spot) (h : ℕ) → InTree m spots s h → tree_at h m s ≡ r → IsAt m t (part_at r i)
      by spots zero inside is = let x = sound-zero m s inside.sound in absurd (some-not_none (part_in m s i) t found (leaf-none m s x.0.marked x.0.part x.2 i))
      by spots (suc h) inside is = record {
        spots = spots;
        height = h;
        inside = part-inside m spots s i t h inside found;
        is = sym (ap (λ y. part_at y i) (sym is) ∙ part-tree h m s inside.sound i ∙ ap (optional (tree_at h m)) found);
      }

  pub walk-none : (m : ℕ → Option (Entry (Held T))) (s i : ℕ) (r : Partial (Marked T)) (at : IsAt m s r) → part_in m s i ≡ None → part_at r i ≡ wanting
  walk-none m s i r at none = by at.spots at.height at.inside at.is
    where
      by : (spots : ℕ → Option Spot) (h : ℕ) → InTree m spots s h → tree_at h m s ≡ r → part_at r i ≡ wanting
      by spots zero inside is = let x = sound-zero m s inside.sound in ap (λ y. part_at y i) (sym is ∙ tree-zero m s x.0 x.1) ∙ leaf-part m s x.0.marked x.0.part i x.2
      by spots (suc h) inside is = ap (λ y. part_at y i) (sym is) ∙ part-tree h m s inside.sound i ∙ ap (optional (tree_at h m)) none

  -- ---- what the body says of what stands there

  kind-by : (f : ℕ → Partial (Marked T)) (m : ℕ → Option (Entry (Held T))) (s : ℕ) (b : Held T) → kind_of (tree_by f m s b.marked b.part) ≡ held_kind b
  kind-by f m s b = by b.part
    where
      by_length : (c : Counts) (o : Option ℕ) → c.length ≡ o → kind_of (list_of o (parts_by f m s (count_of c))) ≡ (elim o [ None ↦ GrowingKind | Some n ↦ ClosedKind n ])
      by_length c None is = refl
      by_length c (Some n) is = ap ClosedKind (count-listed (count_of c) (λ j. optional f (part_in m s j)) ∙ ap (λ o. elim o [ None ↦ c.most | Some k ↦ k ]) is)

      by : (w : Part T) → kind_of (tree_by f m s b.marked w) ≡ (elim w [ Wanting ↦ WantingKind | Item v ↦ ItemKind | Numbered c ↦ elim c.length [ None ↦ GrowingKind | Some n ↦ ClosedKind n ] ])
      by Wanting = refl
      by (Item v) = refl
      by (Numbered c) = by_length c c.length refl

  pub kind-at : (m : ℕ → Option (Entry (Held T))) (s : ℕ) (r : Partial (Marked T)) (b : Held T) → IsAt m s r → body_in m s ≡ Some b → kind_of r ≡ held_kind b
  kind-at m s r b at body = let t = body-tree at.height m s b body in ap kind_of (sym at.is ∙ t.1) ∙ kind-by t.0 m s b

  pub item-at : (m : ℕ → Option (Entry (Held T))) (s : ℕ) (r : Partial (Marked T)) (b : Held T) (v : T) → IsAt m s r → body_in m s ≡ Some b → b.part ≡ Item v → item_of r ≡ Some v
  item-at m s r b v at body is = let t = body-tree at.height m s b body in ap item_of (sym at.is ∙ t.1 ∙ ap (tree_by t.0 m s b.marked) is)

  pub no-item-at : (m : ℕ → Option (Entry (Held T))) (s : ℕ) (r : Partial (Marked T)) (b : Held T) → IsAt m s r → body_in m s ≡ Some b → ((v : T) → b.part ≡ Item v → ⊥) → item_of r ≡ None
  no-item-at m s r b at body never = let t = body-tree at.height m s b body in ap item_of (sym at.is ∙ t.1) ∙ by t.0 b.part never
    where
      list-item : (o : Option ℕ) (ps : Parts (Marked T)) → item_of (list_of o ps) ≡ None
      list-item None ps = refl
      list-item (Some n) ps = refl

      by : (f : ℕ → Partial (Marked T)) (w : Part T) → ((v : T) → w ≡ Item v → ⊥) → item_of (tree_by f m s b.marked w) ≡ None
      by f Wanting h = refl
      by f (Item v) h = absurd (h v refl)
      by f (Numbered c) h = list-item c.length (parts_by f m s (count_of c))

  -- whole and marked, by the counts
  record ByBody (b : Held T) (r : Partial (Marked T)) : Type 0 where
    pub whole_is : whole r ≡ held_whole b
    pub marked_is : holds_some is_marked r ≡ b.marked

  leaf-by : (m : ℕ → Option (Entry (Held T))) (s : ℕ) (marked : Bool) (w : Part T) → IsLeaf m s marked w → ByBody (record { marked = marked; part = w }) (tree_by (λ t. wanting) m s marked w)
  leaf-by m s marked Wanting h = record { whole_is = refl; marked_is = sym h.0 }
  leaf-by m s marked (Item v) h = record { whole_is = refl; marked_is = refl }
  leaf-by m s marked (Numbered c) h = absurd h

  counted-by : (P : ℕ → Type 0) (f : ℕ → Partial (Marked T)) (m : ℕ → Option (Entry (Held T))) (s : ℕ) (marked : Bool) (w : Part T) → IsCounted P f m s marked w → ByBody (record { marked = marked; part = w }) (tree_by f m s marked w)
  counted-by P f m s marked Wanting h = record { whole_is = refl; marked_is = sym h.0 }
  counted-by P f m s marked (Item v) h = record { whole_is = refl; marked_is = refl }
  counted-by P f m s marked (Numbered c) h = record {
    whole_is = whole-as c (λ j. optional f (part_in m s j)) h.whole;
    marked_is = list-holds is_marked c.length (parts_by f m s (count_of c)) ∙ sym h.marks;
  }

  by-body : (m : ℕ → Option (Entry (Held T))) (s : ℕ) (r : Partial (Marked T)) (b : Held T) → IsAt m s r → body_in m s ≡ Some b → ByBody b r
  by-body m s r b at body = by at.spots at.height at.inside at.is
    where
      by : (spots : ℕ → Option Spot) (h : ℕ) → InTree m spots s h → tree_at h m s ≡ r → ByBody b r
      by spots zero inside is =
          let x = sound-zero m s inside.sound in
          let same : x.0 ≡ b = same_Some x.0 b (sym x.1 ∙ body) in
          subst (ByBody b) (sym (tree-zero m s b body) ∙ is) (leaf-by m s b.marked b.part (subst (λ (y : Held T). IsLeaf m s y.marked y.part) same x.2))
      by spots (suc h) inside is = subst (ByBody b) (sym (tree-suc h m s b body) ∙ is) (counted-by (IsSound h m) (tree_at h m) m s b.marked b.part (counted-as h m s b body inside.sound))

  pub whole-at : (m : ℕ → Option (Entry (Held T))) (s : ℕ) (r : Partial (Marked T)) (b : Held T) → IsAt m s r → body_in m s ≡ Some b → whole r ≡ held_whole b
  whole-at m s r b at body = (by-body m s r b at body).whole_is

  pub marked-at : (m : ℕ → Option (Entry (Held T))) (s : ℕ) (r : Partial (Marked T)) (b : Held T) → IsAt m s r → body_in m s ≡ Some b → holds_some is_marked r ≡ b.marked
  marked-at m s r b at body = (by-body m s r b at body).marked_is

  -- ---- what a change would make whole

  -- the node before a change inside one of its parts
  pub record Peek (m : ℕ → Option (Entry (Held T))) (spots : ℕ → Option Spot) (s i : ℕ) (q : List ℕ) (b : Held T) (height : ℕ) : Type 0 where
    pub inner : ℕ
    pub tall : height ≡ suc inner
    pub has : has_index b.part i ≡ true
    pub whole : (counts_of b.part).whole < 2 ^ 63
    pub sound : IsSound (suc inner) m s
    pub below : (t : ℕ) → part_in m s i ≡ Some t → InTree m spots t inner
    pub part : part_at (tree_at height m s) i ≡ optional (tree_at inner m) (part_in m s i)

  pub peek-arrive : (m : ℕ → Option (Entry (Held T))) (spots : ℕ → Option Spot) (s i : ℕ) (q : List ℕ) (b : Held T) (height : ℕ) → InTree m spots s height → suc (length q) ≤ height → body_in m s ≡ Some b → CanArrive (i ∷ q) (tree_at height m s) → Peek m spots s i q b height × CanArrive q (part_at (tree_at height m s) i)
  peek-arrive m spots s i q b zero inside tall body can = absurd (never (length q) tall)
    where
      never : (n : ℕ) → suc n ≤ 0 → ⊥
      never n h = omega arith
  peek-arrive m spots s i q b (suc h) inside tall body can =
      let is = tree-suc h m s b body in
      let c = can-arrive (tree_at h m) m s b.marked i b.part q (subst (CanArrive (i ∷ q)) is can) in (
        record {
          inner = h;
          tall = refl;
          has = c.0;
          whole = whole-small h m s i b body c.0 inside.sound;
          sound = inside.sound;
          below = λ t found. part-inside m spots s i t h inside found;
          part = part-tree h m s inside.sound i;
        },
        subst (λ r. CanArrive q (part_at r i)) (sym is) c.1,
      )

  pub peek-close : (m : ℕ → Option (Entry (Held T))) (spots : ℕ → Option Spot) (s i : ℕ) (q : List ℕ) (n : ℕ) (b : Held T) (height : ℕ) → InTree m spots s height → suc (length q) < height → body_in m s ≡ Some b → CanClose (i ∷ q) n (tree_at height m s) → Peek m spots s i q b height × CanClose q n (part_at (tree_at height m s) i)
  peek-close m spots s i q n b zero inside tall body can = absurd (never (length q) tall)
    where
      never : (n : ℕ) → suc n < 0 → ⊥
      never n h = omega arith
  peek-close m spots s i q n b (suc h) inside tall body can =
      let is = tree-suc h m s b body in
      let c = can-close (tree_at h m) m s b.marked i b.part q n (subst (CanClose (i ∷ q) n) is can) in (
        record {
          inner = h;
          tall = refl;
          has = c.0;
          whole = whole-small h m s i b body c.0 inside.sound;
          sound = inside.sound;
          below = λ t found. part-inside m spots s i t h inside found;
          part = part-tree h m s inside.sound i;
        },
        subst (λ r. CanClose q n (part_at r i)) (sym is) c.1,
      )

  pub peek-arrive-least : (m : ℕ → Option (Entry (Held T))) (s i : ℕ) (q : List ℕ) (b : Held T) (h : ℕ) → body_in m s ≡ Some b → IsSound (suc h) m s → has_index b.part i ≡ true → CanArrive q (part_at (tree_at (suc h) m s) i) → (x : Marked T) (least : Option ℕ) → least_whole q (arrive q x (part_at (tree_at (suc h) m s) i)) ≡ least → least_whole (i ∷ q) (arrive (i ∷ q) x (tree_at (suc h) m s)) ≡ outer_least (counts_whole (counts_with (counts_of b.part) i (is_zero least))) least
  peek-arrive-least m s i q b h body sound has can x least is =
      ap (least_whole (i ∷ q)) (arrive-step i q x (tree_at (suc h) m s))
      ∙ least-stepped h m s i q b body sound has (arrive q x (part_at (tree_at (suc h) m s) i)) (arrive-not_whole q (part_at (tree_at (suc h) m s) i) can) least is

  pub peek-close-least : (m : ℕ → Option (Entry (Held T))) (s i : ℕ) (q : List ℕ) (n : ℕ) (b : Held T) (h : ℕ) → body_in m s ≡ Some b → IsSound (suc h) m s → has_index b.part i ≡ true → CanClose q n (part_at (tree_at (suc h) m s) i) → (least : Option ℕ) → least_whole q (close_at q n (part_at (tree_at (suc h) m s) i)) ≡ least → least_whole (i ∷ q) (close_at (i ∷ q) n (tree_at (suc h) m s)) ≡ outer_least (counts_whole (counts_with (counts_of b.part) i (is_zero least))) least
  peek-close-least m s i q n b h body sound has can least is =
      ap (least_whole (i ∷ q)) (close-step i q n (tree_at (suc h) m s))
      ∙ least-stepped h m s i q b body sound has (close_at q n (part_at (tree_at (suc h) m s) i)) (close-not_whole q n (part_at (tree_at (suc h) m s) i) can) least is

-- where nothing is known yet
pub new-arrive-least : {A : Type 0} (q : List ℕ) (x : A) → least_whole q (arrive q x wanting) ≡ Some (length q)
new-arrive-least [] x = refl
new-arrive-least (i ∷ q) x = ap (option_map suc) (ap (least_whole q) (part-with (arrive q x wanting) no_parts i) ∙ new-arrive-least q x)

filled-whole : (A : Type 0) (n : ℕ) → all_whole {A = A} (filled no_parts n) ≡ (n == 0)
filled-whole A zero = refl
filled-whole A (suc n) = sym (ne_eqb (suc n) 0 (never n))
  where
    never : (n : ℕ) → suc n ≡ 0 → ⊥
    never n h = omega arith

pub new-close-least : (A : Type 0) (q : List ℕ) (n : ℕ) → least_whole {A = A} q (close_at q n wanting) ≡ (if n == 0 then Some (length q) else None)
new-close-least A [] n = ap (λ b. if b then Some 0 else None) (filled-whole A n)
new-close-least A (i ∷ q) n = ap (option_map suc) (ap (least_whole q) (part-with (close_at q n wanting) no_parts i) ∙ new-close-least A q n) ∙ by (n == 0)
  where
    by : (b : Bool) → option_map suc (if b then Some (length q) else None) ≡ (if b then Some (suc (length q)) else None)
    by true = refl
    by false = refl

module _ {T : Type 0} (m : ℕ → Option (Entry (Held T))) (spots : ℕ → Option Spot) (s i : ℕ) (q : List ℕ) (b : Held T) (body : body_in m s ≡ Some b) where
  -- into the part that is there
  pub record Found (t : ℕ) (P : ℕ → Type 0) : Type 0 where
    pub inner : ℕ
    pub inside : InTree m spots t inner
    pub holds : P inner

  pub arrive-found : (l : List ℕ) (height t : ℕ) → l ≡ i ∷ q → InTree m spots s height → length l ≤ height → CanArrive l (tree_at height m s) → part_in m s i ≡ Some t → Found t (λ h. (length q ≤ h) × CanArrive q (tree_at h m t))
  arrive-found l zero t e inside tall can found = absurd (no-tall l i q e tall)
  arrive-found l (suc h) t e inside tall can found =
      let p = peek-arrive m spots s i q b (suc h) inside (tall-place l i q (suc h) e tall) body (subst (λ x. CanArrive x (tree_at (suc h) m s)) e can) in
      record {
        inner = h;
        inside = part-inside m spots s i t h inside found;
        holds = (less (length q) h (tall-place l i q (suc h) e tall), subst (CanArrive q) (part-tree h m s inside.sound i ∙ ap (optional (tree_at h m)) found) p.1);
      }
    where
      less : (n h : ℕ) → suc n ≤ suc h → n ≤ h
      less n h k = omega arith

  pub close-found : (l : List ℕ) (n height t : ℕ) → l ≡ i ∷ q → InTree m spots s height → length l < height → CanClose l n (tree_at height m s) → part_in m s i ≡ Some t → Found t (λ h. (length q < h) × CanClose q n (tree_at h m t))
  close-found l n zero t e inside tall can found = absurd (never (length l) tall)
    where
      never : (a : ℕ) → a < 0 → ⊥
      never a h = omega arith
  close-found l n (suc h) t e inside tall can found =
      let long : suc (length q) < suc h = subst (λ x. length x < suc h) e tall in
      let p = peek-close m spots s i q n b (suc h) inside long body (subst (λ x. CanClose x n (tree_at (suc h) m s)) e can) in
      record {
        inner = h;
        inside = part-inside m spots s i t h inside found;
        holds = (less (length q) h long, subst (CanClose q n) (part-tree h m s inside.sound i ∙ ap (optional (tree_at h m)) found) p.1);
      }
    where
      less : (n h : ℕ) → suc n < suc h → n < h
      less n h k = omega arith

  pub arrive-least : (l : List ℕ) (height : ℕ) → l ≡ i ∷ q → InTree m spots s height → length l ≤ height → CanArrive l (tree_at height m s) → (x : Marked T) (least : ℕ) → ((t h : ℕ) → part_in m s i ≡ Some t → InTree m spots t h → length q ≤ h → CanArrive q (tree_at h m t) → least_whole q (arrive q x (tree_at h m t)) ≡ Some least) → (part_in m s i ≡ None → length q ≡ least) → least_whole l (arrive l x (tree_at height m s)) ≡ outer_least (counts_whole (counts_with (counts_of b.part) i (least == 0))) (Some least)
  arrive-least l zero e inside tall can x least found none = absurd (no-tall l i q e tall)
  arrive-least l (suc h) e inside tall can x least found none = ap (λ y. least_whole y (arrive y x (tree_at (suc h) m s))) e ∙ peek-arrive-least m s i q b h body inside.sound p.0.has p.1 x (Some least) (by (part_in m s i) refl)
    where
      p : Peek m spots s i q b (suc h) × CanArrive q (part_at (tree_at (suc h) m s) i)
      p = peek-arrive m spots s i q b (suc h) inside (tall-place l i q (suc h) e tall) body (subst (λ x. CanArrive x (tree_at (suc h) m s)) e can)

      less : (n h : ℕ) → suc n ≤ suc h → n ≤ h
      less n h k = omega arith

      by : (o : Option ℕ) → part_in m s i ≡ o → least_whole q (arrive q x (part_at (tree_at (suc h) m s) i)) ≡ Some least
      by None is = ap (λ r. least_whole q (arrive q x r)) (part-tree h m s inside.sound i ∙ ap (optional (tree_at h m)) is) ∙ new-arrive-least q x ∙ ap Some (none is)
      by (Some t) is =
          let same = part-tree h m s inside.sound i ∙ ap (optional (tree_at h m)) is in
          ap (λ r. least_whole q (arrive q x r)) same ∙ found t h is (part-inside m spots s i t h inside is) (less (length q) h (tall-place l i q (suc h) e tall)) (subst (CanArrive q) same p.1)

  pub close-least : (l : List ℕ) (n height : ℕ) → l ≡ i ∷ q → InTree m spots s height → length l < height → CanClose l n (tree_at height m s) → (least : Option ℕ) → ((t h : ℕ) → part_in m s i ≡ Some t → InTree m spots t h → length q < h → CanClose q n (tree_at h m t) → least_whole q (close_at q n (tree_at h m t)) ≡ least) → (part_in m s i ≡ None → (if n == 0 then Some (length q) else None) ≡ least) → least_whole l (close_at l n (tree_at height m s)) ≡ outer_least (counts_whole (counts_with (counts_of b.part) i (is_zero least))) least
  close-least l n zero e inside tall can least found none = absurd (never (length l) tall)
    where
      never : (a : ℕ) → a < 0 → ⊥
      never a h = omega arith
  close-least l n (suc h) e inside tall can least found none = ap (λ y. least_whole y (close_at y n (tree_at (suc h) m s))) e ∙ peek-close-least m s i q n b h body inside.sound p.0.has p.1 least (by (part_in m s i) refl)
    where
      long : suc (length q) < suc h
      long = subst (λ x. length x < suc h) e tall

      p : Peek m spots s i q b (suc h) × CanClose q n (part_at (tree_at (suc h) m s) i)
      p = peek-close m spots s i q n b (suc h) inside long body (subst (λ x. CanClose x n (tree_at (suc h) m s)) e can)

      less : (n h : ℕ) → suc n < suc h → n < h
      less n h k = omega arith

      by : (o : Option ℕ) → part_in m s i ≡ o → least_whole q (close_at q n (part_at (tree_at (suc h) m s) i)) ≡ least
      by None is = ap (λ r. least_whole q (close_at q n r)) (part-tree h m s inside.sound i ∙ ap (optional (tree_at h m)) is) ∙ new-close-least (Marked T) q n ∙ none is
      by (Some t) is =
          let same = part-tree h m s inside.sound i ∙ ap (optional (tree_at h m)) is in
          ap (λ r. least_whole q (close_at q n r)) same ∙ found t h is (part-inside m spots s i t h inside is) (less (length q) h long) (subst (CanClose q n) same p.1)

-- the tree of a handle stands at its root
pub root-at : {T : Type 0} (pool : Pool (Entry (Held T))) (p : Handle T) (spots : ℕ → Option Spot) (s : ℕ) → s ≡ slot_of p.root → StandsOn pool p spots → IsAt (memory_of pool p) s (tree_of pool p)
root-at pool p spots s is stands = subst (λ n. IsAt (memory_of pool p) n (tree_of pool p)) (sym is) (record {
  spots = spots;
  height = p.depth;
  inside = record { nodes = stands.nodes; spot = stands.spot; known = stands.known; sound = stands.sound };
  is = refl;
})
