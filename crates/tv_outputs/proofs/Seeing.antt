-- What looks see of a tree and of its parts, and how many levels of lists stand there.
use Rattle.std.proofs.Common.{◌≡◌, ◌≤◌, ℕ, zero, suc, ◌-◌, max, Bool, true, Option, Some, None, refl, sym, ap, ◌∙◌, subst, true≢false, arith, zero-le}
use Rattle.tv_parts.specs.Partials.{Partial, wanting, item, growing, closed, Parts, no_parts, part, part_of, part_at, whole}
use Rattle.tv_pool.specs.Pool.{Pool, slot_of}
use Rattle.tv_stream.specs.declared.nodes.Entry.{Entry}
use Rattle.tv_stream.specs.nodes.Nodes.{part_in}
use Rattle.tv_stream.specs.declared.held.Held.{Held}
use Rattle.tv_stream.specs.declared.held.Part.{Part}
use Rattle.tv_stream.specs.declared.held.Part.TheVariants.{Wanting, Item, Numbered}
use Rattle.tv_stream.specs.declared.look.Look.{Look}
use Rattle.tv_stream.specs.declared.partial.Partial.{Partial as Handle}
use Rattle.tv_stream.specs.Looks.{Shows}
use Rattle.tv_stream.specs.Stands.{IsCounted, IsLeaf, IsSound, Stands}
use Rattle.tv_stream.specs.Trees.{Marked, listed, list_of, count_of, optional, tree_at, tree_by, memory_of, tree_of}
use Rattle.tv_stream.proofs.Same.{sound-suc, sound-zero, tree-suc, tree-zero}
use Rattle.tv_stream.proofs.Mapped.{map-part_at}
use Rattle.tv_cell.specs.declared.piece.Piece.{Piece}
use Rattle.tv_outputs.specs.Known.{item_value, value_tree}
use Rattle.tv_outputs.specs.Kept.{IsNoted, EachItem}
use Rattle.tv_outputs.specs.Seen.{levels_in, levels_of, Sees}
use Rattle.tv_outputs.proofs.Mapping.{each-part_at}

-- ---- the levels of a part

part-few : {A : Type 0} (ps : Parts A) (i : ℕ) → levels_in (part_of ps i) ≤ levels_of ps
part-few no_parts i = omega arith
part-few (part p ps) zero = first (levels_in p) (levels_of ps)
  where
    first : (a b : ℕ) → a ≤ max a b
    first a b = omega arith
part-few (part p ps) (suc i) = later (levels_in (part_of ps i)) (levels_of ps) (levels_in p) (part-few ps i)
  where
    later : (a b c : ℕ) → a ≤ b → a ≤ max c b
    later a b c h = omega arith

further : (a b n : ℕ) → a ≤ b → suc b ≤ n → a ≤ n
further a b n h k = omega arith

below : (a b n : ℕ) → a ≤ b → suc b ≤ n → (1 ≤ n) × (a ≤ n - 1)
below a b n h k = (omega arith, omega arith)

part-levels : {A : Type 0} (r : Partial A) (i n : ℕ) → levels_in r ≤ n → levels_in (part_at r i) ≤ n
part-levels wanting i n h = zero-le
part-levels (item x) i n h = zero-le
part-levels (growing ps) i n h = further (levels_in (part_of ps i)) (levels_of ps) n (part-few ps i) h
part-levels (closed ps) i n h = further (levels_in (part_of ps i)) (levels_of ps) n (part-few ps i) h

-- where something stands in a part, there is a level, and the part has one less
part-below : (r : Partial (Marked Piece)) (i n : ℕ) → whole (part_at (value_tree r) i) ≡ true → levels_in r ≤ n → (1 ≤ n) × (levels_in (part_at r i) ≤ n - 1)
part-below wanting i n w h = absurd (true≢false (sym w))
part-below (item x) i n w h = absurd (true≢false (sym w))
part-below (growing ps) i n w h = below (levels_in (part_of ps i)) (levels_of ps) n (part-few ps i) h
part-below (closed ps) i n w h = below (levels_in (part_of ps i)) (levels_of ps) n (part-few ps i) h

-- ---- a look at a part

module _ (look inner : Look Piece) (n : ℕ) (r : Partial (Marked Piece)) (i : ℕ) (s : Sees look n r) (h : Shows inner (part_at r i)) where
  pub sees-part : Sees inner n (part_at r i)
  sees-part = record { shows = h; noted = each-part_at IsNoted r i s.noted; few = part-levels r i n s.few }

  pub sees-whole : whole (part_at (value_tree r) i) ≡ true → (1 ≤ n) × Sees inner (n - 1) (part_at r i)
  sees-whole w = let f = part-below r i n w s.few in (f.0, record { shows = h; noted = each-part_at IsNoted r i s.noted; few = f.1 })

pub whole-part : (r : Partial (Marked Piece)) (i : ℕ) → whole (part_at (value_tree r) i) ≡ true → whole (value_tree (part_at r i)) ≡ true
whole-part r i w = ap whole (sym (map-part_at item_value r i)) ∙ w

-- ---- a look from the top

listed-few : {A : Type 0} (n : ℕ) (f : ℕ → Partial A) (h : ℕ) → ((i : ℕ) → levels_in (f i) ≤ h) → levels_of (listed n f) ≤ h
listed-few zero f h k = zero-le
listed-few (suc n) f h k = both (levels_in (f 0)) (levels_of (listed n (λ i. f (suc i)))) h (k 0) (listed-few n (λ i. f (suc i)) h (λ i. k (suc i)))
  where
    both : (a b c : ℕ) → a ≤ c → b ≤ c → max a b ≤ c
    both a b c h k = omega arith

module _ {T : Type 0} (m : ℕ → Option (Entry (Held T))) where
  leaf-few : (s : ℕ) (marked : Bool) (w : Part T) → IsLeaf m s marked w → levels_in (tree_by (λ t. wanting) m s marked w) ≤ 0
  leaf-few s marked Wanting h = zero-le
  leaf-few s marked (Item v) h = zero-le
  leaf-few s marked (Numbered c) h = absurd h

  list-few : {A : Type 0} (o : Option ℕ) (ps : Parts A) (h : ℕ) → levels_of ps ≤ h → levels_in (list_of o ps) ≤ suc h
  list-few None ps h k = up (levels_of ps) h k
    where
      up : (a b : ℕ) → a ≤ b → suc a ≤ suc b
      up a b h = omega arith
  list-few (Some n) ps h k = up (levels_of ps) h k
    where
      up : (a b : ℕ) → a ≤ b → suc a ≤ suc b
      up a b h = omega arith

  inner-few : (h s : ℕ) (marked : Bool) (w : Part T) → IsCounted (IsSound h m) (tree_at h m) m s marked w → ((t : ℕ) → IsSound h m t → levels_in (tree_at h m t) ≤ h) → levels_in (tree_by (tree_at h m) m s marked w) ≤ suc h
  inner-few h s marked Wanting k few = zero-le
  inner-few h s marked (Item v) k few = zero-le
  inner-few h s marked (Numbered c) k few = list-few c.length (listed (count_of c) (λ i. optional (tree_at h m) (part_in m s i))) h (listed-few (count_of c) (λ i. optional (tree_at h m) (part_in m s i)) h (λ i. by i (part_in m s i) refl))
    where
      by : (i : ℕ) (o : Option ℕ) → part_in m s i ≡ o → levels_in (optional (tree_at h m) o) ≤ h
      by i None e = zero-le
      by i (Some t) e = few t (k.sound i t e)

  tree-few : (h s : ℕ) → IsSound h m s → levels_in (tree_at h m s) ≤ h
  tree-few zero s sound = let x = sound-zero m s sound in subst (λ r. levels_in r ≤ 0) (sym (tree-zero m s x.0 x.1)) (leaf-few s x.0.marked x.0.part x.2)
  tree-few (suc h) s sound = let x = sound-suc h m s sound in subst (λ r. levels_in r ≤ suc h) (sym (tree-suc h m s x.0 x.1)) (inner-few h s x.0.marked x.0.part x.2 (λ t k. tree-few h t k))

-- a look at a tree sees at most as many levels as its places are long
pub sees-top : (pool : Pool (Entry (Held Piece))) (t : Handle Piece) (look : Look Piece) → Stands pool t → EachItem IsNoted (tree_of pool t) → Shows look (tree_of pool t) → Sees look t.depth (tree_of pool t)
sees-top pool t look stands noted shows = record { shows = shows; noted = noted; few = tree-few (memory_of pool t) t.depth (slot_of t.root) stands.1.sound }
