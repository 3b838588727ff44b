-- The calls, for the whole tree.
use Rattle.std.proofs.Common.{◌≡◌, ℕ, ◌<◌, ◌≤◌, ◌^◌, arith, length, Bool, List, refl, sym, ap, ◌∙◌, subst, Option, Some, None, inl, Result, Ok, Err}
use Rattle.std.specs.Result.{OnErr}
use Rattle.std.proofs.lemmas.Bool.{false≢true}
use Rattle.tv_parts.specs.Partials.{Partial, wanting, item, growing, closed, Parts, known_at}
use Rattle.tv_parts.specs.Changes.{MayClose}
use Rattle.tv_parts.proofs.Changes.{arrive-there, close-there}
use Rattle.tv_pool.specs.Pool.{Pool, item_in, region_of, slot_of}
use Rattle.tv_stream.specs.declared.nodes.Entry.{Entry}
use Rattle.tv_stream.specs.nodes.Stands.{Spot, AreNodes, with_spot}
use Rattle.tv_stream.specs.nodes.Calls.{root_spot, Plants}
use Rattle.tv_stream.proofs.Hanging.{spot-here, spot-other}
use Rattle.tv_stream.specs.declared.held.Held.{Held}
use Rattle.tv_stream.specs.declared.partial.Partial.{Partial as Handle}
use Rattle.tv_stream.specs.declared.refusals.ArriveRefused.{ArriveRefused}
use Rattle.tv_stream.specs.declared.refusals.ArriveRefused.TheVariants.{NoSuchPlace, Occupied, NoMemory}
use Rattle.tv_stream.specs.declared.refusals.CloseRefused.{CloseRefused}
use Rattle.tv_stream.specs.declared.refusals.CloseRefused.TheVariants.{NoSuchPlace as NoPlaceToClose, AlreadyClosed, WrongLength, NoMemory as NoMemoryToClose}
use Rattle.tv_stream.specs.Trees.{Marked, memory_of}
use Rattle.tv_stream.specs.Stands.{StandsOn, Grows, Starts, IsSound}
use Rattle.tv_stream.specs.Answers.{IsItem, RefusesArrival, RefusesClose}
use Rattle.tv_stream.specs.Inside.{nothing, InTree, Changed, ArrivesIn, ClosesIn, RefusesArrivalIn, RefusesCloseIn}
use Rattle.tv_stream.proofs.Bases.{same-memory}
use Rattle.tv_stream.proofs.Steps.{nothing-sound, nothing-tree}

-- a result, by what it is
pub by-result : {A E : Type 0} (Q : Type 0) (r : Result A E) → ((x : A) → r ≡ Ok x → Q) → ((e : E) → r ≡ Err e → Q) → Q
by-result Q (Ok x) h k = h x refl
by-result Q (Err e) h k = k e refl

pub at-err : {A E : Type 0} (r : Result A E) (P : Type 0) (e : E) → r ≡ Err e → OnErr r P → P
at-err (Ok x) P e is h = absurd (never x e is)
  where
    never : {A E : Type 0} (x : A) (e : E) → Ok x ≡ Err e → ⊥
    never x e h = cc
at-err (Err y) P e is h = h

less-equal : (a n d : ℕ) → a < n → n ≤ d → a ≤ d
less-equal a n d h k = omega arith

module _ {T : Type 0} where
  abbrev pub root-in : (pool : Pool (Entry (Held T))) (p : Handle T) (spots : ℕ → Option Spot) → StandsOn pool p spots → InTree (memory_of pool p) spots (slot_of p.root) p.depth
  root-in pool p spots stands = record { nodes = stands.nodes; spot = stands.spot; known = stands.known; sound = stands.sound }

  pub arrives-call : (old new : Pool (Entry (Held T))) (p : Handle T) (k s : ℕ) (q l : List ℕ) (x : Marked T) (least : ℕ) → region_of p.root ≡ k → s ≡ slot_of p.root → l ≡ q → ArrivesIn (item_in old k) (item_in new k) s l x least → ArrivesIn (memory_of old p) (memory_of new p) (slot_of p.root) q x least
  arrives-call old new p k s q l x least region root place h =
      subst (λ y. ArrivesIn (memory_of old p) (memory_of new p) (slot_of p.root) y x least) place
      (subst (λ n. ArrivesIn (memory_of old p) (memory_of new p) n l x least) root
      (subst (λ n. ArrivesIn (item_in old n) (item_in new n) s l x least) (sym region) h))

  pub closes-call : (old new : Pool (Entry (Held T))) (p : Handle T) (k s : ℕ) (q l : List ℕ) (n : ℕ) (least : Option ℕ) → region_of p.root ≡ k → s ≡ slot_of p.root → l ≡ q → ClosesIn (item_in old k) (item_in new k) s l n least → ClosesIn (memory_of old p) (memory_of new p) (slot_of p.root) q n least
  closes-call old new p k s q l n least region root place h =
      subst (λ y. ClosesIn (memory_of old p) (memory_of new p) (slot_of p.root) y n least) place
      (subst (λ a. ClosesIn (memory_of old p) (memory_of new p) a l n least) root
      (subst (λ a. ClosesIn (item_in old a) (item_in new a) s l n least) (sym region) h))

  -- what is said of the node under the link of the root is said of the root
  pub at-root : (pool : Pool (Entry (Held T))) (p : Handle T) (k s : ℕ) → region_of p.root ≡ k → s ≡ slot_of p.root → (P : (ℕ → Option (Entry (Held T))) → ℕ → Type 0) → P (item_in pool k) s → P (memory_of pool p) (slot_of p.root)
  at-root pool p k s region root P h = subst (λ n. P (memory_of pool p) n) root (subst (λ n. P (item_in pool n) s) (sym region) h)

  -- the tree goes on to stand
  pub grows : (old new : Pool (Entry (Held T))) (p : Handle T) (spots : ℕ → Option Spot) (stands : StandsOn old p spots) (q : List ℕ) (mark : Bool) (tree : Partial (Marked T)) (least : Option ℕ) → Changed (memory_of old p) (memory_of new p) spots (slot_of p.root) stands.spot p.depth q mark tree least → Grows old new p spots
  grows old new p spots stands q mark tree least c = record {
    more = c.changes.more;
    stands = record { nodes = c.changes.nodes; spot = stands.spot; known = c.changes.known (slot_of p.root) stands.spot stands.known; sound = c.changes.sound; fits = stands.fits };
    known = c.changes.known;
    fresh = c.changes.fresh;
    others = c.changes.others;
  }

  pub grows-same : (old new : Pool (Entry (Held T))) (p : Handle T) (spots : ℕ → Option Spot) → new.regions ≡ old.regions → StandsOn old p spots → Grows old new p spots
  grows-same old new p spots same stands =
      let e = same-memory new old (region_of p.root) same in
      record {
        more = spots;
        stands = record {
          nodes = subst (λ m. AreNodes m spots) (sym e) stands.nodes;
          spot = stands.spot;
          known = stands.known;
          sound = subst (λ m. IsSound p.depth m (slot_of p.root)) (sym e) stands.sound;
          fits = stands.fits;
        };
        known = λ s q k. k;
        fresh = λ s k. inl k;
        others = λ s k. ap (λ m. m s) e;
      }

  pub refuses-arrival : (spare depth : ℕ) (q : List ℕ) (x : T) (r : Partial (Marked T)) (e : ArriveRefused T) → length q ≤ depth → RefusesArrivalIn spare q x r e → RefusesArrival spare depth q x r e
  refuses-arrival spare depth q x r (NoSuchPlace y) short h = (h.0, λ place. false≢true (sym h.1 ∙ place.there))
  refuses-arrival spare depth q x r (Occupied y) short h = (h.0, record { short = short; there = h.1 }, h.2)
  refuses-arrival spare depth q x r (NoMemory y) short h = (h.0, record { short = short; there = (arrive-there q r h.1).0 }, h.1, less-equal spare (length q) depth h.2 short)

  item-not-closed : (ps : Parts (Marked T)) (p : Partial (Marked T)) → p ≡ closed ps → IsItem p → ⊥
  item-not-closed ps p is x = never x.0 (sym x.1 ∙ is)
    where
      never : (x : Marked T) → item x ≡ closed ps → ⊥
      never x h = cc

  item-not-growing : (ps : Parts (Marked T)) (p : Partial (Marked T)) → p ≡ growing ps → IsItem p → ⊥
  item-not-growing ps p is x = never x.0 (sym x.1 ∙ is)
    where
      never : (x : Marked T) → item x ≡ growing ps → ⊥
      never x h = cc

  item-not-open : (n : ℕ) (p : Partial (Marked T)) → MayClose n p → IsItem p → ⊥
  item-not-open n wanting may x = never x.0 x.1
    where
      never : (x : Marked T) → wanting ≡ item x → ⊥
      never x h = cc
  item-not-open n (item v) may x = absurd may
  item-not-open n (growing ps) may x = never x.0 x.1
    where
      never : (x : Marked T) → growing ps ≡ item x → ⊥
      never x h = cc
  item-not-open n (closed ps) may x = absurd may

  pub refuses-close : (spare depth : ℕ) (q : List ℕ) (n : ℕ) (r : Partial (Marked T)) (e : CloseRefused) → length q < depth → RefusesCloseIn spare q n r e → RefusesClose spare depth q n r e
  refuses-close spare depth q n r NoPlaceToClose short h = λ place. place.no_item (h place.there)
  refuses-close spare depth q n r AlreadyClosed short h = (record { short = short; there = h.0; no_item = item-not-closed h.1.0 (known_at q r) h.1.1 }, h.1)
  refuses-close spare depth q n r (WrongLength asked needed) short h = (record { short = short; there = h.0; no_item = item-not-growing h.1.0 (known_at q r) h.1.1 }, h.1, h.2, h.3)
  refuses-close spare depth q n r NoMemoryToClose short h =
      let there = close-there q n r h.0 in
      (record { short = short; there = there.0; no_item = item-not-open n (known_at q r) there.1 }, h.0, less spare (length q) depth h.1 short)
    where
      less : (a n d : ℕ) → a < n → n < d → a ≤ d
      less a n d h k = omega arith

  -- a new tree
  pub starts : (old new : Pool (Entry (Held T))) (p : Handle T) (depth number : ℕ) → p.depth ≡ depth → depth < 2 ^ 32 → region_of p.root ≡ number → Plants (item_in old number) (item_in new number) (slot_of p.root) nothing → Starts old new p depth number
  starts old new p depth number deep small region h = record {
    depth_is = deep;
    region = region;
    empty = nothing-tree depth (item_in new number) (slot_of p.root) h.body;
    fresh = h.fresh;
    spots = with_spot (λ s. None) (slot_of p.root) root_spot;
    stands = record {
      nodes = subst (λ n. AreNodes (item_in new n) (with_spot (λ s. None) (slot_of p.root) root_spot)) (sym region) (h.nodes (λ s. None) no-nodes);
      spot = root_spot;
      known = spot-here (λ s. None) (slot_of p.root) root_spot;
      sound = subst (λ n. IsSound p.depth (item_in new n) (slot_of p.root)) (sym region) (nothing-sound p.depth (item_in new number) (slot_of p.root) h.body h.empty);
      fits = subst (λ n. n < 2 ^ 32) (sym deep) small;
    };
    alone = λ s ne. (spot-other (λ s. None) (slot_of p.root) root_spot s ne, h.others s ne);
  }
    where
      never : (q : Spot) → None ≡ Some q → ⊥
      never q h = cc

      no-nodes : AreNodes (item_in old number) (λ s. None)
      no-nodes = record { entries = λ s q e. absurd (never q e); links = λ s q e by k lies bound there. absurd (never q k) }
