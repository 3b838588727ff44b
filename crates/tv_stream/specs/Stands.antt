-- When the nodes of a tree stand in a pool as the tree's own calls left them, and what stays of others.
use Rattle.std.specs.Prelude.{◌≡◌, ◌≢◌, ℕ, zero, suc, ◌≤◌, ◌<◌, ◌^◌, Bool, false, Option, Some, None, ◌⊎◌}
use Rattle.tv_parts.specs.Partials.{Partial, wanting, whole_count, some_holds}
use Rattle.tv_pool.specs.Pool.{Pool, item_in, region_at, regions_with, region_of, slot_of, number_of}
use Rattle.tv_pool.specs.declared.handles.Region.{Region}
use Rattle.tv_stream.specs.declared.nodes.Entry.{Entry}
use Rattle.tv_stream.specs.nodes.Nodes.{part_in, body_in}
use Rattle.tv_stream.specs.nodes.Stands.{Spot, AreNodes}
use Rattle.tv_stream.specs.declared.held.Held.{Held}
use Rattle.tv_stream.specs.declared.held.Counts.{Counts}
use Rattle.tv_stream.specs.declared.held.Part.{Part}
use Rattle.tv_stream.specs.declared.held.Part.TheVariants.{Wanting, Item, Numbered}
use Rattle.tv_stream.specs.declared.partial.Partial.{Partial as Handle}
use Rattle.tv_stream.specs.Trees.{Marked, count_of, optional, parts_by, tree_at, memory_of, tree_of}

abbrev pub is_marked : {T : Type 0} → Marked T → Bool
is_marked x = x.marked

-- on other slots
abbrev pub Apart : (ℕ → Option Spot) → (ℕ → Option Spot) → Type 0
Apart spots others = (s : ℕ) (x : Spot) → others s ≡ Some x → spots s ≡ None

module _ {T : Type 0} where
  -- what is counted of a list is so: the last index that was counted has something, each part has one that was counted, and its own counts hold
  pub record AreCounted (IsSound : ℕ → Type 0) (tree : ℕ → Partial (Marked T)) (m : ℕ
      → Option (Entry (Held T))) (s : ℕ) (marked : Bool) (c : Counts) : Type 0 where
    pub whole : c.whole ≡ whole_count (parts_by tree m s (count_of c))
    pub marks : marked ≡ some_holds is_marked (parts_by tree m s (count_of c))
    pub counted : c.most ≤ count_of c
    pub few : count_of c ≤ 2 ^ 32
    pub within : (i t : ℕ) → part_in m s i ≡ Some t → i < c.most
    pub last : (i : ℕ) → c.most ≡ suc i → optional tree (part_in m s i) ≢ wanting
    pub sound : (i t : ℕ) → part_in m s i ≡ Some t → IsSound t

  abbrev pub HasNoParts : (ℕ → Option (Entry (Held T))) → ℕ → Type 0
  HasNoParts m s = (i : ℕ) → part_in m s i ≡ None

  abbrev pub IsCounted : (ℕ → Type 0) → (ℕ → Partial (Marked T)) → (ℕ → Option (Entry (Held T))) → ℕ
      → Bool → Part T → Type 0
  IsCounted IsSound tree m s marked Wanting = (marked ≡ false) × HasNoParts m s
  IsCounted IsSound tree m s marked (Item v) = HasNoParts m s
  IsCounted IsSound tree m s marked (Numbered c) = AreCounted IsSound tree m s marked c

  abbrev pub IsLeaf : (ℕ → Option (Entry (Held T))) → ℕ → Bool → Part T → Type 0
  IsLeaf m s marked Wanting = (marked ≡ false) × HasNoParts m s
  IsLeaf m s marked (Item v) = HasNoParts m s
  IsLeaf m s marked (Numbered c) = ⊥

  -- the counts of a node and of all inside it hold, with so many levels below it
  unfoldable pub IsSound : ℕ → (ℕ → Option (Entry (Held T))) → ℕ → Type 0
  IsSound zero m s = (b : Held T) × (body_in m s ≡ Some b) × IsLeaf m s b.marked b.part
  IsSound (suc height) m s = (b : Held T) × (body_in m s ≡ Some b)
      × IsCounted (IsSound height m) (tree_at height m) m s b.marked b.part

  -- the tree stands, and its nodes lie in the slots with a spot
  pub record StandsOn (pool : Pool (Entry (Held T))) (p : Handle T)
      (spots : ℕ → Option Spot) : Type 0 where
    pub nodes : AreNodes (memory_of pool p) spots
    pub spot : Spot
    pub known : spots (slot_of p.root) ≡ Some spot
    pub sound : IsSound p.depth (memory_of pool p) (slot_of p.root)
    pub fits : p.depth < 2 ^ 32

  abbrev pub Stands : Pool (Entry (Held T)) → Handle T → Type 0
  Stands pool p = (spots : ℕ → Option Spot) × StandsOn pool p spots

  abbrev pub IsIn : Handle T → Region → Type 0
  IsIn p region = region_of p.root ≡ number_of region

  -- the tree stands on its slots and on slots in which nothing lay, and nothing else of the region changed
  pub record Grows (old new : Pool (Entry (Held T))) (p : Handle T)
      (spots : ℕ → Option Spot) : Type 0 where
    pub more : ℕ → Option Spot
    pub stands : StandsOn new p more
    pub known : (s : ℕ) (q : Spot) → spots s ≡ Some q → more s ≡ Some q
    pub fresh : (s : ℕ) → spots s ≡ None → (more s ≡ None) ⊎ (memory_of old p s ≡ None)
    pub others : (s : ℕ) → more s ≡ None → memory_of new p s ≡ memory_of old p s

  abbrev pub KeepsTrees : Pool (Entry (Held T)) → Pool (Entry (Held T)) → Handle T → Type 0
  KeepsTrees old new p = (spots : ℕ → Option Spot) → StandsOn old p spots → Grows old new p spots

  -- a new tree: it stands on one slot, in which nothing lay, and nothing else of the region changed
  pub record Starts (old new : Pool (Entry (Held T))) (p : Handle T)
      (depth number : ℕ) : Type 0 where
    pub depth_is : p.depth ≡ depth
    pub region : region_of p.root ≡ number
    pub empty : tree_at depth (item_in new number) (slot_of p.root) ≡ wanting
    pub fresh : item_in old number (slot_of p.root) ≡ None
    pub spots : ℕ → Option Spot
    pub stands : StandsOn new p spots
    pub alone : (s : ℕ) → s ≢ slot_of p.root → (spots s ≡ None)
        × (item_in new number s ≡ item_in old number s)

  -- ---- other trees

  -- the tree stands where it stood, and is what it was
  pub record Stays (old new : Pool (Entry (Held T))) (p : Handle T)
      (spots : ℕ → Option Spot) : Type 0 where
    pub stands : StandsOn new p spots
    pub tree : tree_of new p ≡ tree_of old p

-- where a tree grows, one of its region that stands on other slots stays, and goes on to stand on other slots
abbrev pub StaysWhereOneGrows : Type 0 → Type 0
StaysWhereOneGrows T = (old new : Pool (Entry (Held T))) (p q : Handle T) (spots others : ℕ
    → Option Spot) → region_of p.root ≡ region_of q.root → Apart spots others
    → StandsOn old q others → (g : Grows old new p spots) → Stays old new q others
    × Apart g.more others

-- where a tree starts, those of its region stay, and it stands on other slots
abbrev pub StaysWhereOneStarts : Type 0 → Type 0
StaysWhereOneStarts T = (old new : Pool (Entry (Held T))) (p q : Handle T) (depth number : ℕ)
    (others : ℕ → Option Spot) → region_of q.root ≡ number → StandsOn old q others
    → (g : Starts old new p depth number) → Stays old new q others × Apart g.spots others

-- where the tree's own region is what it was, whatever was done to others, the tree stays
abbrev pub StaysElsewhere : Type 0 → Type 0
StaysElsewhere T = (old new : Pool (Entry (Held T))) (q : Handle T) (others : ℕ → Option Spot)
    → region_at new (region_of q.root) ≡ region_at old (region_of q.root) → StandsOn old q others
    → Stays old new q others

-- so it stays where another region is released
abbrev pub StaysWhereAnotherIsReleased : Type 0 → Type 0
StaysWhereAnotherIsReleased T = (old new : Pool (Entry (Held T))) (q : Handle T) (number : ℕ)
    (others : ℕ → Option Spot) → region_of q.root ≢ number → new.regions
    ≡ regions_with old number None → StandsOn old q others → Stays old new q others
