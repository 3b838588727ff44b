-- What the steps of a change do, from a node of a tree on. No public clause cites this module.
use Rattle.std.specs.Prelude.{◌≡◌, ◌≢◌, ℕ, suc, ◌+◌, ◌≤◌, ◌<◌, ◌==◌, nat_lt, max, Bool, true, false, ◌||◌, if◌then◌else◌, List, ◌++◌, length, Option, Some, None, ◌⊎◌}
use Rattle.std.specs.Option.{option_map}
use Rattle.tv_parts.specs.Partials.{Partial, wanting, growing, closed, Parts, part_count, known_at, whole, one_if, holds_some}
use Rattle.tv_parts.specs.Changes.{is_place, arrive, close_at, CanArrive, CanClose}
use Rattle.tv_stream.specs.declared.nodes.Entry.{Entry}
use Rattle.tv_stream.specs.nodes.Nodes.{part_in, body_in}
use Rattle.tv_stream.specs.nodes.Stands.{Spot, AreNodes}
use Rattle.tv_stream.specs.declared.held.Held.{Held}
use Rattle.tv_stream.specs.declared.held.Counts.{Counts}
use Rattle.tv_stream.specs.declared.held.Part.{Part}
use Rattle.tv_stream.specs.declared.held.Part.TheVariants.{Wanting, Item, Numbered}
use Rattle.tv_stream.specs.declared.held.PartKind.{PartKind}
use Rattle.tv_stream.specs.declared.held.PartKind.TheVariants.{Wanting as WantingKind, Growing as GrowingKind, Closed as ClosedKind, Item as ItemKind}
use Rattle.tv_stream.specs.declared.refusals.ArriveRefused.{ArriveRefused}
use Rattle.tv_stream.specs.declared.refusals.ArriveRefused.TheVariants.{NoSuchPlace, Occupied, NoMemory}
use Rattle.tv_stream.specs.declared.refusals.NoArrival.{NoArrival}
use Rattle.tv_stream.specs.declared.refusals.NoArrival.TheVariants.{NoSuchPlace as NoPlace, Occupied as PlaceTaken, NoMemory as NoRoom}
use Rattle.tv_stream.specs.declared.refusals.CloseRefused.{CloseRefused}
use Rattle.tv_stream.specs.declared.refusals.CloseRefused.TheVariants.{NoSuchPlace as NoPlaceToClose, AlreadyClosed, WrongLength, NoMemory as NoMemoryToClose}
use Rattle.tv_stream.specs.Trees.{Marked, tree_at, least_whole}
use Rattle.tv_stream.specs.Stands.{is_marked, IsSound}
use Rattle.tv_stream.specs.Answers.{IsItem, LastIsKnown}

-- ---- what a node holds

abbrev pub no_counts : Counts
no_counts = record { most = 0; whole = 0; length = None }

abbrev pub counts_with : Counts → ℕ → Bool → Counts
counts_with c i w = record {
  most = max c.most (i + 1);
  whole = c.whole + one_if w;
  length = c.length;
}

abbrev pub counts_ended : Counts → ℕ → Counts
counts_ended c n = record { most = c.most; whole = c.whole; length = Some n }

abbrev pub counts_whole : Counts → Bool
counts_whole c = elim c.length [ None ↦ false | Some n ↦ c.whole == n ]

-- the place x is the place r or inside it
abbrev pub Below : List ℕ → List ℕ → Type 0
Below r x = (y : List ℕ) × (x ≡ r ++ y)

abbrev pub is_zero : Option ℕ → Bool
is_zero None = false
is_zero (Some n) = n == 0

-- the least prefix that is whole, as the list around sees it
abbrev pub outer_least : Bool → Option ℕ → Option ℕ
outer_least w least = if w then Some 0 else option_map suc least

module _ {T : Type 0} where
  abbrev pub counts_of : Part T → Counts
  counts_of Wanting = no_counts
  counts_of (Item v) = no_counts
  counts_of (Numbered c) = c

  abbrev pub counts_in : Held T → Counts
  counts_in b = counts_of b.part

  abbrev pub held_whole : Held T → Bool
  held_whole b = elim b.part [ Wanting ↦ false | Item v ↦ true | Numbered c ↦ counts_whole c ]

  abbrev pub held_kind : Held T → PartKind
  held_kind b = elim b.part [
    | Wanting ↦ WantingKind
    | Item v ↦ ItemKind
    | Numbered c ↦ elim c.length [ None ↦ GrowingKind | Some n ↦ ClosedKind n ]
  ]

  -- there can be a part at an index
  abbrev pub has_index : Part T → ℕ → Bool
  has_index Wanting i = true
  has_index (Item v) i = false
  has_index (Numbered c) i = elim c.length [ None ↦ true | Some n ↦ nat_lt i n ]

  abbrev pub has_place : Held T → ℕ → Bool
  has_place b i = has_index b.part i

  abbrev pub nothing : Held T
  nothing = record { marked = false; part = Wanting }

  abbrev pub noted : Held T → ℕ → Bool → Bool → Held T
  noted b i w marked = record {
    marked = b.marked || marked;
    part = Numbered (counts_with (counts_in b) i w);
  }

  -- ---- nodes

  -- a node of a tree, with so many levels below it
  pub record InTree (m : ℕ → Option (Entry (Held T))) (spots : ℕ → Option Spot)
      (s height : ℕ) : Type 0 where
    pub nodes : AreNodes m spots
    pub spot : Spot
    pub known : spots s ≡ Some spot
    pub sound : IsSound height m s

  -- a node of a tree, at which that stands
  pub record IsAt (m : ℕ → Option (Entry (Held T))) (s : ℕ) (r : Partial (Marked T)) : Type 0 where
    pub spots : ℕ → Option Spot
    pub height : ℕ
    pub inside : InTree m spots s height
    pub is : tree_at height m s ≡ r

  -- the part of the node in s at an index lies in t, as it did or as a node that holds nothing
  pub record Parted (m m' : ℕ → Option (Entry (Held T))) (spots : ℕ → Option Spot)
      (s i t : ℕ) : Type 0 where
    pub more : ℕ → Option Spot
    pub nodes : AreNodes m' more
    pub known : (u : ℕ) (q : Spot) → spots u ≡ Some q → more u ≡ Some q
    pub fresh : (u : ℕ) → spots u ≡ None → (more u ≡ None) ⊎ (m u ≡ None)
    pub part : part_in m' s i ≡ Some t
    pub parts : (u : ℕ) (q : Spot) (j : ℕ) → spots u ≡ Some q → (u ≡ s → j ≢ i) → part_in m' u j
        ≡ part_in m u j
    pub bodies : (u : ℕ) (q : Spot) → spots u ≡ Some q → body_in m' u ≡ body_in m u
    pub others : (u : ℕ) → more u ≡ None → m' u ≡ m u
    pub was : (part_in m s i ≡ Some t) ⊎ ((part_in m s i ≡ None) × (body_in m' t ≡ Some nothing)
        × ((j : ℕ) → part_in m' t j ≡ None))

  -- only nodes at the place of the node in s and inside changed, and nodes were added
  pub record Changes (m m' : ℕ → Option (Entry (Held T))) (spots : ℕ → Option Spot) (s : ℕ)
      (p : Spot) (height : ℕ) : Type 0 where
    pub more : ℕ → Option Spot
    pub nodes : AreNodes m' more
    pub sound : IsSound height m' s
    pub known : (u : ℕ) (q : Spot) → spots u ≡ Some q → more u ≡ Some q
    pub fresh : (u : ℕ) → spots u ≡ None → (more u ≡ None) ⊎ (m u ≡ None)
    pub parts : (u : ℕ) (q : Spot) (j : ℕ) → spots u ≡ Some q → (Below p.place q.place → ⊥)
        → part_in m' u j ≡ part_in m u j
    pub bodies : (u : ℕ) (q : Spot) → spots u ≡ Some q → (Below p.place q.place → ⊥) → body_in m' u
        ≡ body_in m u
    pub others : (u : ℕ) → more u ≡ None → m' u ≡ m u

  -- the tree at the node is another now
  pub record Changed (m m' : ℕ → Option (Entry (Held T))) (spots : ℕ → Option Spot) (s : ℕ)
      (p : Spot) (height : ℕ) (q : List ℕ) (marked : Bool) (tree : Partial (Marked T))
      (least : Option ℕ) : Type 0 where
    pub changes : Changes m m' spots s p height
    pub tree_is : tree_at height m' s ≡ tree
    pub there : tree ≢ wanting
    pub open_before : whole (tree_at height m s) ≡ false
    pub marks : holds_some is_marked tree ≡ (holds_some is_marked (tree_at height m s) || marked)
    pub least_is : least_whole q tree ≡ least

  -- an item arrived, or a list was closed
  pub record ArrivesIn (m m' : ℕ → Option (Entry (Held T))) (s : ℕ) (q : List ℕ) (x : Marked T)
      (least : ℕ) : Type 0 where
    pub short : least ≤ length q
    pub all : (spots : ℕ → Option Spot) (height : ℕ) (i : InTree m spots s height) → length q
        ≤ height → CanArrive q (tree_at height m s) × Changed m m' spots s i.spot height q x.marked
        (arrive q x (tree_at height m s)) (Some least)

  abbrev pub RefusesArrivalIn : ℕ → List ℕ → T → Partial (Marked T) → ArriveRefused T → Type 0
  RefusesArrivalIn spare q x r (NoSuchPlace y) = (y ≡ x) × (is_place q r ≡ false)
  RefusesArrivalIn spare q x r (Occupied y) = (y ≡ x) × (is_place q r ≡ true)
      × (known_at q r ≢ wanting)
  RefusesArrivalIn spare q x r (NoMemory y) = (y ≡ x) × CanArrive q r × (spare < length q)

  -- a refusal that gives the item back
  abbrev pub with_item : T → NoArrival → ArriveRefused T
  with_item x NoPlace = NoSuchPlace x
  with_item x PlaceTaken = Occupied x
  with_item x NoRoom = NoMemory x

  pub record ClosesIn (m m' : ℕ → Option (Entry (Held T))) (s : ℕ) (q : List ℕ) (n : ℕ)
      (least : Option ℕ) : Type 0 where
    pub short : (k : ℕ) → least ≡ Some k → k ≤ length q
    pub all : (spots : ℕ → Option Spot) (height : ℕ) (i : InTree m spots s height) → length q
        < height → CanClose q n (tree_at height m s) × Changed m m' spots s i.spot height q false
        (close_at q n (tree_at height m s)) least

  abbrev pub RefusesCloseIn : ℕ → List ℕ → ℕ → Partial (Marked T) → CloseRefused → Type 0
  RefusesCloseIn spare q n r NoPlaceToClose = is_place q r ≡ true → IsItem (known_at q r)
  RefusesCloseIn spare q n r AlreadyClosed = (is_place q r ≡ true)
      × ((ps : Parts (Marked T)) × (known_at q r ≡ closed ps))
  RefusesCloseIn spare q n r (WrongLength asked needed) = (is_place q r ≡ true)
      × ((ps : Parts (Marked T)) × (known_at q r ≡ growing ps) × (needed ≡ part_count ps)
      × LastIsKnown ps) × (asked ≡ n) × (n < needed)
  RefusesCloseIn spare q n r NoMemoryToClose = CanClose q n r × (spare < length q)
