-- The partial tree that stands in the memory of a pool: each node has a body, and parts that are found by their indices.
use Rattle.std.specs.Prelude.{ℕ, zero, suc, Bool, if◌then◌else◌, List, [], ◌∷◌, Option, Some, None}
use Rattle.std.specs.Option.{option_map}
use Rattle.tv_parts.specs.Partials.{Partial, wanting, item, growing, closed, Parts, no_parts, part, part_at, whole}
use Rattle.tv_pool.specs.Pool.{Pool, item_in, region_of, slot_of}
use Rattle.tv_stream.specs.declared.nodes.Entry.{Entry}
use Rattle.tv_stream.specs.nodes.Nodes.{part_in, body_in}
use Rattle.tv_stream.specs.declared.held.Held.{Held}
use Rattle.tv_stream.specs.declared.held.Counts.{Counts}
use Rattle.tv_stream.specs.declared.held.Part.{Part}
use Rattle.tv_stream.specs.declared.held.Part.TheVariants.{Wanting, Item, Numbered}
use Rattle.tv_stream.specs.declared.partial.Partial.{Partial as Handle}

-- an item as a tree has it: with its mark
pub record Marked (T : Type 0) : Type 0 where
  pub value : T
  pub marked : Bool

-- so many parts, each by its index
abbrev pub listed : {A : Type 0} → ℕ → (ℕ → Partial A) → Parts A
listed zero f = no_parts
listed (suc n) f = part (f 0) (listed n (λ i. f (suc i)))

-- how many parts a list has: a closed one its length, another as many as up to the last known
abbrev pub count_of : Counts → ℕ
count_of c = elim c.length [ None ↦ c.most | Some n ↦ n ]

abbrev pub list_of : {A : Type 0} → Option ℕ → Parts A → Partial A
list_of None ps = growing ps
list_of (Some n) ps = closed ps

abbrev pub optional : {A : Type 0} → (ℕ → Partial A) → Option ℕ → Partial A
optional f None = wanting
optional f (Some t) = f t

module _ {T : Type 0} where
  abbrev pub parts_by : (ℕ → Partial (Marked T)) → (ℕ → Option (Entry (Held T))) → ℕ → ℕ
      → Parts (Marked T)
  parts_by tree m s count = listed count (λ i. optional tree (part_in m s i))

  -- what a node is, where the parts of the node are such trees
  abbrev pub tree_by : (ℕ → Partial (Marked T)) → (ℕ → Option (Entry (Held T))) → ℕ → Bool → Part T
      → Partial (Marked T)
  tree_by tree m s marked Wanting = wanting
  tree_by tree m s marked (Item v) = item (record { value = v; marked = marked })
  tree_by tree m s marked (Numbered c) = list_of c.length (parts_by tree m s (count_of c))

  abbrev pub held_tree : (ℕ → Partial (Marked T)) → (ℕ → Option (Entry (Held T))) → ℕ
      → Option (Held T) → Partial (Marked T)
  held_tree tree m s None = wanting
  held_tree tree m s (Some b) = tree_by tree m s b.marked b.part

  -- the tree at a node, with so many levels below it
  unfoldable pub tree_at : ℕ → (ℕ → Option (Entry (Held T))) → ℕ → Partial (Marked T)
  tree_at zero m s = held_tree (λ t. wanting) m s (body_in m s)
  tree_at (suc height) m s = held_tree (tree_at height m) m s (body_in m s)

  abbrev pub memory_of : Pool (Entry (Held T)) → Handle T → ℕ → Option (Entry (Held T))
  memory_of pool p = item_in pool (region_of p.root)

  -- the partial tree of a handle
  abbrev pub tree_of : Pool (Entry (Held T)) → Handle T → Partial (Marked T)
  tree_of pool p = tree_at p.depth (memory_of pool p) (slot_of p.root)

-- the least length of a prefix of the place at which all is known
abbrev pub least_whole : {A : Type 0} → List ℕ → Partial A → Option ℕ
least_whole [] p = if whole p then Some 0 else None
least_whole (i ∷ q) p = if whole p then Some 0 else option_map suc (least_whole q (part_at p i))
