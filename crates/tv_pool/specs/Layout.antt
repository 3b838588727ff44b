-- How a pool lays out its items: each region is a chain of slots, from its last item back to its
-- first. No public clause cites this module.
use Rattle.std.specs.Prelude.{◌≡◌, ℕ, zero, suc, ◌-◌, ◌<◌, ◌≤◌, List, [], ◌∷◌, ◌++◌, map, Option, Some, None, eqb, if◌then◌else◌, slice_index_or}
use Rattle.std.specs.List.{range_with_len}
use Rattle.slab.specs.Slab.{Slab, get, slab_len}
use Rattle.tv_pool.specs.Pool.{Pool, Contents, Stored, live_count}
use Rattle.tv_pool.specs.declared.layout.Placed.{Placed}
use Rattle.tv_pool.specs.declared.layout.Chain.{Chain}
use Rattle.tv_pool.specs.declared.Pool.TheInside.{Inside}

-- which region has a slot, and at which position of its list
pub record Places : Type 0 where
  pub owner : ℕ → ℕ
  pub position : ℕ → ℕ

-- the first entry from this one on whose chain has the number
abbrev pub find_from : ℕ → List (Option Chain) → ℕ → Option (ℕ × Chain)
find_from entry [] number = None
find_from entry (None ∷ rest) number = find_from (suc entry) rest number
find_from entry (Some chain ∷ rest) number =
    if eqb chain.number number then Some (entry, chain) else find_from (suc entry) rest number

module _ {T : Type 0} where
  -- the chain of so many slots that ends in `last`: each is the region's, at its position
  abbrev pub IsChain : List (Option (Placed T)) → Places → ℕ → ℕ → ℕ → Type 0
  IsChain slots places number last zero = Unit {0}
  IsChain slots places number last (suc before) = (placed : Placed T)
      × (slice_index_or slots last None ≡ Some placed)
      × (places.owner last ≡ number) × (places.position last ≡ before)
      × IsChain slots places number placed.previous before

  -- the items of the chain of so many slots that ends in `last`, first to last
  abbrev pub chain_items : List (Option (Placed T)) → ℕ → ℕ → List (Stored T)
  chain_items slots last zero = []
  chain_items slots last (suc before) = elim (slice_index_or slots last None) [
    | None ↦ []
    | Some placed ↦ chain_items slots placed.previous before ++ record {
      item = placed.item;
      slot = last;
    } ∷ []
  ]

  abbrev pub contents_of : List (Option (Placed T)) → Option (ℕ × Chain) → Option (Contents T)
  contents_of slots None = None
  contents_of slots (Some found) =
      Some (record { entry = found.0; stored = chain_items slots found.1.last found.1.count })

  -- what stands under a number
  abbrev pub contents_at : List (Option (Placed T)) → List (Option Chain) → ℕ → Option (Contents T)
  contents_at slots table number = contents_of slots (find_from 0 table number)

  -- what stands under each number given so far
  abbrev pub regions_of : List (Option (Placed T)) → List (Option Chain) → ℕ
      → List (Option (Contents T))
  regions_of slots table begun = map (contents_at slots table) (range_with_len 0 begun)

  -- the regions have numbers of their own among those given, and chains that share no slot, since
  -- each slot has one place; the chains hold all items
  pub record IsLaidOut (nodes : Slab (Placed T)) (table : Slab Chain) (begun : ℕ) : Type 0 where
    pub numbered : (entry : ℕ) (c : Chain) → get table entry ≡ Some c → c.number < begun
    pub apart : (one other : ℕ) (c d : Chain) → get table one ≡ Some c → get table other ≡ Some d
        → c.number ≡ d.number → one ≡ other
    pub places : Places
    pub chained : (entry : ℕ) (c : Chain) → get table entry ≡ Some c
        → IsChain nodes.slots places c.number c.last c.count
    pub counted : slab_len nodes ≡ live_count (regions_of nodes.slots table.slots begun)
    pub room : slab_len nodes ≤ nodes.capacity

  abbrev pub view_of : Inside T → Pool T
  view_of p = record {
    regions = regions_of p.nodes.slots p.regions.slots p.begun;
    spare = p.nodes.capacity - slab_len p.nodes;
  }

  abbrev pub invariant_of : Inside T → Type 0
  invariant_of p = IsLaidOut p.nodes p.regions p.begun
