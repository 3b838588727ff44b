-- What the calls of this crate do.
use Rattle.std.specs.Prelude.{◌≡◌, ◌≢◌, ℕ, ◌<◌, ◌^◌, [], ◌∷◌, ◌++◌, length, Option, Some, None}
use Rattle.tv_pool.specs.Pool.{Pool, item_in, lies_at, region_at, stored_in, IsLive}
use Rattle.tv_pool.specs.declared.handles.Region.{Region}
use Rattle.tv_stream.specs.declared.nodes.Entry.{Entry}
use Rattle.tv_stream.specs.declared.nodes.Gap.{Gap}
use Rattle.tv_stream.specs.declared.nodes.Stop.{Stop}
use Rattle.tv_stream.specs.declared.nodes.Stop.TheVariants.{Found, Free}
use Rattle.tv_stream.specs.nodes.Nodes.{free, seek_part, part_in, body_in}
use Rattle.tv_stream.specs.nodes.Stands.{Spot, AreNodes, with_spot}

abbrev pub part_of_gap : Gap → ℕ
part_of_gap gap = gap.index

abbrev pub root_spot : Spot
root_spot = record { place = []; owner = 0; base = []; level = 0 }

module _ {B : Type 0} where
  -- the search for a part of a node ends at this gap
  pub record IsGap (m : ℕ → Option (Entry B)) (s : ℕ) (gap : Gap) : Type 0 where
    pub node : lies_at gap.node ≡ s
    pub ends : seek_part m s gap.index ≡ free (lies_at gap.at) gap.by
    pub fits : gap.index < 2 ^ 32

  abbrev pub EndsAt : (ℕ → Option (Entry B)) → ℕ → ℕ → Stop → Type 0
  EndsAt m s index (Found link) = part_in m s index ≡ Some (lies_at link)
  EndsAt m s index (Free gap) = (part_in m s index ≡ None) × (gap.index ≡ index) × IsGap m s gap

  -- a root alone
  pub record Plants (m m' : ℕ → Option (Entry B)) (n : ℕ) (b : B) : Type 0 where
    pub fresh : m n ≡ None
    pub nodes : (spots : ℕ → Option Spot) → AreNodes m spots
        → AreNodes m' (with_spot spots n (root_spot))
    pub empty : (index : ℕ) → part_in m' n index ≡ None
    pub body : body_in m' n ≡ Some b
    pub others : (s : ℕ) → s ≢ n → m' s ≡ m s

  -- a part of the node in the slot s, with the spot p, now lies in the slot n
  pub record HangsPart (m m' : ℕ → Option (Entry B)) (spots : ℕ → Option Spot) (s : ℕ) (p : Spot)
      (index n : ℕ) (b : B) : Type 0 where
    pub spot : Spot
    pub place : spot.place ≡ p.place ++ index ∷ []
    pub nodes : AreNodes m' (with_spot spots n spot)
    pub fresh : m n ≡ None
    pub part : part_in m' s index ≡ Some n
    pub empty : (i : ℕ) → part_in m' n i ≡ None
    pub body : body_in m' n ≡ Some b
    pub parts : (t : ℕ) (q : Spot) (i : ℕ) → spots t ≡ Some q → (t ≡ s → i ≢ index) → part_in m' t i
        ≡ part_in m t i
    pub bodies : (t : ℕ) (q : Spot) → spots t ≡ Some q → body_in m' t ≡ body_in m t
    pub others : (t : ℕ) → spots t ≡ None → t ≢ n → m' t ≡ m t

  -- another body
  pub record Sets (m m' : ℕ → Option (Entry B)) (s : ℕ) (b : B) : Type 0 where
    pub nodes : (spots : ℕ → Option Spot) → AreNodes m spots → AreNodes m' spots
    pub body : body_in m' s ≡ Some b
    pub parts : (t index : ℕ) → part_in m' t index ≡ part_in m t index
    pub others : (t : ℕ) → t ≢ s → m' t ≡ m t

  -- other regions are as they were, and all live regions are live
  pub record KeepsRegions (old new : Pool (Entry B)) (number : ℕ) : Type 0 where
    pub live : (region : Region) → IsLive old region → IsLive new region
    pub others : (other : ℕ) → other ≢ number → region_at new other ≡ region_at old other

  -- how many nodes the region of a number has
  abbrev pub count_in : Pool (Entry B) → ℕ → ℕ
  count_in pool number = length (stored_in (region_at pool number))
