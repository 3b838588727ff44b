-- When nodes stand in a pool as the calls of this crate put them there.
use Rattle.std.specs.Prelude.{◌≡◌, ◌≢◌, ℕ, suc, ◌<◌, ◌^◌, ◌==◌, if◌then◌else◌, ◌%◌, List, [], ◌∷◌, ◌++◌, length, Option, Some, None}
use Rattle.tv_pool.specs.Pool.{Pool, item_in, nowhere}
use Rattle.tv_stream.specs.declared.nodes.Entry.{Entry}
use Rattle.tv_stream.specs.nodes.Nodes.{leads, own_link}
use Rattle.tv_stream.specs.nodes.Digits.{without, Agree}

-- a node's place in its tree, the slot and the place of the node that it is a part of, and how many links it is from the first part
pub record Spot : Type 0 where
  pub place : List ℕ
  pub owner : ℕ
  pub base : List ℕ
  pub level : ℕ

-- whose part hangs by a link of the node in the slot s
abbrev pub owner_by : ℕ → Spot → ℕ → ℕ
owner_by s p by = if by == own_link then s else p.owner

abbrev pub base_by : Spot → ℕ → List ℕ
base_by p by = if by == own_link then p.place else p.base

-- at how many links from the first part
abbrev pub level_by : Spot → ℕ → ℕ
level_by p by = if by == own_link then 0 else suc p.level

module _ {B : Type 0} where
  -- what a link leads to: another of the list, whose index has the digits that led there
  pub record Hangs (s : ℕ) (p : Spot) (e : Entry B) (by : ℕ) (q : Spot) (f : Entry B) : Type 0 where
    pub owner : q.owner ≡ owner_by s p by
    pub base : q.base ≡ base_by p by
    pub place : q.place ≡ q.base ++ f.index ∷ []
    pub level : q.level ≡ level_by p by
    pub digits : by ≢ own_link → Agree p.level f.index e.index
    pub digit : by ≢ own_link → without p.level f.index % 4 ≡ by

  pub record IsEntry (m : ℕ → Option (Entry B)) (s : ℕ) : Type 0 where
    pub entry : Entry B
    pub lies : m s ≡ Some entry
    pub there : s ≢ nowhere
    pub links : length entry.links ≡ 5
    pub index : entry.index < 2 ^ 32

  pub record Leads (m : ℕ → Option (Entry B)) (spots : ℕ → Option Spot) (s : ℕ) (p : Spot)
      (e : Entry B) (by : ℕ) : Type 0 where
    pub spot : Spot
    pub entry : Entry B
    pub known : spots (leads e by) ≡ Some spot
    pub lies : m (leads e by) ≡ Some entry
    pub hangs : Hangs s p e by spot entry

  -- the slots with a spot hold the nodes of trees
  pub record AreNodes (m : ℕ → Option (Entry B)) (spots : ℕ → Option Spot) : Type 0 where
    pub entries : (s : ℕ) (p : Spot) → spots s ≡ Some p → IsEntry m s
    pub links : (s : ℕ) (p : Spot) (e : Entry B) (by : ℕ) → spots s ≡ Some p → m s ≡ Some e → by < 5
        → leads e by ≢ nowhere → Leads m spots s p e by

  -- the node in a slot of a region
  pub record IsNode (pool : Pool (Entry B)) (number s : ℕ) : Type 0 where
    pub spots : ℕ → Option Spot
    pub nodes : AreNodes (item_in pool number) spots
    pub spot : Spot
    pub known : spots s ≡ Some spot

abbrev pub with_spot : (ℕ → Option Spot) → ℕ → Spot → ℕ → Option Spot
with_spot spots s p x = if x == s then Some p else spots x
