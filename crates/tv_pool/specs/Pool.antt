-- What a contract sees of a pool and of its handles.
use Rattle.std.specs.Prelude.{◌≡◌, ◌≢◌, ℕ, List, length, [], ◌∷◌, ◌++◌, map, Option, Some, None, IsSomeAnd, slice_get, slice_index_or, slice_set, eqb, if◌then◌else◌, ◌^◌, ◌-◌}
use Rattle.std.specs.List.{sum_by}
use Rattle.tv_pool.specs.declared.handles.Region.{Region}
use Rattle.tv_pool.specs.declared.handles.Node.{Node}
use Rattle.tv_pool.specs.declared.handles.Link.{Link}

-- an item of a region, and the slot of the pool's memory that holds it
pub record Stored (T : Type 0) : Type 0 where
  pub item : T
  pub slot : ℕ

-- a live region: its entry in the pool's table, and its items in the order in which they were put
pub record Contents (T : Type 0) : Type 0 where
  pub entry : ℕ
  pub stored : List (Stored T)

-- under each number given so far its region, or nothing once that was released; and how many puts
-- can't be refused
pub record Pool (T : Type 0) : Type 0 where
  pub regions : List (Option (Contents T))
  pub spare : ℕ

-- a region, as its number
abbrev pub number_of : Region → ℕ
number_of region = region.number

-- a node, as its region's number and a position in that region's list
abbrev pub region_of : Node → ℕ
region_of node = node.region

abbrev pub position_of : Node → ℕ
position_of node = node.position

-- where a node's item lies in the pool's memory, and where a link leads
abbrev pub slot_of : Node → ℕ
slot_of node = node.slot

abbrev pub lies_at : Link → ℕ
lies_at link = link.slot

-- where nothing ever lies
abbrev pub nowhere : ℕ
nowhere = 2 ^ 64 - 1

module _ {T : Type 0} where
  -- what stands under a number: nothing before it was given, and once its region was released
  abbrev pub region_at : Pool T → ℕ → Option (Contents T)
  region_at pool number = slice_index_or pool.regions number None

  abbrev pub stored_in : Option (Contents T) → List (Stored T)
  stored_in None = []
  stored_in (Some contents) = contents.stored

  -- the items of a region in the order in which they were put; none where it isn't live
  abbrev pub items_of : Pool T → ℕ → List T
  items_of pool number = map (λ s. s.item) (stored_in (region_at pool number))

  -- the region is a live one of this pool
  abbrev pub IsLive : Pool T → Region → Type 0
  IsLive pool region = IsSomeAnd (region_at pool region.number) (λ c. c.entry ≡ region.entry)

  -- what stands at a node's position in its region's list
  abbrev pub stored_at : Pool T → Node → Option (Stored T)
  stored_at pool node = slice_get (stored_in (region_at pool node.region)) node.position

  -- the node's region is live in this pool and holds it
  abbrev pub Holds : Pool T → Node → Type 0
  Holds pool node = IsSomeAnd (stored_at pool node) (λ s. s.slot ≡ node.slot)

  -- the item at a node's position in its region's list
  abbrev pub item_at : Pool T → Node → Option T
  item_at pool node = slice_get (items_of pool node.region) node.position

  -- the item that lies in a slot
  abbrev pub lying_in : List (Stored T) → ℕ → Option T
  lying_in [] slot = None
  lying_in (s ∷ ss) slot = if eqb s.slot slot then Some s.item else lying_in ss slot

  -- what a region has in a slot
  abbrev pub item_in : Pool T → ℕ → ℕ → Option T
  item_in pool number slot = lying_in (stored_in (region_at pool number)) slot

  -- the link leads to an item of a live region
  pub record IsLinked (pool : Pool T) (link : Link) : Type 0 where
    pub number : ℕ
    pub item : T
    pub lies : item_in pool number (lies_at link) ≡ Some item

  -- with this in place of what lies where the link leads
  abbrev pub with_lying : ℕ → T → Stored T → Stored T
  with_lying slot item s = record { item = if eqb s.slot slot then item else s.item; slot = s.slot }

  abbrev pub contents_written : ℕ → T → Option (Contents T) → Option (Contents T)
  contents_written slot item None = None
  contents_written slot item (Some c) = Some (record {
    entry = c.entry;
    stored = map (with_lying slot item) c.stored;
  })

  abbrev pub with_linked : Pool T → Link → T → Pool T
  with_linked pool link item =
      record pool { regions = map (contents_written (lies_at link) item) pool.regions }

  -- how many items live regions have
  abbrev pub live_count : List (Option (Contents T)) → ℕ
  live_count regions = sum_by (λ c. length (stored_in c)) regions

  -- the region has the next number and is empty, and all else stays
  pub record Begins (old new : Pool T) (region : Region) : Type 0 where
    pub number : number_of region ≡ length old.regions
    pub regions : new.regions ≡ old.regions ++ Some (record { entry = region.entry; stored = [] })
        ∷ []

  -- the pool's regions with this in place of what stands under the number
  abbrev pub regions_with : Pool T → ℕ → Option (Contents T) → List (Option (Contents T))
  regions_with pool number contents = slice_set pool.regions number contents

  -- the region's contents with one item more, last
  abbrev pub contents_with : Pool T → Region → Stored T → Contents T
  contents_with pool region last =
      record {
        entry = region.entry;
        stored = stored_in (region_at pool region.number) ++ last
            ∷ [];
      }

  -- the item is last in the region's list, the node is at its position, and all else stays
  pub record Puts (old new : Pool T) (region : Region) (item : T) (node : Node) : Type 0 where
    pub number : region_of node ≡ number_of region
    pub position : position_of node ≡ length (items_of old (number_of region))
    pub regions : new.regions ≡ regions_with old (number_of region)
        (Some (contents_with old region (record { item = item; slot = node.slot })))

  -- what stands under the node's number, with this as the item at its position
  abbrev pub written : Option (Contents T) → Node → T → Option (Contents T)
  written None node item = None
  written (Some c) node item =
      Some (record c {
        stored = slice_set c.stored node.position (record {
          item = item;
          slot = node.slot;
        });
      })

  -- the pool with this as the item at the node's position
  abbrev pub with_item : Pool T → Node → T → Pool T
  with_item pool node item =
      record pool {
        regions = regions_with pool (region_of node)
            (written (region_at pool (region_of node)) node item);
      }

  -- regions and nodes that were the pool's still are, and the nodes have the items that they had
  pub record Keeps (old new : Pool T) : Type 0 where
    pub live : (region : Region) → IsLive old region → IsLive new region
    pub held : (node : Node) → Holds old node → Holds new node
    pub items : (node : Node) → Holds old node → item_at new node ≡ item_at old node

  -- the same for all regions but that of the number
  pub record KeepsOthers (old new : Pool T) (number : ℕ) : Type 0 where
    pub live : (region : Region) → number_of region ≢ number → IsLive old region → IsLive new region
    pub held : (node : Node) → region_of node ≢ number → Holds old node → Holds new node
    pub items : (node : Node) → region_of node ≢ number → Holds old node → item_at new node
        ≡ item_at old node
