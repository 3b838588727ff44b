-- What the definitions say together, and of small graphs.
use Rattle.std.specs.Prelude.{◌≡◌, ℕ, ◌<◌, suc, [], ◌∷◌, length, map, take, true, None, Some, slice_index}
use Rattle.std.specs.List.{list_all}
use Rattle.tv_naming.specs.graphs.Graphs.{Graph, is_graph, before, is_one_of, comes_before, by_least, first_on_cycle, greatest, height, heights}

-- where no vertex comes before itself, all come
abbrev pub AllComeWithoutCycle : Type 0
AllComeWithoutCycle = (g : Graph) → is_graph g ≡ true → first_on_cycle g ≡ None
    → length (by_least g) ≡ length g

-- where all come, no vertex comes before itself
abbrev pub NoCycleWhereAllCome : Type 0
NoCycleWhereAllCome = (g : Graph) → length (by_least g) ≡ length g → first_on_cycle g ≡ None

-- each vertex comes after those before it
abbrev pub EachComesAfter : Type 0
EachComesAfter = (g : Graph) (i : ℕ) → i < length (by_least g)
    → list_all (is_one_of (take i (by_least g))) (before g (slice_index (by_least g) i)) ≡ true

-- no vertex comes twice
abbrev pub EachComesOnce : Type 0
EachComesOnce = (g : Graph) (i j : ℕ) → i < j → j < length (by_least g) → slice_index (by_least g) i
    ≡ slice_index (by_least g) j → ⊥

-- as many edges as there are vertices are enough to find what comes before what
abbrev pub EnoughEdges : Type 0
EnoughEdges = (g : Graph) (k w v : ℕ) → is_graph g ≡ true → v < length g → comes_before g k w v
    ≡ true → comes_before g (length g) w v ≡ true

-- without cycles a height is one more than the greatest of the heights before it
abbrev pub HeightFromHeights : Type 0
HeightFromHeights =
    (g : Graph) (v : ℕ) → is_graph g ≡ true → first_on_cycle g ≡ None → v < length g
    → height g (length g) v ≡ suc (greatest (map (height g (length g)) (before g v)))

-- a graph with edges that stand twice
abbrev pub repeats : Graph
repeats = (1 ∷ 1 ∷ 2 ∷ []) ∷ (2 ∷ 2 ∷ []) ∷ [] ∷ (0 ∷ 2 ∷ []) ∷ []

-- two cycles, and a vertex that waits for one of them
abbrev pub two_cycles : Graph
two_cycles = (1 ∷ []) ∷ (2 ∷ []) ∷ (3 ∷ 2 ∷ []) ∷ (4 ∷ []) ∷ (3 ∷ []) ∷ [] ∷ []

abbrev pub Worked : Type 0
Worked =
    (by_least repeats ≡ 2 ∷ 1 ∷ 0 ∷ 3 ∷ [])
    × (heights repeats ≡ 3 ∷ 2 ∷ 1 ∷ 4 ∷ [])
    × (first_on_cycle repeats ≡ None)
    × (by_least two_cycles ≡ 5 ∷ [])
    × (first_on_cycle two_cycles ≡ Some 2)
    × (by_least ([] ∷ [] ∷ []) ≡ 0 ∷ 1 ∷ [])
    × (first_on_cycle ((0 ∷ []) ∷ []) ≡ Some 0)
