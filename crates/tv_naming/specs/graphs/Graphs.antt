-- Graphs of numbered vertices: each vertex has a list of those that come directly before it.
use Rattle.std.specs.Prelude.{ℕ, zero, suc, max, List, [], ◌∷◌, map, length, Bool, not, ◌==◌, ◌||◌, ◌&&◌, ◌^◌, nat_lt, Option, find, unwrap_or, slice_get}
use Rattle.std.specs.List.{list_any, list_all, range_with_len}
use Rattle.std.specs.Option.{option_map_or}

abbrev pub Graph : Type 0
Graph = List (List ℕ)

-- every edge comes from a vertex, and vertices have numbers below 2^32
abbrev pub is_graph : Graph → Bool
is_graph g = nat_lt (length g) (2 ^ 32) && list_all (λ us. list_all (λ u. nat_lt u (length g)) us) g

-- the vertices directly before v, none beyond the graph
abbrev pub before : Graph → ℕ → List ℕ
before g v = unwrap_or (slice_get g v) []

abbrev pub vertices : Graph → List ℕ
vertices g = range_with_len 0 (length g)

-- whether w comes before v, by so many edges or fewer and at least one
abbrev pub comes_before : Graph → ℕ → ℕ → ℕ → Bool
comes_before g zero w v = list_any (λ u. w == u) []
comes_before g (suc k) w v = list_any (λ u. w == u || comes_before g k w u) (before g v)

-- whether a vertex comes before itself
abbrev pub is_on_cycle : Graph → ℕ → Bool
is_on_cycle g v = comes_before g (length g) v v

-- the least vertex that does
abbrev pub first_on_cycle : Graph → Option ℕ
first_on_cycle g = find (is_on_cycle g) (vertices g)

abbrev pub is_one_of : List ℕ → ℕ → Bool
is_one_of vs v = list_any (λ u. v == u) vs

-- whether v may be taken next: it isn't taken, and all those directly before it are
abbrev pub is_next : Graph → List ℕ → ℕ → Bool
is_next g taken v = not (is_one_of taken v) && list_all (is_one_of taken) (before g v)

-- the least vertex that may be taken next, again and again
abbrev pub taken_by_least : Graph → ℕ → List ℕ → List ℕ
taken_by_least g zero taken = []
taken_by_least g (suc n) taken =
    option_map_or (λ v. v ∷ taken_by_least g n (v ∷ taken)) (find (is_next g taken) (vertices g)) []

-- the vertices, each after those before it, and the least first where there is a choice; those that wait for a cycle never come
abbrev pub by_least : Graph → List ℕ
by_least g = taken_by_least g (length g) []

abbrev pub greatest : List ℕ → ℕ
greatest [] = 0
greatest (n ∷ ns) = max n (greatest ns)

-- one more than the greatest height of those before it; `levels` bounds how deep it is looked into
abbrev pub height : Graph → ℕ → ℕ → ℕ
height g zero v = 1
height g (suc levels) v = suc (greatest (map (height g levels) (before g v)))

abbrev pub heights : Graph → List ℕ
heights g = map (height g (length g)) (vertices g)
