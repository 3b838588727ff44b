-- A partial tree: what is known so far of a value that arrives in parts. The parts of a list stand at their indices, with `wanting` where nothing is known yet; behind the last part nothing is known either.
use Rattle.std.specs.Prelude.{◌≡◌, ◌≤◌, ℕ, zero, suc, ◌+◌, Bool, true, false, ◌&&◌, if◌then◌else◌, [], ◌∷◌, length, nat_lt, take}
use Rattle.tv_value.specs.Nested.{Place}
use Rattle.tv_value.specs.Values.{Value, holds_fault}

-- A is what items are: values, or what stands for them. A closed list has as many parts as its length.
mutual
  pub data Partial (A : Type 0) : Type 0 where
    wanting : Partial A
    item : A → Partial A
    growing : Parts A → Partial A
    closed : Parts A → Partial A

  pub data Parts (A : Type 0) : Type 0 where
    no_parts : Parts A
    part : Partial A → Parts A → Parts A

abbrev pub part_count : {A : Type 0} → Parts A → ℕ
part_count no_parts = 0
part_count (part p ps) = suc (part_count ps)

abbrev pub part_of : {A : Type 0} → Parts A → ℕ → Partial A
part_of no_parts i = wanting
part_of (part p ps) zero = p
part_of (part p ps) (suc i) = part_of ps i

-- the part of a list at an index
abbrev pub part_at : {A : Type 0} → Partial A → ℕ → Partial A
part_at wanting i = wanting
part_at (item v) i = wanting
part_at (growing ps) i = part_of ps i
part_at (closed ps) i = part_of ps i

-- what is known at a place
abbrev pub known_at : {A : Type 0} → Place → Partial A → Partial A
known_at [] p = p
known_at (i ∷ q) p = known_at q (part_at p i)

-- the node at a place is known: a list once it is closed, and an item with all inside it
abbrev pub shows : {A : Type 0} → Partial A → Place → Bool
shows wanting q = false
shows (item w) q = true
shows (growing ps) [] = false
shows (growing ps) (i ∷ q) = shows (part_of ps i) q
shows (closed ps) [] = true
shows (closed ps) (i ∷ q) = shows (part_of ps i) q

-- an item, or a closed list whose parts are all whole
abbrev mutual
  pub whole : {A : Type 0} → Partial A → Bool
  whole wanting = false
  whole (item w) = true
  whole (growing ps) = false
  whole (closed ps) = all_whole ps

  pub all_whole : {A : Type 0} → Parts A → Bool
  all_whole no_parts = true
  all_whole (part p ps) = whole p && all_whole ps

-- how many parts of a list are whole: its counter
abbrev pub one_if : Bool → ℕ
one_if b = if b then 1 else 0

abbrev pub whole_count : {A : Type 0} → Parts A → ℕ
whole_count no_parts = 0
whole_count (part p ps) = one_if (whole p) + whole_count ps

-- whether some item that passes the test stands there or inside
abbrev mutual
  pub holds_some : {A : Type 0} → (A → Bool) → Partial A → Bool
  holds_some test wanting = false
  holds_some test (item w) = test w
  holds_some test (growing ps) = some_holds test ps
  holds_some test (closed ps) = some_holds test ps

  pub some_holds : {A : Type 0} → (A → Bool) → Parts A → Bool
  some_holds test no_parts = false
  some_holds test (part p ps) = if holds_some test p then true else some_holds test ps

-- at so many prefixes of the place, from the empty one on, the tree holds a fault
abbrev pub HoldsFaults : Place → Partial Value → ℕ → Type 0
HoldsFaults q tree count = (m : ℕ) → m ≤ length q → nat_lt m count
    ≡ holds_some holds_fault (known_at (take m q) tree)

-- the same tree with other items
abbrev mutual
  pub map_partial : {A B : Type 0} → (A → B) → Partial A → Partial B
  map_partial f wanting = wanting
  map_partial f (item w) = item (f w)
  map_partial f (growing ps) = growing (map_parts f ps)
  map_partial f (closed ps) = closed (map_parts f ps)

  pub map_parts : {A B : Type 0} → (A → B) → Parts A → Parts B
  map_parts f no_parts = no_parts
  map_parts f (part p ps) = part (map_partial f p) (map_parts f ps)
