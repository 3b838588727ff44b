-- The laws of partial trees.
use Rattle.std.specs.Prelude.{◌≡◌, ◌↔◌, ℕ, ◌+◌, ◌≤◌, Bool, true, false, ◌||◌, ◌==◌, Some}
use Rattle.std.specs.List.{list_all}
use Rattle.std.specs.Cmp.Lexicographic.{pointwise}
use Rattle.tv_value.specs.Nested.{Tree, list, Place, at, count, note, notes, map_tree}
use Rattle.tv_value.specs.Values.{Scalar, Value}
use Rattle.tv_value.specs.Orders.{is_prefix}
use Rattle.tv_parts.specs.Partials.{Partial, wanting, Parts, part_count, part_of, known_at, shows, whole, all_whole, one_if, whole_count}
use Rattle.tv_parts.specs.Below.{Values, Below, value_in}
use Rattle.tv_parts.specs.Changes.{with_part, arrive, close_at, CanArrive, CanClose, is_place, MayClose}

-- ---- below a value

-- a tree below a value stays below when a part of the value arrives, or a list is closed with its length there
pub record StayBelow : Type 0 where
  pub arrival : (q : Place) (w : Value) (r : Partial Value) (v : Value) → Below r v → at v q
      ≡ Some w → Below (arrive q w r) v
  pub close : (q : Place) (n : ℕ) (r : Partial Value) (v : Value) (m : Unit {0}) (us : Values)
      → Below r v → at v q ≡ Some (list m us) → count us ≡ n → Below (close_at q n r) v

-- a whole tree below a value is the value
abbrev pub WholeIsValue : Type 0
WholeIsValue = (r : Partial Value) (v : Value) → Below r v → whole r ≡ true → value_in r ≡ v

-- ---- what is known

abbrev pub same_place : Place → Place → Bool
same_place = pointwise ◌==◌

-- what was known stays; an item shows itself and all inside it besides, a closed list itself
pub record ShowMore : Type 0 where
  pub arrival : (q : Place) (w : Value) (r : Partial Value) → CanArrive q r → (s : Place)
      → shows (arrive q w r) s ≡ (shows r s || is_prefix q s)
  pub close : (q : Place) (n : ℕ) (r : Partial Value) → CanClose q n r → (s : Place)
      → shows (close_at q n r) s ≡ (shows r s || same_place q s)

-- ---- whole lists by counting

-- a closed list is whole where its counter has reached its length, and goes no further
pub record Counted (ps : Parts Value) : Type 0 where
  pub whole : all_whole ps ≡ (whole_count ps == part_count ps)
  pub most : whole_count ps ≤ part_count ps

abbrev pub WholeByCount : Type 0
WholeByCount = (ps : Parts Value) → Counted ps

-- where a part that wasn't whole is exchanged, the counter rises by one if the new part is whole, and else stands
abbrev pub CounterRises : Type 0
CounterRises = (r : Partial Value) (ps : Parts Value) (i : ℕ) → whole (part_of ps i) ≡ false
    → whole_count (with_part r ps i) ≡ one_if (whole r) + whole_count ps

-- what can still change stands in no whole list
pub record ChangeNoWhole : Type 0 where
  pub arrival : (q : Place) (r : Partial Value) → CanArrive q r → whole r ≡ false
  pub close : (q : Place) (n : ℕ) (r : Partial Value) → CanClose q n r → whole r ≡ false

-- ---- a value whose nodes are known or not

-- the tree shows the known nodes of the value
abbrev pub ShowsKnown : Partial Value → Tree Bool Scalar → Type 0
ShowsKnown r u = (s : Place) (x : Tree Bool Scalar) → at u s ≡ Some x → note x ≡ shows r s

-- then it is whole exactly where all nodes are known
abbrev pub WholeWhereAllKnown : Type 0
WholeWhereAllKnown = (r : Partial Value) (u : Tree Bool Scalar)
    → Below r (map_tree (λ b. tt) (λ a. a) u) → ShowsKnown r u → list_all (λ b. b) (notes u)
    ≡ whole r

-- ---- where a change can be

-- an item can arrive exactly at the places where nothing is known, and a list be closed where one grows that isn't longer
pub record ChangeThere : Type 0 where
  pub arrival : (q : Place) (r : Partial Value) → CanArrive q r
      ↔ ((is_place q r ≡ true) × (known_at q r ≡ wanting))
  pub close : (q : Place) (n : ℕ) (r : Partial Value) → CanClose q n r
      ↔ ((is_place q r ≡ true) × MayClose n (known_at q r))
