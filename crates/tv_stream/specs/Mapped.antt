-- A partial tree with other items, and what so holds of a tree whose items stand for values.
use Rattle.std.specs.Prelude.{◌≡◌, ◌↔◌, ℕ, true, ◌||◌, Some, None}
use Rattle.tv_value.specs.Nested.{list, Place, at, count}
use Rattle.tv_value.specs.Values.{Value}
use Rattle.tv_value.specs.Orders.{is_prefix}
use Rattle.tv_parts.specs.Partials.{Partial, wanting, Parts, part_count, known_at, shows, whole, map_partial, map_parts}
use Rattle.tv_parts.specs.Below.{Values, Below, value_in}
use Rattle.tv_parts.specs.Changes.{arrive, close_at, CanArrive, CanClose, is_place, MayClose}
use Rattle.tv_parts.specs.Stated.{same_place}
use Rattle.tv_stream.specs.Trees.{Marked, least_whole}

-- ---- with other items

-- a tree changes as it does with other items
pub record ChangesAlike (A B : Type 0) : Type 0 where
  pub arrival : (f : A → B) (q : Place) (x : A) (r : Partial A) → map_partial f (arrive q x r)
      ≡ arrive q (f x) (map_partial f r)
  pub close : (f : A → B) (q : Place) (n : ℕ) (r : Partial A) → map_partial f (close_at q n r)
      ≡ close_at q n (map_partial f r)

-- the same stands at each place, but for the items; the same is known and whole
pub record IsAlike (A B : Type 0) : Type 0 where
  pub known : (f : A → B) (q : Place) (r : Partial A) → known_at q (map_partial f r)
      ≡ map_partial f (known_at q r)
  pub shows : (f : A → B) (r : Partial A) (q : Place) → shows (map_partial f r) q ≡ shows r q
  pub whole : (f : A → B) (r : Partial A) → whole (map_partial f r) ≡ whole r
  pub least : (f : A → B) (q : Place) (r : Partial A) → least_whole q (map_partial f r)
      ≡ least_whole q r
  pub count : (f : A → B) (ps : Parts A) → part_count (map_parts f ps) ≡ part_count ps

-- the same changes can be
pub record CanChangeAlike (A B : Type 0) : Type 0 where
  pub place : (f : A → B) (q : Place) (r : Partial A) → is_place q (map_partial f r) ≡ is_place q r
  pub arrival : (f : A → B) (q : Place) (r : Partial A) → CanArrive q (map_partial f r)
      ↔ CanArrive q r
  pub close : (f : A → B) (q : Place) (n : ℕ) (r : Partial A) → CanClose q n (map_partial f r)
      ↔ CanClose q n r

-- ---- whatever the items are

-- what was known stays; an item shows itself and all inside it besides, a closed list itself
pub record KnownStays (A : Type 0) : Type 0 where
  pub arrival : (q : Place) (x : A) (r : Partial A) → CanArrive q r → (s : Place)
      → shows (arrive q x r) s ≡ (shows r s || is_prefix q s)
  pub close : (q : Place) (n : ℕ) (r : Partial A) → CanClose q n r → (s : Place)
      → shows (close_at q n r) s ≡ (shows r s || same_place q s)

-- where something can arrive or be closed, no prefix of the place was whole
pub record NoneWasWhole (A : Type 0) : Type 0 where
  pub arrival : (q : Place) (r : Partial A) → CanArrive q r → least_whole q r ≡ None
  pub close : (q : Place) (n : ℕ) (r : Partial A) → CanClose q n r → least_whole q r ≡ None

-- an item can arrive exactly at the places where nothing is known, and a list be closed where one grows that isn't longer
pub record ChangesWhereOpen (A : Type 0) : Type 0 where
  pub arrival : (q : Place) (r : Partial A) → CanArrive q r
      ↔ ((is_place q r ≡ true) × (known_at q r ≡ wanting))
  pub close : (q : Place) (n : ℕ) (r : Partial A) → CanClose q n r
      ↔ ((is_place q r ≡ true) × MayClose n (known_at q r))

-- ---- where items stand for values

-- the tree of the values that the items stand for
abbrev pub value_tree_by : {T : Type 0} → (T → Value) → Partial (Marked T) → Partial Value
value_tree_by stands_for r = map_partial (λ x. stands_for x.value) r

-- a tree below a value stays below it when an item that stands for the value's part arrives, or a list is closed with its length there; a whole one shows the value
pub record ItemsBuildValue (T : Type 0) : Type 0 where
  pub arrival : (stands_for : T → Value) (q : Place) (x : Marked T) (r : Partial (Marked T))
      (v : Value) → Below (value_tree_by stands_for r) v → at v q ≡ Some (stands_for x.value)
      → Below (value_tree_by stands_for (arrive q x r)) v
  pub close : (stands_for : T → Value) (q : Place) (n : ℕ) (r : Partial (Marked T)) (v : Value)
      (m : Unit {0}) (us : Values) → Below (value_tree_by stands_for r) v → at v q
      ≡ Some (list m us)
      → count us ≡ n → Below (value_tree_by stands_for (close_at q n r)) v
  pub whole : (stands_for : T → Value) (r : Partial (Marked T)) (v : Value)
      → Below (value_tree_by stands_for r) v → whole r ≡ true
      → value_in (value_tree_by stands_for r) ≡ v
