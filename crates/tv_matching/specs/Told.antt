-- What a matcher is told by places alone, faults in bound values among it, and what that says of the values that are delivered.
use Rattle.std.specs.Prelude.{◌≡◌, ℕ, ◌<◌, Bool, true, false, List, [], ◌∷◌, map, length, take, Option, Some, None}
use Rattle.tv_value.specs.Nested.{leaf, list, Place, count, at}
use Rattle.std.specs.List.{list_any}
use Rattle.tv_value.specs.Values.{Name, ErrorDoc, text, fault, Value, holds_fault}
use Rattle.tv_value.specs.Strategies.{Strategy}
use Rattle.tv_strategy.specs.Origins.{Mark, given, made, Origin, Traced, input_value}
use Rattle.tv_matching.specs.Items.{Kind, ends, closes, passes, Item, item, Bound, Stopped}
use Rattle.tv_matching.specs.Members.{at_place}
use Rattle.tv_matching.specs.Tellings.{Telling, told_of, after, added_by}

-- what stands at a place of a port's value
abbrev pub Spot : Type 0
Spot = Name × Place

-- a value that is bound, or a fault on the way there; a value that is bound and holds a fault; or a list on the way, with its length
pub data Told : Type 0 where
  arrival : Name → Place → Bool → Told
  faulty : Name → Place → Told
  close : Name → Place → ℕ → Told

abbrev pub told_leaf : Told → Name
told_leaf (arrival p q f) = p
told_leaf (faulty p q) = p
told_leaf (close p q n) = p

abbrev pub told_place : Told → Place
told_place (arrival p q f) = q
told_place (faulty p q) = q
told_place (close p q n) = q

abbrev pub told_kind : Told → Kind Spot Spot
told_kind (arrival p q false) = ends ((p, q) ∷ [])
told_kind (arrival p q true) = passes (p, q)
told_kind (faulty p q) = ends ((p, q) ∷ [])
told_kind (close p q n) = closes n

abbrev pub telling : Told → Telling Spot Spot
telling t = record { leaf = told_leaf t; item = item (told_place t) (told_kind t) }

abbrev pub tellings : List Told → List (Telling Spot Spot)
tellings ts = map telling ts

-- the items of a leaf, and what is matched
abbrev pub told_to : List Told → Name → List (Item Spot Spot)
told_to ts p = told_of (tellings ts) p

abbrev pub matched_after : Strategy → List Told → List (Item Spot Spot)
matched_after s ts = after s (tellings ts)

-- what further tellings add, and how many items that is
abbrev pub added_after : Strategy → List Told → List Told → List (Item Spot Spot)
added_after s ts more = added_by s (tellings ts) (tellings more)

abbrev pub count_of_added : Strategy → List Told → List Told → ℕ
count_of_added s ts more = length (added_after s ts more)

-- a bound value stands below as many lists as the port walks, and lists and faults on the way below fewer
abbrev pub IsFit : (Name → ℕ) → Told → Type 0
IsFit mismatch (arrival p q false) = length q ≡ mismatch p
IsFit mismatch (arrival p q true) = length q < mismatch p
IsFit mismatch (faulty p q) = length q ≡ mismatch p
IsFit mismatch (close p q n) = length q < mismatch p

-- nothing was told yet of that place of the leaf
abbrev pub IsNew : List Told → Told → Type 0
IsNew ts t = at_place (told_place t) (told_to ts (told_leaf t)) ≡ []

-- ---- the same with what was told of faults in bound values

-- a spot, and whether the value that is bound there was told to hold a fault
abbrev pub Marked : Type 0
Marked = Spot × Bool

abbrev pub marked_kind : Told → Kind Marked Spot
marked_kind (arrival p q false) = ends (((p, q), false) ∷ [])
marked_kind (arrival p q true) = passes (p, q)
marked_kind (faulty p q) = ends (((p, q), true) ∷ [])
marked_kind (close p q n) = closes n

abbrev pub marked : Told → Telling Marked Spot
marked t = record { leaf = told_leaf t; item = item (told_place t) (marked_kind t) }

abbrev pub marked_to : List Told → Name → List (Item Marked Spot)
marked_to ts p = told_of (map marked ts) p

abbrev pub marked_after : Strategy → List Told → List (Item Marked Spot)
marked_after s ts = after s (map marked ts)

module _ {X F : Type 0} (test : X → Bool) where
  -- a job that binds something of which the test is true
  abbrev pub binds_some : Kind X F → Bool
  binds_some (ends b) = list_any test b
  binds_some (closes n) = false
  binds_some (passes f) = false

  -- such a job stands at the place
  abbrev pub some_at : Place → List (Item X F) → Bool
  some_at q xs = list_any (λ x. binds_some x.kind) (at_place q xs)

-- the job at the place binds a value that was told to hold a fault
abbrev pub faulty_at : Strategy → List Told → Place → Bool
faulty_at s ts q = some_at (λ r. r.1) q (marked_after s ts)

-- ---- the same items with the values that stand there

module _ {X F Y G : Type 0} (f : X → Y) (g : F → G) where
  abbrev pub map_kind : Kind X F → Kind Y G
  map_kind (ends b) = ends (map f b)
  map_kind (closes n) = closes n
  map_kind (passes e) = passes (g e)

  abbrev pub map_item : Item X F → Item Y G
  map_item x = item x.place (map_kind x.kind)

abbrev pub no_document : ErrorDoc
no_document = record { at = []; depth = 0; why = []; from = [] }

abbrev pub value_there : Traced → Option Traced → Traced
value_there v None = v
value_there v (Some u) = u

abbrev pub stop_of : Option Traced → Stopped
stop_of None = (None, no_document)
stop_of (Some (leaf o (text t))) = (None, no_document)
stop_of (Some (leaf o (fault e))) = (o.mark, e)
stop_of (Some (list o vs)) = (None, no_document)

module _ (values : Name → Traced) where
  abbrev pub bound_there : Spot → Bound
  bound_there r = (r.0, value_there (values r.0) (at (values r.0) r.1))

  abbrev pub stop_there : Spot → Stopped
  stop_there r = stop_of (at (values r.0) r.1)

  abbrev pub item_there : Item Spot Spot → Item Bound Stopped
  item_there = map_item bound_there stop_there

-- ---- what was told is true of these values

abbrev pub IsThere : Option Traced → Type 0
IsThere None = ⊥
IsThere (Some v) = Unit {0}

abbrev pub IsFaultThere : Option Traced → Type 0
IsFaultThere None = ⊥
IsFaultThere (Some (leaf o (text t))) = ⊥
IsFaultThere (Some (leaf o (fault e))) = Unit {0}
IsFaultThere (Some (list o vs)) = ⊥

abbrev pub IsListThere : ℕ → Option Traced → Type 0
IsListThere n None = ⊥
IsListThere n (Some (leaf o a)) = ⊥
IsListThere n (Some (list o vs)) = count vs ≡ n

abbrev pub IsTrueOf : (Name → Traced) → (Name → ℕ) → Told → Type 0
IsTrueOf values mismatch (arrival p q false) = (length q ≡ mismatch p) × IsThere (at (values p) q)
IsTrueOf values mismatch (arrival p q true) = (length q < mismatch p)
    × IsFaultThere (at (values p) q)
IsTrueOf values mismatch (faulty p q) = (length q ≡ mismatch p) × IsThere (at (values p) q)
IsTrueOf values mismatch (close p q n) = (length q < mismatch p) × IsListThere n (at (values p) q)

-- what was told of faults in bound values is true of these values
abbrev pub TellsFaults : (Name → Traced) → Told → Type 0
TellsFaults values (arrival p q false) = holds_fault (value_there (values p) (at (values p) q))
    ≡ false
TellsFaults values (arrival p q true) = Unit {0}
TellsFaults values (faulty p q) = holds_fault (value_there (values p) (at (values p) q)) ≡ true
TellsFaults values (close p q n) = Unit {0}

-- ---- the values with each node named by port and place, and the nodes that were told

abbrev pub labelled : (Name → Value) → Name → Traced
labelled values p = input_value p [] (values p)

abbrev pub some : {A : Type 0} → List A → Bool
some [] = false
some (x ∷ xs) = true

-- something was told of that place of the port
abbrev pub is_told : List Told → Name → Place → Bool
is_told ts p q = some (at_place q (told_to ts p))

module _ (mismatch : Name → ℕ) (ts : List Told) where
  -- a list or a fault on the way is told at its place, and a bound value with all inside it at the place where it is bound
  abbrev pub mark_told : Option Mark → Bool
  mark_told None = false
  mark_told (Some (given p q)) = is_told ts p (take (mismatch p) q)
  mark_told (Some (made j)) = false

  abbrev pub node_told : Origin → Bool
  node_told o = mark_told o.mark
