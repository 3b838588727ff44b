-- What the calls of a partial tree answer, and when each refusal comes.
use Rattle.std.specs.Prelude.{◌≡◌, ◌≢◌, ℕ, suc, ◌<◌, ◌≤◌, Bool, true, List, length, Option, Some, None}
use Rattle.tv_parts.specs.Partials.{Partial, wanting, item, growing, closed, Parts, part_count, part_of, known_at}
use Rattle.tv_parts.specs.Changes.{is_place, CanArrive, CanClose}
use Rattle.tv_stream.specs.declared.held.PartKind.{PartKind}
use Rattle.tv_stream.specs.declared.held.PartKind.TheVariants.{Wanting, Growing, Closed, Item}
use Rattle.tv_stream.specs.declared.refusals.ArriveRefused.{ArriveRefused}
use Rattle.tv_stream.specs.declared.refusals.ArriveRefused.TheVariants.{NoSuchPlace, Occupied, NoMemory}
use Rattle.tv_stream.specs.declared.refusals.CloseRefused.{CloseRefused}
use Rattle.tv_stream.specs.declared.refusals.CloseRefused.TheVariants.{NoSuchPlace as NoPlaceToClose, AlreadyClosed, WrongLength, NoMemory as NoMemoryToClose}
use Rattle.tv_stream.specs.Trees.{Marked}

module _ {T : Type 0} where
  abbrev pub marked_item : T → Bool → Marked T
  marked_item value marked = record { value = value; marked = marked }

  abbrev pub kind_of : Partial (Marked T) → PartKind
  kind_of wanting = Wanting
  kind_of (item x) = Item
  kind_of (growing ps) = Growing
  kind_of (closed ps) = Closed (part_count ps)

  abbrev pub item_of : Partial (Marked T) → Option T
  item_of wanting = None
  item_of (item x) = Some x.value
  item_of (growing ps) = None
  item_of (closed ps) = None

  -- there is such a place in a tree of this depth
  pub record IsPlace (depth : ℕ) (q : List ℕ) (r : Partial (Marked T)) : Type 0 where
    pub short : length q ≤ depth
    pub there : is_place q r ≡ true

  abbrev pub RefusesArrival : ℕ → ℕ → List ℕ → T → Partial (Marked T) → ArriveRefused T → Type 0
  RefusesArrival spare depth q x r (NoSuchPlace y) = (y ≡ x) × (IsPlace depth q r → ⊥)
  RefusesArrival spare depth q x r (Occupied y) = (y ≡ x) × IsPlace depth q r
      × (known_at q r ≢ wanting)
  RefusesArrival spare depth q x r (NoMemory y) = (y ≡ x) × IsPlace depth q r × CanArrive q r
      × (spare ≤ depth)

  -- an item stands there
  abbrev pub IsItem : Partial (Marked T) → Type 0
  IsItem p = (x : Marked T) × (p ≡ item x)

  -- there is such a place for a list: above the full depth, and no item stands there
  pub record IsListPlace (depth : ℕ) (q : List ℕ) (r : Partial (Marked T)) : Type 0 where
    pub short : length q < depth
    pub there : is_place q r ≡ true
    pub no_item : IsItem (known_at q r) → ⊥

  -- of the last part something is known
  abbrev pub LastIsKnown : Parts (Marked T) → Type 0
  LastIsKnown ps = (i : ℕ) → part_count ps ≡ suc i → part_of ps i ≢ wanting

  abbrev pub RefusesClose : ℕ → ℕ → List ℕ → ℕ → Partial (Marked T) → CloseRefused → Type 0
  RefusesClose spare depth q n r NoPlaceToClose = IsListPlace depth q r → ⊥
  RefusesClose spare depth q n r AlreadyClosed = IsListPlace depth q r
      × ((ps : Parts (Marked T)) × (known_at q r ≡ closed ps))
  RefusesClose spare depth q n r (WrongLength asked needed) = IsListPlace depth q r
      × ((ps : Parts (Marked T)) × (known_at q r ≡ growing ps) × (needed ≡ part_count ps)
      × LastIsKnown ps) × (asked ≡ n) × (n < needed)
  RefusesClose spare depth q n r NoMemoryToClose = IsListPlace depth q r × CanClose q n r
      × (spare ≤ depth)
