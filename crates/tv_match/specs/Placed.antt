-- Places that are made beforehand.
use Rattle.std.specs.Prelude.{◌≡◌, ℕ, ◌<◌, ◌≤◌, true, false, List, [], length, get_or}
use Rattle.tv_value.specs.Nested.{Place}
use Rattle.tv_match.specs.declared.places.Places.{Places}
use Rattle.tv_match.specs.Entries.{Entry, entry_at}

-- the place of an item can be taken out: it is made, or is short enough to be made without memory
pub record IsPlaced (p : Places) (i : ℕ) (q : Place) : Type 0 where
  pub short : p.deep ≡ false → length q ≤ 32
  pub within : p.deep ≡ true → i < length p.made.items
  pub made : p.deep ≡ true → get_or p.made.items i [] ≡ q

-- those of all items that have not come out can be, where none is longer than the depth
pub record ArePlaced (depth : ℕ) (p : Places) (out : List Entry) (given : ℕ) : Type 0 where
  pub shallow : p.deep ≡ false → depth ≤ 32
  pub long : p.deep ≡ true → length out ≤ length p.made.items
  pub made : p.deep ≡ true → (i : ℕ) → given ≤ i → i < length out → get_or p.made.items i []
      ≡ (entry_at out i).place

-- places at other positions stay
pub record OthersStay (at : ℕ) (old new : List Place) : Type 0 where
  pub length_is : length new ≡ length old
  pub stay : (i : ℕ) → (i ≡ at → ⊥) → get_or new i [] ≡ get_or old i []
