-- How a bag lays its items out: the indices of all places one after the other.
use Rattle.std.specs.Prelude.{◌≡◌, ℕ, ◌+◌, List, [], ◌∷◌, map, take, drop}
use Rattle.tv_match.specs.declared.bags.Slot.{Slot}
use Rattle.tv_match.specs.Entries.{Entry, entry}

abbrev pub shown_slot : List ℕ → Slot → Entry
shown_slot indices s = entry s.number (take s.length (drop s.start indices)) s.kind

abbrev pub bag_entries : List ℕ → List Slot → List Entry
bag_entries indices slots = map (shown_slot indices) slots

-- from one index to the other
abbrev pub AreLaid : ℕ → List Slot → ℕ → Type 0
AreLaid from [] to = from ≡ to
AreLaid from (s ∷ ss) to = (s.start ≡ from) × AreLaid (from + s.length) ss to
