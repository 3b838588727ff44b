-- What an answer of reading says of the JSON tree.
use Rattle.std.specs.Prelude.{◌≡◌, ℕ, ◌∷◌, Result, Ok, Err}
use Rattle.tv_value.specs.Nested.{Trees}
use Rattle.tv_value.specs.Values as spec
use Rattle.tv_value.specs.Values.{Scalar}
use Rattle.tv_value.specs.Readings.{ReadingComplaint, not_text, ragged}
use Rattle.tv_value.specs.declared.value.Value.{Value}
use Rattle.tv_value.specs.declared.value.Items.{Items}
use Rattle.tv_value.specs.declared.reading.ValueFault.{ValueFault}
use Rattle.tv_value.specs.declared.reading.ValueFault.TheVariants.{NotText, Ragged, NoMemory}
use Rattle.tv_value.specs.Views.{view, items_view}

-- the fault is the reading's complaint; want of memory says nothing
abbrev pub IsFault : {A : Type 0} → ValueFault → Result A ReadingComplaint → Type 0
IsFault (NotText p) r = r ≡ Err (not_text p)
IsFault (Ragged p) r = r ≡ Err (ragged p)
IsFault NoMemory r = Unit {0}

abbrev pub IsReading : Result Value ValueFault → Result spec.Value ReadingComplaint → Type 0
IsReading (Ok v) r = r ≡ Ok (view v)
IsReading (Err f) r = IsFault f r

abbrev pub IsReadingOfItems : Result Items ValueFault → Result (Trees (Unit {0}) Scalar)
    ReadingComplaint
    → Type 0
IsReadingOfItems (Ok vs) r = r ≡ Ok (items_view vs)
IsReadingOfItems (Err f) r = IsFault f r

-- the same fault, seen from the list around it, or want of memory
abbrev pub IsWithin : ℕ → ValueFault → ValueFault → Type 0
IsWithin i (NotText p) (NotText q) = q ≡ i ∷ p
IsWithin i (NotText p) (Ragged q) = ⊥
IsWithin i (Ragged p) (Ragged q) = q ≡ i ∷ p
IsWithin i (Ragged p) (NotText q) = ⊥
IsWithin i NoMemory (NotText q) = ⊥
IsWithin i NoMemory (Ragged q) = ⊥
IsWithin i f NoMemory = Unit {0}
