-- What is told, where a call changes none of it.
use Rattle.std.specs.Prelude.{◌≡◌, ℕ, List, Option, Some}

-- told bytes are told afterwards too, unchanged
abbrev pub IsKept : Option (List ℕ) → Option (List ℕ) → Type 0
IsKept before after = (bytes : List ℕ) → before ≡ Some bytes → after ≡ Some bytes
