-- What writing does to the bytes that a sink has taken, where it tells them.
use Rattle.std.specs.Prelude.{◌≡◌, ℕ, ◌<◌, List, ◌++◌, length, take, Option, Some}

-- told bytes are followed by the piece afterwards
abbrev pub IsSentOf : Option (List ℕ) → Option (List ℕ) → List ℕ → Type 0
IsSentOf before after piece = (bytes : List ℕ) → before ≡ Some bytes → after ≡ Some (bytes ++ piece)

-- told bytes are followed by a beginning of the text, which isn't the whole
abbrev pub IsCutShort : Option (List ℕ) → Option (List ℕ) → List ℕ → Type 0
IsCutShort before after text = (count : ℕ) × (count < length text)
    × IsSentOf before after (take count text)
