-- What reading does to the bytes that a source has left, where it tells them.
use Rattle.std.specs.Prelude.{◌≡◌, ℕ, ◌<◌, ◌≤◌, ◌↔◌, List, [], ◌++◌, length, drop, Option, Some}

-- told bytes are the piece and then the rest, and the rest is told afterwards
abbrev pub IsReadOf : Option (List ℕ) → Option (List ℕ) → List ℕ → Type 0
IsReadOf before after piece =
    (bytes : List ℕ) → before ≡ Some bytes → (rest : List ℕ) × (bytes ≡ piece ++ rest)
    × (after ≡ Some rest)

-- a piece was read, and put behind the bytes of `old`
abbrev pub IsReadOnto : Option (List ℕ) → Option (List ℕ) → List ℕ → List ℕ → Type 0
IsReadOnto before after old new = (piece : List ℕ) × (new ≡ old ++ piece)
    × IsReadOf before after piece

-- where bytes are told, the count is 0 exactly where there are none
abbrev pub IsNoneAtEnd : Option (List ℕ) → ℕ → Type 0
IsNoneAtEnd before count = (bytes : List ℕ) → before ≡ Some bytes → (count ≡ 0) ↔ (bytes ≡ [])

-- told bytes were read to their end: `read` is all of them, and none is left
abbrev pub IsReadWhole : Option (List ℕ) → Option (List ℕ) → List ℕ → Type 0
IsReadWhole before after read = (bytes : List ℕ) → before ≡ Some bytes → (read ≡ bytes)
    × (after ≡ Some [])

-- of told bytes at most `most` were taken, from the front
abbrev pub TakesAtMost : ℕ → Option (List ℕ) → Option (List ℕ) → Type 0
TakesAtMost most before after =
    (bytes : List ℕ) → before ≡ Some bytes → (count : ℕ) × (count ≤ most)
    × (after ≡ Some (drop count bytes))

-- told bytes are more than `limit`
abbrev pub IsLongerThan : ℕ → Option (List ℕ) → Type 0
IsLongerThan limit before = (bytes : List ℕ) → before ≡ Some bytes → limit < length bytes
