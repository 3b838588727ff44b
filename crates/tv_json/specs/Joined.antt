-- The text of a place's indices, and what stands before each thing of a list but the first.
use Rattle.std.specs.Prelude.{ℕ, zero, suc, List, [], map, decimal}
use Rattle.std.specs.List.{join_with_byte}

-- in decimal, with a comma between each two
abbrev pub places_text : List ℕ → List ℕ
places_text is = join_with_byte 44 (map decimal is)

-- nothing before the first, and the separator before each other
abbrev pub between : ℕ → List ℕ → List ℕ
between zero s = []
between (suc i) s = s
