-- Worked examples of partial trees.
use Rattle.std.specs.Prelude.{◌≡◌, true, false, [], ◌∷◌, codes}
use Rattle.tv_value.specs.Nested.{trees_of}
use Rattle.tv_value.specs.Values.{Text, Value, list_value, text_value}
use Rattle.tv_parts.specs.Below.{Below}
use Rattle.tv_parts.specs.Partials.{Partial, wanting, item, growing, closed, no_parts, part, known_at, whole}
use Rattle.tv_parts.specs.Changes.{arrive, close_at, is_place}

abbrev pub text_item : Text → Partial Value
text_item t = item (text_value t)

-- parts come in any order and stand at their indices; the list is whole once it is closed
abbrev pub two_came : Partial Value
two_came =
    arrive (0 ∷ []) (text_value (codes "x")) (arrive (1 ∷ []) (text_value (codes "y")) wanting)

abbrev pub PartsInAnyOrder : Type 0
PartsInAnyOrder =
    (two_came ≡ growing (part (text_item (codes "x")) (part (text_item (codes "y")) no_parts)))
    × (whole two_came ≡ false)
    × (close_at [] 2 two_came
    ≡ closed (part (text_item (codes "x")) (part (text_item (codes "y")) no_parts)))
    × (whole (close_at [] 2 two_came) ≡ true)
    × (is_place (2 ∷ []) (close_at [] 2 two_came) ≡ false)

-- nothing is known of an index that was passed over; lists on the way grow
abbrev pub PassesOver : Type 0
PassesOver =
    (arrive (1 ∷ 0 ∷ []) (text_value (codes "z")) wanting
    ≡ growing (part wanting (part (growing (part (text_item (codes "z")) no_parts)) no_parts)))
    × (known_at (0 ∷ []) (arrive (1 ∷ 0 ∷ []) (text_value (codes "z")) wanting) ≡ wanting)
    × (is_place (1 ∷ 0 ∷ 3 ∷ []) (arrive (1 ∷ 0 ∷ []) (text_value (codes "z")) wanting) ≡ false)

-- a list is closed before its parts come, and the empty list is whole at once
abbrev pub nothing_yet : Partial Value
nothing_yet = wanting

abbrev pub ClosesFirst : Type 0
ClosesFirst =
    (close_at [] 2 nothing_yet ≡ closed (part wanting (part wanting no_parts)))
    × (whole (close_at (0 ∷ []) 0 (close_at [] 1 nothing_yet)) ≡ true)

-- ---- below a value

abbrev pub two_texts : Value
two_texts = list_value (trees_of (text_value (codes "x") ∷ text_value (codes "y") ∷ []))

-- the second text before the first, both, and both with the length
abbrev pub KnowsPartsOfList : Type 0
KnowsPartsOfList =
    Below wanting two_texts
    × Below (arrive (1 ∷ []) (text_value (codes "y")) wanting) two_texts
    × Below two_came two_texts
    × Below (close_at [] 2 two_came) two_texts

-- no third text, no other length, and no item of a text
abbrev pub KnowsNothingElse : Type 0
KnowsNothingElse =
    (Below (growing (part wanting (part wanting (part wanting no_parts)))) two_texts → ⊥)
    × (Below (close_at [] 3 nothing_yet) two_texts → ⊥)
    × (Below (close_at [] 1 nothing_yet) two_texts → ⊥)
    × (Below (growing no_parts) (text_value (codes "x")) → ⊥)
