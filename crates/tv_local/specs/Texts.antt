-- Cutting and joining of texts.
use Rattle.std.specs.Prelude.{ℕ, zero, suc, List, [], ◌∷◌, ◌++◌, length, pred, if◌then◌else◌}
use Rattle.std.specs.List.{onto_first}
use Rattle.tv_value.specs.Values.{Text}
use Rattle.tv_value.specs.Orders.{is_prefix}

-- the parts between the occurrences of a separator, found from the left without overlap; the first so many bytes are still inside one
abbrev pub parts_after : ℕ → Text → Text → List Text
parts_after n s [] = [] ∷ []
parts_after (suc n) s (c ∷ t) = parts_after n s t
parts_after zero s (c ∷ t) = if is_prefix s (c ∷ t) then [] ∷ parts_after (pred (length s)) s t
    else onto_first c (parts_after zero s t)

abbrev pub parts : Text → Text → List Text
parts s t = parts_after 0 s t

-- the texts with another between each two
abbrev pub joined : Text → List Text → Text
joined s [] = []
joined s (t ∷ []) = t
joined s (t ∷ u ∷ us) = t ++ (s ++ joined s (u ∷ us))
