-- Texts of lists, each once or those of another list alone.
use Rattle.std.specs.Prelude.{List, [], ◌∷◌, ◌++◌, Bool, if◌then◌else◌}
use Rattle.std.specs.List.{list_any, filter}
use Rattle.tv_value.specs.Values.{Text}
use Rattle.tv_value.specs.Orders.{same_name}

abbrev pub text_among : List Text → Text → Bool
text_among ts t = list_any (same_name t) ts

-- the texts that aren't among those before them
abbrev pub new_after : List Text → List Text → List Text
new_after before [] = []
new_after before (t ∷ ts) = if text_among before t then new_after (before ++ t ∷ []) ts
    else t ∷ new_after (before ++ t ∷ []) ts

-- each text once, in order of first occurrence
abbrev pub distinct : List Text → List Text
distinct ts = new_after [] ts

-- the texts that are among others, in order, repeats kept
abbrev pub shared : List Text → List Text → List Text
shared ts us = filter (text_among us) ts

-- the lists one after the other
abbrev pub flat : List (List Text) → List Text
flat [] = []
flat (ts ∷ tss) = ts ++ flat tss
