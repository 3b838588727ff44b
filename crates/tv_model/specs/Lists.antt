-- The first of a list, and the rest.
use Rattle.std.specs.Prelude.{List, None, Option, Some, [], ◌∷◌}

abbrev pub rest_of : {A : Type 0} → List A → List A
rest_of [] = []
rest_of (x ∷ xs) = xs

abbrev pub first_of_list : {A : Type 0} → List A → Option A
first_of_list [] = None
first_of_list (x ∷ xs) = Some x
