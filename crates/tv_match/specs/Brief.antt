-- Items in brief: of a job whether something faulty is bound, and not how many.
use Rattle.std.specs.Prelude.{ℕ, List, [], ◌∷◌, map}
use Rattle.tv_matching.specs.Items.{Kind, ends, closes, passes, item}
use Rattle.tv_matching.specs.Matchers.{Kept}
use Rattle.tv_matching.specs.Stores.{Store, leaf_store, cross_store, dot_store}

abbrev pub brief_bound : List (Unit {0}) → List (Unit {0})
brief_bound [] = []
brief_bound (x ∷ xs) = tt ∷ []

abbrev pub brief_kind : Kind (Unit {0}) ℕ → Kind (Unit {0}) ℕ
brief_kind (ends b) = ends (brief_bound b)
brief_kind (closes n) = closes n
brief_kind (passes l) = passes l

abbrev pub brief : Kept → Kept
brief x = item x.place (brief_kind x.kind)

abbrev pub briefs : List Kept → List Kept
briefs xs = map brief xs

abbrev pub brief_store : Store (Unit {0}) ℕ → Store (Unit {0}) ℕ
brief_store (leaf_store l) = leaf_store l
brief_store (cross_store es ys f r) = cross_store (briefs es) (briefs ys) (brief_store f)
    (brief_store r)
brief_store (dot_store k xs ys f r) = dot_store k (briefs xs) (briefs ys) (brief_store f)
    (brief_store r)
