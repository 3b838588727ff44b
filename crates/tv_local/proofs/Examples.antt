-- The table on worked rows.
use Rattle.std.specs.Prelude.{◌≡◌, List, [], ◌∷◌, map, refl, codes}
use Rattle.std.specs.Fmt.{digits}
use Rattle.std.specs.Str.{chars}
use Rattle.tv_value.specs.Nested.{trees_of, no_trees}
use Rattle.tv_value.specs.Values.{Text, Value, text_value, list_value}
use Rattle.tv_gate.specs.Outcomes.{bad}
use Rattle.tv_local.specs.Table.{one_text, one_list}
use Rattle.tv_local.specs.LocalGives.{local_gives}

abbrev text : Text → Value
text t = text_value t

abbrev texts : List Text → Value
texts ts = list_value (trees_of (map text_value ts))

split_nothing : local_gives (codes "split") (text [] ∷ text (codes ",") ∷ []) 0 ≡ one_list ([] ∷ [])
split_nothing = refl

split_three : local_gives (codes "split") (text (codes "a,,b") ∷ text (codes ",") ∷ []) 0 ≡ one_list (codes "a" ∷ [] ∷ codes "b" ∷ [])
split_three = refl

split_without_overlap : local_gives (codes "split") (text (codes "aaa") ∷ text (codes "aa") ∷ []) 0 ≡ one_list ([] ∷ codes "a" ∷ [])
split_without_overlap = refl

range_empty : local_gives (codes "range") (text (codes "3") ∷ text (codes "2") ∷ []) 0 ≡ one_list []
range_empty = refl

range_three : local_gives (codes "range") (text (codes "-1") ∷ text (codes "1") ∷ []) 0 ≡ one_list (codes "-1" ∷ codes "0" ∷ codes "1" ∷ [])
unfolding digits
range_three = refl

range_long : local_gives (codes "range") (text (codes "0") ∷ text (codes "100000") ∷ []) 0 ≡ bad (codes "range too long")
range_long = refl

take_all : local_gives (codes "take") (texts (codes "a" ∷ codes "b" ∷ []) ∷ text (codes "5") ∷ []) 0 ≡ one_list (codes "a" ∷ codes "b" ∷ [])
take_all = refl

add_over : local_gives (codes "add") (text (codes "9223372036854775807") ∷ text (codes "1") ∷ []) 0 ≡ bad (codes "add out of range")
add_over = refl

-- the character é is two bytes
length_one : local_gives (codes "length") (text (195 ∷ 169 ∷ []) ∷ []) 0 ≡ one_text (codes "1")
unfolding digits chars
length_one = refl

intersect_repeats : local_gives (codes "intersect") (texts (codes "b" ∷ codes "a" ∷ codes "b" ∷ []) ∷ texts (codes "b" ∷ []) ∷ []) 0 ≡ one_list (codes "b" ∷ codes "b" ∷ [])
intersect_repeats = refl

distinct_first : local_gives (codes "distinct") (texts (codes "b" ∷ codes "a" ∷ codes "b" ∷ []) ∷ []) 0 ≡ one_list (codes "b" ∷ codes "a" ∷ [])
distinct_first = refl

join_two : local_gives (codes "join") (texts (codes "a" ∷ [] ∷ codes "b" ∷ []) ∷ text (codes "-") ∷ []) 0 ≡ one_text (codes "a--b")
join_two = refl

-- the empty list has depth 2 too
flatten_nothing : local_gives (codes "flatten") (list_value no_trees ∷ []) 0 ≡ one_list []
flatten_nothing = refl

too_few : local_gives (codes "concat") (text [] ∷ []) 0 ≡ bad (codes "concat wants 2 inputs")
unfolding digits
too_few = refl

second_lacks_depth : local_gives (codes "join") (texts [] ∷ texts [] ∷ []) 0 ≡ bad (codes "join input 2 wants depth 0")
unfolding digits
second_lacks_depth = refl

first_no_number : local_gives (codes "add") (text (codes "x") ∷ text (codes "y") ∷ []) 0 ≡ bad (codes "add input 1 is no number")
unfolding digits
first_no_number = refl
