-- Worked examples: what reading, depths and printing come to on small values.
use Rattle.std.specs.Prelude.{◌≡◌, List, [], ◌∷◌, map, codes, true, false, negsuc, Some, None, Ok, Err}
use Rattle.serde_json.specs.Data.{Data, unsigned, negative, null, boolean, number, string, array, object, Items, no_items, item, no_members}
use Rattle.tv_value.specs.Nested.{trees_of, at}
use Rattle.tv_value.specs.Values.{Text, ErrorDoc, Value, text_value, list_value, fault_value, has_depth}
use Rattle.tv_value.specs.DepthSets.{least_depth}
use Rattle.tv_value.specs.Readings.{read, not_text, ragged}
use Rattle.tv_value.specs.Printed.{job_text, value_text}
use Rattle.tv_value.specs.Orders.{is_prefix, in_order, job_name_cmp}

abbrev pub items_of : List Data → Items
items_of [] = no_items
items_of (d ∷ ds) = item d (items_of ds)

abbrev pub array_of : List Data → Data
array_of ds = array (items_of ds)

abbrev pub t : Text → Value
t s = text_value s

abbrev pub l : List Value → Value
l vs = list_value (trees_of vs)

abbrev pub a_json : Data
a_json = string (codes "a")

-- texts, integers and lists are read
abbrev pub ReadsValues : Type 0
ReadsValues =
    (read a_json ≡ Ok (t (codes "a"))) × (read (number (unsigned 10)) ≡ Ok (t (codes "10")))
    × (read (number (negative (negsuc 1))) ≡ Ok (t (codes "-2")))
    × (read (array_of (array_of [] ∷ array_of (a_json ∷ []) ∷ []))
    ≡ Ok (l (l [] ∷ l (t (codes "a") ∷ []) ∷ [])))

-- the first complaint in order, with its place, and items before their list
abbrev pub TellsFirstComplaint : Type 0
TellsFirstComplaint =
    (read null ≡ Err (not_text [])) × (read (object no_members) ≡ Err (not_text []))
    × (read (array_of (a_json ∷ array_of (a_json ∷ []) ∷ [])) ≡ Err (ragged []))
    × (read (array_of (a_json ∷ array_of (a_json ∷ boolean true ∷ null ∷ []) ∷ []))
    ≡ Err (not_text (1 ∷ 1 ∷ [])))
    × (read (array_of (a_json ∷ array_of (a_json ∷ array_of [] ∷ []) ∷ null ∷ []))
    ≡ Err (ragged (1 ∷ [])))

abbrev pub bounced : ErrorDoc
bounced =
    record {
      at = (codes "n", 0 ∷ []) ∷ (codes "u", 1 ∷ 2 ∷ []) ∷ [];
      depth = 1;
      why = codes "bounced";
      from = ((codes "q", []) ∷ []) ∷ [];
    }

-- the empty list has every depth from 1, and an error document the one that it states
abbrev pub MeasuresDepths : Type 0
MeasuresDepths =
    (map (has_depth (l [])) (0 ∷ 1 ∷ 7 ∷ [])
    ≡ map (λ d. has_depth (l (l [] ∷ [])) d) (1 ∷ 2 ∷ 8 ∷ []))
    × (least_depth (t (codes "a")) ≡ Some 0) × (least_depth (l []) ≡ Some 1)
    × (least_depth (l (l [] ∷ l (t (codes "a") ∷ []) ∷ [])) ≡ Some 2)
    × (least_depth (l (l [] ∷ t (codes "a") ∷ [])) ≡ None)
    × (least_depth (l (fault_value bounced ∷ l [] ∷ [])) ≡ Some 2)

abbrev pub LooksUp : Type 0
LooksUp =
    (at (l (t (codes "a") ∷ l [] ∷ [])) (1 ∷ []) ≡ Some (l []))
    × (at (l (t (codes "a") ∷ [])) [] ≡ Some (l (t (codes "a") ∷ [])))
    × (at (l (t (codes "a") ∷ [])) (1 ∷ []) ≡ None) × (at (t (codes "a")) (0 ∷ []) ≡ None)

abbrev pub ComparesPlaces : Type 0
ComparesPlaces = (is_prefix [] (1 ∷ []) ≡ true) × (is_prefix (1 ∷ []) (1 ∷ 2 ∷ []) ≡ true)
    × (is_prefix (1 ∷ 2 ∷ []) (1 ∷ 2 ∷ []) ≡ true) × (is_prefix (1 ∷ 2 ∷ []) (1 ∷ []) ≡ false)
    × (is_prefix (2 ∷ []) (1 ∷ 2 ∷ []) ≡ false)

-- names by step before place, and each once
abbrev pub OrdersNames : Type 0
OrdersNames =
    in_order job_name_cmp
    (((codes "u", []) ∷ []) ∷ ((codes "n", 10 ∷ []) ∷ [])
    ∷ ((codes "n", 2 ∷ []) ∷ (codes "a", []) ∷ []) ∷ ((codes "u", []) ∷ [])
    ∷ ((codes "n", 2 ∷ []) ∷ []) ∷ []) ≡ ((codes "n", 2 ∷ []) ∷ [])
    ∷ ((codes "n", 2 ∷ []) ∷ (codes "a", []) ∷ []) ∷ ((codes "n", 10 ∷ []) ∷ [])
    ∷ ((codes "u", []) ∷ []) ∷ []

abbrev pub PrintsNames : Type 0
PrintsNames = (job_text bounced.at ≡ codes "n[0]/u[1,2]")
    × (job_text ((codes "u", []) ∷ []) ≡ codes "u[]")

abbrev pub PrintsValues : Type 0
PrintsValues =
    (value_text (l (t (codes "a\"b") ∷ t [] ∷ [])) ≡ codes "[\"a\\\"b\",\"\"]")
    × (value_text (l (l [] ∷ fault_value bounced ∷ []))
    ≡ codes "[[],{\"error\":{\"at\":\"n[0]/u[1,2]\",\"depth\":1,\"from\":[\"q[]\"],\"why\":\"bounced\"}}]")
