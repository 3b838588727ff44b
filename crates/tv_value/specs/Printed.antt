-- Values as JSON, and the texts of names.
use Rattle.std.specs.Prelude.{List, [], ◌∷◌, ◌++◌, map, codes, decimal}
use Rattle.std.specs.List.{join_with_byte}
use Rattle.serde_json.specs.Data.{Data, unsigned, number, string, array, object, Items, no_items, item, Members, no_members, member}
use Rattle.serde_json.specs.Written.{compact_text}
use Rattle.tv_value.specs.Nested.{Tree, leaf, list, Trees, no_trees, tree, Place}
use Rattle.tv_value.specs.Values.{Text, Name, JobName, ErrorDoc, Scalar, text, fault}

-- a name and a place in brackets, as u[1,2]
abbrev pub element_text : Name × Place → Text
element_text (n, q) = n ++ codes "[" ++ join_with_byte 44 (map decimal q) ++ codes "]"

-- the levels of a job's name with a slash between each two, as n[0]/u[]
abbrev pub job_text : JobName → Text
job_text n = join_with_byte 47 (map element_text n)

abbrev pub members : List (Text × Data) → Members
members [] = no_members
members (m ∷ ms) = member m.0 m.1 (members ms)

abbrev pub strings : List Text → Items
strings [] = no_items
strings (t ∷ ts) = item (string t) (strings ts)

-- an error document as the one member of an object
abbrev pub error_json : ErrorDoc → Data
error_json e =
    object (members
    ((
      codes "error",
      object
          (members ((codes "at", string (job_text e.at)) ∷ (codes "depth", number (unsigned e.depth))
          ∷ (codes "from", array (strings (map job_text e.from))) ∷ (codes "why", string e.why) ∷ [])),
    )
    ∷ []))

abbrev pub scalar_json : Scalar → Data
scalar_json (text t) = string t
scalar_json (fault e) = error_json e

-- a text is a string, a list an array, a fault an object
abbrev mutual
  pub json : {N : Type 0} → Tree N Scalar → Data
  json (leaf n a) = scalar_json a
  json (list n ts) = array (all_json ts)

  pub all_json : {N : Type 0} → Trees N Scalar → Items
  all_json no_trees = no_items
  all_json (tree t ts) = item (json t) (all_json ts)

abbrev pub value_text : {N : Type 0} → Tree N Scalar → Text
value_text v = compact_text (json v)
