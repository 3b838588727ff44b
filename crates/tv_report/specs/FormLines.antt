-- The line of a form fault.
use Rattle.std.specs.Prelude.{ℕ, List, [], ◌∷◌, ◌++◌, map, codes, decimal, Bool, true, false}
use Rattle.serde_json.specs.Data.{Data, unsigned, number, string, array}
use Rattle.serde_json.specs.View.{items_of}
use Rattle.serde_json.specs.Written.{compact_text}
use Rattle.tv_value.specs.Values.{Text}
use Rattle.tv_flow.specs.declared.faults.FormKind.{FormKind}
use Rattle.tv_flow.specs.declared.faults.FormKind.TheVariants.{Missing, Unknown, WrongKind, BadName, OutOfRange, Empty, NotText, Ragged}
use Rattle.tv_flow.specs.declared.faults.Part.{Part}
use Rattle.tv_flow.specs.declared.faults.Part.TheVariants.{Key, Index}
use Rattle.tv_flow.specs.declared.faults.FormFault.{FormFault}
use Rattle.tv_flow.specs.declared.faults.FormFault.TheVariants.{Form, NoMemory}

abbrev pub kind_number : FormKind → ℕ
kind_number Missing = 1
kind_number Unknown = 2
kind_number WrongKind = 3
kind_number BadName = 4
kind_number OutOfRange = 5
kind_number Empty = 6
kind_number NotText = 7
kind_number Ragged = 8

abbrev pub kind_words : FormKind → Text
kind_words Missing = codes "missing"
kind_words Unknown = codes "unknown"
kind_words WrongKind = codes "wrong kind"
kind_words BadName = codes "bad name"
kind_words OutOfRange = codes "out of range"
kind_words Empty = codes "empty"
kind_words NotText = codes "not text"
kind_words Ragged = codes "ragged"

abbrev pub part_json : Part → Data
part_json (Key k) = string k
part_json (Index i) = number (unsigned i)

-- an array of keys and indices, as ["flows","m",0]
abbrev pub path_json : List Part → Data
path_json ps = array (items_of (map part_json ps))

abbrev pub form_text : FormKind → List Part → Text
form_text k p = codes "taverna: form fault " ++ decimal (kind_number k) ++ codes " " ++ kind_words k
    ++ codes " at " ++ compact_text (path_json p) ++ 10 ∷ []

-- whether there is a fault of form
abbrev pub is_form : FormFault → Bool
is_form (Form k p) = true
is_form NoMemory = false

abbrev pub line_of : FormFault → Text
line_of (Form k p) = form_text k p
line_of NoMemory = []
