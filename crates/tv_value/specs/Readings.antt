-- The value that a JSON tree stands for, or the first complaint.
use Rattle.std.specs.Prelude.{ℕ, suc, ◌^◌, [], ◌∷◌, is_some, nat_lt, if◌then◌else◌, Result, Ok, Err, decimal}
use Rattle.std.specs.Fmt.{signed_decimal}
use Rattle.serde_json.specs.Data.{Data, Num, unsigned, negative, float, null, boolean, number, string, array, object, Items, no_items, item}
use Rattle.tv_value.specs.Nested.{Trees, no_trees, tree, Place}
use Rattle.tv_value.specs.Values.{Scalar, Value, text_value, list_value}
use Rattle.tv_value.specs.DepthSets.{least_depth}

pub data ReadingComplaint : Type 0 where
  not_text : Place → ReadingComplaint
  ragged : Place → ReadingComplaint

-- the same, seen from a list that has it at an index
abbrev pub within : ℕ → ReadingComplaint → ReadingComplaint
within i (not_text q) = not_text (i ∷ q)
within i (ragged q) = ragged (i ∷ q)

-- an integer is its decimal text
abbrev pub read_number : Num → Result Value ReadingComplaint
read_number (unsigned n) = Ok (text_value (decimal n))
read_number (negative z) = Ok (text_value (signed_decimal z))
read_number (float x) = Err (not_text [])

abbrev pub length_limit : ℕ
length_limit = 2 ^ 32

abbrev pub item_count : Items → ℕ
item_count no_items = 0
item_count (item d ds) = suc (item_count ds)

-- a list of well-formed items, if it has a depth
abbrev pub read_list : Result (Trees (Unit {0}) Scalar) ReadingComplaint
    → Result Value ReadingComplaint
read_list (Err c) = Err c
read_list (Ok vs) = if is_some (least_depth (list_value vs)) then Ok (list_value vs)
    else Err (ragged [])

abbrev pub first_read : ℕ → Result Value ReadingComplaint
    → Result (Trees (Unit {0}) Scalar) ReadingComplaint
    → Result (Trees (Unit {0}) Scalar) ReadingComplaint
first_read i (Err c) rest = Err (within i c)
first_read i (Ok v) (Err c) = Err c
first_read i (Ok v) (Ok vs) = Ok (tree v vs)

-- items before their list; a list that is too long before its items
abbrev mutual
  pub read : Data → Result Value ReadingComplaint
  read null = Err (not_text [])
  read (boolean b) = Err (not_text [])
  read (number n) = read_number n
  read (string s) = Ok (text_value s)
  read (array ds) = if nat_lt (item_count ds) length_limit then read_list (read_items 0 ds)
      else Err (ragged [])
  read (object ms) = Err (not_text [])

  pub read_items : ℕ → Items → Result (Trees (Unit {0}) Scalar) ReadingComplaint
  read_items i no_items = Ok no_trees
  read_items i (item d ds) = first_read i (read d) (read_items (suc i) ds)
