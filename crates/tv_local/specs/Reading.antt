-- What a service reads of its inputs, and what it complains of.
use Rattle.std.specs.Prelude.{ℕ, suc, List, [], ◌∷◌, ◌++◌, map, length, ◌==◌, if◌then◌else◌, is_some, Option, Some, None, ℤ, pos, unwrap_or, codes, decimal}
use Rattle.tv_value.specs.Nested.{leaf, items, children}
use Rattle.tv_value.specs.Values.{Text, Name, Value, text, has_depth, holds_fault}
use Rattle.tv_local.specs.Numbers.{read_number}
use Rattle.tv_local.specs.declared.row.Want.{Want}
use Rattle.tv_local.specs.declared.row.Want.TheVariants as want

-- the text of a value that is one
abbrev pub text_of : Value → Text
text_of (leaf n (text t)) = t
text_of v = []

abbrev pub items_of : Value → List Value
items_of v = items (children v)

-- the texts of a list of texts, and of a list of such lists
abbrev pub texts_of : Value → List Text
texts_of v = map text_of (items_of v)

abbrev pub lists_of : Value → List (List Text)
lists_of v = map texts_of (items_of v)

-- the number of a number text
abbrev pub number_of : Value → ℤ
number_of v = unwrap_or (read_number (text_of v)) (pos 0)

-- the depth that an input must have, where it matters
abbrev pub wanted_depth : Want → Option ℕ
wanted_depth want.Text = Some 0
wanted_depth want.Number = Some 0
wanted_depth want.Texts = Some 1
wanted_depth want.Lists = Some 2
wanted_depth want.Any = None

abbrev pub or_else : {A : Type 0} → Option A → Option A → Option A
or_else (Some a) o = Some a
or_else None o = o

-- NAME input K ..
abbrev pub about : Name → ℕ → Text → Text
about name k t = name ++ (codes " input " ++ (decimal k ++ t))

abbrev pub depth_complaint : Name → ℕ → Option ℕ → Value → Option Text
depth_complaint name k None v = None
depth_complaint name k (Some d) v = if has_depth v d then None
    else Some (about name k (codes " wants depth " ++ decimal d))

-- input k is an error or contains one, or lacks its depth
abbrev pub shape_complaint : Name → ℕ → Want → Value → Option Text
shape_complaint name k w v =
    if holds_fault v
    then Some (about name k (codes " holds an error"))
    else depth_complaint name k (wanted_depth w) v

-- input k must be a number and isn't
abbrev pub number_complaint : Name → ℕ → Want → Value → Option Text
number_complaint name k want.Number v = if is_some (read_number (text_of v)) then None
    else Some (about name k (codes " is no number"))
number_complaint name k w v = None

-- the first complaint of one kind, the inputs counted from k
abbrev pub first_of : (ℕ → Want → Value → Option Text) → ℕ → List Want → List Value → Option Text
first_of f k [] vs = None
first_of f k (w ∷ ws) [] = None
first_of f k (w ∷ ws) (v ∷ vs) = or_else (f k w v) (first_of f (suc k) ws vs)

-- another number of inputs than wanted, then their shapes in order, then their numbers in order
abbrev pub complaint : Name → List Want → List Value → Option Text
complaint name ws vs =
    if length vs == length ws
    then or_else (first_of (shape_complaint name) 1 ws vs) (first_of (number_complaint name) 1 ws
    vs)
    else Some (name ++ (codes " wants " ++ (decimal (length ws) ++ codes " inputs")))
