-- The eighteen services: their names, what each wants, and what each gives for inputs that are as it wants them.
use Rattle.std.specs.Prelude.{ℕ, List, [], ◌∷◌, ◌++◌, map, length, take, reverse, ◌^◌, nat_lt, nat_le, if◌then◌else◌, ℤ, pos, negsuc, ◌+ℤ◌, ◌-ℤ◌, Bool, codes, decimal}
use Rattle.std.specs.Fmt.{signed_decimal}
use Rattle.std.specs.Str.{chars}
use Rattle.std.specs.Char.{to_ascii_uppercase, to_ascii_lowercase}
use Rattle.tv_value.specs.Nested.{trees_of}
use Rattle.tv_value.specs.Values.{Text, Name, Value, text_value, list_value}
use Rattle.tv_value.specs.Orders.{same_name}
use Rattle.tv_gate.specs.Outcomes.{Outcome, good, bad}
use Rattle.tv_local.specs.Numbers.{number_limit, count_of, count_up, span}
use Rattle.tv_local.specs.Texts.{parts, joined}
use Rattle.tv_local.specs.Lists.{distinct, shared, flat}
use Rattle.tv_local.specs.Reading.{text_of, texts_of, lists_of, number_of}
use Rattle.tv_local.specs.declared.row.Want.{Want}
use Rattle.tv_local.specs.declared.row.Want.TheVariants as want
use Rattle.tv_local.specs.declared.row.Local.{Local}
use Rattle.tv_local.specs.declared.row.Local.TheVariants as local

-- the names
abbrev pub names : List (Name × Local)
names =
    (codes "add", local.Add)
    ∷ (codes "concat", local.Concat)
    ∷ (codes "count", local.Count)
    ∷ (codes "distinct", local.Distinct)
    ∷ (codes "echo", local.Echo)
    ∷ (codes "fail_if", local.FailIf)
    ∷ (codes "flaky", local.Flaky)
    ∷ (codes "flatten", local.Flatten)
    ∷ (codes "intersect", local.Intersect)
    ∷ (codes "join", local.Join)
    ∷ (codes "length", local.Length)
    ∷ (codes "lower", local.Lower)
    ∷ (codes "range", local.Range)
    ∷ (codes "reverse", local.Reverse)
    ∷ (codes "split", local.Split)
    ∷ (codes "subtract", local.Subtract)
    ∷ (codes "take", local.Take)
    ∷ (codes "upper", local.Upper)
    ∷ []

-- the inputs, in order of their ports' names
abbrev pub wants : Local → List Want
wants local.Add = want.Number ∷ want.Number ∷ []
wants local.Concat = want.Text ∷ want.Text ∷ []
wants local.Count = want.Texts ∷ []
wants local.Distinct = want.Texts ∷ []
wants local.Echo = want.Any ∷ []
wants local.FailIf = want.Text ∷ []
wants local.Flaky = want.Text ∷ want.Number ∷ []
wants local.Flatten = want.Lists ∷ []
wants local.Intersect = want.Texts ∷ want.Texts ∷ []
wants local.Join = want.Texts ∷ want.Text ∷ []
wants local.Length = want.Text ∷ []
wants local.Lower = want.Text ∷ []
wants local.Range = want.Number ∷ want.Number ∷ []
wants local.Reverse = want.Texts ∷ []
wants local.Split = want.Text ∷ want.Text ∷ []
wants local.Subtract = want.Number ∷ want.Number ∷ []
wants local.Take = want.Texts ∷ want.Number ∷ []
wants local.Upper = want.Text ∷ []

-- one output, a text or a list of texts
abbrev pub one_text : Text → Outcome
one_text t = good (text_value t ∷ [])

abbrev pub one_list : List Text → Outcome
one_list ts = good (list_value (trees_of (map text_value ts)) ∷ [])

abbrev pub one_number : ℤ → Outcome
one_number z = one_text (signed_decimal z)

-- more items than a list may have
abbrev pub list_limit : ℕ
list_limit = 2 ^ 32

abbrev pub list_below : Text → List Text → Outcome
list_below why ts = if nat_lt (length ts) list_limit then one_list ts else bad why

-- within the range of number texts
abbrev pub in_range : ℤ → Bool
in_range (pos n) = nat_lt n number_limit
in_range (negsuc n) = nat_lt n number_limit

abbrev pub number_or : Text → ℤ → Outcome
number_or why z = if in_range z then one_number z else bad why

abbrev pub split_by : Text → Text → Outcome
split_by t [] = bad (codes "split wants a separator")
split_by t (c ∷ s) = list_below (codes "split too long") (parts (c ∷ s) t)

abbrev pub range_limit : ℕ
range_limit = 100000

abbrev pub range_of : ℤ → ℤ → Outcome
range_of a b =
    if nat_le (span a b) range_limit
    then one_list (map signed_decimal (count_up a (span a b)))
    else bad (codes "range too long")

abbrev pub take_of : List Text → ℤ → Outcome
take_of ts (pos n) = one_list (take n ts)
take_of ts (negsuc n) = bad (codes "take wants a count")

abbrev pub fail_for : Text → Outcome
fail_for t = if same_name t (codes "true") then bad (codes "told to fail") else one_text t

-- a negative number of attempts is none
abbrev pub flaky_of : Text → ℤ → ℕ → Outcome
flaky_of t z n = if nat_le (count_of z) n then one_text t
    else bad (codes "flaky attempt " ++ decimal n)

-- services of one input
abbrev pub with_one : Local → Value → Outcome
with_one local.Upper v = one_text (map to_ascii_uppercase (text_of v))
with_one local.Lower v = one_text (map to_ascii_lowercase (text_of v))
with_one local.Reverse v = one_list (reverse (texts_of v))
with_one local.Length v = one_text (decimal (length (chars (text_of v))))
with_one local.Count v = one_text (decimal (length (texts_of v)))
with_one local.Flatten v = list_below (codes "flatten too long") (flat (lists_of v))
with_one local.Echo v = good (v ∷ [])
with_one local.Distinct v = one_list (distinct (texts_of v))
with_one local.FailIf v = fail_for (text_of v)
with_one k v = bad []

-- services of two inputs, and the number of the attempt
abbrev pub with_two : Local → Value → Value → ℕ → Outcome
with_two local.Concat v w n = one_text (text_of v ++ text_of w)
with_two local.Split v w n = split_by (text_of v) (text_of w)
with_two local.Join v w n = one_text (joined (text_of w) (texts_of v))
with_two local.Add v w n = number_or (codes "add out of range") (number_of v +ℤ number_of w)
with_two local.Subtract v w n =
    number_or (codes "subtract out of range") (number_of v -ℤ number_of w)
with_two local.Range v w n = range_of (number_of v) (number_of w)
with_two local.Take v w n = take_of (texts_of v) (number_of w)
with_two local.Intersect v w n = one_list (shared (texts_of v) (texts_of w))
with_two local.Flaky v w n = flaky_of (text_of v) (number_of w) n
with_two k v w n = bad []
