-- The numbers that stand among the words: decimal texts, without sign and leading zero.
use Rattle.std.specs.Prelude.{ℕ, ◌&&◌, Bool, Option, Some, None, decimal, nat_le, if◌then◌else◌}
use Rattle.std.specs.Str.Parse.{digits_value}
use Rattle.tv_value.specs.Values.{Text}
use Rattle.tv_value.specs.Orders.{same_name}

-- the text is what is written for the number
abbrev pub writes : ℕ → Text → Bool
writes n t = same_name t (decimal n)

-- the number from `least` to `most` that the text writes
abbrev pub number_between : ℕ → ℕ → Text → Option ℕ
number_between least most t =
    let n = digits_value 10 t in
    if writes n t && (nat_le least n && nat_le n most) then Some n else None

-- a count of workers
abbrev pub count_of : Text → Option ℕ
count_of = number_between 1 64

-- which generated document is wanted
abbrev pub number_of : Text → Option ℕ
number_of = number_between 1 200
