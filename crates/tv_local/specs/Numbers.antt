-- Number texts: an optional minus and one or more digits, in the range of 64-bit signed numbers.
use Rattle.std.specs.Prelude.{ℕ, ℤ, pos, negsuc, zero, suc, ◌^◌, ◌+ℤ◌, ◌-ℤ◌, neg_ℤ, List, [], ◌∷◌, Bool, ◌&&◌, not, ◌==◌, nat_lt, nat_le, if◌then◌else◌, Option, Some, None, drop, length, slice_index}
use Rattle.std.specs.Str.{all_ascii_digits}
use Rattle.std.specs.Str.Parse.{digits_value}
use Rattle.tv_value.specs.Values.{Text}

-- one or more ASCII digits
abbrev pub are_digits : Text → Bool
are_digits t = all_ascii_digits t && not (length t == 0)

-- one more than the greatest number, and the least with its sign changed
abbrev pub number_limit : ℕ
number_limit = 2 ^ 63

abbrev pub starts_with_minus : Text → Bool
starts_with_minus t = slice_index t 0 == 45

abbrev pub read_plain : Text → Option ℤ
read_plain ds = if are_digits ds && nat_lt (digits_value 10 ds) number_limit
    then Some (pos (digits_value 10 ds)) else None

abbrev pub read_negative : Text → Option ℤ
read_negative ds = if are_digits ds && nat_le (digits_value 10 ds) number_limit
    then Some (neg_ℤ (pos (digits_value 10 ds))) else None

-- the number of a number text; leading zeros are read
abbrev pub read_number : Text → Option ℤ
read_number t = if starts_with_minus t then read_negative (drop 1 t) else read_plain t

-- a negative number counts nothing
abbrev pub count_of : ℤ → ℕ
count_of (pos n) = n
count_of (negsuc n) = 0

-- so many numbers, from this one on
abbrev pub count_up : ℤ → ℕ → List ℤ
count_up z zero = []
count_up z (suc n) = z ∷ count_up (z +ℤ pos 1) n

-- how many numbers there are from one to another, both included
abbrev pub span : ℤ → ℤ → ℕ
span a b = count_of ((b -ℤ a) +ℤ pos 1)
