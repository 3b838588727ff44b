-- Elements as words tell them: a port's name, and a place in brackets, as out[1,0].
use Rattle.std.specs.Prelude.{Bool, List, None, Option, Some, [], false, if◌then◌else◌, nat_lt, not, option_and_then, option_map, ℕ, ◌&&◌, ◌==◌, ◌^◌, ◌∷◌}
use Rattle.std.specs.Char.{is_ascii_digit}
use Rattle.std.specs.List.{slice_split}
use Rattle.std.specs.Str.{all_ascii_digits}
use Rattle.std.specs.Str.Parse.{digits_value}
use Rattle.tv_value.specs.Nested.{Place}
use Rattle.tv_value.specs.Values.{Name, Text}
use Rattle.tv_flow.specs.Forms.{is_name}

-- ---- indices

-- a digit, or several of which the first isn't `0`
abbrev pub is_plain : Text → Bool
is_plain [] = false
is_plain (d ∷ []) = is_ascii_digit d
is_plain (d ∷ e ∷ ds) = not (d == 48) && all_ascii_digits (d ∷ e ∷ ds)

-- below 2^32
abbrev pub index_of : Text → Option ℕ
index_of t = if is_plain t && nat_lt (digits_value 10 t) (2 ^ 32) then Some (digits_value 10 t)
    else None

abbrev pub indices_of : List Text → Option Place
indices_of [] = Some []
indices_of (t ∷ ts) = option_and_then (λ i. option_map (λ q. i ∷ q) (indices_of ts)) (index_of t)

-- nothing, or indices with a comma between each two
abbrev pub place_of : Text → Option Place
place_of [] = Some []
place_of (b ∷ bs) = indices_of (slice_split (λ c. c == 44) (b ∷ bs))

-- ---- brackets

-- what stands before the first `[`, and what after it
abbrev pub opened : Text → Option (Text × Text)
opened [] = None
opened (b ∷ bs) = if b == 91 then Some ([], bs) else option_map (λ p. (b ∷ p.0, p.1)) (opened bs)

-- what stands before a `]` at the end
abbrev pub closed : Text → Option Text
closed [] = None
closed (b ∷ []) = if b == 93 then Some [] else None
closed (b ∷ c ∷ bs) = option_map (λ t. b ∷ t) (closed (c ∷ bs))

-- what stands before the brackets, and what between them
abbrev pub bracketed : Text → Option (Text × Text)
bracketed t = option_and_then (λ p. option_map (λ inside. (p.0, inside)) (closed p.1)) (opened t)

-- ---- elements

abbrev pub at_place : Text × Text → Option (Name × Place)
at_place p = if is_name p.0 then option_map (λ q. (p.0, q)) (place_of p.1) else None

-- the element that a text tells, if it is one
abbrev pub element_of : Text → Option (Name × Place)
element_of t = option_and_then at_place (bracketed t)
