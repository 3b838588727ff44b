-- What stands inside a text.
use Rattle.std.specs.Prelude.{List, string_bytes, ℕ}
use Rattle.tv_value.specs.declared.text.Inside.{Inside}
use Rattle.tv_value.specs.declared.text.Inside.TheVariants as inside

-- its bytes, in UTF-8
abbrev pub bytes_of : Inside → List ℕ
bytes_of (inside.Short s) = s.bytes
bytes_of (inside.Long s) = string_bytes s
