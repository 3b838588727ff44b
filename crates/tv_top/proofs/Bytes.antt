-- JSON trees of bytes.
use Rattle.std.specs.Prelude.{◌≡◌, ℕ, List, refl, Bool, true, false, Some, None, if◌then◌else◌, IsUtf8}
use Rattle.std.specs.Str.{is_utf8}
use Rattle.std.proofs.Common.{ap, ◌∙◌}
use Rattle.std.proofs.lemmas.Str.{IsUtf8-from_is_utf8, is_utf8-from_IsUtf8}
use Rattle.serde_json.specs.Data.{Data}
use Rattle.serde_json.specs.Read.{read as read_text}
use Rattle.tv_top.specs.Answers.{json_of}

pub json_of-has : (bytes : List ℕ) (d : Data) → IsUtf8 bytes → read_text bytes ≡ Some d → json_of bytes ≡ Some d
json_of-has bytes d h e = ap (λ b. if b then read_text bytes else None) (is_utf8-from_IsUtf8 bytes h) ∙ e

by_utf8 : (bytes : List ℕ) (b : Bool) → is_utf8 bytes ≡ b → (IsUtf8 bytes → read_text bytes ≡ None) → (if b then read_text bytes else None) ≡ None
by_utf8 bytes true e h = h (IsUtf8-from_is_utf8 bytes e)
by_utf8 bytes false e h = refl

pub json_of-none : (bytes : List ℕ) → (IsUtf8 bytes → read_text bytes ≡ None) → json_of bytes ≡ None
json_of-none bytes h = by_utf8 bytes (is_utf8 bytes) refl h
