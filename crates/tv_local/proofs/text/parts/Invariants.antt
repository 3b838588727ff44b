use Rattle.std.proofs.Common.{◌≡◌, ◌++◌, map, length}
use Rattle.std.specs.Str.{IsUtf8}
use Rattle.tv_value.specs.Values.{text_value}
use Rattle.tv_value.specs.Views.{view}
use Rattle.tv_local.specs.Texts.{parts}
use Rattle.tv_local.proofs.text.parts.Given as goal

abbrev pub invariant-loop-part : goal.invariant-loop-part
invariant-loop-part l = IsUtf8 l.rest × (map view l.parts.items ++ map text_value (parts l.by l.rest) ≡ map text_value (parts l.by l.text))

abbrev pub decreases-loop-part : goal.decreases-loop-part
decreases-loop-part l = length l.rest
