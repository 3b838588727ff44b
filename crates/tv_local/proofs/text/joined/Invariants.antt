use Rattle.std.proofs.Common.{◌≡◌, ◌∷◌, map, take}
use Rattle.std.specs.String.{string_bytes}
use Rattle.tv_value.specs.Views.{view}
use Rattle.tv_local.specs.Reading.{text_of}
use Rattle.tv_local.specs.Texts.{joined}
use Rattle.tv_local.proofs.text.joined.Given as goal

abbrev pub invariant-loop-value : goal.invariant-loop-value
invariant-loop-value l = string_bytes l.text ≡ joined l.between (string_bytes l.initial.text ∷ map text_of (map view (take l.value-index l.others)))
