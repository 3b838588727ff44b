use Rattle.std.proofs.Common.{◌≡◌, ◌++◌, map, take}
use Rattle.tv_value.specs.Values.{text_value}
use Rattle.tv_value.specs.Views.{view}
use Rattle.tv_local.specs.Reading.{text_of}
use Rattle.tv_local.proofs.list.push_texts.Given as goal

abbrev pub invariant-loop-value : goal.invariant-loop-value
invariant-loop-value l = map view l.texts.items ≡ map view l.initial.texts.items ++ map text_value (map text_of (map view (take l.value-index l.values)))
