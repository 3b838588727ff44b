use Rattle.std.proofs.Common.{◌≡◌, map, take}
use Rattle.tv_value.specs.Values.{text_value}
use Rattle.tv_value.specs.Views.{view}
use Rattle.tv_local.specs.Lists.{flat}
use Rattle.tv_local.specs.Reading.{texts_of}
use Rattle.tv_local.proofs.list.flat.Given as goal

abbrev pub invariant-loop-list : goal.invariant-loop-list
invariant-loop-list l = map view l.texts.items ≡ map text_value (flat (map texts_of (map view (take l.list-index l.lists))))
