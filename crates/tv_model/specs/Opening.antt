-- Which flow a job of a step can open.
use Rattle.std.specs.Prelude.{List, None, Option, Some, [], ◌∷◌}
use Rattle.tv_value.specs.Activities.{Activity, nested, service}
use Rattle.tv_value.specs.Values.{Name}

-- the first nested activity: it ends the tries, so that no later one is reached
abbrev pub first_nested : List Activity → Option Name
first_nested [] = None
first_nested (service s ∷ as') = first_nested as'
first_nested (nested f ∷ as') = Some f
