use Rattle.std.proofs.Common.{◌≡◌, ◌++◌, flat_map, map, take}
use Rattle.tv_value.specs.Strategies.{Strategy}
use Rattle.tv_match.specs.Seen.{told_view}
use Rattle.tv_telling.specs.Views.{way_tellings, whole_telling}
use Rattle.tv_telling.proofs.events.tellings_with.Given as goal

abbrev pub invariant-loop-way : goal.invariant-loop-way
invariant-loop-way l = (s : Strategy) → map (told_view s) l.tellings.items ≡ flat_map (way_tellings s l.event) (take l.way-index l.ways)

abbrev pub invariant-loop-port : goal.invariant-loop-port
invariant-loop-port l =
    (s : Strategy)
    → map (told_view s) l.tellings.items
    ≡ flat_map (way_tellings s l.event) l.ways ++ map (whole_telling s) (take l.port-index l.whole)
