use Rattle.std.specs.List.{list_any}
use Rattle.std.proofs.Common.{◌≡◌, false, take}
use Rattle.tv_telling.specs.endings.Feeds.{link_from}
use Rattle.tv_telling.proofs.endings.ports.some_is_from.Given as goal

abbrev pub invariant-loop-link : goal.invariant-loop-link
invariant-loop-link l = list_any (link_from l.step) (take l.link-index l.links) ≡ false
