use Rattle.std.specs.List.{list_all}
use Rattle.std.proofs.Common.{◌≡◌, true, take}
use Rattle.tv_telling.specs.endings.Ends.{is_whole}
use Rattle.tv_telling.specs.endings.Feeds.{link_whole, with_step}
use Rattle.tv_telling.proofs.endings.ports.links_are_whole.Given as goal

abbrev pub invariant-loop-link : goal.invariant-loop-link
invariant-loop-link l = list_all (link_whole (with_step (is_whole l.endings) l.step)) (take l.link-index l.links) ≡ true
