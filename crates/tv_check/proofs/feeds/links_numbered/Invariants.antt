use Rattle.std.proofs.Common.{◌≡◌, map, take}
use Rattle.tv_flow.specs.Views.{flow_view, link_view}
use Rattle.tv_check.specs.Feeds.{link_numbered}
use Rattle.tv_check.proofs.feeds.links_numbered.Given as goal

abbrev pub invariant-loop-link : goal.invariant-loop-link
invariant-loop-link l = l.numbered.items ≡ map (λ x. link_numbered (flow_view l.flow) (link_view x)) (take l.link-index l.link-items)
