use Rattle.std.proofs.Common.{◌≡◌, map, take}
use Rattle.tv_flow.specs.Views.{flow_view, feed_view}
use Rattle.tv_check.specs.Feeds.{feed_numbered}
use Rattle.tv_check.proofs.feeds.outputs_numbered.Given as goal

abbrev pub invariant-loop-feed : goal.invariant-loop-feed
invariant-loop-feed l = l.feeds.items ≡ map (λ x. feed_numbered (flow_view l.flow) (feed_view x.1)) (take l.feed-index l.feed-items)
