use Rattle.std.proofs.Common.{◌∙◌, ap, sym, map}
use Rattle.std.proofs.lemmas.List.{take_all}
use Rattle.std.proofs.lemmas.Simd.{map-map}
use Rattle.tv_flow.specs.Views.{feed_view, flow_view}
use Rattle.tv_check.specs.Feeds.{feed_numbered}
use Rattle.tv_check.proofs.feeds.outputs_numbered.Goals as goal

pub returns : goal.returns
returns c =
    let f = flow_view c.args.flow.now in
    c.of.ensures
    ∙ c.loop-feed.invariant
    ∙ ap (map (λ x. feed_numbered f (feed_view x.1))) (take_all c.loop-feed.feed-index c.as_slice-feed-items.result.now c.loop-feed-test.false ∙ c.as_slice-feed-items.ensures)
    ∙ sym (map-map (λ o. feed_numbered f o.1) (λ x. (x.0, feed_view x.1)) c.args.outputs.now)
