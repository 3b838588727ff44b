use Rattle.tv_flow.specs.Views.{flow_view}
use Rattle.tv_traces.specs.Feeds.{element_parts, node_parts}
use Rattle.tv_traces.specs.Views.{shapes_view}
use Rattle.tv_traces.proofs.Telling.{no-link, none-pushed}
use Rattle.tv_traces.proofs.feeds.push_feed_parts.Goals as goal

pub returns-in-None : goal.returns-in-None
returns-in-None c = none-pushed _ _ (no-link element_parts node_parts (flow_view c.args.shown.now.flow.now) (shapes_view c.args.shown.now.shapes.now) c.args.feed.now c.in-Merge.links c.as_slice-in-len1-up.result.now c.in-Merge.is c.as_slice-in-len1-up.ensures c.args.place.now c.in-len1-up.len_at_least c.in-None.ensures.lookup.3)
