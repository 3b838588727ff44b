-- What feeds a port or an output of a flow, by numbers: each name by its position in byte order.
use Rattle.std.specs.Prelude.{ℕ, List, [], map}
use Rattle.std.specs.Option.{option_map_or}
use Rattle.tv_value.specs.Values.{Name}
use Rattle.tv_value.specs.Orders.{named}
use Rattle.tv_flow.specs.Flows.{Flow, Link, input, output, Feed, link, merge, constant}
use Rattle.tv_naming.specs.Numbers.{position}
use Rattle.tv_check.specs.declared.feeds.NumberedLink.{NumberedLink}
use Rattle.tv_check.specs.declared.feeds.NumberedLink.TheVariants.{Input, Output}
use Rattle.tv_check.specs.declared.feeds.NumberedFeed.{NumberedFeed}
use Rattle.tv_check.specs.declared.feeds.NumberedFeed.TheVariants as by_number

-- the outputs of the step of a name
abbrev pub outputs_of : Flow → Name → List (Name × ℕ)
outputs_of f s = option_map_or (λ t. t.outputs) (named s f.steps) []

abbrev pub link_numbered : Flow → Link → NumberedLink
link_numbered f (input x) = Input (position x f.inputs)
link_numbered f (output s p) = Output (position s f.steps) (position p (outputs_of f s))

abbrev pub feed_numbered : Flow → Feed → NumberedFeed
feed_numbered f (link l) = by_number.Link (link_numbered f l)
feed_numbered f (merge ls) = by_number.Merge (map (link_numbered f) ls)
feed_numbered f (constant v) = by_number.Constant
