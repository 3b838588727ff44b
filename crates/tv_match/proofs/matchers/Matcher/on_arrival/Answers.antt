use Rattle.tv_value.specs.Views.{strategy_view}
use Rattle.tv_match.proofs.Seeing.{fault-proper}
use Rattle.tv_match.proofs.matchers.Matcher.on_arrival.Goals as goal

pub tell-requires-clause-proper : goal.tell-requires-clause-proper
tell-requires-clause-proper c = fault-proper (strategy_view c.args.self.now.tree) c.requires.sound.keeps.suits.leaves_differ c.args.leaf c.as_slice.result.now c.requires.leaf
