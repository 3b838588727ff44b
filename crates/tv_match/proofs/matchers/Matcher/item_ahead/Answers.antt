use Rattle.tv_match.proofs.FaultsAhead.{ahead-faulty}
use Rattle.tv_match.proofs.matchers.Matcher.item_ahead.Goals as goal

pub returns-clause-faulty : goal.returns-clause-faulty
returns-clause-faulty c sound can = ahead-faulty c.args.self.now sound can c.args.at c.requires c.kind.result c.place.result.now c.kind.ensures c.place.ensures
