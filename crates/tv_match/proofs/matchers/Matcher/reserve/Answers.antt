use Rattle.tv_match.proofs.Unchanged.{count-copied}
use Rattle.tv_match.proofs.matchers.Matcher.reserve.Goals as goal

pub returns-clause-count : goal.returns-clause-count
returns-clause-count c = count-copied c.args.self.now c.in_ok-other.other c.in_ok-other.ensures.same c.args.told.now _ c.in_ok-count.ensures.count
