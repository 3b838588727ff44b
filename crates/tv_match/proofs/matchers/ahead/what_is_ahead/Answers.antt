use Rattle.tv_match.proofs.AllMade.{ahead-matched, none-ahead}
use Rattle.tv_match.proofs.matchers.ahead.what_is_ahead.Goals as goal

pub returns-clause-matched : goal.returns-clause-matched
returns-clause-matched c = ahead-matched

pub returns-clause-none : goal.returns-clause-none
returns-clause-none c = none-ahead
