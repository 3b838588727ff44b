use Rattle.tv_words.proofs.Computed.{faults-are-refused, strangers-are-refused, numbers-are-refused}
use Rattle.tv_words.proofs.laws.worked_refusals.Goals as goal

pub returns-clause-faults : goal.returns-clause-faults
returns-clause-faults c = faults-are-refused

pub returns-clause-strangers : goal.returns-clause-strangers
returns-clause-strangers c = strangers-are-refused

pub returns-clause-numbers : goal.returns-clause-numbers
returns-clause-numbers c = numbers-are-refused
