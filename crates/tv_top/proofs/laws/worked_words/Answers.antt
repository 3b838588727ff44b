use Rattle.tv_top.proofs.Computed.{takes_commands, takes_nothing_else}
use Rattle.tv_top.proofs.laws.worked_words.Goals as goal

pub returns-clause-commands : goal.returns-clause-commands
returns-clause-commands c = takes_commands

pub returns-clause-other : goal.returns-clause-other
returns-clause-other c = takes_nothing_else
