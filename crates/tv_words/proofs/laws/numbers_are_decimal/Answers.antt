use Rattle.std.proofs.Common.{arith}
use Rattle.tv_words.proofs.Numbers.{reads-from}
use Rattle.tv_words.proofs.laws.numbers_are_decimal.Goals as goal

pub returns-clause-counts : goal.returns-clause-counts
returns-clause-counts c = reads-from 1 64 (omega arith)

pub returns-clause-numbers : goal.returns-clause-numbers
returns-clause-numbers c = reads-from 1 200 (omega arith)
