use Rattle.tv_strategy.proofs.Ends.{split-of_end}
use Rattle.tv_strategy.proofs.ThereAll.{job-there}
use Rattle.tv_strategy.proofs.LawLemmas.{split-names_leaves, nothing-exactly}
use Rattle.tv_strategy.proofs.Joins.{joined-undoes}
use Rattle.tv_strategy.proofs.Returns.{joins-back}
use Rattle.tv_strategy.proofs.laws.places.Goals as goal

pub returns : goal.returns
returns c = record { ends = split-of_end; there = job-there; names = split-names_leaves; undoes = joined-undoes; none = nothing-exactly; back = joins-back }
