use Rattle.tv_gate.specs.CallLaws.{equal-same, same-equal}
use Rattle.tv_gate.proofs.Given.{given-decided, outcomes-decided}
use Rattle.tv_gate.proofs.laws.sameness.Goals as goal

pub returns : goal.returns
returns c = record { calls = λ c d. (same-equal c d, equal-same c d); outcomes = outcomes-decided; given = given-decided }
