use Rattle.tv_words.proofs.Computed.{runs-are-given, others-are-given}
use Rattle.tv_words.proofs.laws.worked_commands.Goals as goal

pub returns-clause-runs : goal.returns-clause-runs
returns-clause-runs c = runs-are-given

pub returns-clause-others : goal.returns-clause-others
returns-clause-others c = others-are-given
