use Rattle.tv_top.proofs.Requests.{others-ask-nothing, others-not-asked, refusals-ask-nothing}
use Rattle.tv_top.proofs.laws.others_ask_nothing.Goals as goal

pub returns-clause-others : goal.returns-clause-others
returns-clause-others c = others-ask-nothing

pub returns-clause-refusals : goal.returns-clause-refusals
returns-clause-refusals c = refusals-ask-nothing

pub returns-clause-not_asked : goal.returns-clause-not_asked
returns-clause-not_asked c = others-not-asked
