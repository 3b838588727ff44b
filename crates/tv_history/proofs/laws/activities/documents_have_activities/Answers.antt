use Rattle.tv_history.proofs.activities.Read.{documents-have_activities}
use Rattle.tv_history.proofs.laws.activities.documents_have_activities.Goals as goal

pub returns : goal.returns
returns c = λ d h. documents-have_activities d h
