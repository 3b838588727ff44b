use Rattle.tv_history.proofs.AcceptedDocuments.{accepted-agrees}
use Rattle.tv_history.proofs.agreement.accepted_documents_agree.Goals as goal

pub returns : goal.returns
returns c = λ d f a. accepted-agrees d f a
