use Rattle.tv_history.proofs.activities.Few.{activities-few}
use Rattle.tv_history.proofs.laws.activities.activities_are_few.Goals as goal

pub returns : goal.returns
returns c = λ gives d h j i a k. activities-few gives d h j i a k
