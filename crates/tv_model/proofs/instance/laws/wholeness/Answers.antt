use Rattle.tv_model.proofs.LawLemmas.{lists-are_whole_by_count, outputs-are_whole}
use Rattle.tv_model.proofs.instance.laws.wholeness.Goals as goal

pub returns : goal.returns
returns c = record { outputs = outputs-are_whole; lists = lists-are_whole_by_count }
