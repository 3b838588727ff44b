use Rattle.tv_history.proofs.Stuck.{never-stuck}
use Rattle.tv_history.proofs.laws.is_never_stuck.Goals as goal

pub returns : goal.returns
returns c = λ gives d past w s. never-stuck gives d w past s.legal s.not_done s.none_out s.quiet s.none_opens
