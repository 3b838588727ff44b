use Rattle.tv_framing.proofs.starts.LawLemmas.{start-is_frame}
use Rattle.tv_framing.proofs.laws.starts.frames.Goals as goal

pub returns : goal.returns
returns c = start-is_frame
