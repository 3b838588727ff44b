use Rattle.tv_framing.proofs.feeds.Coming.{next-makes_frame, taking-makes_frame}
use Rattle.tv_framing.proofs.laws.feeds.coming.Goals as goal

pub returns : goal.returns
returns c = record { next = next-makes_frame; taking = taking-makes_frame }
