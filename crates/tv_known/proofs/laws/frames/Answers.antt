use Rattle.tv_known.proofs.Here.{frames-are_of_open, open_instances-have_frames}
use Rattle.tv_known.proofs.laws.frames.Goals as goal

pub returns : goal.returns
returns c = record { have = open_instances-have_frames; only = frames-are_of_open }
