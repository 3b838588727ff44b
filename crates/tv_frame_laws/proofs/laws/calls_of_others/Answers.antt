use Rattle.tv_frame_laws.proofs.Frames.{given_up-keeps, others-calls_keep, refusals-keep, releases-keep, rooms-keep, same-keeps, starts-keep}
use Rattle.tv_frame_laws.proofs.laws.calls_of_others.Goals as goal

pub returns : goal.returns
returns c = record {
  calls = others-calls_keep;
  rooms = rooms-keep;
  same = same-keeps;
  starts = starts-keep;
  refusals = refusals-keep;
  given_up = given_up-keeps;
  releases = releases-keep;
}
