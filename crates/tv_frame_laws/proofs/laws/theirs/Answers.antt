use Rattle.tv_frame_laws.proofs.Theirs.{first-theirs, theirs-called, theirs-given_up, theirs-only, theirs-refused, theirs-released, theirs-started}
use Rattle.tv_frame_laws.proofs.laws.theirs.Goals as goal

pub returns : goal.returns
returns c = record {
  first = first-theirs;
  called = theirs-called;
  started = theirs-started;
  refused = theirs-refused;
  given_up = theirs-given_up;
  released = theirs-released;
  only = theirs-only;
}
