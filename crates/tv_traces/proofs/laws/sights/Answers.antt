use Rattle.tv_traces.proofs.LawLemmas.{main-is_known, so_far-is_seen, whole-is_seen}
use Rattle.tv_traces.proofs.laws.sights.Goals as goal

pub returns : goal.returns
returns c = record { whole = whole-is_seen; so_far = so_far-is_seen; known = main-is_known }
