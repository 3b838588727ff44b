use Rattle.tv_matching.proofs.LawLemmas.{matches-known, matches-only_known, matches-all_known, nodes-stand, places-have_nodes}
use Rattle.tv_matching.proofs.laws.matches_iteration.Goals as goal

pub returns : goal.returns
returns c = record { whole = matches-known; only = matches-only_known; all = matches-all_known; nodes = nodes-stand; places = places-have_nodes }
