use Rattle.tv_outputs.proofs.Places.{places-have_nodes}
use Rattle.tv_outputs.proofs.laws.known_places.Goals as goal

pub returns : goal.returns
returns c = places-have_nodes
