use Rattle.tv_board.proofs.Lived.{results-have_nodes}
use Rattle.tv_board.proofs.laws.results.Goals as goal

pub returns : goal.returns
returns c = results-have_nodes
