use Rattle.tv_history.proofs.Closings.{no-closing}
use Rattle.tv_history.proofs.order.laws.offers_read_no_closing.Goals as goal

pub returns : goal.returns
returns c = λ gives m past j. no-closing gives m past j
