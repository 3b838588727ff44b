use Rattle.tv_history.proofs.Chain.{open-few, open-nested}
use Rattle.tv_history.proofs.order.laws.one_chain.Goals as goal

pub returns : goal.returns
returns c = record {
  nested = λ gives d f base es a j k i h p q. open-nested gives d f base a.idle es a.legal a.by_one j k i h p q;
  short = λ gives d f nests base es a. open-few gives d f base a.idle es a.legal a.by_one nests;
}
