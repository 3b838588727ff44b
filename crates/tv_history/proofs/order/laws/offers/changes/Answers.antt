use Rattle.tv_history.proofs.offers.Changes.{accepting, bouncing, ending, handing, opening, recalling, settling}
use Rattle.tv_history.proofs.order.laws.offers.changes.Goals as goal

pub returns : goal.returns
returns c = record {
  handed_out = λ a t gives d past j i l. handing gives d past j i a t l;
  accepted = λ a t r gives d past j i l. accepting gives d past j i a t r l;
  bounced = λ gives d past j i l. bouncing gives d past j i l;
  opened = λ gives d past j i l. opening gives d past j i l;
  ended = λ gives d past j i l. ending gives d past j i l;
  recalled = λ gives d past n l k i. recalling gives d past k i n;
  settled = λ gives d past e h l k i. settling gives d past k i e h;
}
