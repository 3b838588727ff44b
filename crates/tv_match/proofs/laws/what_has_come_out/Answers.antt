use Rattle.tv_match.proofs.LawLemmas.{gives-only_known, gives-once, gives-all_known, more-is_left, order-is_known, all-at_the_end}
use Rattle.tv_match.proofs.laws.what_has_come_out.Goals as goal

pub returns : goal.returns
returns c = record { known = gives-only_known; once = gives-once; all = gives-all_known; more = more-is_left; order = order-is_known; end = all-at_the_end }
